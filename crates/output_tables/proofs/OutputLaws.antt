-- The fields of the output's tables have their widths.
use Rattle.std.proofs.Common.{arith, ◌≡◌, ℕ, ◌^◌, ◌<◌, ◌==◌, List, ◌∷◌, length, map, sym, ap, ◌∙◌, Option, Some, None}
use Rattle.std.specs.Prelude.{IfSome, find}
use Rattle.std.specs.List.{All}
use Rattle.std.proofs.lemmas.List.{length-map}
use Rattle.std.proofs.lemmas.List.Elements.{All-cons, All-map, All-same, All-weaker}
use Rattle.tables.specs.Pat.{IsPatRow}
use Rattle.tables.specs.Pmt.{IsPmtRow}
use Rattle.tables.specs.declared.pmt_row.PmtRow.{PmtRow}
use Rattle.request.specs.Request.{RequestValue, ServiceValue, IsRequest, IsService, IsStream}
use Rattle.request.specs.declared.stream.Stream.{Stream}
use Rattle.selection.specs.Chosen.{ChosenValue, streams_of}
use Rattle.output_tables.specs.Output.{pat_row_of_service, output_pid_of, mapped_pid, mapped_row}
use Rattle.selection.specs.Chosen.{AreServicesOf}
use Rattle.output_tables.proofs.ListLaws.{all_unmapped, found_has, all_got}

-- each chosen service is one of the request
pub are_services : (r : RequestValue) (chosen : List ChosenValue) → IsRequest r → AreServicesOf r chosen → All (λ (c : ChosenValue). IsService (length r.inputs) (length r.streams) c.service) chosen
are_services r chosen h e =
    let P : ServiceValue → Type 0 = IsService (length r.inputs) (length r.streams) in
    all_unmapped (λ (c : ChosenValue). c.service) P chosen (All-same P (map (λ (c : ChosenValue). c.service) chosen) r.services e h.services)

pub pat_rows_fit : (r : RequestValue) (chosen : List ChosenValue) → IsRequest r → AreServicesOf r chosen → All IsPatRow (record { program_number = 0; pid = 0x0010 } ∷ map pat_row_of_service chosen)
pat_rows_fit r chosen h e =
    let fits : (c : ChosenValue) → IsService (length r.inputs) (length r.streams) c.service → IsPatRow (pat_row_of_service c) =
    λ c s. record { program_number = omega (arith, s.service); pid = omega (arith, s.pmt) } in
    All-cons IsPatRow (record { program_number = 0; pid = 0x0010 }) (map pat_row_of_service chosen) (record { program_number = omega arith; pid = omega arith })
    (All-map IsPatRow pat_row_of_service chosen (All-weaker (λ (c : ChosenValue). IsService (length r.inputs) (length r.streams) c.service) (λ c. IsPatRow (pat_row_of_service c)) fits chosen (are_services r chosen h e)))

-- an output PID has 13 bits
pub mapped_fits : (r : RequestValue) (s : ServiceValue) (pid : ℕ) → IsRequest r → mapped_pid (streams_of r s) pid < 2 ^ 13
mapped_fits r s pid h =
    some_fits (length r.inputs) (find (λ (stream : Stream). stream.pid == pid) (streams_of r s))
    (found_has (IsStream (length r.inputs)) (λ (stream : Stream). stream.pid == pid) (streams_of r s) (all_got (IsStream (length r.inputs)) r.streams s.streams h.streams))
  where
    some_fits : (n : ℕ) (o : Option Stream) → IfSome o (IsStream n) → output_pid_of o < 2 ^ 13
    some_fits n None h = omega arith
    some_fits n (Some stream) h = omega (arith, h.output_pid)

pub pmt_rows_fit : (r : RequestValue) (s : ServiceValue) (rows : List PmtRow) → IsRequest r → All IsPmtRow rows → All IsPmtRow (map (mapped_row (streams_of r s)) rows)
pmt_rows_fit r s rows h a =
    let fits : (row : PmtRow) → IsPmtRow row → IsPmtRow (mapped_row (streams_of r s) row) =
    λ row w. record { stream_type = w.stream_type; elementary_pid = mapped_fits r s row.elementary_pid h; descriptors = w.descriptors } in
    All-map IsPmtRow (mapped_row (streams_of r s)) rows (All-weaker IsPmtRow (λ row. IsPmtRow (mapped_row (streams_of r s) row)) fits rows a)

-- there are as many as the request has, at least one and at most 16
pub count_of : (r : RequestValue) (chosen : List ChosenValue) → AreServicesOf r chosen → length chosen ≡ length r.services
count_of r chosen e = sym (length-map chosen (λ (c : ChosenValue). c.service)) ∙ ap length e
