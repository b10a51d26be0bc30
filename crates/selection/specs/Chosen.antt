-- What a plan chooses of the tables that were found in its inputs, and the faults of the choice (profile).
use Rattle.std.specs.Prelude.{◌≡◌, ℕ, ◌==◌, Bool, not, ◌&&◌, ◌||◌, if◌then◌else◌, List, [], ◌∷◌, map, Option, None, is_none, option_map, option_and_then, slice_get, filter, find}
use Rattle.std.specs.List.{All, list_any, filter_map}
use Rattle.tables.specs.Descriptors.{descriptors_of}
use Rattle.tables.specs.CaDescriptor.{has_ca_tag}
use Rattle.tables.specs.ServiceDescriptor.{first_service_of}
use Rattle.tables.specs.Pmt.{PmtValue}
use Rattle.tables.specs.declared.pmt_row.PmtRow.{PmtRow}
use Rattle.tables.specs.declared.sdt_row.SdtRow.{SdtRow}
use Rattle.tables.specs.Sdt.{IsSdtRow}
use Rattle.acquire.specs.Findings.{Findings}
use Rattle.request.specs.declared.stream.Stream.{Stream}
use Rattle.request.specs.Request.{RequestValue, ServiceValue}

-- the programs that are wanted of an input, in the order of the services
abbrev pub programs_of : RequestValue → ℕ → List ℕ
programs_of r input = map (λ (s : ServiceValue). s.program) (filter (λ (s : ServiceValue). s.input == input) r.services)

-- what stands beside the first of these programs that is the wanted one
abbrev pub beside : ℕ → List ℕ → List (Option PmtValue) → Option PmtValue
beside program [] pmts = None
beside program (p ∷ programs) [] = None
beside program (p ∷ programs) (pmt ∷ pmts) = if p == program then pmt else beside program programs pmts

-- the input's PMT of a service; what was found stands in the order of the inputs
abbrev pub found_pmt : RequestValue → List Findings → ServiceValue → Option PmtValue
found_pmt r found s = option_and_then (λ (f : Findings). beside s.program (programs_of r s.input) f.pmts) (slice_get found s.input)

-- the input's SDT row of a service: the first with its program as service_id
abbrev pub row_of_program : ℕ → List SdtRow → Option SdtRow
row_of_program program rows = find (λ (row : SdtRow). row.service_id == program) rows

abbrev pub found_row : List Findings → ServiceValue → Option SdtRow
found_row found s = option_and_then (row_of_program s.program) (option_and_then (λ (f : Findings). f.sdt) (slice_get found s.input))

-- service_type of the first service descriptor in the row whose lengths fill it
abbrev pub service_type_of : SdtRow → Option ℕ
service_type_of row = option_map (λ d. d.service_type) (first_service_of (descriptors_of 0 row.descriptors))

-- a service of the plan with what its input says of it
pub record ChosenValue : Type 0 where
  pub service : ServiceValue
  pub pmt : PmtValue
  pub row : SdtRow
  pub service_type : ℕ

abbrev pub chosen_with_row : ServiceValue → PmtValue → SdtRow → Option ChosenValue
chosen_with_row s pmt row = option_map (λ kind. record { service = s; pmt = pmt; row = row; service_type = kind }) (service_type_of row)

abbrev pub chosen_service : RequestValue → List Findings → ServiceValue → Option ChosenValue
chosen_service r found s = option_and_then (λ pmt. option_and_then (chosen_with_row s pmt) (found_row found s)) (found_pmt r found s)

-- the services in the order of the plan; all of them where there is no NoProgram and no NoSdtRow
abbrev pub chosen_of : RequestValue → List Findings → List ChosenValue
chosen_of r found = filter_map (chosen_service r found) r.services

-- one for each service of the request, in its order
abbrev pub AreServicesOf : RequestValue → List ChosenValue → Type 0
AreServicesOf r chosen = map (λ (c : ChosenValue). c.service) chosen ≡ r.services

-- their rows are rows of an SDT
abbrev pub AreInputRows : List ChosenValue → Type 0
AreInputRows chosen = All (λ (c : ChosenValue). IsSdtRow c.row) chosen

-- ---- faults

-- the PAT has no such program, or its PMT was not found
abbrev pub lacks_program : RequestValue → List Findings → ServiceValue → Bool
lacks_program r found s = is_none (found_pmt r found s)

-- there is no row, or no service descriptor in it whose lengths fill it
abbrev pub lacks_row : List Findings → ServiceValue → Bool
lacks_row found s = is_none (option_and_then service_type_of (found_row found s))

abbrev pub has_ca : List ℕ → Bool
has_ca descriptors = has_ca_tag (descriptors_of 0 descriptors)

-- a CA descriptor of the program or of one of its streams, or free_CA_mode
unfoldable pub is_scrambled : ChosenValue → Bool
is_scrambled c = (has_ca c.pmt.program_info || list_any (λ (row : PmtRow). has_ca row.descriptors) c.pmt.rows) || c.row.free_ca_mode

-- the streams of a service, by their numbers
abbrev pub streams_of : RequestValue → ServiceValue → List Stream
streams_of r s = filter_map (λ n. slice_get r.streams n) s.streams

abbrev pub is_named : List Stream → ℕ → Bool
is_named streams pid = list_any (λ (s : Stream). s.pid == pid) streams

abbrev pub is_elementary : PmtValue → ℕ → Bool
is_elementary pmt pid = list_any (λ (row : PmtRow). row.elementary_pid == pid) pmt.rows

-- PCR_PID where a program has no PCR
abbrev pub no_pcr_pid : ℕ
no_pcr_pid = 0x1FFF

-- an elementary PID, or a PCR PID, that no row of the service names
unfoldable pub lacks_rate : List Stream → PmtValue → Bool
lacks_rate streams pmt =
    list_any (λ (row : PmtRow). not (is_named streams row.elementary_pid)) pmt.rows
    || (not (pmt.pcr_pid == no_pcr_pid) && not (is_named streams pmt.pcr_pid))

-- a row of the service whose PID the PMT doesn't name
unfoldable pub has_unknown_stream : List Stream → PmtValue → Bool
has_unknown_stream streams pmt = list_any (λ (s : Stream). not (is_elementary pmt s.pid) && not (pmt.pcr_pid == s.pid)) streams
