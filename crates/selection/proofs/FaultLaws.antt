-- The faults of the chosen services, by tests of the lists as they lie in memory.
use Rattle.std.proofs.Common.{◌≡◌, sym, ℕ, ◌==◌, not, ◌&&◌, ◌||◌, if◌then◌else◌, List, None, Some, map, slice_get, ap, ◌∙◌}
use Rattle.std.specs.List.{list_any, filter_map}
use Rattle.acquire.specs.Findings.{Findings}
use Rattle.tables.specs.Pmt.{PmtValue}
use Rattle.tables.specs.declared.pmt_row.PmtRow.{PmtRow}
use Rattle.request.specs.declared.plan_fault.PlanFault.TheVariants.{NoProgram, NoSdtRow, CaFound, RateMissing, StreamUnknown}
use Rattle.request.specs.declared.stream.Stream.{Stream}
use Rattle.request.specs.Request.{RequestValue, ServiceValue}
use Rattle.request.specs.Request.{service_value}
use Rattle.request.specs.declared.service.Service.{Service}
use Rattle.selection.specs.Chosen.{lacks_program, lacks_row, is_scrambled, is_elementary, no_pcr_pid, lacks_rate, has_unknown_stream}
use Rattle.selection.specs.ChosenView.{chosen_value}
use Rattle.selection.specs.Faults.{choice_fault_of, program_fault_of}
use Rattle.selection.specs.ByNumber.{is_named_by, has_unknown_by}
use Rattle.selection.specs.declared.chosen_service.ChosenService.{ChosenService}
use Rattle.selection.proofs.TestLaws.{any_filter_map, any_map}

pub lacks_rate_by : (streams : List Stream) (numbers : List ℕ) (pmt : PmtValue) →
    lacks_rate (filter_map (λ n. slice_get streams n) numbers) pmt
    ≡ (list_any (λ (row : PmtRow). not (is_named_by streams numbers row.elementary_pid)) pmt.rows
    || (not (pmt.pcr_pid == no_pcr_pid) && not (is_named_by streams numbers pmt.pcr_pid)))
unfolding lacks_rate
lacks_rate_by streams numbers pmt = simp any_filter_map

unknown_by : (streams : List Stream) (numbers : List ℕ) (pmt : PmtValue) →
    has_unknown_stream (filter_map (λ n. slice_get streams n) numbers) pmt ≡ has_unknown_by streams numbers pmt
unfolding has_unknown_stream
unknown_by streams numbers pmt = any_filter_map (λ (s : Stream). not (is_elementary pmt s.pid) && not (pmt.pcr_pid == s.pid)) (λ n. slice_get streams n) numbers

pub program_fault_by : (r : RequestValue) (chosen : List ChosenService) →
    program_fault_of r (map chosen_value chosen)
    ≡ (if list_any (λ (c : ChosenService). is_scrambled (chosen_value c)) chosen then Some CaFound
    else if list_any (λ (c : ChosenService). lacks_rate (filter_map (λ n. slice_get r.streams n) c.service.now.streams.items) c.pmt.now) chosen then Some RateMissing
    else if list_any (λ (c : ChosenService). has_unknown_by r.streams c.service.now.streams.items c.pmt.now) chosen then Some StreamUnknown
    else None)
unfolding program_fault_of
program_fault_by r chosen = simp (any_map, unknown_by)

pub choice_fault_by : (r : RequestValue) (found : List Findings) (services : List Service) → map service_value services ≡ r.services →
    choice_fault_of r found
    ≡ (if list_any (λ (s : Service). lacks_program r found (service_value s)) services then Some NoProgram
    else if list_any (λ (s : Service). lacks_row found (service_value s)) services then Some NoSdtRow
    else None)
unfolding choice_fault_of
choice_fault_by r found services e =
    ap (λ (xs : List ServiceValue). if list_any (lacks_program r found) xs then Some NoProgram else if list_any (lacks_row found) xs then Some NoSdtRow else None) (sym e)
    ∙ simp any_map
