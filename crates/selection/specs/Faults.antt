-- The faults of what a plan chooses, the one of the least number first (profile).
use Rattle.std.specs.Prelude.{List, Option, Some, None, if◌then◌else◌}
use Rattle.std.specs.List.{list_any}
use Rattle.acquire.specs.Findings.{Findings}
use Rattle.request.specs.declared.plan_fault.PlanFault.{PlanFault}
use Rattle.request.specs.declared.plan_fault.PlanFault.TheVariants.{NoProgram, NoSdtRow, CaFound, RateMissing, StreamUnknown}
use Rattle.request.specs.Request.{RequestValue}
use Rattle.selection.specs.Chosen.{ChosenValue, lacks_program, lacks_row, is_scrambled, streams_of, lacks_rate, has_unknown_stream}

-- a service that was not found in its input
unfoldable pub choice_fault_of : RequestValue → List Findings → Option PlanFault
choice_fault_of r found =
    if list_any (lacks_program r found) r.services then Some NoProgram
    else if list_any (lacks_row found) r.services then Some NoSdtRow
    else None

-- a chosen service that is scrambled, or whose streams are not those of its program
unfoldable pub program_fault_of : RequestValue → List ChosenValue → Option PlanFault
program_fault_of r chosen =
    if list_any is_scrambled chosen then Some CaFound
    else if list_any (λ (c : ChosenValue). lacks_rate (streams_of r c.service) c.pmt) chosen then Some RateMissing
    else if list_any (λ (c : ChosenValue). has_unknown_stream (streams_of r c.service) c.pmt) chosen then Some StreamUnknown
    else None
