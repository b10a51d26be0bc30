-- What the making of a request may rest on.
use Rattle.std.proofs.Common.{ℕ, ◌≡◌, Bool, true, false, cond, List, map, length, Some, None, refl, ap, ◌∙◌, sym, arith, All}
use Rattle.std.specs.List.{list_all}
use Rattle.std.proofs.lemmas.List.Sums.{AllPass-from_list_all}
use Rattle.std.proofs.lemmas.List.Elements.{All-weaker}
use Rattle.std.proofs.lemmas.List.Folds.{list_all-map}
use Rattle.request.specs.declared.plan_fault.PlanFault.{PlanFault}
use Rattle.request.specs.declared.plan_fault.PlanFault.TheVariants.{BadText, OutOfRange, ServiceTaken, PidTaken, NoProgram, NoSdtRow, CaFound, RateMissing, StreamUnknown, TooLarge, RoundTooLong, PeriodTooLong, Memory, SwitchUneven, VersionWrong, PidReused, SwitchSlot, SwitchTooLong}
use Rattle.request.specs.declared.settings.Settings.{Settings}
use Rattle.request.specs.declared.input.Input.{Input}
use Rattle.request.specs.declared.service.Service.{Service}
use Rattle.request.specs.declared.stream.Stream.{Stream}
use Rattle.request.specs.declared.service_parts.ServiceParts.{ServiceParts}
use Rattle.request.specs.declared.stream_row.StreamRow.{StreamRow}
use Rattle.request.specs.Parts.{PartsValue, service_parts_value}
use Rattle.request.specs.Ranges.{is_service}
use Rattle.request.specs.Request.{has_bad_range, has_service_twice, has_pid_twice, request_fault_of, request_of, stream_rows_of, stream_of, service_of, settings_of, input_of, input_value, service_value, request_with}
use Rattle.request.specs.Answers.{IsFaultOf, HasShortIds, HasShortNumbers, HasShortPids}
use Rattle.request.proofs.RequestLaws.{request_is, service_numbers, stream_is, is_row, streams_ranged, faultless, lists_are}

pub short_ids : (p : PartsValue) → request_fault_of p ≡ None → HasShortIds p
short_ids p e =
    let r = request_is p e in
    record { version = omega (arith, r.version); transport_stream_id = omega (arith, r.transport_stream_id); original_network_id = omega (arith, r.original_network_id); network_id = omega (arith, r.network_id) }

short_pids : (inputs : ℕ) (row : StreamRow) → is_row inputs row ≡ true → HasShortPids row
short_pids inputs row e =
    let s = stream_is inputs row e in
    record { pid = omega (arith, s.pid.1); out = omega (arith, s.output_pid.1) }

pub rows_short : (p : PartsValue) → request_fault_of p ≡ None → All HasShortPids (stream_rows_of p.services)
rows_short p e =
    let lists = lists_are p (faultless p e).ranged.lists in
    let rows = stream_rows_of p.services in
    All-weaker (λ r. is_row (length p.inputs) r ≡ true) HasShortPids (short_pids (length p.inputs)) rows (AllPass-from_list_all (is_row (length p.inputs)) rows (streams_ranged (length p.inputs) p.services lists.services))

short_numbers : (inputs : ℕ) (s : ServiceParts) → is_service inputs (service_parts_value s) ≡ true → HasShortNumbers s
short_numbers inputs s e =
    let n = service_numbers inputs (service_parts_value s) e in
    record { program = omega (arith, n.0.1); service = omega (arith, n.1.1); pmt = omega (arith, n.2.1) }

pub services_short : (p : PartsValue) (services : List ServiceParts) → p.services ≡ map service_parts_value services → request_fault_of p ≡ None → All HasShortNumbers services
services_short p services same e =
    let lists = lists_are p (faultless p e).ranged.lists in
    let inputs = length p.inputs in
    All-weaker (λ s. is_service inputs (service_parts_value s) ≡ true) HasShortNumbers (short_numbers inputs) services
    (AllPass-from_list_all (λ s. is_service inputs (service_parts_value s)) services
    (sym (list_all-map (is_service inputs) service_parts_value services) ∙ ap (list_all (is_service inputs)) (sym same) ∙ lists.services))

-- a fault is never want of memory
chain_fault : (a b c : Bool) → cond a (Some OutOfRange) (cond b (Some ServiceTaken) (cond c (Some PidTaken) None)) ≡ Some Memory → ⊥
chain_fault true b c e = cc
chain_fault false true c e = cc
chain_fault false false true e = cc
chain_fault false false false e = cc

not_memory : (p : PartsValue) → request_fault_of p ≡ Some Memory → ⊥
unfolding request_fault_of
not_memory p e = chain_fault (has_bad_range p) (has_service_twice p.services) (has_pid_twice p.services) e

pub fault_told : (p : PartsValue) (e : PlanFault) → request_fault_of p ≡ Some e → IsFaultOf p e
fault_told p Memory h = absurd (not_memory p h)
fault_told p BadText h = h
fault_told p OutOfRange h = h
fault_told p ServiceTaken h = h
fault_told p PidTaken h = h
fault_told p NoProgram h = h
fault_told p NoSdtRow h = h
fault_told p CaFound h = h
fault_told p RateMissing h = h
fault_told p StreamUnknown h = h
fault_told p TooLarge h = h
fault_told p RoundTooLong h = h
fault_told p PeriodTooLong h = h
fault_told p SwitchUneven h = h
fault_told p VersionWrong h = h
fault_told p PidReused h = h
fault_told p SwitchSlot h = h
fault_told p SwitchTooLong h = h

-- the request of what was made
pub made : (p : PartsValue) (settings : Settings) (inputs : List Input) (services : List Service) (streams : List Stream) (first second : List StreamRow)
    → settings ≡ settings_of p → map input_value inputs ≡ map input_of p.inputs → first ≡ stream_rows_of p.services → streams ≡ map stream_of first
    → second ≡ stream_rows_of p.services → map service_value services ≡ map (service_of second) p.services
    → request_with settings p.network_name p.transport_descriptors inputs services streams ≡ request_of p
made p settings inputs services streams first second a b d e f g = rw (a, b, e, d, g, f) refl
