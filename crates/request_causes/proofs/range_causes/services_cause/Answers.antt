use Rattle.std.proofs.Common.{◌≡◌, true, false, length, map}
use Rattle.std.proofs.lemmas.List.{length-map}
use Rattle.request.specs.Limits.{MAX_SERVICES}
use Rattle.request.specs.Parts.{service_parts_value}
use Rattle.request.specs.Ranges.{is_count_between}
use Rattle.request_causes.proofs.RangeLaws.{bad_service_count, services_left}
use Rattle.request_causes.proofs.range_causes.services_cause.Goals as goal

pub returns-else-is_count-clause-some : goal.returns-else-is_count-clause-some
returns-else-is_count-clause-some c =
    let rows = c.args.parts.now.services.items in
    let many : length (map service_parts_value rows) ≡ length rows = length-map rows service_parts_value in
    let count : is_count_between 1 MAX_SERVICES (length (map service_parts_value rows)) ≡ false = cc in
    bad_service_count (length c.args.parts.now.inputs.items) (map service_parts_value rows) count

pub returns-then-is_count-clause-some : goal.returns-then-is_count-clause-some
returns-then-is_count-clause-some c =
    let rows = c.args.parts.now.services.items in
    let many : length (map service_parts_value rows) ≡ length rows = length-map rows service_parts_value in
    let count : is_count_between 1 MAX_SERVICES (length (map service_parts_value rows)) ≡ true = cc in
    services_left (length c.args.parts.now.inputs.items) (map service_parts_value rows) _ count c.first_service_cause.ensures.some
