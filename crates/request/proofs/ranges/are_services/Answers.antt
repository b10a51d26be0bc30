use Rattle.std.proofs.lemmas.List.{length-map}
use Rattle.std.proofs.lemmas.List.Folds.{list_all-map}
use Rattle.request.specs.Parts.{service_parts_value}
use Rattle.request.specs.Ranges.{is_service, are_services}
use Rattle.request.proofs.ranges.are_services.Goals as goal

pub returns-then-is_count : goal.returns-then-is_count
unfolding are_services
returns-then-is_count c = rw (length-map c.args.services.now service_parts_value, list_all-map (is_service c.args.inputs) service_parts_value c.args.services.now, ← c.is_count.ensures, c.if-is_count.true) c.are_all_services.ensures
