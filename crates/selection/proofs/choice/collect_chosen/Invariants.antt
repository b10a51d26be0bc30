use Rattle.std.proofs.Common.{◌≡◌, ◌+◌, ◌<◌, ◌∷◌, ◌++◌, drop, map, length}
use Rattle.std.specs.List.{filter_map}
use Rattle.acquire.specs.Seen.{findings_of}
use Rattle.request.specs.Request.{service_value}
use Rattle.selection.specs.Chosen.{chosen_service}
use Rattle.selection.specs.ChosenView.{chosen_value}
use Rattle.selection.proofs.choice.collect_chosen.Given as goal

abbrev pub invariant-loop-service : goal.invariant-loop-service
invariant-loop-service l = record {
  chosen : l.chosen ++ filter_map (chosen_service l.request (map findings_of l.found)) (map service_value (drop l.service-index l.others))
      ≡ chosen_value l.fn.first ∷ filter_map (chosen_service l.request (map findings_of l.found)) (map service_value l.others);
  room : length l.chosen + length l.others < 17 + l.service-index;
}
