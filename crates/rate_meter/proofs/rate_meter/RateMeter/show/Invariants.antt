use Rattle.std.proofs.Common.{length, take, ◌-◌, ◌≡◌, ◌+◌, ◌≤◌}
use Rattle.rate_meter.specs.Steps.{shown}
use Rattle.rate_meter.proofs.rate_meter.RateMeter.show.Given as goal

abbrev pub invariant-loop-at : goal.invariant-loop-at
invariant-loop-at l = record {
  within : l.at ≤ length l.piece;
  position : l.self.shown.step.position ≡ l.initial.self.shown.step.position + l.at;
  shown_so_far : l.self.shown ≡ shown l.initial.self.shown (take l.at l.piece);
}

abbrev pub decreases-loop-at : goal.decreases-loop-at
decreases-loop-at l = length l.piece - l.at
