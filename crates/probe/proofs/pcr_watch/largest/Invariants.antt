use Rattle.std.proofs.Common.{◌≡◌, take}
use Rattle.probe.specs.Jitter.{jitter_of}
use Rattle.probe.proofs.pcr_watch.largest.Given as goal

abbrev pub invariant-loop-step : goal.invariant-loop-step
invariant-loop-step l = l.most ≡ jitter_of l.rate (take l.step-index l.steps)
