use Rattle.port.specs.Rings.{AreNewRings}
use Rattle.port.proofs.rings.ports.Given as goal

abbrev pub invariant-loop-input : goal.invariant-loop-input
invariant-loop-input l = AreNewRings l.input l.ports.items l.ends.items
