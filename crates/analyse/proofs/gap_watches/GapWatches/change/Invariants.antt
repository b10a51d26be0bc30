use Rattle.std.specs.Prelude.{option_map}
use Rattle.analyse.specs.GapsWatching.{IsChangedBelow}
use Rattle.analyse.proofs.gap_watches.GapWatches.change.Given as goal

abbrev pub invariant-loop-pid : goal.invariant-loop-pid
invariant-loop-pid l = IsChangedBelow l.initial.self l.self l.set (option_map (λ p. p.now) l.marked) l.count l.pid
