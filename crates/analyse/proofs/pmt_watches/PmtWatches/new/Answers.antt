use Rattle.std.proofs.Common.{[], List, Option, subst, sym}
use Rattle.std.specs.Prelude.{map}
use Rattle.std.specs.Global.{Box}
use Rattle.analyse.specs.PmtWatching.{PmtState, boxed_state, HaveSeenPmts}
use Rattle.analyse.proofs.PmtWatchesLaws.{none_seen}
use Rattle.analyse.proofs.pmt_watches.PmtWatches.new.Goals as goal

pub returns : goal.returns
returns c = subst (λ (l : List (Option (Box PmtState))). HaveSeenPmts (map boxed_state l) []) (sym c.loop.invariant.items) (none_seen c.loop.counter)
