use Rattle.std.proofs.Common.{◌≡◌, None, vec_capacity}
use Rattle.std.specs.Prelude.{replicate}
use Rattle.analyse.proofs.pmt_watches.PmtWatches.new.Given as goal

abbrev pub invariant-loop : goal.invariant-loop
invariant-loop l = record { items : l.watches.items ≡ replicate l.counter None; room : vec_capacity l.watches ≡ 8192 }
