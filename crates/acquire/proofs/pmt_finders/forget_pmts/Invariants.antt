use Rattle.std.proofs.Common.{◌≡◌, ◌++◌, None, map, take, drop}
use Rattle.acquire.proofs.pmt_finders.forget_pmts.Given as goal

abbrev pub invariant-loop-pmt : goal.invariant-loop-pmt
invariant-loop-pmt l = l.pmt-items ≡ map (λ pmt. None) (take l.pmt-index l.initial.pmt-items) ++ drop l.pmt-index l.initial.pmt-items
