use Rattle.acquire.proofs.PlaceLaws.{HaveRead}
use Rattle.acquire.proofs.pmt_finders.push_pmts.Given as goal

abbrev pub invariant-loop-i : goal.invariant-loop-i
invariant-loop-i l = HaveRead l.packet l.i l.initial.finders l.finders l.initial.found l.found
