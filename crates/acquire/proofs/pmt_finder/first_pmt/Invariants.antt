use Rattle.std.proofs.Common.{◌≡◌, find, drop}
use Rattle.acquire.specs.Seen.{pmts_in, is_pmt_of}
use Rattle.acquire.proofs.pmt_finder.first_pmt.Given as goal

abbrev pub invariant-loop-item : goal.invariant-loop-item
invariant-loop-item l =
    find (is_pmt_of l.program) (pmts_in (drop l.item-index l.told)) ≡ find (is_pmt_of l.program) (pmts_in l.told)
