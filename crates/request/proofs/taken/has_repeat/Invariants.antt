use Rattle.std.proofs.Common.{◌≡◌, drop}
use Rattle.request.specs.Request.{has_repeat}
use Rattle.request.proofs.taken.has_repeat.Given as goal

abbrev pub invariant-loop-i : goal.invariant-loop-i
invariant-loop-i l = has_repeat l.numbers ≡ has_repeat (drop l.i l.numbers)
