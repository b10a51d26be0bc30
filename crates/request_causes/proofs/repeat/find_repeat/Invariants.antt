use Rattle.std.proofs.Common.{◌≡◌, drop}
use Rattle.request.specs.Request.{has_repeat}
use Rattle.request_causes.proofs.repeat.find_repeat.Given as goal

abbrev pub invariant-loop-first : goal.invariant-loop-first
invariant-loop-first l = has_repeat l.numbers ≡ has_repeat (drop l.first l.numbers)
