use Rattle.std.proofs.Common.{◌≡◌, drop, map}
use Rattle.request.specs.declared.stream_parts.StreamParts.{StreamParts}
use Rattle.request.specs.Request.{has_repeat}
use Rattle.request.proofs.taken.has_pid_repeat.Given as goal

abbrev pub invariant-loop-i : goal.invariant-loop-i
invariant-loop-i l = has_repeat (map (λ (r : StreamParts). r.pid) l.streams) ≡ has_repeat (map (λ (r : StreamParts). r.pid) (drop l.i l.streams))
