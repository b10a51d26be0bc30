use Rattle.std.proofs.Common.{◌≡◌, take, map}
use Rattle.request.specs.declared.stream_parts.StreamParts.{StreamParts}
use Rattle.request_causes.proofs.pid_causes.named_pids.Given as goal

abbrev pub invariant-loop-stream : goal.invariant-loop-stream
invariant-loop-stream l = l.pids.items ≡ map (λ (r : StreamParts). r.pid) (take l.stream-index l.stream-items)
