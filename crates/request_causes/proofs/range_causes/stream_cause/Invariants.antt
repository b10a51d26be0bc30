use Rattle.std.proofs.Common.{◌≡◌, drop}
use Rattle.std.specs.List.{list_any}
use Rattle.request.specs.declared.stream_parts.StreamParts.{StreamParts}
use Rattle.request_causes.specs.RangeCauses.{is_outside, stream_numbers}
use Rattle.request_causes.proofs.range_causes.stream_cause.Given as goal

abbrev pub invariant-loop-stream : goal.invariant-loop-stream
invariant-loop-stream l =
    list_any (λ (s : StreamParts). list_any is_outside (stream_numbers s)) l.streams
    ≡ list_any (λ (s : StreamParts). list_any is_outside (stream_numbers s)) (drop l.stream l.streams)
