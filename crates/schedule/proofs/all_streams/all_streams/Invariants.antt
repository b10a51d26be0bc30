use Rattle.std.proofs.Common.{◌≡◌, drop, map}
use Rattle.schedule.specs.Schedule.{schedule_of}
use Rattle.schedule.specs.Streams.{with_later, all_streams}
use Rattle.schedule.proofs.SpanLaws.{span_of}
use Rattle.schedule.proofs.all_streams.all_streams.Given as goal

abbrev pub invariant-loop-after : goal.invariant-loop-after
invariant-loop-after l = with_later l.all.items (map span_of (drop l.after-index l.later)) ≡ all_streams (schedule_of l.first l.later)
