use Rattle.std.proofs.Common.{◌≡◌, drop, replicate}
use Rattle.left_right.specs.Sides.{view}
use Rattle.feed.specs.Ends.{IsNewEnd}
use Rattle.feed.specs.Readers.{new_reader}
use Rattle.feed.proofs.opening.add_readers.Given as goal

-- the end is still a new one, and so are the readers so far
abbrev pub invariant-loop : goal.invariant-loop
invariant-loop l = record {
  new : IsNewEnd l.schedule l.sequence.feed (view l.writer.desk.place) l.writer.desk.shown.value (drop l.writer.behind l.writer.log.items);
  readers : l.all.items ≡ replicate l.counter (new_reader l.schedule l.sequence.feed);
}
