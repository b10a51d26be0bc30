use Rattle.std.proofs.Common.{◌≡◌, ℕ, List, length, None}
use Rattle.tspkt.specs.declared.item.Item.{Item}
use Rattle.tspkt.specs.declared.stamped.Stamped.{Stamped}
use Rattle.reading.specs.PacketReading.{HasLooked}
use Rattle.reading.proofs.packet_reader.seek.Given as goal

abbrev pub invariant-loop-item : goal.invariant-loop-item
invariant-loop-item g l = record {
  read : (bytes : List ℕ) (given : List Stamped) (looked : List Item) → HasLooked g.R.Source.remaining l.schedule l.fn.origin l.fn.stream None l.fn.report bytes given looked
      → (more : List Item) × HasLooked g.R.Source.remaining l.schedule l.origin l.stream None l.report bytes given more;
  origin : l.origin ≡ l.fn.origin;
  source : l.stream.source ≡ l.fn.stream.source;
  limit : l.stream.items.limit ≡ l.fn.stream.items.limit;
  framer : l.stream.items.framer ≡ l.fn.stream.items.framer;
  stopped : l.report.stopped ≡ l.fn.report.stopped;
}

abbrev pub decreases-loop-item : goal.decreases-loop-item
decreases-loop-item g l = length l.stream.items.ahead
