use Rattle.std.proofs.Common.{◌≡◌, ◌+◌, length}
use Rattle.rtrb.specs.Ring.{sent, known_free, SameProducer}
use Rattle.relay.proofs.making.fill.Given as goal

abbrev pub invariant-loop-block : goal.invariant-loop-block
invariant-loop-block l = record {
  ring : SameProducer l.fn.empties l.empties;
  free : known_free l.empties + l._block ≡ known_free l.fn.empties;
  made : length (sent l.empties) ≡ length (sent l.fn.empties) + l._block;
}
