-- Which relay an end is of.
use Rattle.std.proofs.Common.{◌≡◌, ℕ, List, ap}
use Rattle.std.specs.declared.alloc.Global.{Global}
use Rattle.std.specs.declared.vec.Vec.{Vec}
use Rattle.rtrb.specs.declared.end.End.{End}
use Rattle.rtrb.specs.Ends.{SameRing}
use Rattle.relay.specs.declared.empty_blocks.EmptyBlocks.{EmptyBlocks}
use Rattle.relay.specs.declared.message.Message.{Message}
use Rattle.relay.specs.declared.nothing_after_end.NothingAfterEnd.{NothingAfterEnd}
use Rattle.relay.specs.Relays.{RelayId, RingId, ring_id, relay_id}

same_ring_id : {T P : Type 0} (a b : End T Global P) → SameRing a b → ring_id b ≡ ring_id a
same_ring_id a b e = λ i. record { words = e.0 i; slots = e.1 i; names = e.2 i; heap = e.3 i }

-- the ring that blocks go through stayed the same
pub same_messages : (a b : End Message Global NothingAfterEnd) (c : End (Vec (List ℕ) Global) Global EmptyBlocks) → SameRing a b
    → relay_id b c ≡ relay_id a c
same_messages a b c e = ap (λ (r : RingId). let id : RelayId = record { messages = r; empties = ring_id c } in id) (same_ring_id a b e)

-- so did the one that they come back by
pub same_empties : (a : End Message Global NothingAfterEnd) (c d : End (Vec (List ℕ) Global) Global EmptyBlocks) → SameRing c d
    → relay_id a d ≡ relay_id a c
same_empties a c d e = ap (λ (r : RingId). let id : RelayId = record { messages = ring_id a; empties = r } in id) (same_ring_id c d e)

-- and both
pub same_rings : (a b : End Message Global NothingAfterEnd) (c d : End (Vec (List ℕ) Global) Global EmptyBlocks) → SameRing a b → SameRing c d
    → relay_id b d ≡ relay_id a c
same_rings a b c d e f = λ i. record { messages = same_ring_id a b e i; empties = same_ring_id c d f i }

pub same_ring : (a b : End Message Global NothingAfterEnd) (c d : End (Vec (List ℕ) Global) Global EmptyBlocks) → relay_id b d ≡ relay_id a c → SameRing a b
same_ring a b c d e =
    (ap (λ (z : RelayId). z.messages.words) e, ap (λ (z : RelayId). z.messages.slots) e, ap (λ (z : RelayId). z.messages.names) e, ap (λ (z : RelayId). z.messages.heap) e)
