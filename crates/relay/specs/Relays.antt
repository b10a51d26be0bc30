-- Relays, and what contracts see of their two ends (profile).
use Rattle.std.specs.Prelude.{◌≡◌, ℕ, List, [], Bool, false}
use Rattle.std.specs.declared.alloc.Global.{Global}
use Rattle.std.specs.declared.vec.Vec.{Vec}
use denote.RawPtr.{Ptr}
use Rattle.rtrb.specs.Shared.{Names}
use Rattle.rtrb.specs.declared.end.End.{End}
use Rattle.relay.specs.declared.empty_blocks.EmptyBlocks.{EmptyBlocks}
use Rattle.relay.specs.declared.message.Message.{Message}
use Rattle.relay.specs.declared.nothing_after_end.NothingAfterEnd.{NothingAfterEnd}

-- which ring it is
pub record RingId : Type 0 where
  pub words : Ptr
  pub slots : Ptr
  pub names : Names
  pub heap : Global

abbrev pub ring_id : {T P : Type 0} → End T Global P → RingId
ring_id e = record { words = e.words; slots = e.slots; names = e.names; heap = e.heap }

-- Which relay it is: the ring that blocks go through, and the one that they come back by. A sender and a receiver with one of these
-- are the two ends of one relay.
pub record RelayId : Type 0 where
  pub messages : RingId
  pub empties : RingId

abbrev pub relay_id : End Message Global NothingAfterEnd → End (Vec (List ℕ) Global) Global EmptyBlocks → RelayId
relay_id messages empties = record { messages = ring_id messages; empties = ring_id empties }

-- a sender: its relay, and the packets of each block that it sent, oldest first
pub record SenderValue : Type 0 where
  pub relay : RelayId
  pub sent : List (List (List ℕ))

-- a receiver: its relay, the packets of each block that came out of it, oldest first, how many empty blocks went to the sender, and
-- whether the end mark came
pub record ReceiverValue : Type 0 where
  pub relay : RelayId
  pub received : List (List (List ℕ))
  pub returned : ℕ
  pub is_ended : Bool

-- a sender that sends no more: what it was, and whether the end mark was sent
pub record FinishedValue : Type 0 where
  pub sender : SenderValue
  pub is_ended : Bool

-- the two ends of one relay with so many empty blocks, through which nothing went
pub record IsNewRelay (blocks : ℕ) (sender : SenderValue) (receiver : ReceiverValue) : Type 0 where
  pub relay : receiver.relay ≡ sender.relay
  pub unsent : sender.sent ≡ []
  pub unreceived : receiver.received ≡ []
  pub returned : receiver.returned ≡ blocks
  pub unmarked : receiver.is_ended ≡ false
