-- Rings, and what contracts see of their two ends (profile).
use Rattle.std.specs.Prelude.{◌≡◌, ℕ, ◌-◌, List, [], length, Bool, true, false, Option, Some, None, slice_get}
use Rattle.std.specs.declared.alloc.Global.{Global}
use denote.RawPtr.{Ptr}
use Rattle.rtrb.specs.Shared.{Names}
use Rattle.rtrb.specs.declared.end.End.{End}
use Rattle.tspkt.specs.declared.stamped.Stamped.{Stamped}
use Rattle.port.specs.Arrivals.{CarriedValue}
use Rattle.port.specs.declared.nothing_after_end.NothingAfterEnd.{NothingAfterEnd}

-- which ring it is, and of which input: two ends with one of these are the two ends of one ring
pub record RingId : Type 0 where
  pub words : Ptr
  pub slots : Ptr
  pub names : Names
  pub heap : Global
  pub input : ℕ

abbrev pub ring_id : End CarriedValue Global NothingAfterEnd → ℕ → RingId
ring_id e input = record { words = e.words; slots = e.slots; names = e.names; heap = e.heap; input = input }

-- a port: its ring, and the packets that it sent, oldest first
pub record PortValue : Type 0 where
  pub ring : RingId
  pub sent : List Stamped

-- the other end: its ring, the packets that came out of it, oldest first, the last of them where it is shown still, and whether the
-- end mark came
pub record RingEndValue : Type 0 where
  pub ring : RingId
  pub received : List Stamped
  pub head : Option Stamped
  pub is_ended : Bool

-- the packet that came last, where one is shown
abbrev pub head_of : Bool → List Stamped → Option Stamped
head_of true received = slice_get received (length received - 1)
head_of false received = None

-- a port that sends no more: what it was, and whether the end mark was sent
pub record FinishedValue : Type 0 where
  pub port : PortValue
  pub is_ended : Bool

-- the two ends of one ring of this input, through which nothing went
pub record IsNewRing (input : ℕ) (port : PortValue) (end : RingEndValue) : Type 0 where
  pub ring : end.ring ≡ port.ring
  pub number : port.ring.input ≡ input
  pub unsent : port.sent ≡ []
  pub unreceived : end.received ≡ []
  pub unshown : end.head ≡ None
  pub unmarked : end.is_ended ≡ false

-- so many of each: the port and the end at each place are those of one new ring, of the input with this number
pub record AreNewRings (inputs : ℕ) (ports : List PortValue) (ends : List RingEndValue) : Type 0 where
  pub ports_are : length ports ≡ inputs
  pub ends_are : length ends ≡ inputs
  pub each : (i : ℕ) (port : PortValue) (end : RingEndValue)
      → slice_get ports i ≡ Some port → slice_get ends i ≡ Some end → IsNewRing i port end
