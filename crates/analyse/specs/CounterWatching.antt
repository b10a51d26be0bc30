-- What a counter watch knows of the packets of one PID so far, from which the next packet's lawfulness follows.
use Rattle.std.specs.Prelude.{◌≡◌, ℕ, ◌+◌, ◌%◌, ◌==◌, Bool, ◌&&◌, ◌||◌, not, List, [], ◌∷◌, ◌++◌, Option, Some, None}
use Rattle.tspkt.specs.Packet.{has_payload_of, continuity_counter_of, discontinuity_indicator_of}
use Rattle.tspkt.specs.Counters.{is_second_copy}

-- the last packet, and whether it is a copy of the one before it
pub record CounterState : Type 0 where
  pub last : List ℕ
  pub is_copy : Bool

-- the last of some packets, where there is one
abbrev pub last_of : List (List ℕ) → Option (List ℕ)
last_of [] = None
last_of (p ∷ []) = Some p
last_of (p ∷ q ∷ rest) = last_of (q ∷ rest)

-- the counter of the next packet steps with payload, or stays without
abbrev pub steps_to : List ℕ → List ℕ → Bool
steps_to last next =
    (has_payload_of next && continuity_counter_of next == (continuity_counter_of last + 1) % 16)
    || (not (has_payload_of next) && continuity_counter_of next == continuity_counter_of last)

abbrev pub is_next_lawful : CounterState → List ℕ → Bool → Bool
is_next_lawful w next is_copy = (discontinuity_indicator_of next || steps_to w.last next) || (is_copy && not w.is_copy)

-- at least one packet came, and these are the last of them and whether it is a copy of the one before
pub record HasSeenPackets (w : CounterState) (packets : List (List ℕ)) : Type 0 where
  pub earlier : List (List ℕ)
  pub packets_are : packets ≡ earlier ++ w.last ∷ []
  pub is_copy : w.is_copy ≡ is_second_copy (last_of earlier) w.last
