-- The continuity counter of the packets of one PID: ISO/IEC 13818-1, 2.4.3.3. That any counter is lawful
-- where the discontinuity indicator is 1 is profile.
use Rattle.std.specs.Prelude.{ℕ, ◌+◌, ◌%◌, ◌==◌, [], ◌∷◌, Bool, true, false, ◌&&◌, ◌||◌, not, if◌then◌else◌, List, take, drop, Option, Some, None}
use Rattle.std.specs.Str.{bytes_eq}
use Rattle.tspkt.specs.Packet.{has_payload_of, continuity_counter_of, discontinuity_indicator_of, pcr_flag_of}

-- equal bytes, save that bytes 6 to 11 may differ where both have a PCR
unfoldable pub is_equal_but_pcr : List ℕ → List ℕ → Bool
is_equal_but_pcr a b =
    if pcr_flag_of a && pcr_flag_of b then bytes_eq (take 6 a) (take 6 b) && bytes_eq (drop 12 a) (drop 12 b)
    else bytes_eq a b

-- a duplicate packet: one packet with payload, sent twice
unfoldable pub is_copy : List ℕ → List ℕ → Bool
is_copy a b =
    ((has_payload_of a && has_payload_of b) && continuity_counter_of a == continuity_counter_of b)
    && is_equal_but_pcr a b

-- the last packet is a copy of the one before it, so that no further copy may follow
unfoldable pub is_second_copy : Option (List ℕ) → List ℕ → Bool
is_second_copy None last = false
is_second_copy (Some before) last = is_copy before last

-- the next packet of a PID is lawful behind the last one: the discontinuity is indicated, or it has payload and
-- the counter steps, or it has none and the counter stays, or it is the one copy that may be sent
unfoldable pub follows_of : Option (List ℕ) → List ℕ → List ℕ → Bool
follows_of before last next =
    ((discontinuity_indicator_of next
    || (has_payload_of next && continuity_counter_of next == (continuity_counter_of last + 1) % 16))
    || (not (has_payload_of next) && continuity_counter_of next == continuity_counter_of last))
    || (is_copy last next && not (is_second_copy before last))

-- of the packets of a PID behind two of them, whether each is lawful
abbrev pub lawful_behind : Option (List ℕ) → List ℕ → List (List ℕ) → List Bool
lawful_behind before last [] = []
lawful_behind before last (next ∷ rest) = follows_of before last next ∷ lawful_behind (Some last) next rest

-- of the packets of a PID, whether each is lawful; the first one is
abbrev pub lawful_of : List (List ℕ) → List Bool
lawful_of [] = []
lawful_of (first ∷ rest) = true ∷ lawful_behind None first rest
