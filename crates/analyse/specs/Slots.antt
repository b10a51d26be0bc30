-- A stream as its slots of 188 bytes, in order, counted from 0: ETSI TR 101 290, 5.2.1 (TS_sync_loss and
-- Sync_byte_error; the measuring in slots is profile).
use Rattle.std.specs.Prelude.{ℕ, ◌+◌, ◌-◌, ◌==◌, nat_le, Bool, ◌&&◌, ◌||◌, not, List, [], slice_index, slice_index_or, is_some, filter}
use Rattle.std.specs.List.{list_any, list_all, range_with_len}
use Rattle.tspkt.specs.Packet.{fault_of, pid_of}

-- some number, or every one, of those from `first` on and below `end` passes a test
abbrev pub some_from : ℕ → ℕ → (ℕ → Bool) → Bool
some_from first end test = list_any test (range_with_len first (end - first))

abbrev pub each_from : ℕ → ℕ → (ℕ → Bool) → Bool
each_from first end test = list_all test (range_with_len first (end - first))

abbrev pub slot_at : List (List ℕ) → ℕ → List ℕ
slot_at slots m = slice_index_or slots m []

-- the slot begins with the sync byte
abbrev pub is_good : List ℕ → Bool
is_good slot = slice_index slot 0 == 0x47

-- the slot is a packet that the layout allows
abbrev pub is_packet : List ℕ → Bool
is_packet slot = not (is_some (fault_of slot))

-- the packets among the slots, and those of a PID
abbrev pub packets_in : List (List ℕ) → List (List ℕ)
packets_in slots = filter is_packet slots

abbrev pub packets_of_pid : ℕ → List (List ℕ) → List (List ℕ)
packets_of_pid pid slots = filter (λ p. pid_of p == pid) (packets_in slots)

-- slot m is the last of five good ones in a row
abbrev pub ends_five_good : List (List ℕ) → ℕ → Bool
ends_five_good slots m = nat_le 4 m && each_from (m - 4) (m + 1) (λ k. is_good (slot_at slots k))

-- of the slots from `first` on and below `end` no two neighbours are both bad
abbrev pub has_no_two_bad : List (List ℕ) → ℕ → ℕ → Bool
has_no_two_bad slots first end = each_from (first + 1) end (λ k. is_good (slot_at slots (k - 1)) || is_good (slot_at slots k))

-- TS_sync_loss at slot m: it and the one before are bad, and sync was acquired before and not lost since: some earlier
-- slot ends five good ones in a row, and no two neighbours between it and slot m are both bad
unfoldable pub is_sync_lost_at : List (List ℕ) → ℕ → Bool
is_sync_lost_at slots m =
    ((nat_le 1 m && not (is_good (slot_at slots (m - 1)))) && not (is_good (slot_at slots m)))
    && some_from 0 m (λ e. ends_five_good slots e && has_no_two_bad slots (e + 1) m)

-- Sync_byte_error at slot m
abbrev pub is_sync_byte_bad_at : List (List ℕ) → ℕ → Bool
is_sync_byte_bad_at slots m = not (is_good (slot_at slots m))
