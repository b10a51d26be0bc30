-- What a sync watch knows of the slots so far, from which the next slot's faults of sync follow.
use Rattle.std.specs.Prelude.{◌≡◌, ℕ, ◌+◌, ◌-◌, ◌≤◌, nat_lt, nat_le, if◌then◌else◌, ◌||◌, Bool, false, ◌&&◌, not, List, length}
use Rattle.analyse.specs.Slots.{some_from, each_from, slot_at, is_good, ends_five_good, has_no_two_bad}

-- how many good slots came last, up to five; whether sync stands; whether a slot came and the last one is bad
pub record SyncState : Type 0 where
  pub run : ℕ
  pub in_sync : Bool
  pub was_bad : Bool

abbrev pub no_sync : SyncState
no_sync = record { run = 0; in_sync = false; was_bad = false }

-- the three, behind a slot that is bad or not
abbrev pub run_behind : ℕ → Bool → ℕ
run_behind run bad = if bad then 0 else if nat_lt run 5 then run + 1 else run

abbrev pub is_lost_by : SyncState → Bool → Bool
is_lost_by w bad = bad && (w.was_bad && w.in_sync)

unfoldable pub behind : SyncState → Bool → SyncState
behind w bad = record {
  run = run_behind w.run bad;
  in_sync = (w.in_sync && not (is_lost_by w bad)) || nat_le 5 (run_behind w.run bad);
  was_bad = bad;
}

-- so many slots came, and the last so many are good
abbrev pub ends_good : ℕ → List (List ℕ) → Bool
ends_good count slots = nat_le count (length slots) && each_from (length slots - count) (length slots) (λ k. is_good (slot_at slots k))

-- sync was acquired, and not lost since
abbrev pub is_in_sync_behind : List (List ℕ) → Bool
is_in_sync_behind slots = some_from 0 (length slots) (λ e. ends_five_good slots e && has_no_two_bad slots (e + 1) (length slots))

abbrev pub ends_bad : List (List ℕ) → Bool
ends_bad slots = nat_le 1 (length slots) && not (is_good (slot_at slots (length slots - 1)))

pub record HasSeenSlots (w : SyncState) (slots : List (List ℕ)) : Type 0 where
  pub run : (count : ℕ) → count ≤ 5 → nat_le count w.run ≡ ends_good count slots
  pub in_sync : w.in_sync ≡ is_in_sync_behind slots
  pub was_bad : w.was_bad ≡ ends_bad slots
