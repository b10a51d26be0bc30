-- Where the continuity counters of a stream break off (ISO/IEC 13818-1, 2.4.3.3): packets are missing there, or came more than once. What
-- lies between two readings of a clock is then not what its stream sent in that time, and is left out (profile). Packets are newest first.
use Rattle.std.specs.Prelude.{◌≡◌, ℕ, ◌+◌, ◌-◌, ◌%◌, ◌<◌, ◌==◌, nat_lt, Bool, true, false, ◌&&◌, ◌||◌, not, List, [], ◌∷◌, length, find, Option, Some, None, is_some, slice_get, slice_index, if◌then◌else◌}
use Rattle.std.specs.Option.{option_map}
use Rattle.rate_meter.specs.declared.reading.Reading.{Reading}
use Rattle.rate_meter.specs.declared.seen.Seen.{Seen}

-- the counter goes up by 1, modulo 16, with each packet that has a payload, and stays where there is none
abbrev pub is_next : ℕ → Seen → Bool
is_next before now = if now.has_payload then now.counter == (before + 1) % 16 else now.counter == before

-- the counter of the newest packet of a PID
abbrev pub newest_of : ℕ → List Seen → Option ℕ
newest_of pid seen = option_map (λ (s : Seen). s.counter) (find (λ (s : Seen). s.pid == pid) seen)

abbrev pub goes_on : Option ℕ → Seen → Bool
goes_on None now = true
goes_on (Some before) now = is_next before now

-- A counter breaks off at this packet. That of null packets, which have the PID 8191, isn't defined, and one may break off where the
-- packet has the discontinuity indicator.
abbrev pub breaks_off : Seen → List Seen → Bool
breaks_off s seen = nat_lt s.pid 8191 && (not s.is_discontinuous && not (goes_on (newest_of s.pid seen) s))

-- it is a packet of this PID with a PCR
abbrev pub reads : ℕ → Seen → Bool
reads pid s = s.pid == pid && is_some s.reading

-- a counter, of whatever PID, broke off behind the newest PCR of this PID
abbrev pub is_cut : ℕ → List Seen → Bool
is_cut pid [] = false
is_cut pid (s ∷ seen) = if reads pid s then false else breaks_off s seen || is_cut pid seen

-- a counter broke off between a packet and the newest PCR of its PID
abbrev pub is_cut_off : Seen → List Seen → Bool
is_cut_off s seen = breaks_off s seen || (nat_lt s.pid 8191 && is_cut s.pid seen)

-- A packet whose PCR is told as one with the discontinuity indicator, if it is to be.
abbrev pub marked : Seen → Bool → Seen
marked s is_off = record s {
  reading = option_map (λ (r : Reading). record r { is_discontinuous = r.is_discontinuous || is_off }) s.reading;
}

-- all packets, each PCR that is cut off told so
abbrev pub all_marked : List Seen → List Seen
all_marked [] = []
all_marked (s ∷ seen) = marked s (is_cut_off s seen) ∷ all_marked seen

-- a counter that may be none as a number: none is 0, and each other one is 1 more than it is
abbrev pub code_of : Option ℕ → ℕ
code_of None = 0
code_of (Some counter) = counter + 1

abbrev pub goes_on_behind : ℕ → Seen → Bool
goes_on_behind code now = if code == 0 then true else is_next (code - 1) now

-- what is kept of the packets: the newest counter of each PID but that of null packets, and whether one broke off behind its newest PCR
pub record KeepsCounters (seen : List Seen) (newest : List ℕ) (cut : List Bool) : Type 0 where
  pub newest_pids : length newest ≡ 8191
  pub cut_pids : length cut ≡ 8191
  pub newest_are : (pid : ℕ) → pid < 8191 → slice_index newest pid ≡ code_of (newest_of pid seen)
  pub cut_are : (pid : ℕ) → pid < 8191 → slice_get cut pid ≡ Some (is_cut pid seen)
