-- The rhythm of the tables in the multiplex (profile). Half a second between two PATs and two PMTs: ETSI TR 101 290, 5.2.1;
-- two seconds for the SDT and ten for the NIT: ETSI TR 101 211, 4.4. Slots are counted from 0, and one has 1,504 bits.
use Rattle.std.specs.Prelude.{◌≡◌, ℕ, ◌+◌, ◌*◌, ◌/◌, ◌%◌, ◌<◌, ◌≤◌, ◌==◌, nat_lt, max, ◌||◌, if◌then◌else◌, Option, Some, None}
use Rattle.rounds.specs.declared.table_place.TablePlace.{TablePlace}
use Rattle.rounds.specs.declared.table_place.TablePlace.TheVariants.{Fast, Slow}
use Rattle.rounds.specs.declared.rounds_fault.RoundsFault.{RoundsFault}
use Rattle.rounds.specs.declared.rounds_fault.RoundsFault.TheVariants.{RoundTooLong, PeriodTooLong}

-- rate: of the multiplex, in bits a second; gap: slots from one table packet of a round to the next; period: slots
-- from one round to the next; fast_len: packets of PAT and PMTs; slow_len: packets of SDT and NIT
pub record RoundsValue : Type 0 where
  pub rate : ℕ
  pub gap : ℕ
  pub period : ℕ
  pub fast_len : ℕ
  pub slow_len : ℕ

-- as many slots as a buffer that leaks 1,000,000 bits a second needs for a packet, and two at least
abbrev pub gap_of : ℕ → ℕ
gap_of rate = max 2 ((rate + 999999) / 1000000)

-- how many slots half a second, two seconds and ten seconds have
abbrev pub fast_limit_of : ℕ → ℕ
fast_limit_of rate = rate / 3008

abbrev pub sdt_limit_of : ℕ → ℕ
sdt_limit_of rate = 2 * rate / 1504

abbrev pub nit_limit_of : ℕ → ℕ
nit_limit_of rate = 10 * rate / 1504

-- what step `step` of round `round` carries: the fast packets in turn, and then one of the slow ones, which take turns
-- round by round
abbrev pub place_at : RoundsValue → ℕ → ℕ → Option TablePlace
place_at r round step =
    if nat_lt step r.fast_len then Some (Fast step)
    else if step == r.fast_len then Some (Slow (round % r.slow_len))
    else None

-- what slot m carries: round k begins at slot k * period, and its step s is in slot k * period + s * gap
unfoldable pub table_at : RoundsValue → ℕ → Option TablePlace
table_at r m = if m % r.period % r.gap == 0 then place_at r (m / r.period) (m % r.period / r.gap) else None

-- the first fault that applies
unfoldable pub rounds_fault_of : RoundsValue → Option RoundsFault
rounds_fault_of r =
    if nat_lt r.period ((r.fast_len + 1) * r.gap) then Some RoundTooLong
    else if nat_lt (fast_limit_of r.rate) r.period || nat_lt (sdt_limit_of r.rate) (r.slow_len * r.period) then Some PeriodTooLong
    else None

-- a round fits its period, and each table comes within its limit
pub record IsRounds (r : RoundsValue) : Type 0 where
  pub gap : r.gap ≡ gap_of r.rate
  pub fast : 1 ≤ r.fast_len
  pub slow : 1 ≤ r.slow_len
  pub round : (r.fast_len + 1) * r.gap ≤ r.period
  pub period : r.period ≤ fast_limit_of r.rate
  pub rotation : r.slow_len * r.period ≤ sdt_limit_of r.rate

-- every window of so many slots holds one that carries the packet at this place
abbrev pub RecursWithin : RoundsValue → TablePlace → ℕ → Type 0
RecursWithin r place window =
    (first : ℕ) → (m : ℕ) × (first ≤ m) × (m < first + window) × (table_at r m ≡ Some place)

-- two table slots are a gap apart at least
abbrev pub AreApart : RoundsValue → Type 0
AreApart r =
    (m n : ℕ) (a b : TablePlace) → m < n → table_at r m ≡ Some a → table_at r n ≡ Some b → m + r.gap ≤ n

-- the rounds of a multiplex of this rate
abbrev pub rounds_with : ℕ → ℕ → ℕ → ℕ → RoundsValue
rounds_with rate period fast_len slow_len =
    record { rate = rate; gap = gap_of rate; period = period; fast_len = fast_len; slow_len = slow_len }

-- a packet that is there
abbrev pub IsPlace : RoundsValue → TablePlace → Type 0
IsPlace r (Fast place) = place < r.fast_len
IsPlace r (Slow place) = place < r.slow_len

-- no slot carries a packet that isn't there
abbrev pub ArePlaces : RoundsValue → Type 0
ArePlaces r = (m : ℕ) (place : TablePlace) → table_at r m ≡ Some place → IsPlace r place

-- the first slot of each round carries the PAT's first packet
abbrev pub RoundsBegin : RoundsValue → Type 0
RoundsBegin r = (round : ℕ) → table_at r (round * r.period) ≡ Some (Fast 0)
