-- How often the tables come, in which periods they may, and how long slots take (profile). A slot has 1,504 bits.
use Rattle.std.specs.Prelude.{◌≡◌, ℕ, ◌*◌, ◌/◌, None}
use Rattle.std.specs.Int.{div_ceil}
use Rattle.rounds.specs.Rounds.{RoundsValue, rounds_fault_of}

-- how long so many slots take at a rate of so many bits a second: in milliseconds, rounded up
abbrev pub milliseconds_of : ℕ → ℕ → ℕ
milliseconds_of rate slots = div_ceil (slots * 1504000) rate

-- from one PAT to the next, and from a packet of a PMT to the same again: a round
abbrev pub pat_interval_of : RoundsValue → ℕ
pat_interval_of r = milliseconds_of r.rate r.period

-- from a packet of the SDT or of the NIT to the same again: as many rounds as the two have packets
abbrev pub sdt_interval_of : RoundsValue → ℕ
sdt_interval_of r = milliseconds_of r.rate (r.slow_len * r.period)

-- in rounds of so many slots the tables come without a fault
abbrev pub IsLawfulPeriod : RoundsValue → ℕ → Type 0
IsLawfulPeriod r period = rounds_fault_of (record r { period = period }) ≡ None

-- how long 1,000,000 slots take, in seconds, rounded down
abbrev pub run_seconds_of : ℕ → ℕ
run_seconds_of rate = 1000000 * 1504 / rate
