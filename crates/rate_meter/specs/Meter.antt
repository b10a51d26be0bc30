-- What is known of a stream by its packets, newest first (profile).
use Rattle.std.specs.Prelude.{◌≡◌, ℕ, ◌+◌, ◌<◌, ◌==◌, nat_le, Bool, true, false, IsTrue, List, [], ◌∷◌, ◌++◌, length, slice_index, All, Option, Some, None, ◌≤◌, if◌then◌else◌, filter}
use Rattle.std.specs.List.{count_by, list_any}
use Rattle.std.specs.Option.{option_to_list, option_map}
use Rattle.tspkt.specs.declared.framer.TheConstants.{MAX_LIMIT}
use Rattle.tspkt.specs.declared.packet_size.PacketSize.{PacketSize}
use Rattle.rate_meter.specs.declared.reading.Reading.{Reading}
use Rattle.rate_meter.specs.declared.seen.Seen.{Seen}
use Rattle.rate_meter.specs.declared.pid_clock.PidClock.{PidClock}
use Rattle.rate_meter.specs.declared.measured.Measured.{Measured}
use Rattle.rate_meter.specs.Line.{within_64, rate_of}
use Rattle.rate_meter.specs.Deviation.{part_of}
use Rattle.rate_meter.specs.Pace.{pace_of, is_variable}
use Rattle.rate_meter.specs.Readings.{points_of}
use Rattle.rate_meter.specs.Steps.{Shown, first_step, shown}
use Rattle.rate_meter.specs.Counters.{all_marked}

-- the reading of a packet's clock, if it is of this PID: one or none
abbrev pub reading_of : ℕ → Seen → List Reading
reading_of pid s = if s.pid == pid then option_to_list s.reading else []

-- the readings of a PID's clock
abbrev pub readings_of : ℕ → List Seen → List Reading
readings_of pid [] = []
readings_of pid (s ∷ seen) = reading_of pid s ++ readings_of pid seen

-- how many packets a PID had
abbrev pub packets_of : ℕ → List Seen → ℕ
packets_of pid seen = count_by (λ s. s.pid == pid) seen

-- the packets that are scrambled (ISO/IEC 13818-1, 2.4.3.3)
abbrev pub scrambled_among : List Seen → List Seen
scrambled_among seen = filter (λ s. s.is_scrambled) seen

-- the rate of a PID in a stream of this rate: as much of it as of its packets are that PID's
abbrev pub pid_rate_of : ℕ → ℕ → List Seen → ℕ
pid_rate_of rate pid seen =
    if within_64 (length seen) == 0 then 0 else part_of rate (within_64 (packets_of pid seen)) (within_64 (length seen))

-- the counts of packets: of all, and of each PID
pub record AreCounts (seen : List Seen) (packets : ℕ) (counts : List ℕ) : Type 0 where
  pub packets_is : packets ≡ within_64 (length seen)
  pub pids : length counts ≡ 8192
  pub counts_are : (pid : ℕ) → pid < 8192 → slice_index counts pid ≡ within_64 (packets_of pid seen)

-- one of the clocks is that of this PID
abbrev pub has_clock : ℕ → List PidClock → Bool
has_clock pid clocks = list_any (λ c. c.pid == pid) clocks

-- a clock with one reading more of a PID, if it is that PID's
abbrev pub clock_behind : ℕ → Reading → PidClock → PidClock
clock_behind pid r c = if c.pid == pid then record { pid = c.pid; clock = r ∷ c.clock } else c

-- a clock has the readings of its PID
abbrev pub IsClockIn : List Seen → PidClock → Type 0
IsClockIn seen c = c.clock ≡ readings_of c.pid seen

-- The clocks are those of their PIDs; where they are whole, no other PID has a reading.
pub record AreClocks (seen : List Seen) (is_whole : Bool) (clocks : List PidClock) : Type 0 where
  pub each : All (IsClockIn seen) clocks
  pub others : IsTrue is_whole → (pid : ℕ) → has_clock pid clocks ≡ false → readings_of pid seen ≡ []

-- what clocks have seen, and whether each PID with a reading has its clock among them
pub record ClocksValue : Type 0 where
  pub seen : List Seen
  pub is_whole : Bool

-- the packets that the clocks, the counters and the counts of scrambled packets of a meter have seen, beside all
pub record AreParts (seen clocks counters scrambled : List Seen) : Type 0 where
  pub clocks_are : clocks ≡ all_marked seen
  pub counters_are : counters ≡ seen
  pub scrambled_are : scrambled ≡ scrambled_among seen

-- what a meter was shown, and whether each PID with a reading has its clock
pub record MeterValue : Type 0 where
  pub shown : Shown
  pub is_whole : Bool

-- one that was shown nothing of a stream of this size
abbrev pub new_meter : PacketSize → MeterValue
new_meter size = record { shown = record { step = first_step size; seen = [] }; is_whole = true }

-- A piece is shown. One that would pass 2^47 bytes isn't looked at.
abbrev pub shown_piece : List ℕ → Shown → Shown
shown_piece piece s = if nat_le (s.step.position + length piece) MAX_LIMIT then shown s piece else s

-- What a clock says, if it says a rate.
abbrev pub measured_by : ℕ → List Reading → Option Measured
measured_by pid readings =
    option_map (λ rate. record {
      pid = pid;
      rate = rate;
      is_variable = is_variable (pace_of (points_of readings));
      points = length (points_of readings);
    }) (rate_of (points_of readings))

-- what the clock of a PID says of a stream
abbrev pub measured_of : ℕ → List Seen → Option Measured
measured_of pid seen = measured_by pid (readings_of pid seen)

-- it rests on no more points than the other
abbrev pub IsNoLonger : Option Measured → Option Measured → Type 0
IsNoLonger None other = Unit {0}
IsNoLonger (Some m) None = ⊥
IsNoLonger (Some m) (Some n) = m.points ≤ n.points
