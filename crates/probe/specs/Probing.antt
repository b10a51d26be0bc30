-- What was read of a stream, packet by packet.
use Rattle.std.specs.Prelude.{◌≡◌, ℕ, ◌<◌, ◌==◌, ◌&&◌, not, Bool, List, length}
use Rattle.std.specs.List.{All, Any, count_by}
use Rattle.tspkt.specs.Bits.{bit}
use Rattle.tspkt.specs.Packet.{pid_of, transport_scrambling_control_of}
use Rattle.tables.specs.declared.pat_row.PatRow.{PatRow}
use Rattle.acquire.specs.Seen.{AcquireState}
use Rattle.rate_meter.specs.Line.{within_64}
use Rattle.probe.specs.declared.place.Place.{Place}
use Rattle.probe.specs.declared.sighting.Sighting.{Sighting}
use Rattle.probe.specs.declared.pid_survey.PidSurvey.{PidSurvey}
use Rattle.probe.specs.Occurring.{occurrences_of}
use Rattle.probe.specs.Counts.{is_of, is_scrambled_of, has_error_of}

-- the programs that are looked for, what was counted of the packets, newest first, and where the search of their tables stands
pub record ProbeValue : Type 0 where
  pub programs : List PatRow
  pub seen : List Sighting
  pub acquire : AcquireState

-- a demodulator couldn't mend the packet (ISO/IEC 13818-1, 2.4.3.3)
abbrev pub transport_error_indicator_of : List ℕ → Bool
transport_error_indicator_of p = bit p 8 == 1

-- the place of a packet at this position, behind these
abbrev pub place_behind : List Sighting → ℕ → Place
place_behind seen position = record { packet = within_64 (length seen); position = position }

-- what is counted of a packet: where it couldn't be mended, nothing is known of its scrambling
abbrev pub sighting_of : Place → List ℕ → Sighting
sighting_of place p = record {
  pid = pid_of p;
  is_scrambled = not (transport_error_indicator_of p) && not (transport_scrambling_control_of p == 0);
  has_error = transport_error_indicator_of p;
  place = place;
}

-- What is said of a PID's packets is what was counted of them. Where it is told that no table refers to the PID, all are counted, and not all
-- have the transport_error_indicator, with which the PID itself may be wrong.
pub record IsCounted (seen : List Sighting) (s : PidSurvey) : Type 0 where
  pub packets_are : s.packets ≡ within_64 (count_by (is_of s.pid) seen)
  pub scrambled_are : s.scrambled ≡ occurrences_of (is_scrambled_of s.pid) seen
  pub errors_are : s.errors ≡ occurrences_of (has_error_of s.pid) seen
  pub unreferenced_are : 0 < s.unreferenced.count → s.unreferenced ≡ occurrences_of (is_of s.pid) seen
  pub unreferenced_is_sound : 0 < s.unreferenced.count → s.errors.count < s.packets

-- it is what is said of this PID
abbrev pub IsOfPid : ℕ → PidSurvey → Type 0
IsOfPid pid s = s.pid ≡ pid

-- Each PID that has packets is among those of which something is said, and what was counted of each is right.
pub record AreSurveyed (seen : List Sighting) (pids : List PidSurvey) : Type 0 where
  pub counted : All (IsCounted seen) pids
  pub listed : (pid : ℕ) → pid < 8192 → 0 < count_by (is_of pid) seen → Any (IsOfPid pid) pids
