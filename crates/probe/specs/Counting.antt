-- What counts of packets keep beside what they say: the window of a PID's newest packet, and how many of its packets that window has.
use Rattle.std.specs.Prelude.{◌≡◌, ℕ, ◌<◌, ◌≤◌, List, length, slice_index_or}
use Rattle.rate_meter.specs.Line.{within_64}
use Rattle.probe.specs.declared.sighting.Sighting.{Sighting}
use Rattle.probe.specs.declared.pid_count.PidCount.{PidCount}
use Rattle.probe.specs.Counts.{IsCountOf, in_window, window_behind}

-- No later window has a packet of the PID.
pub record IsKeptCount (pid : ℕ) (seen : List Sighting) (c : PidCount) : Type 0 where
  pub count : IsCountOf pid seen c
  pub begun : c.window ≤ window_behind seen
  pub newest : c.in_window ≡ within_64 (in_window pid c.window seen)
  pub later : (window : ℕ) → c.window < window → in_window pid window seen ≡ 0

-- the counts of all packets, and of each PID
pub record AreCounts (seen : List Sighting) (packets : ℕ) (counts : List PidCount) : Type 0 where
  pub packets_are : packets ≡ within_64 (length seen)
  pub pids : length counts ≡ 8192
  pub counts_are : (pid : ℕ) → pid < 8192 → (d : PidCount) → IsKeptCount pid seen (slice_index_or counts pid d)
