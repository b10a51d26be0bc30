-- What is counted of the packets of a PID, newest first. Windows are 512 packets of a stream, one behind the other, from its first on.
use Rattle.std.specs.Prelude.{◌≡◌, ℕ, ◌+◌, ◌/◌, ◌==◌, ◌&&◌, max, Bool, List, [], ◌∷◌, length, if◌then◌else◌}
use Rattle.std.specs.List.{count_by}
use Rattle.rate_meter.specs.Line.{within_64}
use Rattle.probe.specs.declared.sighting.Sighting.{Sighting}
use Rattle.probe.specs.declared.pid_count.PidCount.{PidCount}
use Rattle.probe.specs.Occurring.{occurrences_of}

-- it has this PID
abbrev pub is_of : ℕ → Sighting → Bool
is_of pid s = s.pid == pid

-- it has this PID, and is scrambled (ISO/IEC 13818-1, 2.4.3.3)
abbrev pub is_scrambled_of : ℕ → Sighting → Bool
is_scrambled_of pid s = (s.pid == pid) && s.is_scrambled

-- it has this PID, and its transport_error_indicator is 1 (ISO/IEC 13818-1, 2.4.3.3; ETSI TR 101 290, 2.1)
abbrev pub has_error_of : ℕ → Sighting → Bool
has_error_of pid s = (s.pid == pid) && s.has_error

-- the number of the window of a packet behind these
abbrev pub window_behind : List Sighting → ℕ
window_behind seen = within_64 (length seen) / 512

-- how many packets of a PID a window has
abbrev pub in_window : ℕ → ℕ → List Sighting → ℕ
in_window pid window [] = 0
in_window pid window (s ∷ seen) =
    (if (s.pid == pid) && (window_behind seen == window) then 1 else 0) + in_window pid window seen

-- the most that a window has: its count grows up to its last packet
abbrev pub most_in_window : ℕ → List Sighting → ℕ
most_in_window pid [] = 0
most_in_window pid (s ∷ seen) = max (within_64 (in_window pid (window_behind seen) (s ∷ seen))) (most_in_window pid seen)

-- what is counted of a PID
pub record IsCountOf (pid : ℕ) (seen : List Sighting) (c : PidCount) : Type 0 where
  pub all_are : c.all ≡ occurrences_of (is_of pid) seen
  pub scrambled_are : c.scrambled ≡ occurrences_of (is_scrambled_of pid) seen
  pub errors_are : c.errors ≡ occurrences_of (has_error_of pid) seen
  pub highest_is : c.highest ≡ most_in_window pid seen
