-- How often a gate said no (profile).
use Rattle.std.specs.Prelude.{◌≡◌, ℕ, ◌+◌, min}

-- once more, as far as a number of 64 bits counts it
abbrev pub StopsOnce : ℕ → ℕ → Type 0
StopsOnce before now = now ≡ min (before + 1) 18446744073709551615
