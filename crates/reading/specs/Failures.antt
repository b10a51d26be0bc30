-- How often a device failed (profile).
use Rattle.std.specs.Prelude.{◌≡◌, ℕ, ◌+◌, min}

-- one failure more, as far as a number of 64 bits counts them
abbrev pub FailsOnce : ℕ → ℕ → Type 0
FailsOnce before now = now ≡ min (before + 1) 18446744073709551615
