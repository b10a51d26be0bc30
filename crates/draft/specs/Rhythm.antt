-- The rate of a first plan.
use Rattle.std.specs.Prelude.{ℕ, ◌+◌, ◌/◌, min}

-- a rate and a tenth of it more, rounded up
abbrev pub with_tenth : ℕ → ℕ
with_tenth rate = min (rate + (rate + 9) / 10) 18446744073709551615
