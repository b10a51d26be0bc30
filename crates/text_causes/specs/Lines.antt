-- The lines of a text (profile).
use Rattle.std.specs.Prelude.{ℕ, ◌+◌, ◌==◌, List, take}
use Rattle.std.specs.List.{count_by}

-- the line, from 1, that the byte at this place stands in
abbrev pub line_of : List ℕ → ℕ → ℕ
line_of text place = 1 + count_by (λ byte. byte == 10) (take place text)
