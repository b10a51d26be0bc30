-- The names of outputs (profile).
use Rattle.std.specs.Prelude.{ℕ, List, [], ◌++◌, nat_lt, cond, codes}
use Rattle.std.specs.Fmt.{decimal}

-- the name under which an output of this name is written: the first one has no number
abbrev pub partial_of : List ℕ → ℕ → List ℕ
partial_of name number = name ++ (codes ".part" ++ cond (nat_lt number 2) [] (decimal number))
