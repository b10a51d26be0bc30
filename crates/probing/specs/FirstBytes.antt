-- The beginning of a source (profile).
use Rattle.std.specs.Prelude.{ℕ, List, take, Option, option_map}
use Rattle.probing.specs.declared.first_bytes.FirstBytes.{FirstBytes}

-- the source itself
abbrev pub inner_of : {R : Type 0} → FirstBytes R → R
inner_of f = f.source

-- how many of its bytes may still be given
abbrev pub left_of : {R : Type 0} → FirstBytes R → ℕ
left_of f = f.left

-- the bytes that will be given, where those of the source are known
abbrev pub first_remaining : {R : Type 0} → (R → Option (List ℕ)) → FirstBytes R → Option (List ℕ)
first_remaining remaining f = option_map (take f.left) (remaining f.source)

-- how often the source failed
abbrev pub first_failures : {R : Type 0} → (R → ℕ) → FirstBytes R → ℕ
first_failures failures f = failures f.source
