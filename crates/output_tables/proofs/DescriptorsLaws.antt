-- Descriptor loops one behind the other.
use Rattle.std.proofs.Common.{◌≡◌, ℕ, zero, suc, true, List, [], ◌∷◌, ◌++◌}
use Rattle.tables.specs.Descriptors.{are_whole}

pub whole_append : (skip : ℕ) (a b : List ℕ) → are_whole skip a ≡ true → are_whole 0 b ≡ true → are_whole skip (a ++ b) ≡ true
unfolding are_whole
whole_append zero [] b h w = w
whole_append (suc skip) [] b h w = absurd (cc h)
whole_append (suc skip) (x ∷ a) b h w = whole_append skip a b h w
whole_append zero (tag ∷ []) b h w = absurd (cc h)
whole_append zero (tag ∷ count ∷ a) b h w = whole_append count a b h w
