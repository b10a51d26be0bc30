-- Lists that grow by one, and that are gone through.
use Rattle.std.proofs.Common.{◌≡◌, ℕ, zero, suc, List, [], ◌∷◌, ◌++◌, length, drop, Some, ap, ◌∙◌, arith, length-append}
use Rattle.std.specs.List.{slice_get}

-- what comes next of a list of which so many are gone
pub drop_next : {X : Type 0} (n : ℕ) (all : List X) (x : X) (rest : List X) → drop n all ≡ x ∷ rest → (slice_get all n ≡ Some x) × (drop (suc n) all ≡ rest)
drop_next zero all x rest e = (ap (λ v. slice_get v 0) e, ap (drop 1) e)
drop_next (suc n) [] x rest e = absurd (cc)
drop_next (suc n) (y ∷ all) x rest e = drop_next n all x rest e

pub drop_more : {X H : Type 0} (xs : List H) (y : H) (all rest : List X) → drop (suc (length xs)) all ≡ rest → drop (length (xs ++ y ∷ [])) all ≡ rest
drop_more xs y all rest e =
    let grown : length (xs ++ y ∷ []) ≡ suc (length xs) = omega (arith, length-append xs (y ∷ [])) in
    ap (λ n. drop n all) grown ∙ e
