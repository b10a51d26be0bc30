-- Lists that grow by one, and what stands in them.
use Rattle.std.proofs.Common.{ℕ, zero, suc, ◌<◌, ◌≡◌, ◌⊎◌, List, [], ◌∷◌, ◌++◌, length, map, Some, refl, ap, sym, arith, inl, inr}
use Rattle.std.specs.List.{slice_get}
use Rattle.std.proofs.lemmas.Option.{same_Some}

-- an element of a list with one more stands in the list, or is the last
pub push_cases : {X : Type 0} (xs : List X) (y : X) (i : ℕ) (x : X) → slice_get (xs ++ y ∷ []) i ≡ Some x → (slice_get xs i ≡ Some x) ⊎ ((i ≡ length xs) × (x ≡ y))
push_cases [] y zero x at = inr (refl, sym (same_Some y x at))
push_cases [] y (suc i) x at = cc
push_cases (z ∷ xs) y zero x at = inl at
push_cases (z ∷ xs) y (suc i) x at = elim (push_cases xs y i x at) [ inl h ↦ inl h | inr h ↦ inr (ap suc h.0, h.1) ]

-- what an element of a list with each element's image is of
pub from_map : {X Y : Type 0} (f : X → Y) (xs : List X) (i : ℕ) (y : Y) → slice_get (map f xs) i ≡ Some y → (x : X) × (slice_get xs i ≡ Some x) × (f x ≡ y)
from_map f [] i y at = cc
from_map f (x ∷ xs) zero y at = (x, refl, same_Some (f x) y at)
from_map f (x ∷ xs) (suc i) y at = from_map f xs i y at

-- one more of a list
pub map_push : {X Y : Type 0} (f : X → Y) (xs : List X) (x : X) → map f (xs ++ x ∷ []) ≡ map f xs ++ f x ∷ []
map_push f [] x = refl
map_push f (y ∷ xs) x = ap (λ v. f y ∷ v) (map_push f xs x)

-- what stands within a list
pub get_within : {X : Type 0} (xs : List X) (i : ℕ) → i < length xs → (x : X) × (slice_get xs i ≡ Some x)
get_within [] i l = absurd (omega (arith, l))
get_within (x ∷ xs) zero l = (x, refl)
get_within (x ∷ xs) (suc i) l = get_within xs i (omega (arith, l))
