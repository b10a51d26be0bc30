-- Of lists: pairs, and what a filter keeps.
use Rattle.std.proofs.Common.{ℕ, zero, suc, ◌≡◌, ◌<◌, ◌+◌, ◌∙◌, Bool, true, false, cond, List, [], ◌∷◌, ◌++◌, Option, Some, length, get_or, ap, refl, arith}
use Rattle.std.specs.List.{All, AllPairs, Contains, filter, position_from}
use Rattle.std.proofs.lemmas.List.Kept.{AllPairs-cons}
use Rattle.std.proofs.lemmas.List.Elements.{All-append, All-head, All-tail}

pairs_rest : {X : Type 0} (R : X → X → Type 0) (x : X) (xs : List X) → AllPairs R (x ∷ xs) → AllPairs R xs
pairs_rest R x xs h = λ i j d l within. h (suc i) (suc j) d (omega (arith, l)) (omega (arith, within))

pairs_first : {X : Type 0} (R : X → X → Type 0) (x : X) (xs : List X) → AllPairs R (x ∷ xs) → All (R x) xs
pairs_first R x xs h = λ k d within. h 0 (suc k) d (omega arith) (omega (arith, within))

-- two lists, and each element of the one beside each of the other
pub pairs_append : {X : Type 0} (R : X → X → Type 0) (xs ys : List X) → AllPairs R xs → AllPairs R ys → All (λ x. All (R x) ys) xs → AllPairs R (xs ++ ys)
pairs_append R [] ys a b c = b
pairs_append R (x ∷ xs) ys a b c =
    AllPairs-cons R x (xs ++ ys) (All-append (R x) xs ys (pairs_first R x xs a) (All-head (λ z. All (R z) ys) x xs c))
    (pairs_append R xs ys (pairs_rest R x xs a) b (All-tail (λ z. All (R z) ys) x xs c))

contains_cons : {X : Type 0} (y : X) (ys : List X) (x : X) → Contains ys x → Contains (y ∷ ys) x
contains_cons y ys x c = (suc c.0, omega (arith, c.1), c.2)

other_than : {P : Type 0} → false ≡ true → P
other_than e = cc

first_kept : {X : Type 0} (b : Bool) (y : X) (ys : List X) (x : X) → b ≡ true → y ≡ x → Contains (cond b (y ∷ ys) ys) x
first_kept true y ys x e is = (0, omega arith, is)
first_kept false y ys x e is = other_than e

later_kept : {X : Type 0} (b : Bool) (y : X) (ys : List X) (x : X) → Contains ys x → Contains (cond b (y ∷ ys) ys) x
later_kept true y ys x c = contains_cons y ys x c
later_kept false y ys x c = c

kept_at : {X : Type 0} (p : X → Bool) (xs : List X) (k : ℕ) (x : X) → k < length xs → get_or xs k x ≡ x → p x ≡ true → Contains (filter p xs) x
kept_at p [] k x within is t = absurd (omega (arith, within))
kept_at p (y ∷ ys) zero x within is t = first_kept (p y) y (filter p ys) x (ap p is ∙ t) is
kept_at p (y ∷ ys) (suc k) x within is t = later_kept (p y) y (filter p ys) x (kept_at p ys k x (omega (arith, within)) is t)

-- what passes is kept
pub filter_has : {X : Type 0} (p : X → Bool) (xs : List X) (x : X) → Contains xs x → p x ≡ true → Contains (filter p xs) x
filter_has p xs x c t = kept_at p xs c.0 x c.1 c.2 t

-- the first place of what passes

first_found : (b : Bool) (i : ℕ) (later : Option ℕ) → b ≡ true → cond b (Some i) later ≡ Some i
first_found true i later e = refl
first_found false i later e = other_than e

later_found : (b : Bool) (i : ℕ) (later : Option ℕ) → b ≡ false → cond b (Some i) later ≡ later
later_found true i later e = cc
later_found false i later e = refl

pub place_is : {X : Type 0} (p : X → Bool) (i n : ℕ) (xs : List X) (d : X) → n < length xs → p (get_or xs n d) ≡ true → ((k : ℕ) → k < n → p (get_or xs k d) ≡ false)
    → position_from p i xs ≡ Some (i + n)
place_is p i n [] d within t before = absurd (omega (arith, within))
place_is p i zero (x ∷ xs) d within t before = let e : i ≡ i + 0 = omega arith in first_found (p x) i (position_from p (i + 1) xs) t ∙ ap Some e
place_is p i (suc n) (x ∷ xs) d within t before =
    let e : i + 1 + n ≡ i + suc n = omega arith in
    later_found (p x) i (position_from p (i + 1) xs) (before 0 (omega arith))
    ∙ place_is p (i + 1) n xs d (omega (arith, within)) t (λ k l. before (suc k) (omega (arith, l)))
    ∙ ap Some e

place_step : (b : Bool) (i k n : ℕ) (later : Option ℕ) → cond b (Some i) later ≡ Some k → (later ≡ Some k → k < i + 1 + n) → k < i + suc n
place_step true i k n later e next = let same : i ≡ k = cc in omega (arith, same)
place_step false i k n later e next = let there = next e in omega (arith, there)

-- it is within the list
pub place_within : {X : Type 0} (p : X → Bool) (i k : ℕ) (xs : List X) → position_from p i xs ≡ Some k → k < i + length xs
place_within p i k [] e = cc
place_within p i k (x ∷ xs) e = place_step (p x) i k (length xs) (position_from p (i + 1) xs) e (place_within p (i + 1) k xs)
