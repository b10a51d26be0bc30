-- Numbers that are there twice.
use Rattle.std.proofs.Common.{ℕ, ℤ, zero, suc, ◌+◌, ◌<◌, ◌≡◌, ◌||◌, Bool, true, false, List, [], ◌∷◌, map, length, get_or, drop, take, ◌-◌, refl, ap, ◌∙◌, sym, arith}
use Rattle.std.specs.Ordering.{int_eq}
use Rattle.std.specs.List.{list_any}
use Rattle.request.specs.Request.{has_repeat}
use Rattle.request.proofs.ListLaws.{list_any-map, whole_rest}

-- the step of a search for a number that is there twice
pub repeat_step : (zs : List ℤ) (i : ℕ) (d : ℤ) → i < length zs → has_repeat (drop i zs) ≡ (list_any (int_eq (get_or zs i d)) (drop (i + 1) zs) || has_repeat (drop (i + 1) zs))
unfolding has_repeat
repeat_step [] i d l = absurd (omega arith)
repeat_step (z ∷ zs) zero d l = refl
repeat_step (z ∷ zs) (suc i) d l =
    let e : suc i + 1 ≡ suc (i + 1) = omega arith in
    rw e (repeat_step zs i d (omega arith))

-- the same of what stands at a field of each
pub repeat_step-map : {X : Type 0} (f : X → ℤ) (xs : List X) (i : ℕ) (d : X) → i < length xs
    → has_repeat (map f (drop i xs)) ≡ (list_any (λ x. int_eq (f (get_or xs i d)) (f x)) (drop (i + 1) xs) || has_repeat (map f (drop (i + 1) xs)))
unfolding has_repeat
repeat_step-map f [] i d l = absurd (omega arith)
repeat_step-map f (x ∷ xs) zero d l = ap (λ b. b || has_repeat (map f xs)) (list_any-map (int_eq (f x)) f xs)
repeat_step-map f (x ∷ xs) (suc i) d l =
    let e : suc i + 1 ≡ suc (i + 1) = omega arith in
    rw e (repeat_step-map f xs i d (omega arith))

-- what the search finds behind a place
abbrev pub found_behind : {X : Type 0} → (X → X → Bool) → List X → ℕ → X → Bool
found_behind is_same xs i d = list_any (is_same (get_or xs i d)) (take (length xs - (i + 1)) (drop (i + 1) xs))

pub repeat_none : (zs : List ℤ) (i : ℕ) (d : ℤ) → i < length zs → found_behind int_eq zs i d ≡ false → has_repeat (drop i zs) ≡ has_repeat (drop (i + 1) zs)
repeat_none zs i d l e =
    repeat_step zs i d l ∙ ap (λ b. b || has_repeat (drop (i + 1) zs)) (ap (list_any (int_eq (get_or zs i d))) (sym (whole_rest zs (i + 1))) ∙ e)

pub repeat_some : (zs : List ℤ) (i : ℕ) (d : ℤ) → i < length zs → found_behind int_eq zs i d ≡ true → has_repeat (drop i zs) ≡ true
repeat_some zs i d l e =
    repeat_step zs i d l ∙ ap (λ b. b || has_repeat (drop (i + 1) zs)) (ap (list_any (int_eq (get_or zs i d))) (sym (whole_rest zs (i + 1))) ∙ e)

pub repeat_none-map : {X : Type 0} (f : X → ℤ) (xs : List X) (i : ℕ) (d : X) → i < length xs → found_behind (λ a b. int_eq (f a) (f b)) xs i d ≡ false
    → has_repeat (map f (drop i xs)) ≡ has_repeat (map f (drop (i + 1) xs))
repeat_none-map f xs i d l e =
    repeat_step-map f xs i d l ∙ ap (λ b. b || has_repeat (map f (drop (i + 1) xs))) (ap (list_any (λ x. int_eq (f (get_or xs i d)) (f x))) (sym (whole_rest xs (i + 1))) ∙ e)

pub repeat_some-map : {X : Type 0} (f : X → ℤ) (xs : List X) (i : ℕ) (d : X) → i < length xs → found_behind (λ a b. int_eq (f a) (f b)) xs i d ≡ true
    → has_repeat (map f (drop i xs)) ≡ true
repeat_some-map f xs i d l e =
    repeat_step-map f xs i d l ∙ ap (λ b. b || has_repeat (map f (drop (i + 1) xs))) (ap (list_any (λ x. int_eq (f (get_or xs i d)) (f x))) (sym (whole_rest xs (i + 1))) ∙ e)
