-- Tests over lists of lists, and filters.
use Rattle.std.proofs.Common.{ℕ, ◌≡◌, ◌||◌, ◌&&◌, Bool, true, false, cond, List, [], ◌∷◌, ◌++◌, map, length, drop, take, length-drop, ◌-◌, refl, ap, ◌∙◌, arith, All, ◌<◌}
use Rattle.std.proofs.lemmas.List.{take_all, length-map, get_or-map}
use Rattle.std.proofs.lemmas.List.Folds.{list_any-append, list_all-append}
use Rattle.std.proofs.lemmas.List.Elements.{All-map, All-weaker}
use Rattle.std.proofs.lemmas.List.Sums.{AllPass-from_list_all}
use Rattle.std.proofs.lemmas.Bool.{and_parts, and_from}
use Rattle.std.specs.List.{list_any, list_all, flat_map, filter, AllPairs}

pub list_any-map : {X Y : Type 0} (p : Y → Bool) (f : X → Y) (xs : List X) → list_any p (map f xs) ≡ list_any (λ x. p (f x)) xs
list_any-map p f [] = refl
list_any-map p f (x ∷ xs) = ap (λ b. p (f x) || b) (list_any-map p f xs)

-- a filter behind a filter
step : {X : Type 0} (p q : X → Bool) (x : X) (xs : List X) (a b : Bool) → q x ≡ a → p x ≡ b → filter p (filter q xs) ≡ filter (λ x. q x && p x) xs
    → filter p (filter q (x ∷ xs)) ≡ filter (λ x. q x && p x) (x ∷ xs)
step p q x xs true true e f ih = rw (e, f) (ap (λ ys. x ∷ ys) ih)
step p q x xs true false e f ih = rw (e, f) ih
step p q x xs false b e f ih = rw e ih

pub filter-filter : {X : Type 0} (p q : X → Bool) (xs : List X) → filter p (filter q xs) ≡ filter (λ x. q x && p x) xs
filter-filter p q [] = refl
filter-filter p q (x ∷ xs) = step p q x xs (q x) (p x) refl refl (filter-filter p q xs)

-- what stands behind a place, as far as it goes
pub whole_rest : {X : Type 0} (xs : List X) (n : ℕ) → take (length xs - n) (drop n xs) ≡ drop n xs
whole_rest xs n = take_all (length xs - n) (drop n xs) (omega (arith, length-drop n xs))

-- a test of the elements of lists that are in a row
pub list_any-flat_map : {X Y Z : Type 0} (p : Z → Bool) (f : Y → List Z) (v : X → Y) (xs : List X) → list_any p (flat_map f (map v xs)) ≡ list_any (λ x. list_any p (f (v x))) xs
list_any-flat_map p f v [] = refl
list_any-flat_map p f v (x ∷ xs) =
    list_any-append p (f (v x)) (flat_map f (map v xs)) ∙ ap (λ b. list_any p (f (v x)) || b) (list_any-flat_map p f v xs)

-- two tests that agree
pub list_any_agree : {X : Type 0} (p q : X → Bool) → ((x : X) → p x ≡ q x) → (xs : List X) → list_any p xs ≡ list_any q xs
list_any_agree p q same [] = refl
list_any_agree p q same (x ∷ xs) = ap (λ b. b || list_any p xs) (same x) ∙ ap (λ b. q x || b) (list_any_agree p q same xs)

-- what a test that all pass tells
pub list_all_weaker : {X : Type 0} (p q : X → Bool) → ((x : X) → p x ≡ true → q x ≡ true) → (xs : List X) → list_all p xs ≡ true → list_all q xs ≡ true
list_all_weaker p q h [] e = refl
list_all_weaker p q h (x ∷ xs) e =
    let both = and_parts (p x) (list_all p xs) e in
    and_from (q x) (list_all q xs) (h x both.0) (list_all_weaker p q h xs both.1)

pub list_all-filter : {X : Type 0} (p keep : X → Bool) (xs : List X) → list_all p xs ≡ true → list_all p (filter keep xs) ≡ true
list_all-filter p keep [] e = refl
list_all-filter p keep (x ∷ xs) e =
    let both = and_parts (p x) (list_all p xs) e in
    kept (keep x) both.0 (list_all-filter p keep xs both.1)
  where
    kept : (b : Bool) → p x ≡ true → list_all p (filter keep xs) ≡ true → list_all p (cond b (x ∷ filter keep xs) (filter keep xs)) ≡ true
    kept true h t = and_from (p x) (list_all p (filter keep xs)) h t
    kept false h t = t

pub list_all-flat_map : {X Y : Type 0} (p : Y → Bool) (f : X → List Y) (xs : List X) → list_all p (flat_map f xs) ≡ list_all (λ x. list_all p (f x)) xs
list_all-flat_map p f [] = refl
list_all-flat_map p f (x ∷ xs) = list_all-append p (f x) (flat_map f xs) ∙ ap (λ b. list_all p (f x) && b) (list_all-flat_map p f xs)

pub all_from : {X Y : Type 0} (p : X → Bool) (f : X → Y) (P : Y → Type 0) → ((x : X) → p x ≡ true → P (f x)) → (xs : List X) → list_all p xs ≡ true → All P (map f xs)
all_from p f P h xs e = All-map P f xs (All-weaker (λ x. p x ≡ true) (λ x. P (f x)) h xs (AllPass-from_list_all p xs e))

pub map-map : {X Y Z : Type 0} (g : Y → Z) (f : X → Y) (xs : List X) → map g (map f xs) ≡ map (λ x. g (f x)) xs
map-map g f [] = refl
map-map g f (x ∷ xs) = ap (λ ys. g (f x) ∷ ys) (map-map g f xs)

pub map-append : {X Y : Type 0} (f : X → Y) (xs ys : List X) → map f (xs ++ ys) ≡ map f xs ++ map f ys
map-append f [] ys = refl
map-append f (x ∷ xs) ys = ap (λ zs. f x ∷ zs) (map-append f xs ys)

-- a fact of each two elements, behind a map
pub all_pairs-map : {X Y : Type 0} (R : Y → Y → Type 0) (f : X → Y) (xs : List X) (d : X) → AllPairs (λ a b. R (f a) (f b)) xs → AllPairs R (map f xs)
all_pairs-map R f xs d pairs i j e l m =
    let within : j < length xs = omega (arith, length-map xs f) in
    let before : i < length xs = omega arith in
    rw (get_or-map f xs i d e before, get_or-map f xs j d e within) (pairs i j d l within)
