-- Laws of tests over lists.
use Rattle.std.proofs.Common.{◌≡◌, Bool, false, true, ◌||◌, List, [], ◌∷◌, Option, None, Some, map, filter, cond, refl, ap, ◌∙◌}
use Rattle.std.specs.List.{list_any, filter_map, cons_option}
use Rattle.std.specs.Option.{option_map_or}

-- a test of what f makes of the elements is a test of the elements
pub any_map : {X Y : Type 0} (p : Y → Bool) (f : X → Y) (xs : List X) → list_any p (map f xs) ≡ list_any (λ x. p (f x)) xs
any_map p f [] = refl
any_map p f (x ∷ xs) = ap (λ b. p (f x) || b) (any_map p f xs)

any_cons_option : {Y : Type 0} (p : Y → Bool) (o : Option Y) (ys : List Y) → list_any p (cons_option o ys) ≡ (option_map_or p o false || list_any p ys)
any_cons_option p None ys = refl
any_cons_option p (Some y) ys = refl

-- a test of those that h gives is a test of all: one for which h gives none doesn't pass
pub any_filter_map : {X Y : Type 0} (p : Y → Bool) (h : X → Option Y) (xs : List X) → list_any p (filter_map h xs) ≡ list_any (λ x. option_map_or p (h x) false) xs
any_filter_map p h [] = refl
any_filter_map p h (x ∷ xs) = any_cons_option p (h x) (filter_map h xs) ∙ ap (λ b. option_map_or p (h x) false || b) (any_filter_map p h xs)

filter_cons : {X Y : Type 0} (q : Y → Bool) (f : X → Y) (x : X) (b : Bool) (ys : List Y) (xs : List X) → ys ≡ map f xs → cond b (f x ∷ ys) ys ≡ map f (cond b (x ∷ xs) xs)
filter_cons q f x true ys xs e = ap (λ rest. f x ∷ rest) e
filter_cons q f x false ys xs e = e

-- what passes the test among what f makes of the elements
pub filter_map_law : {X Y : Type 0} (q : Y → Bool) (f : X → Y) (xs : List X) → filter q (map f xs) ≡ map f (filter (λ x. q (f x)) xs)
filter_map_law q f [] = refl
filter_map_law q f (x ∷ xs) = filter_cons q f x (q (f x)) (filter q (map f xs)) (filter (λ x. q (f x)) xs) (filter_map_law q f xs)
