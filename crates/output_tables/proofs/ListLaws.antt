-- Facts of lists that no word of a plan is in.
use Rattle.std.proofs.Common.{◌≡◌, ◌+◌, ◌<◌, ◌++◌, length, get_or, take, drop, drop-cons, add-one, subst, sym, ap, ◌∙◌, ℕ, zero, suc, Bool, true, false, if◌then◌else◌, List, [], ◌∷◌, map, Option, Some, None}
use Rattle.std.specs.Prelude.{IfSome}
use Rattle.std.proofs.lemmas.List.{take_more}
use Rattle.std.specs.List.{All, AllZip, slice_get, find, filter_map, cons_option}
use Rattle.std.proofs.lemmas.List.Elements.{All-nil, All-cons, All-head, All-tail}

-- what all images have
pub all_unmapped : {X Y : Type 0} (f : Y → X) (P : X → Type 0) (ys : List Y) → All P (map f ys) → All (λ y. P (f y)) ys
all_unmapped f P [] h = All-nil (λ y. P (f y))
all_unmapped f P (y ∷ ys) h =
    All-cons (λ z. P (f z)) y ys (All-head P (f y) (map f ys) h) (all_unmapped f P ys (All-tail P (f y) (map f ys) h))

-- what all elements have, the one at a place has
pub got_has : {X : Type 0} (P : X → Type 0) (xs : List X) (i : ℕ) → All P xs → IfSome (slice_get xs i) P
got_has P [] i h = tt
got_has P (x ∷ xs) zero h = All-head P x xs h
got_has P (x ∷ xs) (suc i) h = got_has P xs i (All-tail P x xs h)

-- and the first that passes a test
pub found_has : {X : Type 0} (P : X → Type 0) (test : X → Bool) (xs : List X) → All P xs → IfSome (find test xs) P
found_has P test [] h = tt
found_has P test (x ∷ xs) h =
    cond_has P (test x) x (find test xs) (All-head P x xs h) (found_has P test xs (All-tail P x xs h))
  where
    cond_has : {X : Type 0} (P : X → Type 0) (b : Bool) (x : X) (r : Option X) → P x → IfSome r P → IfSome (if b then Some x else r) P
    cond_has P true x r p q = p
    cond_has P false x r p q = q

-- and those at some places
pub all_got : {X : Type 0} (P : X → Type 0) (xs : List X) (places : List ℕ) → All P xs → All P (filter_map (λ i. slice_get xs i) places)
all_got P xs [] h = All-nil P
all_got P xs (i ∷ places) h = more P (slice_get xs i) (filter_map (λ j. slice_get xs j) places) (got_has P xs i h) (all_got P xs places h)
  where
    more : {X : Type 0} (P : X → Type 0) (r : Option X) (ys : List X) → IfSome r P → All P ys → All P (cons_option r ys)
    more P None ys p q = q
    more P (Some x) ys p q = All-cons P x ys p q

-- what all images have, that of an element has
pub item_has : {X Y : Type 0} (f : Y → X) (P : X → Type 0) (ys : List Y) (i : ℕ) (y : Y) → i < length ys → y ≡ get_or ys i y → All P (map f ys) → P (f y)
item_has f P ys i y l e h = subst (λ z. P (f z)) (sym e) (all_unmapped f P ys h i y l)

-- the rest begins with the element at the place
pub rest_split : {X : Type 0} (xs : List X) (i : ℕ) (x : X) → i < length xs → x ≡ get_or xs i x → drop i xs ≡ x ∷ drop (i + 1) xs
rest_split xs i x l e = drop-cons xs i x l ∙ ap (λ y. y ∷ drop (suc i) xs) (sym e) ∙ ap (λ j. x ∷ drop j xs) (sym (add-one i))

-- one more pair
pub zip_push : {A B : Type 0} (R : A → B → Type 0) (xs : List A) (ys : List B) (x : A) (y : B) → AllZip R xs ys → R x y → AllZip R (xs ++ x ∷ []) (ys ++ y ∷ [])
zip_push R [] [] x y h r = (r, tt)
zip_push R [] (b ∷ ys) x y h r = absurd h
zip_push R (a ∷ xs) [] x y h r = absurd h
zip_push R (a ∷ xs) (b ∷ ys) x y h r = (h.0, zip_push R xs ys x y h.1 r)

-- one element more at the front
pub taken_more : {X : Type 0} (xs : List X) (i : ℕ) (x : X) → i < length xs → x ≡ get_or xs i x → take (i + 1) xs ≡ take i xs ++ x ∷ []
taken_more xs i x l e = take_more xs i x l ∙ ap (λ y. take i xs ++ y ∷ []) (sym e)
