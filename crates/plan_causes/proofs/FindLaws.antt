-- What is found in a list passes the test, and where nothing is found nothing passes.
use Rattle.std.proofs.Common.{arith, ◌≡◌, suc, Bool, false, true, ◌||◌, List, [], ◌∷◌, Option, None, Some, map, cond, refl, ap, ◌∙◌, sym, subst}
use Rattle.std.specs.Prelude.{find, Any}
use Rattle.std.specs.List.{list_any}
use Rattle.selection.proofs.TestLaws.{any_map}

none_step : {X : Type 0} (b : Bool) (x : X) (later : Option X) → cond b (Some x) later ≡ None → (b ≡ false) × (later ≡ None)
none_step true x later h = cc
none_step false x later h = (refl, h)

-- nothing is found
pub none_of : {X : Type 0} (p : X → Bool) (xs : List X) → find p xs ≡ None → list_any p xs ≡ false
none_of p [] h = refl
none_of p (x ∷ xs) h =
    let step = none_step (p x) x (find p xs) h in
    ap (λ b. b || list_any p xs) step.0 ∙ none_of p xs step.1

passes_step : {X : Type 0} (p : X → Bool) (b : Bool) (x y : X) (later : Option X) → p x ≡ b → cond b (Some x) later ≡ Some y → (later ≡ Some y → p y ≡ true) → p y ≡ true
passes_step p true x y later e h k = let same : x ≡ y = cc in ap p (sym same) ∙ e
passes_step p false x y later e h k = k h

-- what is found passes
pub found_passes : {X : Type 0} (p : X → Bool) (xs : List X) (y : X) → find p xs ≡ Some y → p y ≡ true
found_passes p [] y h = cc
found_passes p (x ∷ xs) y h = passes_step p (p x) x y (find p xs) refl h (found_passes p xs y)

one_step : {X : Type 0} (b any : Bool) (x y : X) (later : Option X) → cond b (Some x) later ≡ Some y → (later ≡ Some y → any ≡ true) → (b || any) ≡ true
one_step true any x y later h k = refl
one_step false any x y later h k = k h

-- and so one passes
pub one_of : {X : Type 0} (p : X → Bool) (xs : List X) (y : X) → find p xs ≡ Some y → list_any p xs ≡ true
one_of p [] y h = cc
one_of p (x ∷ xs) y h = one_step (p x) (list_any p xs) x y (find p xs) h (one_of p xs y)

later_is : {Y : Type 0} (P : Y → Type 0) (y : Y) (ys : List Y) → Any P ys → Any P (y ∷ ys)
later_is P y ys h = (suc h.0, h.1, omega (arith, h.2), h.3, h.4)

among_step : {X Y : Type 0} (f : X → Y) (P : Y → Type 0) (b : Bool) (x y : X) (ys : List Y) (later : Option X) → cond b (Some x) later ≡ Some y → P (f y) → (later ≡ Some y → Any P ys) → Any P (f x ∷ ys)
among_step f P true x y ys later h holds k =
    let same : y ≡ x = cc in
    (0, f x, omega arith, refl, subst (λ z. P (f z)) same holds)
among_step f P false x y ys later h holds k = later_is P (f x) ys (k h)

none_is_some : {X : Type 0} (y : X) → None ≡ Some y → ⊥
none_is_some y h = cc

-- what f makes of it is one of those that f makes
pub is_among : {X Y : Type 0} (p : X → Bool) (f : X → Y) (P : Y → Type 0) (xs : List X) (y : X) → find p xs ≡ Some y → P (f y) → Any P (map f xs)
is_among p f P [] y h holds = absurd (none_is_some y h)
is_among p f P (x ∷ xs) y h holds = among_step f P (p x) x y (map f xs) (find p xs) h holds (λ later. is_among p f P xs y later holds)

-- it is one of the list
pub is_there : {X : Type 0} (p : X → Bool) (P : X → Type 0) (xs : List X) (y : X) → find p xs ≡ Some y → P y → Any P xs
is_there p P [] y h holds = absurd (none_is_some y h)
is_there p P (x ∷ xs) y h holds = among_step (λ z. z) P (p x) x y xs (find p xs) h holds (λ later. is_there p P xs y later holds)

-- the same of a test of what f makes of the elements
pub none_passes : {X Y : Type 0} (p : Y → Bool) (f : X → Y) (xs : List X) → find (λ x. p (f x)) xs ≡ None → list_any p (map f xs) ≡ false
none_passes p f xs h = any_map p f xs ∙ none_of (λ x. p (f x)) xs h

pub one_passes : {X Y : Type 0} (p : Y → Bool) (f : X → Y) (xs : List X) (y : X) → find (λ x. p (f x)) xs ≡ Some y → list_any p (map f xs) ≡ true
one_passes p f xs y h = any_map p f xs ∙ one_of (λ x. p (f x)) xs y h
