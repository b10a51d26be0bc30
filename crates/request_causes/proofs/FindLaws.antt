-- What is found in a list passes the test, and where nothing is found nothing passes.
use Rattle.std.proofs.Common.{arith, ◌≡◌, ℕ, suc, ◌+◌, Bool, false, true, ◌||◌, List, [], ◌∷◌, Option, None, Some, map, slice_get, cond, refl, ap, ◌∙◌, sym, subst}
use Rattle.std.specs.Prelude.{find, All}
use Rattle.std.specs.List.{list_any, position_from}
use Rattle.std.proofs.lemmas.List.Elements.{All-head, All-tail}
use Rattle.request.proofs.ListLaws.{list_any-map, list_any_agree}

none_step : {X : Type 0} (b : Bool) (x : X) (later : Option X) → cond b (Some x) later ≡ None → (b ≡ false) × (later ≡ None)
none_step true x later h = cc
none_step false x later h = (refl, h)

-- nothing is found
pub none_of : {X : Type 0} (p : X → Bool) (xs : List X) → find p xs ≡ None → list_any p xs ≡ false
none_of p [] h = refl
none_of p (x ∷ xs) h =
    let step = none_step (p x) x (find p xs) h in
    ap (λ b. b || list_any p xs) step.0 ∙ none_of p xs step.1

passes_step : {X : Type 0} (p : X → Bool) (b : Bool) (x y : X) (later : Option X) → p x ≡ b → cond b (Some x) later ≡ Some y → (later ≡ Some y → p y ≡ true) → p y ≡ true
passes_step p true x y later e h k = let same : x ≡ y = cc in ap p (sym same) ∙ e
passes_step p false x y later e h k = k h

-- what is found passes
pub found_passes : {X : Type 0} (p : X → Bool) (xs : List X) (y : X) → find p xs ≡ Some y → p y ≡ true
found_passes p [] y h = cc
found_passes p (x ∷ xs) y h = passes_step p (p x) x y (find p xs) refl h (found_passes p xs y)

one_step : {X : Type 0} (b any : Bool) (x y : X) (later : Option X) → cond b (Some x) later ≡ Some y → (later ≡ Some y → any ≡ true) → (b || any) ≡ true
one_step true any x y later h k = refl
one_step false any x y later h k = k h

-- and so one passes
pub one_of : {X : Type 0} (p : X → Bool) (xs : List X) (y : X) → find p xs ≡ Some y → list_any p xs ≡ true
one_of p [] y h = cc
one_of p (x ∷ xs) y h = one_step (p x) (list_any p xs) x y (find p xs) h (one_of p xs y)

none_is_some : {X : Type 0} (y : X) → None ≡ Some y → ⊥
none_is_some y h = cc

holds_step : {X : Type 0} (P : X → Type 0) (b : Bool) (x y : X) (later : Option X) → cond b (Some x) later ≡ Some y → P x → (later ≡ Some y → P y) → P y
holds_step P true x y later h here k = let same : x ≡ y = cc in subst P same here
holds_step P false x y later h here k = k h

-- what is so of all is so of it
pub found_holds : {X : Type 0} (P : X → Type 0) (p : X → Bool) (xs : List X) (y : X) → All P xs → find p xs ≡ Some y → P y
found_holds P p [] y all h = absurd (none_is_some y h)
found_holds P p (x ∷ xs) y all h = holds_step P (p x) x y (find p xs) h (All-head P x xs all) (found_holds P p xs y (All-tail P x xs all))

true_not_false : (b : Bool) → b ≡ true → b ≡ false → ⊥
true_not_false b h e = cc

-- where one passes, one is found
pub is_found : {X : Type 0} (p : X → Bool) (xs : List X) → list_any p xs ≡ true → find p xs ≡ None → ⊥
is_found p xs h e = true_not_false (list_any p xs) h (none_of p xs e)

-- the same of the first place of one that passes
no_place_step : (b : Bool) (i : ℕ) (later : Option ℕ) → cond b (Some i) later ≡ None → (b ≡ false) × (later ≡ None)
no_place_step b i later h = none_step b i later h

pub no_place : {X : Type 0} (p : X → Bool) (i : ℕ) (xs : List X) → position_from p i xs ≡ None → list_any p xs ≡ false
no_place p i [] h = refl
no_place p i (x ∷ xs) h =
    let step = no_place_step (p x) i (position_from p (i + 1) xs) h in
    ap (λ b. b || list_any p xs) step.0 ∙ no_place p (i + 1) xs step.1

pub is_placed : {X : Type 0} (p : X → Bool) (xs : List X) → list_any p xs ≡ true → position_from p 0 xs ≡ None → ⊥
is_placed p xs h e = true_not_false (list_any p xs) h (no_place p 0 xs e)

-- the element at the place passes
abbrev pub PassesAt : {X : Type 0} → (X → Bool) → List X → ℕ → ℕ → Type 0
PassesAt {X} p xs i k = (n : ℕ) × (x : X) × (k ≡ i + n) × (slice_get xs n ≡ Some x) × (p x ≡ true)

place_step : {X : Type 0} (p : X → Bool) (x : X) (xs : List X) (i k : ℕ) (b : Bool) → p x ≡ b → cond b (Some i) (position_from p (i + 1) xs) ≡ Some k
    → (position_from p (i + 1) xs ≡ Some k → PassesAt p xs (i + 1) k) → PassesAt p (x ∷ xs) i k
place_step p x xs i k true e h later = let same : i ≡ k = cc in (0, x, omega arith, refl, e)
place_step p x xs i k false e h later = let at = later h in (suc at.0, at.1, omega (arith, at.2), at.3, at.4)

pub passes_at : {X : Type 0} (p : X → Bool) (xs : List X) (i k : ℕ) → position_from p i xs ≡ Some k → PassesAt p xs i k
passes_at p [] i k h = absurd (none_is_some k h)
passes_at p (x ∷ xs) i k h = place_step p x xs i k (p x) refl h (passes_at p xs (i + 1) k)

any_step : (b any : Bool) (i k : ℕ) (later : Option ℕ) → cond b (Some i) later ≡ Some k → (later ≡ Some k → any ≡ true) → (b || any) ≡ true
any_step b any i k later h next = one_step b any i k later h next

pub any_placed : {X : Type 0} (p : X → Bool) (xs : List X) (i k : ℕ) → position_from p i xs ≡ Some k → list_any p xs ≡ true
any_placed p [] i k h = absurd (none_is_some k h)
any_placed p (x ∷ xs) i k h = any_step (p x) (list_any p xs) i k (position_from p (i + 1) xs) h (any_placed p xs (i + 1) k)

-- an element with which another passes a test of two, by what v makes of them
abbrev pub has_other : {X Y : Type 0} → (Y → Y → Bool) → (X → Y) → List X → X → Bool
has_other test v xs x = list_any (λ other. test (v x) (v other)) xs

pub pairs_are : {X Y : Type 0} (test : Y → Y → Bool) (v : X → Y) (xs : List X) (ys : List Y) → map v xs ≡ ys → list_any (λ a. list_any (test a) ys) ys ≡ list_any (has_other test v xs) xs
pairs_are test v xs ys same =
    ap (λ zs. list_any (λ a. list_any (test a) zs) zs) (sym same)
    ∙ list_any-map (λ a. list_any (test a) (map v xs)) v xs
    ∙ list_any_agree (λ x. list_any (test (v x)) (map v xs)) (has_other test v xs) (λ x. list_any-map (test (v x)) v xs) xs
