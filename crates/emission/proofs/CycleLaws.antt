-- What passes a test, in a list that is gone through again and again.
use Rattle.std.proofs.Common.{ℕ, zero, suc, ◌+◌, ◌*◌, ◌/◌, ◌%◌, ◌<◌, ◌≤◌, ◌≡◌, ◌⊎◌, Bool, true, false, cond, List, [], ◌∷◌, ◌++◌, length, take, get_or, Some, refl, ap, ◌∙◌, sym, subst, add-one, arith, inl, inr}
use Rattle.std.specs.List.{slice_get, filter}
use Rattle.std.proofs.lemmas.Nat.{mod-mul-add, div-mul-add, div-add-mod', mod_below}
use Rattle.std.proofs.lemmas.Bool.{cases_lt, cases_Bool}
use Rattle.std.proofs.lemmas.List.{take_all, length-append, append-nil}
use Rattle.std.proofs.lemmas.Option.{slice_get_within, get_or_from_slice_get}
use Rattle.std.proofs.lemmas.List.Elements.{filter_more}

-- one element more
pub filter_next : {X : Type 0} (p : X → Bool) (xs : List X) (i : ℕ) (x : X) → slice_get xs i ≡ Some x → filter p (take (suc i) xs) ≡ filter p (take i xs) ++ cond (p x) (x ∷ []) []
filter_next p xs i x e =
    let l = slice_get_within xs i x e in
    let is : get_or xs i x ≡ x = get_or_from_slice_get xs i x x e in
    ap (λ n. filter p (take n xs)) (sym (add-one i)) ∙ filter_more p xs i x l ∙ ap (λ y. filter p (take i xs) ++ cond (p y) (y ∷ []) []) is

pub filter_yes : {X : Type 0} (p : X → Bool) (xs : List X) (i : ℕ) (x : X) → slice_get xs i ≡ Some x → p x ≡ true → filter p (take (suc i) xs) ≡ filter p (take i xs) ++ x ∷ []
filter_yes p xs i x e t = filter_next p xs i x e ∙ ap (λ b. filter p (take i xs) ++ cond b (x ∷ []) []) t

pub filter_no : {X : Type 0} (p : X → Bool) (xs : List X) (i : ℕ) (x : X) → slice_get xs i ≡ Some x → p x ≡ false → filter p (take (suc i) xs) ≡ filter p (take i xs)
filter_no p xs i x e t = filter_next p xs i x e ∙ ap (λ b. filter p (take i xs) ++ cond b (x ∷ []) []) t ∙ append-nil (filter p (take i xs))

-- where an element that passes stands among those that do
pub filter_place : {X : Type 0} (p : X → Bool) (xs : List X) (i : ℕ) (x : X) → slice_get xs i ≡ Some x → p x ≡ true → slice_get (filter p xs) (length (filter p (take i xs))) ≡ Some x
filter_place p [] i x e t = cc
filter_place p (y ∷ ys) zero x e t =
    let same : y ≡ x = cc in
    let passes : p y ≡ true = ap p same ∙ t in
    ap (λ b. slice_get (cond b (y ∷ filter p ys) (filter p ys)) 0) passes ∙ e
filter_place p (y ∷ ys) (suc i) x e t = behind (p y) (filter_place p ys i x e t)
  where
    behind : (b : Bool) → slice_get (filter p ys) (length (filter p (take i ys))) ≡ Some x → slice_get (cond b (y ∷ filter p ys) (filter p ys)) (length (cond b (y ∷ filter p (take i ys)) (filter p (take i ys)))) ≡ Some x
    behind true h = h
    behind false h = h

-- how many of the first t elements of the endless repetition pass
unfoldable pub kept : {X : Type 0} → (X → Bool) → List X → ℕ → ℕ
kept p xs t = t / length xs * length (filter p xs) + length (filter p (take (t % length xs) xs))

kept_step : {X : Type 0} (p : X → Bool) (xs : List X) (t : ℕ) → 0 < length xs → kept p xs (suc t) ≡ t / length xs * length (filter p xs) + length (filter p (take (suc (t % length xs)) xs))
unfolding kept
kept_step p xs t l =
    let n = length xs in
    let b = length (filter p xs) in
    let whole = div-add-mod' t n in
    let below = mod_below t n l in
    elim (cases_lt (suc (t % n)) n) [
      | inl h ↦
          let e : t / n * n + suc (t % n) ≡ suc t = omega arith in
          let q : suc t / n ≡ t / n = ap (λ k. k / n) (sym e) ∙ div-mul-add (t / n) n (suc (t % n)) h in
          let r : suc t % n ≡ suc (t % n) = ap (λ k. k % n) (sym e) ∙ mod-mul-add (t / n) n (suc (t % n)) h in
          ap (λ k. k * b + length (filter p (take (suc t % n) xs))) q ∙ ap (λ k. t / n * b + length (filter p (take k xs))) r
      | inr h ↦
          let last : suc (t % n) ≡ n = omega arith in
          let more : (t / n + 1) * n ≡ t / n * n + n = omega arith in
          let e : (t / n + 1) * n + 0 ≡ suc t = omega arith in
          let q : suc t / n ≡ t / n + 1 = ap (λ k. k / n) (sym e) ∙ div-mul-add (t / n + 1) n 0 l in
          let r : suc t % n ≡ 0 = ap (λ k. k % n) (sym e) ∙ mod-mul-add (t / n + 1) n 0 l in
          let all : length (filter p (take (suc (t % n)) xs)) ≡ b = ap (λ k. length (filter p (take k xs))) last ∙ ap (λ ys. length (filter p ys)) (take_all n xs (omega arith)) in
          let some : (t / n + 1) * b ≡ t / n * b + b = omega arith in
          ap (λ k. k * b + length (filter p (take (suc t % n) xs))) q ∙ ap (λ k. (t / n + 1) * b + length (filter p (take k xs))) r ∙ omega arith
    ]

pub kept_yes : {X : Type 0} (p : X → Bool) (xs : List X) (t : ℕ) (x : X) → slice_get xs (t % length xs) ≡ Some x → p x ≡ true → kept p xs (suc t) ≡ suc (kept p xs t)
unfolding kept
kept_yes p xs t x e y =
    let within = slice_get_within xs (t % length xs) x e in
    let parts = ap length (filter_yes p xs (t % length xs) x e y) ∙ length-append (filter p (take (t % length xs) xs)) (x ∷ []) in
    kept_step p xs t (omega arith) ∙ omega arith

pub kept_no : {X : Type 0} (p : X → Bool) (xs : List X) (t : ℕ) (x : X) → slice_get xs (t % length xs) ≡ Some x → p x ≡ false → kept p xs (suc t) ≡ kept p xs t
unfolding kept
kept_no p xs t x e y =
    let within = slice_get_within xs (t % length xs) x e in
    let parts = ap length (filter_no p xs (t % length xs) x e y) in
    kept_step p xs t (omega arith) ∙ omega arith

-- whose turn it is among those that pass
kept_at : {X : Type 0} (p : X → Bool) (xs : List X) (t : ℕ) (x : X) → slice_get xs (t % length xs) ≡ Some x → p x ≡ true → slice_get (filter p xs) (kept p xs t % length (filter p xs)) ≡ Some x
unfolding kept
kept_at p xs t x e y =
    let place = length (filter p (take (t % length xs) xs)) in
    let is = filter_place p xs (t % length xs) x e y in
    let l = slice_get_within (filter p xs) place x is in
    ap (slice_get (filter p xs)) (mod-mul-add (t / length xs) (length (filter p xs)) place l) ∙ is

pub kept_none : {X : Type 0} (p : X → Bool) (xs : List X) → 0 < length xs → kept p xs 0 ≡ 0
unfolding kept
kept_none p xs l =
    let e : 0 * length xs + 0 ≡ 0 = omega arith in
    let q : 0 / length xs ≡ 0 = ap (λ k. k / length xs) (sym e) ∙ div-mul-add 0 (length xs) 0 l in
    let r : 0 % length xs ≡ 0 = ap (λ k. k % length xs) (sym e) ∙ mod-mul-add 0 (length xs) 0 l in
    ap (λ k. k * length (filter p xs) + length (filter p (take (0 % length xs) xs))) q ∙ ap (λ k. 0 * length (filter p xs) + length (filter p (take k xs))) r ∙ omega arith

get_push : {X : Type 0} (xs : List X) (y x : X) (k : ℕ) → slice_get (xs ++ y ∷ []) k ≡ Some x → (slice_get xs k ≡ Some x) ⊎ ((k ≡ length xs) × (y ≡ x))
get_push [] y x zero e = inr (refl, cc)
get_push [] y x (suc k) e = cc
get_push (z ∷ xs) y x zero e = inl e
get_push (z ∷ xs) y x (suc k) e = elim (get_push xs y x k e) [
  | inl h ↦ inl h
  | inr h ↦ inr (ap suc h.0, h.1)
]

-- what may go out next: the element whose turn it is, by its number among those that pass, or one that doesn't pass
pub record TakesTurn {X : Type 0} (p : X → Bool) (number : X → ℕ → X) (xs before : List X) (t u : ℕ) (q x : X) : Type 0 where
  pub turn : slice_get xs (t % length xs) ≡ Some x
  pub same : p q ≡ p x
  pub is : p x ≡ true → q ≡ number x (length (filter p before))
  pub next : u ≡ suc t

pub record PassesBy {X : Type 0} (p : X → Bool) (t u : ℕ) (q : X) : Type 0 where
  pub not : p q ≡ false
  pub same : u ≡ t

abbrev pub Steps : {X : Type 0} → (X → Bool) → (X → ℕ → X) → List X → List X → (ℕ → ℕ) → Type 0
Steps {X} p number xs out turn = (m : ℕ) (q : X) → slice_get out m ≡ Some q → ((x : X) × TakesTurn p number xs (take m out) (turn m) (turn (suc m)) q x) ⊎ PassesBy p (turn m) (turn (suc m)) q

-- what went out and passes is, one by one, the repetition of what passes
abbrev pub RepeatsBy : {X : Type 0} → (X → ℕ → X) → List X → List X → Type 0
RepeatsBy {X} number cycle ys = (k : ℕ) (q : X) → slice_get ys k ≡ Some q → (x : X) × (slice_get cycle (k % length cycle) ≡ Some x) × (q ≡ number x k)

record SoFar {X : Type 0} (p : X → Bool) (number : X → ℕ → X) (xs out : List X) (t : ℕ) : Type 0 where
  count : length (filter p out) ≡ kept p xs t
  repeats : RepeatsBy number (filter p xs) (filter p out)

more_repeats : {X : Type 0} (number : X → ℕ → X) (cycle ys : List X) (q x : X) → slice_get cycle (length ys % length cycle) ≡ Some x → q ≡ number x (length ys) → RepeatsBy number cycle ys → RepeatsBy number cycle (ys ++ q ∷ [])
more_repeats number cycle ys q x turn is h = λ k r e. elim (get_push ys q r k e) [
  | inl old ↦ h k r old
  | inr new ↦
      (x, ap (λ n. slice_get cycle (n % length cycle)) new.0 ∙ turn, sym new.1 ∙ is ∙ ap (number x) (sym new.0))
]

so_far_turn : {X : Type 0} (p : X → Bool) (number : X → ℕ → X) (xs out : List X) (m t u : ℕ) (q x : X) → slice_get out m ≡ Some q → TakesTurn p number xs (take m out) t u q x → SoFar p number xs (take m out) t → SoFar p number xs (take (suc m) out) u
so_far_turn p number xs out m t u q x e s h = elim (cases_Bool (p x)) [
  | inl y ↦
      let all = filter_yes p out m q e (s.same ∙ y) in
      let place : slice_get (filter p xs) (length (filter p (take m out)) % length (filter p xs)) ≡ Some x =
      ap (λ n. slice_get (filter p xs) (n % length (filter p xs))) h.count ∙ kept_at p xs t x s.turn y in
      let count = h.count in
      let parts = ap length all ∙ length-append (filter p (take m out)) (q ∷ []) in
      let kept_more = ap (kept p xs) s.next ∙ kept_yes p xs t x s.turn y in
      record {
        count = omega arith;
        repeats = subst (RepeatsBy number (filter p xs)) (sym all) (more_repeats number (filter p xs) (filter p (take m out)) q x place (s.is y) h.repeats);
      }
  | inr n ↦
      let all = filter_no p out m q e (s.same ∙ n) in
      record {
        count = ap length all ∙ h.count ∙ sym (ap (kept p xs) s.next ∙ kept_no p xs t x s.turn n);
        repeats = subst (RepeatsBy number (filter p xs)) (sym all) h.repeats;
      }
]

so_far_by : {X : Type 0} (p : X → Bool) (number : X → ℕ → X) (xs out : List X) (m t u : ℕ) (q : X) → slice_get out m ≡ Some q → PassesBy p t u q → SoFar p number xs (take m out) t → SoFar p number xs (take (suc m) out) u
so_far_by p number xs out m t u q e s h =
    let all = filter_no p out m q e s.not in
    record {
      count = ap length all ∙ h.count ∙ sym (ap (kept p xs) s.same);
      repeats = subst (RepeatsBy number (filter p xs)) (sym all) h.repeats;
    }

so_far : {X : Type 0} (p : X → Bool) (number : X → ℕ → X) (xs out : List X) (turn : ℕ → ℕ) → 0 < length xs → turn 0 ≡ 0 → Steps p number xs out turn → (m : ℕ) → m ≤ length out → SoFar p number xs (take m out) (turn m)
so_far p number xs out turn l z s zero h = record { count = sym (ap (kept p xs) z ∙ kept_none p xs l); repeats = λ k q e. cc }
so_far p number xs out turn l z s (suc m) h =
    let before = so_far p number xs out turn l z s m (omega arith) in
    let here = got out m (omega arith) in
    elim (s m here.0 here.1) [
      | inl a ↦ so_far_turn p number xs out m (turn m) (turn (suc m)) here.0 a.0 here.1 a.1 before
      | inr a ↦ so_far_by p number xs out m (turn m) (turn (suc m)) here.0 here.1 a before
    ]
  where
    got : {X : Type 0} (ys : List X) (i : ℕ) → i < length ys → (x : X) × (slice_get ys i ≡ Some x)
    got [] i l = absurd (omega arith)
    got (y ∷ ys) zero l = (y, refl)
    got (y ∷ ys) (suc i) l = got ys i (omega arith)

pub repeats : {X : Type 0} (p : X → Bool) (number : X → ℕ → X) (xs out : List X) (turn : ℕ → ℕ) → 0 < length xs → turn 0 ≡ 0 → Steps p number xs out turn → RepeatsBy number (filter p xs) (filter p out)
repeats p number xs out turn l z s =
    let all = so_far p number xs out turn l z s (length out) (omega arith) in
    subst (λ ys. RepeatsBy number (filter p xs) (filter p ys)) (take_all (length out) out (omega arith)) all.repeats
