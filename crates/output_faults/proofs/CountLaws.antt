-- How many elements that pass a test went out, of a list that is gone through again and again.
use Rattle.std.proofs.Common.{ℕ, zero, suc, ◌+◌, ◌*◌, ◌/◌, ◌%◌, ◌<◌, ◌≤◌, ◌≡◌, Bool, List, [], ◌∷◌, length, take, Some, refl, ap, ◌∙◌, sym, arith, inl, inr}
use Rattle.std.specs.List.{slice_get, filter}
use Rattle.std.proofs.lemmas.Nat.{mod-mul-add}
use Rattle.std.proofs.lemmas.Bool.{cases_Bool}
use Rattle.std.proofs.lemmas.List.{length-append}
use Rattle.emission.proofs.CycleLaws.{filter_yes, filter_no, kept, kept_yes, kept_no, kept_none, TakesTurn, Steps}

counted_turn : {X : Type 0} (p : X → Bool) (number : X → ℕ → X) (xs out : List X) (m t u : ℕ) (q x : X) → slice_get out m ≡ Some q → TakesTurn p number xs (take m out) t u q x → length (filter p (take m out)) ≡ kept p xs t → length (filter p (take (suc m) out)) ≡ kept p xs u
counted_turn p number xs out m t u q x e s h = elim (cases_Bool (p x)) [
  | inl y ↦
      let all = ap length (filter_yes p out m q e (s.same ∙ y)) ∙ length-append (filter p (take m out)) (q ∷ []) in
      let more = ap (kept p xs) s.next ∙ kept_yes p xs t x s.turn y in
      omega arith
  | inr n ↦ ap length (filter_no p out m q e (s.same ∙ n)) ∙ h ∙ sym (ap (kept p xs) s.next ∙ kept_no p xs t x s.turn n)
]

counted : {X : Type 0} (p : X → Bool) (number : X → ℕ → X) (xs out : List X) (turn : ℕ → ℕ) → 0 < length xs → turn 0 ≡ 0 → Steps p number xs out turn → (m : ℕ) → m ≤ length out → length (filter p (take m out)) ≡ kept p xs (turn m)
counted p number xs out turn l z s zero h = sym (ap (kept p xs) z ∙ kept_none p xs l)
counted p number xs out turn l z s (suc m) h =
    let before = counted p number xs out turn l z s m (omega arith) in
    let here = got out m (omega arith) in
    elim (s m here.0 here.1) [
      | inl a ↦ counted_turn p number xs out m (turn m) (turn (suc m)) here.0 a.0 here.1 a.1 before
      | inr a ↦ ap length (filter_no p out m here.0 here.1 a.not) ∙ before ∙ sym (ap (kept p xs) a.same)
    ]
  where
    got : {X : Type 0} (ys : List X) (i : ℕ) → i < length ys → (x : X) × (slice_get ys i ≡ Some x)
    got [] i l = absurd (omega arith)
    got (y ∷ ys) zero l = (y, refl)
    got (y ∷ ys) (suc i) l = got ys i (omega arith)

-- how many of those that pass went out in their turn before the one at a place of the list
pub place_counted : {X : Type 0} (p : X → Bool) (number : X → ℕ → X) (xs out : List X) (turn : ℕ → ℕ) (m place : ℕ) → 0 < length xs → turn 0 ≡ 0 → Steps p number xs out turn → m ≤ length out → turn m % length xs ≡ place
    → length (filter p (take place xs)) < length (filter p xs) → length (filter p (take m out)) % length (filter p xs) ≡ length (filter p (take place xs))
unfolding kept
place_counted p number xs out turn m place l z s h e below =
    let n = length xs in
    let b = length (filter p xs) in
    ap (λ k. k % b) (counted p number xs out turn l z s m h ∙ ap (λ k. turn m / n * b + length (filter p (take k xs))) e)
    ∙ mod-mul-add (turn m / n) b (length (filter p (take place xs))) below
