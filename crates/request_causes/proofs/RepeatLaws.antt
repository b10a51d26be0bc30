-- The places of a number that is there twice.
use Rattle.std.proofs.Common.{arith, ◌≡◌, ℕ, ℤ, pos, zero, suc, ◌+◌, ◌-◌, ◌<◌, true, List, [], ◌∷◌, Some, None, slice_get, get_or, take, drop, length, refl, ap, ◌∙◌, sym}
use Rattle.std.specs.Ordering.{int_eq}
use Rattle.std.specs.List.{position_from, list_any}
use Rattle.std.proofs.lemmas.Bool.Decides.{Decides-int_eq}
use Rattle.std.proofs.lemmas.Option.{slice_get-get_or, slice_get_within}
use Rattle.request.specs.Request.{has_repeat}
use Rattle.request.proofs.ListLaws.{whole_rest}
use Rattle.request.proofs.TakenLaws.{repeat_none, repeat_some}
use Rattle.request_causes.specs.Causes.{AreBoth}
use Rattle.request_causes.proofs.FindLaws.{passes_at, any_placed, no_place}

pub slice_get_behind : {X : Type 0} (xs : List X) (n k : ℕ) → slice_get (drop n xs) k ≡ slice_get xs (n + k)
slice_get_behind [] zero k = refl
slice_get_behind [] (suc n) k = refl
slice_get_behind (x ∷ xs) zero k = ap (λ m. slice_get (x ∷ xs) m) (let e : k ≡ zero + k = omega arith in e)
slice_get_behind (x ∷ xs) (suc n) k =
    let e : suc n + k ≡ suc (n + k) = omega arith in
    rw e (slice_get_behind xs n k)

-- where a number is found among those behind its place
abbrev pub behind : List ℤ → ℕ → List ℤ
behind zs i = take (length zs - (i + 1)) (drop (i + 1) zs)

both_at : (zs : List ℤ) (i k n : ℕ) (z x : ℤ) → i < length zs → get_or zs i (pos 0) ≡ z → k ≡ 0 + n → slice_get (behind zs i) n ≡ Some x → int_eq z x ≡ true → AreBoth zs i (i + 1 + k) z
both_at zs i k n z x l here place at same =
    let e : n ≡ k = omega arith in
    let equal : z ≡ x = (Decides-int_eq z x).0 same in
    let first : slice_get zs i ≡ Some z = slice_get-get_or zs i (pos 0) l ∙ ap Some here in
    let second : slice_get zs (i + 1 + k) ≡ Some z =
    sym (slice_get_behind zs (i + 1) k) ∙ ap (λ ys. slice_get ys k) (sym (whole_rest zs (i + 1))) ∙ ap (λ m. slice_get (behind zs i) m) (sym e) ∙ at ∙ ap Some (sym equal) in
    (omega arith, first, second)

pub are_both : (zs : List ℤ) (i k : ℕ) (z : ℤ) → i < length zs → get_or zs i (pos 0) ≡ z → position_from (int_eq z) 0 (behind zs i) ≡ Some k → AreBoth zs i (i + 1 + k) z
are_both zs i k z l here h =
    let at = passes_at (int_eq z) (behind zs i) 0 k h in
    both_at zs i k at.0 z at.1 l here at.2 at.3 at.4

pub second_within : (zs : List ℤ) (i k : ℕ) (z : ℤ) → i < length zs → get_or zs i (pos 0) ≡ z → position_from (int_eq z) 0 (behind zs i) ≡ Some k → i + 1 + k < length zs
second_within zs i k z l here h = slice_get_within zs (i + 1 + k) z (are_both zs i k z l here h).2

pub repeats : (zs : List ℤ) (i k : ℕ) (z : ℤ) → i < length zs → get_or zs i (pos 0) ≡ z → position_from (int_eq z) 0 (behind zs i) ≡ Some k → has_repeat (drop i zs) ≡ true
repeats zs i k z l here h =
    repeat_some zs i (pos 0) l (ap (λ y. list_any (int_eq y) (behind zs i)) here ∙ any_placed (int_eq z) (behind zs i) 0 k h)

pub repeats_later : (zs : List ℤ) (i : ℕ) (z : ℤ) → i < length zs → get_or zs i (pos 0) ≡ z → position_from (int_eq z) 0 (behind zs i) ≡ None → has_repeat (drop i zs) ≡ has_repeat (drop (i + 1) zs)
repeats_later zs i z l here h =
    repeat_none zs i (pos 0) l (ap (λ y. list_any (int_eq y) (behind zs i)) here ∙ no_place (int_eq z) 0 (behind zs i) h)
