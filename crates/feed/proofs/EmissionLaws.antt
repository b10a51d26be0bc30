-- Beginnings of an emission.
use Rattle.std.proofs.Common.{◌≡◌, ℕ, ◌≤◌, zero, suc, List, [], ◌∷◌, take, slice_get, Some, arith, sym, subst}
use Rattle.std.proofs.lemmas.List.{take-take}
use Rattle.schedule.specs.Schedule.{ScheduleValue}
use Rattle.emission.specs.Spans.{IsEmissionOf, MayGoOutOf}

get_taken : {X : Type 0} (n : ℕ) (xs : List X) (k : ℕ) (x : X) → slice_get (take n xs) k ≡ Some x → slice_get xs k ≡ Some x
get_taken zero xs k x e = cc
get_taken (suc n) [] k x e = cc
get_taken (suc n) (y ∷ xs) zero x e = e
get_taken (suc n) (y ∷ xs) (suc k) x e = get_taken n xs k x e

taken_below : {X : Type 0} (n : ℕ) (xs : List X) (k : ℕ) (x : X) → slice_get (take n xs) k ≡ Some x → k ≤ n
taken_below zero xs k x e = absurd (cc)
taken_below (suc n) [] k x e = absurd (cc)
taken_below (suc n) (y ∷ xs) zero x e = omega arith
taken_below (suc n) (y ∷ xs) (suc k) x e = let r = taken_below n xs k x e in omega arith

pub nothing_sent : (p : ScheduleValue) → IsEmissionOf p []
nothing_sent p m q at = absurd (cc)

pub emission_taken : (p : ScheduleValue) (out : List (List ℕ)) (n : ℕ) → IsEmissionOf p out → IsEmissionOf p (take n out)
emission_taken p out n all m q at =
    subst (λ (z : List (List ℕ)). MayGoOutOf p z q) (sym (take-take m n out (taken_below n out m q at))) (all m q (get_taken n out m q at))

-- of the same schedule and packets
pub lawful_as : (p q : ScheduleValue) (xs ys : List (List ℕ)) → q ≡ p → ys ≡ xs → IsEmissionOf p xs → IsEmissionOf q ys
lawful_as p q xs ys schedule packets law = subst (λ (z : ScheduleValue × List (List ℕ)). IsEmissionOf z.0 z.1) (λ i. (sym schedule i, sym packets i)) law
