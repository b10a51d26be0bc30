-- Tests of each, or of some, number of a range.
use Rattle.std.proofs.Common.{◌≡◌, List, ◌++◌, append_assoc, ℕ, zero, suc, ◌+◌, ◌-◌, ◌<◌, ◌≤◌, refl, sym, ◌∙◌, ap, arith, Bool, true, false, ◌&&◌, ◌||◌, ⊎_elim}
use Rattle.std.proofs.Math.Bool.{and_assoc, or_assoc}
use Rattle.std.proofs.lemmas.Bool.{and_parts, cases_lt}
use Rattle.std.specs.List.{flat_map, list_any, list_all, range_with_len}
use Rattle.std.proofs.lemmas.List.{append-nil}
use Rattle.analyse.specs.Slots.{each_from, some_from}

pub and_true : (x : Bool) → (x && true) ≡ x
and_true true = refl
and_true false = refl

or_false : (x : Bool) → (x || false) ≡ x
or_false true = refl
or_false false = refl

each_range : (test : ℕ → Bool) (a n : ℕ) → list_all test (range_with_len a (suc n)) ≡ (list_all test (range_with_len a n) && test (a + n))
each_range test a zero = let e : a + 0 ≡ a = omega arith in rw e (and_true (test a))
each_range test a (suc n) =
    let e : a + suc n ≡ a + 1 + n = omega arith in
    rw e (ap (λ (b : Bool). test a && b) (each_range test (a + 1) n) ∙ sym (and_assoc (test a) (list_all test (range_with_len (a + 1) n)) (test (a + 1 + n))))

some_range : (test : ℕ → Bool) (a n : ℕ) → list_any test (range_with_len a (suc n)) ≡ (list_any test (range_with_len a n) || test (a + n))
some_range test a zero = let e : a + 0 ≡ a = omega arith in rw e (or_false (test a))
some_range test a (suc n) =
    let e : a + suc n ≡ a + 1 + n = omega arith in
    rw e (ap (λ (b : Bool). test a || b) (some_range test (a + 1) n) ∙ sym (or_assoc (test a) (list_any test (range_with_len (a + 1) n)) (test (a + 1 + n))))

-- one more number at the end of the range
pub each_more : (first end : ℕ) (test : ℕ → Bool) → first ≤ end → each_from first (end + 1) test ≡ (each_from first end test && test end)
each_more first end test h =
    let n : end + 1 - first ≡ suc (end - first) = omega arith in
    let e : first + (end - first) ≡ end = omega arith in
    ap (λ (k : ℕ). list_all test (range_with_len first k)) n ∙ each_range test first (end - first) ∙ ap (λ (k : ℕ). each_from first end test && test k) e

pub some_more : (end : ℕ) (test : ℕ → Bool) → some_from 0 (end + 1) test ≡ (some_from 0 end test || test end)
some_more end test =
    let n : end + 1 - 0 ≡ suc (end - 0) = omega arith in
    let e : 0 + (end - 0) ≡ end = omega arith in
    ap (λ (k : ℕ). list_any test (range_with_len 0 k)) n ∙ some_range test 0 (end - 0) ∙ ap (λ (k : ℕ). some_from 0 end test || test k) e

-- an empty range
pub each_none : (first end : ℕ) (test : ℕ → Bool) → end ≤ first → each_from first end test ≡ true
each_none first end test h = let n : end - first ≡ 0 = omega arith in ap (λ (k : ℕ). list_all test (range_with_len first k)) n

-- two tests that agree on the range
all_same : (s t : ℕ → Bool) (a n : ℕ) → ((k : ℕ) → a ≤ k → k < a + n → s k ≡ t k) → list_all s (range_with_len a n) ≡ list_all t (range_with_len a n)
all_same s t a zero e = refl
all_same s t a (suc n) e =
    let first = e a (omega arith) (omega arith) in
    let rest = all_same s t (a + 1) n (λ k p q. e k (omega arith) (omega arith)) in
    ap (λ (b : Bool). b && list_all s (range_with_len (a + 1) n)) first ∙ ap (λ (b : Bool). t a && b) rest

any_same : (s t : ℕ → Bool) (a n : ℕ) → ((k : ℕ) → a ≤ k → k < a + n → s k ≡ t k) → list_any s (range_with_len a n) ≡ list_any t (range_with_len a n)
any_same s t a zero e = refl
any_same s t a (suc n) e =
    let first = e a (omega arith) (omega arith) in
    let rest = any_same s t (a + 1) n (λ k p q. e k (omega arith) (omega arith)) in
    ap (λ (b : Bool). b || list_any s (range_with_len (a + 1) n)) first ∙ ap (λ (b : Bool). t a || b) rest

pub each_same : (first end : ℕ) (s t : ℕ → Bool) → ((k : ℕ) → first ≤ k → k < end → s k ≡ t k) → each_from first end s ≡ each_from first end t
each_same first end s t e = all_same s t first (end - first) (λ k p q. e k p (omega arith))

pub some_same : (end : ℕ) (s t : ℕ → Bool) → ((k : ℕ) → k < end → s k ≡ t k) → some_from 0 end s ≡ some_from 0 end t
some_same end s t e = any_same s t 0 (end - 0) (λ k p q. e k (omega arith))

all_at : (test : ℕ → Bool) (a n k : ℕ) → list_all test (range_with_len a n) ≡ true → a ≤ k → k < a + n → test k ≡ true
all_at test a zero k h p q = absurd (omega arith)
all_at test a (suc n) k h p q =
    let parts = and_parts (test a) (list_all test (range_with_len (a + 1) n)) h in
    ⊎_elim
    (λ (x : a < k). all_at test (a + 1) n k parts.1 (omega arith) (omega arith))
    (λ (x : k ≤ a). let e : k ≡ a = omega arith in ap test e ∙ parts.0)
    (cases_lt a k)

-- what each number of the range passes
pub each_at : (first end : ℕ) (test : ℕ → Bool) (k : ℕ) → each_from first end test ≡ true → first ≤ k → k < end → test k ≡ true
each_at first end test k h p q = all_at test first (end - first) k h p (omega arith)

both_and : (x y b : Bool) → ((x && b) || (y && b)) ≡ ((x || y) && b)
both_and true true true = refl
both_and true true false = refl
both_and true false true = refl
both_and true false false = refl
both_and false y b = refl

-- some number passes both a test and one that doesn't depend on the number
any_and : (test : ℕ → Bool) (b : Bool) (a n : ℕ) → list_any (λ k. test k && b) (range_with_len a n) ≡ (list_any test (range_with_len a n) && b)
any_and test b a zero = refl
any_and test b a (suc n) = ap (λ (c : Bool). (test a && b) || c) (any_and test b (a + 1) n) ∙ both_and (test a) (list_any test (range_with_len (a + 1) n)) b

pub some_and : (end : ℕ) (test : ℕ → Bool) (b : Bool) → some_from 0 end (λ k. test k && b) ≡ (some_from 0 end test && b)
some_and end test b = any_and test b 0 (end - 0)

-- a list for each number of the range: one number more
pub flat_more : {X : Type 0} (f : ℕ → List X) (first n : ℕ) → flat_map f (range_with_len first (suc n)) ≡ flat_map f (range_with_len first n) ++ f (first + n)
flat_more f first zero = let e : first + 0 ≡ first = omega arith in rw e (append-nil (f first))
flat_more {X = X} f first (suc n) =
    let e : first + suc n ≡ first + 1 + n = omega arith in
    rw e (ap (λ (l : List X). f first ++ l) (flat_more f (first + 1) n) ∙ sym (append_assoc (f first) (flat_map f (range_with_len (first + 1) n)) (f (first + 1 + n))))
