-- A reader that reads on.
use Rattle.std.proofs.Common.{◌≡◌, ℕ, ◌+◌, ◌≤◌, zero, suc, List, [], ◌∷◌, ◌++◌, length, take, drop, refl, ap, arith}
use mathlib.Core.List.{IsPrefix}

as_many_taken : {X : Type 0} (most : ℕ) (xs : List X) → take (length (take most xs)) xs ≡ take most xs
as_many_taken zero xs = refl
as_many_taken (suc most) [] = refl
as_many_taken (suc most) (x ∷ xs) = ap (λ ys. x ∷ ys) (as_many_taken most xs)

-- what was read of a beginning, and at most so many behind it, is what was read of the whole
pub read_on : {X : Type 0} (known all : List X) (count most : ℕ) → IsPrefix known all → count ≤ length known
    → take (count + length (take most (drop count all))) all ≡ take count known ++ take most (drop count all)
read_on known all zero most pre le = let e : 0 + length (take most all) ≡ length (take most all) = omega arith in rw e (as_many_taken most all)
read_on [] all (suc count) most pre le = absurd (omega arith)
read_on (x ∷ known) [] (suc count) most pre le = absurd (cc (pre.1))
read_on (x ∷ known) (y ∷ all) (suc count) most pre le =
    let head : x ≡ y = cc (pre.1) in
    let rest = read_on known all count most (pre.0, cc (pre.1)) (omega arith) in
    let e : suc count + length (take most (drop count all)) ≡ suc (count + length (take most (drop count all))) = omega arith in
    rw e (cc (head, rest))

-- what was read of a beginning is what is read of the whole
pub taken_on : {X : Type 0} (known all : List X) (count : ℕ) → IsPrefix known all → count ≤ length known → take count all ≡ take count known
taken_on known all zero pre le = refl
taken_on [] all (suc count) pre le = absurd (omega arith)
taken_on (x ∷ known) [] (suc count) pre le = absurd (cc (pre.1))
taken_on (x ∷ known) (y ∷ all) (suc count) pre le =
    let head : x ≡ y = cc (pre.1) in
    let rest = taken_on known all count (pre.0, cc (pre.1)) (omega arith) in
    cc (head, rest)

few_taken : {X : Type 0} (n : ℕ) (xs : List X) → length (take n xs) ≤ length xs
few_taken zero xs = omega arith
few_taken (suc n) [] = omega arith
few_taken (suc n) (x ∷ xs) = let rest = few_taken n xs in omega (arith, rest)

-- no more is read than there is
pub read_within : {X : Type 0} (known all : List X) (count most : ℕ) → IsPrefix known all → count ≤ length known
    → count + length (take most (drop count all)) ≤ length all
read_within known all zero most pre le = let few = few_taken most all in omega (arith, few)
read_within [] all (suc count) most pre le = absurd (omega arith)
read_within (x ∷ known) [] (suc count) most pre le = absurd (cc (pre.1))
read_within (x ∷ known) (y ∷ all) (suc count) most pre le =
    let rest = read_within known all count most (pre.0, cc (pre.1)) (omega arith) in
    omega (arith, rest)

-- nor more than there was
pub known_within : {X : Type 0} (known all : List X) (count : ℕ) → IsPrefix known all → count ≤ length known → count ≤ length all
known_within known all count pre le = let within = read_within known all count 0 pre le in omega (arith, within)
