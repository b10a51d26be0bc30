-- Sums of the lengths of rows.
use Rattle.std.proofs.Common.{◌≡◌, ℕ, ◌+◌, ◌<◌, ◌≤◌, List, [], ◌∷◌, refl, length-append, length, take, map, get_or, ◌∙◌, ap, arith}
use Rattle.std.specs.List.{All, sum, flat_map}
use Rattle.std.proofs.lemmas.List.Sums.{sum-map, sum_by_more, sum_by_more_le, get_or-le-sum_by, sum_by-cons}

-- one row more
pub sum_step : {R : Type 0} (f : R → ℕ) (rows : List R) (i : ℕ) (r : R) → i < length rows → r ≡ get_or rows i r → sum (map f (take (i + 1) rows)) ≡ sum (map f (take i rows)) + f r
sum_step f rows i r l e =
    let a = sum-map f (take (i + 1) rows) in
    let b = sum-map f (take i rows) in
    let c = sum_by_more f rows i r l in
    let d : f r ≡ f (get_or rows i r) = ap f e in
    omega arith

-- the rows so far and the next one are within all
pub sum_within : {R : Type 0} (f : R → ℕ) (rows : List R) (i : ℕ) (r : R) → i < length rows → r ≡ get_or rows i r → sum (map f (take i rows)) + f r ≤ sum (map f rows)
sum_within f rows i r l e =
    let a = sum-map f (take i rows) in
    let b = sum-map f rows in
    let c = sum_by_more_le f rows i r l in
    let d : f r ≡ f (get_or rows i r) = ap f e in
    omega arith

-- each row is within all
pub each_within : {R : Type 0} (f : R → ℕ) (n : ℕ) (rows : List R) → sum (map f rows) ≤ n → All (λ r. f r ≤ n) rows
each_within f n rows h = λ k d l. let a = sum-map f rows in let b = get_or-le-sum_by f rows k d l in omega arith

-- the bytes of the rows
pub length_rows : {R : Type 0} (f : R → ℕ) (bytes : R → List ℕ) (rows : List R) → ((r : R) → length (bytes r) ≡ f r) → length (flat_map bytes rows) ≡ sum (map f rows)
length_rows f bytes [] h = refl
length_rows f bytes (r ∷ rows) h =
    let ih = length_rows f bytes rows h in
    let one = h r in
    let all = sum-map f (r ∷ rows) in
    let less = sum-map f rows in
    let cons = sum_by-cons f r rows in
    length-append (bytes r) (flat_map bytes rows) ∙ omega arith
