-- What the tests of ranges tell of the numbers.
use Rattle.std.proofs.Common.{ℕ, ℤ, pos, negsuc, zero, suc, ◌<◌, ◌≡◌, ◌≢◌, Bool, true, false, leb, List, [], ◌∷◌, map, length, get_or, refl, ap, ◌∙◌, sym, arith}
use Rattle.std.specs.List.{list_any, list_all, AllPairs}
use Rattle.std.specs.Ordering.{int_eq}
use Rattle.std.proofs.lemmas.Cmp.{int_eq_equiv}
use Rattle.std.proofs.lemmas.Bool.{and_parts, or_parts, leb-true, ltb-true, false≢true}
use Rattle.request.specs.Ranges.{is_count_between, is_between, is_place}
use Rattle.request.specs.Request.{IsBetween, natural_of, has_repeat}

pub count_between : (low high n : ℕ) → is_count_between low high n ≡ true → IsBetween low high n
count_between low high n e = let both = and_parts (leb low n) (leb n high) e in (leb-true low n both.0, leb-true n high both.1)

pub between : (low high : ℕ) (z : ℤ) → is_between low high z ≡ true → IsBetween low high (natural_of z)
between low high (pos n) e = count_between low high n e
between low high (negsuc n) e = cc

pub place : (count : ℕ) (z : ℤ) → is_place count z ≡ true → natural_of z < count
place count (pos n) e = ltb-true n count e
place count (negsuc n) e = cc

-- a number that isn't negative
abbrev pub is_natural : ℤ → Bool
is_natural (pos n) = true
is_natural (negsuc n) = false

pub natural_between : (low high : ℕ) (z : ℤ) → is_between low high z ≡ true → is_natural z ≡ true
natural_between low high (pos n) e = refl
natural_between low high (negsuc n) e = cc

pub same_int : (x y : ℤ) → is_natural x ≡ true → is_natural y ≡ true → natural_of x ≡ natural_of y → int_eq x y ≡ true
same_int (pos a) (pos b) e f g = ap (int_eq (pos a)) (sym (ap pos g)) ∙ int_eq_equiv.refl (pos a)
same_int (pos a) (negsuc b) e f g = cc
same_int (negsuc a) y e f g = cc

-- what differs from each of a list
apart_from : (x : ℤ) (zs : List ℤ) → is_natural x ≡ true → list_all is_natural zs ≡ true → list_any (int_eq x) zs ≡ false
    → (j d : ℕ) → j < length (map natural_of zs) → natural_of x ≢ get_or (map natural_of zs) j d
apart_from x [] n all e j d l = absurd (omega arith)
apart_from x (z ∷ zs) n all e zero d l = λ same.
    let some = or_parts (int_eq x z) (list_any (int_eq x) zs) e in
    let both = and_parts (is_natural z) (list_all is_natural zs) all in
    false≢true (sym some.0 ∙ same_int x z n both.0 same)
apart_from x (z ∷ zs) n all e (suc j) d l =
    let some = or_parts (int_eq x z) (list_any (int_eq x) zs) e in
    let both = and_parts (is_natural z) (list_all is_natural zs) all in
    apart_from x zs n both.1 some.1 j d (omega arith)

-- numbers of which none is there twice
pub distinct : (zs : List ℤ) → list_all is_natural zs ≡ true → has_repeat zs ≡ false → AllPairs (λ a b. a ≢ b) (map natural_of zs)
unfolding has_repeat
distinct [] all e i j d l m = absurd (omega arith)
distinct (z ∷ zs) all e zero zero d l m = absurd (omega arith)
distinct (z ∷ zs) all e zero (suc j) d l m =
    let none = or_parts (list_any (int_eq z) zs) (has_repeat zs) e in
    let both = and_parts (is_natural z) (list_all is_natural zs) all in
    apart_from z zs both.0 both.1 none.0 j d (omega arith)
distinct (z ∷ zs) all e (suc i) zero d l m = absurd (omega arith)
distinct (z ∷ zs) all e (suc i) (suc j) d l m =
    let none = or_parts (list_any (int_eq z) zs) (has_repeat zs) e in
    let both = and_parts (is_natural z) (list_all is_natural zs) all in
    distinct zs both.1 none.1 i j d (omega arith) (omega arith)
