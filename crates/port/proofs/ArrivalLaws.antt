-- Packets and end marks of lists of what goes through a ring.
use Rattle.std.proofs.Common.{◌≡◌, ℕ, ◌+◌, Bool, true, false, List, [], ◌∷◌, ◌++◌, length, drop, refl, ap, sym, ◌∙◌, arith, length-append}
use Rattle.tspkt.specs.declared.stamped.Stamped.{Stamped}
use Rattle.port.specs.Arrivals.{CarriedValue, Packet, End, packets_of, marks_of, mark_count, EndsMarked}

pub packets_of_append : (xs ys : List CarriedValue) → packets_of (xs ++ ys) ≡ packets_of xs ++ packets_of ys
packets_of_append [] ys = refl
packets_of_append (Packet x p ∷ xs) ys = ap (λ zs. x ∷ zs) (packets_of_append xs ys)
packets_of_append (End ∷ xs) ys = packets_of_append xs ys

pub marks_of_append : (xs ys : List CarriedValue) → marks_of (xs ++ ys) ≡ marks_of xs + marks_of ys
marks_of_append [] ys = omega arith
marks_of_append (Packet x p ∷ xs) ys = marks_of_append xs ys
marks_of_append (End ∷ xs) ys = omega (arith, marks_of_append xs ys)

-- each is a packet or a mark
pub length_arrivals : (xs : List CarriedValue) → length xs ≡ length (packets_of xs) + marks_of xs
length_arrivals [] = refl
length_arrivals (Packet x p ∷ xs) = omega (arith, length_arrivals xs)
length_arrivals (End ∷ xs) = omega (arith, length_arrivals xs)

pub packets_of_snoc : (xs : List CarriedValue) (x : Stamped) (p : ℕ) → packets_of (xs ++ Packet x p ∷ []) ≡ packets_of xs ++ x ∷ []
packets_of_snoc xs x p = packets_of_append xs (Packet x p ∷ [])

pub packets_of_mark : (xs : List CarriedValue) → packets_of (xs ++ End ∷ []) ≡ packets_of xs
packets_of_mark [] = refl
packets_of_mark (Packet x p ∷ xs) = ap (λ zs. x ∷ zs) (packets_of_mark xs)
packets_of_mark (End ∷ xs) = packets_of_mark xs

pub marks_of_snoc : (xs : List CarriedValue) (x : Stamped) (p : ℕ) → marks_of (xs ++ Packet x p ∷ []) ≡ marks_of xs
marks_of_snoc xs x p = omega (arith, marks_of_append xs (Packet x p ∷ []))

pub marks_of_mark : (xs : List CarriedValue) → marks_of (xs ++ End ∷ []) ≡ marks_of xs + 1
marks_of_mark xs = omega (arith, marks_of_append xs (End ∷ []))

-- what went in is what came out, and then what is left; of the marks, those that are left are those that did not come out
pub packets_left : (got known all : List CarriedValue) → got ++ known ≡ all → packets_of all ≡ packets_of got ++ packets_of known
packets_left got known all e = ap packets_of (sym e) ∙ packets_of_append got known

pub marks_left : (got known all : List CarriedValue) → got ++ known ≡ all → length known + marks_of got ≡ length (packets_of known) + marks_of all
marks_left got known all e =
    let s : marks_of all ≡ marks_of got + marks_of known = ap marks_of (sym e) ∙ marks_of_append got known in
    omega (arith, length_arrivals known, s)

-- what is last of equal lists
pub last_same : {A : Type 0} (xs ys : List A) (x y : A) → xs ++ x ∷ [] ≡ ys ++ y ∷ [] → x ≡ y
last_same [] [] x y e = cc
last_same [] (z ∷ ys) x y e = absurd (omega (arith, ap (λ vs. length vs) e, length-append ys (y ∷ [])))
last_same (z ∷ xs) [] x y e = absurd (omega (arith, ap (λ vs. length vs) e, length-append xs (x ∷ [])))
last_same (z ∷ xs) (w ∷ ys) x y e = last_same xs ys x y (ap (drop 1) e)

-- where there is no mark, none came
pub unmarked : (b : Bool) → mark_count b ≡ 0 → b ≡ false
unmarked true e = absurd (omega (arith, e))
unmarked false e = refl

nothing_of : (got known : List CarriedValue) → got ++ known ≡ [] → known ≡ []
nothing_of [] known e = e
nothing_of (x ∷ got) known e = absurd (cc)

-- behind a mark that stands behind everything else is nothing
behind_mark : (got known before : List CarriedValue) → got ++ known ≡ before ++ End ∷ [] → marks_of before ≡ 0 → marks_of got ≡ 1 → known ≡ []
behind_mark [] known before e none one = absurd (omega (arith, one))
behind_mark (x ∷ got) known [] e none one = nothing_of got known (ap (drop 1) e)
behind_mark (Packet x p ∷ got) known (Packet y q ∷ before) e none one = behind_mark got known before (ap (drop 1) e) none one
behind_mark (End ∷ got) known (Packet y q ∷ before) e none one = absurd (cc)
behind_mark (x ∷ got) known (End ∷ before) e none one = absurd (omega (arith, none))

-- a mark that came out of a ring was sent, and nothing is left behind it
pub mark_came : (b : Bool) (got known all : List CarriedValue) → got ++ known ≡ all → EndsMarked b all → marks_of got ≡ 1 → (b ≡ true) × (known ≡ [])
mark_came true got known all e ends one = (refl, behind_mark got known ends.0 (e ∙ ends.1) ends.2 one)
mark_came false got known all e ends one =
    let s : marks_of all ≡ marks_of got + marks_of known = ap marks_of (sym e) ∙ marks_of_append got known in
    absurd (omega (arith, s, ends, one))

-- how many marks there are
pub marks_are : (b : Bool) (all : List CarriedValue) → EndsMarked b all → marks_of all ≡ mark_count b
marks_are true all ends = omega (arith, ap marks_of ends.1, marks_of_mark ends.0, ends.2)
marks_are false all ends = ends
