-- Blocks and end marks of lists of messages.
use Rattle.std.proofs.Common.{◌≡◌, ◌+◌, ℕ, Bool, true, false, List, [], ◌∷◌, ◌++◌, length, drop, refl, ap, sym, ◌∙◌, arith}
use Rattle.std.specs.declared.alloc.Global.{Global}
use Rattle.std.specs.declared.vec.Vec.{Vec}
use Rattle.relay.specs.declared.message.Message.{Message}
use Rattle.relay.specs.declared.message.Message.TheVariants.{Block, End}
use Rattle.relay.specs.Messages.{blocks_of, marks_of, mark_count, EndsMarked}

pub blocks_of_append : (xs ys : List Message) → blocks_of (xs ++ ys) ≡ blocks_of xs ++ blocks_of ys
blocks_of_append [] ys = refl
blocks_of_append (Block x ∷ xs) ys = ap (λ zs. x.items ∷ zs) (blocks_of_append xs ys)
blocks_of_append (End ∷ xs) ys = blocks_of_append xs ys

pub marks_of_append : (xs ys : List Message) → marks_of (xs ++ ys) ≡ marks_of xs + marks_of ys
marks_of_append [] ys = omega arith
marks_of_append (Block x ∷ xs) ys = marks_of_append xs ys
marks_of_append (End ∷ xs) ys = omega (arith, marks_of_append xs ys)

-- each message is a block or a mark
pub length_messages : (xs : List Message) → length xs ≡ length (blocks_of xs) + marks_of xs
length_messages [] = refl
length_messages (Block x ∷ xs) = omega (arith, length_messages xs)
length_messages (End ∷ xs) = omega (arith, length_messages xs)

pub blocks_of_snoc : (xs : List Message) (x : Vec (List ℕ) Global) → blocks_of (xs ++ Block x ∷ []) ≡ blocks_of xs ++ x.items ∷ []
blocks_of_snoc xs x = blocks_of_append xs (Block x ∷ [])

pub blocks_of_mark : (xs : List Message) → blocks_of (xs ++ End ∷ []) ≡ blocks_of xs
blocks_of_mark [] = refl
blocks_of_mark (Block x ∷ xs) = ap (λ zs. x.items ∷ zs) (blocks_of_mark xs)
blocks_of_mark (End ∷ xs) = blocks_of_mark xs

pub marks_of_snoc : (xs : List Message) (x : Vec (List ℕ) Global) → marks_of (xs ++ Block x ∷ []) ≡ marks_of xs
marks_of_snoc xs x = omega (arith, marks_of_append xs (Block x ∷ []))

pub marks_of_mark : (xs : List Message) → marks_of (xs ++ End ∷ []) ≡ marks_of xs + 1
marks_of_mark xs = omega (arith, marks_of_append xs (End ∷ []))

-- what went in is what came out, and then what is left; of the marks, those that are left are those that did not come out
pub blocks_left : (got known all : List Message) → got ++ known ≡ all → blocks_of all ≡ blocks_of got ++ blocks_of known
blocks_left got known all e = ap blocks_of (sym e) ∙ blocks_of_append got known

pub marks_left : (got known all : List Message) → got ++ known ≡ all → length known + marks_of got ≡ length (blocks_of known) + marks_of all
marks_left got known all e =
    let s : marks_of all ≡ marks_of got + marks_of known = ap marks_of (sym e) ∙ marks_of_append got known in
    omega (arith, length_messages known, s)

-- where there is no mark, none came
pub unmarked : (b : Bool) → mark_count b ≡ 0 → b ≡ false
unmarked true e = absurd (omega (arith, e))
unmarked false e = refl

nothing_of : (got known : List Message) → got ++ known ≡ [] → known ≡ []
nothing_of [] known e = e
nothing_of (x ∷ got) known e = absurd (cc)

-- behind a mark that stands behind everything else is nothing
behind_mark : (got known before : List Message) → got ++ known ≡ before ++ End ∷ [] → marks_of before ≡ 0 → marks_of got ≡ 1 → known ≡ []
behind_mark [] known before e none one = absurd (omega (arith, one))
behind_mark (x ∷ got) known [] e none one = nothing_of got known (ap (drop 1) e)
behind_mark (Block x ∷ got) known (Block y ∷ before) e none one = behind_mark got known before (ap (drop 1) e) none one
behind_mark (End ∷ got) known (Block y ∷ before) e none one = absurd (cc)
behind_mark (x ∷ got) known (End ∷ before) e none one = absurd (omega (arith, none))

-- a mark that came out of a relay was sent, and nothing is left behind it
pub mark_came : (b : Bool) (got known all : List Message) → got ++ known ≡ all → EndsMarked b all → marks_of got ≡ 1 → (b ≡ true) × (known ≡ [])
mark_came true got known all e ends one = (refl, behind_mark got known ends.0 (e ∙ ends.1) ends.2 one)
mark_came false got known all e ends one =
    let s : marks_of all ≡ marks_of got + marks_of known = ap marks_of (sym e) ∙ marks_of_append got known in
    absurd (omega (arith, s, ends, one))

-- how many marks there are
pub marks_are : (b : Bool) (all : List Message) → EndsMarked b all → marks_of all ≡ mark_count b
marks_are true all ends = omega (arith, ap marks_of ends.1, marks_of_mark ends.0, ends.2)
marks_are false all ends = ends
