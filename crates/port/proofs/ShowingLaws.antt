-- The packet that is shown of those that came out of a ring.
use Rattle.std.proofs.Common.{◌≡◌, ◌<◌, ◌-◌, Bool, true, false, List, [], ◌∷◌, ◌++◌, length, Option, Some, None, refl, ap, sym, subst, ◌∙◌, inl, inr, arith, length-append}
use Rattle.std.specs.Prelude.{IsSome}
use Rattle.std.specs.List.{slice_get}
use Rattle.std.proofs.lemmas.Option.{slice_get_cases}
use Rattle.tspkt.specs.declared.stamped.Stamped.{Stamped}
use Rattle.port.specs.declared.arrival_kind.ArrivalKind.{ArrivalKind}
use Rattle.port.specs.declared.arrival_kind.ArrivalKind.TheVariants.{Packet, End}
use Rattle.port.specs.Rings.{RingEndValue, head_of}
use Rattle.port.specs.Advancing.{Shows, IsAdvanced}

at_end : (xs : List Stamped) (x : Stamped) → slice_get (xs ++ x ∷ []) (length xs) ≡ Some x
at_end [] x = refl
at_end (y ∷ xs) x = at_end xs x

-- what came last is shown
pub head_of_last : (b : Bool) (all before : List Stamped) (x : Stamped) → b ≡ true → all ≡ before ++ x ∷ [] → head_of b all ≡ Some x
head_of_last b all before x shown is =
    let place : length (before ++ x ∷ []) - 1 ≡ length before = omega (arith, length-append before (x ∷ [])) in
    ap (λ v. head_of v all) shown ∙ (ap (head_of true) is ∙ (ap (slice_get (before ++ x ∷ [])) place ∙ at_end before x))

pub is_shown_of : (b : Bool) (all : List Stamped) → IsSome (head_of b all) → b ≡ true
is_shown_of true all some = refl
is_shown_of false all some = absurd (let bad : false ≡ true = some in cc)

-- and where something came, something is
pub shown_some : (b : Bool) (all : List Stamped) → b ≡ true → 0 < length all → IsSome (head_of b all)
shown_some b all shown came =
    let P : Bool → Type 0 = λ v. IsSome (head_of v all) in
    subst P (sym shown) (
    elim (slice_get_cases all (length all - 1)).1 [
      | inl found ↦ subst IsSome (sym found.2) refl
      | inr past ↦ (let behind = past.0 in absurd (omega (arith, behind, came)))
    ])

-- what is shown is released before a look and behind it
pub advances : (old a b new : RingEndValue) (kind : Option ArrivalKind) → a ≡ record old { head = None } → Shows a kind b → new ≡ record b { head = None } → IsAdvanced old kind new
advances old a b new (Some Packet) was (inl shown) is = absurd (let bad : false ≡ true = subst IsSome (ap (λ (e : RingEndValue). e.head) was) shown.0 in cc)
advances old a b new (Some Packet) was (inr came) is =
    let item = came.2.0 in (
      sym (ap (λ (e : RingEndValue). e.is_ended) was) ∙ came.1,
      (
        item,
        is
            ∙ (ap (λ (e : RingEndValue). let f : RingEndValue = record e { head = None } in f) came.2.1
            ∙ ap (λ (e : RingEndValue). let f : RingEndValue = record e { received = e.received ++ item ∷ []; head = None } in f) was),
      ),
    )
advances old a b new (Some End) was came is = (
  sym (ap (λ (e : RingEndValue). e.is_ended) was) ∙ came.1,
  is
      ∙ (ap (λ (e : RingEndValue). let f : RingEndValue = record e { head = None } in f) came.2
      ∙ ap (λ (e : RingEndValue). let f : RingEndValue = record e { head = None; is_ended = true } in f) was),
)
advances old a b new None was nothing is =
    is
    ∙ (ap (λ (e : RingEndValue). let f : RingEndValue = record e { head = None } in f) nothing.1
    ∙ ap (λ (e : RingEndValue). let f : RingEndValue = record e { head = None } in f) was)
