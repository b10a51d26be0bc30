use Rattle.std.proofs.Common.{◌≡◌, ◌++◌, ◌∷◌, [], List, true, false, length, ap, ◌∙◌, sym, subst, inl, inr, refl, arith, length-append}
use Rattle.tspkt.specs.declared.stamped.Stamped.{Stamped}
use Rattle.port.specs.Arrivals.{CarriedValue, Packet, marks_of, packets_of}
use Rattle.port.specs.Chunks.{ReaderValue}
use Rattle.port.specs.Rings.{RingEndValue, head_of}
use Rattle.std.specs.Prelude.{IsSome}
use Rattle.port.proofs.ArrivalLaws.{last_same, packets_of_snoc, marks_of_snoc, unmarked}
use Rattle.port.proofs.ShowingLaws.{shown_some, head_of_last}
use Rattle.port.proofs.ring_end.RingEnd.peek.Goals as goal

pub returns-then-is_shown-clause-shows : goal.returns-then-is_shown-clause-shows
returns-then-is_shown-clause-shows c =
    let packets = packets_of c.self.inside.reader.handed in
    let some = shown_some c.self.inside.is_shown packets c.if-is_shown.true (c.self.invariant.1 c.if-is_shown.true).1 in
    inl (subst IsSome (ap (λ (e : RingEndValue). e.head) c.self.view_is) some, c.self.view_is)

pub invariant_of-self-in-Some : goal.invariant_of-self-in-Some
invariant_of-self-in-Some c =
    let h : List CarriedValue = c.self.inside.reader.handed in
    let n = c.if-not-advance.ensures in
    let item : Stamped = c.in-Some.field-0.now in
    let place = c.in-Some.ensures.0 in
    let is : n.0 ≡ Packet item place = last_same h c.last.ensures.0 n.0 c.last.result.now (sym (ap (λ (r : ReaderValue). r.handed) n.1) ∙ c.last.ensures.1) ∙ c.in-Some.ensures.1 in
    let packets = ap (λ (r : ReaderValue). packets_of r.handed) n.1 ∙ (ap (λ (v : CarriedValue). packets_of (h ++ v ∷ [])) is ∙ packets_of_snoc h item place) in (
      ap (λ (r : ReaderValue). marks_of r.handed) n.1 ∙ (ap (λ (v : CarriedValue). marks_of (h ++ v ∷ [])) is ∙ (marks_of_snoc h item place ∙ c.self.invariant.0)),
      λ shown. (unmarked c.self.inside.is_ended (sym c.self.invariant.0 ∙ n.2), omega (arith, ap (λ (v : List Stamped). length v) packets, length-append (packets_of h) (item ∷ []))),
    )

pub returns-in-Some-clause-shows : goal.returns-in-Some-clause-shows
returns-in-Some-clause-shows c =
    let h : List CarriedValue = c.self.inside.reader.handed in
    let n = c.if-not-advance.ensures in
    let item : Stamped = c.in-Some.field-0.now in
    let place = c.in-Some.ensures.0 in
    let is : n.0 ≡ Packet item place = last_same h c.last.ensures.0 n.0 c.last.result.now (sym (ap (λ (r : ReaderValue). r.handed) n.1) ∙ c.last.ensures.1) ∙ c.in-Some.ensures.1 in
    let view = c.self.view_is in
    let open_ : c.self.inside.is_ended ≡ false = unmarked c.self.inside.is_ended (sym c.self.invariant.0 ∙ n.2) in
    let ended = ap (λ (e : RingEndValue). e.is_ended) view in
    let unshown : c.self.inside.is_shown ≡ false = c.if-is_shown.false in
    let none = sym (ap (λ (e : RingEndValue). e.head) view) ∙ ap (λ b. head_of b (packets_of h)) unshown in
    let ring = ap (λ (r : ReaderValue). r.ring) n.1 ∙ ap (λ (e : RingEndValue). e.ring) view in
    let packets = ap (λ (r : ReaderValue). packets_of r.handed) n.1 ∙ (ap (λ (v : CarriedValue). packets_of (h ++ v ∷ [])) is ∙ packets_of_snoc h item place) in
    let received = packets ∙ ap (λ (e : RingEndValue). e.received ++ item ∷ []) view in
    let head = head_of_last true _ (packets_of h) item refl packets in
    inr (none, sym ended ∙ open_, (item, λ i. record { ring = ring i; received = received i; head = head i; is_ended = ended i }))
