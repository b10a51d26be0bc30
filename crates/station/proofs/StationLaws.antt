-- What a station keeps, from event to event.
use Rattle.std.proofs.Common.{ℕ, zero, suc, ◌+◌, ◌≡◌, ◌≢◌, Bool, true, false, List, [], ◌∷◌, set, slice_get, Some, MatchBool, refl, ap, sym, subst, ◌∙◌, inl, inr, length-set}
use Rattle.std.proofs.lemmas.Bool.{cases_eq}
use Rattle.mux.specs.declared.event.Event.TheVariants.{Slot, Switch}
use Rattle.mux.specs.declared.content.Content.{Content}
use Rattle.mux.specs.History.{History, Run, with_event, in_force}
use Rattle.mux.specs.Lawful.{input_count}
use Rattle.mux.specs.Answers.{SendAnswers, SlotAnswers}
use Rattle.mux.specs.declared.sending.Sending.{Sending}
use Rattle.mux.specs.declared.sending.Sending.TheVariants as sending
use Rattle.mux.specs.declared.slot.Slot.{Slot as SlotAnswer}
use Rattle.mux.specs.declared.slot.Slot.TheVariants as slot
use Rattle.port.specs.Rings.{RingEndValue}
use Rattle.station.specs.Stations.{Input, IsLawfulInput, IsLawfulStation, LeavesOthers, rings_of}
use Rattle.station.specs.Moving.{MovesIn, EndsBy, Ending, Nothing, Mark, HeldBack}
use Rattle.station.specs.Ticking.{MovesAll}
use Rattle.inlets.proofs.EventLaws.{slot_spares, switch_spares}
use Rattle.station.proofs.InputLaws.{spared}

get_set_here : (xs : List Input) (k : ℕ) (x y : Input) → slice_get (set xs k y) k ≡ Some x → x ≡ y
get_set_here [] k x y e = absurd (cc)
get_set_here (z ∷ xs) zero x y e = cc
get_set_here (z ∷ xs) (suc k) x y e = get_set_here xs k x y e

get_set_there : (xs : List Input) (k j : ℕ) (x y : Input) → j ≢ k → slice_get (set xs k y) j ≡ Some x → slice_get xs j ≡ Some x
get_set_there [] k j x y ne e = absurd (cc)
get_set_there (z ∷ xs) zero zero x y ne e = absurd (ne refl)
get_set_there (z ∷ xs) zero (suc j) x y ne e = e
get_set_there (z ∷ xs) (suc k) zero x y ne e = e
get_set_there (z ∷ xs) (suc k) (suc j) x y ne e = get_set_there xs k j x y (λ same. ne (ap suc same)) e

-- one input of it goes on
pub lawful_set : (a b : History) (xs : List Input) (n : ℕ) (y : Input) → b.run ≡ a.run → IsLawfulStation a xs → LeavesOthers n a b → IsLawfulInput b n y → IsLawfulStation b (set xs n y)
lawful_set a b xs n y run old others own = record {
  count = length-set xs n y ∙ (old.count ∙ ap (λ (r : Run). input_count r.schedule) (sym run));
  each = λ j x at. (elim (cases_eq j n) [
    | inl same ↦
        (let here : x ≡ y = get_set_here xs n x y (let P : ℕ → Type 0 = λ k. slice_get (set xs n y) k ≡ Some x in subst P same at) in
        let P : ℕ → Type 0 = λ k. IsLawfulInput b k y in
        let Q : Input → Type 0 = IsLawfulInput b j in
        subst Q (sym here) (subst P (sym same) own))
    | inr ne ↦ others j x ne (old.each j x (get_set_there xs n j x y ne at))
  ]);
}

slot_sent : (h : History) (c : Content) (xs : List Input) → IsLawfulStation h xs → IsLawfulStation (with_event h (Slot c)) xs
slot_sent h c xs old = record { count = old.count; each = λ j x at. spared h (Slot c) j x (slot_spares j h.events c) (old.each j x at) }

plan_switched : (h : History) (number : ℕ) (xs : List Input) → IsLawfulStation h xs → IsLawfulStation (with_event h (Switch number)) xs
plan_switched h number xs old = record { count = old.count; each = λ j x at. spared h (Switch number) j x (switch_spares j h.events number) (old.each j x at) }

-- a slot was sent, or the next plan came, or nothing was done
pub lawful_sent : (h new : History) (answer : Sending) (xs : List Input) → SendAnswers h answer new → IsLawfulStation h xs → IsLawfulStation new xs
lawful_sent h new sending.Done xs is old = (let P : History → Type 0 = λ v. IsLawfulStation v xs in subst P (sym is.0) old)
lawful_sent h new sending.RunFull xs is old = (let P : History → Type 0 = λ v. IsLawfulStation v xs in subst P (sym is.0) old)
lawful_sent h new (sending.NotReady i) xs is old = (let P : History → Type 0 = λ v. IsLawfulStation v xs in subst P (sym is.0) old)
lawful_sent h new sending.Switched xs is old = (let P : History → Type 0 = λ v. IsLawfulStation v xs in subst P (sym is.2) (plan_switched h (in_force h.events + 1) xs old))
lawful_sent h new sending.Sent xs is old = (let P : History → Type 0 = λ v. IsLawfulStation v xs in subst P (sym is.1.2) (slot_sent h is.1.0 xs old))

-- the same where the answer has the packet
pub lawful_with : (h new : History) (answer : SlotAnswer) (xs : List Input) → SlotAnswers h answer new → IsLawfulStation h xs → IsLawfulStation new xs
lawful_with h new slot.Done xs is old = lawful_sent h new sending.Done xs is old
lawful_with h new slot.RunFull xs is old = lawful_sent h new sending.RunFull xs is old
lawful_with h new (slot.NotReady i) xs is old = lawful_sent h new (sending.NotReady i) xs is old
lawful_with h new slot.Switched xs is old = lawful_sent h new sending.Switched xs is old
lawful_with h new slot.Memory xs is old = (let P : History → Type 0 = λ v. IsLawfulStation v xs in subst P (sym is.0) old)
lawful_with h new (slot.Sent packet) xs is old = lawful_sent h new sending.Sent xs (is.0, (is.1.0, is.1.1, is.1.2.0)) old

-- rings stay

pub ends_ring : (i : ℕ) (a : History) (x : Input) (b : History) (y : Input) (ending : Ending) → EndsBy i a x b y ending → y.inlet.ring ≡ x.inlet.ring
ends_ring i a x b y Nothing is = ap (λ (v : Input). v.inlet.ring) is.2
ends_ring i a x b y Mark is = ap (λ (v : Input). v.inlet.ring) is.2
ends_ring i a x b y (HeldBack item came) is = ap (λ (v : Input). v.inlet.ring) is.2

moves_ring : (i most : ℕ) (a : History) (x : Input) (b : History) (y : Input) (closed : Bool) → MatchBool closed ((b ≡ a) × (y ≡ x)) (MovesIn i most a x b y) → y.inlet.ring ≡ x.inlet.ring
moves_ring i most a x b y true is = ap (λ (v : Input). v.inlet.ring) is.1
moves_ring i most a x b y false m =
    let took : m.last.inlet.ring ≡ x.inlet.ring = ap (λ (e : RingEndValue). e.ring) m.takes.inlet in
    elim m.ends [
      | inl ending ↦ ends_ring i m.between m.last b y ending.0 ending.1 ∙ took
      | inr most_taken ↦ ap (λ (v : Input). v.inlet.ring) most_taken.2 ∙ took
    ]

pub rings_stay : (i most : ℕ) (a : History) (xs : List Input) (b : History) (ys : List Input) → MovesAll i most a xs b ys → rings_of ys ≡ rings_of xs
rings_stay i most a [] b ys is = ap rings_of is.1
rings_stay i most a (x ∷ xs) b ys is =
    let here = moves_ring i most a x is.0 is.1 x.is_closed is.4 in
    let there = rings_stay (suc i) most is.0 xs b is.2 is.5 in
    ap rings_of is.3 ∙ (λ k. here k ∷ there k)
