-- Why a packet is refused.
use Rattle.std.proofs.Common.{ℕ, ◌≡◌, ◌⊎◌, true, List, Some, subst, inl, inr}
use Rattle.std.proofs.lemmas.Bool.{ltb-true}
use Rattle.tspkt.specs.declared.stamped.Stamped.{Stamped}
use Rattle.schedule.specs.Schedule.{ScheduleValue}
use Rattle.mux.specs.declared.event.Event.{Event}
use Rattle.mux.specs.declared.offered.Offered.{Offered}
use Rattle.mux.specs.declared.offered.Offered.TheVariants as offered
use Rattle.mux.specs.History.{History, is_closed, last_stamp}
use Rattle.mux.specs.Lawful.{Closed, Stranger, Backward, refusal_of}
use Rattle.mux.proofs.Refusals.{tests_of}
use Rattle.mux.specs.Answers.{OfferAnswers}
use Rattle.inlets.specs.Turns.{IsRefusedForGood}

pub is_shut : (s : ScheduleValue) (h : List Event) (i : ℕ) (item : Stamped) → refusal_of s h i item ≡ Some Closed → is_closed i h ≡ true
is_shut s h i item e = tests_of s h i item (Some Closed) e

-- a packet that no plan names, or that comes too late
pub refused_answer : (h : History) (i : ℕ) (item : Stamped) (answer : Offered) (new : History) → (answer ≡ offered.Stranger) ⊎ (answer ≡ offered.Backward) → OfferAnswers h i item answer new
    → IsRefusedForGood h i item × (new ≡ h)
refused_answer h i item answer new (inl e) is =
    let P : Offered → Type 0 = λ v. OfferAnswers h i item v new in
    let a = subst P e is in
    (inl (tests_of h.run.schedule h.events i item (Some Stranger) a.0), a.1)
refused_answer h i item answer new (inr e) is =
    let P : Offered → Type 0 = λ v. OfferAnswers h i item v new in
    let a = subst P e is in
    (inr (ltb-true item.stamp (last_stamp i h.events) (tests_of h.run.schedule h.events i item (Some Backward) a.0)), a.1)
