use Rattle.std.proofs.Common.{ℕ, ◌≡◌, ◌<◌, false, sym, ap, ◌∙◌, subst, List, length, get_or, All}
use Rattle.std.specs.Prelude.{IsTrue}
use Rattle.std.proofs.lemmas.Option.{IfSome_then}
use Rattle.mux.specs.declared.input_state.InputState.{InputState}
use Rattle.schedule.specs.Schedule.{slot_time}
use Rattle.mux.specs.History.{History, slots}
use Rattle.mux.specs.Keeping.{ready_at}
use Rattle.mux.specs.Lawful.{AllReady}
use Rattle.mux.specs.Answers.{IsLeastUnready}
use Rattle.mux.proofs.Readiness.{all_ready, not_ready, when_none}
use Rattle.mux.proofs.mux.Mux.unready.Goals as goal

pub returns-clause-none : goal.returns-clause-none
returns-clause-none c =
    let t = c.requires ∙ sym (ap (λ (h : History). slot_time h.run.schedule.first (slots h.events)) c.self.view_is) in
    let R : History → Type 0 = λ h. AllReady h.run.schedule h.events in
    let Q : List InputState → Type 0 = All (λ x. IsTrue (ready_at c.args.now x)) in
    when_none c.first_unready.result c.first_unready.ensures.none (λ all. subst R c.self.view_is (all_ready c.self.invariant.0.agrees c.args.now t (subst Q c.as_slice.ensures.value all)))

pub returns-clause-some : goal.returns-clause-some
returns-clause-some c =
    let t = c.requires ∙ sym (ap (λ (h : History). slot_time h.run.schedule.first (slots h.events)) c.self.view_is) in
    IfSome_then c.first_unready.result c.first_unready.ensures.some (λ i p.
    let R : History → Type 0 = λ h. IsLeastUnready h i in
    let Q : List InputState → Type 0 = λ xs. (i < length xs) × ((d : InputState) → ready_at c.args.now (get_or xs i d) ≡ false) × ((j : ℕ) (d : InputState) → j < i → IsTrue (ready_at c.args.now (get_or xs j d))) in
    let q = subst Q c.as_slice.ensures.value p in
    let least = not_ready c.self.invariant.0.agrees c.args.now i t q.0 q.1 q.2 in
    subst R c.self.view_is (record { input = least.0; unready = least.1; least = least.2 }))
