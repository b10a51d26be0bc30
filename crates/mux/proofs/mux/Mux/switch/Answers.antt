use Rattle.std.proofs.Common.{ℕ, ◌≡◌, ◌+◌, ◌<◌, ◌∷◌, List, length, get_or, map, sym, ap, ◌∙◌, subst, arith, All}
use Rattle.std.proofs.lemmas.Option.{slice_get-get_or}
use Rattle.request.specs.declared.stream.Stream.{Stream}
use Rattle.rounds.specs.Rounds.{RoundsValue}
use Rattle.rounds.specs.Turn.{TurnValue}
use Rattle.plan.specs.Build.{PlanValue}
use Rattle.schedule.specs.Schedule.{plan_at}
use Rattle.schedule.specs.Streams.{all_streams}
use Rattle.mux.specs.declared.event.Event.{Event}
use Rattle.mux.specs.declared.event.Event.TheVariants.{Switch}
use Rattle.mux.specs.History.{History, in_force, with_event}
use Rattle.mux.specs.Keeping.{IsSpanOf, KeepsHeads, without_notes}
use Rattle.mux.specs.Lawful.{MaySwitch}
use Rattle.mux.specs.Switching.{after_switch, with_dropped}
use Rattle.mux.proofs.Force.{due_is}
use Rattle.mux.proofs.Noted.{noted_cleared}
use Rattle.mux.proofs.Peaks.{peaks_switching}
use Rattle.mux.proofs.Plans.{stream_in}
use Rattle.mux.proofs.Steps.{length_queues, length_states}
use Rattle.mux.proofs.SwitchSteps.{switching, noted_dropped}
use Rattle.mux.proofs.mux.Mux.switch.Goals as goal

pub overflow_add-number : goal.overflow_add-number
overflow_add-number c =
    let R : History → Type 0 = λ h. MaySwitch h.run.schedule h.events (in_force h.events + 1) in
    let may = subst R (sym c.self.view_is) c.requires.may in
    let k = c.self.invariant.0.agrees in
    omega (arith, c.self.invariant.1.number_is, (due_is c.self.inside.schedule c.self.inside.past may.due).0, k.schedule.schedule.slots.count)

pub plan-plan-requires : goal.plan-plan-requires
plan-plan-requires c =
    let R : History → Type 0 = λ h. MaySwitch h.run.schedule h.events (in_force h.events + 1) in
    let may = subst R (sym c.self.view_is) c.requires.may in
    omega (arith, c.self.invariant.1.number_is, (due_is c.self.inside.schedule c.self.inside.past may.due).0)

pub drop_gone-requires-clause-queues : goal.drop_gone-requires-clause-queues
drop_gone-requires-clause-queues c = ap (λ (xs : List Stream). length xs) c.streams.ensures ∙ sym (length_queues c.self.invariant.0.agrees)

pub drop_gone-requires-clause-heads : goal.drop_gone-requires-clause-heads
drop_gone-requires-clause-heads c =
    let P : List Stream → Type 0 = KeepsHeads c.self.inside.heads c.self.inside.queues.items in
    subst P (sym c.streams.ensures) c.self.invariant.4

pub drop_gone-requires-clause-inputs : goal.drop_gone-requires-clause-inputs
drop_gone-requires-clause-inputs c =
    let s = c.self.inside.schedule in
    let k = c.self.invariant.0.agrees in
    let P : List Stream → Type 0 = All (λ (st : Stream). st.input < length c.self.inside.inputs.items) in
    subst P (sym c.streams.ensures) (λ j d l. omega (arith, length_states k, (stream_in s j (get_or (all_streams s) j d) k.schedule (slice_get-get_or (all_streams s) j d l)).input))

pub clear_notes-requires : goal.clear_notes-requires
clear_notes-requires c = noted_dropped c.self.invariant.3 c.plan-plan.result.now c.streams.result.now c.self.inside.queues.items c.drop_gone.new.inputs.items c.drop_gone.ensures.inputs

pub invariant_of-self : goal.invariant_of-self
invariant_of-self c =
    let s = c.self.inside.schedule in
    let h = c.self.inside.past in
    let k = c.self.invariant.0.agrees in
    let number = c.self.inside.span.number + 1 in
    let R : History → Type 0 = λ x. MaySwitch x.run.schedule x.events (in_force x.events + 1) in
    let M : ℕ → Type 0 = λ n. MaySwitch s h n in
    let e : in_force h + 1 ≡ number = ap (λ n. n + 1) (sym c.self.invariant.1.number_is) in
    let may : MaySwitch s h number = subst M e (subst R (sym c.self.view_is) c.requires.may) in
    let qs = c.self.inside.queues.items in
    let xs = c.self.inside.inputs.items in
    let p = plan_at s number in
    let H : List Stream → Type 0 = λ streams. KeepsHeads c.drop_gone.new.heads c.drop_gone.new.queues.items streams in
    let S : List Event → Type 0 = λ es. IsSpanOf s (in_force es) c.of-self-inside.result in (
      switching c.self.invariant.0 _ number c.clear_notes.new.inputs.items c.drop_gone.new.queues.items _ c.add.ensures
          (c.clear_notes.ensures.inputs
          ∙ ap (map without_notes)
          (c.drop_gone.ensures.inputs
          ∙ ap (λ (q : PlanValue). with_dropped q c.streams.result.now qs xs) c.plan-plan.ensures
          ∙ ap (λ (streams : List Stream). with_dropped p streams qs xs) c.streams.ensures))
          (c.drop_gone.ensures.queues
          ∙ ap (λ (q : PlanValue). after_switch q c.streams.result.now qs) c.plan-plan.ensures
          ∙ ap (λ (streams : List Stream). after_switch p streams qs) c.streams.ensures)
          (c.new-self-inside.ensures ∙ ap (λ (x : RoundsValue). let t : TurnValue = record { rounds = x; slot = 0 } in t) (c.rounds.ensures ∙ ap (λ (q : PlanValue). q.rounds) c.plan-plan.ensures)) may,
      subst S (sym c.add.ensures) c.of-self-inside.ensures,
      peaks_switching c.self.invariant.2 _ number k.schedule k.lawful c.add.ensures may,
      noted_cleared _ c.drop_gone.new.inputs.items c.clear_notes.new.inputs.items c.clear_notes.ensures.inputs,
      subst H c.streams.ensures c.drop_gone.ensures.heads,
    )

pub returns : goal.returns
returns c =
    let opened : List Event → History = λ es. record { run = record { schedule = c.self.inside.schedule; limit = c.self.inside.limit }; events = es } in
    let h = c.self.inside.past in
    ap opened (c.add.ensures ∙ ap (λ n. Switch (n + 1) ∷ h) c.self.invariant.1.number_is)
    ∙ ap (λ (x : History). with_event x (Switch (in_force x.events + 1))) c.self.view_is
