use Rattle.std.proofs.Common.{refl, sym, ap, ◌∙◌, subst, List, [], ◌∷◌, ◌++◌, ◌<◌, arith}
use Rattle.mux.specs.declared.content.Content.TheVariants.{Null}
use Rattle.mux.specs.History.{History, slots, with_event}
use Rattle.mux.specs.declared.counts.Counts.{Counts}
use Rattle.mux.specs.Totals.{is_null}
use Rattle.mux.proofs.Counting.{count_within}
use Rattle.mux.specs.Lawful.{MaySend}
use Rattle.mux.proofs.Steps.{span_stays}
use Rattle.mux.proofs.Slots.{sending_null}
use Rattle.mux.proofs.Noted.{noted_cleared}
use Rattle.mux.proofs.Pushed.{some_behind, last_is}
use Rattle.mux.proofs.Peaks.{peaks_null}
use Rattle.mux.specs.declared.event.Event.{Event}
use Rattle.mux.specs.declared.event.Event.TheVariants.{Slot}
use Rattle.mux.proofs.mux.Mux.send_null.Goals as goal

pub overflow_add-self : goal.overflow_add-self
overflow_add-self g c =
    let k = c.self.invariant.0.agrees in
    let h = c.self.inside.past in
    let n = ap (λ (x : Counts). x.null) c.self.invariant.0.counts_are in
    let within = k.within in
    let limit = k.limit in
    omega (arith, count_within is_null h)

pub invariant_of-self : goal.invariant_of-self
invariant_of-self g c =
    let R : History → Type 0 = λ h. MaySend h.run.schedule h.events Null in
    let S : History → Type 0 = λ h. slots h.events < h.run.limit in
    let kept = sending_null c.self.invariant.0 _ _ _ _ _ _ c.add.ensures c.clear_notes.ensures.inputs c.pass.ensures.buckets c.pass.ensures.clock c.advance.ensures
    (c.push.ensures ∙ ap (λ q. c.self.inside.output ++ q ∷ []) (last_is _ _ _ _ c.add_null.ensures.packets c.last.ensures)) (subst S (sym c.self.view_is) c.requires.within) (subst R (sym c.self.view_is) c.requires.may) in (
      kept,
      span_stays c.self.invariant.1 (Slot Null) _ c.add.ensures refl,
      peaks_null c.self.invariant.2 _ c.add.ensures,
      noted_cleared _ c.self.inside.inputs.items _ c.clear_notes.ensures.inputs,
      c.self.invariant.4,
    )

pub returns-clause-event : goal.returns-clause-event
returns-clause-event g c =
    let opened : List Event → History = λ es. record { run = record { schedule = c.self.inside.schedule; limit = c.self.inside.limit }; events = es } in
    ap opened c.add.ensures ∙ ap (λ (h : History). with_event h (Slot Null)) c.self.view_is

pub last-requires : goal.last-requires
last-requires g c = some_behind _ _ _ c.add_null.ensures.packets

pub returns-clause-out : goal.returns-clause-out
returns-clause-out g c = c.add_null.ensures.packets
