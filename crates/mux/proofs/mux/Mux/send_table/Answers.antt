use Rattle.std.proofs.Common.{ℕ, ◌≡◌, ◌<◌, ◌++◌, ◌∷◌, [], List, Some, refl, sym, ap, ◌∙◌, subst, arith}
use Rattle.rounds.specs.Rounds.{IsPlace}
use Rattle.emission.specs.Emission.{table_packet_at, counted_behind}
use Rattle.rounds.proofs.RecurringLaws.{are_places}
use Rattle.mux.specs.declared.content.Content.TheVariants.{Table}
use Rattle.mux.specs.declared.counts.Counts.{Counts}
use Rattle.mux.specs.History.{History, in_force, plan_in_force, slots, with_event, emitted}
use Rattle.mux.specs.Totals.{is_table}
use Rattle.mux.specs.Lawful.{table_due, MaySend}
use Rattle.mux.proofs.Counting.{count_within}
use Rattle.mux.proofs.Steps.{span_stays}
use Rattle.mux.proofs.Slots.{sending_table}
use Rattle.mux.proofs.Plans.{built_at}
use Rattle.mux.proofs.Force.{force_within}
use Rattle.schedule.specs.Schedule.{span_at}
use Rattle.emission.specs.Spans.{slot_in_span}
use Rattle.mux.proofs.Noted.{noted_cleared}
use Rattle.mux.proofs.Peaks.{peaks_table}
use Rattle.mux.specs.declared.event.Event.{Event}
use Rattle.mux.specs.declared.event.Event.TheVariants.{Slot}
use Rattle.mux.proofs.mux.Mux.send_table.Goals as goal

pub table_packet-packet-requires : goal.table_packet-packet-requires
table_packet-packet-requires g c =
    let s = c.self.inside.schedule in
    let h = c.self.inside.past in
    let D : History → Type 0 = λ x. table_due x.run.schedule x.events ≡ Some c.args.place in
    let due : table_due s h ≡ Some c.args.place = subst D (sym c.self.view_is) c.requires.due in
    let k = c.self.invariant.0.agrees in
    let built = built_at s k.schedule (in_force h) (force_within s h k.schedule k.lawful) in
    let P : History → Type 0 = λ x. IsPlace (plan_in_force x.run.schedule x.events).rounds c.args.place in
    subst P c.self.view_is (are_places (plan_in_force s h).rounds built.rounds (slot_in_span (span_at s (in_force h)).slot (slots h)) c.args.place due)

pub overflow_add-self : goal.overflow_add-self
overflow_add-self g c =
    let k = c.self.invariant.0.agrees in
    let h = c.self.inside.past in
    let n = ap (λ (x : Counts). x.tables) c.self.invariant.0.counts_are in
    let within = k.within in
    let limit = k.limit in
    omega (arith, count_within is_table h)

pub invariant_of-self : goal.invariant_of-self
invariant_of-self g c =
    let R : History → Type 0 = λ h. MaySend h.run.schedule h.events (Table c.args.place) in
    let S : History → Type 0 = λ h. slots h.events < h.run.limit in
    let of : History → List ℕ = λ x. counted_behind (emitted x.run.schedule x.events) (table_packet_at (plan_in_force x.run.schedule x.events).tables c.args.place) in
    let packet = c.push.ensures ∙ ap (λ q. c.self.inside.output ++ q ∷ []) (c.table_packet-packet.ensures ∙ ap of (sym c.self.view_is)) in
    let kept = sending_table c.self.invariant.0 c.args.place _ _ _ _ _ _ c.add-2.ensures c.clear_notes.ensures.inputs c.pass.ensures.buckets c.pass.ensures.clock c.advance.ensures
    packet (subst S (sym c.self.view_is) c.requires.within) (subst R (sym c.self.view_is) c.requires.may) in (
      kept,
      span_stays c.self.invariant.1 (Slot (Table c.args.place)) _ c.add-2.ensures refl,
      peaks_table c.self.invariant.2 _ c.args.place c.add-2.ensures,
      noted_cleared _ c.self.inside.inputs.items _ c.clear_notes.ensures.inputs,
      c.self.invariant.4,
    )

pub returns-clause-event : goal.returns-clause-event
returns-clause-event g c =
    let opened : List Event → History = λ es. record { run = record { schedule = c.self.inside.schedule; limit = c.self.inside.limit }; events = es } in
    ap opened c.add-2.ensures ∙ ap (λ (h : History). with_event h (Slot (Table c.args.place))) c.self.view_is

pub returns-clause-out : goal.returns-clause-out
returns-clause-out g c = c.add.ensures.packets ∙ ap (λ q. g.O.Outgoing.packets c.args.out.now ++ q ∷ []) c.table_packet-packet.ensures
