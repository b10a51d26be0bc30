use Rattle.std.proofs.Common.{◌≡◌, refl, sym, ap, ◌∙◌, arith, subst, false, true, List, ℕ, set}
use Rattle.mux.specs.declared.event.Event.{Event}
use Rattle.mux.specs.declared.event.Event.TheVariants.{Took}
use Rattle.mux.specs.History.{History, has_stream, plan_in_force, is_mapped_to, with_event}
use Rattle.mux.specs.Keeping.{IsKept}
use Rattle.mux.specs.Lawful.{input_count, MayTake}
use Rattle.std.specs.List.{Contains}
use Rattle.schedule.specs.Streams.{all_streams}
use Rattle.mux.proofs.Plans.{has_of}
use Rattle.mux.proofs.Refusals.{taken_at}
use Rattle.mux.proofs.Steps.{length_states, dropping, span_stays}
use Rattle.mux.proofs.Noted.{noted_same}
use Rattle.mux.proofs.Peaks.{peaks_late}
use Rattle.mux.proofs.mux.Mux.drop_late.Goals as goal

pub index_mut-state-requires : goal.index_mut-state-requires
index_mut-state-requires c =
    let n = length_states c.self.invariant.0.agrees in
    let v = ap (λ (h : History). input_count h.run.schedule) c.self.view_is in
    let l = c.requires.may.input in
    omega (arith, c.self.inside.inputs.ok.0)

pub invariant_of-self : goal.invariant_of-self
invariant_of-self c =
    let T : History → Type 0 = λ h. Contains (all_streams h.run.schedule) c.args.stream in
    let place = has_of c.self.inside.schedule c.args.stream (subst T (sym c.self.view_is) c.requires.stream) in
    let R : History → Type 0 = λ h. MayTake h.run.schedule h.events c.args.stream.input c.args.item.now in
    let may = subst R (sym c.self.view_is) c.requires.may in
    let F : History → Type 0 = λ h. has_stream (plan_in_force h.run.schedule h.events) c.args.stream ≡ false in
    let without = subst F (sym c.self.view_is) c.requires.gone in
    let M : History → Type 0 = λ h. is_mapped_to h.run.schedule c.args.stream c.args.stream.input c.args.item.now ≡ true in
    let mapped = subst M (sym c.self.view_is) c.requires.mapped in
    let k = c.self.invariant.0.agrees in
    let i = c.self.inside in
    let K : ℕ → Type 0 = λ n. IsKept (record { schedule = i.schedule; limit = i.limit }) c.add.new.self (set i.inputs.items c.args.stream.input (record c.index_mut-state.result.now { last_stamp = c.args.item.now.stamp; dropped = n })) i.queues.items i.progress.buckets i.progress.clock i.turn i.output i.counts in
    let taker = taken_at c.self.inside.schedule _ c.args.stream.input c.args.item.now place.0 c.args.stream k.schedule may place.1 mapped in
    let added = rw c.stamped.ensures at c.add.ensures in
    rw c.stamp-state.ensures (
      subst K (sym c.saturating_add-state.ensures) (dropping c.self.invariant.0 _ c.args.stream.input c.args.item.now c.args.stream c.index_mut-state.result.now added c.index_mut-state.ensures.value refl may taker without),
      span_stays c.self.invariant.1 (Took c.args.stream.input c.args.item.now) _ added refl,
      peaks_late c.self.invariant.2 _ c.args.stream.input c.args.item.now c.args.stream k.schedule added taker without,
      noted_same c.self.invariant.3 c.args.stream.input c.index_mut-state.result.now _ (omega (arith, length_states k, may.input)) c.index_mut-state.ensures.value refl refl,
      c.self.invariant.4,
    )

pub returns : goal.returns
returns c =
    let opened : List Event → History = λ es. record { run = record { schedule = c.self.inside.schedule; limit = c.self.inside.limit }; events = es } in
    ap opened (rw c.stamped.ensures at c.add.ensures) ∙ ap (λ (h : History). with_event h (Took c.args.stream.input c.args.item.now)) c.self.view_is
