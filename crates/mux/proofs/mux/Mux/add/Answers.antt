use Rattle.std.proofs.Common.{◌≡◌, ◌<◌, refl, sym, ap, ◌∙◌, arith, subst, length, max, true, List}
use Rattle.std.specs.List.{slice_get}
use Rattle.std.proofs.lemmas.Option.{slice_get_within}
use Rattle.buffers.specs.QueueValue.{QueueValue}
use Rattle.schedule.specs.Streams.{all_streams}
use Rattle.mux.specs.declared.event.Event.{Event}
use Rattle.mux.specs.declared.event.Event.TheVariants.{Took}
use Rattle.mux.specs.History.{History, has_stream, plan_in_force, is_mapped_to, with_event}
use Rattle.mux.specs.Lawful.{input_count, MayTake}
use Rattle.mux.proofs.Plans.{IsAt}
use Rattle.mux.proofs.Refusals.{taken_at}
use Rattle.mux.proofs.Queues.{has_room}
use Rattle.mux.proofs.Steps.{length_states, length_queues, queue_at, taking, span_stays}
use Rattle.mux.proofs.Lists.{on_ok}
use Rattle.mux.proofs.Noted.{noted_same}
use Rattle.mux.proofs.HeadTimes.{length_heads, heads_set}
use Rattle.mux.proofs.Peaks.{length_peaks, peaks_taking}
use Rattle.mux.proofs.mux.Mux.add.Goals as goal

pub index_mut-requires : goal.index_mut-requires
index_mut-requires c =
    let n = length_states c.self.invariant.0.agrees in
    let v = ap (λ (h : History). input_count h.run.schedule) c.self.view_is in
    let l = c.requires.may.input in
    omega (arith, c.self.inside.inputs.ok.0)

pub index_mut-queue-requires : goal.index_mut-queue-requires
index_mut-queue-requires c =
    let n = length_queues c.self.invariant.0.agrees in
    let at : IsAt c.self.inside.schedule c.args.place c.args.stream = ap (λ (h : History). slice_get (all_streams h.run.schedule) c.args.place) c.self.view_is ∙ c.requires.place in
    let l = slice_get_within (all_streams c.self.inside.schedule) c.args.place c.args.stream at in
    omega (arith, c.self.inside.queues.ok.0)

pub index_mut-peak-requires : goal.index_mut-peak-requires
index_mut-peak-requires c =
    let n = length_peaks c.self.invariant.2 in
    let at : IsAt c.self.inside.schedule c.args.place c.args.stream = ap (λ (h : History). slice_get (all_streams h.run.schedule) c.args.place) c.self.view_is ∙ c.requires.place in
    let l = slice_get_within (all_streams c.self.inside.schedule) c.args.place c.args.stream at in
    omega (arith, c.self.inside.peaks.ok.0)

pub set-requires : goal.set-requires
set-requires c =
    let n = length_queues c.self.invariant.0.agrees in
    let m = length_heads c.self.invariant.4 in
    let at : IsAt c.self.inside.schedule c.args.place c.args.stream = ap (λ (h : History). slice_get (all_streams h.run.schedule) c.args.place) c.self.view_is ∙ c.requires.place in
    let l = slice_get_within (all_streams c.self.inside.schedule) c.args.place c.args.stream at in
    omega arith

pub invariant_of-self : goal.invariant_of-self
invariant_of-self c =
    let at : IsAt c.self.inside.schedule c.args.place c.args.stream = ap (λ (h : History). slice_get (all_streams h.run.schedule) c.args.place) c.self.view_is ∙ c.requires.place in
    let R : History → Type 0 = λ h. MayTake h.run.schedule h.events c.args.stream.input c.args.item.now in
    let may = subst R (sym c.self.view_is) c.requires.may in
    let F : History → Type 0 = λ h. has_stream (plan_in_force h.run.schedule h.events) c.args.stream ≡ true in
    let has = subst F (sym c.self.view_is) c.requires.in_force in
    let M : History → Type 0 = λ h. is_mapped_to h.run.schedule c.args.stream c.args.stream.input c.args.item.now ≡ true in
    let mapped = subst M (sym c.self.view_is) c.requires.mapped in
    let k = c.self.invariant.0.agrees in
    let taker = taken_at c.self.inside.schedule _ c.args.stream.input c.args.item.now c.args.place c.args.stream k.schedule may at mapped in
    let P : QueueValue → Type 0 = λ x. length x.items < x.capacity in
    let q = queue_at k c.args.place c.args.stream c.index_mut-queue.result.now at c.index_mut-queue.ensures.value in
    let fits = has_room c.self.inside.schedule _ c.args.stream.input c.args.item.now c.args.stream k.schedule k.lawful taker in
    let room = subst P (sym q) fits in
    let most = c.max-peak.ensures ∙ ap (max c.index_mut-peak.result.now.queued) c.len.ensures.value in
    let added = rw c.stamped.ensures at c.add.ensures in
    let w = rw c.stamped-2.ensures at (on_ok c.offer.result c.offer.ensures.ok (c.offer.ensures.accepted.1 room)) in
    rw c.stamp.ensures (
      taking c.self.invariant.0 _ c.args.stream.input c.args.item.now c.args.place c.args.stream c.index_mut.result.now c.index_mut-queue.result.now c.offer.new.self added
          c.index_mut.ensures.value at c.index_mut-queue.ensures.value w may taker has,
      span_stays c.self.invariant.1 (Took c.args.stream.input c.args.item.now) _ added refl,
      peaks_taking c.self.invariant.2 _ c.args.stream.input c.args.item.now c.args.place c.args.stream c.index_mut-peak.result.now c.index_mut-queue.result.now c.offer.new.self
          c.max-peak.result k.schedule k.lawful added c.index_mut-peak.ensures.value at q w taker has most,
      noted_same c.self.invariant.3 c.args.stream.input c.index_mut.result.now _ (omega (arith, length_states k, may.input)) c.index_mut.ensures.value refl refl,
      heads_set c.self.invariant.4 c.args.place _ c.offer.new.self c.set.new.self c.head_time.ensures c.set.ensures,
    )

pub returns : goal.returns
returns c =
    let opened : List Event → History = λ es. record { run = record { schedule = c.self.inside.schedule; limit = c.self.inside.limit }; events = es } in
    ap opened (rw c.stamped.ensures at c.add.ensures) ∙ ap (λ (h : History). with_event h (Took c.args.stream.input c.args.item.now)) c.self.view_is
