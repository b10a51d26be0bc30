use Rattle.std.proofs.Common.{refl, eq-eqb, ◌≡◌, ◌<◌, sym, ap, ◌∙◌, arith, subst, ◌++◌, ◌∷◌, [], List, ℕ, length}
use Rattle.std.specs.List.{slice_get}
use Rattle.std.proofs.lemmas.Option.{slice_get_within}
use Rattle.std.proofs.lemmas.List.{length-map}
use Rattle.mux.specs.declared.event.Event.{Event}
use Rattle.mux.specs.declared.event.Event.TheVariants.{Slot}
use Rattle.mux.specs.declared.content.Content.TheVariants.{Elementary}
use Rattle.mux.specs.declared.input_state.InputState.{InputState}
use Rattle.schedule.specs.Schedule.{slot_time}
use Rattle.schedule.specs.Streams.{all_streams}
use Rattle.mux.specs.History.{History, with_event, slots, emitted, packet_behind}
use Rattle.mux.specs.declared.counts.Counts.{Counts}
use Rattle.mux.specs.Totals.{is_of_input, is_elementary}
use Rattle.mux.specs.Keeping.{without_notes}
use Rattle.mux.specs.Lawful.{MaySend}
use Rattle.mux.proofs.Plans.{IsAt, stream_in}
use Rattle.mux.proofs.Counting.{count_within}
use Rattle.mux.proofs.BucketSteps.{chosen_has_room}
use Rattle.mux.proofs.Steps.{length_states, length_queues, queue_at, span_stays}
use Rattle.mux.proofs.Slots.{cleared_at, sending_head, sent_packet_is}
use Rattle.tspkt.specs.declared.stamped.Stamped.{Stamped}
use Rattle.std.proofs.lemmas.Option.{same_Some}
use Rattle.mux.proofs.Heads.{some_of, copied_is, goes_next}
use Rattle.mux.proofs.Noted.{noted_cleared, noted_same}
use Rattle.mux.proofs.Pushed.{some_behind, last_is}
use Rattle.mux.proofs.HeadTimes.{length_heads, heads_set}
use Rattle.mux.proofs.Peaks.{length_peaks, peaks_sending}
use Rattle.mux.proofs.mux.Mux.send_head.Goals as goal

pub index-requires : goal.index-requires
index-requires g c =
    let n = length_queues c.self.invariant.0.agrees in
    let at : IsAt c.self.inside.schedule c.args.index c.args.stream = ap (λ (h : History). slice_get (all_streams h.run.schedule) c.args.index) c.self.view_is ∙ c.requires.index in
    let l = slice_get_within (all_streams c.self.inside.schedule) c.args.index c.args.stream at in
    omega (arith, c.self.inside.queues.ok.0)

pub index_mut-queue-requires : goal.index_mut-queue-requires
index_mut-queue-requires g c =
    let n = length_queues c.self.invariant.0.agrees in
    let at : IsAt c.self.inside.schedule c.args.index c.args.stream = ap (λ (h : History). slice_get (all_streams h.run.schedule) c.args.index) c.self.view_is ∙ c.requires.index in
    let l = slice_get_within (all_streams c.self.inside.schedule) c.args.index c.args.stream at in
    omega (arith, c.self.inside.queues.ok.0)

pub set-requires : goal.set-requires
set-requires g c =
    let n = length_queues c.self.invariant.0.agrees in
    let m = length_heads c.self.invariant.4 in
    let at : IsAt c.self.inside.schedule c.args.index c.args.stream = ap (λ (h : History). slice_get (all_streams h.run.schedule) c.args.index) c.self.view_is ∙ c.requires.index in
    let l = slice_get_within (all_streams c.self.inside.schedule) c.args.index c.args.stream at in
    omega arith

pub index_mut-peak-requires : goal.index_mut-peak-requires
index_mut-peak-requires g c =
    let n = length_peaks c.self.invariant.2 in
    let at : IsAt c.self.inside.schedule c.args.index c.args.stream = ap (λ (h : History). slice_get (all_streams h.run.schedule) c.args.index) c.self.view_is ∙ c.requires.index in
    let l = slice_get_within (all_streams c.self.inside.schedule) c.args.index c.args.stream at in
    omega (arith, c.self.inside.peaks.ok.0)

pub index_mut-requires : goal.index_mut-requires
index_mut-requires g c =
    let n = length_states c.self.invariant.0.agrees in
    let at : IsAt c.self.inside.schedule c.args.index c.args.stream = ap (λ (h : History). slice_get (all_streams h.run.schedule) c.args.index) c.self.view_is ∙ c.requires.index in
    let l = (stream_in c.self.inside.schedule c.args.index c.args.stream c.self.invariant.0.agrees.schedule at).input in
    let m = ap length c.clear_notes.ensures.inputs ∙ length-map c.self.inside.inputs.items without_notes in
    omega (arith, c.clear_notes.new.inputs.ok.0)

pub overflow_add-index_mut : goal.overflow_add-index_mut
overflow_add-index_mut g c =
    let at : IsAt c.self.inside.schedule c.args.index c.args.stream = ap (λ (h : History). slice_get (all_streams h.run.schedule) c.args.index) c.self.view_is ∙ c.requires.index in
    let k = c.self.invariant.0.agrees in
    let l = (stream_in c.self.inside.schedule c.args.index c.args.stream k.schedule at).input in
    let is = cleared_at k c.clear_notes.new.inputs.items c.clear_notes.ensures.inputs c.args.stream.input c.index_mut.result.now l c.index_mut.ensures.value in
    let h = c.self.inside.past in
    let s = ap (λ (x : InputState). x.sent) is in
    let within = k.within in
    let limit = k.limit in
    omega (arith, count_within (is_of_input c.args.stream.input) h)

pub overflow_add-self : goal.overflow_add-self
overflow_add-self g c =
    let k = c.self.invariant.0.agrees in
    let h = c.self.inside.past in
    let e = ap (λ (x : Counts). x.elementary) c.self.invariant.0.counts_are in
    let within = k.within in
    let limit = k.limit in
    omega (arith, count_within is_elementary h)

pub unwrap-item-requires : goal.unwrap-item-requires
unwrap-item-requires g c =
    let at : IsAt c.self.inside.schedule c.args.index c.args.stream = ap (λ (h : History). slice_get (all_streams h.run.schedule) c.args.index) c.self.view_is ∙ c.requires.index in
    let R : History → Type 0 = λ h. MaySend h.run.schedule h.events (Elementary c.args.stream) in
    let may = subst R (sym c.self.view_is) c.requires.may in
    let next = goes_next c.self.invariant.0.agrees c.args.index c.args.stream c.index.result.now at c.index.ensures may.content in
    some_of c.head.result next.item (c.head.ensures ∙ next.head)

pub overflow_sub-delay : goal.overflow_sub-delay
overflow_sub-delay g c =
    let at : IsAt c.self.inside.schedule c.args.index c.args.stream = ap (λ (h : History). slice_get (all_streams h.run.schedule) c.args.index) c.self.view_is ∙ c.requires.index in
    let R : History → Type 0 = λ h. MaySend h.run.schedule h.events (Elementary c.args.stream) in
    let may = subst R (sym c.self.view_is) c.requires.may in
    let next = goes_next c.self.invariant.0.agrees c.args.index c.args.stream c.index.result.now at c.index.ensures may.content in
    let t = c.requires.now ∙ sym (ap (λ (h : History). slot_time h.run.schedule.first (slots h.events)) c.self.view_is) in
    let same : c.unwrap-item.result.now ≡ next.item = same_Some _ _ (sym (copied_is c.head.result c.unwrap-item.result _ c.unwrap-item.ensures c.head.ensures) ∙ next.head) in
    let stamp = ap (λ (x : Stamped). x.stamp) same in
    let due = next.due in
    omega arith

pub bucket-bucket-requires : goal.bucket-bucket-requires
bucket-bucket-requires g c =
    let at : IsAt c.self.inside.schedule c.args.index c.args.stream = ap (λ (h : History). slice_get (all_streams h.run.schedule) c.args.index) c.self.view_is ∙ c.requires.index in
    let l = slice_get_within (all_streams c.self.inside.schedule) c.args.index c.args.stream at in
    let count = c.self.invariant.0.buckets_are.count in
    omega arith

pub send-requires-clause-room : goal.send-requires-clause-room
send-requires-clause-room g c =
    let at : IsAt c.self.inside.schedule c.args.index c.args.stream = ap (λ (h : History). slice_get (all_streams h.run.schedule) c.args.index) c.self.view_is ∙ c.requires.index in
    let R : History → Type 0 = λ h. MaySend h.run.schedule h.events (Elementary c.args.stream) in
    let may = subst R (sym c.self.view_is) c.requires.may in
    let k = c.self.invariant.0.agrees in
    chosen_has_room c.self.inside.schedule _ c.self.inside.progress.buckets c.args.index c.args.stream k.schedule k.lawful c.self.invariant.0.buckets_are at may.content c.args.index c.bucket-bucket.result (eq-eqb c.args.index c.args.index refl) c.bucket-bucket.ensures

pub invariant_of-self : goal.invariant_of-self
invariant_of-self g c =
    let S : History → Type 0 = λ h. slots h.events < h.run.limit in
    let at : IsAt c.self.inside.schedule c.args.index c.args.stream = ap (λ (h : History). slice_get (all_streams h.run.schedule) c.args.index) c.self.view_is ∙ c.requires.index in
    let R : History → Type 0 = λ h. MaySend h.run.schedule h.events (Elementary c.args.stream) in
    let may = subst R (sym c.self.view_is) c.requires.may in
    let next = goes_next c.self.invariant.0.agrees c.args.index c.args.stream c.index.result.now at c.index.ensures may.content in
    let l = (stream_in c.self.inside.schedule c.args.index c.args.stream c.self.invariant.0.agrees.schedule at).input in
    let t = c.requires.now ∙ sym (ap (λ (h : History). slot_time h.run.schedule.first (slots h.events)) c.self.view_is) in
    let head = copied_is c.head.result c.unwrap-item.result _ c.unwrap-item.ensures c.head.ensures in
    let q = queue_at c.self.invariant.0.agrees c.args.index c.args.stream c.index.result.now at c.index.ensures in
    let p = sent_packet_is c.self.invariant.0.agrees c.args.index c.args.stream c.index.result.now c.unwrap-item.result.now c.args.now at c.index.ensures head t in
    let packet = c.push.ensures ∙ ap (λ x. c.self.inside.output ++ x ∷ []) (last_is _ _ _ _ c.add_rewritten.ensures.packets c.last.ensures ∙ p) in
    let kept = sending_head c.self.invariant.0 c.args.index c.args.stream c.index_mut.result.now c.index_mut-queue.result.now c.take.new.self _ c.clear_notes.new.inputs.items _ _ _ _ c.add.ensures c.clear_notes.ensures.inputs
    c.index_mut.ensures.value l at c.index_mut-queue.ensures.value c.take.ensures.rest c.send.ensures.buckets c.send.ensures.clock c.advance.ensures
    packet (subst S (sym c.self.view_is) c.requires.within) may in
    let k = c.self.invariant.0.agrees in
    let count = ap length c.clear_notes.ensures.inputs ∙ length-map c.self.inside.inputs.items without_notes ∙ length_states k in
    let noted = noted_same (noted_cleared _ c.self.inside.inputs.items _ c.clear_notes.ensures.inputs) c.args.stream.input c.index_mut.result.now _ (omega (arith, count, l)) c.index_mut.ensures.value refl refl in (
      kept,
      span_stays c.self.invariant.1 (Slot (Elementary c.args.stream)) _ c.add.ensures refl,
      peaks_sending c.self.invariant.2 _ c.unwrap-item.result.now c.args.index c.args.stream c.index_mut-peak.result.now c.index.result.now c.args.now c.max-peak.result k.schedule c.add.ensures c.index_mut-peak.ensures.value at q head t c.max-peak.ensures,
      noted,
      heads_set c.self.invariant.4 c.args.index _ c.take.new.self c.set.new.self c.head_time.ensures c.set.ensures,
    )

pub returns-clause-event : goal.returns-clause-event
returns-clause-event g c =
    let opened : List Event → History = λ es. record { run = record { schedule = c.self.inside.schedule; limit = c.self.inside.limit }; events = es } in
    ap opened c.add.ensures ∙ ap (λ (h : History). with_event h (Slot (Elementary c.args.stream))) c.self.view_is

pub add_rewritten-requires-clause-pid : goal.add_rewritten-requires-clause-pid
add_rewritten-requires-clause-pid g c =
    let at : IsAt c.self.inside.schedule c.args.index c.args.stream = ap (λ (h : History). slice_get (all_streams h.run.schedule) c.args.index) c.self.view_is ∙ c.requires.index in
    let pid = (stream_in c.self.inside.schedule c.args.index c.args.stream c.self.invariant.0.agrees.schedule at).output_pid in
    omega (arith, pid.1)

pub last-requires : goal.last-requires
last-requires g c = some_behind _ _ _ c.add_rewritten.ensures.packets

pub returns-clause-out : goal.returns-clause-out
returns-clause-out g c =
    let at : IsAt c.self.inside.schedule c.args.index c.args.stream = ap (λ (h : History). slice_get (all_streams h.run.schedule) c.args.index) c.self.view_is ∙ c.requires.index in
    let t = c.requires.now ∙ sym (ap (λ (h : History). slot_time h.run.schedule.first (slots h.events)) c.self.view_is) in
    let head = copied_is c.head.result c.unwrap-item.result _ c.unwrap-item.ensures c.head.ensures in
    let p = sent_packet_is c.self.invariant.0.agrees c.args.index c.args.stream c.index.result.now c.unwrap-item.result.now c.args.now at c.index.ensures head t in
    let of : History → List ℕ = λ h. packet_behind h.run.schedule h.events (emitted h.run.schedule h.events) (Elementary c.args.stream) in
    c.add_rewritten.ensures.packets ∙ ap (λ q. g.O.Outgoing.packets c.args.out.now ++ q ∷ []) (p ∙ ap of c.self.view_is)
