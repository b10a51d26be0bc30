use Rattle.std.proofs.Common.{◌≡◌, ◌<◌, true, false, length, set, Some, sym, ap, ◌∙◌, arith, take, get_or, ◌+◌}
use Rattle.std.specs.List.{slice_get}
use Rattle.std.proofs.lemmas.Option.{slice_get-get_or}
use Rattle.request.specs.declared.stream.Stream.{Stream}
use Rattle.mux.specs.Totals.{told}
use Rattle.mux.proofs.HeadTimes.{length_heads, heads_set, keeps_as}
use Rattle.mux.proofs.SwitchLoop.{queues_kept, queues_emptied, states_kept, states_counted, length_switched, length_dropped}
use Rattle.mux.proofs.mux.switching.drop_gone.Goals.{then-not-has_stream, else-not-has_stream}
use Rattle.mux.proofs.mux.switching.drop_gone.Goals as goal

pub index_mut-queue-requires : goal.index_mut-queue-requires
index_mut-queue-requires c =
    let n = ap length c.loop-place.invariant.queues ∙ length_switched c.args.plan.now (take c.loop-place.place c.args.streams.now) c.args.queues.now.items in
    omega (arith, c.requires.queues, c.loop-place.queues.ok.0)

pub index_mut-input-requires : goal.index_mut-input-requires
index_mut-input-requires c =
    let n = ap length c.loop-place.invariant.inputs ∙ length_dropped c.args.plan.now (take c.loop-place.place c.args.streams.now) c.args.queues.now.items c.args.inputs.now.items in
    let none : Stream = record { input = 0; pid = 0; output_pid = 0; leak = 0 } in
    let l = c.requires.inputs c.loop-place.place none c.loop-place-test.true in
    omega (arith, l, c.loop-place.inputs.ok.0)

pub set-requires : goal.set-requires
set-requires c =
    let n = ap length c.loop-place.invariant.queues ∙ length_switched c.args.plan.now (take c.loop-place.place c.args.streams.now) c.args.queues.now.items in
    omega (arith, c.requires.queues, length_heads c.loop-place.invariant.heads)

pub loop-place-preserved : goal.loop-place-preserved
loop-place-preserved c =
    let l = c.loop-place in
    let p = c.args.plan.now in
    let streams = c.args.streams.now in
    let qs = c.args.queues.now.items in
    let states = c.args.inputs.now.items in
    let none : Stream = record { input = 0; pid = 0; output_pid = 0; leak = 0 } in
    let st = get_or streams l.place none in
    let at : slice_get streams l.place ≡ Some st = slice_get-get_or streams l.place none c.loop-place-test.true in
    let input = c.requires.inputs l.place none c.loop-place-test.true in
    let within : st.input < length l.inputs.items = omega (arith, input, ap length l.invariant.inputs ∙ length_dropped p (take l.place streams) qs states) in
    elim c.if-not-has_stream.branch [
      | then-not-has_stream w ↦
          let x = w.index_mut-queue.result.now in
          let y = w.drop_all.new.queue in
          let z = w.index_mut-input.result.now in
          let goes = sym c.has_stream.ensures ∙ w.if-not-has_stream.true in
          record {
            queues = (λ i. (w.queues-is i).items) ∙ queues_emptied p streams qs l.queues.items l.place st x y c.requires.queues at l.invariant.queues goes w.index_mut-queue.ensures.value w.drop_all.ensures.empty w.drop_all.ensures.capacity;
            heads = keeps_as w.heads-is (λ i. (w.queues-is i).items) (heads_set l.invariant.heads l.place w.head_time.result y w.set.new.self w.head_time.ensures w.set.ensures);
            inputs =
                (λ i. (w.inputs-is i).items)
                ∙ states_counted p streams qs l.queues.items states l.inputs.items l.place st z x w.saturating_add-input.result c.requires.queues at l.invariant.queues l.invariant.inputs goes within
                w.index_mut-input.ensures.value w.index_mut-queue.ensures.value (w.saturating_add-input.ensures ∙ ap (λ m. told (z.dropped + m)) w.drop_all.ensures.count);
          }
      | else-not-has_stream w ↦
          let has = sym c.has_stream.ensures ∙ w.if-not-has_stream.false in
          record {
            queues = (λ i. (w.queues-is i).items) ∙ queues_kept p streams qs l.queues.items l.place st c.requires.queues at l.invariant.queues has;
            heads = keeps_as w.heads-is (λ i. (w.queues-is i).items) l.invariant.heads;
            inputs = (λ i. (w.inputs-is i).items) ∙ states_kept p streams qs states l.inputs.items l.place st c.requires.queues at l.invariant.inputs has;
          }
    ]
