use Rattle.std.proofs.Common.{◌≡◌, ◌+◌, [], cond, length, take, get_or, Some, ap, eq-eqb, arith}
use Rattle.std.specs.List.{slice_get}
use Rattle.std.proofs.lemmas.Bool.{ne_eqb}
use Rattle.std.proofs.lemmas.Option.{slice_get-get_or}
use Rattle.request.specs.declared.stream.Stream.{Stream}
use Rattle.buffers.specs.QueueValue.{QueueValue}
use Rattle.mux.specs.Totals.{told}
use Rattle.mux.specs.Switching.{waiting_in}
use Rattle.mux.proofs.SwitchLoop.{waiting_more}
use Rattle.mux.proofs.mux.count_queued.Goals.{then-stream-input, else-stream-input}
use Rattle.mux.proofs.mux.count_queued.Goals as goal

pub loop-place-preserved : goal.loop-place-preserved
loop-place-preserved c =
    let l = c.loop-place in
    let streams = c.args.streams.now in
    let queues = c.args.queues.now in
    let i = c.args.input in
    let none : Stream = record { input = 0; pid = 0; output_pid = 0; leak = 0 } in
    let st = get_or streams l.place none in
    let at : slice_get streams l.place ≡ Some st = slice_get-get_or streams l.place none c.loop-place-test.true in
    let was : l.count ≡ told (waiting_in i (take l.place streams) (take l.place queues)) = l.invariant in
    let now : c.if-stream-input.count ≡ told (waiting_in i (take (l.place + 1) streams) (take (l.place + 1) queues)) =
    elim c.if-stream-input.branch [
      | then-stream-input w ↦
          (let q = w.index-queues-place.result in
          let more = waiting_more i streams queues l.place st q c.requires at in
          let one = ap (λ b. cond b (length (get_or queues l.place q).items) 0) (eq-eqb st.input i w.if-stream-input.true) in
          let items = ap (λ (x : QueueValue). length x.items) w.index-queues-place.is in
          omega (arith, more, one, items, w.count-is, w.saturating_add-count.ensures, w.len.ensures.value, was))
      | else-stream-input w ↦
          (let q : QueueValue = record { items = []; capacity = 0 } in
          let more = waiting_more i streams queues l.place st q c.requires at in
          let one = ap (λ b. cond b (length (get_or queues l.place q).items) 0) (ne_eqb st.input i w.if-stream-input.false) in
          omega (arith, more, one, w.count-is, was))
    ] in
    now
