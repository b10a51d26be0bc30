use Rattle.std.proofs.Common.{◌≡◌, ap, arith, length, subst, ◌∙◌, List}
use Rattle.request.specs.declared.stream.Stream.{Stream}
use Rattle.buffers.specs.QueueValue.{QueueValue}
use Rattle.schedule.specs.Streams.{all_streams}
use Rattle.mux.specs.declared.input_state.InputState.{InputState}
use Rattle.mux.specs.declared.totals.Totals.{Totals}
use Rattle.mux.specs.History.{History}
use Rattle.mux.specs.Lawful.{input_count}
use Rattle.mux.specs.Switching.{waiting_in}
use Rattle.mux.specs.Totals.{IsTotals, told, queued}
use Rattle.mux.proofs.Counting.{taken_in_parts, waiting_is, queued_within}
use Rattle.mux.proofs.Steps.{length_states, length_queues, state_at}
use Rattle.mux.proofs.mux.Mux.totals.Goals as goal

pub index-state-requires : goal.index-state-requires
index-state-requires c =
    let n = length_states c.self.invariant.0.agrees in
    let v = ap (λ (h : History). input_count h.run.schedule) c.self.view_is in
    omega (arith, c.self.inside.inputs.ok.0)

pub count_queued-queued-requires : goal.count_queued-queued-requires
count_queued-queued-requires c =
    omega (arith, ap (λ (xs : List Stream). length xs) c.streams.ensures, ap (λ (xs : List QueueValue). length xs) c.as_slice.ensures.value, length_queues c.self.invariant.0.agrees)

pub returns : goal.returns
returns c =
    let s = c.self.inside.schedule in
    let h = c.self.inside.past in
    let i = c.args.input in
    let k = c.self.invariant.0.agrees in
    let v = ap (λ (x : History). input_count x.run.schedule) c.self.view_is in
    let is = state_at k i c.index-state.result.now (omega arith) c.index-state.ensures in
    let parts = taken_in_parts s i h k.schedule k.lawful in
    let within = queued_within s i h k.schedule k.lawful in
    let waits : c.count_queued-queued.result ≡ told (queued s i h) =
    c.count_queued-queued.ensures
    ∙ ap (λ (xs : List Stream). told (waiting_in i xs c.as_slice.result.now)) c.streams.ensures
    ∙ ap (λ (qs : List QueueValue). told (waiting_in i (all_streams s) qs)) (c.as_slice.ensures.value ∙ k.queues_are)
    ∙ ap told (waiting_is s i h) in
    let sent = ap (λ (y : InputState). y.sent) is in
    let dropped = ap (λ (y : InputState). y.dropped) is in
    let t : Totals = record { taken = c.saturating_add-2.result; sent = c.index-state.result.now.sent; dropped = c.index-state.result.now.dropped; queued = c.count_queued-queued.result } in
    let R : History → Type 0 = λ y. IsTotals y.run.schedule i y.events t in
    subst R c.self.view_is (record {
      taken = omega (arith, parts, within, waits, sent, dropped, c.saturating_add-2.ensures, c.saturating_add.ensures);
      sent = sent;
      dropped = dropped;
      queued = omega (arith, within, waits);
      whole = omega (arith, parts, within, waits, sent);
    })
