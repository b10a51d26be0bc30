use Rattle.std.proofs.Common.{◌≡◌, ◌≤◌, false, List, map, length, get_or, sym, ap, ◌∙◌, subst, All, arith}
use Rattle.std.specs.List.{range_with_len}
use Rattle.std.proofs.lemmas.List.{length-map}
use Rattle.std.proofs.lemmas.Option.{slice_get-get_or}
use Rattle.request.specs.declared.limits.TheConstants.{MAX_LEAK}
use Rattle.request.specs.declared.stream.Stream.{Stream}
use Rattle.request.specs.Request.{RequestValue, input_value}
use Rattle.rounds.specs.Rounds.{RoundsValue}
use Rattle.rounds.specs.Turn.{TurnValue}
use Rattle.plan.specs.Build.{PlanValue}
use Rattle.schedule.specs.Streams.{all_streams}
use Rattle.mux.specs.declared.event.Event.{Event}
use Rattle.schedule.specs.Laws.{IsMultiplexSchedule}
use Rattle.mux.specs.SlotClock.{clock_at}
use Rattle.mux.specs.History.{Run, in_force}
use Rattle.mux.specs.Keeping.{IsSpanOf, new_state, empty_queue, no_peak, head_time}
use Rattle.mux.specs.Buckets.{empty_bucket}
use Rattle.mux.proofs.Plans.{stream_in}
use Rattle.mux.proofs.Steps.{opening}
use Rattle.mux.proofs.Noted.{noted_none}
use Rattle.mux.proofs.Peaks.{peaks_none}
use Rattle.mux.proofs.HeadTimes.{output_of}
use Rattle.mux.proofs.mux.Mux.open.Goals as goal

pub new-requires-clause-leaks : goal.new-requires-clause-leaks
new-requires-clause-leaks c =
    let s = c.args.schedule in
    let ok : IsMultiplexSchedule s = c.known.ensures in
    let P : List Stream → Type 0 = All (λ (st : Stream). (1 ≤ st.leak) × (st.leak ≤ MAX_LEAK)) in
    subst P (sym c.streams-streams.ensures) (λ k d l. (let leak = (stream_in s k (get_or (all_streams s) k d) ok (slice_get-get_or (all_streams s) k d l)).leak in (omega (arith, leak.0), leak.1)))

pub invariant_of-result : goal.invariant_of-result
invariant_of-result c =
    let s = c.args.schedule in
    let ok : IsMultiplexSchedule s = c.known.ensures in
    let r : Run = record { schedule = s; limit = c.args.slots } in
    let first : c.plan-plan.result.now ≡ s.first = c.plan-plan.ensures in
    let all = c.streams-streams.ensures in
    let none = c.new-4.ensures in
    let inputs = sym (length-map c.inputs.result.now input_value) ∙ ap length c.inputs.ensures ∙ ap (λ (p : PlanValue). length p.request.inputs) first in
    let queue = c.queue.ensures.value ∙ ap (λ (q : RequestValue). q.queue) c.request.ensures.value ∙ ap (λ (p : PlanValue). p.request.queue) first in
    let rate = c.rate.ensures ∙ ap (λ (p : PlanValue). p.request.rate) first in
    let S : List Event → Type 0 = λ es. IsSpanOf s (in_force es) c.of-span.result in (
      opening r c.new-4.result c.in_ok-inputs.inputs.items c.in_ok-queues.queues.items c.in_ok-progress.progress.buckets c.in_ok-progress.progress.clock c.new-turn.result c.in_ok-output.output ok c.requires none
          (c.in_ok-inputs.ensures ∙ ap (λ n. map new_state (range_with_len 0 n)) inputs)
          (c.in_ok-queues.ensures ∙ ap (λ (xs : List Stream). map (empty_queue c.queue.result) xs) all ∙ ap (λ n. map (empty_queue n) (all_streams s)) queue)
          (c.in_ok-progress.ensures.buckets ∙ ap (λ (xs : List Stream). map (empty_bucket c.rate.result) xs) all ∙ ap (λ n. map (empty_bucket n) (all_streams s)) rate)
          (c.in_ok-progress.ensures.clock ∙ ap (λ n. clock_at n 0) rate)
          (c.new-turn.ensures ∙ ap (λ (x : RoundsValue). let t : TurnValue = record { rounds = x; slot = 0 } in t) (c.rounds.ensures ∙ ap (λ (p : PlanValue). p.rounds) first))
          c.in_ok-output.ensures,
      subst S (sym none) c.of-span.ensures,
      peaks_none s c.new-4.result c.in_ok-peaks.peaks.items none (c.in_ok-peaks.ensures ∙ ap (λ (xs : List Stream). map no_peak xs) all),
      noted_none false _ c.in_ok-inputs.inputs.items c.in_ok-inputs.ensures,
      record { times_are = c.in_ok-heads.ensures.times ∙ ap (map head_time) c.as_slice.ensures.value; pids_are = c.in_ok-heads.ensures.pids ∙ ap (map output_of) all },
    )
