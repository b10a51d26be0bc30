use Rattle.std.proofs.Common.{◌≡◌, ◌≤◌, ◌<◌, true, false, refl, sym, ap, ◌∙◌, subst, arith, ℕ}
use Rattle.std.proofs.lemmas.Bool.{lt-ltb, le-ltb}
use Rattle.std.proofs.lemmas.Option.{slice_get_within}
use Rattle.tspkt.specs.declared.stamped.Stamped.{Stamped}
use Rattle.request.specs.declared.stream.Stream.{Stream}
use Rattle.schedule.specs.Schedule.{ScheduleValue, plan_at, number_for}
use Rattle.schedule.specs.Streams.{all_streams}
use Rattle.mux.specs.declared.input_state.InputState.{InputState}
use Rattle.mux.specs.declared.offered.Offered.TheVariants as offered
use Rattle.mux.specs.Answers.{OfferAnswers}
use Rattle.mux.specs.History.{has_stream, in_force, is_mapped_to, last_stamp}
use Rattle.mux.proofs.Plans.{IsAt, stream_in, at_place}
use Rattle.mux.proofs.Refusals.{goes_both, mapped_at, none_or_full, is_closed_first, is_backward}
use Rattle.mux.proofs.mux.Mux.offer_to.Goals as goal

-- the stream at the place takes the item
here : (s : ScheduleValue) (k : ℕ) (item : Stamped) (st : Stream) → IsAt s k st → ((su : Stream) × IsAt s k su × (is_mapped_to s su su.input item ≡ true)) → is_mapped_to s st st.input item ≡ true
here s k item st at su = at_place s k su.0 (λ x. is_mapped_to s x x.input item ≡ true) su.1 su.2 st at

pub stream-stream-requires : goal.stream-stream-requires
stream-stream-requires c = slice_get_within (all_streams c.args.self.now.run.schedule) c.args.place c.requires.0 c.requires.1

pub state-state-requires : goal.state-state-requires
state-state-requires c = (stream_in c.args.self.now.run.schedule c.args.place c.stream-stream.result c.known.ensures.schedule c.stream-stream.ensures).input

pub returns-then-state-clause-answer : goal.returns-then-state-clause-answer
returns-then-state-clause-answer c =
    let h = c.args.self.now in
    let st = c.stream-stream.result in
    at_place h.run.schedule c.args.place st (λ x. OfferAnswers h x.input c.args.item.now offered.Closed h) c.stream-stream.ensures
    (is_closed_first h.run.schedule h.events st.input c.args.item.now (sym (ap (λ (x : InputState). x.closed) c.state-state.ensures) ∙ c.if-state.true), refl)

pub returns-then-stamp-state-clause-answer : goal.returns-then-stamp-state-clause-answer
returns-then-stamp-state-clause-answer c =
    let h = c.args.self.now in
    let s = h.run.schedule in
    let item = c.args.item.now in
    let k = c.args.place in
    let st = c.stream-stream.result in
    let at = c.stream-stream.ensures in
    let mapped = here s k item st at c.requires in
    let last = ap (λ (x : InputState). x.last_stamp) c.state-state.ensures in
    let before : item.stamp < last_stamp st.input h.events = omega (arith, c.if-stamp-state.true, c.stamp.ensures) in
    at_place s k st (λ x. OfferAnswers h x.input item offered.Backward h) at (
      is_backward s h.events st.input item (sym (ap (λ (x : InputState). x.closed) c.state-state.ensures) ∙ c.if-state.false)
          (mapped_at s st.input item k st c.known.ensures.schedule at mapped) (lt-ltb item.stamp (last_stamp st.input h.events) before),
      refl,
    )

pub offer_queued-requires-clause-in_force : goal.offer_queued-requires-clause-in_force
offer_queued-requires-clause-in_force c =
    let s = c.args.self.now.run.schedule in
    let item = c.args.item.now in
    let st = c.stream-stream.result in
    let P : ℕ → Type 0 = λ number. has_stream (plan_at s number) st ≡ true in
    subst P (sym (ap (number_for s) c.stamp-2.ensures) ∙ c.is_in_span.ensures c.if-is_in_span.true) (goes_both s st st.input item (here s c.args.place item st c.stream-stream.ensures c.requires)).2

pub offer_queued-requires-clause-mapped : goal.offer_queued-requires-clause-mapped
offer_queued-requires-clause-mapped c = here c.args.self.now.run.schedule c.args.place c.args.item.now c.stream-stream.result c.stream-stream.ensures c.requires

pub offer_queued-requires-clause-refusal : goal.offer_queued-requires-clause-refusal
offer_queued-requires-clause-refusal c =
    let s = c.args.self.now.run.schedule in
    let h = c.args.self.now.events in
    let item = c.args.item.now in
    let st = c.stream-stream.result in
    let at = c.stream-stream.ensures in
    let mapped = here s c.args.place item st at c.requires in
    let last = ap (λ (x : InputState). x.last_stamp) c.state-state.ensures in
    let order : last_stamp st.input h ≤ item.stamp = omega (arith, c.if-stamp-state.false, c.stamp.ensures) in
    let same : number_for s item.stamp ≤ in_force h = omega (arith, sym (ap (number_for s) c.stamp-2.ensures) ∙ c.is_in_span.ensures c.if-is_in_span.true) in
    none_or_full s h st.input item (sym (ap (λ (x : InputState). x.closed) c.state-state.ensures) ∙ c.if-state.false)
    (mapped_at s st.input item c.args.place st c.known.ensures.schedule at mapped) (le-ltb item.stamp (last_stamp st.input h) order) (le-ltb (in_force h) (number_for s item.stamp) same)

pub returns-then-is_in_span-clause-answer : goal.returns-then-is_in_span-clause-answer
returns-then-is_in_span-clause-answer c =
    let h = c.args.self.now in
    at_place h.run.schedule c.args.place c.stream-stream.result (λ x. OfferAnswers h x.input c.args.item.now c.offer_queued.result c.offer_queued.new.self) c.stream-stream.ensures c.offer_queued.ensures.answer

pub offer_across-requires-clause-mapped : goal.offer_across-requires-clause-mapped
offer_across-requires-clause-mapped c = here c.args.self.now.run.schedule c.args.place c.args.item.now c.stream-stream.result c.stream-stream.ensures c.requires

pub offer_across-requires-clause-open_ : goal.offer_across-requires-clause-open_
offer_across-requires-clause-open_ c = sym (ap (λ (x : InputState). x.closed) c.state-state.ensures) ∙ c.if-state.false

pub offer_across-requires-clause-order : goal.offer_across-requires-clause-order
offer_across-requires-clause-order c = let last = ap (λ (x : InputState). x.last_stamp) c.state-state.ensures in omega (arith, c.if-stamp-state.false, c.stamp.ensures)

pub returns-else-is_in_span-clause-answer : goal.returns-else-is_in_span-clause-answer
returns-else-is_in_span-clause-answer c =
    let h = c.args.self.now in
    at_place h.run.schedule c.args.place c.stream-stream.result (λ x. OfferAnswers h x.input c.args.item.now c.offer_across.result c.offer_across.new.self) c.stream-stream.ensures c.offer_across.ensures.answer
