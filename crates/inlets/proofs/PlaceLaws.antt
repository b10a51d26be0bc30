-- Where a packet goes by a schedule of one plan.
use Rattle.std.proofs.Common.{ℕ, ◌≡◌, true, List, [], ◌∷◌, length, Some, refl, ap, sym, subst, ◌∙◌, arith}
use Rattle.std.specs.List.{slice_get, Contains}
use Rattle.std.proofs.lemmas.Option.{slice_get_within, get_or_from_slice_get}
use Rattle.tspkt.specs.Packet.{pid_of}
use Rattle.tspkt.specs.declared.stamped.Stamped.{Stamped}
use Rattle.request.specs.declared.stream.Stream.{Stream}
use Rattle.schedule.specs.Schedule.{SpanValue, ScheduleValue, plan_at, number_for}
use Rattle.schedule.specs.Streams.{with_later, all_streams}
use Rattle.schedule.proofs.ForceLaws.{number_within}
use Rattle.mux.specs.History.{has_stream, is_mapped_to}
use Rattle.mux.proofs.Plans.{of_plan}
use Rattle.mux.proofs.Refusals.{goes_from}

alone : (streams : List Stream) (later : List SpanValue) → length later ≡ 0 → with_later streams later ≡ streams
alone streams [] none = refl
alone streams (w ∷ ws) none = absurd (omega (arith, none))

-- it goes to the stream that has its input and its PID
pub goes_here : (s : ScheduleValue) (place : ℕ) (st : Stream) (i : ℕ) (item : Stamped) → length s.later ≡ 0 → slice_get (all_streams s) place ≡ Some st → st.input ≡ i → st.pid ≡ pid_of item.packet
    → is_mapped_to s st i item ≡ true
goes_here s place st i item none at input pid =
    let streams = s.first.request.streams in
    let here : slice_get streams place ≡ Some st = ap (λ (v : List Stream). slice_get v place) (sym (alone streams s.later none)) ∙ at in
    let first : Contains streams st = (place, slice_get_within streams place st here, get_or_from_slice_get streams place st st here) in
    let number : number_for s item.stamp ≡ 0 = omega (arith, none, number_within s item.stamp) in
    let P : ℕ → Type 0 = λ n. has_stream (plan_at s n) st ≡ true in
    goes_from s st i item input pid (subst P (sym number) (of_plan s 0 st first))
