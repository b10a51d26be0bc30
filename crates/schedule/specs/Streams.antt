-- The streams of all plans of a schedule, and the one place that each has for the whole run (profile).
use Rattle.std.specs.Prelude.{ℕ, ◌≡◌, ◌≢◌, ◌≤◌, ◌==◌, Bool, not, List, [], ◌∷◌, ◌++◌, length, Option, Some, None, option_and_then, slice_get, AllPairs, Contains}
use Rattle.std.specs.List.{filter, list_any, position_from}
use Rattle.request.specs.declared.stream.Stream.{Stream}
use Rattle.plan.specs.declared.planned_stream.PlannedStream.{PlannedStream}
use Rattle.schedule.specs.Schedule.{SpanValue, ScheduleValue, plan_at, plan_for, scheduled_stream}

-- one of these streams has the output PID
abbrev pub has_output : List Stream → ℕ → Bool
has_output streams pid = list_any (λ (st : Stream). st.output_pid == pid) streams

-- those of a plan's streams whose output PID none of the known ones has
abbrev pub new_of : List Stream → List Stream → List Stream
new_of known streams = filter (λ (st : Stream). not (has_output known st.output_pid)) streams

-- the known streams, and behind them the new ones of each of these plans
abbrev pub with_later : List Stream → List SpanValue → List Stream
with_later known [] = known
with_later known (w ∷ ws) = with_later (known ++ new_of known w.plan.request.streams) ws

-- each stream of the schedule once, in the order of the plans
abbrev pub all_streams : ScheduleValue → List Stream
all_streams s = with_later s.first.request.streams s.later

-- the place of the stream with this output PID
abbrev pub place_of : List Stream → ℕ → Option ℕ
place_of streams pid = position_from (λ (st : Stream). st.output_pid == pid) 0 streams

-- the place, among all streams, of the stream that a packet of this input, PID and stamp is of
abbrev pub scheduled_place : ScheduleValue → ℕ → ℕ → ℕ → Option ℕ
scheduled_place s input pid stamp =
    option_and_then (λ (planned : PlannedStream). place_of (all_streams s) planned.output_pid) (scheduled_stream s input pid stamp)

-- it is that of the stream that the packet is of: one of the plan that the packet belongs to, with its input and PID
pub record IsPlaceOf (s : ScheduleValue) (input pid stamp place : ℕ) : Type 0 where
  pub stream : Stream
  pub there : slice_get (all_streams s) place ≡ Some stream
  pub input_is : stream.input ≡ input
  pub pid_is : stream.pid ≡ pid
  pub in_plan : Contains (plan_for s stamp).request.streams stream

-- and there is none exactly where that plan has no such stream
pub record ArePlaces (s : ScheduleValue) : Type 0 where
  pub some : (input pid stamp place : ℕ) → scheduled_place s input pid stamp ≡ Some place → IsPlaceOf s input pid stamp place
  pub none : (input pid stamp : ℕ) (st : Stream) → scheduled_place s input pid stamp ≡ None → Contains (plan_for s stamp).request.streams st
      → st.input ≡ input → st.pid ≡ pid → ⊥

-- these are the streams of the plans, each once
pub record AreStreamsOf (s : ScheduleValue) (streams : List Stream) : Type 0 where
  pub each : (number : ℕ) (st : Stream) → number ≤ length s.later → Contains (plan_at s number).request.streams st → Contains streams st
  pub no_other : (st : Stream) → Contains streams st → (number : ℕ) × (number ≤ length s.later) × Contains (plan_at s number).request.streams st
  pub once : AllPairs (λ (a b : Stream). a.output_pid ≢ b.output_pid) streams
