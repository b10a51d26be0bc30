-- What holds of each schedule: what its plans keep, which plan is the last that has begun, and that an output PID has one use.
use Rattle.std.specs.Prelude.{ℕ, ◌≡◌, ◌≢◌, ◌≤◌, ◌<◌, length, All, Contains}
use Rattle.request.specs.declared.stream.Stream.{Stream}
use Rattle.request.specs.Request.{ServiceValue}
use Rattle.plan.specs.Built.{IsBuilt}
use Rattle.schedule.specs.Switches.{HasPmtOf, IsSchedule}
use Rattle.schedule.specs.Schedule.{SpanValue, ScheduleValue, spans, span_at, plan_at, slot_time}

-- its plans keep what each plan keeps
abbrev pub AreBuilt : ScheduleValue → Type 0
AreBuilt s = All (λ (w : SpanValue). IsBuilt w.plan) (spans s)

-- What each schedule keeps: its plans may follow one another; and of each plan, that its numbers are in range, each table comes in time,
-- and its tables are those of the services that were chosen.
pub record IsMultiplexSchedule (s : ScheduleValue) : Type 0 where
  pub schedule : IsSchedule s
  pub plans : AreBuilt s

-- in slot m, the span of this plan has begun, and that of no later one
pub record IsInForce (s : ScheduleValue) (m number : ℕ) : Type 0 where
  pub within : number ≤ length s.later
  pub has_begun : (span_at s number).slot ≤ m
  pub is_last : (k : ℕ) → number < k → k ≤ length s.later → m < (span_at s k).slot

-- unless it is the first plan, its first slot goes out at the stamp or before; and that of no later plan does
pub record IsOfPlan (s : ScheduleValue) (stamp number : ℕ) : Type 0 where
  pub within : number ≤ length s.later
  pub has_begun : 0 < number → slot_time s.first (span_at s number).slot ≤ stamp
  pub is_last : (k : ℕ) → number < k → k ≤ length s.later → stamp < slot_time s.first (span_at s k).slot

-- An output PID is that of one stream, whichever plans have it, or of the PMT of one service; and what went doesn't come back.
pub record HavePidsOneUse (s : ScheduleValue) : Type 0 where
  -- a stream that two plans have is in each plan between them
  pub stays : (i j k : ℕ) (st : Stream) → i ≤ j → j ≤ k → k ≤ length s.later
      → Contains (plan_at s i).request.streams st → Contains (plan_at s k).request.streams st → Contains (plan_at s j).request.streams st
  pub one_stream : (i k : ℕ) (a b : Stream) → i ≤ length s.later → k ≤ length s.later
      → Contains (plan_at s i).request.streams a → Contains (plan_at s k).request.streams b → a.output_pid ≡ b.output_pid → a ≡ b
  pub no_pmt : (i k : ℕ) (st : Stream) (v : ServiceValue) → i ≤ length s.later → k ≤ length s.later
      → Contains (plan_at s i).request.streams st → Contains (plan_at s k).request.services v → st.output_pid ≢ v.pmt
  pub one_service : (i k : ℕ) (v w : ServiceValue) → i ≤ length s.later → k ≤ length s.later
      → Contains (plan_at s i).request.services v → Contains (plan_at s k).request.services w → v.pmt ≡ w.pmt → v.service ≡ w.service
  pub pmt_stays : (i j k : ℕ) (v w : ServiceValue) → i ≤ j → j ≤ k → k ≤ length s.later
      → Contains (plan_at s i).request.services v → Contains (plan_at s k).request.services w → v.pmt ≡ w.pmt → HasPmtOf (plan_at s j).request w
