-- For the code: what a multiplex keeps beside its history, each by an equation. No public clause cites it.
use Rattle.std.specs.Prelude.{ℕ, zero, List, [], ◌∷◌, ◌≡◌, ◌≤◌, ◌||◌, Bool, nat_lt, map, false, count_by, max, All, Option, Some, None}
use Rattle.std.specs.List.{range_with_len, slice_get}
use Rattle.mux.specs.declared.mux.TheConstants.{MAX_SLOTS}
use Rattle.mux.specs.declared.event.Event.{Event}
use Rattle.mux.specs.declared.span.Span.{Span}
use Rattle.request.specs.declared.stream.Stream.{Stream}
use Rattle.mux.specs.declared.input_state.InputState.{InputState}
use Rattle.mux.specs.declared.head.Head.{Head}
use Rattle.buffers.specs.QueueValue.{QueueValue, first_stamp}
use Rattle.buffers.specs.BucketValue.{BucketValue}
use Rattle.rounds.specs.Turn.{TurnValue}
use Rattle.mux.specs.SlotClock.{ClockValue, clock_at}
use Rattle.schedule.specs.Schedule.{SpanValue, ScheduleValue, span_at, slot_time}
use Rattle.schedule.specs.Streams.{all_streams}
use Rattle.emission.specs.Spans.{slot_in_span}
use Rattle.schedule.specs.Laws.{IsMultiplexSchedule}
use Rattle.mux.specs.History.{Run, in_force, queue, slots, last_stamp, is_closed, full_noted, early_noted, emitted}
use Rattle.mux.specs.declared.counts.Counts.{Counts}
use Rattle.mux.specs.Totals.{contents, is_of_input, is_elementary, is_table, is_null, dropped_of, told}
use Rattle.mux.specs.Lawful.{input_count, IsLawful}
use Rattle.mux.specs.declared.peak.Peak.{Peak}
use Rattle.mux.specs.Peaks.{queue_lengths, delays}
use Rattle.mux.specs.Buckets.{AreBuckets}

-- what is kept of an input
abbrev pub state_of : ScheduleValue → List Event → ℕ → InputState
state_of s h i = record {
  closed = is_closed i h;
  last_stamp = last_stamp i h;
  full_noted = full_noted i h;
  early_noted = early_noted i h;
  sent = count_by (is_of_input i) (contents h);
  dropped = told (dropped_of s i h);
}

-- whether an input in this state is ready at a time
abbrev pub ready_at : ℕ → InputState → Bool
ready_at now x = ((x.closed || nat_lt now x.last_stamp) || x.full_noted) || x.early_noted

-- the queue that is kept of a stream: empty where the stream isn't in force
abbrev pub queue_of : ScheduleValue → List Event → Stream → QueueValue
queue_of s h st = record { items = queue s st h; capacity = s.first.request.queue }

-- the history is lawful, and what is kept of inputs and streams agrees with it: there is a queue for each stream of the schedule, by its
-- place for the whole run
pub record AgreesWith (r : Run) (h : List Event)
    (states : List InputState) (queues : List QueueValue) : Type 0 where
  pub schedule : IsMultiplexSchedule r.schedule
  pub limit : r.limit ≤ MAX_SLOTS
  pub lawful : IsLawful r.schedule h
  pub within : slots h ≤ r.limit
  pub states_are : states ≡ map (state_of r.schedule h) (range_with_len 0 (input_count r.schedule))
  pub queues_are : queues ≡ map (queue_of r.schedule h) (all_streams r.schedule)

-- the turn of the tables of the plan in force: its rounds begin with its span
abbrev pub turn_of : ScheduleValue → List Event → TurnValue
turn_of s h = record { rounds = (span_at s (in_force h)).plan.rounds; slot = slot_in_span (span_at s (in_force h)).slot (slots h) }

-- how many slots carried what
abbrev pub counts_of : List Event → Counts
counts_of h = record {
  tables = count_by is_table (contents h);
  elementary = count_by is_elementary (contents h);
  null = count_by is_null (contents h);
}

-- and so do the buckets, the clock and the tables' turn, the packets that went out, and how many were of what
pub record IsKept (r : Run) (h : List Event) (states : List InputState) (queues : List QueueValue)
    (buckets : List BucketValue) (clock : ClockValue) (turn : TurnValue) (packets : List (List ℕ)) (counts : Counts) : Type 0 where
  pub agrees : AgreesWith r h states queues
  pub buckets_are : AreBuckets r.schedule (emitted r.schedule h) buckets
  pub clock_is : clock ≡ clock_at r.schedule.first.request.rate (slots h)
  pub turn_is : turn ≡ turn_of r.schedule h
  pub packets_are : packets ≡ emitted r.schedule h
  pub counts_are : counts ≡ counts_of h

-- the time of the head of a queue
abbrev pub head_time : QueueValue → ℕ
head_time q = first_stamp q.items

-- the heads that lie beside the queues have their times, and the output PIDs of their streams
pub record KeepsHeads (heads : List Head) (queues : List QueueValue) (streams : List Stream) : Type 0 where
  pub times_are : map (λ h. h.time) heads ≡ map head_time queues
  pub pids_are : map (λ h. h.pid) heads ≡ map (λ st. st.output_pid) streams

-- when a plan comes into force and ends: what is asked with each packet and each slot
abbrev pub slot_or_last : Option SpanValue → ℕ
slot_or_last None = 18446744073709551615
slot_or_last (Some w) = w.slot

abbrev pub time_or_last : ScheduleValue → Option SpanValue → ℕ
time_or_last s None = 18446744073709551615
time_or_last s (Some w) = slot_time s.first w.slot

abbrev pub begin_of : ScheduleValue → ℕ → ℕ
begin_of s zero = 0
begin_of s number = slot_time s.first (span_at s number).slot

pub record IsSpanOf (s : ScheduleValue) (number : ℕ) (span : Span) : Type 0 where
  pub number_is : span.number ≡ number
  pub next_slot : span.next_slot ≡ slot_or_last (slice_get s.later number)
  pub begins : span.begins ≡ begin_of s number
  pub ends : span.ends ≡ time_or_last s (slice_get s.later number)

-- the same state, with nothing noted
abbrev pub without_notes : InputState → InputState
without_notes x = record x { full_noted = false; early_noted = false }

-- where it isn't marked that something was noted, nothing was
pub record KeepsNoted (is_noted : Bool) (states : List InputState) : Type 0 where
  pub unnoted : is_noted ≡ false → All (λ x. (x.full_noted ≡ false) × (x.early_noted ≡ false)) states

abbrev pub largest : List ℕ → ℕ
largest [] = 0
largest (n ∷ ns) = max (largest ns) n

-- what is kept of how long the packets of a stream waited, and how many
abbrev pub peak_of : ScheduleValue → List Event → Stream → Peak
peak_of s h st = record { delay = largest (delays s st h); queued = largest (queue_lengths s st h) }

-- before the first event
abbrev pub new_state : ℕ → InputState
new_state i = record { closed = false; last_stamp = 0; full_noted = false; early_noted = false; sent = 0; dropped = 0 }

abbrev pub empty_queue : ℕ → Stream → QueueValue
empty_queue capacity st = record { items = []; capacity = capacity }

abbrev pub no_peak : Stream → Peak
no_peak st = record { delay = 0; queued = 0 }

-- there is one a stream of the schedule, by its place
pub record KeepsPeaks (s : ScheduleValue) (h : List Event) (peaks : List Peak) : Type 0 where
  pub peaks_are : peaks ≡ map (peak_of s h) (all_streams s)
