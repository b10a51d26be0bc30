-- Which events may follow which: the rules by which a multiplex takes packets, notes why an input is held up, closes an input,
-- goes over to the next plan and sends a slot (profile). A history is lawful where each of its events could come when it came.
use Rattle.std.specs.Prelude.{ℕ, List, [], ◌∷◌, ◌++◌, ◌≡◌, ◌+◌, ◌<◌, ◌≤◌, ◌⊎◌, Bool, false, ◌&&◌, ◌||◌, ◌==◌, not, nat_lt, if◌then◌else◌, length, Option, Some, None, IsTrue, Contains}
use Rattle.std.specs.List.{slice_get, list_any}
use Rattle.tspkt.specs.Packet.{IsPacket}
use Rattle.tspkt.specs.declared.stamped.Stamped.{Stamped}
use Rattle.request.specs.declared.stream.Stream.{Stream}
use Rattle.rounds.specs.declared.table_place.TablePlace.{TablePlace}
use Rattle.mux.specs.declared.content.Content.{Content}
use Rattle.mux.specs.declared.content.Content.TheVariants.{Null, Elementary, Table}
use Rattle.mux.specs.declared.event.Event.{Event}
use Rattle.mux.specs.declared.event.Event.TheVariants as events
use Rattle.schedule.specs.Schedule.{SpanValue, ScheduleValue, span_at, number_for, plan_for, slot_time}
use Rattle.emission.specs.TableBuffers.{BufferFits}
use Rattle.emission.specs.Spans.{table_in}
use Rattle.mux.specs.History.{Run, in_force, plan_in_force, is_mapped_to, queue, slots, last_stamp, is_closed, full_noted, early_noted, sent_packet, emitted}

-- the inputs, which all plans have in common
abbrev pub input_count : ScheduleValue → ℕ
input_count s = length s.first.request.inputs

-- The next slot can't get an earlier packet of the input: it is closed, or its last stamp is past the slot's time, or it was noted since
-- the last slot or switch that its next packet meets a full queue, or belongs to a later plan.
abbrev pub is_ready : ScheduleValue → ℕ → List Event → Bool
is_ready s i h =
    ((is_closed i h || nat_lt (slot_time s.first (slots h)) (last_stamp i h)) || full_noted i h) || early_noted i h

abbrev pub AllReady : ScheduleValue → List Event → Type 0
AllReady s h = (i : ℕ) → i < input_count s → IsTrue (is_ready s i h)

-- all inputs are closed, and nothing waits
pub record IsDone (s : ScheduleValue) (h : List Event) : Type 0 where
  pub closed : (i : ℕ) → i < input_count s → IsTrue (is_closed i h)
  pub empty : (st : Stream) → Contains (plan_in_force s h).request.streams st → queue s st h ≡ []

-- whether a span begins at slot m
abbrev pub begins_at : Option SpanValue → ℕ → Bool
begins_at None m = false
begins_at (Some w) m = w.slot == m

-- the slot of the plan after the one in force has come
abbrev pub is_switch_due : ScheduleValue → List Event → Bool
is_switch_due s h = begins_at (slice_get s.later (in_force h)) (slots h)

-- The next slot may carry the packet of this item: with it behind what went out, the stream's transport buffer held no
-- more than 512 bytes, at each byte (ISO/IEC 13818-1, 2.4.2). Nothing went out on the stream's PID before the stream came into
-- force, so no window that begins earlier has a greater load.
abbrev pub Fits : ScheduleValue → List Event → Stream → Stamped → Type 0
Fits s h st item =
    BufferFits s.first.request.rate st.leak (st.output_pid ∷ []) (emitted s h ++ sent_packet s (slots h) st (Some item) ∷ [])

-- the item is the head of its stream's queue, is due in the next slot, and its packet fits the stream's transport buffer
pub record IsEligible (s : ScheduleValue) (h : List Event) (st : Stream) (item : Stamped) : Type 0 where
  pub stream : Contains (plan_in_force s h).request.streams st
  pub head : slice_get (queue s st h) 0 ≡ Some item
  pub due : item.stamp ≤ slot_time s.first (slots h)
  pub fits : Fits s h st item

-- the earlier stamp goes first, and of equal stamps the lower output PID
abbrev pub IsNotAfter : Stream → Stamped → Stream → Stamped → Type 0
IsNotAfter st item su other =
    (item.stamp < other.stamp) ⊎ ((item.stamp ≡ other.stamp) × (st.output_pid ≤ su.output_pid))

-- what a slot without a table carries: the eligible head that goes first, or null where there is none
abbrev pub IsChoice : ScheduleValue → List Event → Content → Type 0
IsChoice s h Null = (st : Stream) (item : Stamped) → IsEligible s h st item → ⊥
IsChoice s h (Table place) = ⊥
IsChoice s h (Elementary st) =
    (item : Stamped) × IsEligible s h st item
    × ((su : Stream) (other : Stamped) → IsEligible s h su other → IsNotAfter st item su other)

-- what a slot carries where this table packet has its turn, or none
abbrev pub IsContentAt : ScheduleValue → List Event → Option TablePlace → Content → Type 0
IsContentAt s h (Some place) c = c ≡ Table place
IsContentAt s h None c = IsChoice s h c

-- the table packet whose turn it is in the next slot, if any: the rounds of the plan in force begin with its span
abbrev pub table_due : ScheduleValue → List Event → Option TablePlace
table_due s h = table_in (span_at s (in_force h)) (slots h)

-- the content of the next slot: a table slot carries its table packet, and nothing else does
abbrev pub IsContent : ScheduleValue → List Event → Content → Type 0
IsContent s h c = IsContentAt s h (table_due s h) c

-- why an item is refused
pub data Refusal : Type 0 where
  Closed : Refusal
  Stranger : Refusal
  Backward : Refusal
  Early : Refusal
  Full : Refusal

-- the plan that the item belongs to maps it to a stream
abbrev pub is_mapped : ScheduleValue → ℕ → Stamped → Bool
is_mapped s i item = list_any (λ st. is_mapped_to s st i item) (plan_for s item.stamp).request.streams

-- that plan comes after the one in force
abbrev pub is_early : ScheduleValue → List Event → Stamped → Bool
is_early s h item = nat_lt (in_force h) (number_for s item.stamp)

-- it maps it to a stream whose queue is full; the queue of a stream that isn't in force never is
abbrev pub is_queue_full : ScheduleValue → List Event → ℕ → Stamped → Bool
is_queue_full s h i item =
    list_any (λ st. is_mapped_to s st i item && (length (queue s st h) == s.first.request.queue))
    (plan_for s item.stamp).request.streams

-- the first reason against an item, by the history so far
unfoldable pub refusal_of : ScheduleValue → List Event → ℕ → Stamped → Option Refusal
refusal_of s h i item =
    if is_closed i h then Some Closed
    else if not (is_mapped s i item) then Some Stranger
    else if nat_lt item.stamp (last_stamp i h) then Some Backward
    else if is_early s h item then Some Early
    else if is_queue_full s h i item then Some Full
    else None

-- nothing is against the item, and its packet is one
pub record MayTake (s : ScheduleValue) (before : List Event) (i : ℕ) (item : Stamped) : Type 0 where
  pub input : i < input_count s
  pub packet : IsPacket item.packet
  pub unrefused : refusal_of s before i item ≡ None

-- the queue of a stream of the input is full, and none was noted since the last slot or switch
pub record MayNoteFull (s : ScheduleValue) (before : List Event) (i : ℕ) (st : Stream) : Type 0 where
  pub stream : Contains (plan_in_force s before).request.streams st
  pub input : st.input ≡ i
  pub open_ : is_closed i before ≡ false
  pub full : length (queue s st before) ≡ s.first.request.queue
  pub first : full_noted i before ≡ false

-- a later plan is to come, and no early packet of the input was noted since the last slot or switch
pub record MayNoteEarly (s : ScheduleValue) (before : List Event) (i : ℕ) : Type 0 where
  pub input : i < input_count s
  pub open_ : is_closed i before ≡ false
  pub later : in_force before < length s.later
  pub first : early_noted i before ≡ false

pub record MayClose (s : ScheduleValue) (before : List Event) (i : ℕ) : Type 0 where
  pub input : i < input_count s
  pub open_ : is_closed i before ≡ false

-- the next plan's slot has come, and the run isn't done
pub record MaySwitch (s : ScheduleValue) (before : List Event) (number : ℕ) : Type 0 where
  pub next : number ≡ in_force before + 1
  pub due : IsTrue (is_switch_due s before)
  pub running : IsDone s before → ⊥

-- no slot is sent while a switch is due, so each slot has the plan of its span
pub record MaySend (s : ScheduleValue) (before : List Event) (c : Content) : Type 0 where
  pub running : IsDone s before → ⊥
  pub switched : is_switch_due s before ≡ false
  pub ready : AllReady s before
  pub content : IsContent s before c

-- the event may come next
abbrev pub MayFollow : ScheduleValue → List Event → Event → Type 0
MayFollow s before (events.Took i item) = MayTake s before i item
MayFollow s before (events.Full i st) = MayNoteFull s before i st
MayFollow s before (events.Early i) = MayNoteEarly s before i
MayFollow s before (events.Close i) = MayClose s before i
MayFollow s before (events.Switch number) = MaySwitch s before number
MayFollow s before (events.Slot c) = MaySend s before c

-- each event could come when it came
abbrev pub IsLawful : ScheduleValue → List Event → Type 0
IsLawful s [] = Unit {0}
IsLawful s (e ∷ before) = IsLawful s before × MayFollow s before e

-- and the slots stay within the run's limit
pub record IsLawfulRun (r : Run) (h : List Event) : Type 0 where
  pub lawful : IsLawful r.schedule h
  pub within : slots h ≤ r.limit
