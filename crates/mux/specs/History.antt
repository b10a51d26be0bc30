-- The history of a multiplex, and what it says of the packets taken, queued, dropped and sent, and of times (profile).
-- A history is a list of events, newest first: in `e ∷ before`, the events before e are `before`. So each word
-- below says what one more event changes; an event that a word doesn't name changes nothing of it.
use Rattle.std.specs.Prelude.{ℕ, List, [], ◌∷◌, ◌++◌, ◌+◌, ◌-◌, Bool, false, ◌&&◌, ◌||◌, ◌==◌, if◌then◌else◌, drop, length, map, reverse, Option, Some, None}
use Rattle.std.specs.List.{slice_get}
use Rattle.tspkt.specs.Packet.{pid_of, null_packet}
use Rattle.tspkt.specs.Rewritten.{rewritten}
use Rattle.tspkt.specs.declared.stamped.Stamped.{Stamped}
use Rattle.request.specs.declared.stream.Stream.{Stream}
use Rattle.emission.specs.Emission.{table_packet_at, counted_behind}
use Rattle.mux.specs.declared.content.Content.{Content}
use Rattle.mux.specs.declared.content.Content.TheVariants.{Null, Elementary, Table}
use Rattle.mux.specs.declared.event.Event.{Event}
use Rattle.mux.specs.declared.event.Event.TheVariants.{Took, Full, Early, Close, Slot, Switch}
use Rattle.plan.specs.Build.{PlanValue}
use Rattle.schedule.specs.Schedule.{ScheduleValue, plan_at, plan_for, slot_time}
use Rattle.schedule.specs.Streams.{has_output}

-- how a run is opened: by a schedule, and for at most this many slots
pub record Run : Type 0 where
  pub schedule : ScheduleValue
  pub limit : ℕ

pub record History : Type 0 where
  pub run : Run
  pub events : List Event

-- a history at its opening
abbrev pub opened : ScheduleValue → ℕ → History
opened schedule limit = record { run = record { schedule = schedule; limit = limit }; events = [] }

-- one more event
abbrev pub with_event : History → Event → History
with_event h e = record { run = h.run; events = e ∷ h.events }

-- the entries of a history from its beginning on
pub data Entry : Type 0 where
  Open : Run → Entry
  Then : Event → Entry

-- a history as it is told: it is opened first, and once
abbrev pub all_events : History → List Entry
all_events h = Open h.run ∷ map Then (reverse h.events)

-- the number of the plan in force: that of the last switch, or the first plan's, 0
abbrev pub in_force : List Event → ℕ
in_force [] = 0
in_force (Switch number ∷ before) = number
in_force (e ∷ before) = in_force before

abbrev pub plan_in_force : ScheduleValue → List Event → PlanValue
plan_in_force s h = plan_at s (in_force h)

-- whether a plan has the stream: streams are told apart by their output PIDs, over all plans of a schedule
abbrev pub has_stream : PlanValue → Stream → Bool
has_stream p st = has_output p.request.streams st.output_pid

-- whether an item of input i is one of the stream: it has the stream's PID, and the plan that it belongs to has the stream
abbrev pub is_mapped_to : ScheduleValue → Stream → ℕ → Stamped → Bool
is_mapped_to s st i item = ((i == st.input) && (pid_of item.packet == st.pid)) && has_stream (plan_for s item.stamp) st

-- the items that were taken of input i, oldest first
abbrev pub taken : ℕ → List Event → List Stamped
taken i [] = []
taken i (Took j item ∷ before) = if j == i then taken i before ++ item ∷ [] else taken i before
taken i (e ∷ before) = taken i before

-- those of a stream
abbrev pub taken_for : ScheduleValue → Stream → List Event → List Stamped
taken_for s st [] = []
taken_for s st (Took j item ∷ before) =
    if is_mapped_to s st j item then taken_for s st before ++ item ∷ [] else taken_for s st before
taken_for s st (e ∷ before) = taken_for s st before

-- whether a slot carries a packet of the stream
abbrev pub is_of_stream : Stream → Content → Bool
is_of_stream st Null = false
is_of_stream st (Table place) = false
is_of_stream st (Elementary su) = su.output_pid == st.output_pid

-- how many packets of a stream were sent
abbrev pub sent : Stream → List Event → ℕ
sent st [] = 0
sent st (Slot c ∷ before) = if is_of_stream st c then sent st before + 1 else sent st before
sent st (e ∷ before) = sent st before

-- what was taken of a stream and not sent: in force it waits in the stream's queue, and where the plan in force doesn't have the stream
-- it is dropped. So what waits of a stream is dropped by the switch to a plan without it, and what is taken of it later at once.
abbrev pub unsent : ScheduleValue → Stream → List Event → List Stamped
unsent s st h = drop (sent st h) (taken_for s st h)

abbrev pub queue : ScheduleValue → Stream → List Event → List Stamped
queue s st h = if has_stream (plan_in_force s h) st then unsent s st h else []

abbrev pub dropped : ScheduleValue → Stream → List Event → List Stamped
dropped s st h = if has_stream (plan_in_force s h) st then [] else unsent s st h

-- how many slots there were
abbrev pub slots : List Event → ℕ
slots [] = 0
slots (Slot c ∷ before) = slots before + 1
slots (e ∷ before) = slots before

-- the stamp of the item last taken of an input, or 0 before the first
abbrev pub last_stamp : ℕ → List Event → ℕ
last_stamp i [] = 0
last_stamp i (Took j item ∷ before) = if j == i then item.stamp else last_stamp i before
last_stamp i (e ∷ before) = last_stamp i before

-- whether an input was closed
abbrev pub is_closed : ℕ → List Event → Bool
is_closed i [] = false
is_closed i (Close j ∷ before) = (j == i) || is_closed i before
is_closed i (e ∷ before) = is_closed i before

-- whether a full queue of an input was noted since the last slot or switch
abbrev pub full_noted : ℕ → List Event → Bool
full_noted i [] = false
full_noted i (Full j st ∷ before) = (j == i) || full_noted i before
full_noted i (Slot c ∷ before) = false
full_noted i (Switch number ∷ before) = false
full_noted i (e ∷ before) = full_noted i before

-- whether it was noted since then that the input's next packet belongs to a later plan
abbrev pub early_noted : ℕ → List Event → Bool
early_noted i [] = false
early_noted i (Early j ∷ before) = (j == i) || early_noted i before
early_noted i (Slot c ∷ before) = false
early_noted i (Switch number ∷ before) = false
early_noted i (e ∷ before) = early_noted i before

-- the packet that carries an item of a stream in slot m: on the stream's output PID, its PCR later by the delay
abbrev pub sent_packet : ScheduleValue → ℕ → Stream → Option Stamped → List ℕ
sent_packet s m st None = null_packet
sent_packet s m st (Some item) = rewritten item.packet st.output_pid (slot_time s.first m - item.stamp)

-- the packet of a slot with this content, behind these events and the packets that they emitted: a table is that of the plan in
-- force, with the counter that follows all earlier packets of its PID
abbrev pub packet_behind : ScheduleValue → List Event → List (List ℕ) → Content → List ℕ
packet_behind s before out Null = null_packet
packet_behind s before out (Table place) = counted_behind out (table_packet_at (plan_in_force s before).tables place)
packet_behind s before out (Elementary st) = sent_packet s (length out) st (slice_get (queue s st before) 0)

-- the packets that went out, one a slot, oldest first
abbrev pub emitted : ScheduleValue → List Event → List (List ℕ)
emitted s [] = []
emitted s (Slot c ∷ before) = emitted s before ++ packet_behind s before (emitted s before) c ∷ []
emitted s (e ∷ before) = emitted s before
