-- The packets of slots, by their PIDs.
use Rattle.std.proofs.Common.{ℕ, ◌-◌, ◌<◌, ◌≡◌, List, [], ◌∷◌, length, Some, ap, sym, subst, arith, inl, inr, All}
use Rattle.std.specs.List.{slice_get}
use Rattle.std.proofs.lemmas.List.Elements.{All-nil, All-push, All-drop}
use Rattle.std.proofs.lemmas.Bool.{cases_Bool}
use Rattle.tspkt.specs.Packet.{pid_of, null_packet, IsPacket}
use Rattle.tspkt.specs.Rewritten.{rewritten}
use Rattle.tspkt.specs.declared.stamped.Stamped.{Stamped}
use Rattle.tspkt.proofs.RewrittenLaws.{is_packet-rewritten, pid_of-rewritten, pid_of-null_packet}
use Rattle.request.specs.declared.stream.Stream.{Stream}
use Rattle.rounds.specs.declared.table_place.TablePlace.{TablePlace}
use Rattle.rounds.proofs.RecurringLaws.{are_places}
use Rattle.schedule.specs.Schedule.{ScheduleValue, span_at, slot_time}
use Rattle.emission.specs.Spans.{slot_in_span}
use Rattle.emission.proofs.ApartLaws as apart
use Rattle.mux.specs.declared.content.Content.TheVariants.{Elementary, Table}
use Rattle.mux.specs.declared.event.Event.{Event}
use Rattle.mux.specs.declared.event.Event.TheVariants.{Took, Full, Early, Close, Slot, Switch}
use Rattle.schedule.specs.Laws.{IsMultiplexSchedule}
use Rattle.mux.specs.History.{in_force, is_mapped_to, taken_for, sent, unsent, queue, slots, emitted, packet_behind, sent_packet}
use Rattle.mux.specs.Lawful.{IsLawful, IsContent}
use Rattle.mux.proofs.Contents.{table_turn}
use Rattle.mux.proofs.Plans.{IsAt, Has, all_at, built_at, known_of, streams_of, contains_of, stream_in}
use Rattle.mux.proofs.Force.{force_within}
use Rattle.mux.proofs.Refusals.{goes_both}
use Rattle.mux.proofs.Queues.{head_in_force}

-- an item of a stream: a whole packet of the stream's PID
abbrev pub IsItemOf : Stream → Stamped → Type 0
IsItemOf st item = IsPacket item.packet × (pid_of item.packet ≡ st.pid)

-- each that was taken is one
pub items_taken : (s : ScheduleValue) (st : Stream) (h : List Event) → IsLawful s h → All (IsItemOf st) (taken_for s st h)
items_taken s st [] law = All-nil (IsItemOf st)
items_taken s st (Took i item ∷ h) law =
    let ih = items_taken s st h law.0 in
    elim (cases_Bool (is_mapped_to s st i item)) [
      | inl e ↦ rw e (All-push (IsItemOf st) (taken_for s st h) item ih (law.1.packet, (goes_both s st i item e).1))
      | inr e ↦ rw e ih
    ]
items_taken s st (Full i su ∷ h) law = items_taken s st h law.0
items_taken s st (Early i ∷ h) law = items_taken s st h law.0
items_taken s st (Switch number ∷ h) law = items_taken s st h law.0
items_taken s st (Close i ∷ h) law = items_taken s st h law.0
items_taken s st (Slot c ∷ h) law = items_taken s st h law.0

-- the head of a queue is one of them
pub head_is_item : (s : ScheduleValue) (st : Stream) (h : List Event) (item : Stamped) → IsLawful s h → slice_get (queue s st h) 0 ≡ Some item → IsItemOf st item
head_is_item s st h item law head =
    all_at (IsItemOf st) (unsent s st h) 0 item (All-drop (IsItemOf st) (sent st h) (taken_for s st h) (items_taken s st h law)) (head_in_force s st h item head).1

-- the output PID of a stream of a plan is below 8191
pub out_below : (s : ScheduleValue) (k : ℕ) (st : Stream) → IsMultiplexSchedule s → IsAt s k st → st.output_pid < 8191
out_below s k st plan at = let high = (stream_in s k st plan at).output_pid.1 in omega arith

-- the packet of a slot with a stream's head
pub packet_is : (s : ScheduleValue) (h : List Event) (st : Stream) (item : Stamped) → slice_get (queue s st h) 0 ≡ Some item
    → packet_behind s h (emitted s h) (Elementary st) ≡ rewritten item.packet st.output_pid (slot_time s.first (length (emitted s h)) - item.stamp)
packet_is s h st item head = ap (sent_packet s (length (emitted s h)) st) head

-- a packet that is rewritten to the PID of a stream
pub record IsMovedTo (st : Stream) (q : List ℕ) : Type 0 where
  pub packet : IsPacket q
  pub pid : pid_of q ≡ st.output_pid

pub moved_to : (s : ScheduleValue) (h : List Event) (st : Stream) (item : Stamped) → IsMultiplexSchedule s → IsLawful s h → Has s st → slice_get (queue s st h) 0 ≡ Some item
    → IsMovedTo st (packet_behind s h (emitted s h) (Elementary st))
moved_to s h st item plan law has head =
    let below = out_below s has.0 st plan has.1 in
    let fits : st.output_pid < 8192 = omega arith in
    let is = head_is_item s st h item law head in
    let delay = slot_time s.first (length (emitted s h)) - item.stamp in
    let moved : IsMovedTo st (rewritten item.packet st.output_pid delay) = record {
      packet = is_packet-rewritten item.packet st.output_pid delay fits is.0;
      pid = pid_of-rewritten item.packet st.output_pid delay fits is.0;
    } in
    let P : List ℕ → Type 0 = IsMovedTo st in
    subst P (sym (packet_is s h st item head)) moved

-- the null packet is on no stream's PID
pub null_apart : (s : ScheduleValue) (k : ℕ) (st : Stream) → IsMultiplexSchedule s → IsAt s k st → pid_of null_packet ≡ st.output_pid → ⊥
null_apart s k st plan at e = let below = out_below s k st plan at in absurd (omega (arith, pid_of-null_packet))

-- and no table packet is
pub table_apart : (s : ScheduleValue) (h : List Event) (place : TablePlace) (k : ℕ) (st : Stream) → IsMultiplexSchedule s → IsLawful s h → IsContent s h (Table place)
    → IsAt s k st → pid_of (packet_behind s h (emitted s h) (Table place)) ≡ st.output_pid → ⊥
table_apart s h place k st plan law content at e =
    let number = in_force h in
    let within = force_within s h plan law in
    let w = span_at s number in
    let is = are_places w.plan.rounds (built_at s plan number within).rounds (slot_in_span w.slot (slots h)) place (table_turn s h place content) in
    let one = (streams_of s plan).no_other st (contains_of s k st at) in
    apart.table_apart s number one.0 (emitted s h) place st (known_of s plan) within one.1 one.2 is e
