-- What a multiplex keeps, after a slot.
use Rattle.std.proofs.Common.{ℕ, zero, suc, ◌+◌, ◌-◌, ◌<◌, ◌≤◌, ◌≡◌, ◌≢◌, true, false, List, [], ◌∷◌, ◌++◌, length, map, set, get_or, drop, refl, ap, ◌∙◌, sym, subst, arith, Some, None}
use Rattle.std.specs.List.{slice_get, range_with_len}
use Rattle.std.proofs.lemmas.Simd.{map-map}
use Rattle.std.proofs.lemmas.List.FromFn.{get_or-map-range_with_len}
use Rattle.std.proofs.lemmas.Bool.{false≢true}
use Rattle.tspkt.specs.Packet.{null_packet}
use Rattle.tspkt.specs.Rewritten.{rewritten}
use Rattle.tspkt.specs.declared.stamped.Stamped.{Stamped}
use Rattle.request.specs.declared.stream.Stream.{Stream}
use Rattle.mux.specs.declared.content.Content.{Content}
use Rattle.mux.specs.declared.content.Content.TheVariants.{Null, Elementary, Table}
use Rattle.mux.specs.declared.event.Event.{Event}
use Rattle.mux.specs.declared.event.Event.TheVariants.{Slot}
use Rattle.mux.specs.declared.input_state.InputState.{InputState}
use Rattle.buffers.specs.QueueValue.{QueueValue}
use Rattle.buffers.specs.BucketValue.{BucketValue}
use Rattle.rounds.specs.Turn.{TurnValue}
use Rattle.rounds.specs.declared.table_place.TablePlace.{TablePlace}
use Rattle.schedule.specs.Laws.{IsMultiplexSchedule}
use Rattle.mux.specs.SlotClock.{ClockValue, advanced}
use Rattle.mux.specs.History.{Run, in_force, plan_in_force, has_stream, slots, full_noted, early_noted, emitted, packet_behind, sent_packet}
use Rattle.mux.specs.declared.counts.Counts.{Counts}
use Rattle.mux.specs.Totals.{contents, dropped_of, told}
use Rattle.mux.specs.Lawful.{IsLawful, MaySend, input_count}
use Rattle.mux.specs.Keeping.{AgreesWith, IsKept, state_of, queue_of, counts_of, turn_of, without_notes}
use Rattle.mux.specs.Buckets.{AreBuckets, MovedOn}
use Rattle.mux.proofs.BucketSteps.{buckets_moved, null_of_none, table_of_none, stream_of_index, chosen_has_room}
use Rattle.mux.proofs.Lists.{set_map_at}
use Rattle.mux.proofs.Plans.{IsAt}
use Rattle.mux.proofs.Queues.{sent_queue, unsent_queue}
use Rattle.mux.proofs.Counting.{sent_in_force, count_sent, count_unsent, counts_elementary, counts_table, counts_null}
use Rattle.mux.proofs.Emitted.{length-emitted}
use Rattle.mux.proofs.Contents.{stream_choice}
use Rattle.mux.proofs.Force.{in_its_span}
use Rattle.mux.proofs.Plans.{of_plan}
use Rattle.emission.specs.Spans.{slot_in_span}
use Rattle.schedule.specs.Schedule.{ScheduleValue, span_at, slot_time}
use Rattle.schedule.specs.Streams.{all_streams}
use Rattle.mux.proofs.Steps.{queue_at, set_state}

-- slot m of the output is one behind the slot before in its span, and a span's first slot is 0 there
slot_next : (from m : ℕ) → from ≤ m → slot_in_span from (m + 1) ≡ slot_in_span from m + 1
slot_next zero m l = refl
slot_next (suc from) m l = omega arith

-- the turn one slot on
abbrev pub turned : TurnValue → TurnValue
turned t = record { rounds = t.rounds; slot = t.slot + 1 }

turn_next : (s : ScheduleValue) (h : List Event) (c : Content) → IsMultiplexSchedule s → IsLawful s h → turned (turn_of s h) ≡ turn_of s (Slot c ∷ h)
turn_next s h c ok law =
    let w = span_at s (in_force h) in
    ap (λ m. let x : TurnValue = record { rounds = w.plan.rounds; slot = m } in x) (sym (slot_next w.slot (slots h) (in_its_span s h ok.schedule.slots law).has_begun))

-- a slot, whatever it carries
sending : {r : Run} {h : List Event} {states : List InputState} {queues : List QueueValue} {buckets : List BucketValue} {clock : ClockValue} {turn : TurnValue} {packets : List (List ℕ)} {counts : Counts}
    → IsKept r h states queues buckets clock turn packets counts → (c : Content) (after : List Event) (now_states : List InputState) (now_queues : List QueueValue) (now_buckets : List BucketValue)
    (now_clock : ClockValue) (now_turn : TurnValue) (now_packets : List (List ℕ)) (now_counts : Counts)
    → after ≡ Slot c ∷ h → now_states ≡ map (state_of r.schedule (Slot c ∷ h)) (range_with_len 0 (input_count r.schedule)) → now_queues ≡ map (queue_of r.schedule (Slot c ∷ h)) (all_streams r.schedule) → AreBuckets r.schedule (emitted r.schedule (Slot c ∷ h)) now_buckets → now_clock ≡ advanced clock → now_turn ≡ turned turn
    → now_packets ≡ packets ++ packet_behind r.schedule h (emitted r.schedule h) c ∷ [] → now_counts ≡ counts_of (Slot c ∷ h)
    → slots h < r.limit → MaySend r.schedule h c
    → IsKept r after now_states now_queues now_buckets now_clock now_turn now_packets now_counts
sending {r} {h} {states} {queues} {buckets} {clock} {turn} {packets} kept c after now_states now_queues now_buckets now_clock now_turn now_packets now_counts e states_are queues_are bs t u ps m within may =
    let k = kept.agrees in
    let done : AgreesWith r (Slot c ∷ h) now_states now_queues = record {
      schedule = k.schedule;
      limit = k.limit;
      lawful = (k.lawful, may);
      within = omega arith;
      states_are = states_are;
      queues_are = queues_are;
    } in
    let all : IsKept r (Slot c ∷ h) now_states now_queues now_buckets now_clock now_turn now_packets now_counts = record {
      agrees = done;
      buckets_are = bs;
      packets_are = ps ∙ ap (λ xs. xs ++ packet_behind r.schedule h (emitted r.schedule h) c ∷ []) kept.packets_are;
      counts_are = m;
      clock_is = t ∙ ap advanced kept.clock_is;
      turn_is = u ∙ ap turned kept.turn_is ∙ turn_next r.schedule h c k.schedule k.lawful;
    } in
    let P : List Event → Type 0 = λ es. IsKept r es now_states now_queues now_buckets now_clock now_turn now_packets now_counts in
    subst P (sym e) all

-- a slot that carries nothing of an input
sending_other : {r : Run} {h : List Event} {states : List InputState} {queues : List QueueValue} {buckets : List BucketValue} {clock : ClockValue} {turn : TurnValue} {packets : List (List ℕ)} {counts : Counts}
    → IsKept r h states queues buckets clock turn packets counts → (c : Content) (after : List Event) (now_states : List InputState) (now_buckets : List BucketValue) (now_clock : ClockValue) (now_turn : TurnValue) (now_packets : List (List ℕ)) (now_counts : Counts)
    → after ≡ Slot c ∷ h → now_states ≡ map without_notes states → AreBuckets r.schedule (emitted r.schedule (Slot c ∷ h)) now_buckets → now_clock ≡ advanced clock → now_turn ≡ turned turn → now_packets ≡ packets ++ packet_behind r.schedule h (emitted r.schedule h) c ∷ [] → now_counts ≡ counts_of (Slot c ∷ h)
    → map without_notes (map (state_of r.schedule h) (range_with_len 0 (input_count r.schedule))) ≡ map (state_of r.schedule (Slot c ∷ h)) (range_with_len 0 (input_count r.schedule))
    → map (queue_of r.schedule h) (all_streams r.schedule) ≡ map (queue_of r.schedule (Slot c ∷ h)) (all_streams r.schedule)
    → slots h < r.limit → MaySend r.schedule h c → IsKept r after now_states queues now_buckets now_clock now_turn now_packets now_counts
sending_other {r} {h} {states} {queues} kept c after now_states now_buckets now_clock now_turn now_packets now_counts e states_are bs t u ps m states_same queues_same within may =
    let k = kept.agrees in
    sending kept c after now_states queues now_buckets now_clock now_turn now_packets now_counts e (states_are ∙ ap (map without_notes) k.states_are ∙ states_same) (k.queues_are ∙ queues_same) bs t u ps m within may

pub sending_null : {r : Run} {h : List Event} {states : List InputState} {queues : List QueueValue} {buckets : List BucketValue} {clock : ClockValue} {turn : TurnValue} {packets : List (List ℕ)} {counts : Counts}
    → IsKept r h states queues buckets clock turn packets counts → (after : List Event) (now_states : List InputState) (now_buckets : List BucketValue) (now_clock : ClockValue) (now_turn : TurnValue) (now_packets : List (List ℕ))
    → after ≡ Slot Null ∷ h → now_states ≡ map without_notes states → MovedOn None buckets now_buckets → now_clock ≡ advanced clock → now_turn ≡ turned turn → now_packets ≡ packets ++ packet_behind r.schedule h (emitted r.schedule h) Null ∷ []
    → slots h < r.limit → MaySend r.schedule h Null → IsKept r after now_states queues now_buckets now_clock now_turn now_packets (record counts { null = counts.null + 1 })
sending_null {r} {h} {states} {queues} {buckets} {clock} {turn} {packets} {counts} kept after now_states now_buckets now_clock now_turn now_packets e states_are moved t u ps within may =
    sending_other kept Null after now_states now_buckets now_clock now_turn now_packets (record counts { null = counts.null + 1 }) e states_are
    (buckets_moved r.schedule (emitted r.schedule h) null_packet None buckets now_buckets kept.buckets_are moved (null_of_none r.schedule kept.agrees.schedule) (λ k b yes there. absurd (false≢true yes))) t u ps
    (ap (λ (x : Counts). let y : Counts = record x { null = x.null + 1 } in y) kept.counts_are ∙ counts_null h)
    (map-map without_notes (state_of r.schedule h) (range_with_len 0 (input_count r.schedule))) refl within may

pub sending_table : {r : Run} {h : List Event} {states : List InputState} {queues : List QueueValue} {buckets : List BucketValue} {clock : ClockValue} {turn : TurnValue} {packets : List (List ℕ)} {counts : Counts}
    → IsKept r h states queues buckets clock turn packets counts → (place : TablePlace) (after : List Event) (now_states : List InputState) (now_buckets : List BucketValue) (now_clock : ClockValue) (now_turn : TurnValue) (now_packets : List (List ℕ))
    → after ≡ Slot (Table place) ∷ h → now_states ≡ map without_notes states → MovedOn None buckets now_buckets → now_clock ≡ advanced clock → now_turn ≡ turned turn → now_packets ≡ packets ++ packet_behind r.schedule h (emitted r.schedule h) (Table place) ∷ []
    → slots h < r.limit → MaySend r.schedule h (Table place) → IsKept r after now_states queues now_buckets now_clock now_turn now_packets (record counts { tables = counts.tables + 1 })
sending_table {r} {h} {states} {queues} {buckets} {clock} {turn} {packets} {counts} kept place after now_states now_buckets now_clock now_turn now_packets e states_are moved t u ps within may =
    let q = packet_behind r.schedule h (emitted r.schedule h) (Table place) in
    sending_other kept (Table place) after now_states now_buckets now_clock now_turn now_packets (record counts { tables = counts.tables + 1 }) e states_are
    (buckets_moved r.schedule (emitted r.schedule h) q None buckets now_buckets kept.buckets_are moved (table_of_none r.schedule h place kept.agrees.schedule kept.agrees.lawful may.content) (λ k b yes there. absurd (false≢true yes))) t u ps
    (ap (λ (x : Counts). let y : Counts = record x { tables = x.tables + 1 } in y) kept.counts_are ∙ counts_table place h)
    (map-map without_notes (state_of r.schedule h) (range_with_len 0 (input_count r.schedule))) refl within may

-- the state of an input with one more packet sent
abbrev pub with_sent : InputState → InputState
with_sent x = record x { sent = x.sent + 1 }

sends_others : (s : ScheduleValue) (h : List Event) (st : Stream) (j : ℕ) → j ≢ st.input → dropped_of s j (Slot (Elementary st) ∷ h) ≡ dropped_of s j h
    → without_notes (state_of s h j) ≡ state_of s (Slot (Elementary st) ∷ h) j
sends_others s h st j ne same =
    ap (λ m. let x : InputState = record (state_of s h j) { full_noted = false; early_noted = false; sent = m } in x) (sym (count_unsent j st (contents h) ne))
    ∙ ap (λ n. let x : InputState = record (state_of s (Slot (Elementary st) ∷ h) j) { dropped = told n } in x) (sym same)

sends_one : (s : ScheduleValue) (h : List Event) (st : Stream) → dropped_of s st.input (Slot (Elementary st) ∷ h) ≡ dropped_of s st.input h
    → with_sent (without_notes (state_of s h st.input)) ≡ state_of s (Slot (Elementary st) ∷ h) st.input
sends_one s h st same =
    ap (λ m. let x : InputState = record (state_of s h st.input) { full_noted = false; early_noted = false; sent = m } in x) (sym (count_sent st (contents h)))
    ∙ ap (λ n. let x : InputState = record (state_of s (Slot (Elementary st) ∷ h) st.input) { dropped = told n } in x) (sym same)

-- the state of an input with nothing noted
pub cleared_at : {r : Run} {h : List Event} {states : List InputState} {queues : List QueueValue} → AgreesWith r h states queues → (cleared : List InputState) → cleared ≡ map without_notes states
    → (i : ℕ) (x : InputState) → i < input_count r.schedule → x ≡ get_or cleared i x → x ≡ without_notes (state_of r.schedule h i)
cleared_at {r} {h} k cleared cleared_are i x l at =
    let before : ℕ → InputState = λ j. without_notes (state_of r.schedule h j) in
    let inputs = input_count r.schedule in
    at ∙ ap (λ ys. get_or ys i x) (cleared_are ∙ ap (map without_notes) k.states_are ∙ map-map without_notes (state_of r.schedule h) (range_with_len 0 inputs)) ∙ get_or-map-range_with_len before 0 inputs i i x l (omega arith)

pub sending_head : {r : Run} {h : List Event} {states : List InputState} {queues : List QueueValue} {buckets : List BucketValue} {clock : ClockValue} {turn : TurnValue} {packets : List (List ℕ)} {counts : Counts}
    → IsKept r h states queues buckets clock turn packets counts → (k : ℕ) (st : Stream) (x : InputState) (q w : QueueValue) (after : List Event) (cleared : List InputState) (now_buckets : List BucketValue) (now_clock : ClockValue) (now_turn : TurnValue) (now_packets : List (List ℕ))
    → after ≡ Slot (Elementary st) ∷ h → cleared ≡ map without_notes states → x ≡ get_or cleared st.input x → st.input < input_count r.schedule → IsAt r.schedule k st
    → q ≡ get_or queues k q → w ≡ record { items = drop 1 q.items; capacity = q.capacity } → MovedOn (Some k) buckets now_buckets
    → now_clock ≡ advanced clock → now_turn ≡ turned turn → now_packets ≡ packets ++ packet_behind r.schedule h (emitted r.schedule h) (Elementary st) ∷ [] → slots h < r.limit → MaySend r.schedule h (Elementary st)
    → IsKept r after (set cleared st.input (with_sent x)) (set queues k w) now_buckets now_clock now_turn now_packets (record counts { elementary = counts.elementary + 1 })
sending_head {r} {h} {states} {queues} {buckets} {clock} {turn} {packets} {counts} whole k st x q w after cleared now_buckets now_clock now_turn now_packets e cleared_are x_at l at q_at w_is moved t u ps within may =
    let kept = whole.agrees in
    let s = r.schedule in
    let inputs = input_count r.schedule in
    let before : ℕ → InputState = λ j. without_notes (state_of r.schedule h j) in
    let chosen = stream_choice r.schedule h st may.content in
    let has : has_stream (plan_in_force r.schedule h) st ≡ true = of_plan r.schedule (in_force h) st chosen.1.stream in
    let same : (j : ℕ) → dropped_of r.schedule j (Slot (Elementary st) ∷ h) ≡ dropped_of r.schedule j h = λ j. sent_in_force s j h st k kept.schedule at has in
    let cleared_is : cleared ≡ map before (range_with_len 0 inputs) = cleared_are ∙ ap (map without_notes) kept.states_are ∙ map-map without_notes (state_of r.schedule h) (range_with_len 0 inputs) in
    let x_is : x ≡ before st.input = cleared_at kept cleared cleared_are st.input x l x_at in
    let q_is : q ≡ queue_of r.schedule h st = queue_at kept k st q at q_at in
    let w' : w ≡ queue_of r.schedule (Slot (Elementary st) ∷ h) st = w_is ∙ ap (λ (y : QueueValue). let z : QueueValue = record { items = drop 1 y.items; capacity = y.capacity } in z) q_is ∙ sent_queue r.schedule h st chosen.0 chosen.1.head in
    sending whole (Elementary st) after (set cleared st.input (with_sent x)) (set queues k w) now_buckets now_clock now_turn now_packets (record counts { elementary = counts.elementary + 1 }) e
    (ap (λ ys. set ys st.input (with_sent x)) cleared_is ∙ ap (set (map before (range_with_len 0 inputs)) st.input) (ap with_sent x_is ∙ sends_one s h st (same st.input)) ∙ set_state before (state_of r.schedule (Slot (Elementary st) ∷ h)) inputs st.input l (λ j ne. sends_others s h st j ne (same j)))
    (ap (λ ys. set ys k w) kept.queues_are ∙ ap (set (map (queue_of r.schedule h) (all_streams r.schedule)) k) w' ∙ set_map_at (queue_of r.schedule h) (queue_of r.schedule (Slot (Elementary st) ∷ h)) (all_streams r.schedule) k st at (unsent_queue r.schedule h st k kept.schedule at))
    (buckets_moved r.schedule (emitted r.schedule h) (packet_behind r.schedule h (emitted r.schedule h) (Elementary st)) (Some k) buckets now_buckets whole.buckets_are moved
    (stream_of_index r.schedule h k st kept.schedule kept.lawful at may.content) (chosen_has_room r.schedule h buckets k st kept.schedule kept.lawful whole.buckets_are at may.content))
    t u ps (ap (λ (x : Counts). let y : Counts = record x { elementary = x.elementary + 1 } in y) whole.counts_are ∙ counts_elementary st h) within may

-- the packet that carries a stream's head
pub sent_packet_is : {r : Run} {h : List Event} {states : List InputState} {queues : List QueueValue} → AgreesWith r h states queues → (k : ℕ) (st : Stream) (q : QueueValue) (item : Stamped) (now : ℕ) → IsAt r.schedule k st
    → q ≡ get_or queues k q → slice_get q.items 0 ≡ Some item → now ≡ slot_time r.schedule.first (slots h)
    → rewritten item.packet st.output_pid (now - item.stamp) ≡ packet_behind r.schedule h (emitted r.schedule h) (Elementary st)
sent_packet_is {r} {h} kept k st q item now at q_at head t =
    let q_is : q ≡ queue_of r.schedule h st = queue_at kept k st q at q_at in
    ap (λ m. rewritten item.packet st.output_pid (m - item.stamp)) t
    ∙ ap (λ m. rewritten item.packet st.output_pid (slot_time r.schedule.first m - item.stamp)) (sym (length-emitted r.schedule h))
    ∙ sym (ap (sent_packet r.schedule (length (emitted r.schedule h)) st) (sym (ap (λ (x : QueueValue). slice_get x.items 0) q_is) ∙ head))
