-- What a multiplex keeps, after an event: one lemma an event.
use Rattle.std.proofs.Common.{ℕ, ◌+◌, ◌-◌, ◌<◌, ◌≤◌, ◌≡◌, ◌≢◌, ◌||◌, true, false, eq-eqb, cond, List, [], ◌∷◌, ◌++◌, length, map, set, get_or, refl, ap, ◌∙◌, sym, subst, arith, nat_eq}
use Rattle.std.specs.Prelude.{count_by, min}
use Rattle.std.specs.List.{range_with_len}
use Rattle.std.proofs.lemmas.List.FromFn.{length-range_with_len, get_or-range_with_len, get_or-map-range_with_len}
use Rattle.std.proofs.lemmas.Bool.{ne_eqb}
use Rattle.std.proofs.lemmas.List.{length-map, get_or-map}
use Rattle.std.proofs.lemmas.Option.{slice_get_within, get_or_from_slice_get}
use Rattle.tspkt.specs.declared.stamped.Stamped.{Stamped}
use Rattle.request.specs.declared.stream.Stream.{Stream}
use Rattle.mux.specs.declared.content.Content.{Content}
use Rattle.mux.specs.declared.event.Event.{Event}
use Rattle.mux.specs.declared.event.Event.TheVariants.{Took, Full, Early, Close}
use Rattle.mux.specs.declared.input_state.InputState.{InputState}
use Rattle.buffers.specs.QueueValue.{QueueValue}
use Rattle.buffers.specs.BucketValue.{BucketValue}
use Rattle.rounds.specs.Turn.{TurnValue}
use Rattle.mux.specs.declared.mux.TheConstants.{MAX_SLOTS}
use Rattle.schedule.specs.Laws.{IsMultiplexSchedule}
use Rattle.mux.specs.SlotClock.{ClockValue, clock_at}
use Rattle.mux.specs.History.{Run, in_force, plan_in_force, has_stream, slots, last_stamp, is_closed, full_noted, early_noted, emitted}
use Rattle.mux.specs.declared.counts.Counts.{Counts}
use Rattle.mux.specs.Totals.{contents, is_table, is_elementary, is_null, dropped_of, told}
use Rattle.mux.specs.Lawful.{MayTake, MayNoteFull, MayNoteEarly, input_count}
use Rattle.mux.specs.Keeping.{AgreesWith, IsKept, IsSpanOf, state_of, queue_of, new_state, empty_queue, counts_of, turn_of}
use Rattle.mux.specs.Buckets.{AreBuckets, empty_bucket}
use Rattle.mux.proofs.BucketSteps.{buckets_none}
use Rattle.mux.proofs.Lists.{set_map, set_map_at, map_same, map_same_at}
use Rattle.mux.proofs.Plans.{IsAt}
use Rattle.mux.proofs.Refusals.{IsTakenFor}
use Rattle.mux.proofs.Queues.{nothing_queued, queued, unqueued, late_queues}
use Rattle.mux.proofs.Counting.{took_in_force, took_late, dropped_at_first}
use Rattle.mux.specs.declared.span.Span.{Span}
use Rattle.schedule.specs.Schedule.{ScheduleValue}
use Rattle.schedule.specs.Streams.{all_streams}

-- the number of states
pub length_states : {r : Run} {h : List Event} {states : List InputState} {queues : List QueueValue} → AgreesWith r h states queues → length states ≡ input_count r.schedule
length_states {r} {h} k = ap length k.states_are ∙ length-map (range_with_len 0 (input_count r.schedule)) (state_of r.schedule h) ∙ length-range_with_len 0 (input_count r.schedule)

-- the state that is kept of an input
pub state_at : {r : Run} {h : List Event} {states : List InputState} {queues : List QueueValue} → AgreesWith r h states queues → (i : ℕ) (x : InputState)
    → i < input_count r.schedule → x ≡ get_or states i x → x ≡ state_of r.schedule h i
state_at {r} {h} k i x l at = at ∙ ap (λ ys. get_or ys i x) k.states_are ∙ get_or-map-range_with_len (state_of r.schedule h) 0 (input_count r.schedule) i i x l (omega arith)

-- the queue s that is kept of a stream
pub queue_at : {r : Run} {h : List Event} {states : List InputState} {queues : List QueueValue} → AgreesWith r h states queues → (k : ℕ) (st : Stream) (x : QueueValue)
    → IsAt r.schedule k st → x ≡ get_or queues k x → x ≡ queue_of r.schedule h st
queue_at {r} {h} kept k st x at is =
    let within = slice_get_within (all_streams r.schedule) k st at in
    is ∙ ap (λ ys. get_or ys k x) kept.queues_are ∙ get_or-map (queue_of r.schedule h) (all_streams r.schedule) k st x within ∙ ap (queue_of r.schedule h) (get_or_from_slice_get (all_streams r.schedule) k st st at)

pub length_queues : {r : Run} {h : List Event} {states : List InputState} {queues : List QueueValue} → AgreesWith r h states queues → length queues ≡ length (all_streams r.schedule)
length_queues {r} {h} k = ap length k.queues_are ∙ length-map (all_streams r.schedule) (queue_of r.schedule h)

-- a change of one input's state
pub set_state : (before after : ℕ → InputState) (n i : ℕ) → i < n → ((j : ℕ) → j ≢ i → before j ≡ after j)
    → set (map before (range_with_len 0 n)) i (after i) ≡ map after (range_with_len 0 n)
set_state before after n i l others =
    let at : (j : ℕ) → j < n → get_or (range_with_len 0 n) j 0 ≡ j = λ j m. get_or-range_with_len 0 n j 0 m ∙ omega arith in
    ap (λ k. set (map before (range_with_len 0 n)) i (after k)) (sym (at i l))
    ∙ set_map before after (range_with_len 0 n) i 0 (omega (arith, length-range_with_len 0 n)) (λ j m ne. others _ (λ same. ne (sym (at j (omega (arith, length-range_with_len 0 n))) ∙ same)))

-- a change of all of them
pub each_state : (before after : ℕ → InputState) (n : ℕ) → ((j : ℕ) → j < n → before j ≡ after j) → map before (range_with_len 0 n) ≡ map after (range_with_len 0 n)
each_state before after n each =
    map_same before after (range_with_len 0 n) 0 (λ j l.
    let is : get_or (range_with_len 0 n) j 0 ≡ j = get_or-range_with_len 0 n j 0 (omega (arith, length-range_with_len 0 n)) ∙ omega arith in
    ap before is ∙ each j (omega (arith, length-range_with_len 0 n)) ∙ ap after (sym is))

same_counts : (h after : List Event) → contents after ≡ contents h → counts_of after ≡ counts_of h
same_counts h after c = ap (λ (cs : List Content). let x : Counts = record { tables = count_by is_table cs; elementary = count_by is_elementary cs; null = count_by is_null cs } in x) c

-- before the first event
new_is : (s : ScheduleValue) (i : ℕ) → new_state i ≡ state_of s [] i
new_is s i = ap (λ n. let x : InputState = record { closed = false; last_stamp = 0; full_noted = false; early_noted = false; sent = 0; dropped = told n } in x) (sym (dropped_at_first s i))

empty_is : (s : ScheduleValue) (st : Stream) → empty_queue s.first.request.queue st ≡ queue_of s [] st
empty_is s st = ap (λ xs. let x : QueueValue = record { items = xs; capacity = s.first.request.queue } in x) (sym (nothing_queued s st))

-- a multiplex at its opening
pub opening : (r : Run) (h : List Event) (states : List InputState) (queues : List QueueValue) (buckets : List BucketValue) (clock : ClockValue) (turn : TurnValue) (packets : List (List ℕ)) → IsMultiplexSchedule r.schedule → r.limit ≤ MAX_SLOTS
    → h ≡ [] → states ≡ map new_state (range_with_len 0 (input_count r.schedule)) → queues ≡ map (empty_queue r.schedule.first.request.queue) (all_streams r.schedule)
    → buckets ≡ map (empty_bucket r.schedule.first.request.rate) (all_streams r.schedule)
    → clock ≡ clock_at r.schedule.first.request.rate 0 → turn ≡ record { rounds = r.schedule.first.rounds; slot = 0 } → packets ≡ []
    → IsKept r h states queues buckets clock turn packets (record { tables = 0; elementary = 0; null = 0 })
opening r h states queues buckets clock turn packets ok limit none states_are queues_are b t u ps =
    let P : List Event → Type 0 = λ es. IsKept r es states queues buckets clock turn packets (record { tables = 0; elementary = 0; null = 0 }) in
    let start : AgreesWith r [] states queues = record {
      schedule = ok;
      limit = limit;
      lawful = tt;
      within = omega arith;
      states_are = states_are ∙ each_state new_state (state_of r.schedule []) (input_count r.schedule) (λ j l. new_is r.schedule j);
      queues_are = queues_are ∙ map_same_at (empty_queue r.schedule.first.request.queue) (queue_of r.schedule []) (all_streams r.schedule) (λ k st at. empty_is r.schedule st);
    } in
    subst P (sym none) (record { agrees = start; buckets_are = buckets_none r.schedule buckets ok b; clock_is = t; turn_is = u; packets_are = ps; counts_are = refl })

-- nothing went out with the event
pub same_output : {r : Run} {h : List Event} {states : List InputState} {queues : List QueueValue} {buckets : List BucketValue} {clock : ClockValue} {turn : TurnValue} {packets : List (List ℕ)} {counts : Counts}
    → IsKept r h states queues buckets clock turn packets counts → (after : List Event) (now_states : List InputState) (now_queues : List QueueValue) (now_turn : TurnValue)
    → emitted r.schedule after ≡ emitted r.schedule h → contents after ≡ contents h → slots after ≡ slots h → now_turn ≡ turn_of r.schedule after → AgreesWith r after now_states now_queues
    → IsKept r after now_states now_queues buckets clock now_turn packets counts
same_output {r} {h} {states} {queues} {buckets} k after now_states now_queues now_turn e c m t a = record {
  agrees = a;
  buckets_are = let P : List (List ℕ) → Type 0 = λ out. AreBuckets r.schedule out buckets in subst P (sym e) k.buckets_are;
  packets_are = k.packets_are ∙ sym e;
  counts_are = k.counts_are ∙ sym (same_counts h after c);
  clock_is = k.clock_is ∙ ap (clock_at r.schedule.first.request.rate) (sym m);
  turn_is = t;
}

-- the same packets went out
pub same_packets : {r : Run} {h : List Event} {states : List InputState} {queues : List QueueValue} {buckets : List BucketValue} {clock : ClockValue} {turn : TurnValue} {packets : List (List ℕ)} {counts : Counts}
    → IsKept r h states queues buckets clock turn packets counts → (now : List (List ℕ)) → now ≡ packets → IsKept r h states queues buckets clock turn now counts
same_packets {r} {h} {states} {queues} {buckets} {clock} {turn} {packets} {counts} kept now same =
    let P : List (List ℕ) → Type 0 = λ ps. IsKept r h states queues buckets clock turn ps counts in
    subst P (sym same) kept

-- the span of the plan in force stays with an event that is no switch
pub span_stays : {s : ScheduleValue} {h : List Event} {span : Span} → IsSpanOf s (in_force h) span → (e : Event) (after : List Event) → after ≡ e ∷ h → in_force (e ∷ h) ≡ in_force h
    → IsSpanOf s (in_force after) span
span_stays {s} {h} {span} kept e after is same = let P : ℕ → Type 0 = λ n. IsSpanOf s n span in subst P (sym (ap in_force is ∙ same)) kept

closes_others : (s : ScheduleValue) (h : List Event) (i j : ℕ) → j ≢ i → state_of s h j ≡ state_of s (Close i ∷ h) j
closes_others s h i j ne = ap (λ b. let x : InputState = record (state_of s h j) { closed = b || is_closed j h } in x) (sym (ne_eqb i j (λ same. ne (sym same))))

closes_one : (s : ScheduleValue) (h : List Event) (i : ℕ) (x : InputState) → x ≡ state_of s h i → record x { closed = true } ≡ state_of s (Close i ∷ h) i
closes_one s h i x is = ap (λ (y : InputState). record y { closed = true }) is ∙ ap (λ b. let x : InputState = record (state_of s h i) { closed = b || is_closed i h } in x) (sym (eq-eqb i i refl))

-- an input is closed
pub closing : {r : Run} {h : List Event} {states : List InputState} {queues : List QueueValue} {buckets : List BucketValue} {clock : ClockValue} {turn : TurnValue} {packets : List (List ℕ)} {counts : Counts}
    → IsKept r h states queues buckets clock turn packets counts → (after : List Event) (i : ℕ) (x : InputState)
    → after ≡ Close i ∷ h → i < input_count r.schedule → x ≡ get_or states i x → x.closed ≡ false
    → IsKept r after (set states i (record x { closed = true })) queues buckets clock turn packets counts
closing {r} {h} {states} {queues} {buckets} {clock} {turn} {packets} {counts} kept after i x e l at open_ =
    let k = kept.agrees in
    let s = r.schedule in
    let is : x ≡ state_of r.schedule h i = state_at k i x l at in
    let inputs = input_count r.schedule in
    let done : AgreesWith r (Close i ∷ h) (set states i (record x { closed = true })) queues = record {
      schedule = k.schedule;
      limit = k.limit;
      lawful = (k.lawful, record { input = l; open_ = sym (ap (λ (y : InputState). y.closed) is) ∙ open_ });
      within = k.within;
      states_are = ap (λ ys. set ys i (record x { closed = true })) k.states_are ∙ ap (set (map (state_of s h) (range_with_len 0 inputs)) i) (closes_one s h i x is) ∙ set_state (state_of s h) (state_of s (Close i ∷ h)) inputs i l (closes_others s h i);
      queues_are = k.queues_are;
    } in
    let P : List Event → Type 0 = λ es. IsKept r es (set states i (record x { closed = true })) queues buckets clock turn packets counts in
    subst P (sym e) (same_output kept (Close i ∷ h) (set states i (record x { closed = true })) queues turn refl refl refl kept.turn_is done)

notes_others : (s : ScheduleValue) (h : List Event) (st : Stream) (i j : ℕ) → j ≢ i → state_of s h j ≡ state_of s (Full i st ∷ h) j
notes_others s h st i j ne = ap (λ b. let x : InputState = record (state_of s h j) { full_noted = b || full_noted j h } in x) (sym (ne_eqb i j (λ same. ne (sym same))))

notes_one : (s : ScheduleValue) (h : List Event) (st : Stream) (i : ℕ) (x : InputState) → x ≡ state_of s h i → record x { full_noted = true } ≡ state_of s (Full i st ∷ h) i
notes_one s h st i x is = ap (λ (y : InputState). record y { full_noted = true }) is ∙ ap (λ b. let x : InputState = record (state_of s h i) { full_noted = b || full_noted i h } in x) (sym (eq-eqb i i refl))

-- a full queue is noted
pub noting : {r : Run} {h : List Event} {states : List InputState} {queues : List QueueValue} {buckets : List BucketValue} {clock : ClockValue} {turn : TurnValue} {packets : List (List ℕ)} {counts : Counts}
    → IsKept r h states queues buckets clock turn packets counts → (after : List Event) (i : ℕ) (st : Stream) (x : InputState)
    → after ≡ Full i st ∷ h → i < input_count r.schedule → x ≡ get_or states i x → MayNoteFull r.schedule h i st
    → IsKept r after (set states i (record x { full_noted = true })) queues buckets clock turn packets counts
noting {r} {h} {states} {queues} {buckets} {clock} {turn} {packets} {counts} kept after i st x e l at may =
    let k = kept.agrees in
    let s = r.schedule in
    let is : x ≡ state_of r.schedule h i = state_at k i x l at in
    let inputs = input_count r.schedule in
    let done : AgreesWith r (Full i st ∷ h) (set states i (record x { full_noted = true })) queues = record {
      schedule = k.schedule;
      limit = k.limit;
      lawful = (k.lawful, may);
      within = k.within;
      states_are = ap (λ ys. set ys i (record x { full_noted = true })) k.states_are ∙ ap (set (map (state_of s h) (range_with_len 0 inputs)) i) (notes_one s h st i x is) ∙ set_state (state_of s h) (state_of s (Full i st ∷ h)) inputs i l (notes_others s h st i);
      queues_are = k.queues_are;
    } in
    let P : List Event → Type 0 = λ es. IsKept r es (set states i (record x { full_noted = true })) queues buckets clock turn packets counts in
    subst P (sym e) (same_output kept (Full i st ∷ h) (set states i (record x { full_noted = true })) queues turn refl refl refl kept.turn_is done)

early_others : (s : ScheduleValue) (h : List Event) (i j : ℕ) → j ≢ i → state_of s h j ≡ state_of s (Early i ∷ h) j
early_others s h i j ne = ap (λ b. let x : InputState = record (state_of s h j) { early_noted = b || early_noted j h } in x) (sym (ne_eqb i j (λ same. ne (sym same))))

early_one : (s : ScheduleValue) (h : List Event) (i : ℕ) (x : InputState) → x ≡ state_of s h i → record x { early_noted = true } ≡ state_of s (Early i ∷ h) i
early_one s h i x is = ap (λ (y : InputState). record y { early_noted = true }) is ∙ ap (λ b. let x : InputState = record (state_of s h i) { early_noted = b || early_noted i h } in x) (sym (eq-eqb i i refl))

-- an early packet is noted
pub noting_early : {r : Run} {h : List Event} {states : List InputState} {queues : List QueueValue} {buckets : List BucketValue} {clock : ClockValue} {turn : TurnValue} {packets : List (List ℕ)} {counts : Counts}
    → IsKept r h states queues buckets clock turn packets counts → (after : List Event) (i : ℕ) (x : InputState)
    → after ≡ Early i ∷ h → x ≡ get_or states i x → MayNoteEarly r.schedule h i
    → IsKept r after (set states i (record x { early_noted = true })) queues buckets clock turn packets counts
noting_early {r} {h} {states} {queues} {buckets} {clock} {turn} {packets} {counts} kept after i x e at may =
    let k = kept.agrees in
    let s = r.schedule in
    let l = may.input in
    let is : x ≡ state_of r.schedule h i = state_at k i x l at in
    let inputs = input_count r.schedule in
    let done : AgreesWith r (Early i ∷ h) (set states i (record x { early_noted = true })) queues = record {
      schedule = k.schedule;
      limit = k.limit;
      lawful = (k.lawful, may);
      within = k.within;
      states_are = ap (λ ys. set ys i (record x { early_noted = true })) k.states_are ∙ ap (set (map (state_of s h) (range_with_len 0 inputs)) i) (early_one s h i x is) ∙ set_state (state_of s h) (state_of s (Early i ∷ h)) inputs i l (early_others s h i);
      queues_are = k.queues_are;
    } in
    let P : List Event → Type 0 = λ es. IsKept r es (set states i (record x { early_noted = true })) queues buckets clock turn packets counts in
    subst P (sym e) (same_output kept (Early i ∷ h) (set states i (record x { early_noted = true })) queues turn refl refl refl kept.turn_is done)

-- the state of an input with one more packet taken, of which so many were dropped
abbrev pub with_taken : InputState → Stamped → InputState
with_taken x item = record x { last_stamp = item.stamp }

abbrev pub with_late : InputState → Stamped → InputState
with_late x item = record x { last_stamp = item.stamp; dropped = min (x.dropped + 1) 18446744073709551615 }

takes_others : (s : ScheduleValue) (h : List Event) (item : Stamped) (i j : ℕ) → j ≢ i → dropped_of s j (Took i item ∷ h) ≡ dropped_of s j h → state_of s h j ≡ state_of s (Took i item ∷ h) j
takes_others s h item i j ne same =
    ap (λ b. let x : InputState = record (state_of s h j) { last_stamp = cond b item.stamp (last_stamp j h) } in x) (sym (ne_eqb i j (λ is. ne (sym is))))
    ∙ ap (λ n. let x : InputState = record (state_of s h j) { last_stamp = last_stamp j (Took i item ∷ h); dropped = told n } in x) (sym same)

takes_one : (s : ScheduleValue) (h : List Event) (item : Stamped) (i : ℕ) (x : InputState) → x ≡ state_of s h i → dropped_of s i (Took i item ∷ h) ≡ dropped_of s i h
    → with_taken x item ≡ state_of s (Took i item ∷ h) i
takes_one s h item i x is same =
    ap (λ (y : InputState). with_taken y item) is
    ∙ ap (λ b. let x : InputState = record (state_of s h i) { last_stamp = cond b item.stamp (last_stamp i h) } in x) (sym (eq-eqb i i refl))
    ∙ ap (λ n. let x : InputState = record (state_of s h i) { last_stamp = last_stamp i (Took i item ∷ h); dropped = told n } in x) (sym same)

-- a packet is taken for a stream in force
pub taking : {r : Run} {h : List Event} {states : List InputState} {queues : List QueueValue} {buckets : List BucketValue} {clock : ClockValue} {turn : TurnValue} {packets : List (List ℕ)} {counts : Counts}
    → IsKept r h states queues buckets clock turn packets counts → (after : List Event) (i : ℕ) (item : Stamped) (k : ℕ) (st : Stream) (x : InputState) (q w : QueueValue)
    → after ≡ Took i item ∷ h → x ≡ get_or states i x → IsAt r.schedule k st → q ≡ get_or queues k q → w ≡ record { items = q.items ++ item ∷ []; capacity = q.capacity }
    → MayTake r.schedule h i item → IsTakenFor r.schedule h i item st → has_stream (plan_in_force r.schedule h) st ≡ true
    → IsKept r after (set states i (with_taken x item)) (set queues k w) buckets clock turn packets counts
taking {r} {h} {states} {queues} {buckets} {clock} {turn} {packets} {counts} whole after i item k st x q w e x_at at q_at w_is may taker has =
    let kept = whole.agrees in
    let s = r.schedule in
    let l = may.input in
    let inputs = input_count r.schedule in
    let same : (j : ℕ) → dropped_of r.schedule j (Took i item ∷ h) ≡ dropped_of r.schedule j h = λ j. took_in_force s j i h item st kept.schedule taker has in
    let is : x ≡ state_of r.schedule h i = state_at kept i x l x_at in
    let q_is : q ≡ queue_of r.schedule h st = queue_at kept k st q at q_at in
    let w' : w ≡ queue_of r.schedule (Took i item ∷ h) st = w_is ∙ ap (λ (y : QueueValue). let z : QueueValue = record { items = y.items ++ item ∷ []; capacity = y.capacity } in z) q_is ∙ sym (queued r.schedule h i item st kept.schedule kept.lawful taker has) in
    let done : AgreesWith r (Took i item ∷ h) (set states i (with_taken x item)) (set queues k w) = record {
      schedule = kept.schedule;
      limit = kept.limit;
      lawful = (kept.lawful, may);
      within = kept.within;
      states_are =
          ap (λ ys. set ys i (with_taken x item)) kept.states_are
          ∙ ap (set (map (state_of s h) (range_with_len 0 inputs)) i) (takes_one s h item i x is (same i))
          ∙ set_state (state_of s h) (state_of s (Took i item ∷ h)) inputs i l (λ j ne. takes_others s h item i j ne (same j));
      queues_are = ap (λ ys. set ys k w) kept.queues_are ∙ ap (set (map (queue_of s h) (all_streams r.schedule)) k) w' ∙ set_map_at (queue_of s h) (queue_of s (Took i item ∷ h)) (all_streams r.schedule) k st at (unqueued r.schedule h i item st k kept.schedule at taker);
    } in
    let P : List Event → Type 0 = λ es. IsKept r es (set states i (with_taken x item)) (set queues k w) buckets clock turn packets counts in
    subst P (sym e) (same_output whole (Took i item ∷ h) (set states i (with_taken x item)) (set queues k w) turn refl refl refl whole.turn_is done)

one_more_told : (n m : ℕ) → m ≡ n + 1 → min (told n + 1) 18446744073709551615 ≡ told m
one_more_told n m e = omega arith

late_one : (s : ScheduleValue) (h : List Event) (item : Stamped) (i : ℕ) (x : InputState) → x ≡ state_of s h i → dropped_of s i (Took i item ∷ h) ≡ dropped_of s i h + 1
    → with_late x item ≡ state_of s (Took i item ∷ h) i
late_one s h item i x is more =
    ap (λ (y : InputState). with_late y item) is
    ∙ ap (λ b. let x : InputState = record (with_late (state_of s h i) item) { last_stamp = cond b item.stamp (last_stamp i h) } in x) (sym (eq-eqb i i refl))
    ∙ ap (λ n. let x : InputState = record (state_of s h i) { last_stamp = last_stamp i (Took i item ∷ h); dropped = n } in x) (one_more_told (dropped_of s i h) (dropped_of s i (Took i item ∷ h)) more)

-- a packet is taken for a stream that isn't in force: it is dropped at once
pub dropping : {r : Run} {h : List Event} {states : List InputState} {queues : List QueueValue} {buckets : List BucketValue} {clock : ClockValue} {turn : TurnValue} {packets : List (List ℕ)} {counts : Counts}
    → IsKept r h states queues buckets clock turn packets counts → (after : List Event) (i : ℕ) (item : Stamped) (st : Stream) (x : InputState)
    → after ≡ Took i item ∷ h → x ≡ get_or states i x → st.input ≡ i → MayTake r.schedule h i item → IsTakenFor r.schedule h i item st → has_stream (plan_in_force r.schedule h) st ≡ false
    → IsKept r after (set states i (with_late x item)) queues buckets clock turn packets counts
dropping {r} {h} {states} {queues} {buckets} {clock} {turn} {packets} {counts} whole after i item st x e x_at input may taker without =
    let kept = whole.agrees in
    let s = r.schedule in
    let l = may.input in
    let inputs = input_count r.schedule in
    let late : (j : ℕ) → dropped_of r.schedule j (Took i item ∷ h) ≡ dropped_of r.schedule j h + cond (nat_eq st.input j) 1 0 = λ j. took_late s j i h item st kept.schedule kept.lawful taker without in
    let here : dropped_of r.schedule i (Took i item ∷ h) ≡ dropped_of r.schedule i h + 1 = late i ∙ ap (λ b. dropped_of s i h + cond b 1 0) (eq-eqb st.input i input) in
    let there : (j : ℕ) → j ≢ i → dropped_of r.schedule j (Took i item ∷ h) ≡ dropped_of r.schedule j h = λ j ne. late j ∙ ap (λ b. dropped_of s j h + cond b 1 0) (ne_eqb st.input j (λ same. ne (sym same ∙ input))) ∙ omega arith in
    let is : x ≡ state_of r.schedule h i = state_at kept i x l x_at in
    let done : AgreesWith r (Took i item ∷ h) (set states i (with_late x item)) queues = record {
      schedule = kept.schedule;
      limit = kept.limit;
      lawful = (kept.lawful, may);
      within = kept.within;
      states_are =
          ap (λ ys. set ys i (with_late x item)) kept.states_are
          ∙ ap (set (map (state_of s h) (range_with_len 0 inputs)) i) (late_one s h item i x is here)
          ∙ set_state (state_of s h) (state_of s (Took i item ∷ h)) inputs i l (λ j ne. takes_others s h item i j ne (there j ne));
      queues_are = kept.queues_are ∙ map_same_at (queue_of s h) (queue_of s (Took i item ∷ h)) (all_streams r.schedule) (late_queues s h i item st kept.schedule taker without);
    } in
    let P : List Event → Type 0 = λ es. IsKept r es (set states i (with_late x item)) queues buckets clock turn packets counts in
    subst P (sym e) (same_output whole (Took i item ∷ h) (set states i (with_late x item)) queues turn refl refl refl whole.turn_is done)
