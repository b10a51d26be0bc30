-- What a multiplex keeps, after a switch.
use Rattle.std.proofs.Common.{ℕ, Bool, zero, suc, ◌+◌, ◌-◌, ◌<◌, ◌≡◌, ◌≢◌, true, false, eq-eqb, cond, List, [], ◌∷◌, length, map, set, get_or, refl, ap, ◌∙◌, sym, subst, arith, Some, inl, inr, nat_eq}
use Rattle.std.specs.List.{slice_get, range_with_len}
use Rattle.std.proofs.lemmas.Simd.{map-map}
use Rattle.std.proofs.lemmas.List.FromFn.{get_or-map-range_with_len}
use Rattle.std.proofs.lemmas.Bool.{ne_eqb, cases_Bool, cases_lt}
use Rattle.std.proofs.lemmas.List.{get_or_past}
use Rattle.std.specs.Bool.{if◌then◌else◌}
use Rattle.std.specs.Prelude.{sum_by, All}
use Rattle.std.proofs.lemmas.List.Sums.{sum_by-cons}
use Rattle.std.proofs.lemmas.Option.{slice_get-get_or}
use Rattle.tspkt.specs.declared.stamped.Stamped.{Stamped}
use Rattle.request.specs.declared.stream.Stream.{Stream}
use Rattle.mux.specs.declared.event.Event.{Event}
use Rattle.mux.specs.declared.event.Event.TheVariants.{Switch}
use Rattle.mux.specs.declared.input_state.InputState.{InputState}
use Rattle.buffers.specs.QueueValue.{QueueValue}
use Rattle.buffers.specs.BucketValue.{BucketValue}
use Rattle.rounds.specs.Turn.{TurnValue}
use Rattle.schedule.specs.Laws.{IsMultiplexSchedule}
use Rattle.mux.specs.SlotClock.{ClockValue}
use Rattle.mux.specs.History.{Run, in_force, has_stream, slots, last_stamp, full_noted, early_noted}
use Rattle.mux.specs.declared.counts.Counts.{Counts}
use Rattle.mux.specs.Totals.{dropped_of, told}
use Rattle.mux.specs.Lawful.{IsLawful, MaySwitch, input_count}
use Rattle.mux.specs.Keeping.{AgreesWith, IsKept, state_of, queue_of, turn_of, without_notes}
use Rattle.mux.proofs.Plans.{IsAt}
use Rattle.mux.proofs.Queues.{kept_queue, gone_queue}
use Rattle.mux.proofs.Counting.{leaves, switch_drops}
use Rattle.mux.proofs.Force.{due_is}
use Rattle.mux.proofs.Plans.{stream_in}
use Rattle.mux.specs.Switching.{after_switch, add_dropped, with_dropped}
use Rattle.plan.specs.Build.{PlanValue}
use Rattle.emission.specs.Spans.{slot_in_span}
use Rattle.schedule.specs.Schedule.{ScheduleValue, span_at, plan_at}
use Rattle.schedule.specs.Streams.{all_streams}
use Rattle.mux.specs.Keeping.{KeepsNoted}
use Rattle.mux.proofs.Noted.{IsUnnoted}
use Rattle.std.proofs.lemmas.List.Elements.{All-set}
use Rattle.mux.proofs.Steps.{set_state, each_state, same_output}

slot_first : (from m : ℕ) → from ≡ m → slot_in_span from m ≡ 0
slot_first zero m e = omega arith
slot_first (suc from) m e = omega arith

-- the rounds of the next plan begin
turn_anew : (s : ScheduleValue) (h : List Event) (number : ℕ) → MaySwitch s h number → record { rounds = (plan_at s number).rounds; slot = 0 } ≡ turn_of s (Switch number ∷ h)
turn_anew s h number may =
    let due = due_is s h may.due in
    let next : number ≡ in_force h + 1 = may.next in
    let from : (span_at s number).slot ≡ slots h = ap (λ n. (span_at s n).slot) next ∙ due.1 in
    ap (λ m. let x : TurnValue = record { rounds = (plan_at s number).rounds; slot = m } in x) (sym (slot_first (span_at s number).slot (slots h) from))

-- The queues.

empties : (p : PlanValue) (f g : Stream → QueueValue) (xs : List Stream)
    → ((k : ℕ) (st : Stream) → slice_get xs k ≡ Some st → (if has_stream p st then f st else record { items = []; capacity = (f st).capacity }) ≡ g st)
    → after_switch p xs (map f xs) ≡ map g xs
empties p f g [] each = refl
empties p f g (x ∷ xs) each = ap (λ q. q ∷ after_switch p xs (map f xs)) (each 0 x refl) ∙ ap (λ qs. g x ∷ qs) (empties p f g xs (λ k st at. each (suc k) st at))

kept_or_empty : (s : ScheduleValue) (h : List Event) (number k : ℕ) (st : Stream) → IsMultiplexSchedule s → IsLawful s (Switch number ∷ h) → IsAt s k st
    → (if has_stream (plan_at s number) st then queue_of s h st else record { items = []; capacity = s.first.request.queue }) ≡ queue_of s (Switch number ∷ h) st
kept_or_empty s h number k st ok law at =
    let of : List Stamped → QueueValue = λ xs. record { items = xs; capacity = s.first.request.queue } in
    let P : Bool → Type 0 = λ b. (if b then queue_of s h st else record { items = []; capacity = s.first.request.queue }) ≡ queue_of s (Switch number ∷ h) st in
    elim (cases_Bool (has_stream (plan_at s number) st)) [
      | inl has ↦ subst P (sym has) (ap of (sym (kept_queue s k st h number ok law at has)))
      | inr goes ↦ subst P (sym goes) (ap of (sym (gone_queue s st h number goes)))
    ]

queues_switched : (s : ScheduleValue) (h : List Event) (number : ℕ) → IsMultiplexSchedule s → IsLawful s (Switch number ∷ h)
    → after_switch (plan_at s number) (all_streams s) (map (queue_of s h) (all_streams s)) ≡ map (queue_of s (Switch number ∷ h)) (all_streams s)
queues_switched s h number ok law =
    empties (plan_at s number) (queue_of s h) (queue_of s (Switch number ∷ h)) (all_streams s) (λ k st at. kept_or_empty s h number k st ok law at)

-- The inputs.

no_more : (b : Bool) → ◌≡◌ {A = ℕ} (cond b 0 0) 0
no_more true = refl
no_more false = refl

-- the state of an input of which so many were dropped
abbrev dropping_so_many : (ℕ → InputState) → (ℕ → ℕ) → ℕ → InputState
dropping_so_many f d j = record (f j) { dropped = told (d j) }

told_again : (a m : ℕ) → told (told a + m) ≡ told (a + m)
told_again a m = omega arith

more_dropped : (f : ℕ → InputState) (d : ℕ → ℕ) (n i m : ℕ) → i < n
    → add_dropped i m (map (dropping_so_many f d) (range_with_len 0 n)) ≡ map (dropping_so_many f (λ j. d j + cond (nat_eq i j) m 0)) (range_with_len 0 n)
more_dropped f d n i m l =
    let before : ℕ → InputState = dropping_so_many f d in
    let after : ℕ → InputState = dropping_so_many f (λ j. d j + cond (nat_eq i j) m 0) in
    let states = map before (range_with_len 0 n) in
    let none : InputState = record { closed = false; last_stamp = 0; full_noted = false; early_noted = false; sent = 0; dropped = 0 } in
    let at : get_or states i none ≡ before i = get_or-map-range_with_len before 0 n i i none l (omega arith) in
    let here : record (before i) { dropped = told ((before i).dropped + m) } ≡ after i =
    ap (λ k. let x : InputState = record (f i) { dropped = k } in x) (told_again (d i) m)
    ∙ ap (λ b. let x : InputState = record (f i) { dropped = told (d i + cond b m 0) } in x) (sym (eq-eqb i i refl)) in
    let there : (j : ℕ) → j ≢ i → before j ≡ after j = λ j ne.
    let zero_more : d j ≡ d j + 0 = omega arith in
    ap (λ k. let x : InputState = record (f j) { dropped = told k } in x) zero_more
    ∙ ap (λ b. let x : InputState = record (f j) { dropped = told (d j + cond b m 0) } in x) (sym (ne_eqb i j (λ same. ne (sym same)))) in
    ap (λ (x : InputState). set states i (record x { dropped = told (x.dropped + m) })) at
    ∙ ap (set states i) here ∙ set_state before after n i l there

all_told : (p : PlanValue) (f : ℕ → InputState) (queue_for : Stream → QueueValue) (n : ℕ) (xs : List Stream) (d : ℕ → ℕ) → All (λ (st : Stream). st.input < n) xs
    → with_dropped p xs (map queue_for xs) (map (dropping_so_many f d) (range_with_len 0 n))
    ≡ map (dropping_so_many f (λ j. d j + sum_by (leaves p queue_for j) xs)) (range_with_len 0 n)
all_told p f queue_for n [] d all =
    each_state (dropping_so_many f d) (dropping_so_many f (λ j. d j + 0)) n (λ j l.
    let zero_more : d j ≡ d j + 0 = omega arith in
    ap (λ k. let x : InputState = record (f j) { dropped = told k } in x) zero_more)
all_told p f queue_for n (x ∷ xs) d all =
    let m = length (queue_for x).items in
    let states = map (dropping_so_many f d) (range_with_len 0 n) in
    let rest : All (λ (st : Stream). st.input < n) xs = λ k e l. all (suc k) e (omega arith) in
    let here : ℕ → ℕ = λ j. leaves p queue_for j x in
    let whole : (e : ℕ → ℕ) → ((j : ℕ) → e j ≡ d j + here j) → map (dropping_so_many f (λ j. e j + sum_by (leaves p queue_for j) xs)) (range_with_len 0 n)
    ≡ map (dropping_so_many f (λ j. d j + sum_by (leaves p queue_for j) (x ∷ xs))) (range_with_len 0 n) = λ e each.
    each_state (dropping_so_many f (λ j. e j + sum_by (leaves p queue_for j) xs)) (dropping_so_many f (λ j. d j + sum_by (leaves p queue_for j) (x ∷ xs))) n (λ j l.
    let is : e j + sum_by (leaves p queue_for j) xs ≡ d j + sum_by (leaves p queue_for j) (x ∷ xs) = omega (arith, each j, sum_by-cons (leaves p queue_for j) x xs) in
    ap (λ k. let y : InputState = record (f j) { dropped = told k } in y) is) in
    elim (cases_Bool (has_stream p x)) [
      | inl has ↦
          ap (λ b. with_dropped p xs (map queue_for xs) (cond b states (add_dropped x.input m states))) has
          ∙ all_told p f queue_for n xs d rest
          ∙ whole d (λ j. let none : cond (nat_eq x.input j) (cond (has_stream p x) 0 m) 0 ≡ 0 = ap (λ b. cond (nat_eq x.input j) (cond b 0 m) 0) has ∙ no_more (nat_eq x.input j) in omega (arith, none))
      | inr goes ↦
          let more : ℕ → ℕ = λ j. d j + cond (nat_eq x.input j) m 0 in
          ap (λ b. with_dropped p xs (map queue_for xs) (cond b states (add_dropped x.input m states))) goes
          ∙ ap (with_dropped p xs (map queue_for xs)) (more_dropped f d n x.input m (all 0 x (omega arith)))
          ∙ all_told p f queue_for n xs more rest
          ∙ whole more (λ j. ap (λ b. d j + cond (nat_eq x.input j) (cond b 0 m) 0) (sym goes))
    ]

states_switched : (s : ScheduleValue) (h : List Event) (number : ℕ) → IsMultiplexSchedule s → IsLawful s (Switch number ∷ h)
    → map without_notes (with_dropped (plan_at s number) (all_streams s) (map (queue_of s h) (all_streams s)) (map (state_of s h) (range_with_len 0 (input_count s))))
    ≡ map (state_of s (Switch number ∷ h)) (range_with_len 0 (input_count s))
states_switched s h number ok law =
    let p = plan_at s number in
    let n = input_count s in
    let inputs : All (λ (st : Stream). st.input < n) (all_streams s) = λ k d l. (stream_in s k (get_or (all_streams s) k d) ok (slice_get-get_or (all_streams s) k d l)).input in
    let told_all = all_told p (state_of s h) (queue_of s h) n (all_streams s) (λ j. dropped_of s j h) inputs in
    let now : ℕ → InputState = dropping_so_many (state_of s h) (λ j. dropped_of s j h + sum_by (leaves p (queue_of s h) j) (all_streams s)) in
    ap (map without_notes) told_all
    ∙ map-map without_notes now (range_with_len 0 n)
    ∙ each_state (λ j. without_notes (now j)) (state_of s (Switch number ∷ h)) n (λ j l.
    ap (λ k. let x : InputState = record (state_of s h j) { full_noted = false; early_noted = false; dropped = told k } in x) (sym (switch_drops s j h number ok law)))

-- the next plan comes into force
pub switching : {r : Run} {h : List Event} {states : List InputState} {queues : List QueueValue} {buckets : List BucketValue} {clock : ClockValue} {turn : TurnValue} {packets : List (List ℕ)} {counts : Counts}
    → IsKept r h states queues buckets clock turn packets counts → (after : List Event) (number : ℕ) (now_states : List InputState) (now_queues : List QueueValue) (now_turn : TurnValue)
    → after ≡ Switch number ∷ h → now_states ≡ map without_notes (with_dropped (plan_at r.schedule number) (all_streams r.schedule) queues states)
    → now_queues ≡ after_switch (plan_at r.schedule number) (all_streams r.schedule) queues → now_turn ≡ record { rounds = (plan_at r.schedule number).rounds; slot = 0 }
    → MaySwitch r.schedule h number
    → IsKept r after now_states now_queues buckets clock now_turn packets counts
switching {r} {h} {states} {queues} {buckets} {clock} {turn} {packets} {counts} kept after number now_states now_queues now_turn e states_are queues_are turn_is may =
    let k = kept.agrees in
    let s = r.schedule in
    let law : IsLawful r.schedule (Switch number ∷ h) = (k.lawful, may) in
    let done : AgreesWith r (Switch number ∷ h) now_states now_queues = record {
      schedule = k.schedule;
      limit = k.limit;
      lawful = law;
      within = k.within;
      states_are =
          states_are
          ∙ ap (λ qs. map without_notes (with_dropped (plan_at s number) (all_streams s) qs states)) k.queues_are
          ∙ ap (λ xs. map without_notes (with_dropped (plan_at s number) (all_streams s) (map (queue_of s h) (all_streams s)) xs)) k.states_are
          ∙ states_switched s h number k.schedule law;
      queues_are = queues_are ∙ ap (after_switch (plan_at s number) (all_streams s)) k.queues_are ∙ queues_switched s h number k.schedule law;
    } in
    let P : List Event → Type 0 = λ es. IsKept r es now_states now_queues buckets clock now_turn packets counts in
    subst P (sym e) (same_output kept (Switch number ∷ h) now_states now_queues now_turn refl refl refl (turn_is ∙ turn_anew s h number may) done)

-- What was noted stays so long.

unnoted_set : (i m : ℕ) (xs : List InputState) → All IsUnnoted xs → All IsUnnoted (add_dropped i m xs)
unnoted_set i m xs all =
    let none : InputState = record { closed = false; last_stamp = 0; full_noted = false; early_noted = false; sent = 0; dropped = 0 } in
    let x = get_or xs i none in
    let here : IsUnnoted x = elim (cases_lt i (length xs)) [
      | inl l ↦ all i none l
      | inr above ↦ subst IsUnnoted (sym (get_or_past xs i none above)) (refl, refl)
    ] in
    All-set IsUnnoted xs i (record x { dropped = told (x.dropped + m) }) here all

unnoted_all : (p : PlanValue) (streams : List Stream) (queues : List QueueValue) (xs : List InputState) → All IsUnnoted xs → All IsUnnoted (with_dropped p streams queues xs)
unnoted_all p [] queues xs all = all
unnoted_all p (st ∷ streams) [] xs all = all
unnoted_all p (st ∷ streams) (q ∷ queues) xs all =
    elim (cases_Bool (has_stream p st)) [
      | inl has ↦ rw has (unnoted_all p streams queues xs all)
      | inr goes ↦ rw goes (unnoted_all p streams queues (add_dropped st.input (length q.items) xs) (unnoted_set st.input (length q.items) xs all))
    ]

pub noted_dropped : {is_noted : Bool} {xs : List InputState} → KeepsNoted is_noted xs → (p : PlanValue) (streams : List Stream) (queues : List QueueValue) (ys : List InputState)
    → ys ≡ with_dropped p streams queues xs → KeepsNoted is_noted ys
noted_dropped {is_noted} {xs} kept p streams queues ys is =
    let P : List InputState → Type 0 = All IsUnnoted in
    record { unnoted = λ e. subst P (sym is) (unnoted_all p streams queues xs (kept.unnoted e)) }
