-- The largest delay and the fullest queue of each stream, and what an event does to them.
use Rattle.std.proofs.Common.{ℕ, zero, suc, ◌+◌, ◌-◌, ◌<◌, ◌≤◌, ◌≡◌, ◌≢◌, Bool, true, false, cond, eq-eqb, List, [], ◌∷◌, ◌++◌, length, map, max, set, get_or, drop, refl, ap, ◌∙◌, sym, subst, arith, length-drop, Some, inl, inr, ◌⊎◌}
use Rattle.std.specs.List.{slice_get, Contains}
use Rattle.std.proofs.lemmas.Bool.{ne_eqb, cases_lt, cases_Bool}
use Rattle.std.proofs.lemmas.List.{length-map, get_or-map}
use Rattle.std.proofs.lemmas.Option.{slice_get_within, get_or_from_slice_get}
use Rattle.tspkt.specs.declared.stamped.Stamped.{Stamped}
use Rattle.request.specs.declared.stream.Stream.{Stream}
use Rattle.buffers.specs.QueueValue.{QueueValue}
use Rattle.schedule.specs.Schedule.{ScheduleValue, plan_at, slot_time}
use Rattle.rounds.specs.declared.table_place.TablePlace.{TablePlace}
use Rattle.mux.specs.declared.content.Content.TheVariants.{Null, Elementary, Table}
use Rattle.mux.specs.declared.event.Event.{Event}
use Rattle.mux.specs.declared.event.Event.TheVariants.{Took, Full, Early, Close, Slot, Switch}
use Rattle.mux.specs.declared.peak.Peak.{Peak}
use Rattle.schedule.specs.Laws.{IsMultiplexSchedule}
use Rattle.mux.specs.History.{has_stream, plan_in_force, taken_for, sent, queue, slots, is_of_stream}
use Rattle.mux.specs.Lawful.{IsLawful, MaySwitch}
use Rattle.mux.specs.Keeping.{queue_of, largest, peak_of, no_peak, KeepsPeaks}
use Rattle.mux.specs.Peaks.{queue_lengths, delay_in, delays, IsLargest, IsPeak}
use Rattle.mux.proofs.Lists.{map_same_at, set_map_at}
use Rattle.mux.proofs.Plans.{IsAt, one_out}
use Rattle.mux.proofs.Refusals.{IsTakenFor}
use Rattle.mux.proofs.Queues.{nothing_queued, queued, unqueued, late_queues, unsent_queue, kept_queue, gone_queue}
use Rattle.schedule.specs.Streams.{all_streams}

-- The largest of some numbers.

bounds : (ns : List ℕ) (k : ℕ) (d : ℕ) → k < length ns → get_or ns k d ≤ largest ns
bounds [] k d l = absurd (omega arith)
bounds (n ∷ ns) zero d l = omega arith
bounds (n ∷ ns) (suc k) d l = omega (arith, bounds ns k d (omega arith))

attains : (ns : List ℕ) → Contains ns (largest ns) ⊎ ((ns ≡ []) × (largest ns ≡ 0))
attains [] = inr (refl, refl)
attains (n ∷ ns) =
    let P : ℕ → Type 0 = Contains (n ∷ ns) in
    elim (cases_lt n (largest ns)) [
      | inl below ↦
          (let rest : largest ns ≡ max (largest ns) n = omega arith in
          elim (attains ns) [
            | inl found ↦ inl (subst P rest (suc found.0, omega (arith, found.1), found.2))
            | inr none ↦ absurd (omega (arith, none.1))
          ])
      | inr above ↦ (let first : n ≡ max (largest ns) n = omega arith in inl (subst P first (0, omega arith, refl)))
    ]

pub largest_is : (ns : List ℕ) → IsLargest ns (largest ns)
largest_is ns = record { bound = bounds ns; attained = attains ns }

-- what is kept of a stream is its peak
pub peak_is : (s : ScheduleValue) (h : List Event) (st : Stream) (x : Peak) → x ≡ peak_of s h st → IsPeak s h st x
peak_is s h st x is =
    let P : Peak → Type 0 = IsPeak s h st in
    subst P (sym is) (record { delay = largest_is (delays s st h); queued = largest_is (queue_lengths s st h) })

-- the peak that is kept of a stream
pub peak_at : {s : ScheduleValue} {h : List Event} {peaks : List Peak} → KeepsPeaks s h peaks → (k : ℕ) (st : Stream) (x : Peak) → IsAt s k st → x ≡ get_or peaks k x → x ≡ peak_of s h st
peak_at {s} {h} kept k st x at is =
    let within = slice_get_within (all_streams s) k st at in
    is ∙ ap (λ ys. get_or ys k x) kept.peaks_are ∙ get_or-map (peak_of s h) (all_streams s) k st x within ∙ ap (peak_of s h) (get_or_from_slice_get (all_streams s) k st st at)

pub length_peaks : {s : ScheduleValue} {h : List Event} {peaks : List Peak} → KeepsPeaks s h peaks → length peaks ≡ length (all_streams s)
length_peaks {s} {h} kept = ap length kept.peaks_are ∙ length-map (all_streams s) (peak_of s h)

-- Events.

-- what waits is no more than ever waited
waits_within : (s : ScheduleValue) (st : Stream) (h : List Event) → length (queue s st h) ≤ largest (queue_lengths s st h)
waits_within s st [] = omega (arith, ap length (nothing_queued s st))
waits_within s st (e ∷ h) = omega arith

-- where no more waits than before
no_fuller : (s : ScheduleValue) (st : Stream) (e : Event) (h : List Event) → length (queue s st (e ∷ h)) ≤ length (queue s st h) → largest (queue_lengths s st (e ∷ h)) ≡ largest (queue_lengths s st h)
no_fuller s st e h l = let most = waits_within s st h in omega arith

-- and nothing of the stream went out
same_peak : (s : ScheduleValue) (e : Event) (h : List Event) (st : Stream) → length (queue s st (e ∷ h)) ≤ length (queue s st h) → delays s st (e ∷ h) ≡ delays s st h → peak_of s h st ≡ peak_of s (e ∷ h) st
same_peak s e h st l same =
    ap (λ n. let x : Peak = record { delay = largest (delays s st h); queued = n } in x) (sym (no_fuller s st e h l))
    ∙ ap (λ ns. let x : Peak = record { delay = largest ns; queued = largest (queue_lengths s st (e ∷ h)) } in x) (sym same)

-- at the opening
pub peaks_none : (s : ScheduleValue) (h : List Event) (peaks : List Peak) → h ≡ [] → peaks ≡ map no_peak (all_streams s) → KeepsPeaks s h peaks
peaks_none s h peaks none are = record { peaks_are = are ∙ ap (λ es. map (peak_of s es) (all_streams s)) (sym none) }

-- an event that makes no queue longer, and sends nothing
fewer_peaks : {s : ScheduleValue} {h : List Event} {peaks : List Peak} → KeepsPeaks s h peaks → (e : Event) (after : List Event) → after ≡ e ∷ h
    → ((k : ℕ) (st : Stream) → IsAt s k st → length (queue s st (e ∷ h)) ≤ length (queue s st h)) → ((st : Stream) → delays s st (e ∷ h) ≡ delays s st h)
    → KeepsPeaks s after peaks
fewer_peaks {s} {h} kept e after is queues late = record {
  peaks_are =
      kept.peaks_are
      ∙ map_same_at (peak_of s h) (peak_of s (e ∷ h)) (all_streams s) (λ j st at. same_peak s e h st (queues j st at) (late st))
      ∙ ap (λ es. map (peak_of s es) (all_streams s)) (sym is);
}

-- an event that changes no queue
same_peaks : {s : ScheduleValue} {h : List Event} {peaks : List Peak} → KeepsPeaks s h peaks → (e : Event) (after : List Event) → after ≡ e ∷ h
    → ((st : Stream) → queue s st (e ∷ h) ≡ queue s st h) → ((st : Stream) → delays s st (e ∷ h) ≡ delays s st h)
    → KeepsPeaks s after peaks
same_peaks kept e after is queues late = fewer_peaks kept e after is (λ k st at. omega (arith, ap length (queues st))) late

pub peaks_close : {s : ScheduleValue} {h : List Event} {peaks : List Peak} → KeepsPeaks s h peaks → (after : List Event) (i : ℕ) → after ≡ Close i ∷ h → KeepsPeaks s after peaks
peaks_close kept after i is = same_peaks kept (Close i) after is (λ st. refl) (λ st. refl)

pub peaks_full : {s : ScheduleValue} {h : List Event} {peaks : List Peak} → KeepsPeaks s h peaks → (after : List Event) (i : ℕ) (su : Stream) → after ≡ Full i su ∷ h → KeepsPeaks s after peaks
peaks_full kept after i su is = same_peaks kept (Full i su) after is (λ st. refl) (λ st. refl)

pub peaks_early : {s : ScheduleValue} {h : List Event} {peaks : List Peak} → KeepsPeaks s h peaks → (after : List Event) (i : ℕ) → after ≡ Early i ∷ h → KeepsPeaks s after peaks
peaks_early kept after i is = same_peaks kept (Early i) after is (λ st. refl) (λ st. refl)

pub peaks_null : {s : ScheduleValue} {h : List Event} {peaks : List Peak} → KeepsPeaks s h peaks → (after : List Event) → after ≡ Slot Null ∷ h → KeepsPeaks s after peaks
peaks_null kept after is = same_peaks kept (Slot Null) after is (λ st. refl) (λ st. refl)

pub peaks_table : {s : ScheduleValue} {h : List Event} {peaks : List Peak} → KeepsPeaks s h peaks → (after : List Event) (place : TablePlace) → after ≡ Slot (Table place) ∷ h → KeepsPeaks s after peaks
peaks_table kept after place is = same_peaks kept (Slot (Table place)) after is (λ st. refl) (λ st. refl)

-- a packet is taken for a stream that isn't in force
pub peaks_late : {s : ScheduleValue} {h : List Event} {peaks : List Peak} → KeepsPeaks s h peaks → (after : List Event) (i : ℕ) (item : Stamped) (su : Stream) → IsMultiplexSchedule s
    → after ≡ Took i item ∷ h → IsTakenFor s h i item su → has_stream (plan_in_force s h) su ≡ false → KeepsPeaks s after peaks
peaks_late {s} {h} kept after i item su ok is taker without =
    fewer_peaks kept (Took i item) after is
    (λ k st at. omega (arith, ap (λ (q : QueueValue). length q.items) (late_queues s h i item su ok taker without k st at))) (λ st. refl)

-- the next plan comes into force: a queue stays, or is emptied
pub peaks_switching : {s : ScheduleValue} {h : List Event} {peaks : List Peak} → KeepsPeaks s h peaks → (after : List Event) (number : ℕ) → IsMultiplexSchedule s → IsLawful s h
    → after ≡ Switch number ∷ h → MaySwitch s h number → KeepsPeaks s after peaks
peaks_switching {s} {h} kept after number ok law is may =
    fewer_peaks kept (Switch number) after is
    (λ k st at.
    elim (cases_Bool (has_stream (plan_at s number) st)) [
      | inl has ↦ omega (arith, ap length (kept_queue s k st h number ok (law, may) at has))
      | inr goes ↦ omega (arith, ap length (gone_queue s st h number goes))
    ]) (λ st. refl)

-- a packet is taken for a stream in force
pub peaks_taking : {s : ScheduleValue} {h : List Event} {peaks : List Peak} → KeepsPeaks s h peaks → (after : List Event) (i : ℕ) (item : Stamped) (k : ℕ) (st : Stream) (x : Peak) (q w : QueueValue) (most : ℕ)
    → IsMultiplexSchedule s → IsLawful s h → after ≡ Took i item ∷ h → x ≡ get_or peaks k x → IsAt s k st
    → q ≡ queue_of s h st → w ≡ record { items = q.items ++ item ∷ []; capacity = q.capacity } → IsTakenFor s h i item st → has_stream (plan_in_force s h) st ≡ true
    → most ≡ max x.queued (length w.items) → KeepsPeaks s after (set peaks k (record x { queued = most }))
peaks_taking {s} {h} kept after i item k st x q w most plan law is x_at at q_is w_is taker has most_is =
    let capacity = s.first.request.queue in
    let took : List Event = Took i item ∷ h in
    let w' : w ≡ queue_of s took st = w_is ∙ ap (λ (y : QueueValue). let z : QueueValue = record { items = y.items ++ item ∷ []; capacity = y.capacity } in z) q_is ∙ sym (queued s h i item st plan law taker has) in
    let now : record x { queued = most } ≡ peak_of s took st =
    ap (λ n. let z : Peak = record x { queued = n } in z) most_is
    ∙ ap (λ (y : Peak). record y { queued = max y.queued (length w.items) }) (peak_at kept k st x at x_at)
    ∙ ap (λ (y : QueueValue). let z : Peak = record { delay = largest (delays s st h); queued = max (largest (queue_lengths s st h)) (length y.items) } in z) w' in
    let others : (j : ℕ) (other : Stream) → j ≢ k → IsAt s j other → peak_of s h other ≡ peak_of s took other = λ j other ne there.
    same_peak s (Took i item) h other (omega (arith, ap (λ (y : QueueValue). length y.items) (unqueued s h i item st k plan at taker j other ne there))) refl in
    record {
      peaks_are =
          ap (λ ys. set ys k (record x { queued = most })) kept.peaks_are
          ∙ ap (set (map (peak_of s h) (all_streams s)) k) now
          ∙ set_map_at (peak_of s h) (peak_of s took) (all_streams s) k st at others
          ∙ ap (λ es. map (peak_of s es) (all_streams s)) (sym is);
    }

-- no more waits where a packet went out, of this stream or not
shorter : (s : ScheduleValue) (st : Stream) (h : List Event) (went in_force : Bool)
    → length (cond in_force (drop (cond went (sent st h + 1) (sent st h)) (taken_for s st h)) []) ≤ length (cond in_force (drop (sent st h) (taken_for s st h)) [])
shorter s st h true true = omega (arith, length-drop (sent st h + 1) (taken_for s st h), length-drop (sent st h) (taken_for s st h))
shorter s st h false true = omega arith
shorter s st h true false = omega arith
shorter s st h false false = omega arith

-- the head of a stream's queue is sent
pub peaks_sending : {s : ScheduleValue} {h : List Event} {peaks : List Peak} → KeepsPeaks s h peaks → (after : List Event) (item : Stamped) (k : ℕ) (st : Stream) (x : Peak) (q : QueueValue) (now most : ℕ)
    → IsMultiplexSchedule s → after ≡ Slot (Elementary st) ∷ h → x ≡ get_or peaks k x → IsAt s k st
    → q ≡ queue_of s h st → slice_get q.items 0 ≡ Some item → now ≡ slot_time s.first (slots h)
    → most ≡ max x.delay (now - item.stamp) → KeepsPeaks s after (set peaks k (record x { delay = most }))
peaks_sending {s} {h} kept after item k st x q now most plan is x_at at q_is head time most_is =
    let went : List Event = Slot (Elementary st) ∷ h in
    let late : now - item.stamp ≡ delay_in s (slots h) (slice_get (queue s st h) 0) =
    ap (λ m. m - item.stamp) time ∙ ap (delay_in s (slots h)) (sym (sym (ap (λ (y : QueueValue). slice_get y.items 0) q_is) ∙ head)) in
    let itself : is_of_stream st (Elementary st) ≡ true = eq-eqb st.output_pid st.output_pid refl in
    let all : (b : Bool) → List ℕ = λ b. cond b (delay_in s (slots h) (slice_get (queue s st h) 0) ∷ delays s st h) (delays s st h) in
    let fewer : length (queue s st went) ≤ length (queue s st h) = shorter s st h (is_of_stream st (Elementary st)) (has_stream (plan_in_force s h) st) in
    let here : record x { delay = most } ≡ peak_of s went st =
    ap (λ n. let z : Peak = record x { delay = n } in z) most_is
    ∙ ap (λ (y : Peak). record y { delay = max y.delay (now - item.stamp) }) (peak_at kept k st x at x_at)
    ∙ ap (λ n. let z : Peak = record { delay = max (largest (delays s st h)) n; queued = largest (queue_lengths s st h) } in z) late
    ∙ ap (λ b. let z : Peak = record { delay = largest (all b); queued = largest (queue_lengths s st h) } in z) (sym itself)
    ∙ ap (λ n. let z : Peak = record { delay = largest (delays s st went); queued = n } in z) (sym (no_fuller s st (Slot (Elementary st)) h fewer)) in
    let others : (j : ℕ) (other : Stream) → j ≢ k → IsAt s j other → peak_of s h other ≡ peak_of s went other = λ j other ne there.
    let not_its : is_of_stream other (Elementary st) ≡ false = ne_eqb st.output_pid other.output_pid (λ same. ne (one_out s j k other st plan there at (sym same))) in
    same_peak s (Slot (Elementary st)) h other (omega (arith, ap (λ (y : QueueValue). length y.items) (unsent_queue s h st k plan at j other ne there)))
    (ap (λ b. cond b (delay_in s (slots h) (slice_get (queue s other h) 0) ∷ delays s other h) (delays s other h)) not_its) in
    record {
      peaks_are =
          ap (λ ys. set ys k (record x { delay = most })) kept.peaks_are
          ∙ ap (set (map (peak_of s h) (all_streams s)) k) here
          ∙ set_map_at (peak_of s h) (peak_of s went) (all_streams s) k st at others
          ∙ ap (λ es. map (peak_of s es) (all_streams s)) (sym is);
    }
