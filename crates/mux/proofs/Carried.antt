-- Which item of a stream each slot carried.
use Rattle.std.proofs.Common.{ℕ, zero, suc, ◌-◌, ◌≤◌, ◌≡◌, Bool, true, false, cond, List, [], ◌∷◌, ◌++◌, length, drop, take, Some, refl, ap, ◌∙◌, sym, subst, arith, inl, inr, length-append}
use Rattle.std.specs.List.{slice_get}
use Rattle.std.proofs.lemmas.List.{take-append-le, take_at, append-nil}
use Rattle.std.proofs.lemmas.Option.{same_Some, slice_get_within}
use Rattle.std.proofs.lemmas.Bool.{cases_Bool, cases_lt}
use Rattle.tspkt.specs.Packet.{pid_of, pcr_of}
use Rattle.tspkt.specs.Rewritten.{rewritten}
use Rattle.tspkt.specs.declared.stamped.Stamped.{Stamped}
use Rattle.tspkt.proofs.RewrittenLaws.{pcr_of-rewritten}
use Rattle.tspkt.proofs.CounterLaws.{AreRewritten}
use Rattle.request.specs.declared.stream.Stream.{Stream}
use Rattle.schedule.specs.Schedule.{ScheduleValue, slot_time}
use Rattle.emission.specs.Emission.{of_pid}
use Rattle.mux.specs.declared.content.Content.{Content}
use Rattle.mux.specs.declared.content.Content.TheVariants.{Null, Elementary, Table}
use Rattle.mux.specs.declared.event.Event.{Event}
use Rattle.mux.specs.declared.event.Event.TheVariants.{Took, Full, Early, Close, Slot, Switch}
use Rattle.schedule.specs.Laws.{IsMultiplexSchedule}
use Rattle.mux.specs.History.{has_stream, plan_in_force, is_mapped_to, taken_for, sent, unsent, queue, emitted, packet_behind}
use Rattle.mux.specs.Lawful.{IsLawful, IsContent}
use Rattle.mux.specs.Headline.{PcrsAreLater, EmittedThenDroppedThenQueued}
use Rattle.mux.proofs.Contents.{stream_choice}
use Rattle.emission.proofs.RecurrenceLaws.{last_behind}
use Rattle.mux.proofs.Emitted.{length-emitted, before_end}
use Rattle.mux.proofs.Plans.{IsAt, Has, same_stream, all_at}
use Rattle.mux.proofs.Force.{has_in_force}
use Rattle.mux.proofs.Queues.{head_in_force, sent_within}
use Rattle.mux.proofs.Outputs.{sent_moved, packets_of}
use Rattle.mux.proofs.StreamPackets.{IsItemOf, items_taken, out_below, packet_is, moved_to, null_apart, table_apart}

-- As many packets of a stream went out as are counted as sent.

as_many : (from to : ℕ) (ps qs : List (List ℕ)) → AreRewritten from to ps qs → length qs ≡ length ps
as_many from to [] [] all = refl
as_many from to [] (q ∷ qs) all = absurd all
as_many from to (s ∷ ps) [] all = absurd all
as_many from to (s ∷ ps) (q ∷ qs) all = ap suc (as_many from to ps qs all.1)

length-packets : (xs : List Stamped) → length (packets_of xs) ≡ length xs
length-packets [] = refl
length-packets (x ∷ xs) = ap suc (length-packets xs)

length-front : (n : ℕ) (xs : List Stamped) → n ≤ length xs → length (take n xs) ≡ n
length-front zero [] l = refl
length-front zero (x ∷ xs) l = refl
length-front (suc n) [] l = absurd (omega (arith, l))
length-front (suc n) (x ∷ xs) l = ap suc (length-front n xs (omega (arith, l)))

sent_count : (s : ScheduleValue) (h : List Event) (k : ℕ) (st : Stream) → IsMultiplexSchedule s → IsLawful s h → IsAt s k st → length (of_pid st.output_pid (emitted s h)) ≡ sent st h
sent_count s h k st plan law at =
    as_many st.pid st.output_pid (packets_of (take (sent st h) (taken_for s st h))) (of_pid st.output_pid (emitted s h)) (sent_moved s h k st plan law at)
    ∙ length-packets (take (sent st h) (taken_for s st h)) ∙ length-front (sent st h) (taken_for s st h) (sent_within s h k st plan law at)

-- The item of a slot.

get-drop : (n : ℕ) (xs : List Stamped) (x : Stamped) → slice_get (drop n xs) 0 ≡ Some x → slice_get xs n ≡ Some x
get-drop zero [] x e = cc
get-drop zero (y ∷ xs) x e = e
get-drop (suc n) [] x e = cc
get-drop (suc n) (y ∷ xs) x e = get-drop n xs x e

-- the packet q of slot m is the item's that stands behind as many others as these packets have of the stream
record IsFrom (s : ScheduleValue) (h : List Event) (st : Stream) (before : List (List ℕ)) (m : ℕ) (item : Stamped) (q : List ℕ) : Type 0 where
  pub place : slice_get (taken_for s st h) (length (of_pid st.output_pid before)) ≡ Some item
  pub due : item.stamp ≤ slot_time s.first m
  pub packet : q ≡ rewritten item.packet st.output_pid (slot_time s.first m - item.stamp)

abbrev Carries : ScheduleValue → List Event → Stream → List (List ℕ) → ℕ → List ℕ → Type 0
Carries s h st before m q = (item : Stamped) × IsFrom s h st before m item q

still_taken : (s : ScheduleValue) (st : Stream) (i : ℕ) (x : Stamped) (h : List Event) (n : ℕ) (item : Stamped) → slice_get (taken_for s st h) n ≡ Some item
    → slice_get (taken_for s st (Took i x ∷ h)) n ≡ Some item
still_taken s st i x h n item e =
    elim (cases_Bool (is_mapped_to s st i x)) [
      | inl is ↦ rw is (before_end (taken_for s st h) x n (slice_get_within (taken_for s st h) n item e) ∙ e)
      | inr other ↦ rw other e
    ]

-- that of the last slot
last_carries : (s : ScheduleValue) (h : List Event) (c : Content) (k : ℕ) (st : Stream) → IsMultiplexSchedule s → IsLawful s h → IsContent s h c → IsAt s k st
    → pid_of (packet_behind s h (emitted s h) c) ≡ st.output_pid
    → Carries s (Slot c ∷ h) st (emitted s h) (length (emitted s h)) (packet_behind s h (emitted s h) c)
last_carries s h Null k st plan law content at e = absurd (null_apart s k st plan at e)
last_carries s h (Table place) k st plan law content at e = absurd (table_apart s h place k st plan law content at e)
last_carries s h (Elementary su) k st plan law content at e =
    let chosen = stream_choice s h su content in
    let item = chosen.0 in
    let has = has_in_force s h su plan law chosen.1.stream in
    let moved = moved_to s h su item plan law has chosen.1.head in
    let same : su ≡ st = same_stream s has.0 k su st plan has.1 at (sym moved.pid ∙ e) in
    let head : slice_get (queue s st h) 0 ≡ Some item = ap (λ (x : Stream). slice_get (queue s x h) 0) (sym same) ∙ chosen.1.head in (
      item,
      record {
        place = ap (slice_get (taken_for s st h)) (sent_count s h k st plan law at) ∙ get-drop (sent st h) (taken_for s st h) item (head_in_force s st h item head).1;
        due = let P : ℕ → Type 0 = λ n. item.stamp ≤ slot_time s.first n in subst P (sym (length-emitted s h)) chosen.1.due;
        packet = packet_is s h su item chosen.1.head ∙ ap (λ (x : Stream). rewritten item.packet x.output_pid (slot_time s.first (length (emitted s h)) - item.stamp)) same;
      },
    )

carries : (s : ScheduleValue) (h : List Event) (k : ℕ) (st : Stream) → IsMultiplexSchedule s → IsLawful s h → IsAt s k st
    → (m : ℕ) (q : List ℕ) → slice_get (emitted s h) m ≡ Some q → pid_of q ≡ st.output_pid → Carries s h st (take m (emitted s h)) m q
carries s [] k st plan law at m q here e = cc
carries s (Took i x ∷ h) k st plan law at m q here e =
    let ih = carries s h k st plan law.0 at m q here e in (
      ih.0,
      record {
        place = still_taken s st i x h (length (of_pid st.output_pid (take m (emitted s h)))) ih.0 ih.1.place;
        due = ih.1.due;
        packet = ih.1.packet;
      },
    )
carries s (Full i su ∷ h) k st plan law at m q here e =
    let ih = carries s h k st plan law.0 at m q here e in
    (ih.0, record { place = ih.1.place; due = ih.1.due; packet = ih.1.packet })
carries s (Early i ∷ h) k st plan law at m q here e =
    let ih = carries s h k st plan law.0 at m q here e in
    (ih.0, record { place = ih.1.place; due = ih.1.due; packet = ih.1.packet })
carries s (Switch number ∷ h) k st plan law at m q here e =
    let ih = carries s h k st plan law.0 at m q here e in
    (ih.0, record { place = ih.1.place; due = ih.1.due; packet = ih.1.packet })
carries s (Close i ∷ h) k st plan law at m q here e =
    let ih = carries s h k st plan law.0 at m q here e in
    (ih.0, record { place = ih.1.place; due = ih.1.due; packet = ih.1.packet })
carries s (Slot c ∷ h) k st plan law at m q here e =
    let out = emitted s h in
    let new = packet_behind s h out c in
    elim (cases_lt m (length out)) [
      | inl l ↦
          (let before : take m (out ++ new ∷ []) ≡ take m out = take-append-le m out (new ∷ []) (omega (arith, l)) in
          let ih = carries s h k st plan law.0 at m q (sym (before_end out new m l) ∙ here) e in
          let P : List (List ℕ) → Type 0 = λ xs. Carries s (Slot c ∷ h) st xs m q in
          subst P (sym before) (ih.0, record { place = ih.1.place; due = ih.1.due; packet = ih.1.packet }))
      | inr l ↦
          (let within = slice_get_within (out ++ new ∷ []) m q here in
          let last : m ≡ length out = omega (arith, l, within, length-append out (new ∷ [])) in
          let before : take m (out ++ new ∷ []) ≡ out = take_at out (new ∷ []) m (sym last) in
          let same : new ≡ q = same_Some new q (sym (last_behind out new) ∙ ap (slice_get (out ++ new ∷ [])) (sym last) ∙ here) in
          let P : List (List ℕ) → Type 0 = λ xs. Carries s (Slot c ∷ h) st xs m q in
          let Q : ℕ → Type 0 = λ n. Carries s (Slot c ∷ h) st out n q in
          let R : List ℕ → Type 0 = Carries s (Slot c ∷ h) st out (length out) in
          subst P (sym before) (subst Q (sym last) (subst R same (last_carries s h c k st plan law.0 law.1.content at (ap pid_of same ∙ e)))))
    ]

-- each PCR is later by its delay
pub pcrs_are_later : (s : ScheduleValue) (h : List Event) (st : Stream) → IsMultiplexSchedule s → IsLawful s h → Has s st → PcrsAreLater s h st
pcrs_are_later s h st plan law has m q here e =
    let from = carries s h has.0 st plan law has.1 m q here e in
    let item = from.0 in
    let below = out_below s has.0 st plan has.1 in
    let is = all_at (IsItemOf st) (taken_for s st h) (length (of_pid st.output_pid (take m (emitted s h)))) item (items_taken s st h law) from.1.place in
    let delay = slot_time s.first m - item.stamp in (
      item,
      from.1.place,
      record {
        due = from.1.due;
        pcr = ap pcr_of from.1.packet ∙ pcr_of-rewritten item.packet st.output_pid delay (omega (arith, below)) is.0;
      },
    )

-- what wasn't sent is what is dropped, or what is queued
dropped_or_queued : (in_force : Bool) (xs : List Stamped) → cond in_force [] xs ++ cond in_force xs [] ≡ xs
dropped_or_queued true xs = refl
dropped_or_queued false xs = append-nil xs

-- what was taken of a stream is what went out of it, and then what is dropped, and then what is queued
pub emitted_then_dropped_then_queued : (s : ScheduleValue) (h : List Event) (st : Stream) → IsMultiplexSchedule s → IsLawful s h → Has s st → EmittedThenDroppedThenQueued s h st
emitted_then_dropped_then_queued s h st plan law has = record {
  packets = λ m q here e. let from = carries s h has.0 st plan law has.1 m q here e in (from.0, from.1.place, from.1.packet);
  rest = dropped_or_queued (has_stream (plan_in_force s h) st) (unsent s st h)
      ∙ ap (λ n. drop n (taken_for s st h)) (sym (sent_count s h has.0 st plan law has.1));
}
