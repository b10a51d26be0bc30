-- What holds of the packets that went out, from lawfulness.
use Rattle.std.proofs.Common.{ℕ, zero, suc, ◌+◌, ◌-◌, ◌≡◌, Bool, true, false, cond, nat_eq, List, [], ◌∷◌, ◌++◌, length, map, drop, take, Option, Some, None, refl, ap, ◌∙◌, sym, subst, arith, inl, inr, length-append}
use Rattle.std.specs.List.{slice_get}
use Rattle.std.proofs.lemmas.List.{take-append-le, take_at, append-nil}
use Rattle.std.proofs.lemmas.List.Elements.{filter-append}
use Rattle.std.proofs.lemmas.Option.{same_Some, slice_get_within}
use Rattle.std.proofs.lemmas.Bool.{cases_Bool, cases_lt, ne_eqb, eqb-true}
use Rattle.tspkt.specs.Packet.{pid_of, null_packet}
use Rattle.tspkt.specs.Counters.{lawful_of, lawful_behind, follows_of}
use Rattle.tspkt.specs.Rewritten.{rewritten}
use Rattle.tspkt.specs.declared.stamped.Stamped.{Stamped}
use Rattle.tspkt.proofs.RewrittenLaws.{is_packet-null_packet}
use Rattle.tspkt.proofs.CounterLaws.{IsRewritten, AreRewritten, lawful_of-rewritten}
use Rattle.request.specs.declared.stream.Stream.{Stream}
use Rattle.mux.specs.declared.content.Content.TheVariants.{Null, Elementary, Table}
use Rattle.mux.specs.declared.event.Event.{Event}
use Rattle.mux.specs.declared.event.Event.TheVariants.{Took, Full, Early, Close, Slot, Switch}
use Rattle.schedule.specs.Schedule.{SpanValue, ScheduleValue, span_at, number_in_slot, slot_time}
use Rattle.schedule.specs.Laws.{IsMultiplexSchedule}
use Rattle.mux.specs.History.{in_force, plan_in_force, is_mapped_to, taken_for, sent, queue, emitted, packet_behind}
use Rattle.mux.specs.Lawful.{table_due, IsLawful, IsContent, MaySend}
use Rattle.emission.proofs.RecurrenceLaws.{last_behind}
use Rattle.mux.proofs.Emitted.{length-emitted, before_end}
use Rattle.emission.specs.Emission.{of_pid, IsPacketOf}
use Rattle.emission.specs.Spans.{span_in_slot, table_in, IsEmissionOf, MayGoOutOf}
use Rattle.rounds.specs.declared.table_place.TablePlace.{TablePlace}
use Rattle.mux.specs.Headline.{CountersAreAsTaken}
use Rattle.mux.specs.declared.content.Content.{Content}
use Rattle.mux.proofs.Contents.{stream_choice, stream_untabled, null_untabled, table_turn}
use Rattle.mux.proofs.Plans.{IsAt, Has, same_stream}
use Rattle.mux.proofs.Force.{in_force_is, has_in_force}
use Rattle.mux.proofs.Queues.{head_in_force, sent_within}
use Rattle.mux.proofs.StreamPackets.{head_is_item, out_below, packet_is, moved_to, null_apart, table_apart}

-- what a slot carries may go out by the plan in force, which is that of the slot
content_goes : (s : ScheduleValue) (h : List Event) (c : Content) → IsMultiplexSchedule s → IsLawful s h → IsContent s h c
    → IsPacketOf (plan_in_force s h) (emitted s h) (table_due s h) (packet_behind s h (emitted s h) c)
content_goes s h Null plan law content =
    let P : Option TablePlace → Type 0 = λ o. IsPacketOf (plan_in_force s h) (emitted s h) o null_packet in
    subst P (sym (null_untabled s h content)) (is_packet-null_packet, inl refl)
content_goes s h (Table place) plan law content =
    let P : Option TablePlace → Type 0 = λ o. IsPacketOf (plan_in_force s h) (emitted s h) o (packet_behind s h (emitted s h) (Table place)) in
    subst P (sym (table_turn s h place content)) refl
content_goes s h (Elementary st) plan law content =
    let chosen = stream_choice s h st content in
    let of_plan = chosen.1.stream in
    let moved = moved_to s h st chosen.0 plan law (has_in_force s h st plan law of_plan) chosen.1.head in
    let P : Option TablePlace → Type 0 = λ o. IsPacketOf (plan_in_force s h) (emitted s h) o (packet_behind s h (emitted s h) (Elementary st)) in
    subst P (sym (stream_untabled s h st content)) (moved.packet, inr (of_plan.0, st, of_plan.1, of_plan.2, moved.pid))

may_go_out : (s : ScheduleValue) (h : List Event) (c : Content) → IsMultiplexSchedule s → IsLawful s h → MaySend s h c → MayGoOutOf s (emitted s h) (packet_behind s h (emitted s h) c)
may_go_out s h c plan law send =
    let out = emitted s h in
    let q = packet_behind s h out c in
    let m = length out in
    let w = span_at s (in_force h) in
    let number : number_in_slot s m ≡ in_force h = ap (number_in_slot s) (length-emitted s h) ∙ in_force_is s h plan.schedule.slots law send.switched in
    let same : span_in_slot s m ≡ w = ap (span_at s) number in
    let P : ℕ → Type 0 = λ n. IsPacketOf w.plan out (table_in w n) q in
    let Q : SpanValue → Type 0 = λ v. IsPacketOf v.plan out (table_in v m) q in
    subst Q (sym same) (subst P (sym (length-emitted s h)) (content_goes s h c plan law send.content))

-- one more packet
emission-push : (s : ScheduleValue) (out : List (List ℕ)) (q : List ℕ) → IsEmissionOf s out → MayGoOutOf s out q → IsEmissionOf s (out ++ q ∷ [])
emission-push s out q all one m x at =
    elim (cases_lt m (length out)) [
      | inl l ↦
          (let before : take m (out ++ q ∷ []) ≡ take m out = take-append-le m out (q ∷ []) (omega arith) in
          let here : slice_get out m ≡ Some x = sym (before_end out q m l) ∙ at in
          let P : List (List ℕ) → Type 0 = λ xs. MayGoOutOf s xs x in
          subst P (sym before) (all m x here))
      | inr l ↦
          (let within = slice_get_within (out ++ q ∷ []) m x at in
          let last : m ≡ length out = omega (arith, length-append out (q ∷ [])) in
          let before : take m (out ++ q ∷ []) ≡ out = take_at out (q ∷ []) m (sym last) in
          let P : List (List ℕ) → Type 0 = λ xs. MayGoOutOf s xs x in
          let Q : List ℕ → Type 0 = MayGoOutOf s out in
          let same : q ≡ x = same_Some q x (sym (last_behind out q) ∙ ap (slice_get (out ++ q ∷ [])) (sym last) ∙ at) in
          subst P (sym before) (subst Q same one))
    ]

-- each slot carries what the plan says
pub emits : (s : ScheduleValue) (h : List Event) → IsMultiplexSchedule s → IsLawful s h → IsEmissionOf s (emitted s h)
emits s [] plan law = λ m x at. cc
emits s (Took i item ∷ h) plan law = emits s h plan law.0
emits s (Full i st ∷ h) plan law = emits s h plan law.0
emits s (Early i ∷ h) plan law = emits s h plan law.0
emits s (Switch number ∷ h) plan law = emits s h plan law.0
emits s (Close i ∷ h) plan law = emits s h plan law.0
emits s (Slot c ∷ h) plan law = emission-push s (emitted s h) (packet_behind s h (emitted s h) c) (emits s h plan law.0) (may_go_out s h c plan law.0 law.1)

-- Counters.

of_pid-push : (pid : ℕ) (qs : List (List ℕ)) (q : List ℕ) → of_pid pid (qs ++ q ∷ []) ≡ cond (nat_eq (pid_of q) pid) (of_pid pid qs ++ q ∷ []) (of_pid pid qs)
of_pid-push pid qs q =
    let test : List ℕ → Bool = λ x. nat_eq (pid_of x) pid in
    filter-append test qs (q ∷ [])
    ∙ elim (cases_Bool (nat_eq (pid_of q) pid)) [ inl e ↦ rw e refl | inr e ↦ rw e (append-nil (of_pid pid qs)) ]

rewritten_push : (from to : ℕ) (ps qs : List (List ℕ)) (s q : List ℕ) → AreRewritten from to ps qs → IsRewritten from to s q → AreRewritten from to (ps ++ s ∷ []) (qs ++ q ∷ [])
rewritten_push from to [] [] s q all one = (one, tt)
rewritten_push from to [] (y ∷ qs) s q all one = absurd all
rewritten_push from to (x ∷ ps) [] s q all one = absurd all
rewritten_push from to (x ∷ ps) (y ∷ qs) s q all one = (all.0, rewritten_push from to ps qs s q all.1 one)

take_head : (n : ℕ) (xs : List Stamped) (x : Stamped) → slice_get (drop n xs) 0 ≡ Some x → take (n + 1) xs ≡ take n xs ++ x ∷ []
take_head zero [] x e = cc
take_head zero (y ∷ xs) x e = ap (λ z. z ∷ []) (same_Some y x e)
take_head (suc n) [] x e = cc
take_head (suc n) (y ∷ xs) x e = let m : suc n + 1 ≡ suc (n + 1) = omega arith in rw m (ap (λ ys. y ∷ ys) (take_head n xs x e))

abbrev pub packets_of : List Stamped → List (List ℕ)
packets_of items = map (λ (item : Stamped). item.packet) items

packets-push : (xs : List Stamped) (x : Stamped) → packets_of (xs ++ x ∷ []) ≡ packets_of xs ++ x.packet ∷ []
packets-push [] x = refl
packets-push (y ∷ xs) x = ap (λ ys. y.packet ∷ ys) (packets-push xs x)

-- what went out on the PID of a stream are the items sent of it, moved
pub sent_moved : (s : ScheduleValue) (h : List Event) (k : ℕ) (st : Stream) → IsMultiplexSchedule s → IsLawful s h → IsAt s k st
    → AreRewritten st.pid st.output_pid (packets_of (take (sent st h) (taken_for s st h))) (of_pid st.output_pid (emitted s h))
sent_moved s [] k st plan law at = tt
sent_moved s (Took i item ∷ h) k st plan law at =
    let ih = sent_moved s h k st plan law.0 at in
    let within = sent_within s h k st plan law.0 at in
    elim (cases_Bool (is_mapped_to s st i item)) [
      | inl e ↦ rw e (rw (take-append-le (sent st h) (taken_for s st h) (item ∷ []) within) ih)
      | inr e ↦ rw e ih
    ]
sent_moved s (Full i su ∷ h) k st plan law at = sent_moved s h k st plan law.0 at
sent_moved s (Early i ∷ h) k st plan law at = sent_moved s h k st plan law.0 at
sent_moved s (Switch number ∷ h) k st plan law at = sent_moved s h k st plan law.0 at
sent_moved s (Close i ∷ h) k st plan law at = sent_moved s h k st plan law.0 at
sent_moved s (Slot Null ∷ h) k st plan law at =
    let ih = sent_moved s h k st plan law.0 at in
    let P : List (List ℕ) → Type 0 = AreRewritten st.pid st.output_pid (packets_of (take (sent st h) (taken_for s st h))) in
    let other : nat_eq (pid_of null_packet) st.output_pid ≡ false = ne_eqb (pid_of null_packet) st.output_pid (null_apart s k st plan at) in
    let out : of_pid st.output_pid (emitted s h ++ null_packet ∷ []) ≡ of_pid st.output_pid (emitted s h) =
    of_pid-push st.output_pid (emitted s h) null_packet ∙ ap (λ b. cond b (of_pid st.output_pid (emitted s h) ++ null_packet ∷ []) (of_pid st.output_pid (emitted s h))) other in
    subst P (sym out) ih
sent_moved s (Slot (Table place) ∷ h) k st plan law at =
    let ih = sent_moved s h k st plan law.0 at in
    let q = packet_behind s h (emitted s h) (Table place) in
    let other : nat_eq (pid_of q) st.output_pid ≡ false = ne_eqb (pid_of q) st.output_pid (table_apart s h place k st plan law.0 law.1.content at) in
    let P : List (List ℕ) → Type 0 = AreRewritten st.pid st.output_pid (packets_of (take (sent st h) (taken_for s st h))) in
    let out : of_pid st.output_pid (emitted s h ++ q ∷ []) ≡ of_pid st.output_pid (emitted s h) =
    of_pid-push st.output_pid (emitted s h) q ∙ ap (λ b. cond b (of_pid st.output_pid (emitted s h) ++ q ∷ []) (of_pid st.output_pid (emitted s h))) other in
    subst P (sym out) ih
sent_moved s (Slot (Elementary su) ∷ h) k st plan law at =
    let ih = sent_moved s h k st plan law.0 at in
    let chosen = stream_choice s h su law.1.content in
    let item = chosen.0 in
    let has = has_in_force s h su plan law.0 chosen.1.stream in
    let q = packet_behind s h (emitted s h) (Elementary su) in
    let moved = moved_to s h su item plan law.0 has chosen.1.head in
    let out = of_pid st.output_pid (emitted s h) in
    let push = of_pid-push st.output_pid (emitted s h) q in
    elim (cases_Bool (nat_eq su.output_pid st.output_pid)) [
      | inl e ↦
          (let same : su ≡ st = same_stream s has.0 k su st plan has.1 at (eqb-true su.output_pid st.output_pid e) in
          let head : slice_get (queue s st h) 0 ≡ Some item = ap (λ (x : Stream). slice_get (queue s x h) 0) (sym same) ∙ chosen.1.head in
          let its = head_is_item s st h item law.0 head in
          let out_is : of_pid st.output_pid (emitted s h ++ q ∷ []) ≡ out ++ q ∷ [] = push ∙ ap (λ n. cond (nat_eq n st.output_pid) (out ++ q ∷ []) out) moved.pid ∙ ap (λ b. cond b (out ++ q ∷ []) out) e in
          let one : IsRewritten st.pid st.output_pid item.packet q = record {
            packet = its.0;
            pid = its.1;
            delay = slot_time s.first (length (emitted s h)) - item.stamp;
            sent = packet_is s h su item chosen.1.head ∙ ap (λ (x : Stream). rewritten item.packet x.output_pid (slot_time s.first (length (emitted s h)) - item.stamp)) same;
          } in
          let P : List (List ℕ) → Type 0 = AreRewritten st.pid st.output_pid (packets_of (take (sent st h) (taken_for s st h)) ++ item.packet ∷ []) in
          let Q : List (List ℕ) → Type 0 = λ xs. AreRewritten st.pid st.output_pid xs (of_pid st.output_pid (emitted s h ++ q ∷ [])) in
          let taken_is : packets_of (take (sent st h + 1) (taken_for s st h)) ≡ packets_of (take (sent st h) (taken_for s st h)) ++ item.packet ∷ [] =
          ap packets_of (take_head (sent st h) (taken_for s st h) item (head_in_force s st h item head).1) ∙ packets-push (take (sent st h) (taken_for s st h)) item in
          rw e (subst Q (sym taken_is) (subst P (sym out_is) (rewritten_push st.pid st.output_pid _ _ item.packet q ih one))))
      | inr e ↦
          (let out_is : of_pid st.output_pid (emitted s h ++ q ∷ []) ≡ out = push ∙ ap (λ n. cond (nat_eq n st.output_pid) (out ++ q ∷ []) out) moved.pid ∙ ap (λ b. cond b (out ++ q ∷ []) out) e in
          let P : List (List ℕ) → Type 0 = AreRewritten st.pid st.output_pid (packets_of (take (sent st h) (taken_for s st h))) in
          rw e (subst P (sym out_is) ih))
    ]

lawful_behind-take : (n : ℕ) (before : Option (List ℕ)) (last : List ℕ) (ps : List (List ℕ)) → lawful_behind before last (take n ps) ≡ take n (lawful_behind before last ps)
lawful_behind-take zero before last [] = refl
lawful_behind-take zero before last (q ∷ ps) = refl
lawful_behind-take (suc n) before last [] = refl
lawful_behind-take (suc n) before last (q ∷ ps) = ap (λ bs. follows_of before last q ∷ bs) (lawful_behind-take n (Some last) q ps)

lawful_of-take : (n : ℕ) (ps : List (List ℕ)) → lawful_of (take n ps) ≡ take n (lawful_of ps)
lawful_of-take zero [] = refl
lawful_of-take zero (q ∷ ps) = refl
lawful_of-take (suc n) [] = refl
lawful_of-take (suc n) (q ∷ ps) = ap (λ bs. true ∷ bs) (lawful_behind-take n None q ps)

packets-take : (n : ℕ) (xs : List Stamped) → packets_of (take n xs) ≡ take n (packets_of xs)
packets-take zero [] = refl
packets-take zero (x ∷ xs) = refl
packets-take (suc n) [] = refl
packets-take (suc n) (x ∷ xs) = ap (λ ys. x.packet ∷ ys) (packets-take n xs)

-- the counters of a stream are lawful where those of its input are
pub counters_are_as_taken : (s : ScheduleValue) (h : List Event) (st : Stream) → IsMultiplexSchedule s → IsLawful s h → Has s st → CountersAreAsTaken s h st
counters_are_as_taken s h st plan law has =
    let below = out_below s has.0 st plan has.1 in
    let moved = sent_moved s h has.0 st plan law has.1 in
    lawful_of-rewritten st.pid st.output_pid (packets_of (take (sent st h) (taken_for s st h))) (of_pid st.output_pid (emitted s h)) (omega arith) moved
    ∙ ap lawful_of (packets-take (sent st h) (taken_for s st h)) ∙ lawful_of-take (sent st h) (packets_of (taken_for s st h))
