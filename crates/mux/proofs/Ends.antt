-- Of two such histories that are finished at the same number of slots the emitted packets are the same.
use Rattle.std.proofs.Common.{ℕ, zero, suc, ◌+◌, ◌*◌, ◌<◌, ◌≤◌, ◌≡◌, ◌⊎◌, Bool, true, cond, ltb, nat_eq, List, [], ◌∷◌, ◌++◌, length, drop, Some, refl, ap, ◌∙◌, sym, subst, arith, inl, inr, length-append, length-drop}
use Rattle.std.specs.List.{slice_get, filter}
use Rattle.std.proofs.lemmas.List.Elements.{filter-append}
use Rattle.std.proofs.lemmas.Option.{same_Some}
use Rattle.std.proofs.lemmas.Bool.{cases_Bool, eqb-true, ltb-true, false≢true}
use Rattle.std.proofs.lemmas.Bool.{cases_lt}
use Rattle.tspkt.specs.declared.stamped.Stamped.{Stamped}
use Rattle.request.specs.declared.stream.Stream.{Stream}
use Rattle.mux.specs.declared.content.Content.TheVariants.{Null, Elementary, Table}
use Rattle.mux.specs.declared.event.Event.{Event}
use Rattle.mux.specs.declared.event.Event.TheVariants.{Took, Full, Early, Close, Slot, Switch}
use Rattle.schedule.specs.Schedule.{ScheduleValue, span_at, plan_at, number_for, number_in_slot, slot_time}
use Rattle.schedule.proofs.ForceLaws as spans
use Rattle.schedule.specs.Laws.{IsMultiplexSchedule}
use Rattle.mux.specs.History.{has_stream, in_force, plan_in_force, is_mapped_to, taken, taken_for, sent, queue, slots, last_stamp, is_closed, full_noted, early_noted}
use Rattle.mux.specs.Lawful.{IsLawful, IsDone, AllReady, input_count}
use Rattle.mux.specs.Faithful.{PacketLists, IsFaithful, OutputIsUnique}
use Rattle.mux.proofs.Contents.{stream_choice}
use Rattle.mux.proofs.Plans.{IsAt, Has, same_stream, stream_in, in_plan, of_plan, first_request}
use Rattle.mux.proofs.Force.{quotients, rate_above_0, later_slot, in_its_span, in_force_is, force_within, has_in_force}
use Rattle.mux.proofs.Refusals.{taken_for_of, goes_both}
use Rattle.mux.proofs.Queues.{sent_within, queue_is, head_in_force, unborn}
use Rattle.mux.proofs.Fronts.{last_of, last_of-push}
use Rattle.mux.proofs.Same.{Agree, agree, taken_for_is, taken_begins, closed_all, noted, noted_early, last_stamp_is, ready_cases, AllBegun, all_begun, begun-at}

-- the first n have stamps up to t
abbrev Due : ℕ → ℕ → List Stamped → Type 0
Due t zero xs = Unit {0}
Due t (suc n) [] = Unit {0}
Due t (suc n) (x ∷ xs) = (x.stamp ≤ t) × Due t n xs

Due-later : (t u n : ℕ) (xs : List Stamped) → t ≤ u → Due t n xs → Due u n xs
Due-later t u zero xs l h = tt
Due-later t u (suc n) [] l h = tt
Due-later t u (suc n) (x ∷ xs) l h = let a = h.0 in (omega arith, Due-later t u n xs l h.1)

Due-append : (t n : ℕ) (xs e : List Stamped) → n ≤ length xs → Due t n xs → Due t n (xs ++ e)
Due-append t zero xs e l h = tt
Due-append t (suc n) [] e l h = absurd (omega arith)
Due-append t (suc n) (x ∷ xs) e l h = (h.0, Due-append t n xs e (omega arith) h.1)

Due-step : (t n : ℕ) (xs : List Stamped) (x : Stamped) → Due t n xs → slice_get (drop n xs) 0 ≡ Some x → x.stamp ≤ t → Due t (suc n) xs
Due-step t zero [] x h at l = tt
Due-step t zero (y ∷ xs) x h at l = let P : Stamped → Type 0 = λ z. z.stamp ≤ t in (subst P (sym (same_Some y x at)) l, tt)
Due-step t (suc n) [] x h at l = tt
Due-step t (suc n) (y ∷ xs) x h at l = (h.0, Due-step t n xs x h.1 at l)

Due-last : (t n : ℕ) (xs : List Stamped) (x : Stamped) → Due t n (xs ++ x ∷ []) → length xs < n → x.stamp ≤ t
Due-last t zero xs x h l = absurd (omega arith)
Due-last t (suc n) [] x h l = h.0
Due-last t (suc n) (y ∷ xs) x h l = Due-last t n xs x h.1 (omega arith)

-- slots go out in order
in_order : (s : ScheduleValue) (m : ℕ) → 0 < s.first.request.rate → slot_time s.first m ≤ slot_time s.first (m + 1)
in_order s m pos = quotients ((188 * m + 10) * 216000000) ((188 * (m + 1) + 10) * 216000000) s.first.request.rate pos (omega arith)

-- what was sent of a stream was due
sent_due : (s : ScheduleValue) (k : ℕ) (st : Stream) (h : List Event) → IsMultiplexSchedule s → IsLawful s h → IsAt s k st → Due (slot_time s.first (slots h)) (sent st h) (taken_for s st h)
sent_due s k st [] plan law at = tt
sent_due s k st (Took j item ∷ h) plan law at =
    let ih = sent_due s k st h plan law.0 at in
    elim (cases_Bool (is_mapped_to s st j item)) [
      | inl e ↦ rw e (Due-append (slot_time s.first (slots h)) (sent st h) (taken_for s st h) (item ∷ []) (sent_within s h k st plan law.0 at) ih)
      | inr e ↦ rw e ih
    ]
sent_due s k st (Full j su ∷ h) plan law at = sent_due s k st h plan law.0 at
sent_due s k st (Early j ∷ h) plan law at = sent_due s k st h plan law.0 at
sent_due s k st (Switch number ∷ h) plan law at = sent_due s k st h plan law.0 at
sent_due s k st (Close j ∷ h) plan law at = sent_due s k st h plan law.0 at
sent_due s k st (Slot Null ∷ h) plan law at = Due-later (slot_time s.first (slots h)) (slot_time s.first (slots h + 1)) (sent st h) (taken_for s st h) (in_order s (slots h) (rate_above_0 s plan)) (sent_due s k st h plan law.0 at)
sent_due s k st (Slot (Table place) ∷ h) plan law at = Due-later (slot_time s.first (slots h)) (slot_time s.first (slots h + 1)) (sent st h) (taken_for s st h) (in_order s (slots h) (rate_above_0 s plan)) (sent_due s k st h plan law.0 at)
sent_due s k st (Slot (Elementary su) ∷ h) plan law at =
    let t = slot_time s.first (slots h) in
    let ih = sent_due s k st h plan law.0 at in
    let chosen = stream_choice s h su law.1.content in
    let has = has_in_force s h su plan law.0 chosen.1.stream in
    let later = in_order s (slots h) (rate_above_0 s plan) in
    elim (cases_Bool (nat_eq su.output_pid st.output_pid)) [
      | inl e ↦
          (let same : su ≡ st = same_stream s has.0 k su st plan has.1 at (eqb-true su.output_pid st.output_pid e) in
          let head : slice_get (queue s st h) 0 ≡ Some chosen.0 = ap (λ (x : Stream). slice_get (queue s x h) 0) (sym same) ∙ chosen.1.head in
          let more : sent st h + 1 ≡ suc (sent st h) = omega arith in
          rw e (rw more (Due-later t (slot_time s.first (slots h + 1)) (suc (sent st h)) (taken_for s st h) later (Due-step t (sent st h) (taken_for s st h) chosen.0 ih (head_in_force s st h chosen.0 head).1 chosen.1.due))))
      | inr e ↦ rw e (Due-later t (slot_time s.first (slots h + 1)) (sent st h) (taken_for s st h) later ih)
    ]

-- the last packet taken of an input goes to a stream
record LastTaken (s : ScheduleValue) (i : ℕ) (h : List Event) : Type 0 where
  st : Stream
  has : Has s st
  before : List Stamped
  item : Stamped
  are : taken i h ≡ before ++ item ∷ []
  goes : is_mapped_to s st i item ≡ true

last_taken : (s : ScheduleValue) (i : ℕ) (h : List Event) → IsMultiplexSchedule s → IsLawful s h → (taken i h ≡ []) ⊎ LastTaken s i h
last_taken s i [] ok law = inl refl
last_taken s i (Took j item ∷ h) ok law =
    elim (cases_Bool (nat_eq j i)) [
      | inl e ↦
          (let to = taken_for_of s h j item ok law.1 in
          let P : ℕ → Type 0 = λ k. is_mapped_to s to.0 k item ≡ true in
          inr (record {
            st = to.0;
            has = to.1.stream;
            before = taken i h;
            item = item;
            are = rw e refl;
            goes = subst P (eqb-true j i e) to.1.mapped;
          }))
      | inr e ↦
          elim (last_taken s i h ok law.0) [
            | inl none ↦ inl (rw e none)
            | inr l ↦ inr (record { st = l.st; has = l.has; before = l.before; item = l.item; are = rw e l.are; goes = l.goes })
          ]
    ]
last_taken s i (Full j su ∷ h) ok law = elim (last_taken s i h ok law.0) [ inl none ↦ inl none | inr l ↦ inr (record { st = l.st; has = l.has; before = l.before; item = l.item; are = l.are; goes = l.goes }) ]
last_taken s i (Early j ∷ h) ok law = elim (last_taken s i h ok law.0) [ inl none ↦ inl none | inr l ↦ inr (record { st = l.st; has = l.has; before = l.before; item = l.item; are = l.are; goes = l.goes }) ]
last_taken s i (Switch number ∷ h) ok law = elim (last_taken s i h ok law.0) [ inl none ↦ inl none | inr l ↦ inr (record { st = l.st; has = l.has; before = l.before; item = l.item; are = l.are; goes = l.goes }) ]
last_taken s i (Close j ∷ h) ok law = elim (last_taken s i h ok law.0) [ inl none ↦ inl none | inr l ↦ inr (record { st = l.st; has = l.has; before = l.before; item = l.item; are = l.are; goes = l.goes }) ]
last_taken s i (Slot c ∷ h) ok law = elim (last_taken s i h ok law.0) [ inl none ↦ inl none | inr l ↦ inr (record { st = l.st; has = l.has; before = l.before; item = l.item; are = l.are; goes = l.goes }) ]

none_left : (xs : List Stamped) → length xs ≡ 0 → xs ≡ []
none_left [] e = refl
none_left (x ∷ xs) e = absurd (omega arith)

-- how far a history has gone: the plan in force is at most that of the slot
force_below : (s : ScheduleValue) (h : List Event) → IsMultiplexSchedule s → IsLawful s h → in_force h ≤ number_in_slot s (slots h)
force_below s h ok law =
    let follow = ok.schedule.slots in
    let is = in_its_span s h follow law in
    let there = spans.in_force s follow (slots h) in
    elim (cases_lt (number_in_slot s (slots h)) (in_force h)) [
      | inl l ↦
          (let last = there.is_last (in_force h) l is.within in
          let begun = is.has_begun in
          absurd (omega (arith, last, begun)))
      | inr l ↦ l
    ]

-- a is done, b has sent the same and is about to send a slot
record DoneBeside (s : ScheduleValue) (lists : PacketLists) (a b : List Event) : Type 0 where
  schedule : IsMultiplexSchedule s
  law_a : IsLawful s a
  faith_a : IsFaithful s lists a
  done : IsDone s a
  law_b : IsLawful s b
  faith_b : IsFaithful s lists b
  same : Agree s a b
  force : in_force a ≤ in_force b

-- all of an input was taken by a
all_taken : {s : ScheduleValue} {lists : PacketLists} {a b : List Event} → DoneBeside s lists a b → (i : ℕ) → i < input_count s → lists i ≡ taken i a
all_taken {s} {lists} {a} {b} k i l = closed_all s lists i a k.schedule k.law_a k.faith_a (k.done.closed i l)

-- what b took of a stream in force there was sent
all_sent : {s : ScheduleValue} {lists : PacketLists} {a b : List Event} → DoneBeside s lists a b → (n : ℕ) (st : Stream) → IsAt s n st → has_stream (plan_in_force s b) st ≡ true
    → length (taken_for s st b) ≤ sent st b
all_sent {s} {lists} {a} {b} k n st at has =
    let i = st.input in
    let g : Stamped → Bool = is_mapped_to s st i in
    let all = all_taken k i (stream_in s n st k.schedule at).input in
    let front = taken_begins s lists i b k.faith_b in
    let e = ap length (taken_for_is s st a ∙ ap (filter g) (sym all ∙ front.1) ∙ filter-append g (taken i b) front.0) in
    let f = ap length (taken_for_is s st b) in
    let both = length-append (filter g (taken i b)) (filter g front.0) in
    let alike = k.same.sent_same st in
    elim (cases_Bool (has_stream (plan_in_force s a) st)) [
      | inl had ↦
          (let none = ap length (sym (queue_is s st a had) ∙ k.done.empty st (in_plan s (in_force a) n st k.schedule (force_within s a k.schedule k.law_a) at had)) in
          omega (arith, e, f, both, alike, none, length-drop (sent st a) (taken_for s st a)))
      | inr without ↦
          (let ne : in_force a ≡ in_force b → ⊥ = λ same. false≢true (sym without ∙ ap (λ m. has_stream (plan_at s m) st) same ∙ has) in
          let l = k.force in
          let none = ap length (unborn s n st a (in_force b) k.schedule k.law_a at (omega (arith, l, ne)) (force_within s b k.schedule k.law_b) has without) in
          omega (arith, e, f, both, none))
    ]

-- The last packet that b took of an input isn't later than the next slot: it was sent, or its plan has ended.
last_is_past : {s : ScheduleValue} {lists : PacketLists} {a b : List Event} → DoneBeside s lists a b → (i : ℕ) → last_stamp i b ≤ slot_time s.first (slots b)
last_is_past {s} {lists} {a} {b} k i =
    let t = slot_time s.first (slots b) in
    elim (last_taken s i b k.schedule k.law_b) [
      | inl none ↦ omega (arith, last_stamp_is i b, ap (last_of 0) none)
      | inr x ↦
          (let g : Stamped → Bool = is_mapped_to s x.st x.st.input in
          let stamp : last_stamp i b ≡ x.item.stamp = last_stamp_is i b ∙ ap (last_of 0) x.are ∙ last_of-push 0 x.before x.item in
          let its = goes_both s x.st i x.item x.goes in
          let input : i ≡ x.st.input = its.0 in
          let P : ℕ → Type 0 = λ n. is_mapped_to s x.st n x.item ≡ true in
          let Q : ℕ → Type 0 = λ n. taken n b ≡ x.before ++ x.item ∷ [] in
          elim (cases_Bool (has_stream (plan_in_force s b) x.st)) [
            | inl has ↦
                (let goes : g x.item ≡ true = subst P input x.goes in
                let are = taken_for_is s x.st b ∙ ap (filter g) (subst Q input x.are) ∙ filter-append g x.before (x.item ∷ []) ∙ ap (λ c. filter g x.before ++ cond c (x.item ∷ []) []) goes in
                let R : List Stamped → Type 0 = Due t (sent x.st b) in
                let due = subst R are (sent_due s x.has.0 x.st b k.schedule k.law_b x.has.1) in
                let gone = all_sent k x.has.0 x.st x.has.1 has in
                let last = Due-last t (sent x.st b) (filter g x.before) x.item due (omega (arith, gone, ap length are, length-append (filter g x.before) (x.item ∷ []))) in
                omega (arith, stamp, last))
            | inr without ↦
                (let S : List Stamped → Type 0 = AllBegun s (in_force b) in
                let begun = begun-at s (in_force b) x.before x.item [] (subst S x.are (all_begun s i b k.schedule k.law_b)) in
                let ne : number_for s x.item.stamp ≡ in_force b → ⊥ = λ same. false≢true (sym without ∙ ap (λ m. has_stream (plan_at s m) x.st) (sym same) ∙ its.2) in
                let is = in_its_span s b k.schedule.schedule.slots k.law_b in
                let ended = (spans.belongs s (rate_above_0 s k.schedule) k.schedule.schedule.slots x.item.stamp).is_last (in_force b) (omega (arith, begun, ne)) is.within in
                let before = later_slot s (span_at s (in_force b)).slot (slots b) (rate_above_0 s k.schedule) is.has_begun in
                omega (arith, stamp, ended, before))
          ])
    ]

-- then b is done too, if its inputs are ready
done_too : {s : ScheduleValue} {lists : PacketLists} {a b : List Event} → DoneBeside s lists a b → AllReady s b → IsDone s b
done_too {s} {lists} {a} {b} k ready =
    let nothing : (n : ℕ) (st : Stream) → IsAt s n st → has_stream (plan_in_force s b) st ≡ true → length (queue s st b) ≡ 0 = λ n st at has.
    omega (arith, all_sent k n st at has, ap length (queue_is s st b has), length-drop (sent st b) (taken_for s st b)) in
    record {
      closed = λ i l.
          elim (ready_cases (is_closed i b) (ltb (slot_time s.first (slots b)) (last_stamp i b)) (full_noted i b) (early_noted i b) (ready i l)) [
            | inl (inl closed) ↦ closed
            | inl (inr late) ↦
                (let above = ltb-true (slot_time s.first (slots b)) (last_stamp i b) late in
                let past = last_is_past k i in
                absurd (omega (arith, above, past)))
            | inr (inl note) ↦
                (let n = noted s lists i b k.schedule k.law_b k.faith_b note in
                let left = nothing n.has.0 n.st n.has.1 n.has_it in
                let full = n.full in
                let some = (first_request s k.schedule).queue.0 in
                absurd (omega (arith, left, full, some)))
            | inr (inr note) ↦
                (let n = noted_early s lists i b k.schedule k.law_b k.faith_b note in
                let all = all_taken k i l in
                let P : List Stamped → Type 0 = AllBegun s (in_force a) in
                let begun = begun-at s (in_force a) (taken i b) n.item n.next.0 (subst P (sym all ∙ n.next.1) (all_begun s i a k.schedule k.law_a)) in
                let early = n.early in
                let below = k.force in
                absurd (omega (arith, begun, early, below)))
          ];
      empty = λ st in_force_there.
          let has = has_in_force s b st k.schedule k.law_b in_force_there in
          none_left (queue s st b) (nothing has.0 st has.1 (of_plan s (in_force b) st in_force_there));
    }

-- so b has no more slots
no_more : (s : ScheduleValue) (lists : PacketLists) (a b : List Event) → IsMultiplexSchedule s → IsLawful s a → IsFaithful s lists a → IsDone s a → IsLawful s b → IsFaithful s lists b → slots b ≤ slots a
no_more s lists a [] plan la fa done lb fb = omega arith
no_more s lists a (Took j item ∷ b) plan la fa done lb fb = no_more s lists a b plan la fa done lb.0 fb.0
no_more s lists a (Full j st ∷ b) plan la fa done lb fb = no_more s lists a b plan la fa done lb.0 fb.0
no_more s lists a (Early j ∷ b) plan la fa done lb fb = no_more s lists a b plan la fa done lb.0 fb.0
no_more s lists a (Switch number ∷ b) plan la fa done lb fb = no_more s lists a b plan la fa done lb.0 fb
no_more s lists a (Close j ∷ b) plan la fa done lb fb = no_more s lists a b plan la fa done lb.0 fb.0
no_more s lists a (Slot c ∷ b) plan la fa done lb fb =
    let ih = no_more s lists a b plan la fa done lb.0 fb in
    elim (cases_lt (slots b) (slots a)) [
      | inl l ↦ omega arith
      | inr l ↦
          (let same : slots a ≡ slots b = omega (arith, ih, l) in
          let below = force_below s a plan la in
          let here = in_force_is s b plan.schedule.slots lb.0 lb.1.switched in
          let k : DoneBeside s lists a b = record {
            schedule = plan;
            law_a = la;
            faith_a = fa;
            done = done;
            law_b = lb.0;
            faith_b = fb;
            same = agree s lists a b plan la fa lb.0 fb same;
            force = omega (arith, below, here, ap (number_in_slot s) same);
          } in
          absurd (lb.1.running (done_too k lb.1.ready)))
    ]

pub output_is_unique : OutputIsUnique
output_is_unique s lists n a b plan ra enda rb endb =
    let la = ra.lawful in
    let fa = ra.faithful in
    let lb = rb.lawful in
    let fb = rb.faithful in
    let same : slots a ≡ slots b =
    elim enda [
      | inl x ↦ elim endb [ inl y ↦ omega arith | inr y ↦ (let m = no_more s lists b a plan lb fb y.1 la fa in let z = y.0 in omega arith) ]
      | inr x ↦
          (let m = no_more s lists a b plan la fa x.1 lb fb in
          let w = x.0 in
          elim endb [ inl y ↦ omega arith | inr y ↦ (let k = no_more s lists b a plan lb fb y.1 la fa in omega arith) ])
    ] in
    (agree s lists a b plan la fa lb fb same).packets
