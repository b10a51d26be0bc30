-- Numbers of packets and slots, by the history.
use Rattle.std.proofs.Common.{ℕ, zero, suc, ◌+◌, ◌≤◌, ◌≡◌, ◌≢◌, ◌∙◌, Bool, true, false, cond, nat_eq, not, List, [], ◌∷◌, ◌++◌, length, map, drop, ap, sym, arith, refl, length-append, length-drop, Some, inl, inr, eq-eqb, zero-add, All, get_or, ◌*◌}
use Rattle.std.specs.Prelude.{sum_by, count_by, filter}
use Rattle.std.specs.List.{slice_get}
use Rattle.std.proofs.lemmas.List.Sums.{sum_by-cons, sum_by-le, count_by-le-length, length-filter}
use Rattle.std.proofs.lemmas.Bool.{cases_Bool, ne_eqb, false≢true, false_from_ne_true}
use Rattle.std.proofs.lemmas.Option.{same_Some, slice_get_within, slice_get-get_or}
use Rattle.tspkt.specs.declared.stamped.Stamped.{Stamped}
use Rattle.request.specs.declared.stream.Stream.{Stream}
use Rattle.rounds.specs.declared.table_place.TablePlace.{TablePlace}
use Rattle.mux.specs.declared.content.Content.{Content}
use Rattle.mux.specs.declared.content.Content.TheVariants.{Null, Elementary, Table}
use Rattle.mux.specs.declared.event.Event.{Event}
use Rattle.mux.specs.declared.event.Event.TheVariants.{Took, Full, Early, Close, Slot, Switch}
use Rattle.plan.specs.Build.{PlanValue}
use Rattle.buffers.specs.QueueValue.{QueueValue}
use Rattle.schedule.specs.Schedule.{SpanValue, ScheduleValue, plan_at}
use Rattle.schedule.specs.Laws.{IsMultiplexSchedule}
use Rattle.mux.specs.History.{has_stream, in_force, plan_in_force, is_mapped_to, taken, taken_for, sent, unsent, queue, dropped, slots}
use Rattle.mux.specs.declared.counts.Counts.{Counts}
use Rattle.mux.specs.Totals.{contents, is_table, is_elementary, is_null, is_of_input, queued, dropped_of, IsCounts}
use Rattle.mux.specs.Keeping.{counts_of, queue_of}
use Rattle.mux.specs.Switching.{waiting_in}
use Rattle.mux.specs.Lawful.{IsLawful}
use Rattle.mux.proofs.Contents.{stream_choice}
use Rattle.mux.proofs.Plans.{IsAt, one_out, same_stream, first_request}
use Rattle.mux.proofs.Force.{has_in_force, due_is}
use Rattle.mux.proofs.Refusals.{IsTakenFor, taken_for_of, goes_both, one_stream}
use Rattle.mux.proofs.Queues as queues
use Rattle.schedule.specs.Streams.{has_output, new_of, with_later, all_streams}

-- one content a slot
pub length-contents : (h : List Event) → length (contents h) ≡ slots h
length-contents [] = refl
length-contents (Took i item ∷ h) = length-contents h
length-contents (Full i st ∷ h) = length-contents h
length-contents (Early i ∷ h) = length-contents h
length-contents (Switch number ∷ h) = length-contents h
length-contents (Close i ∷ h) = length-contents h
length-contents (Slot c ∷ h) = let e = length-contents h in omega arith

-- no more contents of a kind than slots
pub count_within : (test : Content → Bool) (h : List Event) → count_by test (contents h) ≤ slots h
count_within test h = omega (arith, count_by-le-length test (contents h), length-contents h)

pub count-cons : (test : Content → Bool) (c : Content) (cs : List Content) → count_by test (c ∷ cs) ≡ cond (test c) 1 0 + count_by test cs
count-cons test c cs = sum_by-cons (λ (x : Content). cond (test x) 1 0) c cs

-- a slot of an input
pub count_sent : (st : Stream) (cs : List Content) → count_by (is_of_input st.input) (Elementary st ∷ cs) ≡ count_by (is_of_input st.input) cs + 1
count_sent st cs =
    count-cons (is_of_input st.input) (Elementary st) cs ∙ ap (λ b. cond b 1 0 + count_by (is_of_input st.input) cs) (eq-eqb st.input st.input refl) ∙ omega arith

pub count_unsent : (i : ℕ) (st : Stream) (cs : List Content) → i ≢ st.input → count_by (is_of_input i) (Elementary st ∷ cs) ≡ count_by (is_of_input i) cs
count_unsent i st cs ne =
    count-cons (is_of_input i) (Elementary st) cs ∙ ap (λ b. cond b 1 0 + count_by (is_of_input i) cs) (ne_eqb st.input i (λ e. ne (sym e))) ∙ omega arith

counted_as : (c : Content) (h : List Event) (tables elementary null : ℕ) → tables ≡ count_by is_table (c ∷ contents h) → elementary ≡ count_by is_elementary (c ∷ contents h) → null ≡ count_by is_null (c ∷ contents h)
    → record { tables = tables; elementary = elementary; null = null } ≡ counts_of (Slot c ∷ h)
counted_as c h tables elementary null t e n = cc

-- one more slot of a kind
pub counts_elementary : (st : Stream) (h : List Event) → record (counts_of h) { elementary = (counts_of h).elementary + 1 } ≡ counts_of (Slot (Elementary st) ∷ h)
counts_elementary st h = counted_as (Elementary st) h _ _ _ (omega (arith, count-cons is_table (Elementary st) (contents h))) (omega (arith, count-cons is_elementary (Elementary st) (contents h))) (omega (arith, count-cons is_null (Elementary st) (contents h)))

pub counts_table : (place : TablePlace) (h : List Event) → record (counts_of h) { tables = (counts_of h).tables + 1 } ≡ counts_of (Slot (Table place) ∷ h)
counts_table place h = counted_as (Table place) h _ _ _ (omega (arith, count-cons is_table (Table place) (contents h))) (omega (arith, count-cons is_elementary (Table place) (contents h))) (omega (arith, count-cons is_null (Table place) (contents h)))

pub counts_null : (h : List Event) → record (counts_of h) { null = (counts_of h).null + 1 } ≡ counts_of (Slot Null ∷ h)
counts_null h = counted_as Null h _ _ _ (omega (arith, count-cons is_table Null (contents h))) (omega (arith, count-cons is_elementary Null (contents h))) (omega (arith, count-cons is_null Null (contents h)))

one_kind : (c : Content) → cond (is_table c) 1 0 + cond (is_elementary c) 1 0 + cond (is_null c) 1 0 ≡ 1
one_kind Null = refl
one_kind (Table place) = refl
one_kind (Elementary st) = refl

-- each slot is of one kind
kinds : (cs : List Content) → count_by is_table cs + count_by is_elementary cs + count_by is_null cs ≡ length cs
kinds [] = refl
kinds (c ∷ cs) =
    let ih = kinds cs in
    let one : cond (is_table c) 1 0 + cond (is_elementary c) 1 0 + cond (is_null c) 1 0 ≡ 1 = one_kind c in
    omega (arith, count-cons is_table c cs, count-cons is_elementary c cs, count-cons is_null c cs)

-- what is kept says how many slots carried what
pub are_counts : (h : List Event) (c : Counts) → c ≡ counts_of h → IsCounts h c
are_counts h c is = record {
  tables = ap (λ (x : Counts). x.tables) is;
  elementary = ap (λ (x : Counts). x.elementary) is;
  null = ap (λ (x : Counts). x.null) is;
  whole = omega (arith, ap (λ (x : Counts). x.tables) is, ap (λ (x : Counts). x.elementary) is, ap (λ (x : Counts). x.null) is, kinds (contents h), length-contents h);
}

-- Sums over streams.

sum_filter : {X : Type 0} (f : X → ℕ) (s : X → Bool) (xs : List X) → sum_by f (filter s xs) ≡ sum_by (λ x. cond (s x) (f x) 0) xs
sum_filter f s [] = refl
sum_filter {X} f s (x ∷ xs) =
    let g : X → ℕ = λ y. cond (s y) (f y) 0 in
    let left : (b : Bool) → s x ≡ b → sum_by f (filter s (x ∷ xs)) ≡ sum_by f (cond b (x ∷ filter s xs) (filter s xs)) =
    λ b e. ap (λ c. sum_by f (cond c (x ∷ filter s xs) (filter s xs))) e in
    let right : (b : Bool) → s x ≡ b → sum_by g (x ∷ xs) ≡ cond b (f x) 0 + sum_by g xs = λ b e. sum_by-cons g x xs ∙ ap (λ c. cond c (f x) 0 + sum_by g xs) e in
    let ih = sum_filter f s xs in
    elim (cases_Bool (s x)) [
      | inl e ↦ left true e ∙ sum_by-cons f x (filter s xs) ∙ ap (λ n. f x + n) ih ∙ sym (right true e)
      | inr e ↦ left false e ∙ ih ∙ sym (zero-add (sum_by g xs)) ∙ sym (right false e)
    ]

sum_same : {X : Type 0} (f g : X → ℕ) (xs : List X) → ((j : ℕ) (x : X) → slice_get xs j ≡ Some x → g x ≡ f x) → sum_by g xs ≡ sum_by f xs
sum_same f g [] h = refl
sum_same f g (x ∷ xs) h = omega (arith, sum_by-cons f x xs, sum_by-cons g x xs, h 0 x refl, sum_same f g xs (λ j y at. h (suc j) y at))

-- where one place has so many more, so has the sum
sum_more : {X : Type 0} (f g : X → ℕ) (n : ℕ) (xs : List X) (k : ℕ) (y : X) → slice_get xs k ≡ Some y → g y ≡ f y + n
    → ((j : ℕ) (x : X) → j ≢ k → slice_get xs j ≡ Some x → g x ≡ f x) → sum_by g xs ≡ sum_by f xs + n
sum_more f g n [] k y at more h = cc
sum_more f g n (x ∷ xs) zero y at more h =
    let same : x ≡ y = same_Some x y at in
    let here : g x ≡ f x + n = ap g same ∙ more ∙ ap (λ z. f z + n) (sym same) in
    omega (arith, sum_by-cons f x xs, sum_by-cons g x xs, here, sum_same f g xs (λ j z is. h (suc j) z (omega arith) is))
sum_more f g n (x ∷ xs) (suc k) y at more h =
    omega (arith, sum_by-cons f x xs, sum_by-cons g x xs, h 0 x (omega arith) refl, sum_more f g n xs k y at more (λ j z ne is. h (suc j) z (omega arith) is))

-- what was taken of a stream and not sent, if it is of the input
abbrev left : ScheduleValue → ℕ → List Event → Stream → ℕ
left s i h st = cond (nat_eq st.input i) (length (unsent s st h)) 0

left_nothing : (s : ScheduleValue) (i : ℕ) (xs : List Stream) → sum_by (left s i []) xs ≡ 0
left_nothing s i [] = refl
left_nothing s i (x ∷ xs) =
    let none : left s i [] x ≡ 0 = elim (cases_Bool (nat_eq x.input i)) [ inl e ↦ rw e refl | inr e ↦ rw e refl ] in
    omega (arith, sum_by-cons (left s i []) x xs, left_nothing s i xs, none)

-- it waits or is dropped
abbrev waiting : ScheduleValue → ℕ → List Event → Stream → ℕ
waiting s i h st = cond (nat_eq st.input i) (length (queue s st h)) 0

abbrev gone : ScheduleValue → ℕ → List Event → Stream → ℕ
gone s i h st = cond (nat_eq st.input i) (length (dropped s st h)) 0

two_parts : (of_input in_force : Bool) (xs : List Stamped)
    → cond of_input (length xs) 0 ≡ cond of_input (length (cond in_force [] xs)) 0 + cond of_input (length (cond in_force xs [])) 0
two_parts true true xs = omega arith
two_parts true false xs = omega arith
two_parts false true xs = refl
two_parts false false xs = refl

sum_parts : (s : ScheduleValue) (i : ℕ) (h : List Event) (xs : List Stream) → sum_by (left s i h) xs ≡ sum_by (gone s i h) xs + sum_by (waiting s i h) xs
sum_parts s i h [] = refl
sum_parts s i h (x ∷ xs) =
    let here : left s i h x ≡ gone s i h x + waiting s i h x = two_parts (nat_eq x.input i) (has_stream (plan_in_force s h) x) (unsent s x h) in
    omega (arith, sum_by-cons (left s i h) x xs, sum_by-cons (gone s i h) x xs, sum_by-cons (waiting s i h) x xs, here, sum_parts s i h xs)

queued-waiting : (s : ScheduleValue) (i : ℕ) (h : List Event) → queued s i h ≡ sum_by (waiting s i h) (all_streams s)
queued-waiting s i h = sum_filter (λ (st : Stream). length (queue s st h)) (λ (st : Stream). nat_eq st.input i) (all_streams s)

dropped-gone : (s : ScheduleValue) (i : ℕ) (h : List Event) → dropped_of s i h ≡ sum_by (gone s i h) (all_streams s)
dropped-gone s i h = sum_filter (λ (st : Stream). length (dropped s st h)) (λ (st : Stream). nat_eq st.input i) (all_streams s)

more_if : (b : Bool) (m n : ℕ) → m ≡ n + 1 → cond b m 0 ≡ cond b n 0 + cond b 1 0
more_if true m n e = e
more_if false m n e = omega arith

-- one more is left of an input where a packet was taken for a stream of it
left_took : (s : ScheduleValue) (i j : ℕ) (h : List Event) (item : Stamped) (k : ℕ) (st : Stream) → IsMultiplexSchedule s → IsLawful s h → IsAt s k st → IsTakenFor s h j item st
    → sum_by (left s i (Took j item ∷ h)) (all_streams s) ≡ sum_by (left s i h) (all_streams s) + cond (nat_eq st.input i) 1 0
left_took s i j h item k st ok law at taker =
    let grown : length (unsent s st (Took j item ∷ h)) ≡ length (unsent s st h) + 1 =
    ap length (queues.unsent_grown s h j item st ok law taker) ∙ length-append (unsent s st h) (item ∷ []) in
    sum_more (left s i h) (left s i (Took j item ∷ h)) (cond (nat_eq st.input i) 1 0) (all_streams s) k st at (more_if (nat_eq st.input i) _ _ grown)
    (λ m x ne there.
    ap (λ b. cond (nat_eq x.input i) (length (drop (sent x h) (cond b (taken_for s x h ++ item ∷ []) (taken_for s x h)))) 0)
    (queues.not_mapped s h j item st k ok at taker m x ne there))

-- one less where a packet of a stream of it was sent
left_sent : (s : ScheduleValue) (i : ℕ) (h : List Event) (item : Stamped) (k : ℕ) (st : Stream) → IsMultiplexSchedule s → IsAt s k st → slice_get (queue s st h) 0 ≡ Some item
    → sum_by (left s i h) (all_streams s) ≡ sum_by (left s i (Slot (Elementary st) ∷ h)) (all_streams s) + cond (nat_eq st.input i) 1 0
left_sent s i h item k st ok at head =
    let shrunk : length (unsent s st h) ≡ length (unsent s st (Slot (Elementary st) ∷ h)) + 1 =
    (let l = slice_get_within (unsent s st h) 0 item (queues.head_in_force s st h item head).1 in
    let once : sent st (Slot (Elementary st) ∷ h) ≡ sent st h + 1 = ap (λ b. cond b (sent st h + 1) (sent st h)) (eq-eqb st.output_pid st.output_pid refl) in
    omega (arith, once, length-drop (sent st h) (taken_for s st h), length-drop (sent st (Slot (Elementary st) ∷ h)) (taken_for s st h))) in
    sum_more (left s i (Slot (Elementary st) ∷ h)) (left s i h) (cond (nat_eq st.input i) 1 0) (all_streams s) k st at (more_if (nat_eq st.input i) _ _ shrunk)
    (λ m x ne there.
    ap (λ b. cond (nat_eq x.input i) (length (drop (cond b (sent x h + 1) (sent x h)) (taken_for s x h))) 0)
    (sym (ne_eqb st.output_pid x.output_pid (λ same. ne (one_out s m k x st ok there at (sym same))))))

taken_more : (i j : ℕ) (item : Stamped) (h : List Event) → length (taken i (Took j item ∷ h)) ≡ length (taken i h) + cond (nat_eq j i) 1 0
taken_more i j item h =
    elim (cases_Bool (nat_eq j i)) [
      | inl e ↦ rw e (length-append (taken i h) (item ∷ []))
      | inr e ↦ rw e (omega arith)
    ]

sent_or_left : (s : ScheduleValue) (i : ℕ) (h : List Event) → IsMultiplexSchedule s → IsLawful s h
    → length (taken i h) ≡ count_by (is_of_input i) (contents h) + sum_by (left s i h) (all_streams s)
sent_or_left s i [] ok law = omega (arith, left_nothing s i (all_streams s))
sent_or_left s i (Took j item ∷ h) ok law =
    let ih = sent_or_left s i h ok law.0 in
    let to = taken_for_of s h j item ok law.1 in
    let taker = to.1 in
    let input : j ≡ to.0.input = (goes_both s to.0 j item taker.mapped).0 in
    omega (arith, ih, taken_more i j item h, left_took s i j h item taker.stream.0 to.0 ok law.0 taker.stream.1 taker, ap {B = ℕ} (λ n. cond (nat_eq n i) 1 0) input)
sent_or_left s i (Full j st ∷ h) ok law = sent_or_left s i h ok law.0
sent_or_left s i (Early j ∷ h) ok law = sent_or_left s i h ok law.0
sent_or_left s i (Switch number ∷ h) ok law = sent_or_left s i h ok law.0
sent_or_left s i (Close j ∷ h) ok law = sent_or_left s i h ok law.0
sent_or_left s i (Slot Null ∷ h) ok law = sent_or_left s i h ok law.0
sent_or_left s i (Slot (Table place) ∷ h) ok law = sent_or_left s i h ok law.0
sent_or_left s i (Slot (Elementary st) ∷ h) ok law =
    let ih = sent_or_left s i h ok law.0 in
    let chosen = stream_choice s h st law.1.content in
    let has = has_in_force s h st ok law.0 chosen.1.stream in
    omega (arith, ih, count-cons (is_of_input i) (Elementary st) (contents h), left_sent s i h chosen.0 has.0 st ok has.1 chosen.1.head)

-- what was taken of an input was sent, or dropped, or waits
pub taken_in_parts : (s : ScheduleValue) (i : ℕ) (h : List Event) → IsMultiplexSchedule s → IsLawful s h
    → length (taken i h) ≡ count_by (is_of_input i) (contents h) + dropped_of s i h + queued s i h
taken_in_parts s i h ok law =
    omega (arith, sent_or_left s i h ok law, sum_parts s i h (all_streams s), queued-waiting s i h, dropped-gone s i h)

-- What is dropped.

-- of a stream in force nothing is dropped, and of another all that wasn't sent
pub none_dropped : (s : ScheduleValue) (st : Stream) (h : List Event) → has_stream (plan_in_force s h) st ≡ true → dropped s st h ≡ []
none_dropped s st h has = ap (λ b. cond b [] (unsent s st h)) has

pub all_dropped : (s : ScheduleValue) (st : Stream) (h : List Event) → has_stream (plan_in_force s h) st ≡ false → dropped s st h ≡ unsent s st h
all_dropped s st h without = ap (λ b. cond b [] (unsent s st h)) without

-- where the same is dropped of each stream
same_dropped : (s : ScheduleValue) (i : ℕ) (h g : List Event) → ((k : ℕ) (st : Stream) → IsAt s k st → dropped s st g ≡ dropped s st h) → dropped_of s i g ≡ dropped_of s i h
same_dropped s i h g each =
    dropped-gone s i g
    ∙ sum_same (gone s i h) (gone s i g) (all_streams s) (λ k st at. ap (λ (xs : List Stamped). cond (nat_eq st.input i) (length xs) 0) (each k st at))
    ∙ sym (dropped-gone s i h)

-- another stream's packet changes nothing of it
other_took : (s : ScheduleValue) (h : List Event) (j : ℕ) (item : Stamped) (su : Stream) → is_mapped_to s su j item ≡ false → dropped s su (Took j item ∷ h) ≡ dropped s su h
other_took s h j item su unmapped =
    ap (λ b. cond (has_stream (plan_in_force s h) su) [] (drop (sent su h) (cond b (taken_for s su h ++ item ∷ []) (taken_for s su h)))) unmapped

-- a packet of a stream in force is not dropped
pub took_in_force : (s : ScheduleValue) (i j : ℕ) (h : List Event) (item : Stamped) (st : Stream) → IsMultiplexSchedule s → IsTakenFor s h j item st
    → has_stream (plan_in_force s h) st ≡ true → dropped_of s i (Took j item ∷ h) ≡ dropped_of s i h
took_in_force s i j h item st ok taker has =
    same_dropped s i h (Took j item ∷ h) (λ k su at.
    elim (cases_Bool (has_stream (plan_in_force s h) su)) [
      | inl e ↦ none_dropped s su (Took j item ∷ h) e ∙ sym (none_dropped s su h e)
      | inr e ↦
          other_took s h j item su
          (false_from_ne_true _ (λ m.
          let same : su ≡ st = one_stream s su st j item ok (k, at) taker.stream m taker.mapped in
          false≢true (sym e ∙ ap (has_stream (plan_in_force s h)) same ∙ has)))
    ])

-- a packet of another one is
pub took_late : (s : ScheduleValue) (i j : ℕ) (h : List Event) (item : Stamped) (st : Stream) → IsMultiplexSchedule s → IsLawful s h → IsTakenFor s h j item st
    → has_stream (plan_in_force s h) st ≡ false → dropped_of s i (Took j item ∷ h) ≡ dropped_of s i h + cond (nat_eq st.input i) 1 0
took_late s i j h item st ok law taker without =
    let k = taker.stream.0 in
    let grown : length (dropped s st (Took j item ∷ h)) ≡ length (dropped s st h) + 1 =
    omega (
      arith,
      ap length (all_dropped s st (Took j item ∷ h) without),
      ap length (all_dropped s st h without),
      ap length (queues.unsent_grown s h j item st ok law taker),
      length-append (unsent s st h) (item ∷ []),
    ) in
    dropped-gone s i (Took j item ∷ h)
    ∙ sum_more (gone s i h) (gone s i (Took j item ∷ h)) (cond (nat_eq st.input i) 1 0) (all_streams s) k st taker.stream.1 (more_if (nat_eq st.input i) _ _ grown)
    (λ m x ne there.
    ap (λ (xs : List Stamped). cond (nat_eq x.input i) (length xs) 0)
    (other_took s h j item x (queues.not_mapped s h j item st k ok taker.stream.1 taker m x ne there)))
    ∙ ap (λ n. n + cond (nat_eq st.input i) 1 0) (sym (dropped-gone s i h))

-- a slot drops nothing
pub sent_in_force : (s : ScheduleValue) (i : ℕ) (h : List Event) (st : Stream) (j : ℕ) → IsMultiplexSchedule s → IsAt s j st
    → has_stream (plan_in_force s h) st ≡ true → dropped_of s i (Slot (Elementary st) ∷ h) ≡ dropped_of s i h
sent_in_force s i h st j ok here has =
    same_dropped s i h (Slot (Elementary st) ∷ h) (λ k su at.
    elim (cases_Bool (has_stream (plan_in_force s h) su)) [
      | inl e ↦ none_dropped s su (Slot (Elementary st) ∷ h) e ∙ sym (none_dropped s su h e)
      | inr e ↦
          let other : nat_eq st.output_pid su.output_pid ≡ false = ne_eqb st.output_pid su.output_pid (λ same.
          false≢true (sym e ∙ ap (has_stream (plan_in_force s h)) (sym (same_stream s j k st su ok here at same)) ∙ has)) in
          ap (λ b. cond (has_stream (plan_in_force s h) su) [] (drop (cond b (sent su h + 1) (sent su h)) (taken_for s su h))) other
    ])

-- before the first event nothing is
pub dropped_at_first : (s : ScheduleValue) (i : ℕ) → dropped_of s i [] ≡ 0
dropped_at_first s i =
    omega (arith, dropped-gone s i [], sum_parts s i [] (all_streams s), left_nothing s i (all_streams s))

-- what a switch to a plan drops of an input: what waits of its streams that the plan doesn't have
abbrev pub leaves : PlanValue → (Stream → QueueValue) → ℕ → Stream → ℕ
leaves p queue_for i st = cond (nat_eq st.input i) (cond (has_stream p st) 0 (length (queue_for st).items)) 0

sum_both : {X : Type 0} (f g d : X → ℕ) (xs : List X) → ((j : ℕ) (x : X) → slice_get xs j ≡ Some x → f x ≡ g x + d x) → sum_by f xs ≡ sum_by g xs + sum_by d xs
sum_both f g d [] each = refl
sum_both f g d (x ∷ xs) each =
    omega (arith, sum_by-cons f x xs, sum_by-cons g x xs, sum_by-cons d x xs, each 0 x refl, sum_both f g d xs (λ j y at. each (suc j) y at))

more_by : (b : Bool) (m n d : ℕ) → m ≡ n + d → cond b m 0 ≡ cond b n 0 + cond b d 0
more_by true m n d e = e
more_by false m n d e = refl

-- of one stream
switch_one : (s : ScheduleValue) (k : ℕ) (st : Stream) (h : List Event) (number : ℕ) → IsMultiplexSchedule s → IsLawful s (Switch number ∷ h) → IsAt s k st
    → length (dropped s st (Switch number ∷ h)) ≡ length (dropped s st h) + cond (has_stream (plan_at s number) st) 0 (length (queue s st h))
switch_one s k st h number ok law at =
    let next : number ≡ in_force h + 1 = law.1.next in
    let due = due_is s h law.1.due in
    elim (cases_Bool (has_stream (plan_at s number) st)) [
      | inl has ↦
          let after = ap length (none_dropped s st (Switch number ∷ h) has) in
          elim (cases_Bool (has_stream (plan_in_force s h) st)) [
            | inl had ↦ rw has (omega (arith, after, ap length (none_dropped s st h had)))
            | inr none ↦
                let nothing = queues.unborn s k st h number ok law.0 at (omega (arith, next)) (omega (arith, next, due.0)) has none in
                let before = ap length (all_dropped s st h none) in
                let rest = length-drop (sent st h) (taken_for s st h) in
                rw has (omega (arith, after, before, rest, ap length nothing))
          ]
      | inr goes ↦
          let after = ap length (all_dropped s st (Switch number ∷ h) goes) in
          elim (cases_Bool (has_stream (plan_in_force s h) st)) [
            | inl had ↦ rw goes (omega (arith, after, ap length (none_dropped s st h had), ap length (queues.queue_is s st h had)))
            | inr none ↦ rw goes (omega (arith, after, ap length (all_dropped s st h none), ap length (queues.queue_gone s st h none)))
          ]
    ]

pub switch_drops : (s : ScheduleValue) (i : ℕ) (h : List Event) (number : ℕ) → IsMultiplexSchedule s → IsLawful s (Switch number ∷ h)
    → dropped_of s i (Switch number ∷ h) ≡ dropped_of s i h + sum_by (leaves (plan_at s number) (queue_of s h) i) (all_streams s)
switch_drops s i h number ok law =
    dropped-gone s i (Switch number ∷ h)
    ∙ sum_both (gone s i (Switch number ∷ h)) (gone s i h) (leaves (plan_at s number) (queue_of s h) i) (all_streams s)
    (λ k st at. more_by (nat_eq st.input i) _ _ _ (switch_one s k st h number ok law at))
    ∙ ap (λ n. n + sum_by (leaves (plan_at s number) (queue_of s h) i) (all_streams s)) (sym (dropped-gone s i h))

-- What waits.

waiting_along : (s : ScheduleValue) (i : ℕ) (h : List Event) (xs : List Stream) → waiting_in i xs (map (queue_of s h) xs) ≡ sum_by (waiting s i h) xs
waiting_along s i h [] = refl
waiting_along s i h (x ∷ xs) = omega (arith, sum_by-cons (waiting s i h) x xs, waiting_along s i h xs)

-- so many packets of an input, by the queues
pub waiting_is : (s : ScheduleValue) (i : ℕ) (h : List Event) → waiting_in i (all_streams s) (map (queue_of s h) (all_streams s)) ≡ queued s i h
waiting_is s i h = waiting_along s i h (all_streams s) ∙ sym (queued-waiting s i h)

-- there are 64 streams a plan at most
length_later : (known : List Stream) (ws : List SpanValue) → All (λ (w : SpanValue). length w.plan.request.streams ≤ 64) ws → length (with_later known ws) ≤ length known + 64 * length ws
length_later known [] all = omega arith
length_later known (w ∷ ws) all =
    let streams = w.plan.request.streams in
    let test : Stream → Bool = λ (st : Stream). not (has_output known st.output_pid) in
    omega (
      arith,
      all 0 w (omega arith),
      length_later (known ++ new_of known streams) ws (λ k d l. all (suc k) d (omega arith)),
      length-append known (new_of known streams),
      length-filter test streams,
      count_by-le-length test streams,
    )

pub streams_within : (s : ScheduleValue) → IsMultiplexSchedule s → length (all_streams s) ≤ 1088
streams_within s ok =
    let first = (first_request s ok).stream_count in
    let count = ok.schedule.slots.count in
    let all : All (λ (w : SpanValue). length w.plan.request.streams ≤ 64) s.later =
    λ k d l.
    let built = (ok.plans (suc k) d (omega arith)).request.stream_count in
    omega (arith, built) in
    omega (arith, first, count, length_later s.first.request.streams s.later all)

-- so what waits of an input has a bound
pub queued_within : (s : ScheduleValue) (i : ℕ) (h : List Event) → IsMultiplexSchedule s → IsLawful s h → queued s i h ≤ 1114112
queued_within s i h ok law =
    let few : (b : Bool) (n : ℕ) → n ≤ 1024 → cond b n 0 ≤ 1024 = λ b n l. elim (cases_Bool b) [ inl e ↦ rw e l | inr e ↦ rw e (omega arith) ] in
    let all : All (λ (st : Stream). waiting s i h st ≤ 1024) (all_streams s) =
    λ k d l.
    let st = get_or (all_streams s) k d in
    let bound = queues.queue_bound s st h ok law (k, slice_get-get_or (all_streams s) k d l) in
    let most = (first_request s ok).queue in
    few (nat_eq st.input i) (length (queue s st h)) (omega (arith, bound, most)) in
    omega (arith, queued-waiting s i h, sum_by-le (waiting s i h) 1024 (all_streams s) all, streams_within s ok)
