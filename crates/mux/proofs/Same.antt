-- Of two lawful histories, faithful to the same lists, one's emitted packets begin the other's.
use Rattle.std.proofs.Common.{ℕ, suc, ◌+◌, ◌<◌, ◌≤◌, ◌≡◌, ◌⊎◌, Bool, true, false, ◌&&◌, ◌||◌, cond, ltb, nat_eq, List, [], ◌∷◌, ◌++◌, length, drop, Option, Some, None, refl, ap, ◌∙◌, sym, subst, arith, inl, inr, length-append, length-drop, append_assoc, eq-eqb}
use Rattle.std.specs.List.{slice_get, filter, Contains}
use Rattle.std.proofs.lemmas.List.{append_cancel_left, append-nil}
use Rattle.std.proofs.lemmas.List.Elements.{filter-append}
use Rattle.std.proofs.lemmas.Bool.{cases_Bool, or_cases, eqb-true, ltb-true, false≢true, cases_order}
use Rattle.tspkt.specs.declared.stamped.Stamped.{Stamped}
use Rattle.tspkt.specs.Packet.{pid_of}
use Rattle.request.specs.declared.stream.Stream.{Stream}
use Rattle.mux.specs.declared.content.Content.{Content}
use Rattle.mux.specs.declared.content.Content.TheVariants.{Null, Elementary, Table}
use Rattle.mux.specs.declared.event.Event.{Event}
use Rattle.mux.specs.declared.event.Event.TheVariants.{Took, Full, Early, Close, Slot, Switch}
use Rattle.schedule.specs.Schedule.{ScheduleValue, span_at, plan_at, plan_for, number_for, number_in_slot, slot_time}
use Rattle.emission.specs.Spans.{table_in}
use Rattle.schedule.specs.Laws.{IsMultiplexSchedule}
use Rattle.mux.specs.History.{has_stream, in_force, plan_in_force, is_mapped_to, taken, taken_for, sent, queue, is_of_stream, slots, last_stamp, is_closed, full_noted, early_noted, emitted, packet_behind, sent_packet}
use Rattle.mux.specs.Lawful.{IsLawful, IsEligible, IsChoice, IsContent, IsContentAt, AllReady, is_ready, table_due}
use Rattle.mux.specs.Faithful.{PacketLists, IsNext, IsFaithful, IsPrefix, OutputsAgree}
use Rattle.rounds.specs.declared.table_place.TablePlace.{TablePlace}
use Rattle.emission.specs.Emission.{table_packet_at, counted_behind}
use Rattle.emission.specs.TableBuffers.{BufferFits}
use Rattle.mux.proofs.Contents.{stream_choice}
use Rattle.mux.proofs.Plans.{Has, same_stream, stream_in, of_plan, first_request}
use Rattle.mux.proofs.Force.{has_in_force, in_force_is}
use Rattle.mux.proofs.Refusals.{taken_for_of, goes_both, one_stream}
use Rattle.mux.proofs.Queues.{queue_bound, queue_is, head_in_force}
use Rattle.mux.proofs.Fronts.{comparable, AllLater, Rises, last_of, last_of-push, Rises-push, Rises-rest, AllLater-rises, AllLater-filter, head_kept, head_due}

push_filter : (g : Stamped → Bool) (xs : List Stamped) (x : Stamped) → filter g (xs ++ x ∷ []) ≡ cond (g x) (filter g xs ++ x ∷ []) (filter g xs)
push_filter g xs x = filter-append g xs (x ∷ []) ∙ elim (cases_Bool (g x)) [ inl e ↦ rw e refl | inr e ↦ rw e (append-nil (filter g xs)) ]

-- what was taken of a stream, by what was taken of its input
pub taken_for_is : (s : ScheduleValue) (st : Stream) (h : List Event) → taken_for s st h ≡ filter (is_mapped_to s st st.input) (taken st.input h)
taken_for_is s st [] = refl
taken_for_is s st (Took j item ∷ h) =
    let g : Stamped → Bool = is_mapped_to s st st.input in
    elim (cases_Bool (nat_eq j st.input)) [
      | inl e ↦
          (let pid : Bool = nat_eq (pid_of item.packet) st.pid in
          let has : Bool = has_stream (plan_for s item.stamp) st in
          let of : Bool → List Stamped → List Stamped = λ b xs. cond b (xs ++ item ∷ []) xs in
          let pq : g item ≡ (pid && has) = ap (λ b. (b && pid) && has) (eq-eqb st.input st.input refl) in
          rw e (ap (of (pid && has)) (taken_for_is s st h) ∙ ap (λ b. of b (filter g (taken st.input h))) (sym pq) ∙ sym (push_filter g (taken st.input h) item)))
      | inr e ↦ rw e (taken_for_is s st h)
    ]
taken_for_is s st (Full j su ∷ h) = taken_for_is s st h
taken_for_is s st (Early j ∷ h) = taken_for_is s st h
taken_for_is s st (Switch number ∷ h) = taken_for_is s st h
taken_for_is s st (Close j ∷ h) = taken_for_is s st h
taken_for_is s st (Slot c ∷ h) = taken_for_is s st h

-- the last stamp taken
pub last_stamp_is : (i : ℕ) (h : List Event) → last_stamp i h ≡ last_of 0 (taken i h)
last_stamp_is i [] = refl
last_stamp_is i (Took j item ∷ h) = elim (cases_Bool (nat_eq j i)) [ inl e ↦ rw e (sym (last_of-push 0 (taken i h) item)) | inr e ↦ rw e (last_stamp_is i h) ]
last_stamp_is i (Full j su ∷ h) = last_stamp_is i h
last_stamp_is i (Early j ∷ h) = last_stamp_is i h
last_stamp_is i (Switch number ∷ h) = last_stamp_is i h
last_stamp_is i (Close j ∷ h) = last_stamp_is i h
last_stamp_is i (Slot c ∷ h) = last_stamp_is i h

-- the stamps of an input never go back
rising : (s : ScheduleValue) (i : ℕ) (h : List Event) → IsMultiplexSchedule s → IsLawful s h → Rises 0 (taken i h)
rising s i [] ok law = tt
rising s i (Took j item ∷ h) ok law =
    elim (cases_Bool (nat_eq j i)) [
      | inl e ↦
          (let same : j ≡ i = eqb-true j i e in
          let later = (taken_for_of s h j item ok law.1).1.later in
          let l : last_of 0 (taken i h) ≤ item.stamp = omega (arith, last_stamp_is i h, ap (λ k. last_stamp k h) same) in
          rw e (Rises-push 0 (taken i h) item (rising s i h ok law.0) l))
      | inr e ↦ rw e (rising s i h ok law.0)
    ]
rising s i (Full j su ∷ h) ok law = rising s i h ok law.0
rising s i (Early j ∷ h) ok law = rising s i h ok law.0
rising s i (Switch number ∷ h) ok law = rising s i h ok law.0
rising s i (Close j ∷ h) ok law = rising s i h ok law.0
rising s i (Slot c ∷ h) ok law = rising s i h ok law.0

-- each of them belongs to a plan that has come into force
abbrev pub AllBegun : ScheduleValue → ℕ → List Stamped → Type 0
AllBegun s n [] = Unit {0}
AllBegun s n (x ∷ xs) = (number_for s x.stamp ≤ n) × AllBegun s n xs

begun-push : (s : ScheduleValue) (n : ℕ) (xs : List Stamped) (x : Stamped) → AllBegun s n xs → number_for s x.stamp ≤ n → AllBegun s n (xs ++ x ∷ [])
begun-push s n [] x all l = (l, tt)
begun-push s n (y ∷ xs) x all l = (all.0, begun-push s n xs x all.1 l)

begun-more : (s : ScheduleValue) (n m : ℕ) (xs : List Stamped) → n ≤ m → AllBegun s n xs → AllBegun s m xs
begun-more s n m [] l all = tt
begun-more s n m (x ∷ xs) l all = let here = all.0 in (omega (arith, l, here), begun-more s n m xs l all.1)

pub begun-at : (s : ScheduleValue) (n : ℕ) (xs : List Stamped) (x : Stamped) (e : List Stamped) → AllBegun s n (xs ++ x ∷ e) → number_for s x.stamp ≤ n
begun-at s n [] x e all = all.0
begun-at s n (y ∷ xs) x e all = begun-at s n xs x e all.1

-- what was taken is of plans up to the one in force
pub all_begun : (s : ScheduleValue) (i : ℕ) (h : List Event) → IsMultiplexSchedule s → IsLawful s h → AllBegun s (in_force h) (taken i h)
all_begun s i [] ok law = tt
all_begun s i (Took j item ∷ h) ok law =
    elim (cases_Bool (nat_eq j i)) [
      | inl e ↦ rw e (begun-push s (in_force h) (taken i h) item (all_begun s i h ok law.0) (taken_for_of s h j item ok law.1).1.begun)
      | inr e ↦ rw e (all_begun s i h ok law.0)
    ]
all_begun s i (Full j su ∷ h) ok law = all_begun s i h ok law.0
all_begun s i (Early j ∷ h) ok law = all_begun s i h ok law.0
all_begun s i (Close j ∷ h) ok law = all_begun s i h ok law.0
all_begun s i (Slot c ∷ h) ok law = all_begun s i h ok law.0
all_begun s i (Switch number ∷ h) ok law =
    let next : number ≡ in_force h + 1 = law.1.next in
    begun-more s (in_force h) number (taken i h) (omega (arith, next)) (all_begun s i h ok law.0)

-- what was taken of an input is a beginning of its list
pub taken_begins : (s : ScheduleValue) (lists : PacketLists) (i : ℕ) (h : List Event) → IsFaithful s lists h → IsPrefix (taken i h) (lists i)
taken_begins s lists i [] f = (lists i, refl)
taken_begins s lists i (Took j item ∷ h) f =
    elim (cases_Bool (nat_eq j i)) [
      | inl e ↦ (let same : j ≡ i = eqb-true j i e in let P : ℕ → Type 0 = λ k. lists k ≡ taken k h ++ item ∷ f.1.0 in
          rw e (f.1.0, subst P same f.1.1 ∙ sym (append_assoc (taken i h) (item ∷ []) f.1.0)))
      | inr e ↦ rw e (taken_begins s lists i h f.0)
    ]
taken_begins s lists i (Full j su ∷ h) f = taken_begins s lists i h f.0
taken_begins s lists i (Early j ∷ h) f = taken_begins s lists i h f.0
taken_begins s lists i (Switch number ∷ h) f = taken_begins s lists i h f
taken_begins s lists i (Close j ∷ h) f = taken_begins s lists i h f.0
taken_begins s lists i (Slot c ∷ h) f = taken_begins s lists i h f

-- all of a closed input's list was taken
pub closed_all : (s : ScheduleValue) (lists : PacketLists) (i : ℕ) (h : List Event) → IsMultiplexSchedule s → IsLawful s h → IsFaithful s lists h → is_closed i h ≡ true → lists i ≡ taken i h
closed_all s lists i [] ok law f c = absurd (false≢true c)
closed_all s lists i (Took j item ∷ h) ok law f c =
    elim (cases_Bool (nat_eq j i)) [
      | inl e ↦ (let same : j ≡ i = eqb-true j i e in absurd (false≢true (sym (taken_for_of s h j item ok law.1).1.open_ ∙ ap (λ k. is_closed k h) same ∙ c)))
      | inr e ↦ rw e (closed_all s lists i h ok law.0 f.0 c)
    ]
closed_all s lists i (Full j su ∷ h) ok law f c = closed_all s lists i h ok law.0 f.0 c
closed_all s lists i (Early j ∷ h) ok law f c = closed_all s lists i h ok law.0 f.0 c
closed_all s lists i (Switch number ∷ h) ok law f c = closed_all s lists i h ok law.0 f c
closed_all s lists i (Close j ∷ h) ok law f c =
    elim (or_cases (nat_eq j i) (is_closed i h) c) [
      | inl e ↦ (let P : ℕ → Type 0 = λ k. lists k ≡ taken k h in subst P (eqb-true j i e) f.1)
      | inr e ↦ closed_all s lists i h ok law.0 f.0 e
    ]
closed_all s lists i (Slot c ∷ h) ok law f d = closed_all s lists i h ok law.0 f d

-- what a noted full queue says until the next slot or switch
pub record Noted (s : ScheduleValue) (lists : PacketLists) (i : ℕ) (h : List Event) : Type 0 where
  pub st : Stream
  pub has : Has s st
  pub has_it : has_stream (plan_in_force s h) st ≡ true
  pub item : Stamped
  pub next : IsNext lists i h item
  pub goes : is_mapped_to s st i item ≡ true
  pub full : length (queue s st h) ≡ s.first.request.queue

same_next : (lists : PacketLists) (i : ℕ) (h : List Event) (a b : Stamped) → IsNext lists i h a → IsNext lists i h b → a ≡ b
same_next lists i h a b x y = let e : a ∷ x.0 ≡ b ∷ y.0 = append_cancel_left (taken i h) (a ∷ x.0) (b ∷ y.0) (sym x.1 ∙ y.1) in cc

-- a packet of another input changes no queue of a stream of this one
other_input : (s : ScheduleValue) (h : List Event) (i j : ℕ) (st : Stream) (item : Stamped) → nat_eq j i ≡ false → i ≡ st.input → queue s st (Took j item ∷ h) ≡ queue s st h
other_input s h i j st item other input =
    let unmapped : is_mapped_to s st j item ≡ false = ap (λ b. (b && nat_eq (pid_of item.packet) st.pid) && has_stream (plan_for s item.stamp) st) (ap (nat_eq j) (sym input) ∙ other) in
    ap (λ b. cond (has_stream (plan_in_force s h) st) (drop (sent st h) (cond b (taken_for s st h ++ item ∷ []) (taken_for s st h))) []) unmapped

pub noted : (s : ScheduleValue) (lists : PacketLists) (i : ℕ) (h : List Event) → IsMultiplexSchedule s → IsLawful s h → IsFaithful s lists h → full_noted i h ≡ true → Noted s lists i h
noted s lists i [] ok law f n = absurd (false≢true n)
noted s lists i (Took j item ∷ h) ok law f n =
    let ih = noted s lists i h ok law.0 f.0 n in
    elim (cases_Bool (nat_eq j i)) [
      | inl e ↦
          (let same : j ≡ i = eqb-true j i e in
          let to = taken_for_of s h j item ok law.1 in
          let P : ℕ → Type 0 = λ k. IsNext lists k h item in
          let it : ih.item ≡ item = same_next lists i h ih.item item ih.next (subst P same f.1) in
          let Q : ℕ → Type 0 = λ k. is_mapped_to s to.0 k item ≡ true in
          let R : Stamped → Type 0 = λ x. is_mapped_to s ih.st i x ≡ true in
          let one : ih.st ≡ to.0 = one_stream s ih.st to.0 i item ok ih.has to.1.stream (subst R it ih.goes) (subst Q same to.1.mapped) in
          let S : Stream → Type 0 = λ x. length (queue s x h) ≡ s.first.request.queue in
          let full : length (queue s to.0 h) ≡ s.first.request.queue = subst S one ih.full in
          absurd (to.1.not_full full))
      | inr e ↦ record {
        st = ih.st;
        has = ih.has;
        has_it = ih.has_it;
        item = ih.item;
        next = rw e ih.next;
        goes = ih.goes;
        full = ap length (other_input s h i j ih.st item e (goes_both s ih.st i ih.item ih.goes).0) ∙ ih.full;
      }
    ]
noted s lists i (Full j su ∷ h) ok law f n =
    elim (or_cases (nat_eq j i) (full_noted i h) n) [
      | inl e ↦
          (let same : j ≡ i = eqb-true j i e in
          let P : ℕ → Type 0 = λ k. IsNext lists k h f.1.0 in
          let Q : ℕ → Type 0 = λ k. is_mapped_to s su k f.1.0 ≡ true in
          record {
            st = su;
            has = has_in_force s h su ok law.0 law.1.stream;
            has_it = of_plan s (in_force h) su law.1.stream;
            item = f.1.0;
            next = subst P same f.1.1;
            goes = subst Q same f.1.2;
            full = law.1.full;
          })
      | inr e ↦ (let ih = noted s lists i h ok law.0 f.0 e in record { st = ih.st; has = ih.has; has_it = ih.has_it; item = ih.item; next = ih.next; goes = ih.goes; full = ih.full })
    ]
noted s lists i (Early j ∷ h) ok law f n =
    let ih = noted s lists i h ok law.0 f.0 n in record { st = ih.st; has = ih.has; has_it = ih.has_it; item = ih.item; next = ih.next; goes = ih.goes; full = ih.full }
noted s lists i (Close j ∷ h) ok law f n =
    let ih = noted s lists i h ok law.0 f.0 n in record { st = ih.st; has = ih.has; has_it = ih.has_it; item = ih.item; next = ih.next; goes = ih.goes; full = ih.full }
noted s lists i (Switch number ∷ h) ok law f n = absurd (false≢true n)
noted s lists i (Slot c ∷ h) ok law f n = absurd (false≢true n)

-- and what a noted early packet says
pub record NotedEarly (s : ScheduleValue) (lists : PacketLists) (i : ℕ) (h : List Event) : Type 0 where
  pub item : Stamped
  pub next : IsNext lists i h item
  pub early : in_force h < number_for s item.stamp

pub noted_early : (s : ScheduleValue) (lists : PacketLists) (i : ℕ) (h : List Event) → IsMultiplexSchedule s → IsLawful s h → IsFaithful s lists h → early_noted i h ≡ true → NotedEarly s lists i h
noted_early s lists i [] ok law f n = absurd (false≢true n)
noted_early s lists i (Took j item ∷ h) ok law f n =
    let ih = noted_early s lists i h ok law.0 f.0 n in
    elim (cases_Bool (nat_eq j i)) [
      | inl e ↦
          (let same : j ≡ i = eqb-true j i e in
          let begun = (taken_for_of s h j item ok law.1).1.begun in
          let P : ℕ → Type 0 = λ k. IsNext lists k h item in
          let it : ih.item ≡ item = same_next lists i h ih.item item ih.next (subst P same f.1) in
          let early = ih.early in
          absurd (omega (arith, early, begun, ap (λ (x : Stamped). number_for s x.stamp) it)))
      | inr e ↦ record { item = ih.item; next = rw e ih.next; early = ih.early }
    ]
noted_early s lists i (Early j ∷ h) ok law f n =
    elim (or_cases (nat_eq j i) (early_noted i h) n) [
      | inl e ↦
          (let P : ℕ → Type 0 = λ k. IsNext lists k h f.1.0 in
          record { item = f.1.0; next = subst P (eqb-true j i e) f.1.1; early = ltb-true (in_force h) (number_for s f.1.0.stamp) f.1.2 })
      | inr e ↦ (let ih = noted_early s lists i h ok law.0 f.0 e in record { item = ih.item; next = ih.next; early = ih.early })
    ]
noted_early s lists i (Full j su ∷ h) ok law f n = let ih = noted_early s lists i h ok law.0 f.0 n in record { item = ih.item; next = ih.next; early = ih.early }
noted_early s lists i (Close j ∷ h) ok law f n = let ih = noted_early s lists i h ok law.0 f.0 n in record { item = ih.item; next = ih.next; early = ih.early }
noted_early s lists i (Switch number ∷ h) ok law f n = absurd (false≢true n)
noted_early s lists i (Slot c ∷ h) ok law f n = absurd (false≢true n)

-- more was taken of a stream where its input gave one more packet of it
pub longer : (s : ScheduleValue) (st : Stream) (a b : List Event) (x : Stamped) (e : List Stamped) → taken st.input b ≡ taken st.input a ++ x ∷ e → is_mapped_to s st st.input x ≡ true
    → length (taken_for s st a) + 1 ≤ length (taken_for s st b)
longer s st a b x e more goes =
    let g : Stamped → Bool = is_mapped_to s st st.input in
    let one : length (filter g (x ∷ e)) ≡ suc (length (filter g e)) = ap (λ c. length (cond c (x ∷ filter g e) (filter g e))) goes in
    let both = ap length (taken_for_is s st b ∙ ap (filter g) more ∙ filter-append g (taken st.input a) (x ∷ e)) in
    omega (arith, ap length (taken_for_is s st a), length-append (filter g (taken st.input a)) (filter g (x ∷ e)))

-- why an input is ready
pub ready_cases : (a b c d : Bool) → (((a || b) || c) || d) ≡ true → ((a ≡ true) ⊎ (b ≡ true)) ⊎ ((c ≡ true) ⊎ (d ≡ true))
ready_cases true b c d e = inl (inl refl)
ready_cases false true c d e = inl (inr refl)
ready_cases false false true d e = inr (inl refl)
ready_cases false false false true e = inr (inr refl)
ready_cases false false false false e = absurd (false≢true e)

-- Where two histories have sent the same, and have the same plan in force, what one has taken of a ready input beyond the other comes
-- later.
covers : (s : ScheduleValue) (lists : PacketLists) (i : ℕ) (a b : List Event) (e : List Stamped) → IsMultiplexSchedule s → IsLawful s a → IsFaithful s lists a → IsLawful s b → IsFaithful s lists b
    → ((st : Stream) → sent st a ≡ sent st b) → in_force a ≡ in_force b → is_ready s i a ≡ true → taken i b ≡ taken i a ++ e → AllLater (slot_time s.first (slots a)) e
covers s lists i a b [] ok law_a faith_a law_b faith_b sent_same force ready more = tt
covers s lists i a b (x ∷ e) ok law_a faith_a law_b faith_b sent_same force ready more =
    let front = taken_begins s lists i b faith_b in
    let t = slot_time s.first (slots a) in
    let next_b : lists i ≡ taken i a ++ x ∷ (e ++ front.0) = front.1 ∙ ap (λ zs. zs ++ front.0) more ∙ append_assoc (taken i a) (x ∷ e) front.0 in
    let late : t < last_stamp i a → AllLater t (x ∷ e) = λ l.
    let P : List Stamped → Type 0 = Rises 0 in
    let rises = Rises-rest 0 (taken i a) (x ∷ e) (subst P more (rising s i b ok law_b)) in
    AllLater-rises t (last_of 0 (taken i a)) (x ∷ e) (omega (arith, last_stamp_is i a)) rises in
    elim (ready_cases (is_closed i a) (ltb t (last_stamp i a)) (full_noted i a) (early_noted i a) ready) [
      | inl (inl closed) ↦
          (let all = closed_all s lists i a ok law_a faith_a closed in
          absurd (omega (arith, ap length (sym all ∙ front.1), length-append (taken i b) front.0, ap length more, length-append (taken i a) (x ∷ e))))
      | inl (inr l) ↦ late (ltb-true t (last_stamp i a) l)
      | inr (inl note) ↦
          (let n = noted s lists i a ok law_a faith_a note in
          let same : n.item ≡ x = same_next lists i a n.item x n.next (e ++ front.0, next_b) in
          let P : Stamped → Type 0 = λ z. is_mapped_to s n.st i z ≡ true in
          let goes : is_mapped_to s n.st i x ≡ true = subst P same n.goes in
          let input : i ≡ n.st.input = (goes_both s n.st i x goes).0 in
          let Q : ℕ → Type 0 = λ k. taken k b ≡ taken k a ++ x ∷ e in
          let R : ℕ → Type 0 = λ k. is_mapped_to s n.st k x ≡ true in
          let l = longer s n.st a b x e (subst Q input more) (subst R input goes) in
          let in_b : has_stream (plan_in_force s b) n.st ≡ true = ap (λ k. has_stream (plan_at s k) n.st) (sym force) ∙ n.has_it in
          let bound = queue_bound s n.st b ok law_b n.has in
          let all_b = ap length (queue_is s n.st b in_b) in
          let all_a = ap length (queue_is s n.st a n.has_it) in
          let full = n.full in
          let drops_a = length-drop (sent n.st a) (taken_for s n.st a) in
          let drops_b = length-drop (sent n.st b) (taken_for s n.st b) in
          let alike = sent_same n.st in
          let some = (first_request s ok).queue in
          absurd (omega (arith, l, bound, all_b, all_a, full, drops_a, drops_b, alike, some)))
      | inr (inr note) ↦
          (let n = noted_early s lists i a ok law_a faith_a note in
          let same : n.item ≡ x = same_next lists i a n.item x n.next (e ++ front.0, next_b) in
          let P : List Stamped → Type 0 = AllBegun s (in_force b) in
          let begun = begun-at s (in_force b) (taken i a) x e (subst P more (all_begun s i b ok law_b)) in
          let early = n.early in
          absurd (omega (arith, begun, early, force, ap (λ (z : Stamped). number_for s z.stamp) same)))
    ]

-- Two histories that have sent the same, and are about to send one slot by one plan.
record Beside (s : ScheduleValue) (lists : PacketLists) (a b : List Event) : Type 0 where
  schedule : IsMultiplexSchedule s
  law_a : IsLawful s a
  faith_a : IsFaithful s lists a
  law_b : IsLawful s b
  faith_b : IsFaithful s lists b
  sent_same : (su : Stream) → sent su a ≡ sent su b
  slots_same : slots a ≡ slots b
  packets : emitted s a ≡ emitted s b
  force : in_force a ≡ in_force b
  ready_a : AllReady s a
  ready_b : AllReady s b

-- and the other way round
turned_round : {s : ScheduleValue} {lists : PacketLists} {a b : List Event} → Beside s lists a b → Beside s lists b a
turned_round {s} {lists} {a} {b} k = record {
  schedule = k.schedule;
  law_a = k.law_b;
  faith_a = k.faith_b;
  law_b = k.law_a;
  faith_b = k.faith_a;
  sent_same = λ su. sym (k.sent_same su);
  slots_same = sym k.slots_same;
  packets = sym k.packets;
  force = sym k.force;
  ready_a = k.ready_b;
  ready_b = k.ready_a;
}

-- a head that is eligible in one is eligible in the other
eligible : {s : ScheduleValue} {lists : PacketLists} {a b : List Event} → Beside s lists a b → (st : Stream) (item : Stamped) → IsEligible s a st item → IsEligible s b st item
eligible {s} {lists} {a} {b} k st item el =
    let i = st.input in
    let g : Stamped → Bool = is_mapped_to s st i in
    let front_a = taken_begins s lists i a k.faith_a in
    let front_b = taken_begins s lists i b k.faith_b in
    let in_a = head_in_force s st a item el.head in
    let at : slice_get (drop (sent st a) (taken_for s st a)) 0 ≡ Some item = in_a.1 in
    let has_b : has_stream (plan_in_force s b) st ≡ true = ap (λ n. has_stream (plan_at s n) st) (sym k.force) ∙ in_a.0 in
    let due = el.due in
    let same = k.slots_same in
    let t : slot_time s.first (slots a) ≡ slot_time s.first (slots b) = ap (slot_time s.first) same in
    let kept : List Stamped → Type 0 = λ xs. slice_get (drop (sent st b) xs) 0 ≡ Some item in
    let Q : List (List ℕ) → Type 0 = λ ps. BufferFits s.first.request.rate st.leak (st.output_pid ∷ []) (ps ++ sent_packet s (slots a) st (Some item) ∷ []) in
    let P : ℕ → Type 0 = λ m. BufferFits s.first.request.rate st.leak (st.output_pid ∷ []) (emitted s b ++ sent_packet s m st (Some item) ∷ []) in
    let R : ℕ → Type 0 = λ n. Contains (plan_at s n).request.streams st in
    let has = has_in_force s a st k.schedule k.law_a el.stream in
    let at_b : slice_get (drop (sent st b) (filter g (taken i a))) 0 ≡ Some item = ap (λ n. slice_get (drop n (filter g (taken i a))) 0) (sym (k.sent_same st)) ∙ ap (λ xs. slice_get (drop (sent st a) xs) 0) (sym (taken_for_is s st a)) ∙ at in
    let head : slice_get (drop (sent st b) (filter g (taken i b))) 0 ≡ Some item =
    elim (comparable (taken i a) (taken i b) front_a.0 front_b.0 (sym front_a.1 ∙ front_b.1)) [
      | inl e ↦ subst kept (sym (ap (filter g) e.1 ∙ filter-append g (taken i a) e.0)) (head_kept (sent st b) (filter g (taken i a)) (filter g e.0) item at_b)
      | inr e ↦
          (let later = covers s lists i b a e.0 k.schedule k.law_b k.faith_b k.law_a k.faith_a (λ su. sym (k.sent_same su)) (sym k.force) (k.ready_b i (stream_in s has.0 st k.schedule has.1).input) e.1 in
          head_due (slot_time s.first (slots b)) (sent st b) (filter g (taken i b)) (filter g e.0) item (AllLater-filter _ g e.0 later) (omega (arith, due, t))
          (subst kept (ap (filter g) e.1 ∙ filter-append g (taken i b) e.0) at_b))
    ] in
    record {
      stream = subst R k.force el.stream;
      head = ap (λ xs. slice_get xs 0) (queue_is s st b has_b) ∙ ap (λ xs. slice_get (drop (sent st b) xs) 0) (taken_for_is s st b) ∙ head;
      due = omega (arith, due, t);
      fits = subst P same (subst Q k.packets el.fits);
    }

-- the choice of one is the choice of the other
same_choice : {s : ScheduleValue} {lists : PacketLists} {a b : List Event} → Beside s lists a b → (c d : Content) → IsChoice s a c → IsChoice s b d → c ≡ d
same_choice k (Table place) d x y = absurd x
same_choice k Null Null x y = refl
same_choice k Null (Table place) x y = absurd y
same_choice k (Elementary st) (Table place) x y = absurd y
same_choice k Null (Elementary su) x y = absurd (x su y.0 (eligible (turned_round k) su y.0 y.1))
same_choice k (Elementary st) Null x y = absurd (y st x.0 (eligible k st x.0 x.1))
same_choice {s} {lists} {a} {b} k (Elementary st) (Elementary su) x y =
    let u = x.2 su y.0 (eligible (turned_round k) su y.0 y.1) in
    let q = y.2 st x.0 (eligible k st x.0 x.1) in
    let out : st.output_pid ≡ su.output_pid = elim u [
      | inl l ↦ absurd (elim q [ inl m ↦ omega arith | inr m ↦ omega (arith, m.0) ])
      | inr l ↦ elim q [ inl m ↦ absurd (omega (arith, l.0)) | inr m ↦ omega (arith, l.1, m.1) ]
    ] in
    let mine = has_in_force s a st k.schedule k.law_a x.1.stream in
    let its = has_in_force s b su k.schedule k.law_b y.1.stream in
    ap Elementary (same_stream s mine.0 its.0 st su k.schedule mine.1 its.1 out)

-- and so is the content of the slot
same_content_at : {s : ScheduleValue} {lists : PacketLists} {a b : List Event} → Beside s lists a b → (o : Option TablePlace) (c d : Content) → IsContentAt s a o c → IsContentAt s b o d → c ≡ d
same_content_at k (Some place) c d x y = x ∙ sym y
same_content_at k None c d x y = same_choice k c d x y

same_content : {s : ScheduleValue} {lists : PacketLists} {a b : List Event} → Beside s lists a b → (c d : Content) → IsContent s a c → IsContent s b d → c ≡ d
same_content {s} {lists} {a} {b} k c d x y =
    let P : Option TablePlace → Type 0 = λ o. IsContentAt s b o d in
    let due : table_due s b ≡ table_due s a = ap (λ n. table_in (span_at s n) (slots b)) (sym k.force) ∙ ap (table_in (span_at s (in_force a))) (sym k.slots_same) in
    same_content_at k (table_due s a) c d x (subst P due y)

-- and so is its packet
same_packet : {s : ScheduleValue} {lists : PacketLists} {a b : List Event} → Beside s lists a b → (c : Content) → IsContent s a c
    → packet_behind s a (emitted s a) c ≡ packet_behind s b (emitted s b) c
same_packet k Null c = refl
same_packet {s} {lists} {a} {b} k (Table place) c =
    ap (λ (ps : List (List ℕ)). counted_behind ps (table_packet_at (plan_in_force s a).tables place)) k.packets
    ∙ ap (λ n. counted_behind (emitted s b) (table_packet_at (plan_at s n).tables place)) k.force
same_packet {s} {lists} {a} {b} k (Elementary st) c =
    let x = stream_choice s a st c in
    let e = eligible k st x.0 x.1 in
    ap (λ (ps : List (List ℕ)). sent_packet s (length ps) st (slice_get (queue s st a) 0)) k.packets ∙ ap (sent_packet s (length (emitted s b)) st) (x.1.head ∙ sym e.head)

-- after the same number of slots both have sent the same
pub record Agree (s : ScheduleValue) (a b : List Event) : Type 0 where
  pub packets : emitted s a ≡ emitted s b
  pub sent_same : (st : Stream) → sent st a ≡ sent st b

pub agree : (s : ScheduleValue) (lists : PacketLists) (a b : List Event) → IsMultiplexSchedule s → IsLawful s a → IsFaithful s lists a → IsLawful s b → IsFaithful s lists b → slots a ≡ slots b → Agree s a b
agree s lists [] [] plan la fa lb fb n = record { packets = refl; sent_same = λ st. refl }
agree s lists [] (Took j item ∷ b) plan la fa lb fb n = let ih = agree s lists [] b plan la fa lb.0 fb.0 n in record { packets = ih.packets; sent_same = ih.sent_same }
agree s lists [] (Full j st ∷ b) plan la fa lb fb n = let ih = agree s lists [] b plan la fa lb.0 fb.0 n in record { packets = ih.packets; sent_same = ih.sent_same }
agree s lists [] (Early j ∷ b) plan la fa lb fb n = let ih = agree s lists [] b plan la fa lb.0 fb.0 n in record { packets = ih.packets; sent_same = ih.sent_same }
agree s lists [] (Switch number ∷ b) plan la fa lb fb n = let ih = agree s lists [] b plan la fa lb.0 fb n in record { packets = ih.packets; sent_same = ih.sent_same }
agree s lists [] (Close j ∷ b) plan la fa lb fb n = let ih = agree s lists [] b plan la fa lb.0 fb.0 n in record { packets = ih.packets; sent_same = ih.sent_same }
agree s lists [] (Slot d ∷ b) plan la fa lb fb n = absurd (omega arith)
agree s lists (Took j item ∷ a) b plan la fa lb fb n = let ih = agree s lists a b plan la.0 fa.0 lb fb n in record { packets = ih.packets; sent_same = ih.sent_same }
agree s lists (Full j st ∷ a) b plan la fa lb fb n = let ih = agree s lists a b plan la.0 fa.0 lb fb n in record { packets = ih.packets; sent_same = ih.sent_same }
agree s lists (Early j ∷ a) b plan la fa lb fb n = let ih = agree s lists a b plan la.0 fa.0 lb fb n in record { packets = ih.packets; sent_same = ih.sent_same }
agree s lists (Switch number ∷ a) b plan la fa lb fb n = let ih = agree s lists a b plan la.0 fa lb fb n in record { packets = ih.packets; sent_same = ih.sent_same }
agree s lists (Close j ∷ a) b plan la fa lb fb n = let ih = agree s lists a b plan la.0 fa.0 lb fb n in record { packets = ih.packets; sent_same = ih.sent_same }
agree s lists (Slot c ∷ a) [] plan la fa lb fb n = absurd (omega arith)
agree s lists (Slot c ∷ a) (Took j item ∷ b) plan la fa lb fb n = let ih = agree s lists (Slot c ∷ a) b plan la fa lb.0 fb.0 n in record { packets = ih.packets; sent_same = ih.sent_same }
agree s lists (Slot c ∷ a) (Full j st ∷ b) plan la fa lb fb n = let ih = agree s lists (Slot c ∷ a) b plan la fa lb.0 fb.0 n in record { packets = ih.packets; sent_same = ih.sent_same }
agree s lists (Slot c ∷ a) (Early j ∷ b) plan la fa lb fb n = let ih = agree s lists (Slot c ∷ a) b plan la fa lb.0 fb.0 n in record { packets = ih.packets; sent_same = ih.sent_same }
agree s lists (Slot c ∷ a) (Switch number ∷ b) plan la fa lb fb n = let ih = agree s lists (Slot c ∷ a) b plan la fa lb.0 fb n in record { packets = ih.packets; sent_same = ih.sent_same }
agree s lists (Slot c ∷ a) (Close j ∷ b) plan la fa lb fb n = let ih = agree s lists (Slot c ∷ a) b plan la fa lb.0 fb.0 n in record { packets = ih.packets; sent_same = ih.sent_same }
agree s lists (Slot c ∷ a) (Slot d ∷ b) plan la fa lb fb n =
    let m : slots a ≡ slots b = omega arith in
    let ih = agree s lists a b plan la.0 fa lb.0 fb m in
    let follow = plan.schedule.slots in
    let force : in_force a ≡ in_force b = sym (in_force_is s a follow la.0 la.1.switched) ∙ ap (number_in_slot s) m ∙ in_force_is s b follow lb.0 lb.1.switched in
    let k : Beside s lists a b = record {
      schedule = plan;
      law_a = la.0;
      faith_a = fa;
      law_b = lb.0;
      faith_b = fb;
      sent_same = ih.sent_same;
      slots_same = m;
      packets = ih.packets;
      force = force;
      ready_a = la.1.ready;
      ready_b = lb.1.ready;
    } in
    let content : c ≡ d = same_content k c d la.1.content lb.1.content in
    let packet : packet_behind s a (emitted s a) c ≡ packet_behind s b (emitted s b) d =
    same_packet k c la.1.content ∙ ap (packet_behind s b (emitted s b)) content in
    record {
      packets = ap (λ (ps : List (List ℕ)). ps ++ packet_behind s a (emitted s a) c ∷ []) ih.packets ∙ ap (λ q. emitted s b ++ q ∷ []) packet;
      sent_same = λ st. ap (λ x. cond (is_of_stream st x) (sent st a + 1) (sent st a)) content ∙ ap (λ n. cond (is_of_stream st d) (n + 1) n) (ih.sent_same st);
    }

-- the shorter begins the longer
begins : (s : ScheduleValue) (lists : PacketLists) (a b : List Event) → IsMultiplexSchedule s → IsLawful s a → IsFaithful s lists a → IsLawful s b → IsFaithful s lists b → slots a ≤ slots b → IsPrefix (emitted s a) (emitted s b)
begins s lists a [] plan la fa lb fb l = ([], sym (agree s lists a [] plan la fa lb fb (omega arith)).packets ∙ sym (append-nil (emitted s a)))
begins s lists a (Took j item ∷ b) plan la fa lb fb l = begins s lists a b plan la fa lb.0 fb.0 l
begins s lists a (Full j st ∷ b) plan la fa lb fb l = begins s lists a b plan la fa lb.0 fb.0 l
begins s lists a (Early j ∷ b) plan la fa lb fb l = begins s lists a b plan la fa lb.0 fb.0 l
begins s lists a (Switch number ∷ b) plan la fa lb fb l = begins s lists a b plan la fa lb.0 fb l
begins s lists a (Close j ∷ b) plan la fa lb fb l = begins s lists a b plan la fa lb.0 fb.0 l
begins s lists a (Slot c ∷ b) plan la fa lb fb l =
    elim (cases_order (slots a) (slots b + 1)) [
      | inl e ↦ ([], sym (agree s lists a (Slot c ∷ b) plan la fa lb fb e).packets ∙ sym (append-nil (emitted s a)))
      | inr (inl m) ↦
          (let ih = begins s lists a b plan la fa lb.0 fb (omega arith) in
          (ih.0 ++ packet_behind s b (emitted s b) c ∷ [], ap (λ (ps : List (List ℕ)). ps ++ packet_behind s b (emitted s b) c ∷ []) ih.1 ∙ append_assoc (emitted s a) ih.0 (packet_behind s b (emitted s b) c ∷ [])))
      | inr (inr m) ↦ absurd (omega arith)
    ]

pub outputs_agree : OutputsAgree
outputs_agree s lists a b plan ra rb =
    elim (cases_order (slots a) (slots b)) [
      | inl e ↦ inl (begins s lists a b plan ra.lawful ra.faithful rb.lawful rb.faithful (omega arith))
      | inr (inl l) ↦ inl (begins s lists a b plan ra.lawful ra.faithful rb.lawful rb.faithful (omega arith))
      | inr (inr l) ↦ inr (begins s lists b a plan rb.lawful rb.faithful ra.lawful ra.faithful (omega arith))
    ]
