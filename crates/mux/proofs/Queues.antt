-- Queues of streams, and what an event does to them.
use Rattle.std.proofs.Common.{ℕ, zero, suc, ◌+◌, ◌<◌, ◌≤◌, ◌≡◌, ◌≢◌, Bool, true, false, cond, eq-eqb, refl, List, [], ◌∷◌, ◌++◌, length, drop, ap, ◌∙◌, sym, arith, length-append, length-drop, Some, inl, inr}
use Rattle.std.specs.List.{slice_get}
use Rattle.std.proofs.lemmas.List.{drop-append-le, drop-drop}
use Rattle.std.proofs.lemmas.Option.{slice_get_within}
use Rattle.std.proofs.lemmas.Bool.{eqb-true, false≢true, false_from_ne_true, cases_Bool, cases_eq, ne_eqb}
use Rattle.tspkt.specs.declared.stamped.Stamped.{Stamped}
use Rattle.request.specs.declared.stream.Stream.{Stream}
use Rattle.mux.specs.declared.content.Content.TheVariants.{Null, Elementary, Table}
use Rattle.mux.specs.declared.event.Event.{Event}
use Rattle.mux.specs.declared.event.Event.TheVariants.{Took, Full, Early, Close, Slot, Switch}
use Rattle.buffers.specs.QueueValue.{QueueValue}
use Rattle.schedule.specs.Schedule.{ScheduleValue, plan_at, number_for}
use Rattle.schedule.specs.Laws.{IsMultiplexSchedule}
use Rattle.mux.specs.History.{has_stream, in_force, plan_in_force, is_mapped_to, taken_for, sent, unsent, queue, is_of_stream}
use Rattle.mux.specs.Lawful.{is_queue_full, IsLawful}
use Rattle.mux.specs.Keeping.{queue_of}
use Rattle.mux.proofs.Contents.{stream_choice}
use Rattle.mux.proofs.Plans.{IsAt, Has, same_stream, one_out, same_place, stays, first_request}
use Rattle.mux.proofs.Force.{has_in_force, due_is}
use Rattle.mux.proofs.Refusals.{IsTakenFor, taken_at, goes_both, one_stream, not_full_at}

-- a head is an element
pub head_within : (n : ℕ) (xs : List Stamped) (x : Stamped) → slice_get (drop n xs) 0 ≡ Some x → n + 1 ≤ length xs
head_within n xs x e = let l = slice_get_within (drop n xs) 0 x e in omega (arith, length-drop n xs)

-- the queue of a stream in force, and of another
pub queue_is : (s : ScheduleValue) (st : Stream) (h : List Event) → has_stream (plan_in_force s h) st ≡ true → queue s st h ≡ unsent s st h
queue_is s st h has = ap (λ b. cond b (unsent s st h) []) has

pub queue_gone : (s : ScheduleValue) (st : Stream) (h : List Event) → has_stream (plan_in_force s h) st ≡ false → queue s st h ≡ []
queue_gone s st h gone = ap (λ b. cond b (unsent s st h) []) gone

-- at the opening nothing waits
pub nothing_queued : (s : ScheduleValue) (st : Stream) → queue s st [] ≡ []
nothing_queued s st = elim (cases_Bool (has_stream (plan_in_force s []) st)) [
  | inl has ↦ queue_is s st [] has
  | inr without ↦ queue_gone s st [] without
]

no_head : (x : Stamped) → slice_get [] 0 ≡ Some x → false ≡ true
no_head x e = cc

-- what has a head is in force
pub head_in_force : (s : ScheduleValue) (st : Stream) (h : List Event) (item : Stamped) → slice_get (queue s st h) 0 ≡ Some item
    → (has_stream (plan_in_force s h) st ≡ true) × (slice_get (unsent s st h) 0 ≡ Some item)
head_in_force s st h item head =
    elim (cases_Bool (has_stream (plan_in_force s h) st)) [
      | inl has ↦ (has, ap (λ xs. slice_get xs 0) (sym (queue_is s st h has)) ∙ head)
      | inr gone ↦ absurd (false≢true (no_head item (ap (λ xs. slice_get xs 0) (sym (queue_gone s st h gone)) ∙ head)))
    ]

-- no more was sent of a stream than was taken of it
pub sent_within : (s : ScheduleValue) (h : List Event) (k : ℕ) (st : Stream) → IsMultiplexSchedule s → IsLawful s h → IsAt s k st → sent st h ≤ length (taken_for s st h)
sent_within s [] k st ok law at = omega arith
sent_within s (Took i item ∷ h) k st ok law at =
    let ih = sent_within s h k st ok law.0 at in
    elim (cases_Bool (is_mapped_to s st i item)) [
      | inl e ↦ rw e (omega (arith, length-append (taken_for s st h) (item ∷ [])))
      | inr e ↦ rw e ih
    ]
sent_within s (Full i su ∷ h) k st ok law at = sent_within s h k st ok law.0 at
sent_within s (Early i ∷ h) k st ok law at = sent_within s h k st ok law.0 at
sent_within s (Close i ∷ h) k st ok law at = sent_within s h k st ok law.0 at
sent_within s (Switch number ∷ h) k st ok law at = sent_within s h k st ok law.0 at
sent_within s (Slot Null ∷ h) k st ok law at = sent_within s h k st ok law.0 at
sent_within s (Slot (Table place) ∷ h) k st ok law at = sent_within s h k st ok law.0 at
sent_within s (Slot (Elementary su) ∷ h) k st ok law at =
    let ih = sent_within s h k st ok law.0 at in
    let chosen = stream_choice s h su law.1.content in
    let has = has_in_force s h su ok law.0 chosen.1.stream in
    elim (cases_Bool (is_of_stream st (Elementary su))) [
      | inl e ↦
          (let same : su ≡ st = same_stream s has.0 k su st ok has.1 at (eqb-true su.output_pid st.output_pid e) in
          let head : slice_get (queue s st h) 0 ≡ Some chosen.0 = ap (λ (x : Stream). slice_get (queue s x h) 0) (sym same) ∙ chosen.1.head in
          rw e (head_within (sent st h) (taken_for s st h) chosen.0 (head_in_force s st h chosen.0 head).1))
      | inr e ↦ rw e ih
    ]

-- nothing was taken of a stream that comes with a later plan: its packets were early
pub unborn : (s : ScheduleValue) (k : ℕ) (st : Stream) (h : List Event) (number : ℕ) → IsMultiplexSchedule s → IsLawful s h → IsAt s k st → in_force h < number
    → number ≤ length s.later → has_stream (plan_at s number) st ≡ true → has_stream (plan_in_force s h) st ≡ false → taken_for s st h ≡ []
unborn s k st [] number ok law at l within comes gone = refl
unborn s k st (Took j item ∷ h) number ok law at l within comes gone =
    let ih = unborn s k st h number ok law.0 at l within comes gone in
    elim (cases_Bool (is_mapped_to s st j item)) [
      | inl e ↦
          let taker = taken_at s h j item k st ok law.1 at e in
          let had = (goes_both s st j item e).2 in
          absurd (false≢true (sym gone ∙ stays s (number_for s item.stamp) (in_force h) number k st ok taker.begun (omega (arith, l)) within at had comes))
      | inr e ↦ rw e ih
    ]
unborn s k st (Full j su ∷ h) number ok law at l within comes gone = unborn s k st h number ok law.0 at l within comes gone
unborn s k st (Early j ∷ h) number ok law at l within comes gone = unborn s k st h number ok law.0 at l within comes gone
unborn s k st (Close j ∷ h) number ok law at l within comes gone = unborn s k st h number ok law.0 at l within comes gone
unborn s k st (Slot c ∷ h) number ok law at l within comes gone = unborn s k st h number ok law.0 at l within comes gone
unborn s k st (Switch now ∷ h) number ok law at l within comes gone =
    let next : now ≡ in_force h + 1 = law.1.next in
    elim (cases_Bool (has_stream (plan_in_force s h) st)) [
      | inl had ↦ absurd (false≢true (sym gone ∙ stays s (in_force h) now number k st ok (omega (arith, next)) (omega (arith, l)) within at had comes))
      | inr none ↦ unborn s k st h number ok law.0 at (omega (arith, l, next)) within comes none
    ]

drop_none : (n : ℕ) → drop {A = Stamped} n [] ≡ []
drop_none zero = refl
drop_none (suc n) = refl

-- what a switch leaves in a queue: all of a stream that the next plan has too, and else nothing
pub kept_queue : (s : ScheduleValue) (k : ℕ) (st : Stream) (h : List Event) (number : ℕ) → IsMultiplexSchedule s → IsLawful s (Switch number ∷ h) → IsAt s k st
    → has_stream (plan_at s number) st ≡ true → queue s st (Switch number ∷ h) ≡ queue s st h
kept_queue s k st h number ok law at has =
    let next : number ≡ in_force h + 1 = law.1.next in
    let due = due_is s h law.1.due in
    elim (cases_Bool (has_stream (plan_in_force s h) st)) [
      | inl had ↦ queue_is s st (Switch number ∷ h) has ∙ sym (queue_is s st h had)
      | inr none ↦
          let nothing = unborn s k st h number ok law.0 at (omega (arith, next)) (omega (arith, next, due.0)) has none in
          queue_is s st (Switch number ∷ h) has ∙ ap (λ xs. drop (sent st h) xs) nothing ∙ drop_none (sent st h) ∙ sym (queue_gone s st h none)
    ]

pub gone_queue : (s : ScheduleValue) (st : Stream) (h : List Event) (number : ℕ) → has_stream (plan_at s number) st ≡ false → queue s st (Switch number ∷ h) ≡ []
gone_queue s st h number gone = queue_gone s st (Switch number ∷ h) gone

-- a queue holds no more than it may
pub queue_bound : (s : ScheduleValue) (st : Stream) (h : List Event) → IsMultiplexSchedule s → IsLawful s h → Has s st → length (queue s st h) ≤ s.first.request.queue
queue_bound s st [] ok law has =
    elim (cases_Bool (has_stream (plan_in_force s []) st)) [
      | inl e ↦ omega (arith, ap length (queue_is s st [] e))
      | inr e ↦ omega (arith, ap length (queue_gone s st [] e))
    ]
queue_bound s st (Took j item ∷ h) ok law has =
    let ih = queue_bound s st h ok law.0 has in
    let within = sent_within s h has.0 st ok law.0 has.1 in
    elim (cases_Bool (has_stream (plan_in_force s h) st)) [
      | inr e ↦ omega (arith, ap length (queue_gone s st (Took j item ∷ h) e))
      | inl e ↦
          let old = ap length (queue_is s st h e) in
          let new = ap length (queue_is s st (Took j item ∷ h) e) in
          elim (cases_Bool (is_mapped_to s st j item)) [
            | inl m ↦
                let room = (taken_at s h j item has.0 st ok law.1 has.1 m).not_full in
                let more : length (unsent s st (Took j item ∷ h)) ≡ length (unsent s st h ++ item ∷ []) =
                ap (λ b. length (drop (sent st h) (cond b (taken_for s st h ++ item ∷ []) (taken_for s st h)))) m
                ∙ ap length (drop-append-le (sent st h) (taken_for s st h) (item ∷ []) within) in
                omega (arith, old, new, more, room, length-append (unsent s st h) (item ∷ []))
            | inr m ↦
                let same : length (unsent s st (Took j item ∷ h)) ≡ length (unsent s st h) =
                ap (λ b. length (drop (sent st h) (cond b (taken_for s st h ++ item ∷ []) (taken_for s st h)))) m in
                omega (arith, old, new, same, ih)
          ]
    ]
queue_bound s st (Full j su ∷ h) ok law has = queue_bound s st h ok law.0 has
queue_bound s st (Early j ∷ h) ok law has = queue_bound s st h ok law.0 has
queue_bound s st (Close j ∷ h) ok law has = queue_bound s st h ok law.0 has
queue_bound s st (Switch number ∷ h) ok law has =
    elim (cases_Bool (has_stream (plan_at s number) st)) [
      | inl e ↦ omega (arith, ap length (kept_queue s has.0 st h number ok law has.1 e), queue_bound s st h ok law.0 has)
      | inr e ↦ omega (arith, ap length (gone_queue s st h number e))
    ]
queue_bound s st (Slot c ∷ h) ok law has =
    let ih = queue_bound s st h ok law.0 has in
    elim (cases_Bool (has_stream (plan_in_force s h) st)) [
      | inr e ↦ omega (arith, ap length (queue_gone s st (Slot c ∷ h) e))
      | inl e ↦
          let old = ap length (queue_is s st h e) in
          let new = ap length (queue_is s st (Slot c ∷ h) e) in
          let one = length-drop (sent st h) (taken_for s st h) in
          let two = length-drop (sent st (Slot c ∷ h)) (taken_for s st h) in
          let more : sent st h ≤ sent st (Slot c ∷ h) = elim (cases_Bool (is_of_stream st c)) [ inl y ↦ rw y (omega arith) | inr y ↦ rw y (omega arith) ] in
          omega (arith, ih, old, new, one, two, more)
    ]

-- the queue of a stream for which an item is taken has room
pub has_room : (s : ScheduleValue) (h : List Event) (i : ℕ) (item : Stamped) (st : Stream) → IsMultiplexSchedule s → IsLawful s h → IsTakenFor s h i item st
    → length (queue s st h) < s.first.request.queue
has_room s h i item st ok law taker =
    let bound = queue_bound s st h ok law taker.stream in
    let ne = taker.not_full in
    omega (arith, bound, ne)

-- what wasn't sent of a stream, after a packet was taken for it
pub unsent_grown : (s : ScheduleValue) (h : List Event) (i : ℕ) (item : Stamped) (st : Stream) → IsMultiplexSchedule s → IsLawful s h → IsTakenFor s h i item st
    → unsent s st (Took i item ∷ h) ≡ unsent s st h ++ item ∷ []
unsent_grown s h i item st ok law taker =
    let within = sent_within s h taker.stream.0 st ok law taker.stream.1 in
    ap (λ b. drop (sent st h) (cond b (taken_for s st h ++ item ∷ []) (taken_for s st h))) taker.mapped
    ∙ drop-append-le (sent st h) (taken_for s st h) (item ∷ []) within

-- a stream's queue, after a packet was taken for it: in force it has one more, and else none
pub queued : (s : ScheduleValue) (h : List Event) (i : ℕ) (item : Stamped) (st : Stream) → IsMultiplexSchedule s → IsLawful s h → IsTakenFor s h i item st
    → has_stream (plan_in_force s h) st ≡ true
    → queue_of s (Took i item ∷ h) st ≡ record { items = queue s st h ++ item ∷ []; capacity = s.first.request.queue }
queued s h i item st ok law taker has =
    ap (λ xs. let x : QueueValue = record { items = xs; capacity = s.first.request.queue } in x)
    (queue_is s st (Took i item ∷ h) has ∙ unsent_grown s h i item st ok law taker ∙ ap (λ xs. xs ++ item ∷ []) (sym (queue_is s st h has)))

pub queued_late : (s : ScheduleValue) (h : List Event) (i : ℕ) (item : Stamped) (st : Stream) → has_stream (plan_in_force s h) st ≡ false
    → queue_of s h st ≡ queue_of s (Took i item ∷ h) st
queued_late s h i item st gone =
    ap (λ xs. let x : QueueValue = record { items = xs; capacity = s.first.request.queue } in x) (queue_gone s st h gone ∙ sym (queue_gone s st (Took i item ∷ h) gone))

-- no other stream gets the packet
pub not_mapped : (s : ScheduleValue) (h : List Event) (i : ℕ) (item : Stamped) (st : Stream) (k : ℕ) → IsMultiplexSchedule s → IsAt s k st → IsTakenFor s h i item st
    → (j : ℕ) (other : Stream) → j ≢ k → IsAt s j other → is_mapped_to s other i item ≡ false
not_mapped s h i item st k ok at taker j other ne there =
    false_from_ne_true _ (λ e.
    let same : other ≡ st = one_stream s other st i item ok (j, there) (k, at) e taker.mapped in
    ne (one_out s j k other st ok there at (ap (λ (x : Stream). x.output_pid) same)))

-- and the others' queues
pub unqueued : (s : ScheduleValue) (h : List Event) (i : ℕ) (item : Stamped) (st : Stream) (k : ℕ) → IsMultiplexSchedule s → IsAt s k st → IsTakenFor s h i item st
    → (j : ℕ) (other : Stream) → j ≢ k → IsAt s j other → queue_of s h other ≡ queue_of s (Took i item ∷ h) other
unqueued s h i item st k ok at taker j other ne there =
    ap
    (λ b.
    let x : QueueValue = record {
      items = cond (has_stream (plan_in_force s h) other) (drop (sent other h) (cond b (taken_for s other h ++ item ∷ []) (taken_for s other h))) [];
      capacity = s.first.request.queue;
    } in x)
    (sym (not_mapped s h i item st k ok at taker j other ne there))

-- all queues stay where it is taken for a stream that isn't in force
pub late_queues : (s : ScheduleValue) (h : List Event) (i : ℕ) (item : Stamped) (st : Stream) → IsMultiplexSchedule s → IsTakenFor s h i item st → has_stream (plan_in_force s h) st ≡ false
    → (j : ℕ) (other : Stream) → IsAt s j other → queue_of s h other ≡ queue_of s (Took i item ∷ h) other
late_queues s h i item st ok taker without j other there =
    elim (cases_eq j taker.stream.0) [
      | inl same ↦ queued_late s h i item other (ap (has_stream (plan_in_force s h)) (same_place s j taker.stream.0 other st same there taker.stream.1) ∙ without)
      | inr ne ↦ unqueued s h i item st taker.stream.0 ok taker.stream.1 taker j other ne there
    ]

-- a stream's queue, after its head was sent
pub sent_queue : (s : ScheduleValue) (h : List Event) (st : Stream) (item : Stamped) → slice_get (queue s st h) 0 ≡ Some item
    → record { items = drop 1 (queue s st h); capacity = s.first.request.queue } ≡ queue_of s (Slot (Elementary st) ∷ h) st
sent_queue s h st item head =
    let has = (head_in_force s st h item head).0 in
    let of : List Stamped → QueueValue = λ xs. record { items = xs; capacity = s.first.request.queue } in
    let once : sent st (Slot (Elementary st) ∷ h) ≡ sent st h + 1 = ap (λ b. cond b (sent st h + 1) (sent st h)) (eq-eqb st.output_pid st.output_pid refl) in
    ap of
    (ap (drop 1) (queue_is s st h has) ∙ drop-drop 1 (sent st h) (taken_for s st h) ∙ ap (λ n. drop n (taken_for s st h)) (sym once)
    ∙ sym (queue_is s st (Slot (Elementary st) ∷ h) has))

-- and the others' queues
pub unsent_queue : (s : ScheduleValue) (h : List Event) (st : Stream) (k : ℕ) → IsMultiplexSchedule s → IsAt s k st
    → (j : ℕ) (other : Stream) → j ≢ k → IsAt s j other → queue_of s h other ≡ queue_of s (Slot (Elementary st) ∷ h) other
unsent_queue s h st k ok at j other ne there =
    let of : Bool → QueueValue = λ b. record {
      items = cond (has_stream (plan_in_force s h) other) (drop (cond b (sent other h + 1) (sent other h)) (taken_for s other h)) [];
      capacity = s.first.request.queue;
    } in
    ap of (sym (ne_eqb st.output_pid other.output_pid (λ same. ne (one_out s j k other st ok there at (sym same)))))

-- nothing waits of a stream that isn't in force, so its queue isn't full
pub gone_not_full : (s : ScheduleValue) (h : List Event) (i : ℕ) (item : Stamped) (k : ℕ) (st : Stream) → IsMultiplexSchedule s → IsAt s k st → is_mapped_to s st i item ≡ true
    → has_stream (plan_in_force s h) st ≡ false → is_queue_full s h i item ≡ false
gone_not_full s h i item k st ok at mapped gone =
    let some = (first_request s ok).queue.0 in
    let none = ap (λ (xs : List Stamped). length xs) (queue_gone s st h gone) in
    not_full_at s h i item k st ok at mapped (ne_eqb (length (queue s st h)) s.first.request.queue (λ e. omega (arith, some, none, e)))
