-- Why an item is refused, and what holds where it isn't.
use Rattle.std.proofs.Common.{ℕ, ◌≤◌, ◌≡◌, ◌&&◌, Bool, true, false, cond, not, ltb, nat_eq, List, length, get_or, Some, None, ◌⊎◌, inl, inr, refl, ap, ◌∙◌, sym, subst}
use Rattle.std.specs.List.{slice_get, Contains}
use Rattle.std.specs.Prelude.{Option, IfSome, IfNone}
use Rattle.std.proofs.lemmas.Bool.{cases_Bool, and_parts, and_from, eqb-true, eq-eqb, ltb-false, false≢true, false_from_ne_true}
use Rattle.std.proofs.lemmas.List.Folds.{Any-from_list_any, list_any_at, list_any_none}
use Rattle.std.proofs.lemmas.List.Elements.{Contains-get_or}
use Rattle.tspkt.specs.Packet.{pid_of}
use Rattle.tspkt.specs.declared.stamped.Stamped.{Stamped}
use Rattle.request.specs.declared.stream.Stream.{Stream}
use Rattle.schedule.specs.Schedule.{ScheduleValue, plan_for, number_for}
use Rattle.schedule.specs.Streams.{all_streams, scheduled_place}
use Rattle.schedule.proofs.ForceLaws.{number_within}
use Rattle.mux.specs.declared.event.Event.{Event}
use Rattle.schedule.specs.Laws.{IsMultiplexSchedule}
use Rattle.mux.specs.History.{has_stream, in_force, is_mapped_to, queue, last_stamp, is_closed}
use Rattle.mux.specs.Lawful.{Refusal, Closed, Stranger, Backward, Early, Full, is_mapped, is_early, is_queue_full, refusal_of, MayTake}
use Rattle.mux.proofs.Plans.{IsAt, Has, in_plan, of_plan, has_in_plan, one_source, places_of}

-- an item of a stream is of its input and PID, and the plan that it belongs to has the stream
pub goes_both : (s : ScheduleValue) (st : Stream) (i : ℕ) (item : Stamped) → is_mapped_to s st i item ≡ true
    → (i ≡ st.input) × (pid_of item.packet ≡ st.pid) × (has_stream (plan_for s item.stamp) st ≡ true)
goes_both s st i item e =
    let both = and_parts (nat_eq i st.input && nat_eq (pid_of item.packet) st.pid) (has_stream (plan_for s item.stamp) st) e in
    let source = and_parts (nat_eq i st.input) (nat_eq (pid_of item.packet) st.pid) both.0 in
    (eqb-true i st.input source.0, eqb-true (pid_of item.packet) st.pid source.1, both.1)

-- and the other way round
pub goes_from : (s : ScheduleValue) (st : Stream) (i : ℕ) (item : Stamped) → st.input ≡ i → st.pid ≡ pid_of item.packet → has_stream (plan_for s item.stamp) st ≡ true
    → is_mapped_to s st i item ≡ true
goes_from s st i item input pid has =
    and_from (nat_eq i st.input && nat_eq (pid_of item.packet) st.pid) (has_stream (plan_for s item.stamp) st)
    (and_from (nat_eq i st.input) (nat_eq (pid_of item.packet) st.pid) (eq-eqb i st.input (sym input)) (eq-eqb (pid_of item.packet) st.pid (sym pid))) has

-- the stream of its plan
pub in_its_plan : (s : ScheduleValue) (k : ℕ) (st : Stream) (i : ℕ) (item : Stamped) → IsMultiplexSchedule s → IsAt s k st → is_mapped_to s st i item ≡ true
    → Contains (plan_for s item.stamp).request.streams st
in_its_plan s k st i item ok at e = in_plan s (number_for s item.stamp) k st ok (number_within s item.stamp) at (goes_both s st i item e).2

-- the stream of a schedule that an item of an input goes to
pub one_stream : (s : ScheduleValue) (st su : Stream) (i : ℕ) (item : Stamped) → IsMultiplexSchedule s → Has s st → Has s su → is_mapped_to s st i item ≡ true
    → is_mapped_to s su i item ≡ true → st ≡ su
one_stream s st su i item ok a b x y =
    let u = goes_both s st i item x in
    let v = goes_both s su i item y in
    one_source s (number_for s item.stamp) st su ok (number_within s item.stamp) (in_its_plan s a.0 st i item ok a.1 x) (in_its_plan s b.0 su i item ok b.1 y)
    (sym u.0 ∙ v.0) (sym u.1 ∙ v.1)

-- what holds of an item that is taken, and of its stream
pub record IsTakenFor (s : ScheduleValue) (h : List Event) (i : ℕ) (item : Stamped) (st : Stream) : Type 0 where
  pub stream : Has s st
  pub mapped : is_mapped_to s st i item ≡ true
  pub open_ : is_closed i h ≡ false
  pub later : last_stamp i h ≤ item.stamp
  pub begun : number_for s item.stamp ≤ in_force h
  pub not_full : length (queue s st h) ≡ s.first.request.queue → ⊥

-- what an answer of the chain says of its tests
abbrev pub Says : Option Refusal → Bool → Bool → Bool → Bool → Bool → Type 0
Says (Some Closed) closed mapped backward early full = closed ≡ true
Says (Some Stranger) closed mapped backward early full = mapped ≡ false
Says (Some Backward) closed mapped backward early full = backward ≡ true
Says (Some Early) closed mapped backward early full = early ≡ true
Says (Some Full) closed mapped backward early full = (closed ≡ false) × (full ≡ true)
Says None closed mapped backward early full = (closed ≡ false) × (mapped ≡ true) × (backward ≡ false) × (early ≡ false) × (full ≡ false)

says : (a b c d e : Bool) → Says (cond a (Some Closed) (cond (not b) (Some Stranger) (cond c (Some Backward) (cond d (Some Early) (cond e (Some Full) None))))) a b c d e
says true b c d e = refl
says false false c d e = refl
says false true true d e = refl
says false true false true e = refl
says false true false false true = (refl, refl)
says false true false false false = (refl, refl, refl, refl, refl)

pub tests_of : (s : ScheduleValue) (h : List Event) (i : ℕ) (item : Stamped) (answer : Option Refusal) → refusal_of s h i item ≡ answer
    → Says answer (is_closed i h) (is_mapped s i item) (ltb item.stamp (last_stamp i h)) (is_early s h item) (is_queue_full s h i item)
unfolding refusal_of
tests_of s h i item answer e =
    let P : Option Refusal → Type 0 = λ v. Says v (is_closed i h) (is_mapped s i item) (ltb item.stamp (last_stamp i h)) (is_early s h item) (is_queue_full s h i item) in
    subst P e (says (is_closed i h) (is_mapped s i item) (ltb item.stamp (last_stamp i h)) (is_early s h item) (is_queue_full s h i item))

unrefused_parts : (s : ScheduleValue) (h : List Event) (i : ℕ) (item : Stamped) → refusal_of s h i item ≡ None
    → (is_closed i h ≡ false) × (is_mapped s i item ≡ true) × (ltb item.stamp (last_stamp i h) ≡ false) × (is_early s h item ≡ false) × (is_queue_full s h i item ≡ false)
unrefused_parts s h i item e = tests_of s h i item None e

-- a full queue at a place
pub full_at : (s : ScheduleValue) (h : List Event) (i : ℕ) (item : Stamped) (k : ℕ) (st : Stream) → IsMultiplexSchedule s → IsAt s k st → is_mapped_to s st i item ≡ true
    → length (queue s st h) ≡ s.first.request.queue → is_queue_full s h i item ≡ true
full_at s h i item k st ok at mapped full =
    let streams = (plan_for s item.stamp).request.streams in
    let test : Stream → Bool = λ (x : Stream). is_mapped_to s x i item && nat_eq (length (queue s x h)) s.first.request.queue in
    let c = in_its_plan s k st i item ok at mapped in
    list_any_at test streams c.0 st c.1 (ap test c.2 ∙ and_from _ _ mapped (eq-eqb _ _ full))

-- the stream at a place takes an item that is mapped to it
pub taken_at : (s : ScheduleValue) (h : List Event) (i : ℕ) (item : Stamped) (k : ℕ) (st : Stream) → IsMultiplexSchedule s → MayTake s h i item → IsAt s k st
    → is_mapped_to s st i item ≡ true → IsTakenFor s h i item st
taken_at s h i item k st ok may at mapped =
    let parts = unrefused_parts s h i item may.unrefused in
    record {
      stream = (k, at);
      mapped = mapped;
      open_ = parts.0;
      later = ltb-false item.stamp (last_stamp i h) parts.2;
      begun = ltb-false (in_force h) (number_for s item.stamp) parts.3;
      not_full = λ full. false≢true (sym parts.4 ∙ full_at s h i item k st ok at mapped full);
    }

-- an item that is taken goes to a stream
pub taken_for_of : (s : ScheduleValue) (h : List Event) (i : ℕ) (item : Stamped) → IsMultiplexSchedule s → MayTake s h i item → (st : Stream) × IsTakenFor s h i item st
taken_for_of s h i item ok may =
    let parts = unrefused_parts s h i item may.unrefused in
    let streams = (plan_for s item.stamp).request.streams in
    let any = Any-from_list_any (λ (x : Stream). is_mapped_to s x i item) streams parts.1 in
    let has = has_in_plan s (number_for s item.stamp) any.1 ok (number_within s item.stamp) (any.0, any.2, any.3) in
    (any.1, taken_at s h i item has.0 any.1 ok may has.1 any.4)

-- no stream takes an item that its plan doesn't map
pub unmapped : (s : ScheduleValue) (i : ℕ) (item : Stamped)
    → ((st : Stream) → Contains (plan_for s item.stamp).request.streams st → st.input ≡ i → st.pid ≡ pid_of item.packet → ⊥) → is_mapped s i item ≡ false
unmapped s i item none =
    let streams = (plan_for s item.stamp).request.streams in
    list_any_none (λ (x : Stream). is_mapped_to s x i item) streams (λ k d l. false_from_ne_true _ (λ e.
    let st = get_or streams k d in
    let both = goes_both s st i item e in
    none st (Contains-get_or streams k d l) (sym both.0) (sym both.1)))

-- a stream that takes it maps it
pub mapped_at : (s : ScheduleValue) (i : ℕ) (item : Stamped) (k : ℕ) (st : Stream) → IsMultiplexSchedule s → IsAt s k st → is_mapped_to s st i item ≡ true → is_mapped s i item ≡ true
mapped_at s i item k st ok at mapped =
    let test : Stream → Bool = λ (x : Stream). is_mapped_to s x i item in
    let c = in_its_plan s k st i item ok at mapped in
    list_any_at test (plan_for s item.stamp).request.streams c.0 st c.1 (ap test c.2 ∙ mapped)

-- its queue isn't full where that of the stream at its place isn't
pub not_full_at : (s : ScheduleValue) (h : List Event) (i : ℕ) (item : Stamped) (k : ℕ) (st : Stream) → IsMultiplexSchedule s → IsAt s k st → is_mapped_to s st i item ≡ true
    → nat_eq (length (queue s st h)) s.first.request.queue ≡ false → is_queue_full s h i item ≡ false
not_full_at s h i item k st ok at mapped room =
    let streams = (plan_for s item.stamp).request.streams in
    let test : Stream → Bool = λ (x : Stream). is_mapped_to s x i item && nat_eq (length (queue s x h)) s.first.request.queue in
    list_any_none test streams (λ j d l. false_from_ne_true _ (λ e.
    let su = get_or streams j d in
    let both = and_parts (is_mapped_to s su i item) (nat_eq (length (queue s su h)) s.first.request.queue) e in
    let has = has_in_plan s (number_for s item.stamp) su ok (number_within s item.stamp) (Contains-get_or streams j d l) in
    let same : su ≡ st = one_stream s su st i item ok has (k, at) both.0 mapped in
    false≢true (sym room ∙ ap (λ (x : Stream). nat_eq (length (queue s x h)) s.first.request.queue) (sym same) ∙ both.1)))

-- what a look-up says of an item
pub placed_some : (s : ScheduleValue) → IsMultiplexSchedule s → (i : ℕ) (item : Stamped) (pid : ℕ) (o : Option ℕ) → o ≡ scheduled_place s i pid item.stamp → pid ≡ pid_of item.packet
    → IfSome o (λ place. (stream : Stream) × (slice_get (all_streams s) place ≡ Some stream) × (is_mapped_to s stream i item ≡ true))
placed_some s ok i item pid None e p = tt
placed_some s ok i item pid (Some place) e p =
    let is = (places_of s ok).some i pid item.stamp place (sym e) in
    (is.stream, is.there, goes_from s is.stream i item is.input_is (is.pid_is ∙ p) (of_plan s (number_for s item.stamp) is.stream is.in_plan))

pub placed_none : (s : ScheduleValue) → IsMultiplexSchedule s → (i : ℕ) (item : Stamped) (pid : ℕ) (o : Option ℕ) → o ≡ scheduled_place s i pid item.stamp → pid ≡ pid_of item.packet
    → IfNone o (is_mapped s i item ≡ false)
placed_none s ok i item pid (Some place) e p = tt
placed_none s ok i item pid None e p = unmapped s i item (λ st c input same. (places_of s ok).none i pid item.stamp st (sym e) c input (same ∙ sym p))

-- the answers of the chain, one by one
pub is_closed_first : (s : ScheduleValue) (h : List Event) (i : ℕ) (item : Stamped) → is_closed i h ≡ true → refusal_of s h i item ≡ Some Closed
unfolding refusal_of
is_closed_first s h i item a = rw a refl

pub is_stranger : (s : ScheduleValue) (h : List Event) (i : ℕ) (item : Stamped) → is_closed i h ≡ false → is_mapped s i item ≡ false → refusal_of s h i item ≡ Some Stranger
unfolding refusal_of
is_stranger s h i item a b = rw (a, b) refl

pub is_backward : (s : ScheduleValue) (h : List Event) (i : ℕ) (item : Stamped) → is_closed i h ≡ false → is_mapped s i item ≡ true → ltb item.stamp (last_stamp i h) ≡ true
    → refusal_of s h i item ≡ Some Backward
unfolding refusal_of
is_backward s h i item a b c = rw (a, b, c) refl

pub is_refused_early : (s : ScheduleValue) (h : List Event) (i : ℕ) (item : Stamped) → is_closed i h ≡ false → is_mapped s i item ≡ true → ltb item.stamp (last_stamp i h) ≡ false
    → is_early s h item ≡ true → refusal_of s h i item ≡ Some Early
unfolding refusal_of
is_refused_early s h i item a b c d = rw (a, b, c, d) refl

pub is_refused_full : (s : ScheduleValue) (h : List Event) (i : ℕ) (item : Stamped) → is_closed i h ≡ false → is_mapped s i item ≡ true → ltb item.stamp (last_stamp i h) ≡ false
    → is_early s h item ≡ false → is_queue_full s h i item ≡ true → refusal_of s h i item ≡ Some Full
unfolding refusal_of
is_refused_full s h i item a b c d e = rw (a, b, c, d, e) refl

pub is_unrefused : (s : ScheduleValue) (h : List Event) (i : ℕ) (item : Stamped) → is_closed i h ≡ false → is_mapped s i item ≡ true → ltb item.stamp (last_stamp i h) ≡ false
    → is_early s h item ≡ false → is_queue_full s h i item ≡ false → refusal_of s h i item ≡ None
unfolding refusal_of
is_unrefused s h i item a b c d e = rw (a, b, c, d, e) refl

-- where only a full queue may be against an item, that is what is
pub none_or_full : (s : ScheduleValue) (h : List Event) (i : ℕ) (item : Stamped) → is_closed i h ≡ false → is_mapped s i item ≡ true → ltb item.stamp (last_stamp i h) ≡ false
    → is_early s h item ≡ false → (refusal_of s h i item ≡ None) ⊎ (refusal_of s h i item ≡ Some Full)
none_or_full s h i item a b c d =
    elim (cases_Bool (is_queue_full s h i item)) [
      | inl full ↦ inr (is_refused_full s h i item a b c d full)
      | inr room ↦ inl (is_unrefused s h i item a b c d room)
    ]

full_parts : (s : ScheduleValue) (h : List Event) (i : ℕ) (item : Stamped) → refusal_of s h i item ≡ Some Full → (is_closed i h ≡ false) × (is_queue_full s h i item ≡ true)
full_parts s h i item e = tests_of s h i item (Some Full) e

pub open_of : (s : ScheduleValue) (h : List Event) (i : ℕ) (item : Stamped) → (refusal_of s h i item ≡ None) ⊎ (refusal_of s h i item ≡ Some Full) → is_closed i h ≡ false
open_of s h i item (inl none) = (unrefused_parts s h i item none).0
open_of s h i item (inr full) = (full_parts s h i item full).0

pub full_refused : (s : ScheduleValue) (h : List Event) (i : ℕ) (item : Stamped) (k : ℕ) (st : Stream) → IsMultiplexSchedule s → IsAt s k st → is_mapped_to s st i item ≡ true
    → (refusal_of s h i item ≡ None) ⊎ (refusal_of s h i item ≡ Some Full) → length (queue s st h) ≡ s.first.request.queue → refusal_of s h i item ≡ Some Full
full_refused s h i item k st ok at mapped (inl none) full = absurd (false≢true (sym (unrefused_parts s h i item none).4 ∙ full_at s h i item k st ok at mapped full))
full_refused s h i item k st ok at mapped (inr is) full = is

pub room_unrefused : (s : ScheduleValue) (h : List Event) (i : ℕ) (item : Stamped) (k : ℕ) (st : Stream) → IsMultiplexSchedule s → IsAt s k st → is_mapped_to s st i item ≡ true
    → (refusal_of s h i item ≡ None) ⊎ (refusal_of s h i item ≡ Some Full) → nat_eq (length (queue s st h)) s.first.request.queue ≡ false → refusal_of s h i item ≡ None
room_unrefused s h i item k st ok at mapped (inl none) room = none
room_unrefused s h i item k st ok at mapped (inr full) room = absurd (false≢true (sym (not_full_at s h i item k st ok at mapped room) ∙ (full_parts s h i item full).1))

-- what is refused as early is
pub early_of : (s : ScheduleValue) (h : List Event) (i : ℕ) (item : Stamped) → refusal_of s h i item ≡ Some Early → is_early s h item ≡ true
early_of s h i item e = tests_of s h i item (Some Early) e
