-- What the look-up of a packet answers, said of the streams.
use Rattle.std.proofs.Common.{ℕ, zero, suc, ◌+◌, ◌≡◌, ◌≤◌, ◌<◌, ◌∙◌, ◌&&◌, Bool, true, false, cond, nat_eq, List, [], ◌∷◌, Option, Some, None, length, get_or, refl, ap, sym, arith, inl, inr, option_map, option_and_then}
use Rattle.std.specs.Prelude.{◌==◌, ◌≢◌}
use Rattle.std.specs.List.{slice_get, position_from, Contains, AllPairs}
use Rattle.std.proofs.lemmas.Bool.{cases_Bool, cases_order, eqb-true, eq-eqb, and_parts, and_from, false≢true}
use Rattle.std.proofs.lemmas.List.{get_or_default}
use Rattle.std.proofs.lemmas.Option.{same_Some, option_and_then_some, slice_get_within, slice_get-get_or, get_or_from_slice_get}
use Rattle.request.specs.declared.stream.Stream.{Stream}
use Rattle.plan.specs.declared.planned_stream.PlannedStream.{PlannedStream}
use Rattle.plan.specs.StreamPlace.{stream_place, planned_of, planned_stream}
use Rattle.schedule.specs.Schedule.{ScheduleValue, plan_for, number_for, scheduled_stream}
use Rattle.schedule.specs.Streams.{all_streams, place_of, AreStreamsOf, IsPlaceOf, ArePlaces}
use Rattle.schedule.proofs.PidLaws.{are_one, is_one}

-- ---- the first that passes

-- its place, and what stands there
record IsFirst {X : Type 0} (p : X → Bool) (xs : List X) (first found : ℕ) : Type 0 where
  place : ℕ
  is : found ≡ first + place
  element : X
  there : slice_get xs place ≡ Some element
  passes : p element ≡ true

one_on : {X : Type 0} (p : X → Bool) (x : X) (xs : List X) (first found : ℕ) → IsFirst p xs (first + 1) found → IsFirst p (x ∷ xs) first found
one_on p x xs first found f = record { place = suc f.place; is = omega (arith, f.is); element = f.element; there = f.there; passes = f.passes }

some_not_none : {X : Type 0} (a : X) → Some a ≡ None → ⊥
some_not_none a e = cc

found_first : {X : Type 0} (p : X → Bool) (xs : List X) (first found : ℕ) → position_from p first xs ≡ Some found → IsFirst p xs first found
found_first p [] first found e = cc
found_first p (x ∷ xs) first found e =
    elim (cases_Bool (p x)) [
      | inl t ↦ (let here : first ≡ found = same_Some first found (sym (ap (λ b. cond b (Some first) (position_from p (first + 1) xs)) t) ∙ e) in
          record { place = 0; is = omega arith; element = x; there = refl; passes = t })
      | inr f ↦ one_on p x xs first found (found_first p xs (first + 1) found (sym (ap (λ b. cond b (Some first) (position_from p (first + 1) xs)) f) ∙ e))
    ]

none_behind : {X : Type 0} (p : X → Bool) (y : X) (xs : List X) → p y ≡ false → ((k : ℕ) (x : X) → slice_get xs k ≡ Some x → p x ≡ false) → (k : ℕ) (x : X)
    → slice_get (y ∷ xs) k ≡ Some x → p x ≡ false
none_behind p y xs f rest zero x at = ap p (sym (same_Some y x at)) ∙ f
none_behind p y xs f rest (suc k) x at = rest k x at

none_passes : {X : Type 0} (p : X → Bool) (xs : List X) (first : ℕ) → position_from p first xs ≡ None → (k : ℕ) (x : X) → slice_get xs k ≡ Some x → p x ≡ false
none_passes p [] first e k x at = cc
none_passes p (y ∷ xs) first e k x at =
    elim (cases_Bool (p y)) [
      | inl t ↦ absurd (some_not_none first (sym (ap (λ b. cond b (Some first) (position_from p (first + 1) xs)) t) ∙ e))
      | inr f ↦ none_behind p y xs f (none_passes p xs (first + 1) (sym (ap (λ b. cond b (Some first) (position_from p (first + 1) xs)) f) ∙ e)) k x at
    ]

-- ---- in one plan

abbrev has_source : ℕ → ℕ → Stream → Bool
has_source input pid st = nat_eq st.input input && nat_eq st.pid pid

-- the stream that was looked up
record IsPlanned (streams : List Stream) (input pid : ℕ) (x : PlannedStream) : Type 0 where
  stream : Stream
  there : slice_get streams x.number ≡ Some stream
  input_is : stream.input ≡ input
  pid_is : stream.pid ≡ pid
  output_is : x.output_pid ≡ stream.output_pid

planned_at : (streams : List Stream) (input pid n : ℕ) (x : PlannedStream) → stream_place streams input pid ≡ Some n
    → option_map (planned_of n) (slice_get streams n) ≡ Some x → IsPlanned streams input pid x
planned_at streams input pid n x place e =
    let f = found_first (has_source input pid) streams 0 n place in
    let n_is : n ≡ f.place = omega (arith, f.is) in
    let there : slice_get streams n ≡ Some f.element = ap (slice_get streams) n_is ∙ f.there in
    let x_is : planned_of n f.element ≡ x = same_Some (planned_of n f.element) x (sym (ap (option_map (planned_of n)) there) ∙ e) in
    let number : n ≡ x.number = ap (λ (y : PlannedStream). y.number) x_is in
    let both = and_parts (nat_eq f.element.input input) (nat_eq f.element.pid pid) f.passes in
    record {
      stream = f.element;
      there = ap (slice_get streams) (sym number) ∙ there;
      input_is = eqb-true f.element.input input both.0;
      pid_is = eqb-true f.element.pid pid both.1;
      output_is = sym (ap (λ (y : PlannedStream). y.output_pid) x_is);
    }

planned_some : (streams : List Stream) (input pid : ℕ) (x : PlannedStream) → planned_stream streams input pid ≡ Some x → IsPlanned streams input pid x
planned_some streams input pid x e =
    option_and_then_some (λ n. option_map (planned_of n) (slice_get streams n)) (stream_place streams input pid) x e
    (λ n place there. planned_at streams input pid n x place there)

unnamed : (streams : List Stream) (input pid : ℕ) (o : Option ℕ) → stream_place streams input pid ≡ o
    → option_and_then (λ n. option_map (planned_of n) (slice_get streams n)) o ≡ None → o ≡ None
unnamed streams input pid None place e = refl
unnamed streams input pid (Some n) place e =
    let f = found_first (has_source input pid) streams 0 n place in
    let n_is : n ≡ f.place = omega (arith, f.is) in
    let there : slice_get streams n ≡ Some f.element = ap (slice_get streams) n_is ∙ f.there in
    absurd (some_not_none (planned_of n f.element) (sym (ap (option_map (planned_of n)) there) ∙ e))

planned_none : (streams : List Stream) (input pid : ℕ) → planned_stream streams input pid ≡ None → (st : Stream) → Contains streams st → st.input ≡ input → st.pid ≡ pid → ⊥
planned_none streams input pid e st c i q =
    let none : stream_place streams input pid ≡ None = unnamed streams input pid (stream_place streams input pid) refl e in
    let at : slice_get streams c.0 ≡ Some st = slice_get-get_or streams c.0 st c.1 ∙ ap Some c.2 in
    let fails : has_source input pid st ≡ false = none_passes (has_source input pid) streams 0 none c.0 st at in
    false≢true (sym fails ∙ and_from (nat_eq st.input input) (nat_eq st.pid pid) (eq-eqb st.input input i) (eq-eqb st.pid pid q))

-- ---- in a schedule

contains_at : (xs : List Stream) (k : ℕ) (st : Stream) → slice_get xs k ≡ Some st → Contains xs st
contains_at xs k st at = (k, slice_get_within xs k st at, get_or_from_slice_get xs k st st at)

-- streams of the schedule with one output PID are one
one_stream : (xs : List Stream) → AllPairs (λ (a b : Stream). a.output_pid ≢ b.output_pid) xs → (a b : Stream) → Contains xs a → Contains xs b
    → a.output_pid ≡ b.output_pid → a ≡ b
one_stream xs apart a b ca cb e =
    elim (cases_order ca.0 cb.0) [
      | inl same ↦
          let ja : slice_get xs ca.0 ≡ Some a = slice_get-get_or xs ca.0 a ca.1 ∙ ap Some ca.2 in
          let kb : slice_get xs cb.0 ≡ Some b = slice_get-get_or xs cb.0 b cb.1 ∙ ap Some cb.2 in
          same_Some a b (sym ja ∙ ap (slice_get xs) same ∙ kb)
      | inr (inl l) ↦ absurd (apart_at ca.0 cb.0 a b l ca.1 ca.2 cb.1 cb.2 e)
      | inr (inr l) ↦ absurd (apart_at cb.0 ca.0 b a l cb.1 cb.2 ca.1 ca.2 (sym e))
    ]
  where
    apart_at : (j k : ℕ) (x y : Stream) → j < k → j < length xs → get_or xs j x ≡ x → k < length xs → get_or xs k y ≡ y → x.output_pid ≡ y.output_pid → ⊥
    apart_at j k x y l lj ex lk ey same =
        apart j k x l lk
        (ap (λ (z : Stream). z.output_pid) ex ∙ same ∙ sym (ap (λ (z : Stream). z.output_pid) (get_or_default xs k x y lk ∙ ey)))

placed : (s : ScheduleValue) → AreStreamsOf s (all_streams s) → (input pid stamp place : ℕ) → number_for s stamp ≤ length s.later → (x : PlannedStream)
    → scheduled_stream s input pid stamp ≡ Some x → place_of (all_streams s) x.output_pid ≡ Some place → IsPlaceOf s input pid stamp place
placed s are input pid stamp place within x e f =
    let streams = (plan_for s stamp).request.streams in
    let planned = planned_some streams input pid x e in
    let st = planned.stream in
    let inside : Contains streams st = contains_at streams x.number st planned.there in
    let first = found_first (λ (y : Stream). y.output_pid == x.output_pid) (all_streams s) 0 place f in
    let at : place ≡ first.place = omega (arith, first.is) in
    let there : slice_get (all_streams s) place ≡ Some first.element = ap (slice_get (all_streams s)) at ∙ first.there in
    let pid_same : first.element.output_pid ≡ st.output_pid = are_one first.element.output_pid x.output_pid first.passes ∙ planned.output_is in
    let same : first.element ≡ st =
    one_stream (all_streams s) are.once first.element st (contains_at (all_streams s) place first.element there) (are.each (number_for s stamp) st within inside) pid_same in
    record { stream = st; there = there ∙ ap Some same; input_is = planned.input_is; pid_is = planned.pid_is; in_plan = inside }

-- no place: no stream, since each stream has one
unplaced : (s : ScheduleValue) → AreStreamsOf s (all_streams s) → (input pid stamp : ℕ) → number_for s stamp ≤ length s.later → (o : Option PlannedStream)
    → scheduled_stream s input pid stamp ≡ o → option_and_then (λ (planned : PlannedStream). place_of (all_streams s) planned.output_pid) o ≡ None → o ≡ None
unplaced s are input pid stamp within None e f = refl
unplaced s are input pid stamp within (Some x) e f =
    let streams = (plan_for s stamp).request.streams in
    let planned = planned_some streams input pid x e in
    let st = planned.stream in
    let inside : Contains streams st = contains_at streams x.number st planned.there in
    let c = are.each (number_for s stamp) st within inside in
    let at : slice_get (all_streams s) c.0 ≡ Some st = slice_get-get_or (all_streams s) c.0 st c.1 ∙ ap Some c.2 in
    let fails = none_passes (λ (y : Stream). y.output_pid == x.output_pid) (all_streams s) 0 f c.0 st at in
    absurd (false≢true (sym fails ∙ is_one st.output_pid x.output_pid (sym planned.output_is)))

pub are_places : (s : ScheduleValue) → AreStreamsOf s (all_streams s) → ((stamp : ℕ) → number_for s stamp ≤ length s.later) → ArePlaces s
are_places s are within = record {
  some = λ input pid stamp place e.
      option_and_then_some (λ (planned : PlannedStream). place_of (all_streams s) planned.output_pid) (scheduled_stream s input pid stamp) place e
      (λ x h f. placed s are input pid stamp place (within stamp) x h f);
  none = λ input pid stamp st e c i q.
      let o = scheduled_stream s input pid stamp in
      planned_none (plan_for s stamp).request.streams input pid (unplaced s are input pid stamp (within stamp) o refl e) st c i q;
}
