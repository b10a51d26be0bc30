-- Streams of a schedule by their places.
use Rattle.std.proofs.Common.{ℕ, ◌+◌, ◌≤◌, ◌≡◌, ◌≢◌, true, List, length, get_or, Some, arith, ap, ◌∙◌, sym, subst, All, inl, inr, zero, suc, refl}
use Rattle.std.specs.Prelude.{◌==◌, option_and_then}
use Rattle.std.specs.List.{slice_get, AllPairs, Contains}
use Rattle.std.proofs.lemmas.Bool.{cases_order, cases_eq, ne_eqb}
use Rattle.std.proofs.lemmas.List.Folds.{Any-from_list_any, list_any_at}
use Rattle.std.proofs.lemmas.List.Elements.{All-contains}
use Rattle.std.proofs.lemmas.Option.{same_Some, slice_get_within, slice_get-get_or, get_or_from_slice_get}
use Rattle.request.specs.declared.stream.Stream.{Stream}
use Rattle.request.specs.Request.{InputValue, IsRequest, IsStream}
use Rattle.schedule.specs.Schedule.{ScheduleValue, plan_at}
use Rattle.schedule.specs.Switches.{IsSchedule}
use Rattle.plan.specs.Built.{IsBuilt}
use Rattle.schedule.specs.Laws.{AreBuilt, IsMultiplexSchedule}
use Rattle.schedule.specs.Streams.{all_streams, place_of, AreStreamsOf, ArePlaces}
use Rattle.schedule.proofs.FindLaws.{are_places}
use Rattle.schedule.proofs.ListLaws.{place_is}
use Rattle.schedule.proofs.ForceLaws.{number_within}
use Rattle.schedule.proofs.AllStreamsLaws.{are_streams}
use Rattle.schedule.proofs.StreamLaws.{have_one_use}
use Rattle.schedule.proofs.PidLaws.{are_one, is_one}
use Rattle.schedule.proofs.ForceLaws as force
use Rattle.emission.proofs.SpanFacts.{IsKnown}
use Rattle.mux.specs.History.{has_stream}
use Rattle.mux.specs.Lawful.{input_count}

abbrev pub IsAt : ScheduleValue → ℕ → Stream → Type 0
IsAt s k st = slice_get (all_streams s) k ≡ Some st

abbrev pub Has : ScheduleValue → Stream → Type 0
Has s st = (k : ℕ) × IsAt s k st

pub has_of : (s : ScheduleValue) (st : Stream) → Contains (all_streams s) st → Has s st
has_of s st c = (c.0, slice_get-get_or (all_streams s) c.0 st c.1 ∙ ap Some c.2)

pub contains_of : (s : ScheduleValue) (k : ℕ) (st : Stream) → IsAt s k st → Contains (all_streams s) st
contains_of s k st at = (k, slice_get_within (all_streams s) k st at, get_or_from_slice_get (all_streams s) k st st at)

pub all_at : {X : Type 0} (P : X → Type 0) (xs : List X) (k : ℕ) (x : X) → All P xs → slice_get xs k ≡ Some x → P x
all_at P xs k x all at = subst P (get_or_from_slice_get xs k x x at) (all k x (slice_get_within xs k x at))

-- ---- the plans

pub built_at : (s : ScheduleValue) → IsMultiplexSchedule s → (number : ℕ) → number ≤ length s.later → IsBuilt (plan_at s number)
built_at s ok number within = ok.plans number (record { slot = 0; plan = s.first }) (omega (arith, within))

pub streams_of : (s : ScheduleValue) → IsMultiplexSchedule s → AreStreamsOf s (all_streams s)
streams_of s ok = are_streams s ok.schedule.pids (λ number within. (built_at s ok number within).request)

-- the same of an equal schedule
pub known_as : {s t : ScheduleValue} → s ≡ t → IsSchedule s → AreBuilt s → IsMultiplexSchedule t
known_as {s} {t} e schedule plans = let P : ScheduleValue → Type 0 = IsMultiplexSchedule in subst P e (record { schedule = schedule; plans = plans })

-- a packet's place is that of its stream
pub places_of : (s : ScheduleValue) → IsMultiplexSchedule s → ArePlaces s
places_of s ok = are_places s (streams_of s ok) (λ stamp. number_within s stamp)

-- what is asked of a schedule for what it sends
pub known_of : (s : ScheduleValue) → IsMultiplexSchedule s → IsKnown s
known_of s ok = record {
  schedule = ok.schedule;
  plans = ok.plans;
  force = force.in_force s ok.schedule.slots;
  pids = have_one_use s ok.schedule.pids (λ number within. (built_at s ok number within).request);
}

-- the first plan's request
pub first_request : (s : ScheduleValue) → IsMultiplexSchedule s → IsRequest s.first.request
first_request s ok = (built_at s ok 0 (omega arith)).request

-- they have the same inputs
inputs_at : (s : ScheduleValue) → IsMultiplexSchedule s → (number : ℕ) → number ≤ length s.later → length (plan_at s number).request.inputs ≡ input_count s
inputs_at s ok zero within = refl
inputs_at s ok (suc n) within =
    let e : n + 1 ≡ suc n = omega arith in
    subst (λ k. length (plan_at s k).request.inputs ≡ input_count s) e (ap (λ (is : List InputValue). length is) (ok.schedule.even n (omega (arith, within))).inputs)

pub stream_in : (s : ScheduleValue) (k : ℕ) (st : Stream) → IsMultiplexSchedule s → IsAt s k st → IsStream (input_count s) st
stream_in s k st ok at =
    let one = (streams_of s ok).no_other st (contains_of s k st at) in
    let r = (plan_at s one.0).request in
    let is = All-contains (IsStream (length r.inputs)) r.streams st (built_at s ok one.0 one.1).request.streams one.2 in
    subst (λ n. IsStream n st) (inputs_at s ok one.0 one.1) is

-- ---- places

-- one stream stands at a place
pub at_place : (s : ScheduleValue) (k : ℕ) (st : Stream) (P : Stream → Type 0) → IsAt s k st → P st → (su : Stream) → IsAt s k su → P su
at_place s k st P at here su there = subst P (same_Some st su (sym at ∙ there)) here

-- what holds of each pair holds of those at two places
pair_at : (R : Stream → Stream → Type 0) → ((a b : Stream) → R a b → R b a) → (xs : List Stream) (j k : ℕ) (a b : Stream) → AllPairs R xs
    → slice_get xs j ≡ Some a → slice_get xs k ≡ Some b → j ≢ k → R a b
pair_at R flip xs j k a b all ja kb ne =
    let la = slice_get_within xs j a ja in
    let lb = slice_get_within xs k b kb in
    let ea = get_or_from_slice_get xs j a a ja in
    let eb = get_or_from_slice_get xs k b a kb in
    let P : Stream → Type 0 = λ x. R x (get_or xs k a) in
    let Q : Stream → Type 0 = λ y. R a y in
    let S : Stream → Type 0 = λ x. R (get_or xs k a) x in
    let T : Stream → Type 0 = λ y. R y a in
    elim (cases_order j k) [
      | inl e ↦ absurd (ne e)
      | inr (inl l) ↦ subst Q eb (subst P ea (all j k a l lb))
      | inr (inr l) ↦ flip b a (subst T eb (subst S ea (all k j a l la)))
    ]

-- the output PIDs tell the places apart
pub one_out : (s : ScheduleValue) (j k : ℕ) (a b : Stream) → IsMultiplexSchedule s → IsAt s j a → IsAt s k b → a.output_pid ≡ b.output_pid → j ≡ k
one_out s j k a b ok ja kb e =
    elim (cases_eq j k) [
      | inl same ↦ same
      | inr ne ↦ absurd (pair_at (λ (x y : Stream). x.output_pid ≢ y.output_pid) (λ x y d f. d (sym f)) (all_streams s) j k a b (streams_of s ok).once ja kb ne e)
    ]

-- a place has one stream
pub same_place : (s : ScheduleValue) (j k : ℕ) (a b : Stream) → j ≡ k → IsAt s j a → IsAt s k b → a ≡ b
same_place s j k a b e ja kb = same_Some a b (sym ja ∙ ap (slice_get (all_streams s)) e ∙ kb)

-- the output PIDs tell the streams of a schedule apart
pub same_stream : (s : ScheduleValue) (j k : ℕ) (a b : Stream) → IsMultiplexSchedule s → IsAt s j a → IsAt s k b → a.output_pid ≡ b.output_pid → a ≡ b
same_stream s j k a b ok ja kb e = same_place s j k a b (one_out s j k a b ok ja kb e) ja kb

-- ---- streams of a plan

-- a stream that a plan has is one of the plan, and the other way round
pub in_plan : (s : ScheduleValue) (number k : ℕ) (st : Stream) → IsMultiplexSchedule s → number ≤ length s.later → IsAt s k st → has_stream (plan_at s number) st ≡ true
    → Contains (plan_at s number).request.streams st
in_plan s number k st ok within at e =
    let streams = (plan_at s number).request.streams in
    let a = Any-from_list_any (λ (x : Stream). x.output_pid == st.output_pid) streams e in
    let there : Contains streams a.1 = (a.0, a.2, a.3) in
    let all = has_of s a.1 ((streams_of s ok).each number a.1 within there) in
    let same : a.1 ≡ st = same_stream s all.0 k a.1 st ok all.1 at (are_one a.1.output_pid st.output_pid a.4) in
    subst (λ (x : Stream). Contains streams x) same there

pub of_plan : (s : ScheduleValue) (number : ℕ) (st : Stream) → Contains (plan_at s number).request.streams st → has_stream (plan_at s number) st ≡ true
of_plan s number st c =
    let streams = (plan_at s number).request.streams in
    list_any_at (λ (x : Stream). x.output_pid == st.output_pid) streams c.0 st c.1
    (is_one (get_or streams c.0 st).output_pid st.output_pid (ap (λ (x : Stream). x.output_pid) c.2))

pub has_in_plan : (s : ScheduleValue) (number : ℕ) (st : Stream) → IsMultiplexSchedule s → number ≤ length s.later → Contains (plan_at s number).request.streams st → Has s st
has_in_plan s number st ok within c = has_of s st ((streams_of s ok).each number st within c)

-- two streams of a plan with one input and PID are one
pub one_source : (s : ScheduleValue) (number : ℕ) (a b : Stream) → IsMultiplexSchedule s → number ≤ length s.later
    → Contains (plan_at s number).request.streams a → Contains (plan_at s number).request.streams b → a.input ≡ b.input → a.pid ≡ b.pid → a ≡ b
one_source s number a b ok within ca cb e f =
    let streams = (plan_at s number).request.streams in
    let ja : slice_get streams ca.0 ≡ Some a = slice_get-get_or streams ca.0 a ca.1 ∙ ap Some ca.2 in
    let kb : slice_get streams cb.0 ≡ Some b = slice_get-get_or streams cb.0 b cb.1 ∙ ap Some cb.2 in
    elim (cases_eq ca.0 cb.0) [
      | inl same ↦ same_Some a b (sym ja ∙ ap (slice_get streams) same ∙ kb)
      | inr ne ↦
          absurd
          (pair_at (λ (x y : Stream). x.input ≡ y.input → x.pid ≢ y.pid) (λ x y d u v. d (sym u) (sym v)) streams ca.0 cb.0 a b
          (built_at s ok number within).request.one_stream_a_source ja kb ne e f)
    ]

-- a stream that two plans have is in each plan between
pub stays : (s : ScheduleValue) (i j k place : ℕ) (st : Stream) → IsMultiplexSchedule s → i ≤ j → j ≤ k → k ≤ length s.later → IsAt s place st
    → has_stream (plan_at s i) st ≡ true → has_stream (plan_at s k) st ≡ true → has_stream (plan_at s j) st ≡ true
stays s i j k place st ok ij jk within at a b =
    let uses = have_one_use s ok.schedule.pids (λ number l. (built_at s ok number l).request) in
    of_plan s j st
    (uses.stays i j k st ij jk within (in_plan s i place st ok (omega (arith, ij, jk, within)) at a) (in_plan s k place st ok within at b))

-- the place that is told of a plan's stream is that at which it stands
pub record IsPlaced (s : ScheduleValue) (number k : ℕ) (st : Stream) : Type 0 where
  pub place : ℕ
  pub at : IsAt s place st
  pub told : option_and_then (λ (x : Stream). place_of (all_streams s) x.output_pid) (slice_get (plan_at s number).request.streams k) ≡ Some place

pub placed : (s : ScheduleValue) (number k : ℕ) (st : Stream) → IsMultiplexSchedule s → number ≤ length s.later → slice_get (plan_at s number).request.streams k ≡ Some st → IsPlaced s number k st
placed s number k st ok within there =
    let streams = (plan_at s number).request.streams in
    let all = has_in_plan s number st ok within (k, slice_get_within streams k st there, get_or_from_slice_get streams k st st there) in
    let l = slice_get_within (all_streams s) all.0 st all.1 in
    let here : (get_or (all_streams s) all.0 st).output_pid ≡ st.output_pid = ap (λ (x : Stream). x.output_pid) (get_or_from_slice_get (all_streams s) all.0 st st all.1) in
    let none : 0 + all.0 ≡ all.0 = omega arith in
    record {
      place = all.0;
      at = all.1;
      told =
          ap (option_and_then (λ (x : Stream). place_of (all_streams s) x.output_pid)) there
          ∙ place_is (λ (x : Stream). x.output_pid == st.output_pid) 0 all.0 (all_streams s) st l (is_one (get_or (all_streams s) all.0 st).output_pid st.output_pid here)
          (λ j m. ne_eqb (get_or (all_streams s) j st).output_pid st.output_pid (λ same. (streams_of s ok).once j all.0 st m l (same ∙ sym here)))
          ∙ ap Some none;
    }
