-- Where streams stand among all.
use Rattle.std.proofs.Common.{ℕ, zero, suc, ◌≡◌, ◌<◌, ◌≤◌, ◌∙◌, ◌&&◌, false, List, [], ◌∷◌, Option, None, Some, length, map, get_or, ap, refl, sym, subst, zero-add, arith}
use Rattle.std.specs.Prelude.{◌==◌, ◌≢◌, slice_get, option_map, option_and_then}
use Rattle.std.specs.List.{AllPairs}
use Rattle.std.proofs.lemmas.Bool.Decides.{nat_tests}
use Rattle.std.proofs.lemmas.List.{length-map, get_or-map}
use Rattle.std.proofs.lemmas.Option.{option_and_then_some, slice_get-map, slice_get-get_or, slice_get_past, get_or_from_slice_get}
use Rattle.request.specs.declared.stream.Stream.{Stream}
use Rattle.request.specs.Request.{IsRequest}
use Rattle.plan.specs.declared.planned_stream.PlannedStream.{PlannedStream}
use Rattle.plan.specs.Build.{PlanValue}
use Rattle.plan.specs.StreamPlace.{stream_place, planned_of, planned_stream}
use Rattle.schedule.specs.Schedule.{SpanValue, ScheduleValue, schedule_of, single, spans, plan_at}
use Rattle.schedule.specs.Streams.{place_of, scheduled_place, all_streams}
use Rattle.schedule.specs.Keeping.{places_in, places_of}
use Rattle.schedule.proofs.ListLaws.{place_is, place_within}
use Rattle.schedule.proofs.PidLaws.{is_one}
use Rattle.schedule.proofs.StreamLaws.{differ_in}

not_one : (a b : ℕ) → a ≢ b → (a == b) ≡ false
not_one a b h = grind (arith, nat_tests)

pub some_of : (n : ℕ) → (n == 0) ≡ false → 0 < n
some_of n h = grind (arith, nat_tests)

-- where output PIDs differ, a stream's own PID leads to it
own_place : (streams : List Stream) → AllPairs (λ (a b : Stream). a.output_pid ≢ b.output_pid) streams → (n : ℕ) (st : Stream) → n < length streams
    → get_or streams n st ≡ st → place_of streams st.output_pid ≡ Some n
own_place streams apart n st within is =
    let pid = st.output_pid in
    place_is (λ (x : Stream). x.output_pid == pid) 0 n streams st within (ap (λ (x : Stream). x.output_pid == pid) is ∙ is_one pid pid refl)
    (λ k l. not_one (get_or streams k st).output_pid pid (λ same. apart k n st l within (same ∙ sym (ap (λ (x : Stream). x.output_pid) is))))
    ∙ ap (λ m. Some m) (zero-add n)

-- what is planned stands where it says
abbrev StandsAt : List Stream → PlannedStream → Type 0
StandsAt streams planned = (st : Stream) × (slice_get streams planned.number ≡ Some st) × (st.output_pid ≡ planned.output_pid)

mapped : (streams : List Stream) (n : ℕ) (o : Option Stream) (planned : PlannedStream) → slice_get streams n ≡ o → option_map (planned_of n) o ≡ Some planned
    → StandsAt streams planned
mapped streams n None planned e f = cc
mapped streams n (Some st) planned e f =
    let is : planned_of n st ≡ planned = cc in
    subst (λ (p : PlannedStream). StandsAt streams p) is (st, e, refl)

stands_at : (streams : List Stream) (input pid : ℕ) (planned : PlannedStream) → planned_stream streams input pid ≡ Some planned → StandsAt streams planned
stands_at streams input pid planned e =
    option_and_then_some (λ n. option_map (planned_of n) (slice_get streams n)) (stream_place streams input pid) planned e
    (λ n h f. mapped streams n (slice_get streams n) planned refl f)

-- the place among all of a plan's stream, by its number in the plan
abbrev pub place_by : List Stream → List Stream → ℕ → Option ℕ
place_by all streams n = option_and_then (λ (st : Stream). place_of all st.output_pid) (slice_get streams n)

-- that of a planned stream
pub place_of_planned : (all streams : List Stream) (input pid : ℕ) (planned : PlannedStream) → planned_stream streams input pid ≡ Some planned
    → place_by all streams planned.number ≡ place_of all planned.output_pid
place_of_planned all streams input pid planned e =
    let at = stands_at streams input pid planned e in
    ap (λ o. option_and_then (λ (st : Stream). place_of all st.output_pid) o) at.1 ∙ ap (λ n. place_of all n) at.2

-- as it is kept
through : (all : List Stream) (o : Option Stream)
    → option_and_then (λ (p : Option ℕ). p) (option_map (λ (st : Stream). place_of all st.output_pid) o) ≡ option_and_then (λ (st : Stream). place_of all st.output_pid) o
through all None = refl
through all (Some st) = refl

pub place_read : (all streams : List Stream) (n : ℕ) → option_and_then (λ (p : Option ℕ). p) (slice_get (places_in all streams) n) ≡ place_by all streams n
place_read all streams n =
    ap (λ o. option_and_then (λ (p : Option ℕ). p) o) (slice_get-map (λ (st : Stream). place_of all st.output_pid) streams n) ∙ through all (slice_get streams n)

-- those of one plan
pub places_at : (s : ScheduleValue) (number : ℕ) → number ≤ length s.later
    → (number < length (places_of s)) × (get_or (places_of s) number [] ≡ places_in (all_streams s) (plan_at s number).request.streams)
places_at s number within =
    let of_span : SpanValue → List (Option ℕ) = λ (w : SpanValue). places_in (all_streams s) w.plan.request.streams in
    let size = length-map (spans s) of_span in
    let there : number < length (spans s) = omega (arith, within) in
    (omega (arith, there, size), get_or-map of_span (spans s) number (record { slot = 0; plan = s.first }) [] there)

-- as they are kept beside the plans
pub kept_at : {X : Type 0} (items : X → List (Option ℕ)) (xs : List X) (s : ScheduleValue) (number : ℕ) (x : X) → map items xs ≡ places_of s → number ≤ length s.later
    → x ≡ get_or xs number x → items x ≡ places_in (all_streams s) (plan_at s number).request.streams
kept_at items xs s number x e within is =
    let at = places_at s number within in
    let size = length-map xs items in
    let same = ap length e in
    ap items is ∙ sym (get_or-map items xs number x [] (omega (arith, at.0, size, same))) ∙ ap (λ l. get_or l number []) e ∙ at.1

-- ---- of one plan

-- the place of its stream is its number
pub place_in_one : (p : PlanValue) → IsRequest p.request → (n : ℕ) → n < length p.request.streams → Some n ≡ place_by p.request.streams p.request.streams n
place_in_one p ok n within =
    let none : Stream = record { input = 0; pid = 0; output_pid = 0; leak = 0 } in
    let streams = p.request.streams in
    let st = get_or streams n none in
    let read : slice_get streams n ≡ Some st = slice_get-get_or streams n none within in
    sym
    (ap (λ o. option_and_then (λ (x : Stream). place_of streams x.output_pid) o) read
    ∙ own_place streams (differ_in p.request ok) n st within (get_or_from_slice_get streams n st st read))

pub no_place : (all streams : List Stream) (n : ℕ) → length streams ≤ n → None ≡ place_by all streams n
no_place all streams n past = sym (ap (λ o. option_and_then (λ (st : Stream). place_of all st.output_pid) o) (slice_get_past streams n past))

one_place : (p : PlanValue) → IsRequest p.request → (o : Option ℕ) → ((k : ℕ) → o ≡ Some k → k < length p.request.streams)
    → option_and_then (λ (planned : PlannedStream). place_of p.request.streams planned.output_pid)
    (option_and_then (λ n. option_map (planned_of n) (slice_get p.request.streams n)) o) ≡ o
one_place p ok None within = refl
one_place p ok (Some n) within =
    let none : Stream = record { input = 0; pid = 0; output_pid = 0; leak = 0 } in
    let streams = p.request.streams in
    let l = within n refl in
    let st = get_or streams n none in
    let read : slice_get streams n ≡ Some st = slice_get-get_or streams n none l in
    ap (λ o. option_and_then (λ (planned : PlannedStream). place_of streams planned.output_pid) (option_map (planned_of n) o)) read
    ∙ own_place streams (differ_in p.request ok) n st l (get_or_from_slice_get streams n st st read)

-- in a schedule of one plan a packet's place is its stream's number
pub packet_in_one : (p : PlanValue) → IsRequest p.request → (input pid stamp : ℕ) → scheduled_place (single p) input pid stamp ≡ stream_place p.request.streams input pid
packet_in_one p ok input pid stamp =
    one_place p ok (stream_place p.request.streams input pid)
    (λ k e. omega (arith, place_within (λ (s : Stream). s.input == input && s.pid == pid) 0 k p.request.streams e))

-- and so is the place of a stream
pub stream_in_one : (first : PlanValue) (later : List (ℕ × PlanValue)) (number n : ℕ) → length later ≡ 0 → number ≤ length (schedule_of first later).later
    → place_by first.request.streams first.request.streams n ≡ place_by (all_streams (schedule_of first later)) (plan_at (schedule_of first later) number).request.streams n
stream_in_one first [] zero n none within = refl
stream_in_one first [] (suc k) n none within = absurd (omega (arith, within))
stream_in_one first (w ∷ ws) number n none within = absurd (omega (arith, none))
