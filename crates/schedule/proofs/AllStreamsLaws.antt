-- The streams of all plans: each once, in the order of the plans.
use Rattle.std.proofs.Common.{ℕ, zero, suc, ◌≡◌, ◌+◌, ◌<◌, ◌≤◌, Bool, true, false, not, List, [], ◌∷◌, ◌++◌, length, get_or, ap, refl, sym, subst, arith}
use Rattle.std.specs.Prelude.{◌==◌, ◌≢◌}
use Rattle.std.specs.List.{All, AllPairs, Contains}
use Rattle.std.proofs.lemmas.List.Folds.{Any-from_list_any, list_any_at}
use Rattle.std.proofs.lemmas.List.Kept.{AllPairs-filter}
use Rattle.std.proofs.lemmas.List.Elements.{All-append, All-filter, All-head, All-tail, Contains-append_left, Contains-append_right, Contains-get_or, filter_passes}
use Rattle.request.specs.declared.stream.Stream.{Stream}
use Rattle.schedule.specs.Schedule.{SpanValue, ScheduleValue, plan_at}
use Rattle.schedule.specs.Switches.{NoPidIsReused}
use Rattle.schedule.specs.Streams.{has_output, new_of, with_later, all_streams, AreStreamsOf}
use Rattle.schedule.proofs.ListLaws.{pairs_append, filter_has}
use Rattle.schedule.proofs.PidLaws.{are_one, is_one}
use Rattle.schedule.proofs.ForceLaws.{later_at}
use Rattle.schedule.proofs.StreamLaws.{AreRequests, have_one_use, differ_in}

abbrev Differ : Stream → Stream → Type 0
Differ a b = a.output_pid ≢ b.output_pid

abbrev HaveAll : (Stream → Type 0) → SpanValue → Type 0
HaveAll P w = All P w.plan.request.streams

abbrev DifferIn : SpanValue → Type 0
DifferIn w = AllPairs Differ w.plan.request.streams

abbrev is_new : List Stream → Stream → Bool
is_new known st = not (has_output known st.output_pid)

-- what is known stays
kept : (known : List Stream) (ws : List SpanValue) (st : Stream) → Contains known st → Contains (with_later known ws) st
kept known [] st c = c
kept known (w ∷ ws) st c =
    kept (known ++ new_of known w.plan.request.streams) ws st (Contains-append_left known (new_of known w.plan.request.streams) st c)

more : (P : Stream → Type 0) (known streams : List Stream) → All P known → All P streams → All P (known ++ new_of known streams)
more P known streams h n = All-append P known (new_of known streams) h (All-filter (is_new known) P streams n)

-- what holds of each plan's streams holds of all
only : (P : Stream → Type 0) (known : List Stream) (ws : List SpanValue) → All P known → All (HaveAll P) ws → All P (with_later known ws)
only P known [] h rest = h
only P known (w ∷ ws) h rest =
    only P (known ++ new_of known w.plan.request.streams) ws (more P known w.plan.request.streams h (All-head (HaveAll P) w ws rest))
    (All-tail (HaveAll P) w ws rest)

-- output PIDs tell streams apart
abbrev AreTold : (Stream → Type 0) → Type 0
AreTold P = (a b : Stream) → P a → P b → a.output_pid ≡ b.output_pid → a ≡ b

-- so a stream with a known output PID is known
known_is : (P : Stream → Type 0) → AreTold P → (known : List Stream) (st : Stream) → All P known → P st → has_output known st.output_pid ≡ true → Contains known st
known_is P told known st all p e =
    let a = Any-from_list_any (λ (x : Stream). x.output_pid == st.output_pid) known e in
    let same : a.1 ≡ st = told a.1 st (subst P a.3 (all a.0 a.1 a.2)) p (are_one a.1.output_pid st.output_pid a.4) in
    let there : Contains known a.1 = (a.0, a.2, a.3) in subst (λ (x : Stream). Contains known x) same there

known_or_new : (P : Stream → Type 0) → AreTold P → (known streams : List Stream) (st : Stream) (b : Bool) → has_output known st.output_pid ≡ b
    → All P known → Contains streams st → P st → Contains (known ++ new_of known streams) st
known_or_new P told known streams st true e all c p = Contains-append_left known (new_of known streams) st (known_is P told known st all p e)
known_or_new P told known streams st false e all c p =
    Contains-append_right known (new_of known streams) st (filter_has (is_new known) streams st c (ap not e))

there : (P : Stream → Type 0) → AreTold P → (known : List Stream) (ws : List SpanValue) (k : ℕ) (d : SpanValue) (st : Stream) → All P known → All (HaveAll P) ws
    → k < length ws → Contains (get_or ws k d).plan.request.streams st → P st → Contains (with_later known ws) st
there P told known [] k d st all rest within c p = absurd (omega (arith, within))
there P told known (w ∷ ws) zero d st all rest within c p =
    let streams = w.plan.request.streams in
    kept (known ++ new_of known streams) ws st (known_or_new P told known streams st (has_output known st.output_pid) refl all c p)
there P told known (w ∷ ws) (suc k) d st all rest within c p =
    let streams = w.plan.request.streams in
    there P told (known ++ new_of known streams) ws k d st (more P known streams all (All-head (HaveAll P) w ws rest)) (All-tail (HaveAll P) w ws rest)
    (omega (arith, within)) c p

at_odds : (b : Bool) → b ≡ true → not b ≡ true → ⊥
at_odds true e f = cc
at_odds false e f = cc

apart_from : (known streams : List Stream) → All (λ a. All (Differ a) (new_of known streams)) known
apart_from known streams = λ k d within j e l same.
    let a = get_or known k d in
    let b = get_or (new_of known streams) j e in
    at_odds (has_output known b.output_pid) (list_any_at (λ (x : Stream). x.output_pid == b.output_pid) known k d within (is_one a.output_pid b.output_pid same))
    (filter_passes (is_new known) streams j e l)

once : (known : List Stream) (ws : List SpanValue) → AllPairs Differ known → All DifferIn ws → AllPairs Differ (with_later known ws)
once known [] pairs rest = pairs
once known (w ∷ ws) pairs rest =
    let streams = w.plan.request.streams in
    once (known ++ new_of known streams) ws
    (pairs_append Differ known (new_of known streams) pairs (AllPairs-filter Differ (is_new known) streams (All-head DifferIn w ws rest)) (apart_from known streams))
    (All-tail DifferIn w ws rest)

-- ---- of a schedule

abbrev IsOfSome : ScheduleValue → Stream → Type 0
IsOfSome s st = (number : ℕ) × (number ≤ length s.later) × Contains (plan_at s number).request.streams st

first_has : (s : ScheduleValue) → All (IsOfSome s) s.first.request.streams
first_has s = λ k d within. (0, omega arith, Contains-get_or s.first.request.streams k d within)

later_have : (s : ScheduleValue) → All (HaveAll (IsOfSome s)) s.later
later_have s = λ k w within j d l.
    let here = Contains-get_or (get_or s.later k w).plan.request.streams j d l in
    let st = get_or (get_or s.later k w).plan.request.streams j d in
    (k + 1, omega (arith, within), subst (λ (v : SpanValue). Contains v.plan.request.streams st) (later_at s k w within) here)

later_differ : (s : ScheduleValue) → AreRequests s → All DifferIn s.later
later_differ s ok = λ k w within.
    subst DifferIn (sym (later_at s k w within)) (differ_in (plan_at s (k + 1)).request (ok (k + 1) (omega (arith, within))))

each_there : (s : ScheduleValue) → AreTold (IsOfSome s) → (number : ℕ) (st : Stream) → number ≤ length s.later → Contains (plan_at s number).request.streams st
    → Contains (all_streams s) st
each_there s told zero st within c = kept s.first.request.streams s.later st c
each_there s told (suc n) st within c =
    let none : SpanValue = record { slot = 0; plan = s.first } in
    there (IsOfSome s) told s.first.request.streams s.later n none st (first_has s) (later_have s) (omega (arith, within)) c (suc n, within, c)

pub are_streams : (s : ScheduleValue) → NoPidIsReused s → AreRequests s → AreStreamsOf s (all_streams s)
are_streams s apart ok =
    let uses = have_one_use s apart ok in
    let told : AreTold (IsOfSome s) = λ a b ia ib same. uses.one_stream ia.0 ib.0 a b ia.1 ib.1 ia.2 ib.2 same in
    record {
      each = λ number st within c. each_there s told number st within c;
      no_other = λ st c. subst (λ (x : Stream). IsOfSome s x) c.2
          (only (IsOfSome s) s.first.request.streams s.later (first_has s) (later_have s) c.0 st c.1);
      once = once s.first.request.streams s.later (differ_in s.first.request (ok 0 (omega arith))) (later_differ s ok);
    }
