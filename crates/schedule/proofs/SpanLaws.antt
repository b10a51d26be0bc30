-- The plans of a schedule by their numbers, as the code reads them.
use Rattle.std.proofs.Common.{ℕ, ◌+◌, ◌<◌, ◌≡◌, List, length, map, get_or, add-one, ap, ◌∙◌, sym, subst, arith}
use Rattle.std.specs.Prelude.{All}
use Rattle.std.proofs.lemmas.List.{length-map, get_or-map}
use Rattle.std.proofs.lemmas.List.Elements.{All-map, All-cons}
use Rattle.plan.specs.Build.{PlanValue}
use Rattle.schedule.specs.Schedule.{SpanValue, schedule_of, spans, span_at, plan_at}
use Rattle.plan.specs.Built.{IsBuilt}
use Rattle.schedule.specs.Laws.{AreBuilt}

-- a later plan with its slot
abbrev pub span_of : ℕ × PlanValue → SpanValue
span_of w = record { slot = w.0; plan = w.1 }

pub later_count : (first : PlanValue) (later : List (ℕ × PlanValue)) → length (schedule_of first later).later ≡ length later
later_count first later = length-map later span_of

-- the span of a later plan, and the plan, by what was read
pub span_read : (first : PlanValue) (later : List (ℕ × PlanValue)) (number : ℕ) (w : ℕ × PlanValue) → number < length later → w ≡ get_or later number w
    → span_at (schedule_of first later) (number + 1) ≡ span_of w
span_read first later number w within is =
    let none : SpanValue = record { slot = 0; plan = first } in
    ap (λ n. get_or (spans (schedule_of first later)) n none) (add-one number) ∙ get_or-map span_of later number w none within ∙ ap span_of (sym is)

pub plan_read : (first : PlanValue) (later : List (ℕ × PlanValue)) (number : ℕ) (w : ℕ × PlanValue) → number < length later → w ≡ get_or later number w
    → plan_at (schedule_of first later) (number + 1) ≡ w.1
plan_read first later number w within is = ap (λ (x : SpanValue). x.plan) (span_read first later number w within is)

pub slot_read : (first : PlanValue) (later : List (ℕ × PlanValue)) (number : ℕ) (w : ℕ × PlanValue) → number < length later → w ≡ get_or later number w
    → (span_at (schedule_of first later) (number + 1)).slot ≡ w.0
slot_read first later number w within is = ap (λ (x : SpanValue). x.slot) (span_read first later number w within is)

-- what holds of each later plan, as the code and as the schedule has them
pub of_later : (P : SpanValue → Type 0) (first : PlanValue) (later : List (ℕ × PlanValue)) → All (λ w. P (span_of w)) later → All P (schedule_of first later).later
of_later P first later h = All-map P span_of later h

pub of_read : (P : SpanValue → Type 0) (first : PlanValue) (later : List (ℕ × PlanValue)) → All P (schedule_of first later).later → All (λ w. P (span_of w)) later
of_read P first later h k d within =
    let size = length-map later span_of in
    subst P (get_or-map span_of later k d (span_of d) within) (h k (span_of d) (omega arith))

pub all_built : (first : PlanValue) (later : List (ℕ × PlanValue)) → IsBuilt first → All (λ w. IsBuilt w.1) later → AreBuilt (schedule_of first later)
all_built first later one rest =
    All-cons (λ (w : SpanValue). IsBuilt w.plan) (record { slot = 0; plan = first }) (map span_of later) one
    (of_later (λ (w : SpanValue). IsBuilt w.plan) first later rest)
