use Rattle.std.proofs.Common.{ℕ, ◌≡◌, ◌<◌, sym, ap, ◌∙◌, arith, subst, length, ◌+◌, Option}
use Rattle.std.proofs.lemmas.List.{length-map}
use Rattle.mux.specs.declared.candidate.Candidate.{Candidate}
use Rattle.mux.specs.Keeping.{head_time}
use Rattle.mux.proofs.HeadTimes.{time_of}
use Rattle.mux.proofs.Choices.{IsBestBelow, limit_some, limit_same, skips_read, passed_over, picks_read, none_eligible, first_eligible}
use Rattle.mux.proofs.choice.choose_of_all.Goals as goal
use Rattle.mux.proofs.choice.choose_of_all.Goals.{then-head-limit+in-Some, then-head-limit+in_default, else-head-limit}

pub loop-i-preserved : goal.loop-i-preserved
loop-i-preserved c =
    let P : Option Candidate → Type 0 = IsBestBelow c.args.streams.now c.args.queues.now c.args.progress.now.buckets c.args.now (c.loop-i.i + 1) in
    let count = sym (length-map c.args.heads.now time_of) ∙ ap length c.requires.heads ∙ length-map c.args.queues.now head_time in
    let l : c.loop-i.i < length c.args.queues.now = omega (arith, count) in
    elim c.if-head-limit.branch [
      | then-head-limit+in-Some w ↦ (
        subst P (sym w.best-is) (picks_read c.args.streams.now c.args.queues.now c.args.progress.now.buckets c.args.now c.loop-i.i c.loop-i.best w.index-queues-i.result _ c.loop-i.limit w.in-Some.next c.loop-i.invariant.0 c.loop-i.invariant.1 l c.requires.queues w.index-queues-i.is w.in-Some.ensures.some),
        limit_some c.args.now _ _ w.in-Some.next w.best-is w.limit-is,
      )
      | then-head-limit+in_default w ↦ (
        subst P (sym w.best-is) (skips_read c.args.streams.now c.args.queues.now c.args.progress.now.buckets c.args.now c.loop-i.i c.loop-i.best w.index-queues-i.result _ c.loop-i.limit c.loop-i.invariant.0 c.loop-i.invariant.1 l c.requires.queues w.index-queues-i.is w.in_default.ensures.none),
        limit_same c.args.now _ _ c.loop-i.best c.loop-i.limit w.best-is w.limit-is c.loop-i.invariant.1,
      )
      | else-head-limit w ↦ (
        subst P (sym w.best-is) (passed_over c.args.streams.now c.args.queues.now c.args.heads.now c.args.progress.now.buckets c.args.now c.loop-i.i c.loop-i.best c.loop-i.limit c.loop-i.invariant.0 c.loop-i.invariant.1 l c.requires.queues c.requires.heads w.if-head-limit.false),
        limit_same c.args.now _ _ c.loop-i.best c.loop-i.limit w.best-is w.limit-is c.loop-i.invariant.1,
      )
    ]

pub returns-clause-none : goal.returns-clause-none
returns-clause-none c =
    let count = sym (length-map c.args.heads.now time_of) ∙ ap length c.requires.heads ∙ length-map c.args.queues.now head_time in
    let e : c.loop-i.i ≡ length c.args.streams.now = omega arith in
    let P : ℕ → Type 0 = λ n. IsBestBelow c.args.streams.now c.args.queues.now c.args.progress.now.buckets c.args.now n c.loop-i.best in
    none_eligible c.args.streams.now c.args.queues.now c.args.progress.now.buckets c.args.now c.loop-i.best (subst P e c.loop-i.invariant.0)

pub returns-clause-some : goal.returns-clause-some
returns-clause-some c =
    let count = sym (length-map c.args.heads.now time_of) ∙ ap length c.requires.heads ∙ length-map c.args.queues.now head_time in
    let e : c.loop-i.i ≡ length c.args.streams.now = omega arith in
    let P : ℕ → Type 0 = λ n. IsBestBelow c.args.streams.now c.args.queues.now c.args.progress.now.buckets c.args.now n c.loop-i.best in
    first_eligible c.args.streams.now c.args.queues.now c.args.progress.now.buckets c.args.now c.loop-i.best (subst P e c.loop-i.invariant.0)
