use Rattle.std.proofs.Common.{ℕ, true, false, ap, sym, subst, ◌∙◌, ◌<◌, map, length, List}
use Rattle.request.specs.declared.limits.TheConstants.{MAX_STREAMS}
use Rattle.request.specs.declared.service_parts.ServiceParts.{ServiceParts}
use Rattle.request.specs.Parts.{service_parts_value, parts_value}
use Rattle.request.specs.Ranges.{is_count_between}
use Rattle.request.specs.Request.{stream_rows_of}
use Rattle.request.proofs.FaultLaws.{bad_top, bad_lists, stream_count_is, many_streams}
use Rattle.request.proofs.judge.find_ranged_streams.Goals as goal

pub returns-then-not-has_good_top-clause-bad : goal.returns-then-not-has_good_top-clause-bad
returns-then-not-has_good_top-clause-bad c =
    bad_top (parts_value c.args.parts.now) (sym c.has_good_top.ensures ∙ c.if-not-has_good_top.true)

pub returns-then-not-has_good_lists-clause-bad : goal.returns-then-not-has_good_lists-clause-bad
returns-then-not-has_good_lists-clause-bad c =
    bad_lists (parts_value c.args.parts.now) (sym c.has_good_top.ensures ∙ c.if-not-has_good_top.false) (sym c.has_good_lists.ensures ∙ c.if-not-has_good_lists.true)

pub returns-in_default-clause-bad : goal.returns-in_default-clause-bad
returns-in_default-clause-bad c =
    many_streams (parts_value c.args.parts.now) (sym c.has_good_top.ensures ∙ c.if-not-has_good_top.false) (sym c.has_good_lists.ensures ∙ c.if-not-has_good_lists.false)
    (subst (λ (xs : List ServiceParts). MAX_STREAMS < length (stream_rows_of (map service_parts_value xs))) c.deref.ensures.value c.in_default.ensures.many)

pub returns-then-is_count-clause-good : goal.returns-then-is_count-clause-good
returns-then-is_count-clause-good c =
    let count = c.len.ensures.value ∙ ap length c.in-Some.ensures.found ∙ ap (λ (xs : List ServiceParts). length (stream_rows_of (map service_parts_value xs))) c.deref.ensures.value in
    stream_count_is (parts_value c.args.parts.now) true (sym c.has_good_top.ensures ∙ c.if-not-has_good_top.false) (sym c.has_good_lists.ensures ∙ c.if-not-has_good_lists.false)
    (ap (λ (n : ℕ). is_count_between 1 MAX_STREAMS n) (sym count) ∙ sym c.is_count.ensures ∙ c.if-is_count.true)

pub returns-else-is_count-clause-bad : goal.returns-else-is_count-clause-bad
returns-else-is_count-clause-bad c =
    let count = c.len.ensures.value ∙ ap length c.in-Some.ensures.found ∙ ap (λ (xs : List ServiceParts). length (stream_rows_of (map service_parts_value xs))) c.deref.ensures.value in
    stream_count_is (parts_value c.args.parts.now) false (sym c.has_good_top.ensures ∙ c.if-not-has_good_top.false) (sym c.has_good_lists.ensures ∙ c.if-not-has_good_lists.false)
    (ap (λ (n : ℕ). is_count_between 1 MAX_STREAMS n) (sym count) ∙ sym c.is_count.ensures ∙ c.if-is_count.false)
