use Rattle.std.proofs.Common.{rules, ◌<◌, ◌+◌, arith, pos, get_or, length, refl, sym, ◌∙◌}
use Rattle.std.proofs.lemmas.Int.{to_z-of_z}
use Rattle.std.proofs.lemmas.List.{at_drop_all}
use Rattle.request.specs.Request.{has_repeat}
use Rattle.request_causes.proofs.RepeatLaws.{are_both, second_within, repeats, repeats_later}
use Rattle.request_causes.proofs.repeat.find_repeat.Goals as goal
use mir.Val.{SFits}
use mir.Syntax.{w64}

pub overflow_add-result-in-Some : goal.overflow_add-result-in-Some
overflow_add-result-in-Some c =
    let z = get_or c.args.numbers.now c.loop-first.first (pos 0) in
    let within : c.loop-first.first + 1 + c.in-Some.behind < length c.args.numbers.now =
    second_within c.args.numbers.now c.loop-first.first c.in-Some.behind z c.loop-first-test.true refl (search rules) in
    omega arith

pub returns-in-Some-clause-both : goal.returns-in-Some-clause-both
returns-in-Some-clause-both c =
    let z = get_or c.args.numbers.now c.loop-first.first (pos 0) in
    let fits : SFits w64 z = search rules in
    rw (to_z-of_z w64 z fits) (are_both c.args.numbers.now c.loop-first.first c.in-Some.behind z c.loop-first-test.true refl (search rules))

pub returns-in-Some-clause-some : goal.returns-in-Some-clause-some
returns-in-Some-clause-some c =
    let z = get_or c.args.numbers.now c.loop-first.first (pos 0) in
    sym (c.loop-first.invariant ∙ repeats c.args.numbers.now c.loop-first.first c.in-Some.behind z c.loop-first-test.true refl (search rules))

pub loop-first-preserved : goal.loop-first-preserved
loop-first-preserved c =
    let z = get_or c.args.numbers.now c.loop-first.first (pos 0) in
    c.loop-first.invariant ∙ repeats_later c.args.numbers.now c.loop-first.first z c.loop-first-test.true refl (search rules)

pub returns-clause-some : goal.returns-clause-some
unfolding has_repeat
returns-clause-some c = sym (c.loop-first.invariant ∙ at_drop_all has_repeat c.args.numbers.now c.loop-first.first c.loop-first-test.false)
