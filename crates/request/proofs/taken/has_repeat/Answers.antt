use Rattle.std.proofs.Common.{pos, sym, ◌∙◌}
use Rattle.std.proofs.lemmas.List.{at_drop_all}
use Rattle.request.specs.Request.{has_repeat}
use Rattle.request.proofs.TakenLaws.{repeat_none, repeat_some}
use Rattle.request.proofs.taken.has_repeat.Goals as goal

pub returns-then-is_among : goal.returns-then-is_among
returns-then-is_among c =
    sym (c.loop-i.invariant ∙ repeat_some c.args.numbers.now c.loop-i.i (pos 0) c.loop-i-test.true (sym c.is_among.ensures ∙ c.if-is_among.true))

pub loop-i-preserved : goal.loop-i-preserved
loop-i-preserved c =
    c.loop-i.invariant ∙ repeat_none c.args.numbers.now c.loop-i.i (pos 0) c.loop-i-test.true (sym c.is_among.ensures ∙ c.if-is_among.false)

pub returns : goal.returns
unfolding has_repeat
returns c = sym (c.loop-i.invariant ∙ at_drop_all has_repeat c.args.numbers.now c.loop-i.i c.loop-i-test.false)
