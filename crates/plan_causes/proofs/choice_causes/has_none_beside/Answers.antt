use Rattle.std.proofs.Common.{rules}
use Rattle.selection.proofs.ChoiceLaws.{beside_place}
use Rattle.plan_causes.proofs.ChoiceLaws.{not_some}
use Rattle.plan_causes.proofs.choice_causes.has_none_beside.Goals as goal

pub returns-in-Some : goal.returns-in-Some
returns-in-Some c = rw (beside_place c.args.wanted.now.input c.args.wanted.now.program c.args.services.now c.args.pmts.now) (search (rules, not_some))

pub returns-in-None : goal.returns-in-None
returns-in-None c = rw (beside_place c.args.wanted.now.input c.args.wanted.now.program c.args.services.now c.args.pmts.now) (search rules)
