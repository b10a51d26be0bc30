use Rattle.std.proofs.Common.{rules}
use Rattle.selection.proofs.ChoiceLaws.{beside_place}
use Rattle.selection.proofs.choice.find_beside.Goals as goal

pub returns-in_err-place : goal.returns-in_err-place
returns-in_err-place c = rw (beside_place c.args.wanted.now.input c.args.wanted.now.program c.args.services.now c.args.pmts.now) (search rules)

pub returns : goal.returns
returns c = rw (beside_place c.args.wanted.now.input c.args.wanted.now.program c.args.services.now c.args.pmts.now) (search rules)
