use Rattle.std.proofs.Common.{arith}
use Rattle.std.proofs.lemmas.List.{get_or_default}
use Rattle.std.proofs.lemmas.List.Edits.{map_over_more}
use Rattle.mux.specs.Keeping.{without_notes}
use Rattle.mux.proofs.Noted.{already_cleared}
use Rattle.mux.proofs.choice.clear_notes.Goals as goal

pub loop-x-preserved : goal.loop-x-preserved
loop-x-preserved c = map_over_more without_notes c.args.inputs.now.items c.loop-x.x-items c.loop-x.x-index _ (omega arith) c.loop-x.invariant (get_or_default c.loop-x.x-items c.loop-x.x-index _ _ (omega arith))

pub returns-else-is_noted-clause-inputs : goal.returns-else-is_noted-clause-inputs
returns-else-is_noted-clause-inputs c = already_cleared c.args.inputs.now.items (c.requires.unnoted c.if-is_noted.false)
