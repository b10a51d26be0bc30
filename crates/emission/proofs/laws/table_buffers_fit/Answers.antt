use Rattle.emission.proofs.TableSlotLaws as slots
use Rattle.emission.proofs.laws.table_buffers_fit.Goals as goal

pub returns : goal.returns
returns c out emission =
    slots.table_buffers_fit c.args.plan.now out c.known.ensures.tables c.known.ensures.request c.known.ensures.rounds emission
