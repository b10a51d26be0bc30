use Rattle.emission.proofs.RecurrenceLaws.{recur}
use Rattle.emission.proofs.laws.tables_recur.Goals as goal

pub returns : goal.returns
returns c = λ out h.
    recur c.args.plan.now out c.known.ensures.request c.known.ensures.tables c.known.ensures.rounds h
