use Rattle.emission.proofs.AgreementLaws.{agree}
use Rattle.emission.proofs.laws.tables_agree.Goals as goal

pub returns : goal.returns
returns c = λ out h.
    agree c.args.plan.now out c.known.ensures.request c.known.ensures.tables c.known.ensures.rounds h
