use Rattle.mux.proofs.Choices.{none_unranked}
use Rattle.mux.proofs.choice.choose_of_unranked.Goals as goal

pub returns-then-now-lt-UNRANKED-clause-none : goal.returns-then-now-lt-UNRANKED-clause-none
returns-then-now-lt-UNRANKED-clause-none c = none_unranked c.requires.heads c.args.progress.now.buckets c.args.now c.requires.unranked c.if-now-lt-UNRANKED.true
