use Rattle.mux.proofs.Choices.{IsBestBelow, IsLimit}
use Rattle.mux.proofs.choice.choose_of_all.Given as goal

abbrev pub invariant-loop-i : goal.invariant-loop-i
invariant-loop-i l = IsBestBelow l.streams l.queues l.progress.buckets l.now l.i l.best × IsLimit l.now l.best l.limit
