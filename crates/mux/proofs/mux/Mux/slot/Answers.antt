use Rattle.std.proofs.Common.{refl}
use Rattle.mux.proofs.Pushed.{some_behind, lent_sent}
use Rattle.mux.proofs.mux.Mux.slot.Goals as goal

pub last-requires : goal.last-requires
last-requires c = some_behind _ _ _ (c.in-Sent.ensures.sent refl).behind

pub returns-in-Sent-clause-answer : goal.returns-in-Sent-clause-answer
returns-in-Sent-clause-answer c = lent_sent _ _ _ _ _ (c.in-Sent.ensures.sent refl) c.last.ensures
