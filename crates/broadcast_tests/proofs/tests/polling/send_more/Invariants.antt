use Rattle.std.proofs.Common.{◌-◌}
use Rattle.broadcast_tests.proofs.tests.polling.send_more.Given as goal

abbrev pub decreases-loop-sent : goal.decreases-loop-sent
decreases-loop-sent g l = l.packets - l.sent
