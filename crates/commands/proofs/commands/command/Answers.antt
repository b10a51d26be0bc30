use denote.Param.Send.{sendable}
use Rattle.std.proofs.Crossing.{crosses}
use Rattle.commands.proofs.commands.command.Goals as goal

-- the meters of a run go to the threads of its inputs: a meter is deep, so the search for that goes deeper than it does by itself
pub run-requires-send-M : goal.run-requires-send-M
run-requires-send-M g c κs within = search (sendable, crosses) depth 80 fits 1000000
