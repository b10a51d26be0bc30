use Rattle.analyse.proofs.WatchedLaws.{no_flag}
use Rattle.analyse.proofs.watched_pids.no_pids.Goals as goal

pub returns : goal.returns
returns c pid = no_flag 8192 pid
