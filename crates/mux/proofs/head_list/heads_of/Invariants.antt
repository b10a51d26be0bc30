use Rattle.std.proofs.Common.{◌≡◌, map, take}
use Rattle.mux.specs.Keeping.{head_time}
use Rattle.mux.proofs.HeadTimes.{time_of, pid_of_head, output_of}
use Rattle.mux.proofs.head_list.heads_of.Given as goal

abbrev pub invariant-loop-i : goal.invariant-loop-i
invariant-loop-i l = (map time_of l.heads.items ≡ map head_time (take l.i l.queues)) × (map pid_of_head l.heads.items ≡ map output_of (take l.i l.streams))
