use Rattle.std.proofs.Common.{ℕ, ◌<◌}
use Rattle.std.specs.List.{All, Any, count_by}
use Rattle.probe.specs.Counts.{is_of}
use Rattle.probe.specs.Probing.{IsCounted, IsOfPid}
use Rattle.probe.proofs.surveying.survey_pids.Given as goal

abbrev pub invariant-loop-pid : goal.invariant-loop-pid
invariant-loop-pid l = record {
  counted : All (IsCounted l.kept.counts.now) l.pids.items;
  listed : (pid : ℕ) → pid < l.pid → 0 < count_by (is_of pid) l.kept.counts.now → Any (IsOfPid pid) l.pids.items;
}
