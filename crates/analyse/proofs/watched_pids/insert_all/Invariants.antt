use Rattle.std.proofs.Common.{◌≡◌, ◌==◌, ◌<◌, ◌||◌, ℕ, false, get_or, take}
use Rattle.std.specs.List.{list_any}
use Rattle.analyse.proofs.watched_pids.insert_all.Given as goal

abbrev pub invariant-loop-pid : goal.invariant-loop-pid
invariant-loop-pid l =
    (other : ℕ) → other < 8192 → get_or l.set other false ≡ (get_or l.fn.set other false || list_any (λ pid. pid == other) (take l.pid-index l.pids))
