use Rattle.std.proofs.Common.{rules, ℕ, ◌≡◌, ◌<◌, List, length, replicate, All, sym, subst}
use Rattle.mux.proofs.CounterLaws.{all_zero}
use Rattle.mux.proofs.pid_counters.PidCounters.new.Goals as goal

pub invariant_of-result : goal.invariant_of-result
invariant_of-result c =
    let P : List ℕ → Type 0 = λ xs. (length xs ≡ 8192) × All (λ n. n < 16) xs in
    let zeros : c.in_ok-vec.field-0.items ≡ replicate 8192 0 = search rules in
    subst P (sym zeros) (all_zero 8192)
