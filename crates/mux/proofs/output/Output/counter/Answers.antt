use Rattle.std.proofs.Common.{ℕ, ◌%◌, List, length, get_or, reverse, ◌∙◌, ap}
use Rattle.emission.specs.Emission.{of_pid}
use Rattle.mux.proofs.CounterLaws.{counter_at}
use Rattle.mux.proofs.output.Output.counter.Goals as goal

pub returns-clause-value : goal.returns-clause-value
returns-clause-value c =
    c.next.ensures.value ∙ ap (λ (xs : List ℕ). get_or xs c.args.pid 0) c.self.invariant.0.counters_are ∙ counter_at (reverse c.self.inside.sent) c.args.pid 0 c.requires
    ∙ ap (λ (xs : List (List ℕ)). length (of_pid c.args.pid xs) % 16) c.self.view_is
