use Rattle.std.proofs.Common.{length, ap, arith}
use Rattle.mux.specs.History.{History}
use Rattle.mux.proofs.Force.{force_within}
use Rattle.mux.proofs.mux.Mux.in_force.Goals as goal

pub returns-clause-within : goal.returns-clause-within
returns-clause-within c =
    let k = c.self.invariant.0.agrees in
    let v = ap (λ (h : History). length h.run.schedule.later) c.self.view_is in
    omega (arith, c.self.invariant.1.number_is, force_within c.self.inside.schedule c.self.inside.past k.schedule k.lawful, v)
