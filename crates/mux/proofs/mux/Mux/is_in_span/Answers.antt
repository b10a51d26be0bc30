use Rattle.std.proofs.Common.{◌≡◌, subst, arith}
use Rattle.std.proofs.lemmas.Bool.{ltb-true}
use Rattle.schedule.specs.Schedule.{number_for}
use Rattle.mux.specs.History.{History, in_force}
use Rattle.mux.proofs.Force.{force_within}
use Rattle.mux.proofs.SpanOf.{in_span_is}
use Rattle.mux.proofs.mux.Mux.is_in_span.Goals as goal

pub returns-then-self-stamp : goal.returns-then-self-stamp
returns-then-self-stamp c = λ yes.
    let k = c.self.invariant.0.agrees in
    let s = c.self.inside.schedule in
    let R : History → Type 0 = λ h. number_for h.run.schedule c.args.stamp ≡ in_force h.events in
    subst R c.self.view_is (in_span_is s (in_force c.self.inside.past) c.self.inside.span c.args.stamp k.schedule (force_within s c.self.inside.past k.schedule k.lawful) c.self.invariant.1 (omega arith) (ltb-true _ _ yes))
