use Rattle.std.proofs.Common.{ltb, ap, ◌∙◌}
use Rattle.schedule.specs.Schedule.{number_for}
use Rattle.mux.specs.History.{History}
use Rattle.mux.specs.Lawful.{is_early}
use Rattle.mux.proofs.mux.Mux.is_early.Goals as goal

pub returns : goal.returns
returns c =
    ap (λ n. ltb n c.number_for.result) c.self.invariant.1.number_is
    ∙ ap (ltb _) (c.number_for.ensures.value ∙ ap (number_for c.self.inside.schedule) c.stamp.ensures)
    ∙ ap (λ (h : History). is_early h.run.schedule h.events c.args.item.now) c.self.view_is
