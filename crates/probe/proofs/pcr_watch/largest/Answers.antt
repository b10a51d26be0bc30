use Rattle.std.proofs.Common.{ℕ, max, get_or, ap, sym, ◌∙◌}
use Rattle.probe.specs.declared.pcr_step.PcrStep.{PcrStep}
use Rattle.probe.specs.Jitter.{off_of}
use Rattle.probe.proofs.JitterLaws.{jitter_more}
use Rattle.probe.proofs.pcr_watch.largest.Goals as goal

pub loop-step-preserved : goal.loop-step-preserved
loop-step-preserved c =
    let none : PcrStep = record { bytes = 0; ticks = 0 } in
    let step = get_or c.args.steps.now c.loop-step.step-index none in
    let own = ap (λ (n : ℕ). max n c.loop-step.most) c.off.ensures in
    let before = ap (max (off_of c.args.rate step)) c.loop-step.invariant in
    c.max-most.ensures ∙ own ∙ before ∙ sym (jitter_more c.args.rate c.args.steps.now c.loop-step.step-index none c.loop-step-test.true)
