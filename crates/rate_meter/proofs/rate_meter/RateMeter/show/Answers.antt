use Rattle.std.proofs.Common.{ℕ, List, ◌≡◌, ◌-◌, length, take, drop, arith, ap, ◌∙◌, length-drop}
use Rattle.std.proofs.lemmas.Grind.{common_steps}
use Rattle.rate_meter.specs.Steps.{Shown, shown}
use Rattle.rate_meter.proofs.StepLaws.{shown_more}
use Rattle.rate_meter.proofs.rate_meter.RateMeter.show.Goals as goal

pub loop-at-preserved : goal.loop-at-preserved
loop-at-preserved c =
    let rest : take (length c.args.piece.now - c.loop-at.at) (drop c.loop-at.at c.args.piece.now) ≡ drop c.loop-at.at c.args.piece.now = grind (arith, common_steps) in
    record {
      within = omega (arith, ap length rest, length-drop c.loop-at.at c.args.piece.now, c.advance-at.ensures.within);
      position = omega arith;
      shown_so_far =
          c.advance-at.ensures.shown
          ∙ ap (λ (bytes : List ℕ). shown c.loop-at.self.shown (take c.advance-at.result bytes)) rest
          ∙ ap (λ (s : Shown). shown s (take c.advance-at.result (drop c.loop-at.at c.args.piece.now))) c.loop-at.invariant.shown_so_far
          ∙ shown_more c.args.self.now.shown c.args.piece.now c.loop-at.at c.advance-at.result;
    }
