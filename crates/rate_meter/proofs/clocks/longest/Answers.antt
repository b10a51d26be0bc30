use Rattle.std.proofs.Common.{◌≡◌, ◌⊎◌, Option, arith, subst, sym}
use Rattle.rate_meter.specs.declared.measured.Measured.{Measured}
use Rattle.rate_meter.specs.Meter.{IsClockIn, IsNoLonger}
use Rattle.rate_meter.proofs.MeasuredLaws.{none_longer_more, of_either}
use Rattle.rate_meter.proofs.clocks.longest.Goals as goal

pub loop-clock-preserved : goal.loop-clock-preserved
loop-clock-preserved c =
    let x = c.clock-item.result in
    let after = c.longer-found.result in
    let P : Option Measured → Type 0 = λ o. IsNoLonger o after in
    let E : Option Measured → Type 0 = λ o. (after ≡ c.loop-clock.found) ⊎ (after ≡ o) in
    record {
      own = λ seen each.
          of_either seen x c.loop-clock.found after (subst (IsClockIn seen) (sym c.clock-item.is) (each c.loop-clock.clock-index x c.loop-clock-test.true)) (subst E c.measured.ensures c.longer-found.ensures.either) (c.loop-clock.invariant.own seen each);
      most =
          none_longer_more c.args.clocks.now c.loop-clock.clock-index x c.loop-clock.found after c.loop-clock-test.true c.clock-item.is c.loop-clock.invariant.most
          c.longer-found.ensures.first (subst P c.measured.ensures c.longer-found.ensures.second);
    }

pub returns-clause-most : goal.returns-clause-most
returns-clause-most c = λ k d h. c.loop-clock.invariant.most k d (omega arith)
