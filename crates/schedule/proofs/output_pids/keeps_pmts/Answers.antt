use Rattle.std.proofs.Common.{◌∙◌, length, sym, subst}
use Rattle.std.proofs.lemmas.List.Elements.{All-map, AllWithin-more, AllWithin-upto, All-from_all_within, at_read}
use Rattle.request.specs.Request.{service_value}
use Rattle.request.specs.declared.service.Service.{Service}
use Rattle.schedule.specs.Switches.{KeepsPmt}
use Rattle.schedule.proofs.JudgeLaws.{always}
use Rattle.schedule.proofs.PidLaws.{all_of_map}
use Rattle.schedule.proofs.output_pids.keeps_pmts.Goals as goal

pub returns-then-not-keeps_pmt : goal.returns-then-not-keeps_pmt
returns-then-not-keeps_pmt c = (
  λ e. cc,
  λ all.
      let keeps = KeepsPmt c.args.earlier.now c.args.before.now in
      let i = c.loop-service.service-index in
      let s = c.service-item.result in
      let there = all_of_map keeps service_value c.args.services.now all i s c.loop-service-test.true in
      let one = subst (λ (x : Service). keeps (service_value x)) (sym c.service-item.is) there in
      sym c.if-not-keeps_pmt.true ∙ c.keeps_pmt.ensures.1 one,
)

pub loop-service-preserved : goal.loop-service-preserved
loop-service-preserved c =
    let P = λ (x : Service). KeepsPmt c.args.earlier.now c.args.before.now (service_value x) in
    let xs = c.args.services.now in
    let i = c.loop-service.service-index in
    AllWithin-more P xs 0 i c.loop-service.invariant
    (at_read xs P i c.service-item.result c.loop-service-test.true c.service-item.is (c.keeps_pmt.ensures.0 c.if-not-keeps_pmt.false))

pub returns : goal.returns
returns c =
    let keeps = KeepsPmt c.args.earlier.now c.args.before.now in
    let P = λ (x : Service). keeps (service_value x) in
    let xs = c.args.services.now in
    always
    (All-map keeps service_value xs
    (All-from_all_within P xs (AllWithin-upto P xs 0 c.loop-service.service-index (length xs) c.loop-service-test.false c.loop-service.invariant)))
