use Rattle.std.proofs.Common.{sym, ◌∙◌, ap, subst}
use Rattle.section.specs.Assembled.{Step}
use Rattle.section.proofs.FoundLaws.{packet_none}
use Rattle.analyse.specs.ToldPmts.{pmts_in}
use Rattle.analyse.specs.PmtAssembling.{StandsFor}
use Rattle.analyse.proofs.pmt_assembly.PmtAssembly.push.Goals as goal

pub returns-then-not-has_payload-clause-seen : goal.returns-then-not-has_payload-clause-seen
returns-then-not-has_payload-clause-seen c s stands =
    let e = packet_none s c.args.packet.now (sym c.has_payload.ensures ∙ c.if-not-has_payload.true) in
    subst (λ (x : Step). StandsFor c.args.self.now x.state) (sym e) stands

pub returns-then-not-has_payload-clause-told : goal.returns-then-not-has_payload-clause-told
returns-then-not-has_payload-clause-told c s stands =
    let e = packet_none s c.args.packet.now (sym c.has_payload.ensures ∙ c.if-not-has_payload.true) in
    ap pmts_in c.clear.ensures.items ∙ ap (λ (x : Step). pmts_in x.told) (sym e)
