use Rattle.std.proofs.Common.{◌≡◌, ◌==◌, length, sym, ◌∙◌, ap}
use Rattle.std.specs.Prelude.{not}
use Rattle.section.specs.Assembled.{AssemblerState}
use Rattle.analyse.proofs.UnreadLaws.{between_anew, rest_anew}
use Rattle.analyse.proofs.pmt_assembly.PmtAssembly.goes_on.Goals as goal

pub returns-then-not-unit_start-clause-anew : goal.returns-then-not-unit_start-clause-anew
returns-then-not-unit_start-clause-anew c t s stands =
    let read : c.in-Read.assembler.value ≡ s = rw c.in-Read.is at stands in
    let same : c.deref.result.now ≡ s = c.deref.ensures ∙ read in
    let begun = ap (λ (a : AssemblerState). not (length a.begun == 0)) same in
    let off = c.has_begun.ensures in
    rest_anew s c.args.packet.now (sym begun ∙ sym off ∙ c.if-not-has_begun.true) c.requires.payload (sym c.unit_start.ensures ∙ c.if-not-unit_start.true)

pub returns-in-Between-clause-anew : goal.returns-in-Between-clause-anew
returns-in-Between-clause-anew c t s stands = between_anew s c.args.packet.now (rw c.in-Between.is at stands) c.requires.payload
