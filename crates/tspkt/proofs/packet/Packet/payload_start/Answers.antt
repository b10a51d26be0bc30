use Rattle.std.proofs.Common.{arith, sym, ◌∙◌}
use Rattle.tspkt.proofs.RewrittenLaws.{adaptation_fits}
use Rattle.tspkt.proofs.packet.Packet.payload_start.Goals as goal

pub returns-then-has_adaptation_field-clause-within : goal.returns-then-has_adaptation_field-clause-within
returns-then-has_adaptation_field-clause-within c =
    let fits = adaptation_fits c.self.inside.bytes c.self.invariant.accepted (sym c.has_adaptation_field.ensures ∙ c.if-has_adaptation_field.true) in
    omega (arith, fits, c.adaptation_field_length.ensures, c.from.ensures)
