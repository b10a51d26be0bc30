use Rattle.std.proofs.Common.{rules, ◌≡◌, sym, subst, ◌∙◌}
use Rattle.std.specs.Prelude.{Option, Some, IfSome}
use Rattle.tspkt.specs.declared.stamped.Stamped.{Stamped}
use Rattle.reading.specs.Takeable.{stream_number}
use Rattle.reading.proofs.packet_reader.PacketReader.held_number.Goals as goal

pub returns-clause-number : goal.returns-clause-number
returns-clause-number g c = λ number e.
    let held : c.args.self.now.held ≡ Some c.in_ok-item.item = sym c.held.ensures ∙ c.in_ok-item.was in
    let P : Option Stamped → Type 0 = λ h. IfSome h (λ item. number ≡ stream_number c.args.schedule.now c.args.self.now.origin item) in
    subst P (sym held) (search rules)
