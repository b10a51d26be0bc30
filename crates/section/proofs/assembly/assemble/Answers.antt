use Rattle.std.proofs.Common.{◌≡◌, ◌++◌, sym, ap, ◌∙◌}
use Rattle.std.proofs.lemmas.List.{drop_all, append-nil}
use Rattle.std.proofs.lemmas.List.Elements.{All-same}
use Rattle.section.specs.Assembled.{assembled_from, assembled}
use Rattle.section.specs.Found.{IsFoundIfSection}
use Rattle.section.proofs.FoundLaws.{assembled_found}
use Rattle.section.proofs.assembly.assemble.Goals as goal

pub returns-clause-found : goal.returns-clause-found
returns-clause-found c =
    let packets = c.args.packets.now in
    let none = drop_all c.loop-packet.packet-index packets c.loop-packet-test.false in
    let value : c.loop-packet.told.items ≡ assembled packets =
    sym (append-nil c.loop-packet.told.items)
    ∙ ap (λ l. c.loop-packet.told.items ++ assembled_from c.loop-packet.assembler l) (sym none)
    ∙ c.loop-packet.invariant in
    All-same (IsFoundIfSection packets) c.loop-packet.told.items (assembled packets) value (assembled_found packets)
