use Rattle.std.proofs.Common.{◌++◌, ◌∷◌, [], take, sym, ap, subst, ◌∙◌}
use Rattle.std.proofs.lemmas.List.{take_more}
use Rattle.acquire.specs.Seen.{HasSeen}
use Rattle.acquire.proofs.finding.find_tables.Goals as goal

pub loop-packet-preserved : goal.loop-packet-preserved
loop-packet-preserved c =
    let front = take c.loop-packet.packet-index c.args.packets.now in
    subst (HasSeen c.args.programs.now c.push.new.self)
    (ap (λ p. front ++ p ∷ []) c.packet-item.is ∙ sym (take_more c.args.packets.now c.loop-packet.packet-index c.packet-item.result c.loop-packet-test.true))
    (c.in_ok-push.ensures.seen c.args.programs.now front c.loop-packet.invariant)
