use Rattle.std.proofs.Common.{arith, ◌+◌, List, [], ◌∷◌, ◌++◌, take, drop, sym, refl, ◌∙◌}
use Rattle.std.proofs.lemmas.List.{length-append}
use Rattle.tspkt.specs.Framed.{lost}
use Rattle.tspkt.specs.declared.item.Item.{Item}
use Rattle.tspkt.specs.declared.item.Item.TheVariants.{Packet}
use Rattle.tspkt.proofs.ItemListLaws.{later_on, later_told}
use Rattle.tspkt.proofs.FramingLaws.{goes_on, goes_acquired, no_room, on_err_always}
use Rattle.tspkt.proofs.stepping.step_hunting.Goals as goal

pub returns-then-not-acquires_sync-clause-goes : goal.returns-then-not-acquires_sync-clause-goes
returns-then-not-acquires_sync-clause-goes g c =
    (omega arith, goes_on _ _ _ _ _ _ _ c.requires.long (omega arith) (sym c.acquires_sync.ensures ∙ c.if-not-acquires_sync.true) refl)

pub returns-clause-goes : goal.returns-clause-goes
returns-clause-goes g c =
    (omega arith, goes_acquired _ _ _ _ _ _ _ _ _ c.requires.long (omega arith) (sym c.acquires_sync.ensures ∙ c.if-not-acquires_sync.false) refl c.in_ok-tell_loss.ensures.ok c.in_ok-tell_packet.ensures.ok)

pub returns-clause-later : goal.returns-clause-later
returns-clause-later g c =
    later_on _ _ _ (later_told _ _ _ _ c.tell_loss.ensures) (later_told _ _ _ _ c.tell_packet.ensures)

pub returns-in_err-tell_loss-clause-full : goal.returns-in_err-tell_loss-clause-full
returns-in_err-tell_loss-clause-full g c =
    let s = g.L.ItemList.list c.args.out.now in
    let place = c.args.base + c.args.at in
    let loss = lost c.args.from place in
    let last : List Item = Packet place (take 188 (drop c.args.at c.args.window.now)) ∷ [] in
    let goes = goes_acquired c.args.stride c.args.base c.args.window.now s.told ((s.told ++ loss) ++ last) c.args.at c.args.from _ (s.told ++ loss) c.requires.long (omega arith) (sym c.acquires_sync.ensures ∙ c.if-not-acquires_sync.false) refl refl refl in
    on_err_always c.from_residual.result
    (no_room _ _ _ s.told ((s.told ++ loss) ++ last) _ _ _ _ s.places goes (omega (arith, c.in_err-tell_loss.ensures.room, length-append (s.told ++ loss) last, length-append s.told loss)))

pub returns-in_err-tell_packet-clause-full : goal.returns-in_err-tell_packet-clause-full
returns-in_err-tell_packet-clause-full g c =
    let s = g.L.ItemList.list c.args.out.now in
    let place = c.args.base + c.args.at in
    let found = (g.L.ItemList.list c.tell_loss.new.out).told in
    let last : List Item = Packet place (take 188 (drop c.args.at c.args.window.now)) ∷ [] in
    let goes = goes_acquired c.args.stride c.args.base c.args.window.now s.told (found ++ last) c.args.at c.args.from _ found c.requires.long (omega arith) (sym c.acquires_sync.ensures ∙ c.if-not-acquires_sync.false) refl c.in_ok-tell_loss.ensures.ok refl in
    on_err_always c.from_residual-in_err-tell_packet.result
    (no_room _ _ _ s.told (found ++ last) _ _ _ _ s.places goes (omega (arith, c.in_err-tell_packet.ensures.room, c.tell_loss.ensures.places, length-append found last)))
