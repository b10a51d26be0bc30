use Rattle.std.proofs.Common.{arith, ◌≡◌, ◌+◌, List, [], ◌∷◌, ◌++◌, take, drop, sym, refl, ap, ◌∙◌}
use Rattle.std.proofs.lemmas.List.{length-append}
use Rattle.tspkt.specs.declared.item.Item.{Item}
use Rattle.tspkt.specs.declared.item.Item.TheVariants.{Packet, Bad, SyncLoss}
use Rattle.tspkt.specs.declared.mode.Mode.TheVariants.{Synced}
use Rattle.tspkt.proofs.FramingLaws.{goes_packet, goes_bad, goes_loss, goes_past, no_room, on_err_always}
use Rattle.tspkt.proofs.stepping.step_synced.Goals as goal

pub returns-then-skip-gt0-clause-goes : goal.returns-then-skip-gt0-clause-goes
returns-then-skip-gt0-clause-goes g c =
    (omega arith, goes_past _ _ _ _ _ _ c.args.skip c.min-passed.result (omega arith) (omega arith) refl)

pub returns-then-is_sync-clause-goes : goal.returns-then-is_sync-clause-goes
returns-then-is_sync-clause-goes g c =
    let m : Synced c.args.skip ≡ Synced 0 = ap Synced (omega arith) in
    (omega arith, rw m (goes_packet _ _ _ _ _ _ _ c.requires.long (omega arith) (sym c.is_sync.ensures ∙ c.if-is_sync.true) refl c.in_ok-tell_packet.ensures.ok))

pub returns-then-is_sync-2-clause-goes : goal.returns-then-is_sync-2-clause-goes
returns-then-is_sync-2-clause-goes g c =
    let m : Synced c.args.skip ≡ Synced 0 = ap Synced (omega arith) in
    (omega arith, rw m (goes_bad _ _ _ _ _ _ c.requires.long (omega arith) (sym c.is_sync.ensures ∙ c.if-is_sync.false) (sym c.is_sync-2.ensures ∙ c.if-is_sync-2.true) c.in_ok-tell.ensures.ok))

pub returns-clause-goes : goal.returns-clause-goes
returns-clause-goes g c =
    let m : Synced c.args.skip ≡ Synced 0 = ap Synced (omega arith) in
    (omega arith, rw m (goes_loss _ _ _ _ _ _ c.requires.long (omega arith) (sym c.is_sync.ensures ∙ c.if-is_sync.false) (sym c.is_sync-2.ensures ∙ c.if-is_sync-2.false) c.in_ok-tell-2.ensures.ok))

pub returns-in_err-tell_packet-clause-full : goal.returns-in_err-tell_packet-clause-full
returns-in_err-tell_packet-clause-full g c =
    let m : Synced c.args.skip ≡ Synced 0 = ap Synced (omega arith) in
    let s = g.L.ItemList.list c.args.out.now in
    let last : List Item = Packet (c.args.base + c.args.at) (take 188 (drop c.args.at c.args.window.now)) ∷ [] in
    let goes = goes_packet c.args.stride c.args.base c.args.window.now s.told (s.told ++ last) c.args.at _ c.requires.long (omega arith) (sym c.is_sync.ensures ∙ c.if-is_sync.true) refl refl in
    on_err_always c.from_residual.result
    (rw m (no_room _ _ _ s.told (s.told ++ last) _ _ _ _ s.places goes (omega (arith, c.in_err-tell_packet.ensures.room, length-append s.told last))))

pub returns-in_err-tell-clause-full : goal.returns-in_err-tell-clause-full
returns-in_err-tell-clause-full g c =
    let m : Synced c.args.skip ≡ Synced 0 = ap Synced (omega arith) in
    let s = g.L.ItemList.list c.args.out.now in
    let last : List Item = Bad (c.args.base + c.args.at) ∷ [] in
    let goes = goes_bad c.args.stride c.args.base c.args.window.now s.told (s.told ++ last) c.args.at c.requires.long (omega arith) (sym c.is_sync.ensures ∙ c.if-is_sync.false) (sym c.is_sync-2.ensures ∙ c.if-is_sync-2.true) refl in
    on_err_always c.from_residual-in_err-tell.result
    (rw m (no_room _ _ _ s.told (s.told ++ last) _ _ _ _ s.places goes (omega (arith, c.in_err-tell.ensures.room, length-append s.told last))))

pub returns-in_err-tell-2-clause-full : goal.returns-in_err-tell-2-clause-full
returns-in_err-tell-2-clause-full g c =
    let m : Synced c.args.skip ≡ Synced 0 = ap Synced (omega arith) in
    let s = g.L.ItemList.list c.args.out.now in
    let last : List Item = SyncLoss (c.args.base + c.args.at) ∷ [] in
    let goes = goes_loss c.args.stride c.args.base c.args.window.now s.told (s.told ++ last) c.args.at c.requires.long (omega arith) (sym c.is_sync.ensures ∙ c.if-is_sync.false) (sym c.is_sync-2.ensures ∙ c.if-is_sync-2.false) refl in
    on_err_always c.from_residual-in_err-tell-2.result
    (rw m (no_room _ _ _ s.told (s.told ++ last) _ _ _ _ s.places goes (omega (arith, c.in_err-tell-2.ensures.room, length-append s.told last))))
