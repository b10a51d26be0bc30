use Rattle.std.proofs.Common.{arith}
use Rattle.std.proofs.lemmas.Grind.{common_steps}
use Rattle.std.proofs.lemmas.List.Folds.{length-flat_map-take}
use Rattle.tspkt.proofs.framing.is_too_long.Goals as goal

pub returns-then-left-length : goal.returns-then-left-length
returns-then-left-length c =
    let fits = length-flat_map-take (λ piece. piece.items) c.args.pieces.now c.loop-piece.piece-index c.piece-item.result (omega arith) in
    grind (arith, common_steps, fits)
