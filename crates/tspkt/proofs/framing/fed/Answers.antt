use Rattle.std.proofs.Common.{arith}
use Rattle.std.proofs.lemmas.Grind.{common_steps}
use Rattle.std.proofs.lemmas.List.Folds.{length-flat_map-take}
use Rattle.tspkt.proofs.framing.fed.Goals as goal

pub returns-in_err-feed-clause-too_much : goal.returns-in_err-feed-clause-too_much
returns-in_err-feed-clause-too_much c =
    let fits = length-flat_map-take (λ piece. piece.items) c.args.pieces.now c.loop-piece.piece-index c.piece-item.result (omega arith) in
    grind (arith, common_steps, fits)

pub returns-in_err-feed-clause-memory : goal.returns-in_err-feed-clause-memory
returns-in_err-feed-clause-memory c =
    let fits = length-flat_map-take (λ piece. piece.items) c.args.pieces.now c.loop-piece.piece-index c.piece-item.result (omega arith) in
    grind (arith, common_steps, fits)
