use Rattle.std.proofs.Common.{◌≡◌, ◌+◌, length, take}
use Rattle.std.specs.List.{flat_map}
use Rattle.tspkt.proofs.framing.is_too_long.Given as goal

abbrev pub invariant-loop-piece : goal.invariant-loop-piece
invariant-loop-piece l = record {
  left : l.left + length (flat_map (λ piece. piece.items) (take l.piece-index l.pieces)) ≡ l.limit;
}
