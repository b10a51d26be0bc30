use Rattle.std.proofs.Common.{◌≡◌, ◌≤◌, [], length, take}
use Rattle.std.specs.List.{flat_map}
use Rattle.tspkt.specs.PacketSize.{stride_of, limit_of}
use Rattle.tspkt.specs.Framed.{IsFramedSoFar, seen, packets_of, still_to_tell}
use Rattle.tspkt.proofs.framing.fed.Given as goal

abbrev pub invariant-loop-piece : goal.invariant-loop-piece
invariant-loop-piece l = record {
  told : IsFramedSoFar l.framer l.items.items (flat_map (λ piece. piece.items) (take l.piece-index l.pieces));
  stride : l.framer.stride ≡ stride_of l.fn.size;
  limit : l.framer.limit ≡ limit_of l.fn.size;
  within : seen l.framer ≤ limit_of l.fn.size;
  seen_is : seen l.framer ≡ length (flat_map (λ piece. piece.items) (take l.piece-index l.pieces));
  prompt : packets_of (still_to_tell l.framer []) ≡ [];
}
