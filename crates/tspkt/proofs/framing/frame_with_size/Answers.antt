use Rattle.std.proofs.Common.{subst, sym, All}
use Rattle.std.specs.List.{flat_map}
use Rattle.tspkt.specs.PacketSize.{stride_of}
use Rattle.tspkt.specs.Framed.{IsCovered, IsAtItsPlace, ExactOnPackets, ExactOnLastPacket}
use Rattle.tspkt.proofs.FramingLaws.{whole_framed, left_of_bytes}
use Rattle.tspkt.proofs.FramedLaws.{stride_long, covered-framed, places-framed, packets-framed, last-framed}
use Rattle.tspkt.proofs.framing.frame_with_size.Goals as goal

pub returns-in-Ok-clause-cover : goal.returns-in-Ok-clause-cover
returns-in-Ok-clause-cover c =
    let bytes = flat_map (λ piece. piece.items) c.args.pieces.now in
    let stride = stride_of c.args.size in
    let e = whole_framed c.in_ok-framer.framer _ _ bytes c.in_ok-framer.ensures.stride c.in_ok-framer.ensures.told c.in-Ok.ensures.ok in
    subst (IsCovered stride bytes) (sym e) (covered-framed stride bytes (stride_long c.args.size))

pub returns-in-Ok-clause-places : goal.returns-in-Ok-clause-places
returns-in-Ok-clause-places c =
    let bytes = flat_map (λ piece. piece.items) c.args.pieces.now in
    let e = whole_framed c.in_ok-framer.framer _ _ bytes c.in_ok-framer.ensures.stride c.in_ok-framer.ensures.told c.in-Ok.ensures.ok in
    subst (All (IsAtItsPlace bytes)) (sym e) (places-framed (stride_of c.args.size) bytes (stride_long c.args.size))

pub returns-in-Ok-clause-found : goal.returns-in-Ok-clause-found
returns-in-Ok-clause-found c =
    let bytes = flat_map (λ piece. piece.items) c.args.pieces.now in
    let stride = stride_of c.args.size in
    let e = whole_framed c.in_ok-framer.framer _ _ bytes c.in_ok-framer.ensures.stride c.in_ok-framer.ensures.told c.in-Ok.ensures.ok in
    subst (ExactOnPackets stride bytes) (sym e) (packets-framed stride bytes (stride_long c.args.size))

pub returns-in-Ok-clause-last : goal.returns-in-Ok-clause-last
returns-in-Ok-clause-last c =
    let bytes = flat_map (λ piece. piece.items) c.args.pieces.now in
    let stride = stride_of c.args.size in
    let e = whole_framed c.in_ok-framer.framer _ _ bytes c.in_ok-framer.ensures.stride c.in_ok-framer.ensures.told c.in-Ok.ensures.ok in
    subst (ExactOnLastPacket stride bytes) (sym e) (last-framed stride bytes (stride_long c.args.size))

pub returns-in-Err-clause-memory : goal.returns-in-Err-clause-memory
returns-in-Err-clause-memory c = λ _.
    left_of_bytes c.in_ok-framer.framer c.in_ok-framer.items.items (flat_map (λ piece. piece.items) c.args.pieces.now) c.in_ok-framer.ensures.told c.in-Err.ensures.left
