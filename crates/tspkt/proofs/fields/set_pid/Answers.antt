use Rattle.std.proofs.Common.{arith, rules, ◌≡◌, ◌+◌, ◌*◌, [], drop, length, ◌≤◌, refl, ◌∙◌}
use Rattle.std.proofs.lemmas.Slice.{put_mid-paste}
use Rattle.std.proofs.lemmas.List.{drop_all}
use borrow.Rule.Slice.PartMut.{mid_of}
use Rattle.byteorder.specs.Endian.{big_bytes}
use Rattle.tspkt.specs.Bits.{field}
use Rattle.tspkt.specs.Rewritten.{with_pid}
use Rattle.tspkt.proofs.PacketFields.{flags_at}
use Rattle.tspkt.proofs.fields.set_pid.Goals as goal

pub returns : goal.returns
unfolding with_pid
returns c =
    let p = c.args.p.now in
    let word : c.from-flags.result * 8192 + c.args.pid ≡ field p 8 3 * 8192 + c.args.pid = omega (arith, flags_at p, c.fits-p 1) in
    let small : length (mid_of 1 2 p) ≤ 2 = search rules in
    let none : drop 2 (mid_of 1 2 p) ≡ [] = drop_all 2 (mid_of 1 2 p) small in
    put_mid-paste 1 2 p c.write_u16.new.buf (big_bytes 2 (field p 8 3 * 8192 + c.args.pid)) 2
    (c.write_u16.ensures ∙ rw (word, none) refl) refl refl
