use Rattle.std.proofs.Common.{arith, rules, ◌≡◌, ◌+◌, ◌*◌, ◌/◌, ◌%◌, [], ◌++◌, drop, take, length, ◌≤◌, refl, ◌∙◌}
use Rattle.std.proofs.lemmas.Slice.{put_mid-paste}
use Rattle.std.proofs.lemmas.List.{drop_all}
use borrow.Rule.Slice.PartMut.{mid_of, put_mid}
use Rattle.byteorder.specs.Endian.{big_bytes}
use Rattle.tspkt.specs.Bits.{field}
use Rattle.tspkt.specs.Rewritten.{with_pcr}
use Rattle.tspkt.proofs.PacketFields.{reserved_at}
use Rattle.tspkt.proofs.RewrittenLaws.{with_bytes_twice}
use Rattle.tspkt.proofs.fields.set_pcr.Goals as goal

pub returns : goal.returns
unfolding with_pcr
returns c =
    let p = c.args.p.now in
    let low = c.args.pcr / 300 % 2 * 32768 + field p 81 6 * 512 + c.args.pcr % 300 in
    let reserved : c.from-reserved.result ≡ field p 81 6 = omega (arith, reserved_at p) in
    let first : put_mid 6 4 p c.write_u32.new.buf ≡ take 6 p ++ big_bytes 4 (c.args.pcr / 300 / 2) ++ drop 10 p =
    (let small : length (mid_of 6 4 p) ≤ 4 = search rules in
    let none : drop 4 (mid_of 6 4 p) ≡ [] = drop_all 4 (mid_of 6 4 p) small in
    put_mid-paste 6 4 p c.write_u32.new.buf (big_bytes 4 (c.args.pcr / 300 / 2)) 4 (c.write_u32.ensures ∙ rw none refl) refl refl) in
    let q = put_mid 6 4 p c.write_u32.new.buf in
    let small : length (mid_of 10 2 q) ≤ 2 = search rules in
    let none : drop 2 (mid_of 10 2 q) ≡ [] = drop_all 2 (mid_of 10 2 q) small in
    put_mid-paste 10 2 q c.write_u16.new.buf (big_bytes 2 low) 2 (c.write_u16.ensures ∙ rw (reserved, none) refl) refl refl
    ∙ rw first (with_bytes_twice p (big_bytes 4 (c.args.pcr / 300 / 2)) (big_bytes 2 low) refl refl (omega (arith, c.told-p)))
