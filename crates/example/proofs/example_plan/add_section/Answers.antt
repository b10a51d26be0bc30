use Rattle.std.proofs.Common.{◌≡◌, ◌+◌, length, arith, refl}
use Rattle.example.proofs.example_plan.add_section.Goals as goal

-- four bytes stand behind the section's
pub packets_of-requires : goal.packets_of-requires
packets_of-requires c =
    let four : length c.to_be_bytes.result ≡ 4 = rw c.to_be_bytes.ensures refl in
    let behind = c.in_ok-extend_from_slice.ensures.len in
    let whole : length c.deref.result.now ≡ length c.args.bytes.now + 4
    = omega (arith, c.deref.ensures.len, behind, c.in_ok-whole.ensures.len, four) in
    record {
      some = omega (arith, whole);
      whole = omega (arith, whole, c.requires.length);
      pid = c.requires.pid;
      counter = omega arith;
    }
