use Rattle.std.proofs.Common.{arith, ap, vec_len, vec_capacity}
use Rattle.section.proofs.assembler.Assembler.push.Goals as goal
use Rattle.section.proofs.assembler.Assembler.push.Goals.{then-is_discontinuous, else-is_discontinuous}

pub read_payload-requires-clause-room : goal.read_payload-requires-clause-room
read_payload-requires-clause-room c =
    elim c.if-is_discontinuous.branch [
      | then-is_discontinuous w ↦ omega (arith, c.in_ok-reserve.ensures.ok, c.payload.ensures.small, w.give_up.ensures.len, w.give_up.ensures.capacity, ap vec_len w.out-is, ap vec_capacity w.out-is)
      | else-is_discontinuous w ↦ omega (arith, c.in_ok-reserve.ensures.ok, c.payload.ensures.small, ap vec_len w.out-is, ap vec_capacity w.out-is)
    ]
