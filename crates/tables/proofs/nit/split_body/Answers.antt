use Rattle.std.proofs.Common.{arith, ◌≡◌, ◌+◌, ◌==◌, length, true, false, refl}
use Rattle.std.proofs.lemmas.List.{length-drop}
use Rattle.std.proofs.lemmas.Bool.Decides.{nat_tests}
use Rattle.tspkt.specs.Bits.{field}
use Rattle.tables.specs.Rows.{has_whole_loop}
use Rattle.tables.proofs.RowLaws.{not_true}
use Rattle.tables.proofs.FillLaws.{descriptors_whole}
use Rattle.tables.proofs.NitLaws.{parts_bad, parts_short, parts_end}
use Rattle.tables.proofs.nit.split_body.Goals as goal

pub returns-in_err-network-clause-whole : goal.returns-in_err-network-clause-whole
returns-in_err-network-clause-whole c =
    let w = parts_bad c.args.body.now (not_true (has_whole_loop 2 c.args.body.now) c.in_err-network.ensures.whole.1) in
    rw c.from_residual.ensures (λ e. cc, λ e. cc)

pub returns-then-network-lt2-clause-whole : goal.returns-then-network-lt2-clause-whole
returns-then-network-lt2-clause-whole c =
    let w = parts_short c.args.body.now c.in_ok-network.network.rest.now (c.in_ok-network.ensures.whole.0 refl) c.in_ok-network.ensures.rest c.if-network-lt2.true in
    (λ e. cc, λ e. cc)

pub returns-then-loop_length-rows-clause-whole : goal.returns-then-loop_length-rows-clause-whole
returns-then-loop_length-rows-clause-whole c =
    let rest = c.in_ok-network.network.rest.now in
    let n = length-drop 2 rest in
    let t : (field rest 4 12 + 2 == length rest) ≡ false = grind (arith, nat_tests) in
    let w = parts_end c.args.body.now rest false (c.in_ok-network.ensures.whole.0 refl) c.in_ok-network.ensures.rest (omega arith) t in
    (λ e. cc, λ e. cc)

pub returns-clause-whole : goal.returns-clause-whole
returns-clause-whole c =
    let rest = c.in_ok-network.network.rest.now in
    let n = length-drop 2 rest in
    let t : (field rest 4 12 + 2 == length rest) ≡ true = grind (arith, nat_tests) in
    let w = parts_end c.args.body.now rest true (c.in_ok-network.ensures.whole.0 refl) c.in_ok-network.ensures.rest (omega arith) t in
    (λ e. w, λ e. refl)

pub returns-clause-whole_descriptors : goal.returns-clause-whole_descriptors
returns-clause-whole_descriptors c = descriptors_whole 2 c.args.body.now c.in_ok-network.network.descriptors.now (c.in_ok-network.ensures.whole.0 refl) c.in_ok-network.ensures.descriptors
