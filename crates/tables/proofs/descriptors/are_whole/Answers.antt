use Rattle.std.proofs.Common.{arith, rules, ◌≡◌, ◌+◌, ℕ, get_or, drop, sym, ap, ◌∙◌}
use Rattle.tables.specs.Descriptors.{are_whole}
use Rattle.tables.proofs.DescriptorLaws.{whole_step, whole_ends, whole_one, whole_none}
use Rattle.tables.proofs.descriptors.are_whole.Goals as goal

pub returns-then-bytes-at-lt2 : goal.returns-then-bytes-at-lt2
returns-then-bytes-at-lt2 c = sym (whole_one c.args.bytes.now c.loop-at.at (omega arith)) ∙ c.loop-at.invariant.same

pub returns-then-bytes-at : goal.returns-then-bytes-at
returns-then-bytes-at c =
    let n : c.from-count.result ≡ get_or c.args.bytes.now (c.loop-at.at + 1) 0 = search rules in
    sym (whole_ends c.args.bytes.now c.loop-at.at (omega arith) (omega arith)) ∙ c.loop-at.invariant.same

pub loop-at-preserved : goal.loop-at-preserved
loop-at-preserved c =
    let n : c.from-count.result ≡ get_or c.args.bytes.now (c.loop-at.at + 1) 0 = search rules in
    record {
      same = ap (λ (k : ℕ). are_whole 0 (drop (c.loop-at.at + 2 + k) c.args.bytes.now)) n ∙ sym (whole_step c.args.bytes.now c.loop-at.at (omega arith)) ∙ c.loop-at.invariant.same;
      within = omega arith;
    }

pub returns : goal.returns
returns c = sym (whole_none c.args.bytes.now c.loop-at.at (omega arith)) ∙ c.loop-at.invariant.same
