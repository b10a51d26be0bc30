use Rattle.std.proofs.Common.{pos, sym, ◌∙◌, ◌≡◌, arith, below_more, length}
use Rattle.std.proofs.lemmas.List.Sums.{position_or_len_is}
use Rattle.request.specs.Request.{has_same_source}
use Rattle.request.proofs.build.stream_number.Goals as goal

pub returns-then-has_same_source : goal.returns-then-has_same_source
returns-then-has_same_source c =
    sym (position_or_len_is (has_same_source c.args.row.now) c.args.streams.now c.loop-i.i (record { input = pos 0; pid = pos 0; out = pos 0; leak = pos 0 }) (omega arith) c.loop-i.invariant
    (λ _. sym c.has_same_source.ensures ∙ c.if-has_same_source.true))

pub loop-i-preserved : goal.loop-i-preserved
loop-i-preserved c = below_more _ _ c.loop-i.invariant (sym c.has_same_source.ensures ∙ c.if-has_same_source.false)

pub returns : goal.returns
returns c =
    let end : c.loop-i.i ≡ length c.args.streams.now = omega arith in
    sym (position_or_len_is (has_same_source c.args.row.now) c.args.streams.now (length c.args.streams.now) (record { input = pos 0; pid = pos 0; out = pos 0; leak = pos 0 }) (omega arith)
    (λ k l. c.loop-i.invariant k (omega arith)) (λ l. absurd (omega arith)))
