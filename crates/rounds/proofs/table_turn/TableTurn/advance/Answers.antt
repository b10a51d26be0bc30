use Rattle.std.proofs.Common.{arith, sym, ◌∙◌}
use Rattle.rounds.proofs.TurnLaws.{turn_steps, turn_goes_on, turn_starts_over}
use Rattle.rounds.proofs.table_turn.TableTurn.advance.Goals as goal

pub invariant_of-self-then-self-fast_len : goal.invariant_of-self-then-self-fast_len
invariant_of-self-then-self-fast_len c =
    let t = c.self.inside in
    rw c.gap.ensures (turn_steps t.rounds t.pause t.slot t.wait t.step t.rotation c.self.invariant c.if-self-ne0.false
    (omega (arith, c.if-self-fast_len.true, c.fast_len.ensures)))

pub invariant_of-self-then-self-slow_len : goal.invariant_of-self-then-self-slow_len
invariant_of-self-then-self-slow_len c =
    let t = c.self.inside in
    turn_starts_over t.rounds t.pause t.slot t.wait t.step t.rotation c.self.invariant c.if-self-ne0.false
    (omega (arith, c.if-self-fast_len.false, c.fast_len.ensures)) (c.if-self-slow_len.true ∙ c.slow_len.ensures)

pub invariant_of-self-else-self-slow_len : goal.invariant_of-self-else-self-slow_len
invariant_of-self-else-self-slow_len c =
    let t = c.self.inside in
    turn_goes_on t.rounds t.pause t.slot t.wait t.step t.rotation c.self.invariant c.if-self-ne0.false
    (omega (arith, c.if-self-fast_len.false, c.fast_len.ensures)) (λ e. c.if-self-slow_len.false (e ∙ sym c.slow_len.ensures))
