use Rattle.std.proofs.Common.{ap, sym, ◌∙◌, arith}
use Rattle.rounds.specs.Rounds.{table_at}
use Rattle.rounds.specs.Turn.{TurnValue}
use Rattle.rounds.proofs.TurnLaws.{turn_none, turn_fast, turn_slow}
use Rattle.rounds.proofs.table_turn.TableTurn.next.Goals as goal

pub returns-then-self-ne0 : goal.returns-then-self-ne0
returns-then-self-ne0 c =
    let t = c.self.inside in
    sym (turn_none t.rounds t.pause t.slot t.wait t.step t.rotation c.self.invariant (omega (arith, c.if-self-ne0.true)))
    ∙ ap (λ (v : TurnValue). table_at v.rounds v.slot) c.self.view_is

pub returns-then-self-fast_len : goal.returns-then-self-fast_len
returns-then-self-fast_len c =
    let t = c.self.inside in
    sym (turn_fast t.rounds t.pause t.slot t.wait t.step t.rotation c.self.invariant c.if-self-ne0.false (omega (arith, c.if-self-fast_len.true, c.fast_len.ensures)))
    ∙ ap (λ (v : TurnValue). table_at v.rounds v.slot) c.self.view_is

pub returns-else-self-fast_len : goal.returns-else-self-fast_len
returns-else-self-fast_len c =
    let t = c.self.inside in
    sym (turn_slow t.rounds t.pause t.slot t.wait t.step t.rotation c.self.invariant c.if-self-ne0.false (omega (arith, c.if-self-fast_len.false, c.fast_len.ensures)))
    ∙ ap (λ (v : TurnValue). table_at v.rounds v.slot) c.self.view_is
