use Rattle.std.proofs.Common.{◌+◌, arith, refl, ap, sym, subst, ◌∙◌, inl, inr}
use Rattle.inlets.specs.declared.taking.Taking.{Taking}
use Rattle.station.proofs.InputLaws.{others_stay, others_others}
use Rattle.station.proofs.TakingLaws.{ComesOf, turned, untaken}
use Rattle.station.proofs.MovingLaws.{takes_none, takes_on, moves_closed, moves_open}
use Rattle.station.proofs.moving.move_in.Goals as goal

pub returns-then-entry-clause-moves : goal.returns-then-entry-clause-moves
returns-then-entry-clause-moves c =
    moves_closed c.args.number c.args.most c.args.mux.now c.args.entry.now c.args.mux.now c.args.entry.now c.if-entry.true refl refl

pub loop-count-init : goal.loop-count-init
loop-count-init c =
    let none = takes_none c.args.number c.args.mux.now c.args.entry.now c.if-entry.false in record {
      takes = none.0;
      count = none.1;
      lawful = c.requires.lawful;
      others = others_stay c.args.number c.args.mux.now;
      run = refl;
    }

pub take-requires-clause-open : goal.take-requires-clause-open
take-requires-clause-open c = sym c.loop-count.invariant.lawful.closed ∙ c.loop-count.invariant.takes.open_

pub loop-count-preserved : goal.loop-count-preserved
loop-count-preserved c =
    let i = c.args.number in
    let l = c.loop-count in
    let t = turned i l.mux l.entry c.take.result c.take.new.mux c.take.new.entry l.invariant.takes.open_ l.invariant.lawful c.take.ensures.turns in
    let P : Taking → Type 0 = λ v. ComesOf i l.mux l.entry v c.take.new.mux c.take.new.entry in
    let u = takes_on i c.args.mux.now c.args.entry.now l.mux l.entry c.take.new.mux c.take.new.entry l.invariant.takes (subst P c.in-Took.is t.comes) in
    record {
      takes = u.0;
      count = u.1 ∙ ap (λ k. k + 1) l.invariant.count;
      lawful = t.lawful;
      others = others_others i c.args.mux.now l.mux c.take.new.mux l.invariant.others t.others;
      run = c.take.ensures.run ∙ l.invariant.run;
    }

pub returns-in-HeldBack-clause-moves : goal.returns-in-HeldBack-clause-moves
returns-in-HeldBack-clause-moves c =
    let i = c.args.number in
    let l = c.loop-count in
    let t = turned i l.mux l.entry c.take.result c.take.new.mux c.take.new.entry l.invariant.takes.open_ l.invariant.lawful c.take.ensures.turns in
    moves_open i c.args.most c.args.mux.now c.args.entry.now c.take.new.mux c.take.new.entry c.if-entry.false
    (record { between = l.mux; last = l.entry; takes = l.invariant.takes; within = omega (arith, l.invariant.count, c.loop-count-test.true); ends = inl (untaken i l.mux l.entry c.take.result c.take.new.mux c.take.new.entry c.in-HeldBack.is t.comes) })

pub returns-in-HeldBack-clause-lawful : goal.returns-in-HeldBack-clause-lawful
returns-in-HeldBack-clause-lawful c =
    let l = c.loop-count in
    (turned c.args.number l.mux l.entry c.take.result c.take.new.mux c.take.new.entry l.invariant.takes.open_ l.invariant.lawful c.take.ensures.turns).lawful

pub returns-in-HeldBack-clause-others : goal.returns-in-HeldBack-clause-others
returns-in-HeldBack-clause-others c =
    let i = c.args.number in
    let l = c.loop-count in
    let t = turned i l.mux l.entry c.take.result c.take.new.mux c.take.new.entry l.invariant.takes.open_ l.invariant.lawful c.take.ensures.turns in
    others_others i c.args.mux.now l.mux c.take.new.mux l.invariant.others t.others

pub returns-clause-moves : goal.returns-clause-moves
returns-clause-moves c =
    let l = c.loop-count in
    moves_open c.args.number c.args.most c.args.mux.now c.args.entry.now l.mux l.entry c.if-entry.false
    (record { between = l.mux; last = l.entry; takes = l.invariant.takes; within = omega (arith, l.invariant.count, c.loop-count-test.false, l.auto._count-end); ends = inr (omega (arith, l.invariant.count, c.loop-count-test.false, l.auto._count-end), refl, refl) })
