use Rattle.std.proofs.Common.{List, ap, sym, ◌∙◌, subst}
use mathlib.Core.List.{IsPrefix}
use Rattle.marks.specs.declared.entry.Entry.{Entry}
use Rattle.marks.specs.Marks.{MarkValue, Begins}
use Rattle.marks.proofs.MarkLaws.{earlier_begins, as_many_packets}
use Rattle.marks.proofs.mark.Mark.later.Goals as goal

pub returns-then-is_before-clause-this : goal.returns-then-is_before-clause-this
returns-then-is_before-clause-this c =
    let both = c.learn.new.self.log in
    let pre : IsPrefix c.self.inside.seen.log both = subst (λ (l : List Entry). IsPrefix l both) (ap (λ s. s.log) c.again-both.ensures) c.learn.ensures.2 in
    subst (λ (z : MarkValue). Begins c.args.self.now z) (sym c.copy.ensures)
    (earlier_begins c.args.self.now c.args.other.now _ _ c.self.inside.seen.log c.other.inside.seen.log both c.self.view_is c.other.view_is c.requires pre c.learn.ensures.3 c.self.invariant.2 c.other.invariant.2 c.if-is_before.ensures)

pub returns-clause-that : goal.returns-clause-that
returns-clause-that c =
    let both = c.learn.new.self.log in
    let pre : IsPrefix c.self.inside.seen.log both = subst (λ (l : List Entry). IsPrefix l both) (ap (λ s. s.log) c.again-both.ensures) c.learn.ensures.2 in
    subst (λ (z : MarkValue). Begins c.args.other.now z) (sym c.copy-else-is_before.ensures)
    (earlier_begins c.args.other.now c.args.self.now _ _ c.other.inside.seen.log c.self.inside.seen.log both c.other.view_is c.self.view_is (sym c.requires) c.learn.ensures.3 pre c.other.invariant.2 c.self.invariant.2 c.if-is_before.ensures)

pub returns-clause-packets : goal.returns-clause-packets
returns-clause-packets c few =
    let both = c.learn.new.self.log in
    let pre : IsPrefix c.self.inside.seen.log both = subst (λ (l : List Entry). IsPrefix l both) (ap (λ s. s.log) c.again-both.ensures) c.learn.ensures.2 in
    ap (λ (z : MarkValue). z.packets) c.copy-else-is_before.ensures
    ∙ as_many_packets c.args.other.now c.args.self.now _ _ c.other.inside.seen.log c.self.inside.seen.log both c.other.view_is c.self.view_is (sym c.requires) c.learn.ensures.3 pre c.other.invariant.2 c.self.invariant.2 c.if-is_before.ensures few
