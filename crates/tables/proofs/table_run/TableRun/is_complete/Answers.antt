use Rattle.std.proofs.Common.{rules, arith, ◌≡◌, ◌+◌, ◌-◌, sym, ap, ◌∙◌, is_some, true, false}
use Rattle.tables.specs.Kept.{kept_under, all_kept}
use Rattle.tables.proofs.InForceLaws.{some_more, none_more, table_kept}
use Rattle.tables.proofs.table_run.TableRun.is_complete.Goals as goal

pub returns-then-not-holds-clause-complete : goal.returns-then-not-holds-clause-complete
returns-then-not-holds-clause-complete g c sections stands =
    let missing : is_some (kept_under c.args.self.now c.loop-number.number) ≡ false = search rules in
    sym (c.loop-number.invariant ∙ none_more c.args.self.now c.loop-number.number _ missing (omega arith))
    ∙ ap is_some (table_kept c.args.self.now sections stands)

pub loop-number-preserved : goal.loop-number-preserved
loop-number-preserved g c =
    let there : is_some (kept_under c.args.self.now c.loop-number.number) ≡ true = search rules in
    c.loop-number.invariant
    ∙ some_more c.args.self.now c.loop-number.number _ there (omega arith)
    ∙ ap (λ n. is_some (all_kept c.args.self.now (c.loop-number.number + 1) n)) (omega arith)

pub returns-else-not-holds-clause-complete : goal.returns-else-not-holds-clause-complete
returns-else-not-holds-clause-complete g c sections stands =
    let there : is_some (kept_under c.args.self.now c.loop-number.number) ≡ true = search rules in
    let none : c.newest.inside.header.last_section_number + 1 - c.loop-number.number - 1 ≡ 0 = omega arith in
    sym (c.loop-number.invariant
    ∙ some_more c.args.self.now c.loop-number.number (c.newest.inside.header.last_section_number + 1 - c.loop-number.number) there (omega arith)
    ∙ ap (λ n. is_some (all_kept c.args.self.now (c.loop-number.number + 1) n)) none)
    ∙ ap is_some (table_kept c.args.self.now sections stands)
