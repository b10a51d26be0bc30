use Rattle.std.proofs.Common.{◌==◌, option_map, Some, get_or, ap, sym, ◌∙◌}
use Rattle.std.specs.List.{position}
use Rattle.tables.specs.InForce.{SectionValue}
use Rattle.tables.proofs.InForceLaws.{find_none, find_some, under_in_force}
use Rattle.tables.proofs.table_run.TableRun.under.Goals as goal

pub returns-in_err-place-clause-kept : goal.returns-in_err-place-clause-kept
returns-in_err-place-clause-kept g c =
    ap (option_map (λ t. t.now)) c.from_residual.ensures
    ∙ sym (ap (option_map (λ s. s.table)) (find_none (λ s. s.header.section_number == c.args.number) c.args.self.now
    (sym (c.in_err-place.ensures ∙ ap (position (λ s. s.header.section_number == c.args.number)) (c.deref.ensures.value ∙ c.self.view_is)))))

pub returns-in_err-place-clause-in_force : goal.returns-in_err-place-clause-in_force
returns-in_err-place-clause-in_force g c sections stands =
    returns-in_err-place-clause-kept g c ∙ ap (option_map (λ s. s.table)) (under_in_force c.args.self.now sections c.args.number stands)

pub returns-clause-kept : goal.returns-clause-kept
returns-clause-kept g c =
    let found = find_some (λ s. s.header.section_number == c.args.number) c.args.self.now c.in_ok-place.place c.index-section.result.now
    (sym (c.in_ok-place.ensures ∙ ap (position (λ s. s.header.section_number == c.args.number)) (c.deref.ensures.value ∙ c.self.view_is))) in
    let at = c.index-section.ensures ∙ ap (λ l. get_or l c.in_ok-place.place c.index-section.result.now) c.self.view_is in
    ap (λ (s : SectionValue _). Some s.table) (c.section.view_is ∙ at) ∙ sym (ap (option_map (λ s. s.table)) found)

pub returns-clause-in_force : goal.returns-clause-in_force
returns-clause-in_force g c sections stands =
    returns-clause-kept g c ∙ ap (option_map (λ s. s.table)) (under_in_force c.args.self.now sections c.args.number stands)
