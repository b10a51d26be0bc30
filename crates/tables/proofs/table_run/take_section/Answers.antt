use Rattle.std.proofs.Common.{◌==◌, option_map, Some, ap, sym, ◌∙◌}
use Rattle.std.specs.List.{position}
use Rattle.std.proofs.lemmas.List.Quantifiers.{position-Some}
use Rattle.std.proofs.lemmas.Bool.{eqb-true, ne_eqb}
use Rattle.tables.specs.InForce.{SectionValue}
use Rattle.tables.specs.Kept.{kept_under}
use Rattle.tables.proofs.InForceLaws.{find_none, find_some, find_remove}
use Rattle.tables.proofs.table_run.take_section.Goals as goal

pub returns-in_err-place-clause-taken : goal.returns-in_err-place-clause-taken
returns-in_err-place-clause-taken g c =
    c.from_residual.ensures
    ∙ sym (ap (option_map (λ s. s.table)) (find_none (λ s. s.header.section_number == c.args.number) c.args.sections.now.items (sym (c.in_err-place.ensures ∙ ap (position (λ s. s.header.section_number == c.args.number)) c.deref.ensures.value))))

pub returns-clause-taken : goal.returns-clause-taken
returns-clause-taken g c =
    let found = find_some (λ s. s.header.section_number == c.args.number) c.args.sections.now.items c.in_ok-place.place c.remove.result (sym (c.in_ok-place.ensures ∙ ap (position (λ s. s.header.section_number == c.args.number)) c.deref.ensures.value)) in
    ap (λ (s : SectionValue _). Some s.table) (c.table.view_is ∙ c.remove.ensures.value) ∙ sym (ap (option_map (λ s. s.table)) found)

pub returns-clause-others : goal.returns-clause-others
returns-clause-others g c other ne =
    let at = position-Some (λ s. s.header.section_number == c.args.number) c.args.sections.now.items c.in_ok-place.place c.remove.result (sym (c.in_ok-place.ensures ∙ ap (position (λ s. s.header.section_number == c.args.number)) c.deref.ensures.value)) in
    ap (λ l. kept_under l other) c.remove.ensures.items
    ∙ find_remove (λ s. s.header.section_number == other) c.args.sections.now.items c.in_ok-place.place c.remove.result at.0
    (ne_eqb _ _ (λ e. ne (sym e ∙ eqb-true _ _ at.1)))
