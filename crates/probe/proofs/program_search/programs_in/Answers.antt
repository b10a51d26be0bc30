use Rattle.std.proofs.Common.{◌≡◌, ℕ, suc, ◌+◌, ◌<◌, List, ◌∷◌, ◌++◌, sym, ap, ◌∙◌, append_assoc, drop, drop-cons, add-one, length, get_or}
use Rattle.std.proofs.lemmas.List.Elements.{filter-append}
use Rattle.tables.specs.Pat.{PatValue}
use Rattle.probe.specs.Programs.{is_program, programs_of, rows_of}
use Rattle.probe.proofs.program_search.programs_in.Goals as goal

-- what is left begins with the next section
next : (sections : List PatValue) (i : ℕ) (s : PatValue) → i < length sections → s ≡ get_or sections i s → drop i sections ≡ s ∷ drop (i + 1) sections
next sections i s l e =
    drop-cons sections i s l ∙ ap (λ t. t ∷ drop (suc i) sections) (sym e) ∙ ap (λ j. s ∷ drop j sections) (sym (add-one i))

pub loop-section-preserved : goal.loop-section-preserved
loop-section-preserved c =
    let l = c.loop-section in
    let s = c.section-item.result in
    let later = rows_of (drop (l.section-index + 1) c.args.sections.now) in
    let before = l.programs.items in
    ap (λ xs. xs ++ programs_of later) (c.in_ok-push_programs.ensures ∙ ap (λ rows. before ++ programs_of rows) c.rows.ensures.value)
    ∙ append_assoc before (programs_of s.rows) (programs_of later)
    ∙ ap (λ xs. before ++ xs) (sym (filter-append is_program s.rows later))
    ∙ ap (λ sections. before ++ programs_of (rows_of sections)) (sym (next c.args.sections.now l.section-index s c.loop-section-test.true c.section-item.is))
    ∙ l.invariant
