use Rattle.std.proofs.Common.{ℕ, ◌+◌, map, sym, ap, ◌∙◌}
use Rattle.tables.specs.Nit.{nit_section_length_of}
use Rattle.selection.specs.ChosenView.{chosen_value}
use Rattle.output_tables.specs.Output.{packets_for, sdt_count, output_nit}
use Rattle.output_tables.proofs.SdtCountLaws.{sections_counted}
use Rattle.output_tables.proofs.counts.slow_count.Goals as goal

pub returns-clause-value : goal.returns-clause-value
returns-clause-value c =
    let r = c.args.request.now in
    let chosen = map chosen_value c.args.chosen.now in
    ap (λ (n : ℕ). n + c.packets_for.result) c.sdt_count.ensures.value
    ∙ ap (λ (n : ℕ). sdt_count chosen + n) (c.packets_for.ensures.value ∙ ap packets_for c.nit_section_length.ensures)
    ∙ ap (λ (n : ℕ). n + packets_for (nit_section_length_of (output_nit r chosen))) (sym (sections_counted r chosen))
