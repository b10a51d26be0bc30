use Rattle.std.proofs.Common.{arith, ◌+◌, ◌≤◌, List, [], ◌∷◌, ◌++◌, take, sym, ◌∙◌, subst, map}
use Rattle.std.specs.List.{AllZip}
use Rattle.std.proofs.lemmas.List.{take_all}
use Rattle.std.proofs.lemmas.List.Elements.{All-same}
use Rattle.tables.specs.Sdt.{SdtValue, sdt_section_length_of}
use Rattle.selection.specs.ChosenView.{chosen_value}
use Rattle.output_tables.specs.Output.{output_sdt}
use Rattle.output_tables.specs.OnPid.{SectionOnPid}
use Rattle.output_tables.specs.TableSet.{IsSdtFor}
use Rattle.output_tables.proofs.ListLaws.{zip_push, taken_more}
use Rattle.output_tables.proofs.GroupLaws.{sdt_fits}
use Rattle.output_tables.proofs.output_sections.sdt_sections.Goals as goal

pub sdt_section-requires : goal.sdt_section-requires
sdt_section-requires c =
    let tables = c.deref-table-items.result.now in
    let P : SdtValue → Type 0 = λ v. sdt_section_length_of v ≤ 1021 in
    let all = All-same P tables (output_sdt c.args.request.now (map chosen_value c.args.chosen.now)) (c.deref-table-items.ensures.value ∙ c.in_ok-tables.ensures) (sdt_fits c.args.request.now (map chosen_value c.args.chosen.now) c.requires.room) in
    subst P (sym c.table-item.is) (all c.loop-table.table-index c.table-item.result c.loop-table-test.true)

pub loop-table-preserved : goal.loop-table-preserved
loop-table-preserved c =
    let tables = c.deref-table-items.result.now in
    let i = c.loop-table.table-index in
    let x = c.table-item.result in
    let s = c.in_ok-sdt_section.field-0 in
    let more = zip_push IsSdtFor c.loop-table.sections.items (take i tables) s x c.loop-table.invariant.sections c.in_ok-sdt_section.ensures.section in
    let P : List SectionOnPid → Type 0 = λ l. AllZip IsSdtFor l (take (i + 1) tables) in
    let Q : List SdtValue → Type 0 = λ l. AllZip IsSdtFor (c.loop-table.sections.items ++ s ∷ []) l in
    record {
      sections = subst P (sym {A = List SectionOnPid} c.push_reserved.ensures.items) (subst Q (sym {A = List SdtValue} (taken_more tables i x c.loop-table-test.true c.table-item.is)) more);
      len = omega arith;
      room = omega arith;
    }

pub returns-clause-sections : goal.returns-clause-sections
returns-clause-sections c =
    let tables = c.deref-table-items.result.now in
    let Q : List SdtValue → Type 0 = λ l. AllZip IsSdtFor c.loop-table.sections.items l in
    subst Q (take_all c.loop-table.table-index tables (omega arith) ∙ c.deref-table-items.ensures.value ∙ c.in_ok-tables.ensures) c.loop-table.invariant.sections
