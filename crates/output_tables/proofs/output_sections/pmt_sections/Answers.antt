use Rattle.std.proofs.Common.{arith, ◌≡◌, ◌+◌, ◌≤◌, List, [], ◌∷◌, ◌++◌, map, take, length, sym, ap, ◌∙◌, subst}
use Rattle.std.specs.List.{AllZip}
use Rattle.std.proofs.lemmas.List.{map-append, take_all}
use Rattle.tables.specs.Pmt.{pmt_section_length_of}
use Rattle.request.specs.Request.{IsService}
use Rattle.selection.specs.declared.chosen_service.ChosenService.{ChosenService}
use Rattle.selection.specs.Chosen.{ChosenValue}
use Rattle.selection.specs.ChosenView.{chosen_value}
use Rattle.output_tables.specs.Output.{output_pmt}
use Rattle.output_tables.specs.OnPid.{SectionOnPid}
use Rattle.output_tables.specs.TableSet.{IsPmtFor}
use Rattle.output_tables.proofs.ListLaws.{item_has, zip_push, taken_more}
use Rattle.output_tables.proofs.OutputLaws.{are_services}
use Rattle.output_tables.proofs.output_sections.pmt_sections.Goals as goal

pub pmt_section-requires-clause-pid : goal.pmt_section-requires-clause-pid
pmt_section-requires-clause-pid c =
    let r = c.args.request.now in
    let one = item_has chosen_value (λ (v : ChosenValue). IsService (length r.inputs) (length r.streams) v.service) c.args.chosen.now c.loop-service.service-index c.service-item.result c.loop-service-test.true c.service-item.is (are_services r (map chosen_value c.args.chosen.now) c.requires.request c.requires.services) in
    omega (arith, one.pmt)

pub pmt_section-requires-clause-room : goal.pmt_section-requires-clause-room
pmt_section-requires-clause-room c =
    item_has chosen_value (λ (v : ChosenValue). pmt_section_length_of (output_pmt c.args.request.now v) ≤ 1021) c.args.chosen.now c.loop-service.service-index c.service-item.result c.loop-service-test.true c.service-item.is c.requires.room

pub loop-service-preserved : goal.loop-service-preserved
loop-service-preserved c =
    let chosen = c.args.chosen.now in
    let i = c.loop-service.service-index in
    let x = c.service-item.result in
    let s = c.in_ok-pmt_section.field-0 in
    let R = IsPmtFor c.args.request.now in
    let front : map chosen_value (take (i + 1) chosen) ≡ map chosen_value (take i chosen) ++ chosen_value x ∷ [] =
    ap (map chosen_value) (taken_more chosen i x c.loop-service-test.true c.service-item.is) ∙ map-append chosen_value (take i chosen) (x ∷ []) in
    let more = zip_push R c.loop-service.sections.items (map chosen_value (take i chosen)) s (chosen_value x) c.loop-service.invariant.sections c.in_ok-pmt_section.ensures.section in
    let P : List SectionOnPid → Type 0 = λ l. AllZip R l (map chosen_value (take (i + 1) chosen)) in
    let Q : List ChosenValue → Type 0 = λ l. AllZip R (c.loop-service.sections.items ++ s ∷ []) l in
    record {
      sections = subst P (sym {A = List SectionOnPid} c.push_reserved.ensures.items) (subst Q (sym {A = List ChosenValue} front) more);
      len = omega arith;
      room = omega arith;
    }

pub returns-clause-sections : goal.returns-clause-sections
returns-clause-sections c =
    let chosen = c.args.chosen.now in
    let Q : List ChosenService → Type 0 = λ l. AllZip (IsPmtFor c.args.request.now) c.loop-service.sections.items (map chosen_value l) in
    subst Q (take_all c.loop-service.service-index chosen (omega arith)) c.loop-service.invariant.sections
