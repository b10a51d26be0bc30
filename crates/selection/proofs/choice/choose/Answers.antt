use Rattle.std.proofs.Common.{rules, arith, ◌≡◌, List, ◌∷◌, length, map, false, sym, ap, ◌∙◌}
use Rattle.std.proofs.lemmas.List.{length-map}
use Rattle.std.specs.List.{list_any}
use Rattle.acquire.specs.Seen.{findings_of}
use Rattle.request.specs.Request.{ServiceValue, service_value}
use Rattle.request.specs.declared.service.Service.{Service}
use Rattle.selection.specs.Chosen.{chosen_of, lacks_program, lacks_row}
use Rattle.selection.proofs.TestLaws.{any_map}
use Rattle.selection.proofs.ServiceLaws.{all_chosen}
use Rattle.selection.proofs.FaultLaws.{choice_fault_by}
use Rattle.selection.proofs.choice.choose.Goals as goal

pub returns-then-has_no_program-clause-fault : goal.returns-then-has_no_program-clause-fault
returns-then-has_no_program-clause-fault c =
    let same : map service_value c.services-services.result.now ≡ c.args.request.now.services = search rules in
    rw (choice_fault_by c.args.request.now (map findings_of c.args.found.now) c.services-services.result.now same) (search rules)

pub returns-then-has_no_row-clause-fault : goal.returns-then-has_no_row-clause-fault
returns-then-has_no_row-clause-fault c =
    let same : map service_value c.services-services.result.now ≡ c.args.request.now.services = search rules in
    rw (choice_fault_by c.args.request.now (map findings_of c.args.found.now) c.services-services.result.now same) (search rules)

pub returns-clause-no_fault : goal.returns-clause-no_fault
returns-clause-no_fault c =
    let same : map service_value c.services-services.result.now ≡ c.args.request.now.services = search rules in
    rw (choice_fault_by c.args.request.now (map findings_of c.args.found.now) c.services-services.result.now same) (search rules)

-- as many services as the request has
service_count : (services : List Service) (values : List ServiceValue) → map service_value services ≡ values → length services ≡ length values
service_count services values same = sym (length-map services service_value) ∙ ap length same

pub unreachable-requires : goal.unreachable-requires
unreachable-requires c =
    let count = service_count c.services-services.result.now c.args.request.now.services c.services-services.ensures.value in
    let none : length c.services-services.result.now ≡ 0 = c.in_default.ensures.cases in
    omega (arith, count, none, c.known.ensures.service_count)

pub collect_chosen-requires-clause-room : goal.collect_chosen-requires-clause-room
collect_chosen-requires-clause-room c =
    let count = service_count c.services-services.result.now c.args.request.now.services c.services-services.ensures.value in
    let split : c.services-services.result.now ≡ c.in-Some.first.now ∷ c.in-Some.others.now = search rules in
    omega (arith, count, ap length split, c.known.ensures.service_count)

pub returns-clause-services : goal.returns-clause-services
returns-clause-services c =
    let r = c.args.request.now in
    let found = map findings_of c.args.found.now in
    let same : map service_value c.services-services.result.now ≡ r.services = c.services-services.ensures.value in
    let chosen : c.collect_chosen.result ≡ chosen_of r found = search rules in
    let program : list_any (lacks_program r found) (map service_value c.services-services.result.now) ≡ false
    = any_map (lacks_program r found) service_value c.services-services.result.now ∙ sym c.has_no_program.ensures ∙ c.if-has_no_program.false in
    let row : list_any (lacks_row found) (map service_value c.services-services.result.now) ≡ false
    = any_map (lacks_row found) service_value c.services-services.result.now ∙ sym c.has_no_row.ensures ∙ c.if-has_no_row.false in
    rw chosen (all_chosen r found r.services (rw same at program) (rw same at row))
