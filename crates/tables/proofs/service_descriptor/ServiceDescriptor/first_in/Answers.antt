use Rattle.std.proofs.Common.{arith, rules, ◌≡◌, ◌==◌, option_map, ◌∷◌, None, true, length, ap, ◌∙◌, sym}
use Rattle.std.proofs.lemmas.List.{nil_from_length}
use Rattle.std.proofs.lemmas.Bool.Decides.{nat_tests}
use Rattle.tables.specs.Descriptor.{descriptor_value_of}
use Rattle.tables.specs.Descriptors.{descriptors_of}
use Rattle.tables.specs.ServiceDescriptor.{first_service_of, service_value_of}
use Rattle.tables.proofs.DescriptorLaws.{descriptors_none}
use Rattle.tables.proofs.ServiceLaws.{services_none, services_first, services_bad, services_other}
use Rattle.tables.proofs.service_descriptor.ServiceDescriptor.first_in.Goals as goal
use Rattle.tables.proofs.service_descriptor.ServiceDescriptor.first_in.Goals.{else-descriptor-eq-SERVICE_DESCRIPTOR-via-else-descriptor-eq-SERVICE_DESCRIPTOR, else-descriptor-eq-SERVICE_DESCRIPTOR-via-then-descriptor-eq-SERVICE_DESCRIPTOR+in-None-1}

pub returns-in-loop-rest : goal.returns-in-loop-rest
returns-in-loop-rest c =
    let d = descriptor_value_of c.split_descriptor.result.0 in
    let behind = descriptors_of 0 c.split_descriptor.result.1.now in
    let tag : (d.tag == 72) ≡ true = grind (arith, nat_tests) in
    sym (services_first d behind (service_value_of c.in-Some.service) tag (sym c.in-Some.ensures))
    ∙ ap first_service_of (sym c.split_descriptor.ensures.descriptors)
    ∙ c.loop-rest.invariant.found

pub loop-rest-preserved : goal.loop-rest-preserved
loop-rest-preserved c =
    let d = descriptor_value_of c.split_descriptor.result.0 in
    let behind = descriptors_of 0 c.split_descriptor.result.1.now in
    let passed : first_service_of (d ∷ behind) ≡ first_service_of behind =
    elim c.else-descriptor-eq-SERVICE_DESCRIPTOR.branch [
      | else-descriptor-eq-SERVICE_DESCRIPTOR-via-else-descriptor-eq-SERVICE_DESCRIPTOR w ↦ services_other d behind (grind (arith, nat_tests))
      | else-descriptor-eq-SERVICE_DESCRIPTOR-via-then-descriptor-eq-SERVICE_DESCRIPTOR+in-None-1 w ↦ services_bad d behind (let none : w.read.result ≡ None = search rules in sym w.read.ensures ∙ ap (option_map service_value_of) none)
    ] in
    record {
      found = sym passed ∙ ap first_service_of (sym c.split_descriptor.ensures.descriptors) ∙ c.loop-rest.invariant.found;
      whole = c.split_descriptor.ensures.whole;
    }

pub returns : goal.returns
returns c =
    let none : length c.loop-rest.rest.now ≡ 0 = search rules in
    sym (ap first_service_of (ap (descriptors_of 0) (nil_from_length c.loop-rest.rest.now none) ∙ descriptors_none) ∙ services_none)
    ∙ c.loop-rest.invariant.found
