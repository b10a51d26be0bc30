use Rattle.std.proofs.Common.{sym, ap, subst, ◌∙◌, refl, List, map, All}
use Rattle.std.proofs.lemmas.Result.{err_from_is_err_and}
use Rattle.request.specs.declared.service_parts.ServiceParts.{ServiceParts}
use Rattle.request.specs.declared.stream_row.StreamRow.{StreamRow}
use Rattle.request.specs.Parts.{service_parts_value, parts_value}
use Rattle.request.specs.Request.{RequestValue, IsRequest, service_of}
use Rattle.request.specs.Answers.{HasShortNumbers, HasShortPids}
use Rattle.request.proofs.RequestLaws.{request_is}
use Rattle.request.proofs.BuildLaws.{short_ids, rows_short, services_short, fault_told, made}
use Rattle.request.proofs.request.Request.new.Goals as goal

pub returns-in_err-rows-clause-fault : goal.returns-in_err-rows-clause-fault
returns-in_err-rows-clause-fault c =
    let p = err_from_is_err_and c.from_residual.result c.from_residual.ensures.1 in
    rw (p.1, p.2) (fault_told (parts_value c.args.parts) c.in_err-rows.field-0.0 c.in_err-rows.ensures.fault)

pub make_settings-settings-requires : goal.make_settings-settings-requires
make_settings-settings-requires c = short_ids (parts_value c.args.parts) c.in_ok-rows.ensures.faultless

pub make_streams-requires : goal.make_streams-requires
make_streams-requires c =
    subst (λ (rows : List StreamRow). All HasShortPids rows) (sym (c.as_slice.ensures.value ∙ c.in_ok-rows.ensures.streams))
    (rows_short (parts_value c.args.parts) c.in_ok-rows.ensures.faultless)

pub make_services-requires : goal.make_services-requires
make_services-requires c =
    subst (λ (services : List ServiceParts). All HasShortNumbers services) (sym c.deref.ensures.value)
    (services_short (parts_value c.args.parts) c.args.parts.services.items refl c.in_ok-rows.ensures.faultless)

pub invariant_of-result : goal.invariant_of-result
invariant_of-result c =
    subst (λ (r : RequestValue). IsRequest r)
    (sym (made (parts_value c.args.parts) c.make_settings-settings.result c.in_ok-inputs.inputs.items c.in_ok-services.services.items c.in_ok-streams.streams.items
    c.as_slice.result.now c.as_slice-2.result.now c.make_settings-settings.ensures c.in_ok-inputs.ensures (c.as_slice.ensures.value ∙ c.in_ok-rows.ensures.streams)
    c.in_ok-streams.ensures (c.as_slice-2.ensures.value ∙ c.in_ok-rows.ensures.streams)
    (c.in_ok-services.ensures ∙ ap (λ (services : List ServiceParts). map (service_of c.as_slice-2.result.now) (map service_parts_value services)) c.deref.ensures.value)))
    (request_is (parts_value c.args.parts) c.in_ok-rows.ensures.faultless)
