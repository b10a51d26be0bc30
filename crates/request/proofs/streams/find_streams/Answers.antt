use Rattle.std.proofs.Common.{ap, sym, subst, map, drop, ◌∙◌, ◌+◌, ◌<◌, length, List}
use Rattle.std.proofs.lemmas.List.{at_drop_all}
use Rattle.request.specs.declared.limits.TheConstants.{MAX_STREAMS}
use Rattle.request.specs.declared.stream_row.StreamRow.{StreamRow}
use Rattle.request.specs.declared.service_parts.ServiceParts.{ServiceParts}
use Rattle.request.specs.Request.{service_rows, rows_of}
use Rattle.request.specs.Parts.{service_parts_value}
use Rattle.request.specs.Collected.{with_rows}
use Rattle.request.proofs.StreamLaws.{with_rows_all, next_service, service_full}
use Rattle.request.proofs.streams.find_streams.Goals as goal

pub loop-service-init : goal.loop-service-init
loop-service-init c = rw c.new-found.ensures (with_rows_all (rows_of (map service_parts_value c.args.services.now)))

pub returns-then-not-add_rows-clause-many : goal.returns-then-not-add_rows-clause-many
returns-then-not-add_rows-clause-many c =
    subst (λ (xs : List StreamRow). MAX_STREAMS < length xs) c.loop-service.invariant
    (service_full c.loop-service.found.items c.args.services.now c.loop-service.service-index c.service-item.result MAX_STREAMS c.loop-service-test.true
    (subst (λ (s : ServiceParts). MAX_STREAMS < length (with_rows c.loop-service.found.items (service_rows (service_parts_value s)))) c.service-item.is (c.add_rows.ensures.full c.if-not-add_rows.true)))

pub loop-service-preserved : goal.loop-service-preserved
loop-service-preserved c =
    let xs = c.args.services.now in
    let behind = rows_of (map service_parts_value (drop (c.loop-service.service-index + 1) xs)) in
    ap (λ (found : List StreamRow). with_rows found behind) (c.add_rows.ensures.added c.if-not-add_rows.false)
    ∙ ap (λ (s : ServiceParts). with_rows (with_rows c.loop-service.found.items (service_rows (service_parts_value s))) behind) c.service-item.is
    ∙ sym (next_service c.loop-service.found.items xs c.loop-service.service-index c.service-item.result c.loop-service-test.true)
    ∙ c.loop-service.invariant

pub returns-clause-found : goal.returns-clause-found
unfolding with_rows
returns-clause-found c =
    sym (at_drop_all (λ (xs : List ServiceParts). with_rows c.loop-service.found.items (rows_of (map service_parts_value xs))) c.args.services.now c.loop-service.service-index c.loop-service-test.false)
    ∙ c.loop-service.invariant
