use Rattle.std.proofs.Common.{rules, ◌≡◌, ℤ, List, Some, slice_get, length, refl, subst}
use Rattle.std.proofs.lemmas.Int.{to_z-of_z}
use Rattle.std.proofs.lemmas.Option.{slice_get_read}
use Rattle.request.specs.Parts.{service_parts_value}
use Rattle.request_causes.specs.Causes.{AreBoth, pids_of}
use Rattle.request_causes.proofs.RowLaws.{naming_is}
use Rattle.request_causes.proofs.pid_causes.naming_cause.Goals as goal
use mir.Val.{SFits, to_z, of_z}
use mir.Syntax.{w64}

pub returns-in-Some-clause-cause : goal.returns-in-Some-clause-cause
returns-in-Some-clause-cause c =
    let s = c.index-services-service.result in
    let repeat = c.in-Some.repeat in
    let at : slice_get c.args.services.now c.loop-service.service ≡ Some s =
    slice_get_read c.args.services.now (length c.args.services.now) c.loop-service.service s refl c.loop-service-test.true c.index-services-service.is in
    let pids : c.deref.result.now ≡ pids_of (service_parts_value s) = search rules in
    let fits : SFits w64 repeat.number = search rules in
    naming_is c.args.services.now c.loop-service.service repeat.first repeat.second repeat.number (to_z w64 (of_z w64 repeat.number)) s (to_z-of_z w64 repeat.number fits) at
    (subst (λ (zs : List ℤ). AreBoth zs repeat.first repeat.second repeat.number) pids c.in-Some.ensures.both)
