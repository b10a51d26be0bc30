use Rattle.std.proofs.Common.{rules, ◌≡◌, None, false, map, ap, ◌∙◌, sym}
use Rattle.std.specs.Prelude.{is_some}
use Rattle.std.specs.List.{list_any}
use Rattle.request.specs.Parts.{service_parts_value}
use Rattle.request.specs.Request.{rows_of, names_pid_twice, are_at_odds}
use Rattle.request_causes.proofs.FaultLaws.{answer_then}
use Rattle.request_causes.proofs.UseLaws.{outs_left}
use Rattle.request_causes.proofs.pid_causes.pid_cause.Goals as goal

pub returns-clause-some : goal.returns-clause-some
returns-clause-some c =
    let services = map service_parts_value c.args.services.now in
    let unnamed : c.in_ok-cause.field-0 ≡ None = search rules in
    let even : c.odds_cause.result ≡ None = search rules in
    let naming : list_any names_pid_twice services ≡ false = sym c.in_ok-cause.ensures.some ∙ ap is_some unnamed in
    let odds : list_any (λ a. list_any (are_at_odds a) (rows_of services)) (rows_of services) ≡ false = sym c.odds_cause.ensures.some ∙ ap is_some even in
    answer_then c.use_cause.result c.use_cause.ensures.some (λ found k h. k (outs_left services h naming odds))
