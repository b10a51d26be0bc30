use Rattle.std.proofs.Common.{rules, ◌≡◌, None, false, map, ap, ◌∙◌, sym}
use Rattle.std.specs.Prelude.{is_some}
use Rattle.request.specs.Parts.{service_parts_value}
use Rattle.request.specs.Request.{rows_of}
use Rattle.request_causes.proofs.FaultLaws.{answer_then}
use Rattle.request_causes.proofs.UseLaws.{some_meet, some_on_pmt, pmts_repeat}
use Rattle.request_causes.proofs.pid_causes.use_cause.Goals as goal

pub returns-clause-some : goal.returns-clause-some
returns-clause-some c =
    let services = map service_parts_value c.args.services.now in
    let unmet : c.meeting_cause.result ≡ None = search rules in
    let free : c.pmt_cause.result ≡ None = search rules in
    let meets : some_meet (rows_of services) ≡ false = sym c.meeting_cause.ensures.some ∙ ap is_some unmet in
    let on : some_on_pmt services ≡ false = sym c.pmt_cause.ensures.some ∙ ap is_some free in
    answer_then c.pmts_cause.result c.pmts_cause.ensures.some (λ found e h. e ∙ pmts_repeat services h meets on)
