use Rattle.std.proofs.Common.{rules, ◌≡◌, None, map, sym, ◌∙◌}
use Rattle.std.specs.Ordering.{int_eq}
use Rattle.request.specs.Parts.{service_parts_value}
use Rattle.request.specs.declared.service_parts.ServiceParts.{ServiceParts}
use Rattle.request_causes.specs.Causes.{IsRowOf}
use Rattle.request_causes.proofs.FindLaws.{found_passes, found_holds, is_placed, none_of, one_of}
use Rattle.request_causes.proofs.RowLaws.{on_pmt, on_pmts_are, pmt_is}
use Rattle.request_causes.proofs.row_causes.pmt_cause.Goals as goal

pub returns-in_err-row-clause-some : goal.returns-in_err-row-clause-some
returns-in_err-row-clause-some c =
    let none : c.from_residual.result ≡ None = search rules in
    rw none (sym (on_pmts_are c.args.services.now c.args.rows.now c.requires ∙ none_of (on_pmt c.args.services.now) c.args.rows.now (search rules)))

pub returns-in_err-service-clause-some : goal.returns-in_err-service-clause-some
returns-in_err-service-clause-some c =
    let row = c.in_ok-row.row.now in
    absurd (is_placed (λ (s : ServiceParts). int_eq row.out s.pmt) c.args.services.now (found_passes (on_pmt c.args.services.now) c.args.rows.now row (search rules)) (search rules))

pub returns-clause-cause : goal.returns-clause-cause
returns-clause-cause c = (
  found_holds (IsRowOf (map service_parts_value c.args.services.now)) (on_pmt c.args.services.now) c.args.rows.now c.in_ok-row.row.now c.requires.places (search rules),
  pmt_is c.args.services.now c.in_ok-service.service c.in_ok-row.row.now.out (search rules),
)

pub returns-clause-some : goal.returns-clause-some
returns-clause-some c =
    sym (on_pmts_are c.args.services.now c.args.rows.now c.requires ∙ one_of (on_pmt c.args.services.now) c.args.rows.now c.in_ok-row.row.now (search rules))
