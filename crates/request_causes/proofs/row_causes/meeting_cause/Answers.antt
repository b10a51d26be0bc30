use Rattle.std.proofs.Common.{rules, ◌≡◌, None, map, sym}
use Rattle.request_causes.specs.Causes.{meet}
use Rattle.request.specs.Parts.{service_parts_value}
use Rattle.request_causes.specs.Causes.{stream_row}
use Rattle.request_causes.proofs.FindLaws.{has_other, found_passes, is_found}
use Rattle.request_causes.proofs.RowLaws.{pair_is, some_pair, no_pair}
use Rattle.request_causes.proofs.row_causes.meeting_cause.Goals as goal

pub returns-in_err-first-clause-some : goal.returns-in_err-first-clause-some
returns-in_err-first-clause-some c =
    let none : c.from_residual.result ≡ None = search rules in
    rw none (sym (no_pair meet (map service_parts_value c.args.services.now) c.args.rows.now c.requires (search rules)))

pub returns-in_err-second-clause-some : goal.returns-in_err-second-clause-some
returns-in_err-second-clause-some c =
    let first = c.in_ok-first.first.now in
    absurd (is_found (λ other. meet (stream_row first) (stream_row other)) c.args.rows.now (found_passes (has_other meet stream_row c.args.rows.now) c.args.rows.now first (search rules)) (search rules))

pub returns-clause-cause : goal.returns-clause-cause
returns-clause-cause c =
    pair_is meet (map service_parts_value c.args.services.now) c.args.rows.now c.in_ok-first.first.now c.in_ok-second.second.now c.requires (search rules) (search rules)

pub returns-clause-some : goal.returns-clause-some
returns-clause-some c = sym (some_pair meet (map service_parts_value c.args.services.now) c.args.rows.now c.in_ok-first.first.now c.requires (search rules))
