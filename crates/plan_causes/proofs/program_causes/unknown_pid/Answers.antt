use Rattle.std.proofs.Common.{rules, ◌≡◌, None, slice_get, sym, refl}
use Rattle.plan_causes.proofs.StreamLaws.{none_unknown, unknown_pid_is, unknown_pid_some}
use Rattle.plan_causes.proofs.program_causes.unknown_pid.Goals as goal

pub returns-in_err-number-clause-some : goal.returns-in_err-number-clause-some
returns-in_err-number-clause-some c =
    let none : c.from_residual.result ≡ None = search rules in
    rw none (sym (none_unknown c.args.streams.now c.args.numbers.now c.args.pmt.now (search rules)))

pub returns-clause-unknown : goal.returns-clause-unknown
returns-clause-unknown c =
    rw c.pid_at.ensures (unknown_pid_is c.args.streams.now c.args.numbers.now c.args.pmt.now c.in_ok-number.number (slice_get c.args.streams.now c.in_ok-number.number) (search rules) refl)

pub returns-clause-some : goal.returns-clause-some
returns-clause-some c =
    rw c.pid_at.ensures (unknown_pid_some c.args.streams.now c.args.numbers.now c.args.pmt.now c.in_ok-number.number (slice_get c.args.streams.now c.in_ok-number.number) (search rules) refl)
