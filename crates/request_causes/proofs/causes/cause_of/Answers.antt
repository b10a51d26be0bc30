use Rattle.std.proofs.Common.{Some, ap, ◌∙◌}
use Rattle.request.specs.Parts.{parts_value}
use Rattle.request_causes.proofs.FaultLaws.{answer_then, bad_range, service_twice, pid_twice, no_other}
use Rattle.request_causes.proofs.causes.cause_of.Goals as goal

pub returns-in-OutOfRange-clause-some : goal.returns-in-OutOfRange-clause-some
returns-in-OutOfRange-clause-some c =
    answer_then c.out_of_range_cause.result c.out_of_range_cause.ensures.some (λ found e h. e ∙ bad_range (parts_value c.args.parts.now) (h ∙ ap Some c.in-OutOfRange.is))

pub returns-in-ServiceTaken-clause-some : goal.returns-in-ServiceTaken-clause-some
returns-in-ServiceTaken-clause-some c =
    answer_then c.service_cause.result c.service_cause.ensures.some (λ found e h. e ∙ service_twice (parts_value c.args.parts.now) (h ∙ ap Some c.in-ServiceTaken.is))

pub returns-in-PidTaken-clause-some : goal.returns-in-PidTaken-clause-some
returns-in-PidTaken-clause-some c =
    answer_then c.taken_cause.result c.taken_cause.ensures.some (λ found k h. k (pid_twice (parts_value c.args.parts.now) (h ∙ ap Some c.in-PidTaken.is)))

pub returns-in_default : goal.returns-in_default
returns-in_default c = record {
  cause = tt;
  fault = tt;
  some = λ h. absurd (no_other (parts_value c.args.parts.now) c.args.fault h c.in_default.not-OutOfRange c.in_default.not-ServiceTaken c.in_default.not-PidTaken);
}
