-- What holds of each emission of a schedule, span by span.
use Rattle.std.proofs.Common.{ℕ, List, take}
use Rattle.schedule.specs.Schedule.{ScheduleValue, span_at, plan_at}
use Rattle.emission.specs.Spans.{IsEmissionOf, packets_of_span, SpansAgree, SpansRecur}
use Rattle.emission.proofs.AgreementLaws.{span_agrees}
use Rattle.emission.proofs.RecurrenceLaws.{span_recurs}
use Rattle.emission.proofs.SpanLaws.{is_span}
use Rattle.emission.proofs.SpanFacts.{IsKnown, built_at}
use Rattle.emission.proofs.SpanCounterLaws.{counters_go_on}

pub spans_agree : (s : ScheduleValue) → IsKnown s → (out : List (List ℕ)) → IsEmissionOf s out → SpansAgree s out
spans_agree s k out h = record {
  spans = λ number within.
      let built = built_at s k.plans number within in
      span_agrees (plan_at s number) (take (span_at s number).slot out) (packets_of_span s number out) built.request built.tables built.rounds
      (is_span s k.schedule.slots number out within h);
  counters = counters_go_on s k out h;
}

pub spans_recur : (s : ScheduleValue) → IsKnown s → (out : List (List ℕ)) → IsEmissionOf s out → SpansRecur s out
spans_recur s k out h = λ number within.
    let built = built_at s k.plans number within in
    span_recurs (plan_at s number) (take (span_at s number).slot out) (packets_of_span s number out) built.request built.tables built.rounds
    (is_span s k.schedule.slots number out within h)
