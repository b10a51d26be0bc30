-- What the analyser tells of an emission of a schedule, and of a plan, which is a schedule of one plan.
use Rattle.std.proofs.Common.{ℕ, zero, suc, ◌≤◌, List, [], length, arith}
use Rattle.std.proofs.lemmas.List.Elements.{All-cons, All-nil}
use Rattle.request.specs.Request.{IsRequest}
use Rattle.rounds.specs.Rounds.{IsRounds}
use Rattle.plan.specs.Build.{PlanValue, IsPlan}
use Rattle.schedule.specs.Schedule.{SpanValue, ScheduleValue, plan_at, single}
use Rattle.schedule.specs.Switches.{IsSchedule}
use Rattle.plan.specs.Built.{IsBuilt}
use Rattle.schedule.specs.Streams.{all_streams, AreStreamsOf}
use Rattle.schedule.proofs.AllStreamsLaws.{are_streams}
use Rattle.schedule.proofs.ForceLaws as force
use Rattle.schedule.proofs.StreamLaws.{have_one_use}
use Rattle.emission.specs.Spans.{IsEmissionOf}
use Rattle.emission.proofs.SpanFacts.{IsKnown}
use Rattle.analyse.specs.Faults.{faults}
use Rattle.analyse.specs.declared.fault_kind.FaultKind.TheVariants.{PatError2, PmtError2}
use Rattle.output_faults.specs.ToldFaults.{TellsNoTableFault}
use Rattle.output_faults.proofs.OutputFaultLaws.{none_told}
use Rattle.output_faults.proofs.ScheduleFaultLaws.{no_pat_error, no_pmt_error}

pub no_table_fault : (s : ScheduleValue) → IsKnown s → (period : ℕ) (out : List (List ℕ)) → IsEmissionOf s out → TellsNoTableFault (faults s.first.request.rate period out)
no_table_fault s k period out h = record {
  pat = none_told s.first.request.rate period out PatError2 (λ m pid l t. no_pat_error s k out h m l t);
  pmts = none_told s.first.request.rate period out PmtError2 (λ m pid l t. no_pmt_error s k out h m t.0 l t.1);
}

-- ---- a schedule of one plan

no_switches : (p : PlanValue) → IsSchedule (single p)
no_switches p = record {
  even = λ number l. absurd (omega (arith, l));
  versions = λ number l. absurd (omega (arith, l));
  pids = λ number l. absurd (omega (arith, l));
  slots = record { count = omega arith; each = λ number l. absurd (omega (arith, l)) };
  rounds = λ number l. absurd (omega (arith, l));
}

requests : (p : PlanValue) → IsRequest p.request → (number : ℕ) → number ≤ length (single p).later → IsRequest (plan_at (single p) number).request
requests p r zero within = r
requests p r (suc n) within = absurd (omega (arith, within))

pub known_one : (p : PlanValue) → IsRequest p.request → IsPlan p → IsRounds p.rounds → IsKnown (single p)
known_one p r is ok = record {
  schedule = no_switches p;
  plans = All-cons (λ (w : SpanValue). IsBuilt w.plan) (record { slot = 0; plan = p }) [] (record { request = r; rounds = ok; tables = is }) (All-nil (λ (w : SpanValue). IsBuilt w.plan));
  force = force.in_force (single p) (no_switches p).slots;
  pids = have_one_use (single p) (no_switches p).pids (requests p r);
}

pub streams_of_one : (p : PlanValue) → IsRequest p.request → AreStreamsOf (single p) (all_streams (single p))
streams_of_one p r = are_streams (single p) (no_switches p).pids (requests p r)
