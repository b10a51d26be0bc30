-- What is known of the plans of a schedule: their rates, periods and tables, and which PIDs are no stream's.
use Rattle.std.proofs.Common.{ℕ, zero, suc, ◌+◌, ◌≤◌, ◌<◌, ◌≡◌, ◌∙◌, inl, inr, [], ◌∷◌, length, get_or, ap, refl, sym, subst, arith}
use Rattle.std.specs.Prelude.{◌≢◌}
use Rattle.std.proofs.Math.Logic.{∥∥₁_elim}
use Rattle.std.specs.Coded.{Coded-set, coded_ℕ}
use Rattle.std.specs.List.{Contains}
use Rattle.std.proofs.lemmas.List.Elements.{All-contains, Contains-get_or}
use Rattle.request.specs.declared.stream.Stream.{Stream}
use Rattle.request.specs.Request.{ServiceValue, IsStream, IsService}
use Rattle.rounds.specs.Rounds.{RoundsValue}
use Rattle.plan.specs.Build.{PlanValue, IsPlan}
use Rattle.schedule.specs.Schedule.{ScheduleValue, plan_at, number_in_slot}
use Rattle.schedule.specs.Switches.{IsSchedule}
use Rattle.plan.specs.Built.{IsBuilt}
use Rattle.schedule.specs.Laws.{AreBuilt, IsInForce, HavePidsOneUse}
use Rattle.emission.specs.Spans.{IsTablePidOf}
use Rattle.emission.proofs.SlotLaws.{IsNoOther}
use Rattle.emission.proofs.TableSlotLaws.{IsTablePid}

-- what every schedule is known to keep
pub record IsKnown (s : ScheduleValue) : Type 0 where
  pub schedule : IsSchedule s
  pub plans : AreBuilt s
  pub force : (m : ℕ) → IsInForce s m (number_in_slot s m)
  pub pids : HavePidsOneUse s

pub built_at : (s : ScheduleValue) → AreBuilt s → (number : ℕ) → number ≤ length s.later → IsBuilt (plan_at s number)
built_at s h number within = h number (record { slot = 0; plan = s.first }) (omega (arith, within))

-- one rate and one period
rate_at : (s : ScheduleValue) → IsSchedule s → (number : ℕ) → number ≤ length s.later → (plan_at s number).request.rate ≡ s.first.request.rate
rate_at s h zero within = refl
rate_at s h (suc n) within =
    let e : n + 1 ≡ suc n = omega arith in
    subst (λ k. (plan_at s k).request.rate ≡ s.first.request.rate) e (h.even n (omega (arith, within))).rate

period_at : (s : ScheduleValue) → IsSchedule s → (number : ℕ) → number ≤ length s.later → (plan_at s number).request.period ≡ s.first.request.period
period_at s h zero within = refl
period_at s h (suc n) within =
    let e : n + 1 ≡ suc n = omega arith in
    subst (λ k. (plan_at s k).request.period ≡ s.first.request.period) e (h.even n (omega (arith, within))).period

rate_of_rounds : (p : PlanValue) → IsPlan p → p.rounds.rate ≡ p.request.rate
rate_of_rounds p plan = ∥∥₁_elim plan (Coded-set coded_ℕ _ _) (λ made. ap (λ (r : RoundsValue). r.rate) made.1.rounds)

period_of_rounds : (p : PlanValue) → IsPlan p → p.rounds.period ≡ p.request.period
period_of_rounds p plan = ∥∥₁_elim plan (Coded-set coded_ℕ _ _) (λ made. ap (λ (r : RoundsValue). r.period) made.1.rounds)

-- the rounds of each plan have the first one's
pub rounds_rate : (s : ScheduleValue) → IsKnown s → (number : ℕ) → number ≤ length s.later → (plan_at s number).rounds.rate ≡ s.first.request.rate
rounds_rate s k number within = rate_of_rounds (plan_at s number) (built_at s k.plans number within).tables ∙ rate_at s k.schedule number within

pub rounds_period : (s : ScheduleValue) → IsKnown s → (number : ℕ) → number ≤ length s.later → (plan_at s number).rounds.period ≡ s.first.request.period
rounds_period s k number within = period_of_rounds (plan_at s number) (built_at s k.plans number within).tables ∙ period_at s k.schedule number within

pub request_rate : (s : ScheduleValue) → IsKnown s → (number : ℕ) → number ≤ length s.later → (plan_at s number).request.rate ≡ s.first.request.rate
request_rate s k number within = rate_at s k.schedule number within

-- ---- PIDs of tables

-- no stream of a plan has this PID, and no null packet
pub record IsOff (s : ScheduleValue) (pid : ℕ) : Type 0 where
  pub null : pid ≢ 8191
  pub streams : (number : ℕ) (st : Stream) → number ≤ length s.later → Contains (plan_at s number).request.streams st → st.output_pid ≢ pid

pub low_off : (s : ScheduleValue) → IsKnown s → (pid : ℕ) → pid < 32 → IsOff s pid
low_off s k pid low = record {
  null = λ e. omega (arith, e, low);
  streams = λ number st within c e.
      let r = (plan_at s number).request in
      let range = (All-contains (IsStream (length r.inputs)) r.streams st (built_at s k.plans number within).request.streams c).output_pid in
      omega (arith, range.0, e, low);
}

pub pmt_off : (s : ScheduleValue) → IsKnown s → (number : ℕ) (v : ServiceValue) → number ≤ length s.later → Contains (plan_at s number).request.services v → IsOff s v.pmt
pmt_off s k number v within c = record {
  null = λ e.
      let r = (plan_at s number).request in
      let range = (All-contains (IsService (length r.inputs) (length r.streams)) r.services v (built_at s k.plans number within).request.services c).pmt in
      omega (arith, range.1, e);
  streams = λ other st there d e. k.pids.no_pmt other number st v there within d c e;
}

pub off : (s : ScheduleValue) → IsKnown s → (pid : ℕ) → IsTablePidOf s pid → IsOff s pid
off s k pid (inl c) = low_off s k pid (low_of c.0 c.1 c.2)
  where
    low_of : (i : ℕ) → i < 3 → get_or (0x0000 ∷ 0x0010 ∷ 0x0011 ∷ []) i pid ≡ pid → pid < 32
    low_of zero within e = omega (arith, e)
    low_of (suc zero) within e = omega (arith, e)
    low_of (suc (suc zero)) within e = omega (arith, e)
    low_of (suc (suc (suc i))) within e = absurd (omega (arith, within))
off s k pid (inr a) =
    let v = a.2.1 in
    subst (λ n. IsOff s n) a.2.4 (pmt_off s k a.0 v a.1 (a.2.0, a.2.2, a.2.3))

-- the same, as the laws of one plan ask for it
pub no_other : (s : ScheduleValue) (pid : ℕ) → IsOff s pid → (number : ℕ) → number ≤ length s.later → IsNoOther (plan_at s number) pid
no_other s pid h number within = record {
  null = λ e. h.null (sym e);
  streams = λ i st l e. h.streams number (get_or (plan_at s number).request.streams i st) within (Contains-get_or (plan_at s number).request.streams i st l) e;
}

pub table_pid : (s : ScheduleValue) (pid : ℕ) → IsOff s pid → (number : ℕ) → number ≤ length s.later → IsTablePid (plan_at s number).request.streams pid
table_pid s pid h number within = record {
  not_null = h.null;
  not_mapped = λ i st l e.
      h.streams number (get_or (plan_at s number).request.streams i st) within (Contains-get_or (plan_at s number).request.streams i st l) (sym e);
}
