-- What is told of an input at a run's end.
use Rattle.std.proofs.Common.{◌≡◌, ◌+◌, ℕ, Bool, true, false, List, [], ◌∷◌, ◌++◌, length, Option, Some, None, refl, ap, sym, subst, ◌∙◌, ◌⊎◌, arith, inl, inr, length-append}
use Rattle.std.specs.Prelude.{IsSome}
use Rattle.std.specs.List.{slice_get}
use Rattle.std.proofs.lemmas.Bool.{cases_Bool}
use Rattle.std.proofs.lemmas.Option.{none-some, same_Some, slice_get_within}
use Rattle.tspkt.specs.declared.item.Item.{Item}
use Rattle.request.specs.declared.stream.Stream.{Stream}
use Rattle.schedule.specs.Schedule.{ScheduleValue}
use Rattle.schedule.specs.Streams.{all_streams}
use Rattle.mux.specs.declared.event.Event.{Event}
use Rattle.mux.specs.Totals.{IsTotals}
use Rattle.mux.specs.declared.peak.Peak.{Peak}
use Rattle.mux.specs.Peaks.{IsPeak}
use Rattle.reading.specs.Takeable.{OriginValue, CountsItems}
use Rattle.reading.specs.declared.report.Report.{Report}
use Rattle.reading.specs.declared.stop.Stop.{Stop}
use Rattle.reading.specs.declared.stop.Stop.TheVariants.{Gate, ReadFailed, TooMuch}
use Rattle.reading.proofs.PacketLaws.{counted_stopped}
use Rattle.outcome.specs.Ending.{IsLast, AreReported}
use Rattle.outcome.specs.Outcome.{IsFailureTold}
use Rattle.outcome.specs.declared.ended.Ended.{Ended}
use Rattle.outcome.specs.declared.summary.InputSummary.{InputSummary}
use Rattle.outcome.proofs.ListLaws.{push_cases, map_push}

-- The last report of an input, by what stopped it.
module _ (is_closed : Bool) (report last : Report) (is : IsLast is_closed report last) where
  still : (cause : Stop) → report.stopped ≡ Some cause → last ≡ report
  still cause e = is.stopped (subst IsSome (sym e) refl)

  -- what stopped it still stands
  pub stop_stands : (cause : Stop) → report.stopped ≡ Some cause → last.stopped ≡ Some cause
  stop_stands cause e = ap (λ (r : Report). r.stopped) (still cause e) ∙ e

  left_open : report.stopped ≡ None → is_closed ≡ false → last.stopped ≡ Some Gate
  left_open e opened = ap (λ (r : Report). r.stopped) (is.left opened e)

  unstopped_at : (stopped : Option Stop) → report.stopped ≡ stopped → last.stopped ≡ None → (is_closed ≡ true) × (last ≡ report)
  unstopped_at (Some cause) was e = absurd (none-some cause (sym e ∙ stop_stands cause was))
  unstopped_at None was e =
      elim (cases_Bool is_closed) [
        | inl shut ↦ (shut, is.closed shut)
        | inr opened ↦ absurd (none-some Gate (sym e ∙ left_open was opened))
      ]

  -- an input that nothing stopped was closed
  pub unstopped : last.stopped ≡ None → (is_closed ≡ true) × (last ≡ report)
  unstopped e = unstopped_at report.stopped refl e

  stopped_at : (cause : Stop) (stopped : Option Stop) → report.stopped ≡ stopped → last.stopped ≡ Some cause → (cause ≡ Gate → ⊥) → last ≡ report
  stopped_at cause (Some before) was e other = still before was
  stopped_at cause None was e other =
      elim (cases_Bool is_closed) [
        | inl shut ↦ is.closed shut
        | inr opened ↦ absurd (other (same_Some cause Gate (sym e ∙ left_open was opened)))
      ]

  -- one that was stopped, but not left by the run, was stopped so when it was read
  pub stopped_before : (cause : Stop) → last.stopped ≡ Some cause → (cause ≡ Gate → ⊥) → last ≡ report
  stopped_before cause e other = stopped_at cause report.stopped refl e other

  gate_at : (stopped : Option Stop) → report.stopped ≡ stopped → last.stopped ≡ Some Gate → (report.stopped ≡ Some Gate) ⊎ (is_closed ≡ false)
  gate_at (Some before) was e = inl (sym (ap (λ (r : Report). r.stopped) (still before was)) ∙ e)
  gate_at None was e =
      elim (cases_Bool is_closed) [
        | inl shut ↦ absurd (none-some Gate (sym was ∙ sym (ap (λ (r : Report). r.stopped) (is.closed shut)) ∙ e))
        | inr opened ↦ inr opened
      ]

  -- one that was left was left by its gate, or it is open
  pub gate_or_open : last.stopped ≡ Some Gate → (report.stopped ≡ Some Gate) ⊎ (is_closed ≡ false)
  gate_or_open e = gate_at report.stopped refl e

  same_counts : (stopped : Option Stop) → report.stopped ≡ stopped → last ≡ record report { stopped = last.stopped }
  same_counts (Some before) was =
      let P : Report → Type 0 = λ v. v ≡ record report { stopped = v.stopped } in
      subst P (sym (still before was)) refl
  same_counts None was =
      let P : Report → Type 0 = λ v. v ≡ record report { stopped = v.stopped } in
      elim (cases_Bool is_closed) [
        | inl shut ↦ subst P (sym (is.closed shut)) refl
        | inr opened ↦ subst P (sym (is.left opened was)) refl
      ]

  -- its counts are what they were
  pub last_counts : (p : ScheduleValue) (o : OriginValue) (items : List Item) → CountsItems p o items report → CountsItems p o items last
  last_counts p o items counts =
      let C : Report → Type 0 = CountsItems p o items in
      subst C (sym (same_counts report.stopped refl)) (counted_stopped p o items report last.stopped counts)

  pub failure_told : {R : Type 0} (failures : R → ℕ) (old new : R) → IsFailureTold failures old new report.stopped → IsFailureTold failures old new last.stopped
  failure_told failures old new told = (
    λ e. told.0 (sym (ap (λ (r : Report). r.stopped) (stopped_before ReadFailed e (λ bad. cc))) ∙ e),
    λ other. told.1 (λ e. other (stop_stands ReadFailed e)),
  )

-- this is told of what stopped an input
pub record IsToldStop (told : Option (Option Stop)) (stopped : Option Stop) : Type 0 where
  pub failed : stopped ≡ Some ReadFailed → told ≡ Some (Some ReadFailed)
  pub too_much : stopped ≡ Some TooMuch → told ≡ Some (Some TooMuch)
  pub was_failed : told ≡ Some (Some ReadFailed) → stopped ≡ Some ReadFailed

pub told_itself : (told : Option (Option Stop)) (stopped : Option Stop) → told ≡ Some stopped → IsToldStop told stopped
told_itself told stopped is = record { failed = λ e. is ∙ ap Some e; too_much = λ e. is ∙ ap Some e; was_failed = λ e. same_Some stopped (Some ReadFailed) (sym is ∙ e) }

pub told_stop : (is_closed : Bool) (report last : Report) (told : Option (Option Stop)) → IsLast is_closed report last → told ≡ Some last.stopped → IsToldStop told report.stopped
told_stop is_closed report last told is same = record {
  failed = λ e. same ∙ ap Some (stop_stands is_closed report last is ReadFailed e);
  too_much = λ e. same ∙ ap Some (stop_stands is_closed report last is TooMuch e);
  was_failed = λ e.
      let failed : last.stopped ≡ Some ReadFailed = same_Some last.stopped (Some ReadFailed) (sym same ∙ e) in
      sym (ap (λ (r : Report). r.stopped) (stopped_before is_closed report last is ReadFailed failed (λ bad. cc))) ∙ failed;
}

-- one input more

pub reported_push : {T : Type 0} (p : ScheduleValue) (h : List Event) (ended : List (Ended T)) (summaries : List InputSummary) (lent : List T) (e : Ended T) (s : InputSummary)
    → AreReported p h ended summaries lent → IsTotals p (length summaries) h s.totals → IsLast e.is_closed e.report s.report
    → AreReported p h (ended ++ e ∷ []) (summaries ++ s ∷ []) (lent ++ e.lent ∷ [])
reported_push {T} p h ended summaries lent e s are totals last =
    let lent_of : Ended T → T = λ x. x.lent in
    record {
      length_is = omega (arith, are.length_is, length-append summaries (s ∷ []), length-append ended (e ∷ []));
      lent_is = ap (λ v. v ++ lent_of e ∷ []) are.lent_is ∙ sym (map_push lent_of ended e);
      totals = λ i t at.
          elim (push_cases summaries s i t at) [
            | inl there ↦ are.totals i t there
            | inr end ↦
                (let P : ℕ → Type 0 = λ n. IsTotals p n h t.totals in
                let Q : InputSummary → Type 0 = λ v. IsTotals p (length summaries) h v.totals in
                subst P (sym end.0) (subst Q (sym end.1) totals))
          ];
      reports = λ i y t aty att.
          elim (push_cases summaries s i t att) [
            | inl there ↦ elim (push_cases ended e i y aty) [
              | inl here ↦ are.reports i y t here there
              | inr end ↦ absurd (omega (arith, slice_get_within summaries i t there, end.0, are.length_is))
            ]
            | inr end ↦ elim (push_cases ended e i y aty) [
              | inl here ↦ absurd (omega (arith, slice_get_within ended i y here, end.0, are.length_is))
              | inr ends ↦
                  (let P : InputSummary → Type 0 = λ v. IsLast y.is_closed y.report v.report in
                  let Q : Ended T → Type 0 = λ v. IsLast v.is_closed v.report s.report in
                  subst P (sym end.1) (subst Q (sym ends.1) last))
            ]
          ];
    }

-- one stream more

-- the peaks of the first so many streams
pub record ArePeaksOfFirst (p : ScheduleValue) (h : List Event) (count : ℕ) (peaks : List Peak) : Type 0 where
  pub length_is : length peaks ≡ count
  pub each : (k : ℕ) (st : Stream) (x : Peak) → slice_get (all_streams p) k ≡ Some st → slice_get peaks k ≡ Some x → IsPeak p h st x

pub peaks_push : (p : ScheduleValue) (h : List Event) (count : ℕ) (peaks : List Peak) (x : Peak) → ArePeaksOfFirst p h count peaks
    → ((st : Stream) → slice_get (all_streams p) count ≡ Some st → IsPeak p h st x) → ArePeaksOfFirst p h (count + 1) (peaks ++ x ∷ [])
peaks_push p h count peaks x are next = record {
  length_is = omega (arith, are.length_is, length-append peaks (x ∷ []));
  each = λ k st y at aty.
      elim (push_cases peaks x k y aty) [
        | inl there ↦ are.each k st y at there
        | inr end ↦
            (let P : Peak → Type 0 = IsPeak p h st in
            let here : k ≡ count = end.0 ∙ are.length_is in
            subst P (sym end.1) (next st (ap (slice_get (all_streams p)) (sym here) ∙ at)))
      ];
}
