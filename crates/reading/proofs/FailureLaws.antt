-- A failed read is told of an input exactly where its source failed, and loses nothing of the bytes before.
use Rattle.std.proofs.Common.{◌≡◌, ◌⊎◌, ℕ, List, ◌++◌, refl, ap, ◌∙◌, sym, subst, inl, inr}
use Rattle.std.proofs.lemmas.List.{append-nil}
use Rattle.std.specs.Option.{option_to_list}
use Rattle.schedule.specs.Schedule.{ScheduleValue}
use Rattle.tspkt.specs.Framed.{packets_of}
use Rattle.tspkt.specs.declared.stamped.Stamped.{Stamped}
use Rattle.std.specs.Prelude.{Option, Some, None, IsSome, true, false}
use Rattle.reading.specs.declared.stop.Stop.{Stop}
use Rattle.reading.specs.declared.stop.Stop.TheVariants.{Gate, ReadFailed, TooMuch, Memory}
use Rattle.reading.specs.Holding.{PacketReader}
use Rattle.reading.specs.Failures.{FailsOnce}
use Rattle.reading.specs.PacketReading.{HasRead, TellsFailures, GoesOn}
use Rattle.reading.specs.Takeable.{stride_at, framed_at, takeable}
use Rattle.reading.proofs.PacketLaws.{takeable_same}
use Rattle.reading.proofs.StreamLaws.{told_failed}

-- no read failed
pub tells_still : {R : Type 0} (failures : R → ℕ) (before : ℕ) (old new : PacketReader R) → failures new.stream.source ≡ failures old.stream.source
    → (IsSome new.stream.items.framer → IsSome old.stream.items.framer) → (new.report.stopped ≡ Some ReadFailed → old.report.stopped ≡ Some ReadFailed)
    → ((new.report.stopped ≡ Some ReadFailed → ⊥) → failures old.stream.source ≡ before) → TellsFailures failures before old → TellsFailures failures before new
tells_still failures before old new same open_ was unfailed tells =
    let P : ℕ → Type 0 = FailsOnce before in
    record {
      unfailed = λ some. same ∙ tells.unfailed (open_ some);
      told = λ e. subst P (sym same) (tells.told (was e));
      untold = λ other. same ∙ unfailed other;
    }

-- a read of an input that was still read failed
pub tells_failed : {R : Type 0} (failures : R → ℕ) (before : ℕ) (old new : PacketReader R) → IsSome old.stream.items.framer → new.stream.items.framer ≡ None
    → new.report.stopped ≡ Some ReadFailed → FailsOnce (failures old.stream.source) (failures new.stream.source) → TellsFailures failures before old → TellsFailures failures before new
tells_failed failures before old new some none is failed tells =
    let P : ℕ → Type 0 = λ n. FailsOnce n (failures new.stream.source) in
    record {
      unfailed = λ here. (let bad : false ≡ true = subst IsSome none here in cc);
      told = λ e. subst P (tells.unfailed some) failed;
      untold = λ other. absurd (other is);
    }

-- the input was read no further
pub tells_kept : {R : Type 0} (failures : R → ℕ) (before : ℕ) (old new : PacketReader R) → new.stream.source ≡ old.stream.source → new.stream.items.framer ≡ old.stream.items.framer
    → new.report.stopped ≡ old.report.stopped → TellsFailures failures before old → TellsFailures failures before new
tells_kept failures before old new source framer stopped tells =
    tells_still failures before old new (ap failures source) (λ some. subst IsSome framer some) (λ e. sym stopped ∙ e) (λ other. tells.untold (λ e. other (stopped ∙ e))) tells

-- a failed read was told, or not
is_failed : (stopped : Option Stop) → (stopped ≡ Some ReadFailed) ⊎ (stopped ≡ Some ReadFailed → ⊥)
is_failed None = inr (λ e. cc)
is_failed (Some Gate) = inr (λ e. cc)
is_failed (Some ReadFailed) = inl refl
is_failed (Some TooMuch) = inr (λ e. cc)
is_failed (Some Memory) = inr (λ e. cc)

-- what is told newly is a failure
pub newly_failed : {R : Type 0} (failures : R → ℕ) (old new : PacketReader R)
    → ((before : ℕ) → TellsFailures failures before old → TellsFailures failures before new) → new.report.stopped ≡ Some ReadFailed
    → (old.report.stopped ≡ Some ReadFailed) ⊎ FailsOnce (failures old.stream.source) (failures new.stream.source)
newly_failed failures old new goes e = elim (is_failed old.report.stopped) [
  | inl was ↦ inl was
  | inr other ↦
      (let before : TellsFailures failures (failures old.stream.source) old = record { unfailed = λ some. refl; told = λ f. absurd (other f); untold = λ f. refl } in
      inr ((goes (failures old.stream.source) before).told e))
]

-- one that was read on, and then once more
pub goes_goes : {R : Type 0} (failures : R → ℕ) (a m d : PacketReader R) → GoesOn failures a m → GoesOn failures m d → GoesOn failures a d
goes_goes failures a m d first second = record {
  failures_told = λ before tells. second.failures_told before (first.failures_told before tells);
  going = λ e. first.going (second.going e);
  unleft = λ e. first.unleft (second.unleft e);
  reading = λ some. first.reading (second.reading some);
  origin = second.origin ∙ first.origin;
  limit = second.limit ∙ first.limit;
}

-- one that was read no further
pub goes_kept : {R : Type 0} (failures : R → ℕ) (old new : PacketReader R) → new.stream.source ≡ old.stream.source → new.stream.items.framer ≡ old.stream.items.framer
    → new.report.stopped ≡ old.report.stopped → new.origin ≡ old.origin → new.stream.items.limit ≡ old.stream.items.limit → GoesOn failures old new
goes_kept failures old new source framer stopped origin limit = record {
  failures_told = λ before tells. tells_kept failures before old new source framer stopped tells;
  going = λ e. sym stopped ∙ e;
  unleft = λ e. sym stopped ∙ e;
  reading = λ some. subst IsSome framer some;
  origin = origin;
  limit = limit;
}

-- where a read failed, what was given and is held is what can be taken of the bytes before
pub failed_given : {R : Type 0} (remaining : R → Option (List ℕ)) (schedule : ScheduleValue) (x : PacketReader R) (bytes : List ℕ) (given : List Stamped) → HasRead remaining schedule x bytes given
    → x.report.stopped ≡ Some ReadFailed → given ++ option_to_list x.held ≡ takeable schedule x.origin (framed_at x.origin bytes)
failed_given remaining schedule x bytes given has failed =
    let items = x.stream.items in
    let none = has.1.over (subst IsSome (sym failed) refl) in
    let all : has.0 ++ items.ahead ≡ has.0 = ap (λ v. has.0 ++ v) none ∙ append-nil has.0 in
    let told = told_failed (stride_at x.origin) items.limit items.framer (has.0 ++ items.ahead) bytes (remaining x.stream.source) x.report.stopped failed has.1.passed in
    sym has.1.given_is ∙ takeable_same schedule x.origin has.0 (framed_at x.origin bytes) (ap packets_of (sym all) ∙ told.packets)
