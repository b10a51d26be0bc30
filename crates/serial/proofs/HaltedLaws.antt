-- The inputs of a run that fails.
use Rattle.std.proofs.Common.{ℕ, ◌<◌, ◌≡◌, ◌⊎◌, false, List, length, set, get_or, Option, Some, ap, ◌∙◌, sym, subst, inl, inr}
use Rattle.std.specs.List.{slice_get}
use Rattle.std.proofs.lemmas.Bool.{cases_eq}
use Rattle.std.proofs.lemmas.List.{length-set}
use Rattle.std.proofs.lemmas.Option.{same_Some, slice_get-get_or}
use Rattle.schedule.specs.Schedule.{ScheduleValue}
use Rattle.mux.specs.declared.event.Event.{Event}
use Rattle.mux.specs.Lawful.{is_ready}
use Rattle.reading.specs.declared.stop.Stop.{Stop}
use Rattle.reading.specs.declared.stop.Stop.TheVariants.{Memory}
use Rattle.reading.specs.declared.input_limit.InputLimit.{InputLimit}
use Rattle.serial.specs.declared.serial_run.SerialRun.{SerialRun}
use Rattle.mux.specs.History.{Run}
use Rattle.serial.specs.Feeding.{SerialInput, Feeds, HasFed, AreUnrefused, AreLimited}
use Rattle.serial.specs.Running.{AreFed, IsRunning, IsHalted, AreHalted}
use Rattle.serial.proofs.FeedingLaws.{has_fed}
use Rattle.serial.proofs.RunningLaws.{set_here, set_there}

-- an input that goes on
halted_one : {R : Type 0} (remaining : R → Option (List ℕ)) (p : ScheduleValue) (h : List Event) (i : ℕ) (start : Option (List ℕ)) (x : SerialInput R) → Feeds remaining p h i start x → IsHalted p h i x.inlet.report.stopped
halted_one remaining p h i start x f = record { unleft = f.own.unleft; refused = λ e. absurd (f.own.unrefused e) }

-- inputs that go on
pub halted_fed : {R : Type 0} (remaining : R → Option (List ℕ)) (limit : InputLimit) (p : ScheduleValue) (h : List Event) (starts : List (Option (List ℕ))) (inputs : List (SerialInput R))
    → AreFed remaining p h starts inputs → AreLimited limit p inputs → AreHalted remaining limit p h starts inputs
halted_fed remaining limit p h starts inputs fed limited = record {
  count = fed.count;
  each = λ i x at. (let f = fed.each i x at in halted_one remaining p h i f.0 x f.2);
  limited = limited;
  fed = λ i x at. (let f = fed.each i x at in (f.0, f.1, has_fed remaining p h i f.0 x f.2));
}

halted_there : {R : Type 0} (p : ScheduleValue) (h : List Event) (i : ℕ) (x y : SerialInput R) → is_ready p i h ≡ false
    → ((y.inlet.report.stopped ≡ Some Memory) ⊎ (y.inlet.report.stopped ≡ x.inlet.report.stopped)) → IsHalted p h i x.inlet.report.stopped
    → IsHalted p h i y.inlet.report.stopped
halted_there p h i x y waits (inl memory) own = record { unleft = λ e. (let bad = sym memory ∙ e in cc); refused = λ e. waits }
halted_there p h i x y waits (inr same) own = (let P : Option Stop → Type 0 = IsHalted p h i in subst P (sym same) own)

-- input i goes on with its limit
pub all_limited : {R : Type 0} (limit : InputLimit) (p : ScheduleValue) (inputs : List (SerialInput R)) (i : ℕ) (x y : SerialInput R) → x ≡ get_or inputs i x → i < length inputs
    → y.inlet.stream.items.limit ≡ x.inlet.stream.items.limit → AreLimited limit p inputs → AreLimited limit p (set inputs i y)
all_limited limit p inputs i x y at within size all j input z named there =
    elim (cases_eq i j) [
      | inl same ↦
          (let here : slice_get inputs i ≡ Some x = slice_get-get_or inputs i x within ∙ ap Some (sym at) in
          let new : y ≡ z = same_Some y z (sym (set_here inputs i y within) ∙ ap (slice_get (set inputs i y)) same ∙ there) in
          ap (λ (v : SerialInput _). v.inlet.stream.items.limit) (sym new) ∙ size ∙ all i input x (ap (slice_get p.first.request.inputs) same ∙ named) here)
      | inr ne ↦ all j input z named (sym (set_there inputs i j y ne) ∙ there)
    ]

-- an input was looked at, and memory was refused for it, or nothing but its own fault stopped it
pub halted_looked : {R : Type 0} (remaining : R → Option (List ℕ)) (limit : InputLimit) (p : ScheduleValue) (h : List Event) (i : ℕ) (starts : List (Option (List ℕ))) (inputs : List (SerialInput R)) (x y : SerialInput R)
    → x ≡ get_or inputs i x → i < length inputs → is_ready p i h ≡ false → ((y.inlet.report.stopped ≡ Some Memory) ⊎ (y.inlet.report.stopped ≡ x.inlet.report.stopped)) → y.inlet.stream.items.limit ≡ x.inlet.stream.items.limit
    → AreFed remaining p h starts inputs → AreLimited limit p inputs → ((start : Option (List ℕ)) → Feeds remaining p h i start x → HasFed remaining p h i start y)
    → AreHalted remaining limit p h starts (set inputs i y)
halted_looked {R} remaining limit p h i starts inputs x y at within waits stop size fed limited given =
    let before = halted_fed remaining limit p h starts inputs fed limited in
    let here : slice_get inputs i ≡ Some x = slice_get-get_or inputs i x within ∙ ap Some (sym at) in
    let f = fed.each i x here in
    record {
      count = length-set inputs i y ∙ fed.count;
      each = λ j z there.
          elim (cases_eq i j) [
            | inl same ↦
                (let new : y ≡ z = same_Some y z (sym (set_here inputs i y within) ∙ ap (slice_get (set inputs i y)) same ∙ there) in
                let H : SerialInput R × ℕ → Type 0 = λ v. IsHalted p h v.1 v.0.inlet.report.stopped in
                subst H (λ k. (new k, same k)) (halted_there p h i x y waits stop (halted_one remaining p h i f.0 x f.2)))
            | inr ne ↦ before.each j z (sym (set_there inputs i j y ne) ∙ there)
          ];
      limited = all_limited limit p inputs i x y at within size limited;
      fed = λ j z there.
          elim (cases_eq i j) [
            | inl same ↦
                (let new : y ≡ z = same_Some y z (sym (set_here inputs i y within) ∙ ap (slice_get (set inputs i y)) same ∙ there) in
                let P : SerialInput R → Type 0 = λ v. HasFed remaining p h i f.0 v in
                let Q : ℕ → Type 0 = λ k. (start : Option (List ℕ)) × (slice_get starts k ≡ Some start) × HasFed remaining p h k start z in
                subst Q same (f.0, f.1, subst P new (given f.0 f.2)))
            | inr ne ↦ before.fed j z (sym (set_there inputs i j y ne) ∙ there)
          ];
    }

-- a run that goes on
pub halted_running : {R : Type 0} (remaining : R → Option (List ℕ)) (run : Run) (limit : InputLimit) (starts : List (Option (List ℕ))) (r : SerialRun R)
    → IsRunning remaining run limit starts r → AreHalted remaining limit run.schedule r.mux.events starts r.inputs.items
halted_running remaining run limit starts r is = halted_fed remaining limit run.schedule r.mux.events starts r.inputs.items is.fed is.limited

-- for no input of it memory was refused
pub unrefused_running : {R : Type 0} (remaining : R → Option (List ℕ)) (run : Run) (limit : InputLimit) (starts : List (Option (List ℕ))) (r : SerialRun R)
    → IsRunning remaining run limit starts r → AreUnrefused r.inputs.items
unrefused_running remaining run limit starts r is i x at = (is.fed.each i x at).2.own.unrefused

-- nor is it for an input that was looked at, where nothing stopped it then
pub unrefused_looked : {R : Type 0} (remaining : R → Option (List ℕ)) (p : ScheduleValue) (h : List Event) (i : ℕ) (starts : List (Option (List ℕ))) (inputs : List (SerialInput R)) (x y : SerialInput R)
    → x ≡ get_or inputs i x → i < length inputs → y.inlet.report.stopped ≡ x.inlet.report.stopped → AreFed remaining p h starts inputs → AreUnrefused (set inputs i y)
unrefused_looked {R} remaining p h i starts inputs x y at within same_stop fed j z there memory =
    elim (cases_eq i j) [
      | inl same ↦
          (let here : slice_get inputs i ≡ Some x = slice_get-get_or inputs i x within ∙ ap Some (sym at) in
          let new : y ≡ z = same_Some y z (sym (set_here inputs i y within) ∙ ap (slice_get (set inputs i y)) same ∙ there) in
          (fed.each i x here).2.own.unrefused (sym same_stop ∙ ap (λ (v : SerialInput R). v.inlet.report.stopped) new ∙ memory))
      | inr ne ↦ (fed.each j z (sym (set_there inputs i j y ne) ∙ there)).2.own.unrefused memory
    ]
