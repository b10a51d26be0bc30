-- The inputs of a run before anything is read.
use Rattle.std.proofs.Common.{ℕ, ◌<◌, ◌≤◌, ◌≡◌, List, [], ◌∷◌, ◌++◌, length, map, Option, Some, false, refl, ap, ◌∙◌, sym, subst, arith, inl, inr}
use Rattle.std.specs.List.{slice_get}
use Rattle.std.proofs.lemmas.List.{length-append}
use Rattle.std.proofs.lemmas.Option.{same_Some, slice_get_within, slice_get_cases, slice_get-map}
use Rattle.std.specs.Option.{option_map, option_to_list}
use Rattle.std.specs.Io.KnownBytes.{Consumes}
use Rattle.std.proofs.KnownBytes.{Consumes-nil}
use Rattle.request.specs.Request.{InputValue, IsInput, input_value}
use Rattle.request.specs.declared.input.Input.{Input}
use Rattle.schedule.specs.Schedule.{ScheduleValue}
use Rattle.reading.specs.Counting.{nothing_counted}
use Rattle.reading.specs.Takeable.{stride_at, origin_of}
use Rattle.reading.specs.InputLimit.{limit_of_input}
use Rattle.reading.specs.PacketReading.{HasRead}
use Rattle.reading.specs.PacketReading.{TellsFailures}
use Rattle.reading.specs.Holding.{PacketReader}
use Rattle.reading.specs.declared.input_limit.InputLimit.{InputLimit}
use Rattle.reading.proofs.PacketLaws.{looked_framed}
use Rattle.tspkt.specs.Framed.{framed, framed_from}
use Rattle.tspkt.specs.declared.framer.TheConstants.{MAX_LIMIT}
use Rattle.mux.specs.declared.event.Event.{Event}
use Rattle.mux.specs.History.{History, opened, emitted}
use Rattle.serial.specs.Feeding.{SerialInput, AreLimited, AllTellFailures}
use Rattle.inlets.proofs.NoteLaws.{notes_none}
use Rattle.outlet.specs.Sending.{HasAnalysed}
use Rattle.serial.specs.Opening.{IsOpened, AreOpened}
use Rattle.outcome.specs.Taking.{TakesAsNeeded}
use Rattle.outcome.proofs.ListLaws.{push_cases, from_map}
use Rattle.serial.specs.Running.{AreFed, IsRunning}
use Rattle.serial.specs.declared.serial_run.SerialRun.{SerialRun}

pub opened_push : {R : Type 0} (remaining : R → Option (List ℕ)) (failures : R → ℕ) (limit : InputLimit) (p : ScheduleValue) (readers : List R) (inputs : List (SerialInput R)) (reader : R) (x : SerialInput R)
    → AreOpened remaining failures limit p readers inputs → IsOpened remaining failures limit p (length inputs) reader x
    → AreOpened remaining failures limit p (readers ++ reader ∷ []) (inputs ++ x ∷ [])
opened_push {R} remaining failures limit p readers inputs reader x are is = record {
  count = omega (arith, are.count, length-append readers (reader ∷ []), length-append inputs (x ∷ []));
  each = λ i r y atr aty.
      elim (push_cases inputs x i y aty) [
        | inl there ↦ elim (push_cases readers reader i r atr) [
          | inl here ↦ are.each i r y here there
          | inr end ↦ absurd (omega (arith, slice_get_within inputs i y there, end.0, are.count))
        ]
        | inr last ↦ elim (push_cases readers reader i r atr) [
          | inl here ↦ absurd (omega (arith, slice_get_within readers i r here, last.0, are.count))
          | inr end ↦
              (let P : ℕ → Type 0 = λ n. IsOpened remaining failures limit p n r y in
              let Q : R → Type 0 = λ v. IsOpened remaining failures limit p (length inputs) v y in
              let S : SerialInput R → Type 0 = λ v. IsOpened remaining failures limit p (length inputs) reader v in
              subst P (sym last.0) (subst Q (sym end.1) (subst S (sym last.1) is)))
        ]
      ];
}

pub fed_of_opened : {R : Type 0} (remaining : R → Option (List ℕ)) (failures : R → ℕ) (limit : InputLimit) (p : ScheduleValue) (readers : List R) (inputs : List (SerialInput R)) → length readers ≡ length p.first.request.inputs
    → AreOpened remaining failures limit p readers inputs → AreFed remaining p [] (map remaining readers) inputs
fed_of_opened remaining failures limit p readers inputs count are = record {
  count = are.count ∙ count;
  each = λ i x at.
      elim (slice_get_cases readers i).1 [
        | inl found ↦ (remaining found.0, slice_get-map remaining readers i ∙ ap (option_map remaining) found.2, (are.each i found.0 x found.2 at).feeds)
        | inr past ↦ absurd (omega (arith, slice_get_within inputs i x at, past.0, are.count))
      ];
}

pub told_of_opened : {R : Type 0} (remaining : R → Option (List ℕ)) (failures : R → ℕ) (limit : InputLimit) (p : ScheduleValue) (readers : List R) (inputs : List (SerialInput R))
    → AreOpened remaining failures limit p readers inputs → AllTellFailures failures (map failures readers) inputs
told_of_opened remaining failures limit p readers inputs are i x before at from =
    let r = from_map failures readers i before from in
    let P : ℕ → Type 0 = λ n. TellsFailures failures n x.inlet in
    subst P r.2 ((are.each i r.0 x r.1 at).told)

pub limited_of_opened : {R : Type 0} (remaining : R → Option (List ℕ)) (failures : R → ℕ) (limit : InputLimit) (p : ScheduleValue) (readers : List R) (inputs : List (SerialInput R))
    → AreOpened remaining failures limit p readers inputs → AreLimited limit p inputs
limited_of_opened remaining failures limit p readers inputs are i input x named at =
    elim (slice_get_cases readers i).1 [
      | inl found ↦ (are.each i found.0 x found.2 at).limited input named
      | inr past ↦ absurd (omega (arith, slice_get_within inputs i x at, past.0, are.count))
    ]

-- an input of a schedule, as its number and its parts give it
pub input_at : (p : ScheduleValue) (inputs : List Input) (i : ℕ) (x : Input) → map input_value inputs ≡ p.first.request.inputs → slice_get inputs i ≡ Some x
    → slice_get p.first.request.inputs i ≡ Some (input_value x)
input_at p inputs i x same at =
    let P : List InputValue → Type 0 = λ v. slice_get v i ≡ Some (input_value x) in
    subst P same (slice_get-map input_value inputs i ∙ ap (option_map input_value) at)

append_none : {X : Type 0} (xs ys : List X) → xs ++ ys ≡ [] → xs ≡ []
append_none [] ys e = refl
append_none (x ∷ xs) ys e = cc

framed_none : (stride : ℕ) → framed stride [] ≡ []
unfolding framed_from
framed_none stride = refl

-- of an input of which nothing was read nothing was looked at
nothing_looked : {R : Type 0} (remaining : R → Option (List ℕ)) (p : ScheduleValue) (x : PacketReader R) (h : HasRead remaining p x [] []) → h.0 ≡ []
nothing_looked remaining p x h =
    let b = looked_framed remaining p x [] [] h [] (λ end. refl) in
    append_none h.0 b.0 (b.1 ∙ framed_none (stride_at x.origin))

pub opened_input : {R : Type 0} (remaining : R → Option (List ℕ)) (failures : R → ℕ) (limit : InputLimit) (p : ScheduleValue) (i : ℕ) (input : InputValue) (reader : R) (x : SerialInput R)
    → slice_get p.first.request.inputs i ≡ Some input → IsInput input → x.inlet.origin ≡ origin_of i input → limit_of_input limit input.size ≤ MAX_LIMIT → x.inlet.stream.items.limit ≡ limit_of_input limit input.size → x.inlet.stream.source ≡ reader
    → x.inlet.report ≡ nothing_counted → x.is_closed ≡ false → HasRead remaining p x.inlet [] [] → TellsFailures failures (failures reader) x.inlet → IsOpened remaining failures limit p i reader x
opened_input {R} remaining failures limit p i input reader x at is origin most size source report opened read tells =
    let C : R → Type 0 = λ v. Consumes (remaining reader) (remaining v) [] in
    record {
      feeds = record {
        given = record {
          origin = (input, at, is, origin);
          limit = omega (arith, most, size);
          read = ([], subst C (sym source) (Consumes-nil (remaining reader)), read);
        };
        closed = opened;
        over = λ e. (let bad = sym opened ∙ e in cc);
        own = record { unleft = λ e. (let bad = sym (ap (λ v. v.stopped) report) ∙ e in cc); unrefused = λ e. (let bad = sym (ap (λ v. v.stopped) report) ∙ e in cc) };
        stands = λ e. inl (nothing_looked remaining p x.inlet read);
        notes = notes_none p i (option_to_list x.inlet.held);
      };
      limited = λ other there. size ∙ ap (λ (v : InputValue). limit_of_input limit v.size) (same_Some input other (sym at ∙ there));
      told = tells;
    }

-- a run of which nothing was read or sent
pub runs_opened : {R : Type 0} (remaining : R → Option (List ℕ)) (failures : R → ℕ) (limit : InputLimit) (p : ScheduleValue) (slots : ℕ) (readers : List R) (r : SerialRun R)
    → r.mux ≡ opened p slots → length readers ≡ length p.first.request.inputs → AreOpened remaining failures limit p readers r.inputs.items → 0 < length r.piece.items
    → HasAnalysed r.output p.first.request.rate p.first.request.watch [] → IsRunning remaining (record { schedule = p; limit = slots }) limit (map remaining readers) r
runs_opened remaining failures limit p slots readers r mux count are piece analysed =
    let none : [] ≡ r.mux.events = sym (ap (λ (v : History). v.events) mux) in
    let F : List Event → Type 0 = λ h. AreFed remaining p h (map remaining readers) r.inputs.items in
    let H : List Event → Type 0 = λ h. HasAnalysed r.output p.first.request.rate p.first.request.watch (emitted p h) in
    record {
      run_is = ap (λ (v : History). v.run) mux;
      fed = subst F none (fed_of_opened remaining failures limit p readers r.inputs.items count are);
      limited = limited_of_opened remaining failures limit p readers r.inputs.items are;
      piece = piece;
      needed = subst (TakesAsNeeded (record { schedule = p; limit = slots })) none tt;
      analysed = subst H none analysed;
    }
