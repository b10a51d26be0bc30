-- What a run does, one step behind another.
use Rattle.std.proofs.Common.{ℕ, ◌<◌, ◌≡◌, Bool, false, List, [], ◌∷◌, ◌++◌, length, Option, Err, refl, ap, ◌∙◌, sym, subst}
use Rattle.std.specs.Prelude.{Result, Ok, OnOk, OnErr}
use Rattle.std.specs.Io.KnownBytes.{Appends}
use Rattle.std.proofs.lemmas.List.{append-nil}
use Rattle.std.proofs.lemmas.Result.{on_ok_weaker}
use Rattle.mux.specs.History.{Run, History, emitted}
use Rattle.mux.specs.declared.slot.Slot.TheVariants.{Sent}
use Rattle.mux.specs.Answers.{SlotAnswers}
use Rattle.reading.specs.Failures.{FailsOnce}
use Rattle.reading.specs.declared.input_limit.InputLimit.{InputLimit}
use Rattle.outlet.specs.Written.{Sends, SendsBeginning}
use Rattle.outlet.specs.Sending.{bytes_of, HasAnalysed}
use Rattle.outlet.specs.declared.run_fault.RunFault.{RunFault}
use Rattle.outlet.specs.declared.run_fault.RunFault.TheVariants.{Memory, Write}
use Rattle.outlet.specs.declared.slot_writer.SlotWriter.{SlotWriter}
use Rattle.outlet.proofs.SendingLaws.{on_err_always, on_ok_always, on_err_weaker, same_err}
use Rattle.outcome.proofs.ResultLaws.{ok_no_err, not_ok, not_memory, is_failed, is_fine}
use Rattle.outcome.proofs.WrittenLaws.{all_sent, part_sent}
use Rattle.serial.specs.Feeding.{SerialInput, AreUnrefused, AllTellFailures}
use Rattle.serial.specs.Running.{IsRunning, AreHalted, HasWritten, GoesOn}
use Rattle.serial.specs.declared.serial_run.SerialRun.{SerialRun}
use Rattle.serial.proofs.HaltedLaws.{halted_fed, halted_running, unrefused_running}
use Rattle.serial.proofs.RunningLaws.{fed_sent, needed_sent, runs_flushed, runs_sent, written_sent, sent_begun}
use Rattle.serial.proofs.StepLaws.{GoesUnsent, IsAtEnd, runs_unsent, written_unsent, runs_over}

-- what is answered where the run isn't over
abbrev pub fine : Result Bool RunFault
fine = Ok false

module _ {R W : Type 0} (remaining : R → Option (List ℕ)) (failures : R → ℕ) (contents : W → Option (List ℕ)) (failed : W → ℕ) where
  abbrev Goes : {T : Type 0} → SerialRun R → W → Result T RunFault → SerialRun R → W → Type 0
  Goes = GoesOn remaining failures contents failed

  -- without a fault
  goes_well : {T : Type 0} (a b : SerialRun R) (before after : W) (x : T) → b.mux.run ≡ a.mux.run → ((befores : List ℕ) → AllTellFailures failures befores a.inputs.items → AllTellFailures failures befores b.inputs.items)
      → ((run : Run) (limit : InputLimit) (starts : List (Option (List ℕ))) → IsRunning remaining run limit starts a → IsRunning remaining run limit starts b)
      → ((first : Option (List ℕ)) → HasWritten first (contents before) a → HasWritten first (contents after) b) → failed after ≡ failed before → (let r : Result T RunFault = Ok x in Goes a before r b after)
  goes_well a b before after x run told runs written unfailed = record {
    run = run;
    told = told;
    runs = runs;
    written = written;
    unfailed = unfailed;
    halted = tt;
    begun = tt;
    unrefused = λ e. absurd (ok_no_err x Write e);
    memory = λ e. absurd (ok_no_err x Memory e);
    write_failed = λ e. absurd (ok_no_err x Write e);
  }

  pub goes_nowhere : (a : SerialRun R) (s : W) → Goes a s fine a s
  goes_nowhere a s = goes_well a a s s false refl (λ befores all. all) (λ run limit starts is. is) (λ first had. had) refl

  pub goes_then : {T : Type 0} (a b d : SerialRun R) (before mid after : W) (r : Result T RunFault) → Goes a before fine b mid → Goes b mid r d after → Goes a before r d after
  goes_then a b d before mid after r first second = record {
    run = second.run ∙ first.run;
    told = λ befores all. second.told befores (first.told befores all);
    runs = on_ok_weaker r (λ goes run limit starts is. goes run limit starts (first.runs run limit starts is)) second.runs;
    written = on_ok_weaker r (λ goes begin had. goes begin (first.written begin had)) second.written;
    unfailed = on_ok_weaker r (λ same. same ∙ first.unfailed) second.unfailed;
    halted = on_err_weaker r (λ halts run limit starts is. halts run limit starts (first.runs run limit starts is)) second.halted;
    begun = on_err_weaker r (λ part begin had. part begin (first.written begin had)) second.begun;
    unrefused = second.unrefused;
    memory = λ e. second.memory e ∙ first.unfailed;
    write_failed = λ e. subst (λ n. FailsOnce n (failed after)) first.unfailed (second.write_failed e);
  }

  -- the same answered otherwise

  pub goes_fine : {T : Type 0} (a b : SerialRun R) (before after : W) (r : Result T RunFault) (x : T) → r ≡ Ok x → Goes a before r b after → Goes a before fine b after
  goes_fine a b before after r x is g = goes_well a b before after false g.run g.told (is_fine r x is g.runs) (is_fine r x is g.written) (is_fine r x is g.unfailed)

  pub goes_failed : {T S : Type 0} (a b : SerialRun R) (before after : W) (r : Result T RunFault) (s : Result S RunFault) (fault : RunFault) → r ≡ Err fault → s ≡ Err fault → Goes a before r b after → Goes a before s b after
  goes_failed a b before after r s fault was is g = record {
    run = g.run;
    told = g.told;
    runs = not_ok _ s fault is;
    written = not_ok _ s fault is;
    unfailed = not_ok _ s fault is;
    halted = on_err_always s (is_failed r fault was g.halted);
    begun = on_err_always s (is_failed r fault was g.begun);
    unrefused = λ e. g.unrefused (was ∙ ap Err (same_err s fault Write is e));
    memory = λ e. g.memory (was ∙ ap Err (same_err s fault Memory is e));
    write_failed = λ e. g.write_failed (was ∙ ap Err (same_err s fault Write is e));
  }

  -- no slot was sent
  pub goes_unsent : {T : Type 0} (a b : SerialRun R) (before after : W) (x : T) → GoesUnsent remaining failures a.mux b.mux a.inputs.items b.inputs.items → (0 < length a.piece.items → 0 < length b.piece.items)
      → b.output ≡ record a.output { writer = b.output.writer } → Sends (contents before) (contents after) a.output.writer b.output.writer → failed after ≡ failed before
      → (let r : Result T RunFault = Ok x in Goes a before r b after)
  goes_unsent a b before after x u piece output written unfailed =
      let out : emitted b.mux.run.schedule b.mux.events ≡ emitted a.mux.run.schedule a.mux.events = ap (λ (r : Run). emitted r.schedule b.mux.events) u.run ∙ u.out in
      goes_well a b before after x u.run u.tell (λ run limit starts is. runs_unsent remaining failures run limit starts a b is u (piece is.piece) output)
      (λ first had. written_unsent (emitted a.mux.run.schedule a.mux.events) (emitted b.mux.run.schedule b.mux.events) first (contents before) (contents after) a.output.writer b.output.writer out had written) unfailed

  -- a slot was sent, and its packet went out

  pub goes_sent : {T : Type 0} (a b : SerialRun R) (packet : List ℕ) (before after : W) (x : T) → SlotAnswers a.mux (Sent packet) b.mux → b.mux.run ≡ a.mux.run → b.inputs.items ≡ a.inputs.items → b.piece.items ≡ a.piece.items
      → ((rate period : ℕ) (slots : List (List ℕ)) → HasAnalysed a.output rate period slots → HasAnalysed b.output rate period (slots ++ packet ∷ []))
      → Sends (contents before) (contents after) (a.output.writer ++ packet) b.output.writer → failed after ≡ failed before → (let r : Result T RunFault = Ok x in Goes a before r b after)
  goes_sent a b packet before after x answer same inputs piece analysed written unfailed =
      let L : List ℕ → Type 0 = λ v. 0 < length v in
      let T : List (SerialInput R) → Type 0 = λ v. (befores : List ℕ) → AllTellFailures failures befores a.inputs.items → AllTellFailures failures befores v in
      let S : Run → Type 0 = λ v. (first : Option (List ℕ)) → HasWritten first (contents before) a → Sends first (contents after) (bytes_of (emitted v.schedule b.mux.events)) b.output.writer in
      goes_well a b before after x same (subst T (sym inputs) (λ befores all. all)) (λ run limit starts is. runs_sent remaining run limit starts a b packet is answer same inputs (subst L (sym piece) is.piece) analysed)
      (subst S (sym same) (λ first had. written_sent a.mux.run.schedule a.mux b.mux packet first (contents before) (contents after) a.output.writer b.output.writer refl answer had written)) unfailed

  -- or a beginning of it did
  pub goes_part_sent : {T S : Type 0} (a b : SerialRun R) (packet : List ℕ) (before after : W) (r : Result T RunFault) (s : Result S RunFault) (fault : RunFault) → r ≡ Err fault → s ≡ Err fault
      → SlotAnswers a.mux (Sent packet) b.mux → b.mux.run ≡ a.mux.run → b.inputs.items ≡ a.inputs.items → ((run : Run) × (limit : InputLimit) × (starts : List (Option (List ℕ))) × IsRunning remaining run limit starts a)
      → SendsBeginning (contents before) (contents after) (a.output.writer ++ packet) → (r ≡ Err Memory → failed after ≡ failed before) → (r ≡ Err Write → FailsOnce (failed before) (failed after)) → Goes a before s b after
  goes_part_sent a b packet before after r s fault was is answer same inputs goes part memory write =
      let T : List (SerialInput R) → Type 0 = λ v. (befores : List ℕ) → AllTellFailures failures befores a.inputs.items → AllTellFailures failures befores v in
      let U : List (SerialInput R) → Type 0 = AreUnrefused in
      let S : Run → Type 0 = λ v. (first : Option (List ℕ)) → HasWritten first (contents before) a → SendsBeginning first (contents after) (bytes_of (emitted v.schedule b.mux.events)) in
      record {
        run = same;
        told = subst T (sym inputs) (λ befores all. all);
        runs = not_ok _ s fault is;
        written = not_ok _ s fault is;
        unfailed = not_ok _ s fault is;
        halted = on_err_always s
            (λ run limit starts is.
            let H : List (SerialInput R) → Type 0 = AreHalted remaining limit run.schedule b.mux.events starts in (
              subst H (sym inputs) (halted_fed remaining limit run.schedule b.mux.events starts a.inputs.items (fed_sent remaining run.schedule a.mux b.mux packet starts a.inputs.items answer is.fed) is.limited),
              needed_sent run a.mux b.mux packet answer is.needed,
            ));
        begun = on_err_always s (subst S (sym same) (λ first had. sent_begun a.mux.run.schedule a.mux b.mux packet first (contents before) (contents after) a.output.writer refl answer had part));
        unrefused = λ e. subst U (sym inputs) (unrefused_running remaining goes.0 goes.1 goes.2 a goes.3);
        memory = λ e. memory (was ∙ ap Err (same_err s fault Memory is e));
        write_failed = λ e. write (was ∙ ap Err (same_err s fault Write is e));
      }

  -- what waits is written at the end
  pub goes_flushed : {T : Type 0} (a : SerialRun R) (output : SlotWriter) (before after : W) (r : Result T RunFault) → ((run : Run) × (limit : InputLimit) × (starts : List (Option (List ℕ))) × IsRunning remaining run limit starts a)
      → output ≡ record a.output { writer = [] } → OnOk r (Appends (contents before) (contents after) a.output.writer) → OnErr r (SendsBeginning (contents before) (contents after) a.output.writer) → OnOk r (failed after ≡ failed before)
      → OnErr r ((r ≡ Err Write) × FailsOnce (failed before) (failed after)) → Goes a before r (record a { output = output }) after
  goes_flushed a output before after r goes same appended part unfailed wrote =
      let given = bytes_of (emitted a.mux.run.schedule a.mux.events) in
      let empty : output.writer ≡ [] = ap (λ (v : SlotWriter). v.writer) same in
      record {
        run = refl;
        told = λ befores all. all;
        runs = on_ok_always r (λ run limit starts is. runs_flushed remaining run limit starts a output is same);
        written = on_ok_weaker r
            (λ all first had.
            let E : List ℕ → Type 0 = λ v. Sends first (contents after) given v in
            subst E (sym empty) (given, all_sent first (contents before) (contents after) given a.output.writer had all, sym (append-nil given))) appended;
        unfailed = unfailed;
        halted = on_err_always r (λ run limit starts is. (halted_running remaining run limit starts a is, is.needed));
        begun = on_err_weaker r (λ some first had. part_sent first (contents before) (contents after) given a.output.writer had some) part;
        unrefused = λ e. unrefused_running remaining goes.0 goes.1 goes.2 a goes.3;
        memory = λ e. absurd (not_memory r e (is_failed r Memory e wrote).0);
        write_failed = λ e. (is_failed r Write e wrote).1;
      }

  -- nothing is left to send
  pub goes_over : {T : Type 0} (a b : SerialRun R) (before : W) (x : T) → IsAtEnd a.mux b.mux a.inputs.items b.inputs.items → b.piece.items ≡ a.piece.items → b.output ≡ a.output → (let r : Result T RunFault = Ok x in Goes a before r b before)
  goes_over a b before x end piece output =
      let T : List (SerialInput R) → Type 0 = λ v. (befores : List ℕ) → AllTellFailures failures befores a.inputs.items → AllTellFailures failures befores v in
      let S : History × SlotWriter → Type 0 = λ v. (first : Option (List ℕ)) → HasWritten first (contents before) a → Sends first (contents before) (bytes_of (emitted v.0.run.schedule v.0.events)) v.1.writer in
      goes_well a b before before x (ap (λ (v : History). v.run) end.history) (subst T (sym end.inputs) (λ befores all. all)) (λ run limit starts is. runs_over remaining run limit starts a b is end piece output)
      (subst S (λ k. (sym end.history k, sym output k)) (λ first had. had)) refl
