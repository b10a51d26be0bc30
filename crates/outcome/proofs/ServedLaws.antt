-- What came of an input that a run read, and what was taken of it.
use Rattle.std.proofs.Common.{◌≡◌, ◌⊎◌, ℕ, ◌<◌, ◌≤◌, true, false, List, [], ◌++◌, length, Option, Some, None, refl, ap, ◌∙◌, sym, subst, inl, inr, append_assoc, arith}
use Rattle.std.specs.Option.{option_to_list}
use Rattle.std.specs.Io.KnownBytes.{Consumes, IsAtEnd}
use Rattle.std.proofs.KnownBytes.{Consumes-nil}
use Rattle.std.proofs.lemmas.Bool.{false≢true}
use Rattle.std.proofs.lemmas.List.{append-nil}
use Rattle.std.proofs.lemmas.Option.{none-some}
use Rattle.tspkt.specs.Framed.{framed}
use Rattle.tspkt.specs.declared.item.Item.{Item}
use Rattle.tspkt.specs.declared.stamped.Stamped.{Stamped}
use Rattle.request.specs.Request.{InputValue}
use Rattle.schedule.specs.Schedule.{ScheduleValue}
use Rattle.mux.specs.declared.event.Event.{Event}
use Rattle.mux.specs.History.{taken, is_closed}
use Rattle.mux.specs.Faithful.{IsPrefix}
use Rattle.mux.specs.Totals.{IsTotals}
use Rattle.reading.specs.Counting.{nothing_counted}
use Rattle.reading.specs.Takeable.{OriginValue, stride_at, origin_of, framed_at, takeable, CountsItems}
use Rattle.reading.specs.PacketReading.{BeginsTakeable, CountsTold}
use Rattle.reading.specs.StreamReading.{BeginsFramed}
use Rattle.reading.specs.declared.report.Report.{Report}
use Rattle.reading.specs.declared.stop.Stop.TheVariants.{Gate, ReadFailed, TooMuch, Memory}
use Rattle.inlets.specs.Notes.{NotesAreOfShown}
use Rattle.inlets.proofs.NoteLaws.{notes_none}
use Rattle.outcome.specs.Ending.{IsLast}
use Rattle.outcome.specs.Outcome.{HasEnded, IsCounted, IsInputSummary, IsReadOn}
use Rattle.outcome.specs.declared.summary.InputSummary.{InputSummary}
use Rattle.outcome.proofs.KnownLaws.{consumed, all_read, some_read, framed_all}
use Rattle.outcome.proofs.ReportLaws.{stop_stands, unstopped, stopped_before, gate_or_open, last_counts}

-- All of an input's bytes were read: all that can be taken of them came, and the report counts all of their framing.
pub record IsWhole (p : ScheduleValue) (o : OriginValue) (bytes : List ℕ) (left : Option (List ℕ)) (report : Report) (came : List Stamped) : Type 0 where
  pub came_is : came ≡ takeable p o (framed_at o bytes)
  pub counts : CountsItems p o (framed_at o bytes) report
  pub at_end : IsAtEnd left

-- Nothing of an input is on its way.
pub record IsShut (report : Report) (shown : Option Stamped) (rest behind : List Stamped) : Type 0 where
  pub unshown : shown ≡ None
  pub none_left : rest ≡ []
  pub none_behind : (report.stopped ≡ Some Memory → ⊥) → behind ≡ []

-- Of a source that had these bytes to give at first and has those left, and may have so many, some packets came, with this report.
-- The history took the first of them; one may be shown behind those, and the rest is on its way; and a few more may have been read, which
-- didn't come.
pub record IsServed (limit : ℕ) (p : ScheduleValue) (h : List Event) (i : ℕ) (o : OriginValue) (start left : Option (List ℕ)) (report : Report) : Type 0 where
  pub bytes : List ℕ
  pub read : Consumes start left bytes
  pub came : List Stamped
  pub begins : BeginsTakeable p o bytes came
  pub looked : List Item
  pub framing : BeginsFramed (stride_at o) bytes (IsAtEnd left) looked
  pub counts : CountsItems p o looked report
  pub behind : List Stamped
  pub looked_is : takeable p o looked ≡ came ++ behind
  pub shown : Option Stamped
  pub rest : List Stamped
  pub came_is : came ≡ (taken i h ++ option_to_list shown) ++ rest
  pub notes : NotesAreOfShown p i shown h
  pub shut : is_closed i h ≡ true → IsShut report shown rest behind
  pub unclosed : report.stopped ≡ Some Gate → is_closed i h ≡ false
  pub whole : is_closed i h ≡ true → report.stopped ≡ None → IsWhole p o bytes left report came
  pub failed : report.stopped ≡ Some ReadFailed → came ≡ takeable p o (framed_at o bytes)
  pub told : report.stopped ≡ Some ReadFailed → CountsTold p o bytes (IsAtEnd left) report
  pub too_much : report.stopped ≡ Some TooMuch → limit < length bytes
  pub within : (report.stopped ≡ Some TooMuch → ⊥) → length bytes ≤ limit

module _ (limit : ℕ) (p : ScheduleValue) (h : List Event) (i : ℕ) (o : OriginValue) (start left : Option (List ℕ)) (report : Report) (x : IsServed limit p h i o start left report) where
  -- of a closed input all that came was taken
  pub came_taken : is_closed i h ≡ true → x.came ≡ taken i h
  came_taken shut =
      let s = x.shut shut in
      let took = taken i h in
      x.came_is
      ∙ ap (λ (v : Option Stamped). (took ++ option_to_list v) ++ x.rest) s.unshown
      ∙ ap (λ (v : List Stamped). (took ++ []) ++ v) s.none_left
      ∙ append-nil (took ++ [])
      ∙ append-nil took

  -- what was taken of it begins what can be taken of the bytes that were read
  pub taken_begins : BeginsTakeable p o x.bytes (taken i h)
  taken_begins more =
      let took = taken i h in
      let behind = option_to_list x.shown ++ x.rest in
      let later = x.begins more in
      (behind ++ later.0, sym (append_assoc took behind later.0) ∙ (ap (λ v. v ++ later.0) (sym (x.came_is ∙ append_assoc took (option_to_list x.shown) x.rest)) ∙ later.1))

  pub taken_begun : (all : List ℕ) → start ≡ Some all → (later : List Stamped) × (taken i h ++ later ≡ takeable p o (framed_at o all))
  taken_begun all known =
      let more = consumed start left x.bytes all known x.read in
      let later = taken_begins more.0 in
      (later.0, later.1 ∙ ap (λ v. takeable p o (framed_at o v)) (sym more.1))

  -- what came of a source whose bytes are known begins what can be taken of them, and is all of it where nothing stopped it

  pub came_begins : (all : List ℕ) → start ≡ Some all → IsPrefix x.came (takeable p o (framed_at o all))
  came_begins all known =
      let more = consumed start left x.bytes all known x.read in
      let later = x.begins more.0 in
      (later.0, sym (later.1 ∙ ap (λ v. takeable p o (framed_at o v)) (sym more.1)))

  pub whole_came : (all : List ℕ) → start ≡ Some all → is_closed i h ≡ true → report.stopped ≡ None → x.came ≡ takeable p o (framed_at o all)
  whole_came all known shut e =
      let w = x.whole shut e in
      w.came_is ∙ ap (λ v. takeable p o (framed_at o v)) (sym (all_read start left x.bytes all known x.read w.at_end))

-- What is said of it at the run's end.
module _ (limit : ℕ) (p : ScheduleValue) (h : List Event) (i : ℕ) (input : InputValue) (start left : Option (List ℕ)) (report : Report) (s : InputSummary)
    (x : IsServed limit p h i (origin_of i input) start left report) (last : IsLast (is_closed i h) report s.report) where
  counted : (report.stopped ≡ Some Memory → ⊥) → (all : List ℕ) → start ≡ Some all → IsCounted p h i input all s
  counted had all known =
      let took = taken i h in
      let shown = option_to_list x.shown in
      let framing = framed_all (stride_at (origin_of i input)) start left x.bytes all x.looked known x.read x.framing in
      record {
        looked = x.looked;
        later = framing.0;
        framing = framing.1;
        counts = last_counts (is_closed i h) report s.report last p (origin_of i input) x.looked x.counts;
        on_their_way = (shown ++ x.rest) ++ x.behind;
        taken_is = x.looked_is ∙ ap (λ v. v ++ x.behind) (x.came_is ∙ append_assoc took shown x.rest) ∙ append_assoc took (shown ++ x.rest) x.behind;
        closed = λ shut.
            let b = x.shut shut in
            ap (λ (v : Option Stamped). (option_to_list v ++ x.rest) ++ x.behind) b.unshown ∙ ap (λ (v : List Stamped). v ++ x.behind) b.none_left ∙ b.none_behind had;
      }

  -- it was open, where it was left
  left_unclosed : (report.stopped ≡ Some Gate) ⊎ (is_closed i h ≡ false) → is_closed i h ≡ false
  left_unclosed (inl gate) = x.unclosed gate
  left_unclosed (inr opened) = opened

  ended : s.report.stopped ≡ None → (all : List ℕ) → start ≡ Some all → HasEnded limit p h i input all s
  ended e all known =
      let u = unstopped (is_closed i h) report s.report last e in
      let free : report.stopped ≡ None = ap (λ (r : Report). r.stopped) (sym u.1) ∙ e in
      let whole = x.whole u.0 free in
      let bytes = all_read start left x.bytes all known x.read whole.at_end in
      let fits = x.within (λ much. none-some TooMuch (sym free ∙ much)) in
      let C : List ℕ → Type 0 = λ v. CountsItems p (origin_of i input) (framed_at (origin_of i input) v) report in
      record {
        within = omega (arith, fits, ap length bytes);
        taken_is = sym (came_taken limit p h i (origin_of i input) start left report x u.0) ∙ whole_came limit p h i (origin_of i input) start left report x all known u.0 free;
        counts = last_counts (is_closed i h) report s.report last p (origin_of i input) (framed_at (origin_of i input) all) (subst C (sym bytes) whole.counts);
      }

  pub input_summary : (report.stopped ≡ Some Memory → ⊥) → IsTotals p i h s.totals → IsInputSummary limit p h i input start s
  input_summary had totals = record {
    totals = totals;
    closed = λ e. (unstopped (is_closed i h) report s.report last e).0;
    ended = ended;
    counted = counted had;
    left = λ e. left_unclosed (gate_or_open (is_closed i h) report s.report last e);
    unrefused = λ e.
        let same = stopped_before (is_closed i h) report s.report last Memory e (λ bad. cc) in
        had (ap (λ (r : Report). r.stopped) (sym same) ∙ e);
    too_much = λ e all known.
        let same = stopped_before (is_closed i h) report s.report last TooMuch e (λ bad. cc) in
        let much = x.too_much (ap (λ (r : Report). r.stopped) (sym same) ∙ e) in
        let some = some_read start left x.bytes all known x.read in
        omega (arith, much, some);
  }

  pub read_on : IsReadOn limit p h i input start left s
  read_on = record {
    bytes = x.bytes;
    read = x.read;
    begins = taken_begins limit p h i (origin_of i input) start left report x;
    ended = λ e. (let u = unstopped (is_closed i h) report s.report last e in (x.whole u.0 (ap (λ (r : Report). r.stopped) (sym u.1) ∙ e)).at_end);
    too_much = λ e.
        let same = stopped_before (is_closed i h) report s.report last TooMuch e (λ bad. cc) in
        x.too_much (ap (λ (r : Report). r.stopped) (sym same) ∙ e);
    within = λ other. x.within (λ e. other (stop_stands (is_closed i h) report s.report last TooMuch e));
    told = λ e.
        let same = stopped_before (is_closed i h) report s.report last ReadFailed e (λ bad. cc) in
        let told = x.told (ap (λ (r : Report). r.stopped) (sym same) ∙ e) in
        record { told = told.told; begun = told.begun; packets = told.packets; all = told.all; counts = last_counts (is_closed i h) report s.report last p (origin_of i input) told.told told.counts };
    failed = λ e shut.
        let same = stopped_before (is_closed i h) report s.report last ReadFailed e (λ bad. cc) in
        sym (came_taken limit p h i (origin_of i input) start left report x shut) ∙ x.failed (ap (λ (r : Report). r.stopped) (sym same) ∙ e);
  }

-- An input of which nothing was read.
pub served_nothing : (limit : ℕ) (p : ScheduleValue) (i : ℕ) (o : OriginValue) (start : Option (List ℕ)) → IsServed limit p [] i o start start nothing_counted
served_nothing limit p i o start = record {
  bytes = [];
  read = Consumes-nil start;
  came = [];
  begins = λ more. (takeable p o (framed_at o more), refl);
  looked = [];
  framing = λ more end. (framed (stride_at o) more, refl);
  counts = record { framed = refl; malformed = refl; unmapped = refl; bad = refl; losses = refl; lost = refl };
  behind = [];
  looked_is = refl;
  shown = None;
  rest = [];
  came_is = refl;
  notes = notes_none p i [];
  shut = λ shut. absurd (false≢true shut);
  unclosed = λ e. refl;
  whole = λ shut. absurd (false≢true shut);
  failed = λ e. absurd (none-some ReadFailed e);
  told = λ e. absurd (none-some ReadFailed e);
  too_much = λ e. absurd (none-some TooMuch e);
  within = λ other. omega arith;
}
