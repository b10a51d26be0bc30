-- A run that ended, and is answered as one that failed.
use Rattle.std.proofs.Common.{◌≡◌, ℕ, List, length, map, Option, Some, option_map, refl, ap, ◌∙◌, sym, subst, inl, arith}
use Rattle.std.specs.List.{slice_get, zip}
use Rattle.std.proofs.lemmas.List.{length-map}
use Rattle.std.proofs.lemmas.Simd.{map-map}
use Rattle.std.proofs.lemmas.Slice.Zip.{length-zip, firsts-zip, seconds-zip}
use Rattle.std.proofs.lemmas.Option.{slice_get-map}
use Rattle.mux.specs.History.{History, emitted}
use Rattle.reading.specs.declared.input_limit.InputLimit.{InputLimit}
use Rattle.reading.specs.declared.stop.Stop.{Stop}
use Rattle.outlet.specs.Sending.{bytes_of}
use Rattle.outlet.specs.declared.run_fault.RunFault.TheVariants as run_faults
use Rattle.outcome.specs.Giving.{TakesWhatCame}
use Rattle.outcome.specs.Outcome.{IsFailureTold, FailuresAreTold, HasRun, HasBroken}
use Rattle.outcome.specs.declared.summary.InputSummary.{InputSummary}
use Rattle.outcome.specs.declared.summary.Summary.{Summary}
use Rattle.outcome.proofs.ListLaws.{from_map}
use Rattle.outcome.proofs.WrittenLaws.{all_begun}
use Rattle.threaded.specs.Outcome.{HasBegun}
use Rattle.threaded.proofs.ListLaws.{firsts_at, seconds_at}

-- A run that ended may be answered as one that failed for want of memory: its readers come back, with what is told of their
-- inputs' stops.
pub begun_of_run : {R G : Type 0} (remaining : R → Option (List ℕ)) (failures : R → ℕ) (h : History) (limit : InputLimit) (readers : List R) (lent : List (R × G)) (before after : Option (List ℕ)) (s : Summary) (failed_before failed_after : ℕ)
    → length readers ≡ length h.run.schedule.first.request.inputs → length lent ≡ length readers → HasRun h limit (map remaining readers) (map (λ l. remaining l.0) lent) before after s
    → FailuresAreTold failures readers (map (λ l. l.0) lent) s.inputs.items → failed_after ≡ failed_before → HasBegun remaining failures h limit readers before after failed_before failed_after run_faults.Memory
begun_of_run {R} {G} remaining failures h limit readers lent before after s failed_before failed_after of_readers size run all_told unfailed =
    let p = h.run.schedule in
    let inputs = s.inputs.items in
    let reader_of : R × G → R = λ l. l.0 in
    let source_of : R × G → Option (List ℕ) = λ l. remaining l.0 in
    let stop_of : InputSummary → Option Stop = λ x. x.report.stopped in
    let source : R × Option Stop → Option (List ℕ) = λ left. remaining left.0 in
    let came = map reader_of lent in
    let stops = map stop_of inputs in
    let lefts : List (R × Option Stop) = zip came stops in
    let count : length stops ≡ length came = length-map inputs stop_of ∙ (run.summary.length_is ∙ (sym of_readers ∙ (sym size ∙ sym (length-map lent reader_of)))) in
    let sources : map source lefts ≡ map source_of lent =
    sym (map-map remaining (λ (left : R × Option Stop). left.0) lefts) ∙ (ap (map remaining) (firsts-zip came stops count) ∙ map-map remaining reader_of lent) in
    let told_stops : map (λ (left : R × Option Stop). left.1) lefts ≡ stops = seconds-zip came stops count in
    let broken : HasBroken TakesWhatCame remaining failures h limit readers before after run_faults.Memory = record {
      sound = run.sound;
      begun = run.begun;
      needed = run.needed;
      written = all_begun before after (bytes_of (emitted p h.events)) run.written;
      lefts = lefts;
      count = omega (arith, length-zip came stops, count, length-map lent reader_of, size);
      left = λ i input old left at from to.
          let here : slice_get came i ≡ Some left.0 = firsts_at came stops i left count to in
          let x = from_map stop_of inputs i left.1 (seconds_at came stops i left count to) in
          let l = from_map reader_of lent i left.0 here in
          let start_is = slice_get-map remaining readers i ∙ ap (option_map remaining) from in
          let left_is = slice_get-map source_of lent i ∙ ap (option_map source_of) l.1 ∙ ap (λ v. Some (remaining v)) l.2 in
          let on = run.read i input (remaining old) (remaining left.0) x.0 at start_is left_is x.1 in
          let is = run.summary.inputs i input (remaining old) x.0 at start_is x.1 in
          let T : Option Stop → Type 0 = λ v. IsFailureTold failures old left.0 v in
          record {
            bytes = on.bytes;
            read = on.read;
            begins = on.begins;
            told = subst T x.2 (all_told i x.0 old left.0 x.1 from here);
            too_much = λ e. on.too_much (x.2 ∙ e);
            within = λ other. on.within (λ e. other (sym x.2 ∙ e));
            unclosed = λ e. is.left (x.2 ∙ e);
          };
      faithful = λ known.
          let takes = run.faithful known in
          let all : TakesWhatCame p (map remaining readers) (map source_of lent) stops h.events = (takes.0, λ i. record { given = λ other. takes.1 i; begins = (takes.1 i).begins }, takes.2) in
          let T : List (Option (List ℕ)) × List (Option Stop) → Type 0 = λ v. TakesWhatCame p (map remaining readers) v.0 v.1 h.events in
          subst T (λ k. (sym sources k, sym told_stops k)) all;
      refused = λ i left to stopped. refl;
    } in
    record { run = broken; wanted = λ is. inl unfailed }
