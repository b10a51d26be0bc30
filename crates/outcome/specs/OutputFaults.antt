-- What the analyser tells of what a multiplex sends (profile). The kinds of faults are those of ETSI TR 101 290, 5.2.1, and
-- the counter rule is that of ISO/IEC 13818-1, 2.4.3.3.
use Rattle.std.specs.Prelude.{ℕ, List, map}
use Rattle.request.specs.declared.stream.Stream.{Stream}
use Rattle.schedule.specs.Streams.{all_streams}
use Rattle.mux.specs.History.{History, taken_for, emitted}
use Rattle.mux.specs.Headline.{IsSound}
use Rattle.analyse.specs.declared.fault.Fault.{Fault}
use Rattle.analyse.specs.Faults.{faults}
use Rattle.output_faults.specs.ToldFaults.{TellsNoSyncFault, TellsNoTableFault, CounterFaultsAreAsTaken}

-- the packets that were taken for a stream, oldest first
abbrev pub packets_taken_for : History → Stream → List (List ℕ)
packets_taken_for h st = map (λ item. item.packet) (taken_for h.run.schedule st h.events)

-- what an analyser at the schedule's rate tells of what went out, with this period of slots for the PIDs that a PMT refers to
abbrev pub told_of : History → ℕ → List Fault
told_of h period = faults h.run.schedule.first.request.rate period (emitted h.run.schedule h.events)

-- Among these faults is none of sync and none of a table, and a wrong counter only where a wrong one was taken.
pub record TellsOnlyWhatWasTaken (h : History) (told : List Fault) : Type 0 where
  -- sync isn't lost, and no sync byte is wrong (1.1, 1.2)
  pub sync : TellsNoSyncFault told
  -- neither the PAT nor a PMT is missing or scrambled (1.3.a, 1.5.a)
  pub tables : TellsNoTableFault told
  -- a counter is wrong (1.4) at exactly the slots that carry what was taken and isn't lawful
  pub counters : CounterFaultsAreAsTaken (all_streams h.run.schedule) (packets_taken_for h) (emitted h.run.schedule h.events) told

-- The faults that the analyser tells of what a multiplex sends are such, whichever period it is given. PID_error (1.6) isn't spoken of:
-- where an input pauses, it is told.
abbrev pub AnalyserTellsOnlyWhatWasTaken : Type 0
AnalyserTellsOnlyWhatWasTaken = (h : History) (period : ℕ) → IsSound h → TellsOnlyWhatWasTaken h (told_of h period)
