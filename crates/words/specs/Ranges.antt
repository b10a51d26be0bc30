-- What a command line may ask for (profile).
use Rattle.std.specs.Prelude.{ℕ, ◌≤◌, IfSome, length}
use Rattle.std.specs.List.{All as Each}
use Rattle.words.specs.declared.analysis.Analysis.{Analysis}
use Rattle.words.specs.declared.command.Command.{Command}
use Rattle.words.specs.declared.command.Command.TheVariants.{Run, Check, Analyse, Probe}
use Rattle.words.specs.declared.run_length.RunLength.{RunLength}
use Rattle.words.specs.declared.run_length.RunLength.TheVariants.{Slots, All}

-- the number is in its range
pub record IsWithin (least most number : ℕ) : Type 0 where
  pub from : least ≤ number
  pub to : number ≤ most

-- how many slots a run may have: those that it is given, 1 to 1,000,000, or 2^40 where it goes on until its inputs end
abbrev pub IsAllowedLength : RunLength → Type 0
IsAllowedLength (Slots slots) = IsWithin 1 1000000 slots
IsAllowedLength All = Unit {0}

abbrev pub most_slots_of : RunLength → ℕ
most_slots_of (Slots slots) = slots
most_slots_of All = 1099511627776

-- a later plan comes into force at a slot from 1 to 999,999
abbrev pub IsAllowedSwitch : {N : Type 0} → ℕ × N → Type 0
IsAllowedSwitch later = IsWithin 1 999999 later.0

-- a PID, and a leak rate in bits a second
abbrev pub IsAllowedLeak : ℕ × ℕ → Type 0
IsAllowedLeak leak = IsWithin 0 8191 leak.0 × IsWithin 1 100000000 leak.1

-- a rate in bits a second, a period in slots, how many faults have a line, and leak rates
abbrev pub IsAllowedAnalysis : Analysis → Type 0
IsAllowedAnalysis asked =
    IsWithin 500000 100000000 asked.rate × IsWithin 1 1000000 asked.period × IfSome asked.limit (IsWithin 0 1000000)
    × Each IsAllowedLeak asked.leaks.items

-- the numbers of a command are in their ranges: slots of a run, those of its switches, and the seconds between its reports, a rate in
-- bits a second, a period in slots, how many faults are shown, and how many files are probed
abbrev pub IsAllowed : Command → Type 0
IsAllowed (Run plan later out length serial delays strict report progress graph json) =
    Each IsAllowedSwitch later.items × IsAllowedLength length × IfSome report (IsWithin 1 3600)
IsAllowed (Check plan later strict json) = Each IsAllowedSwitch later.items
IsAllowed (Analyse asked) = IsAllowedAnalysis asked
IsAllowed (Probe files plan json) = IsWithin 1 8 (length files.items)
