-- What an analyser knows of the slots that were pushed.
use Rattle.std.specs.Prelude.{◌≡◌, ℕ, Bool, false, List, [], ◌∷◌, ◌++◌, length, Option, Some, None}
use Rattle.analyse.specs.Faults.{faults, faults_at}
use Rattle.analyse.specs.StreamWatching.{StreamState, HaveSeenStream}
use Rattle.analyse.specs.declared.fault.Fault.{Fault}

-- what it was made with, the watches from the first slot on, and whether a push was refused
pub record AnalyserState : Type 0 where
  pub rate : ℕ
  pub period : ℕ
  pub watch : Option StreamState
  pub is_refused : Bool

abbrev pub IsWatching : ℕ → ℕ → Option StreamState → List (List ℕ) → Type 0
IsWatching rate period None slots = slots ≡ []
IsWatching rate period (Some w) slots = HaveSeenStream rate period w slots

-- these slots were pushed, and no push was refused
pub record HasAccepted (w : AnalyserState) (slots : List (List ℕ)) : Type 0 where
  pub accepted : w.is_refused ≡ false
  pub watch : IsWatching w.rate w.period w.watch slots

-- ---- the next slot

-- the watches see it behind those before it
abbrev pub WatchesSlot : ℕ → ℕ → Option StreamState → List ℕ → Option StreamState → Type 0
WatchesSlot rate period old slot new = (slots : List (List ℕ)) → IsWatching rate period old slots → IsWatching rate period new (slots ++ slot ∷ [])

-- and what they tell of it stands behind the faults that were there
abbrev pub WatchesTell : ℕ → ℕ → Option StreamState → List ℕ → List Fault → List Fault → Type 0
WatchesTell rate period old slot before after =
    (slots : List (List ℕ)) → IsWatching rate period old slots → after ≡ before ++ faults_at rate period (slots ++ slot ∷ []) (length slots)

-- the analyser accepts it behind those before it
abbrev pub AcceptsSlot : AnalyserState → List ℕ → AnalyserState → Type 0
AcceptsSlot old slot new = (slots : List (List ℕ)) → HasAccepted old slots → HasAccepted new (slots ++ slot ∷ [])

-- its faults stand behind those that were there
abbrev pub TellsSlot : AnalyserState → List ℕ → List Fault → List Fault → Type 0
TellsSlot old slot before after =
    (slots : List (List ℕ)) → HasAccepted old slots → after ≡ before ++ faults_at old.rate old.period (slots ++ slot ∷ []) (length slots)

-- where all faults of the slots before it stood behind some others, all faults with its own stand there now
abbrev pub TellsAll : AnalyserState → List ℕ → List Fault → List Fault → Type 0
TellsAll old slot before after =
    (slots : List (List ℕ)) (first : List Fault) → HasAccepted old slots → before ≡ first ++ faults old.rate old.period slots
    → after ≡ first ++ faults old.rate old.period (slots ++ slot ∷ [])
