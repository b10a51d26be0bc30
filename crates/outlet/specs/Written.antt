-- What went out of what a writer was given (profile).
use Rattle.std.specs.Prelude.{◌≡◌, ◌++◌, ℕ, List, Option}
use Rattle.std.specs.Io.KnownBytes.{Appends}

-- of these bytes the sink got all but those that wait
abbrev pub Sends : Option (List ℕ) → Option (List ℕ) → List ℕ → List ℕ → Type 0
Sends old new given waiting = (sent : List ℕ) × Appends old new sent × (given ≡ sent ++ waiting)

-- of these bytes the sink got a beginning
abbrev pub SendsBeginning : Option (List ℕ) → Option (List ℕ) → List ℕ → Type 0
SendsBeginning old new given = (rest : List ℕ) × Sends old new given rest
