-- The events that a snapshot stands for (profile).
use Rattle.std.specs.Prelude.{List, [], ◌∷◌, Option, Some, None}
use Rattle.std.specs.declared.snapshot.Snapshot.{Snapshot}
use Rattle.past.specs.declared.told.Told.TheInside.{Inside}

-- none, or those of the snapshot, newest first
abbrev pub list_of : {E : Type 0} → Option (Snapshot (List E)) → List E
list_of None = []
list_of (Some s) = s.value

-- an event, and those before it
abbrev pub chain : {E : Type 0} → Inside E → List E
chain a = a.event ∷ list_of a.before
