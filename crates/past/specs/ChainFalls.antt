-- For the code: the events before one are fewer than with it. No public clause cites it.
use Rattle.std.specs.Prelude.{◌≤◌, length, List, ◌∷◌, Option, Some, None}
use Rattle.std.specs.declared.snapshot.Snapshot.{Snapshot}
use Rattle.std.proofs.Common.{arith}
use Rattle.past.specs.declared.told.Told.TheInside.{Inside}
use Rattle.past.specs.declared.told.Told.TheDeep.{deep-Told}
use Rattle.past.specs.Chain.{chain, list_of}

falls_before : (E : Type 0) (e : E) (b : Option (Snapshot (List E))) → deep-Told E (record { event = e; before = b }) ≤ length (e ∷ list_of b)
falls_before E e None = omega arith
falls_before E e (Some s) = omega arith

pub falls : {E : Type 0} (a : Inside E) → deep-Told E a ≤ length (chain a)
falls {E} a = falls_before E a.event a.before
