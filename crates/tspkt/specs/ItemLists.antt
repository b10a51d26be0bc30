-- For the code of the framer: the lists that items are told to. What is told stands in front; where a list is filled anew, the items
-- from before lie behind, until others are put over them.
use Rattle.std.specs.Prelude.{◌≡◌, ℕ, ◌+◌, ◌-◌, ◌<◌, ◌≤◌, List, [], ◌++◌, length, take, Result, OnOk, OnErr}
use Rattle.tspkt.specs.declared.item.Item.{Item}

-- a list: what was told, how many items from before lie behind, and how many items there can be before memory is asked for
pub record ListState : Type 0 where
  pub told : List Item
  pub stale : ℕ
  pub places : ℕ

-- A later state of a list: what was told stays in front, an item goes over one from before while there are any, and no place is lost.
pub record IsLater (old new : ListState) : Type 0 where
  pub kept : take (length old.told) new.told ≡ old.told
  pub stale : new.stale ≡ old.stale - (length new.told - length old.told)
  pub places : old.places ≤ new.places

-- These items, at most one, were told behind the others. They are refused where there is no place for one, and then nothing was told.
pub record Tells {E : Type 0} (old : ListState) (items : List Item) (new : ListState) (result : Result (Unit {0}) E) : Type 0 where
  pub ok : OnOk result (new.told ≡ old.told ++ items)
  pub err : OnErr result (new.told ≡ old.told)
  pub stale : new.stale ≡ old.stale - (length new.told - length old.told)
  pub places : old.places ≤ new.places
  pub room : OnErr result (old.places ≤ length old.told)
  pub some : OnErr result (0 < length items)

-- nothing of it is told any more: all of it is from before
abbrev pub cleared : ListState → ListState
cleared s = record { told = []; stale = length s.told + s.stale; places = s.places }
