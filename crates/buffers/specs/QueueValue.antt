-- A queue as contracts see it.
use Rattle.std.specs.Prelude.{ℕ, List, [], ◌∷◌, ◌++◌, drop}
use Rattle.tspkt.specs.declared.stamped.Stamped.{Stamped}

-- what waits, the head first, and how many may
pub record QueueValue : Type 0 where
  pub items : List Stamped
  pub capacity : ℕ

-- the queue with one more item behind the others
abbrev pub with_last : QueueValue → Stamped → QueueValue
with_last q item = record q { items = q.items ++ item ∷ [] }

-- the queue without its head
abbrev pub without_first : QueueValue → QueueValue
without_first q = record q { items = drop 1 q.items }

-- the time of the first of these, and the greatest u64 where there is none
abbrev pub first_stamp : List Stamped → ℕ
first_stamp [] = 18446744073709551615
first_stamp (item ∷ items) = item.stamp
