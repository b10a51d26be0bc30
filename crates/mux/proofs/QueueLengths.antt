-- How many packets a queue has left.
use Rattle.std.proofs.Common.{ℕ, ◌+◌, ◌<◌, ◌≡◌, List, [], ◌∷◌, length, refl, arith}
use Rattle.tspkt.specs.declared.stamped.Stamped.{Stamped}
use Rattle.buffers.specs.QueueValue.{QueueValue, without_first}

fewer : (items : List Stamped) (capacity : ℕ) → 0 < length items → length (without_first (record { items = items; capacity = capacity })).items + 1 ≡ length items
fewer [] capacity l = absurd (omega (arith, l))
fewer (x ∷ xs) capacity l = omega arith

pub one_fewer : (q : QueueValue) → 0 < length q.items → length (without_first q).items + 1 ≡ length q.items
one_fewer q l = fewer q.items q.capacity l

pub none_left : (items : List Stamped) → length items ≡ 0 → items ≡ []
none_left [] e = refl
none_left (x ∷ xs) e = absurd (omega (arith, e))
