-- Which ring an end is of.
use Rattle.std.proofs.Common.{◌≡◌, ℕ, ap}
use Rattle.std.specs.declared.alloc.Global.{Global}
use Rattle.rtrb.specs.declared.end.End.{End}
use Rattle.rtrb.specs.Ends.{SameRing}
use Rattle.port.specs.Arrivals.{CarriedValue}
use Rattle.port.specs.declared.nothing_after_end.NothingAfterEnd.{NothingAfterEnd}
use Rattle.port.specs.Rings.{RingId, ring_id}

pub same_id : (a b : End CarriedValue Global NothingAfterEnd) (input : ℕ) → SameRing a b → ring_id b input ≡ ring_id a input
same_id a b input e = λ i. record { words = e.0 i; slots = e.1 i; names = e.2 i; heap = e.3 i; input = input }

pub same_ring : (a b : End CarriedValue Global NothingAfterEnd) (i j : ℕ) → ring_id b j ≡ ring_id a i → SameRing a b
same_ring a b i j e = (ap (λ (z : RingId). z.words) e, ap (λ (z : RingId). z.slots) e, ap (λ (z : RingId). z.names) e, ap (λ (z : RingId). z.heap) e)
