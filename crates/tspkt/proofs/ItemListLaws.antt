-- Lists that items are told to.
use Rattle.std.proofs.Common.{arith, ◌≡◌, ◌≤◌, List, ◌++◌, length, take, sym, ◌∙◌, ap}
use Rattle.std.specs.Prelude.{Result, Ok, Err}
use Rattle.std.proofs.lemmas.List.{length-take, take-take, take_all, take-append-le}
use Rattle.tspkt.specs.declared.item.Item.{Item}
use Rattle.tspkt.specs.ItemLists.{ListState, IsLater, Tells}

-- the front that stayed is no longer than the list
front_long : {X : Type 0} (front xs : List X) → take (length front) xs ≡ front → length front ≤ length xs
front_long front xs e = omega (arith, ap length e, length-take (length front) xs)

pub later_long : (old new : ListState) → IsLater old new → length old.told ≤ length new.told
later_long old new h = front_long old.told new.told h.kept

pub later_same : (s : ListState) → IsLater s s
later_same s = record { kept = take_all (length s.told) s.told (omega arith); stale = omega arith; places = omega arith }

pub later_on : (old mid new : ListState) → IsLater old mid → IsLater mid new → IsLater old new
later_on old mid new a b =
    let first = later_long old mid a in
    let second = later_long mid new b in
    record {
      kept = sym (take-take (length old.told) (length mid.told) new.told first) ∙ ap (take (length old.told)) b.kept ∙ a.kept;
      stale = omega (arith, a.stale, b.stale, first, second);
      places = omega (arith, a.places, b.places);
    }

-- what was told, or nothing
pub later_told : {E : Type 0} (old new : ListState) (items : List Item) (result : Result (Unit {0}) E) → Tells old items new result → IsLater old new
later_told old new items (Ok done) h = record {
  kept = ap (take (length old.told)) h.ok ∙ take-append-le (length old.told) old.told items (omega arith) ∙ take_all (length old.told) old.told (omega arith);
  stale = h.stale;
  places = h.places;
}
later_told old new items (Err e) h = record {
  kept = ap (take (length old.told)) h.err ∙ take_all (length old.told) old.told (omega arith);
  stale = h.stale;
  places = h.places;
}

-- the same by other words
pub told_same : {E F : Type 0} (old new : ListState) (items others : List Item) → items ≡ others → Tells {E = E} old items new (Ok tt) → Tells {E = F} old others new (Ok tt)
told_same old new items others same h = record {
  ok = h.ok ∙ ap (λ (l : List Item). old.told ++ l) same;
  err = tt;
  stale = h.stale;
  places = h.places;
  room = tt;
  some = tt;
}

pub refused_same : {E F : Type 0} (old new : ListState) (items others : List Item) (e : E) (f : F) → items ≡ others → Tells old items new (Err e) → Tells old others new (Err f)
refused_same old new items others e f same h = record {
  ok = tt;
  err = h.err;
  stale = h.stale;
  places = h.places;
  room = h.room;
  some = omega (arith, h.some, ap length same);
}
