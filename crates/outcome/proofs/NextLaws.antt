-- The next packet that can be taken of an input.
use Rattle.std.proofs.Common.{ℕ, ◌<◌, ◌≤◌, ◌≡◌, true, nat_eq, List, [], ◌∷◌, ◌++◌, Option, Some, None, is_some, refl, ◌∙◌, sym, subst, arith, inl, inr, append_assoc}
use Rattle.std.proofs.lemmas.Bool.{cases_Bool}
use Rattle.tspkt.specs.Packet.{pid_of}
use Rattle.tspkt.specs.declared.item.Item.{Item}
use Rattle.tspkt.specs.declared.item.Item.TheVariants.{Packet, Bad, SyncLoss, Lost}
use Rattle.tspkt.specs.declared.stamped.Stamped.{Stamped}
use Rattle.schedule.specs.Schedule.{ScheduleValue, number_for}
use Rattle.schedule.specs.Streams.{scheduled_place}
use Rattle.mux.specs.declared.event.Event.{Event}
use Rattle.mux.specs.declared.event.Event.TheVariants.{Took, Full, Early, Close, Slot, Switch}
use Rattle.mux.specs.History.{taken, last_stamp}
use Rattle.schedule.specs.Laws.{IsMultiplexSchedule}
use Rattle.mux.specs.Lawful.{is_mapped}
use Rattle.mux.proofs.Plans.{places_of, of_plan}
use Rattle.mux.proofs.Refusals.{goes_from, mapped_at}
use Rattle.reading.specs.Takeable.{OriginValue, framed_at, takeable, is_well_formed, is_named, place_of_item}
use Rattle.outcome.specs.Order.{ComeFrom}
use Rattle.outcome.proofs.OrderLaws.{come_in_order}

-- Each packet that can be taken is one that its plan names.

abbrev AreNamed : ScheduleValue → OriginValue → List Stamped → Type 0
AreNamed schedule origin [] = Unit {0}
AreNamed schedule origin (x ∷ xs) = (is_some (place_of_item schedule origin x) ≡ true) × AreNamed schedule origin xs

named : (schedule : ScheduleValue) (origin : OriginValue) (items : List Item) → AreNamed schedule origin (takeable schedule origin items)
named schedule origin [] = tt
named schedule origin (Packet place bytes ∷ items) =
    let rest = named schedule origin items in
    elim (cases_Bool (is_well_formed bytes)) [
      | inl e ↦ elim (cases_Bool (is_named schedule origin place bytes)) [ inl f ↦ rw (e, f) (f, rest) | inr f ↦ rw (e, f) rest ]
      | inr e ↦ rw e rest
    ]
named schedule origin (Bad place ∷ items) = named schedule origin items
named schedule origin (SyncLoss place ∷ items) = named schedule origin items
named schedule origin (Lost count ∷ items) = named schedule origin items

named_at : (schedule : ScheduleValue) (origin : OriginValue) (xs ys : List Stamped) (x : Stamped) → AreNamed schedule origin (xs ++ x ∷ ys) → is_some (place_of_item schedule origin x) ≡ true
named_at schedule origin [] ys x all = all.0
named_at schedule origin (y ∷ xs) ys x all = named_at schedule origin xs ys x all.1

-- the input's plan maps an item whose stream's place is found
some_placed : (s : ScheduleValue) (i : ℕ) (item : Stamped) (o : Option ℕ) → IsMultiplexSchedule s → scheduled_place s i (pid_of item.packet) item.stamp ≡ o → is_some o ≡ true → is_mapped s i item ≡ true
some_placed s i item None ok e some = cc
some_placed s i item (Some place) ok e some =
    let at = (places_of s ok).some i (pid_of item.packet) item.stamp place e in
    mapped_at s i item place at.stream ok at.there (goes_from s at.stream i item at.input_is at.pid_is (of_plan s (number_for s item.stamp) at.stream at.in_plan))

-- No packet comes before the one that was taken last.

abbrev last_of : ℕ → List Stamped → ℕ
last_of t [] = t
last_of t (x ∷ xs) = last_of x.stamp xs

come_at : (t : ℕ) (xs ys : List Stamped) (x : Stamped) → ComeFrom t (xs ++ x ∷ ys) → last_of t xs ≤ x.stamp
come_at t [] ys x c = c.0
come_at t (y ∷ xs) ys x c = come_at y.stamp xs ys x c.1

last_push : (t : ℕ) (xs : List Stamped) (x : Stamped) → last_of t (xs ++ x ∷ []) ≡ x.stamp
last_push t [] x = refl
last_push t (y ∷ xs) x = last_push y.stamp xs x

last_taken : (i : ℕ) (h : List Event) → last_stamp i h ≡ last_of 0 (taken i h)
last_taken i [] = refl
last_taken i (Took j item ∷ h) = elim (cases_Bool (nat_eq j i)) [ inl e ↦ rw e (sym (last_push 0 (taken i h) item)) | inr e ↦ rw e (last_taken i h) ]
last_taken i (Full j st ∷ h) = last_taken i h
last_taken i (Early j ∷ h) = last_taken i h
last_taken i (Switch number ∷ h) = last_taken i h
last_taken i (Close j ∷ h) = last_taken i h
last_taken i (Slot c ∷ h) = last_taken i h

-- The next packet that can be taken of an input is one that its plan names, and it comes in order.
pub record IsNextInOrder (p : ScheduleValue) (h : List Event) (i : ℕ) (item : Stamped) : Type 0 where
  pub mapped : is_mapped p i item ≡ true
  pub later : last_stamp i h ≤ item.stamp

pub next_in_order : (p : ScheduleValue) (h : List Event) (i : ℕ) (o : OriginValue) (item : Stamped) (bytes : List ℕ) (later : List Stamped) → IsMultiplexSchedule p → o.number ≡ i → 0 < o.rate
    → (taken i h ++ item ∷ []) ++ later ≡ takeable p o (framed_at o bytes) → IsNextInOrder p h i item
next_in_order p h i o item bytes later ok number rate is =
    let split : taken i h ++ item ∷ later ≡ takeable p o (framed_at o bytes) = sym (append_assoc (taken i h) (item ∷ []) later) ∙ is in
    let named_here : is_some (place_of_item p o item) ≡ true =
    (let P : List Stamped → Type 0 = AreNamed p o in named_at p o (taken i h) later item (subst P (sym split) (named p o (framed_at o bytes)))) in
    let order : last_of 0 (taken i h) ≤ item.stamp =
    (let P : List Stamped → Type 0 = ComeFrom 0 in come_at 0 (taken i h) later item (subst P (sym split) (come_in_order p o bytes rate))) in
    let last = last_taken i h in
    record {
      mapped = (let P : ℕ → Type 0 = λ n. is_mapped p n item ≡ true in subst P number (some_placed p o.number item (place_of_item p o item) ok refl named_here));
      later = omega (arith, last, order);
    }
