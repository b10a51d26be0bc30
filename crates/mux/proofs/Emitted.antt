-- The packets that went out, by number.
use Rattle.std.proofs.Common.{ℕ, zero, suc, ◌+◌, ◌<◌, ◌≡◌, List, [], ◌∷◌, ◌++◌, length, Some, refl, ap, ◌∙◌, arith, length-append}
use Rattle.std.specs.List.{slice_get}
use Rattle.mux.specs.declared.event.Event.{Event}
use Rattle.mux.specs.declared.event.Event.TheVariants.{Took, Full, Early, Close, Slot, Switch}
use Rattle.schedule.specs.Schedule.{ScheduleValue}
use Rattle.mux.specs.History.{slots, emitted, packet_behind}

-- one packet a slot
pub length-emitted : (s : ScheduleValue) (h : List Event) → length (emitted s h) ≡ slots h
length-emitted s [] = refl
length-emitted s (Took i item ∷ h) = length-emitted s h
length-emitted s (Full i st ∷ h) = length-emitted s h
length-emitted s (Early i ∷ h) = length-emitted s h
length-emitted s (Switch number ∷ h) = length-emitted s h
length-emitted s (Close i ∷ h) = length-emitted s h
length-emitted s (Slot c ∷ h) = length-append (emitted s h) (packet_behind s h (emitted s h) c ∷ []) ∙ ap (λ n. n + 1) (length-emitted s h)

-- what stands in a list with one more element
pub before_end : {X : Type 0} (xs : List X) (y : X) (m : ℕ) → m < length xs → slice_get (xs ++ y ∷ []) m ≡ slice_get xs m
before_end [] y m l = absurd (omega arith)
before_end (x ∷ xs) y zero l = refl
before_end (x ∷ xs) y (suc m) l = before_end xs y m (omega arith)
