-- A meter more.
use Rattle.std.proofs.Common.{◌≡◌, ℕ, zero, suc, ◌⊎◌, List, [], ◌∷◌, ◌++◌, length, Some, refl, ap, ◌∙◌, sym, subst, inl, inr}
use Rattle.std.specs.List.{slice_get}
use Rattle.std.proofs.lemmas.Option.{same_Some}
use Rattle.tspkt.specs.declared.packet_size.PacketSize.{PacketSize}
use Rattle.plan.specs.Build.{PlanValue}
use Rattle.rate_meter.specs.Steps.{Shown}
use Rattle.measuring.specs.Metering.{AreNewMeters, IsNewMeter, sizes_of}
use Rattle.measuring.specs.declared.metered.Metered.{Metered}

-- an element of a list with one more stands in the list, or is the last
push_cases : {X : Type 0} (xs : List X) (y : X) (i : ℕ) (x : X) → slice_get (xs ++ y ∷ []) i ≡ Some x → (slice_get xs i ≡ Some x) ⊎ ((i ≡ length xs) × (x ≡ y))
push_cases [] y zero x at = inr (refl, sym (same_Some y x at))
push_cases [] y (suc i) x at = cc
push_cases (z ∷ xs) y zero x at = inl at
push_cases (z ∷ xs) y (suc i) x at = elim (push_cases xs y i x at) [ inl h ↦ inl h | inr h ↦ inr (ap suc h.0, h.1) ]

-- the next input's meter is of its size, and so all are
pub meter_more : {R M : Type 0} (shown : M → Shown) (p : PlanValue) (all : List (Metered R M)) (size : PacketSize) (m : Metered R M)
    → AreNewMeters shown p all → slice_get (sizes_of p) (length all) ≡ Some size → IsNewMeter shown size m
    → AreNewMeters shown p (all ++ m ∷ [])
meter_more {R} {M} shown p all size m h at is = λ i other x at_size at_x.
    elim (push_cases all m i x at_x) [
      | inl there ↦ h i other x at_size there
      | inr last ↦
          (let P : ℕ → Type 0 = λ n. slice_get (sizes_of p) n ≡ Some other in
          let Q : PacketSize → Type 0 = λ v. IsNewMeter shown v x in
          let S : Metered R M → Type 0 = λ v. IsNewMeter shown size v in
          subst Q (same_Some size other (sym at ∙ subst P last.0 at_size)) (subst S (sym last.1) is))
    ]
