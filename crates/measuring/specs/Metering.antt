-- Sources whose bytes a meter sees (profile).
use Rattle.std.specs.Prelude.{◌≡◌, ℕ, List, map, Option, Some, None, IfSome, slice_get}
use Rattle.tspkt.specs.declared.packet_size.PacketSize.{PacketSize}
use Rattle.request.specs.Request.{InputValue}
use Rattle.plan.specs.Build.{PlanValue}
use Rattle.rate_meter.specs.Meter.{new_meter, shown_piece}
use Rattle.rate_meter.specs.Steps.{Shown}
use Rattle.measuring.specs.declared.metered.Metered.{Metered}

-- what is read
abbrev pub source_of : {R M : Type 0} → Metered R M → R
source_of m = m.source

-- what measures it: none where there was no memory for it
abbrev pub meter_of : {R M : Type 0} → Metered R M → Option M
meter_of m = m.meter

-- its meter, where there is one, was shown nothing of a stream of this size
abbrev pub IsNewMeter : {R M : Type 0} → (M → Shown) → PacketSize → Metered R M → Type 0
IsNewMeter shown size m = IfSome m.meter (λ meter. shown meter ≡ (new_meter size).shown)

-- how the packets of a plan's inputs follow one another
abbrev pub sizes_of : PlanValue → List PacketSize
sizes_of p = map (λ (i : InputValue). i.size) p.request.inputs

-- those of a plan's inputs, in their order, each of its input's size
abbrev pub AreNewMeters : {R M : Type 0} → (M → Shown) → PlanValue → List (Metered R M) → Type 0
AreNewMeters {R} {M} shown p all = (i : ℕ) (size : PacketSize) (m : Metered R M) → slice_get (sizes_of p) i ≡ Some size
    → slice_get all i ≡ Some m → IsNewMeter shown size m

-- the bytes that it will give, where they are known
abbrev pub metered_remaining : {R M : Type 0} → (R → Option (List ℕ)) → Metered R M → Option (List ℕ)
metered_remaining remaining m = remaining m.source

-- how often a read failed
abbrev pub metered_failures : {R M : Type 0} → (R → ℕ) → Metered R M → ℕ
metered_failures failures m = failures m.source

-- a meter, where there is one, was shown this piece: `shown` is what a meter was shown
abbrev pub IsShown : {M : Type 0} → (M → Shown) → List ℕ → Option M → Option M → Type 0
IsShown shown piece None now = now ≡ None
IsShown shown piece (Some before) None = ⊥
IsShown shown piece (Some before) (Some now) = shown now ≡ shown_piece piece (shown before)
