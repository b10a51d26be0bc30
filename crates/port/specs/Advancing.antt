-- What comes out of a ring and is lent there (profile).
use Rattle.std.specs.Prelude.{◌≡◌, ◌⊎◌, List, [], ◌∷◌, ◌++◌, true, false, Option, Some, None, IsSome}
use Rattle.tspkt.specs.declared.stamped.Stamped.{Stamped}
use Rattle.port.specs.declared.arrival_kind.ArrivalKind.{ArrivalKind}
use Rattle.port.specs.declared.arrival_kind.ArrivalKind.TheVariants.{Packet, End}
use Rattle.port.specs.Rings.{RingEndValue}

-- A packet is shown: one that was shown before, or else the next that came out behind the others. Or the end mark came, or nothing did,
-- where none was shown. Nothing comes behind an end mark.
abbrev pub Shows : RingEndValue → Option ArrivalKind → RingEndValue → Type 0
Shows old (Some Packet) new =
    (IsSome old.head × (new ≡ old))
    ⊎ ((old.head ≡ None) × (old.is_ended ≡ false)
    × ((item : Stamped) × (new ≡ record old { received = old.received ++ item ∷ []; head = Some item })))
Shows old (Some End) new = (old.head ≡ None) × (old.is_ended ≡ false) × (new ≡ record old { is_ended = true })
Shows old None new = (old.head ≡ None) × (new ≡ old)

-- Some packet came out behind the others, or the end mark came, neither behind an end mark; or nothing did. No packet is shown then.
abbrev pub IsAdvanced : RingEndValue → Option ArrivalKind → RingEndValue → Type 0
IsAdvanced old (Some Packet) new =
    (old.is_ended ≡ false) × ((item : Stamped) × (new ≡ record old { received = old.received ++ item ∷ []; head = None }))
IsAdvanced old (Some End) new = (old.is_ended ≡ false) × (new ≡ record old { head = None; is_ended = true })
IsAdvanced old None new = new ≡ record old { head = None }

-- it is the packet that came out last
abbrev pub IsLast : RingEndValue → Stamped → Type 0
IsLast end item = (before : List Stamped) × (end.received ≡ before ++ item ∷ [])
