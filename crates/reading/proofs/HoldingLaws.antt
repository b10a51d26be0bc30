-- The packet that an input gives next, where it lies among the items that were told.
use Rattle.std.proofs.Common.{◌≡◌, ℕ, List, [], ◌∷◌, true, false, drop, refl, ap, sym, subst, ◌∙◌}
use Rattle.std.specs.Prelude.{Option, None, Some, IsSome, IfSome, is_some, is_none, if◌then◌else◌}
use Rattle.std.specs.List.{slice_get}
use Rattle.std.proofs.lemmas.Option.{same_Some}
use Rattle.tspkt.specs.declared.item.Item.{Item}
use Rattle.tspkt.specs.declared.item.Item.TheVariants.{Packet, Bad, SyncLoss, Lost}
use Rattle.tspkt.specs.declared.stamped.Stamped.{Stamped}
use Rattle.schedule.specs.Schedule.{ScheduleValue}
use Rattle.reading.specs.Takeable.{OriginValue, item_at, stamp_at, place_of_item, is_well_formed, is_named, taken_of, IsTakenAt}
use Rattle.reading.specs.declared.stream_reader.StreamReader.{StreamReader}
use Rattle.reading.specs.Holding.{first_packet, held_of, stream_behind, HoldsPacket}

-- a packet that is taken is held where it stands first
pub holds_taken : (s : ScheduleValue) (o : OriginValue) (item : Item) (place stamp : ℕ) (ahead : List Item) → IsTakenAt s o item place stamp → slice_get ahead 0 ≡ Some item
    → HoldsPacket (Some stamp) ahead
holds_taken s o (Packet position bytes) place stamp [] t first = cc
holds_taken s o (Packet position bytes) place stamp (x ∷ rest) t first = (position, bytes, rest, ap (λ v. v ∷ rest) (same_Some x (Packet position bytes) first), t.0)
holds_taken s o (Bad position) place stamp ahead t first = absurd t
holds_taken s o (SyncLoss position) place stamp ahead t first = absurd t
holds_taken s o (Lost count) place stamp ahead t first = absurd t

-- a packet that comes at this time
timed : (o : OriginValue) (position stamp : ℕ) (bytes : List ℕ) → stamp ≡ stamp_at o position → (let item : Stamped = record { packet = bytes; stamp = stamp } in item ≡ item_at o position bytes)
timed o position stamp bytes is = ap (λ (v : ℕ). let item : Stamped = record { packet = bytes; stamp = v } in item) is

taken_is : (s : ScheduleValue) (o : OriginValue) (position : ℕ) (bytes : List ℕ) (place stamp : ℕ) → IsTakenAt s o (Packet position bytes) place stamp
    → taken_of s o (Packet position bytes) ≡ Some (item_at o position bytes)
taken_is s o position bytes place stamp t =
    let item = item_at o position bytes in
    let named : Option Stamped = if is_named s o position bytes then Some item else None in
    ap (λ b. if b then named else None) (ap is_none t.0) ∙ ap (λ b. if b then Some item else None) (ap is_some t.2)

-- it is the packet that is taken of the item
pub held_taken : (s : ScheduleValue) (o : OriginValue) (item : Item) (place stamp : ℕ) (ahead : List Item) → IsTakenAt s o item place stamp → slice_get ahead 0 ≡ Some item
    → held_of (Some stamp) ahead ≡ taken_of s o item
held_taken s o (Packet position bytes) place stamp [] t first = cc
held_taken s o (Packet position bytes) place stamp (x ∷ rest) t first =
    ap (λ v. first_packet stamp (v ∷ rest)) (same_Some x (Packet position bytes) first) ∙ (ap Some (timed o position stamp bytes t.1) ∙ sym (taken_is s o position bytes place stamp t))
held_taken s o (Bad position) place stamp ahead t first = absurd t
held_taken s o (SyncLoss position) place stamp ahead t first = absurd t
held_taken s o (Lost count) place stamp ahead t first = absurd t

-- and of the stream at this place
pub place_taken : (s : ScheduleValue) (o : OriginValue) (item : Item) (place stamp : ℕ) (ahead : List Item) → IsTakenAt s o item place stamp → slice_get ahead 0 ≡ Some item
    → IfSome (first_packet stamp ahead) (λ held. Some place ≡ place_of_item s o held)
place_taken s o (Packet position bytes) place stamp [] t first = cc
place_taken s o (Packet position bytes) place stamp (x ∷ rest) t first =
    let P : Item → Type 0 = λ v. IfSome (first_packet stamp (v ∷ rest)) (λ held. Some place ≡ place_of_item s o held) in
    subst P (sym (same_Some x (Packet position bytes) first)) (sym (ap (place_of_item s o) (timed o position stamp bytes t.1) ∙ t.2))
place_taken s o (Bad position) place stamp ahead t first = absurd t
place_taken s o (SyncLoss position) place stamp ahead t first = absurd t
place_taken s o (Lost count) place stamp ahead t first = absurd t

-- where nothing is held, nothing was found
pub not_found : (found : Option ℕ) (ahead : List Item) → HoldsPacket found ahead → held_of found ahead ≡ None → found ≡ None
not_found None ahead holds none = refl
not_found (Some stamp) ahead holds none = (let bad = ap (first_packet stamp) (sym holds.3) ∙ none in cc)

-- and where something was found, something is held
pub is_held : (stamp : ℕ) (ahead : List Item) → HoldsPacket (Some stamp) ahead → (bytes : List ℕ) × (held_of (Some stamp) ahead ≡ Some (record { packet = bytes; stamp = stamp }))
is_held stamp ahead holds = (holds.1, ap (first_packet stamp) holds.3)

-- what was held is passed, and the stream behind it is the same
pub passed_held : {R : Type 0} (found : Option ℕ) (stream new : StreamReader R) → IsSome found → new ≡ record stream { items = record stream.items { ahead = drop 1 stream.items.ahead } }
    → stream_behind None new ≡ stream_behind found stream
passed_held None stream new some is = absurd (let bad : false ≡ true = some in cc)
passed_held (Some stamp) stream new some is = is
