-- A framer whose items are taken while it goes on (profile).
use Rattle.std.specs.Prelude.{◌≡◌, ℕ, suc, ◌+◌, ◌-◌, ◌<◌, ◌≤◌, List, [], length, Option, Some, None, IfSome}
use Rattle.std.specs.List.{AllByRecursion}
use Rattle.tspkt.specs.Framed.{FramerState, new_framer, seen, still_to_tell, packets_of, HasToldAll, TakesPiece}
use Rattle.tspkt.specs.declared.framer.TheConstants.{MAX_LIMIT}
use Rattle.tspkt.specs.declared.item.Item.{Item}
use Rattle.tspkt.specs.declared.item.Item.TheVariants.{Packet, Bad, SyncLoss, Lost}

-- the most bytes that the stream may have; the framer, where it goes on; and the items that it told and that weren't taken yet
pub record ItemsValue : Type 0 where
  pub limit : ℕ
  pub framer : Option FramerState
  pub ahead : List Item

-- one that has read nothing, of packets so far apart
abbrev pub new_items : ℕ → ℕ → ItemsValue
new_items stride limit = record { limit = limit; framer = Some (new_framer stride limit); ahead = [] }

-- no more will be told, and nothing is left of what was
abbrev pub given_up : ItemsValue → ItemsValue
given_up items = record { limit = items.limit; framer = None; ahead = [] }

-- a packet begins within the most bytes that any stream may have
abbrev pub IsPlaced : Item → Type 0
IsPlaced (Packet position bytes) = position ≤ MAX_LIMIT
IsPlaced (Bad position) = Unit {0}
IsPlaced (SyncLoss position) = Unit {0}
IsPlaced (Lost count) = Unit {0}

pub record IsFramerWithin (limit : ℕ) (f : FramerState) : Type 0 where
  pub limit_is : f.limit ≡ limit
  pub within : seen f ≤ limit

pub record AreItems (limit : ℕ) (framer : Option FramerState) (ahead : List Item) : Type 0 where
  pub within : limit ≤ MAX_LIMIT
  pub kind : IfSome framer (IsFramerWithin limit)
  pub placed : AllByRecursion IsPlaced ahead

-- the framer took a piece, and these items were told, among them all packets that the bytes so far have and all other items
-- that they decide
pub record FeedsFramer (limit : ℕ) (old : FramerState) (piece : List ℕ) (new : FramerState) (told : List Item) : Type 0 where
  pub takes : TakesPiece old piece [] new told
  pub prompt : packets_of (still_to_tell new []) ≡ []
  pub told_all : HasToldAll new
  pub room : seen old + length piece ≤ limit

-- a piece was taken; where no framer goes on, nothing is told
abbrev pub TakesMore : ℕ → Option FramerState → List ℕ → ItemsValue → Type 0
TakesMore limit None piece new = new ≡ record { limit = limit; framer = None; ahead = [] }
TakesMore limit (Some f) piece new =
    (g : FramerState) × (new ≡ record { limit = limit; framer = Some g; ahead = new.ahead }) × FeedsFramer limit f piece g new.ahead

-- the piece would pass the most bytes
abbrev pub IsFull : ℕ → Option FramerState → List ℕ → Type 0
IsFull limit None piece = ⊥
IsFull limit (Some f) piece = limit < seen f + length piece

-- the framer ended, and told what was left
abbrev pub Finishes : ℕ → Option FramerState → ItemsValue → Type 0
Finishes limit None new = new ≡ record { limit = limit; framer = None; ahead = [] }
Finishes limit (Some f) new = new ≡ record { limit = limit; framer = None; ahead = still_to_tell f [] }

-- how much may still be read, at most: it falls with each piece
abbrev pub left_of : ℕ → Option FramerState → ℕ
left_of limit None = 0
left_of limit (Some f) = suc (limit - seen f)

abbrev pub left_to_read : ItemsValue → ℕ
left_to_read items = left_of items.limit items.framer
