-- The items of a stream of bytes: packets of 188 bytes, each beginning with 0x47 (ISO/IEC 13818-1, 2.4.3.2), one
-- every `stride` bytes; what lies between two of them is passed over. Five good sync bytes in a row acquire sync, and two
-- bad ones in a row lose it, as in ETSI TR 101 290, 5.2.1 (TS_sync_loss); the rest is profile.
use Rattle.std.specs.Prelude.{◌≡◌, ℕ, zero, suc, ◌+◌, ◌-◌, ◌*◌, ◌<◌, ◌≤◌, ◌==◌, nat_lt, nat_le, Bool, true, ◌&&◌, ◌||◌, if◌then◌else◌, List, [], ◌∷◌, ◌++◌, length, take, drop, slice_index, All}
use Rattle.std.specs.List.{flat_map, sum_by}
use Rattle.tspkt.specs.declared.item.Item.{Item}
use Rattle.tspkt.specs.declared.item.Item.TheVariants.{Packet, Bad, SyncLoss, Lost}
use Rattle.tspkt.specs.declared.mode.Mode.{Mode}
use Rattle.tspkt.specs.declared.mode.Mode.TheVariants.{Hunting, Synced}

-- the byte at i is there and is the sync byte; past the end a list reads 0
abbrev pub is_sync : List ℕ → ℕ → Bool
is_sync bytes i = slice_index bytes i == 0x47

-- five sync bytes, a stride apart, stand from the front on
abbrev pub acquires_sync : ℕ → List ℕ → Bool
acquires_sync stride bytes =
    (((is_sync bytes 0 && is_sync bytes stride) && is_sync bytes (2 * stride)) && is_sync bytes (3 * stride))
    && is_sync bytes (4 * stride)

-- after a bad sync byte the stream ends, or goes on with a good one
abbrev pub keeps_sync : ℕ → List ℕ → Bool
keeps_sync stride bytes = nat_le (length bytes) stride || is_sync bytes stride

-- the loss of the bytes from place `from` to `place`, where there are any
abbrev pub lost : ℕ → ℕ → List Item
lost from place = if nat_lt from place then Lost (place - from) ∷ [] else []

-- The items from `place` on, where `bytes` are all bytes from there on: hunting, a loss having begun at `from`,
-- or in sync, `skip` bytes before the next packet.
unfoldable pub framed_from : ℕ → Mode → ℕ → List ℕ → List Item
framed_from stride (Hunting from) place [] = lost from place
framed_from stride (Hunting from) place (b ∷ bytes) =
    if acquires_sync stride (b ∷ bytes) then lost from place ++ Packet place (take 188 (b ∷ bytes)) ∷ framed_from stride (Synced (stride - 1)) (place + 1) bytes
    else framed_from stride (Hunting from) (place + 1) bytes
framed_from stride (Synced skip) place [] = []
framed_from stride (Synced zero) place (b ∷ bytes) =
    if nat_lt (length (b ∷ bytes)) 188 then Lost (length (b ∷ bytes)) ∷ []
    else if is_sync (b ∷ bytes) 0 then Packet place (take 188 (b ∷ bytes)) ∷ framed_from stride (Synced (stride - 1)) (place + 1) bytes
    else if keeps_sync stride (b ∷ bytes) then Bad place ∷ framed_from stride (Synced (stride - 1)) (place + 1) bytes
    else SyncLoss place ∷ framed_from stride (Hunting place) (place + 1) bytes
framed_from stride (Synced (suc skip)) place (b ∷ bytes) = framed_from stride (Synced skip) (place + 1) bytes

-- the items of a whole stream
abbrev pub framed : ℕ → List ℕ → List Item
framed stride bytes = framed_from stride (Hunting 0) 0 bytes

-- the packets among items, each with its place
abbrev pub packets_of : List Item → List (ℕ × List ℕ)
packets_of [] = []
packets_of (Packet place bytes ∷ items) = (place, bytes) ∷ packets_of items
packets_of (Bad place ∷ items) = packets_of items
packets_of (SyncLoss place ∷ items) = packets_of items
packets_of (Lost count ∷ items) = packets_of items

-- What the definition means, in words of its own.

-- how many bytes of the stream an item stands for, with the bytes behind a packet
abbrev pub covered : ℕ → Item → ℕ
covered stride (Packet place bytes) = stride
covered stride (Bad place) = stride
covered stride (SyncLoss place) = 0
covered stride (Lost count) = count

-- The items stand for all bytes of the stream, and for no more but what lacks behind the last packet of 188 bytes.
pub record IsCovered (stride : ℕ) (stream : List ℕ) (items : List Item) : Type 0 where
  pub all : length stream ≤ sum_by (covered stride) items
  pub no_more : sum_by (covered stride) items ≤ length stream + (stride - 188)

-- a packet that is told is the 188 bytes of the stream at its place, and begins with the sync byte
abbrev pub IsAtItsPlace : List ℕ → Item → Type 0
IsAtItsPlace stream (Packet place bytes) =
    (place + 188 ≤ length stream) × (bytes ≡ take 188 (drop place stream)) × (is_sync bytes 0 ≡ true)
IsAtItsPlace stream (Bad place) = Unit {0}
IsAtItsPlace stream (SyncLoss place) = Unit {0}
IsAtItsPlace stream (Lost count) = Unit {0}

-- the first 188 bytes of each of these, one behind the other, the first of them at `place`
abbrev pub packets_at : ℕ → ℕ → List (List ℕ) → List Item
packets_at stride place [] = []
packets_at stride place (packet ∷ packets) = Packet place (take 188 packet) ∷ packets_at stride (place + stride) packets

-- a packet and the bytes behind it: as many as lie from one packet to the next, and they begin with the sync byte
abbrev pub IsWhole : ℕ → List ℕ → Type 0
IsWhole stride packet = (length packet ≡ stride) × (is_sync packet 0 ≡ true)

-- What a framer is between two pieces of its stream.

-- packets stand `stride` bytes apart, at most `limit` bytes may come, and those that came and aren't decided yet
-- are `kept`, the first of them at `position`
pub record FramerState : Type 0 where
  pub stride : ℕ
  pub limit : ℕ
  pub position : ℕ
  pub mode : Mode
  pub kept : List ℕ

-- one that has seen nothing
abbrev pub new_framer : ℕ → ℕ → FramerState
new_framer stride limit = record { stride = stride; limit = limit; position = 0; mode = Hunting 0; kept = [] }

-- how many bytes it has seen
abbrev pub seen : FramerState → ℕ
seen f = f.position + length f.kept

-- the items that are left to tell where these bytes and no others follow
abbrev pub still_to_tell : FramerState → List ℕ → List Item
still_to_tell f more = framed_from f.stride f.mode f.position (f.kept ++ more)

-- It has told all that is decided: no item is left to tell that comes next whatever follows.
abbrev pub HasToldAll : FramerState → Type 0
HasToldAll f = (item : Item) → ((more : List ℕ) → (later : List Item) × (still_to_tell f more ≡ item ∷ later)) → ⊥

-- What was told is, with what is left to tell, the framing of these bytes and of whatever follows them.
abbrev pub IsFramedSoFar : FramerState → List Item → List ℕ → Type 0
IsFramedSoFar f told bytes = (more : List ℕ) → told ++ still_to_tell f more ≡ framed f.stride (bytes ++ more)

-- A piece was taken: the items told before stay, and with those that were left to tell where the piece and more follow
-- they are those told now and those that are left where more follows; so many bytes more were seen.
pub record TakesPiece (old : FramerState) (piece : List ℕ) (told : List Item) (new : FramerState) (told_now : List Item) : Type 0 where
  pub told_stay : take (length told) told_now ≡ told
  pub same_items : (more : List ℕ) → told_now ++ still_to_tell new more ≡ told ++ still_to_tell old (piece ++ more)
  pub seen_is : seen new ≡ seen old + length piece
  pub stride_is : new.stride ≡ old.stride
  pub limit_is : new.limit ≡ old.limit

-- There is no room for what is decided: whatever follows the piece, these items come first, those of `out` before all, and
-- they are more than there are places.
pub record WantsRoom (f : FramerState) (piece : List ℕ) (out : List Item) (places : ℕ) : Type 0 where
  pub decided : List Item
  pub come : (more : List ℕ) → (later : List Item) × (decided ++ later ≡ out ++ still_to_tell f (piece ++ more))
  pub full : places < length decided

-- Where the stream is five whole packets or more, and less than a packet behind them, its items are those packets,
-- in order, and the loss of the rest.
abbrev pub ExactOnPackets : ℕ → List ℕ → List Item → Type 0
ExactOnPackets stride stream items =
    (packets : List (List ℕ)) (rest : List ℕ) → 5 ≤ length packets → All (IsWhole stride) packets → length rest < 188
    → stream ≡ flat_map (λ packet. packet) packets ++ rest → items ≡ packets_at stride 0 packets ++ lost 0 (length rest)

-- The same where some of the bytes behind the last packet lack: with them the stream would be five whole packets or more. Its items
-- are those packets, in order.
abbrev pub ExactOnLastPacket : ℕ → List ℕ → List Item → Type 0
ExactOnLastPacket stride stream items =
    (packets : List (List ℕ)) (lacking : List ℕ) → 5 ≤ length packets → All (IsWhole stride) packets → length lacking ≤ stride - 188
    → stream ++ lacking ≡ flat_map (λ packet. packet) packets → items ≡ packets_at stride 0 packets
