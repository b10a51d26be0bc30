-- The packets of an input: their order, and how many they may be.
use Rattle.std.proofs.Common.{ℕ, zero, suc, ◌+◌, ◌-◌, ◌*◌, ◌/◌, ◌<◌, ◌≤◌, Bool, true, false, cond, nat_lt, List, [], ◌∷◌, ◌++◌, length, take, arith, inl, inr}
use Rattle.std.proofs.lemmas.Bool.{cases_Bool}
use Rattle.std.proofs.lemmas.Nat.{le-div}
use Rattle.std.proofs.Math.Nat.{div-mul-le_self, mul-suc}
use Rattle.tspkt.specs.Stamps.{time_of}
use Rattle.tspkt.specs.Framed.{framed_from, lost, acquires_sync, is_sync, keeps_sync, covered}
use Rattle.tspkt.proofs.FramedLaws.{covered-framed}
use Rattle.std.specs.List.{sum_by}
use Rattle.std.proofs.lemmas.List.Sums.{sum_by-cons}
use Rattle.tspkt.specs.declared.item.Item.{Item}
use Rattle.tspkt.specs.declared.item.Item.TheVariants.{Packet, Bad, SyncLoss, Lost}
use Rattle.tspkt.specs.declared.mode.Mode.{Mode}
use Rattle.tspkt.specs.declared.mode.Mode.TheVariants.{Hunting, Synced}
use Rattle.tspkt.specs.PacketSize.{stride_of}
use Rattle.tspkt.specs.declared.packet_size.PacketSize.{PacketSize}
use Rattle.tspkt.specs.declared.packet_size.PacketSize.TheVariants.{Ts188, Ts204}
use Rattle.tspkt.specs.declared.stamped.Stamped.{Stamped}
use Rattle.schedule.specs.Schedule.{ScheduleValue}
use Rattle.reading.specs.Takeable.{OriginValue, stride_at, framed_at, takeable, stamp_at, is_well_formed, is_named}
use Rattle.outcome.specs.Order.{ComeFrom, PacketsComeInOrder, PacketsAreFew}

-- packets stand at this place or behind it, and each behind those before it
abbrev StandFrom : ℕ → List Item → Type 0
StandFrom n [] = Unit {0}
StandFrom n (Packet place bytes ∷ items) = (n ≤ place) × StandFrom (place + 1) items
StandFrom n (Bad place ∷ items) = StandFrom n items
StandFrom n (SyncLoss place ∷ items) = StandFrom n items
StandFrom n (Lost count ∷ items) = StandFrom n items

earlier : (m n : ℕ) (items : List Item) → m ≤ n → StandFrom n items → StandFrom m items
earlier m n [] l s = tt
earlier m n (Packet place bytes ∷ items) l s = (omega (arith, l, s.0), s.1)
earlier m n (Bad place ∷ items) l s = earlier m n items l s
earlier m n (SyncLoss place ∷ items) l s = earlier m n items l s
earlier m n (Lost count ∷ items) l s = earlier m n items l s

behind_loss : (n a b : ℕ) (items : List Item) → StandFrom n items → StandFrom n (lost a b ++ items)
behind_loss n a b items s = elim (cases_Bool (nat_lt a b)) [ inl e ↦ rw e s | inr e ↦ rw e s ]

-- a loss has no packet
loss_alone : (n a b : ℕ) → StandFrom n (lost a b)
loss_alone n a b = elim (cases_Bool (nat_lt a b)) [ inl e ↦ rw e tt | inr e ↦ rw e tt ]

if_stand : (n : ℕ) (b : Bool) (xs ys : List Item) → StandFrom n xs → StandFrom n ys → StandFrom n (cond b xs ys)
if_stand n true xs ys s t = s
if_stand n false xs ys s t = t

stand : (stride : ℕ) (mode : Mode) (place : ℕ) (bytes : List ℕ) → StandFrom place (framed_from stride mode place bytes)
unfolding framed_from
stand stride (Hunting from) place [] = loss_alone place from place
stand stride (Hunting from) place (b ∷ bytes) =
    let synced = framed_from stride (Synced (stride - 1)) (place + 1) bytes in
    let packet = Packet place (take 188 (b ∷ bytes)) ∷ synced in
    let hunting = framed_from stride (Hunting from) (place + 1) bytes in
    if_stand place (acquires_sync stride (b ∷ bytes)) (lost from place ++ packet) hunting
    (behind_loss place from place packet (omega arith, stand stride (Synced (stride - 1)) (place + 1) bytes))
    (earlier place (place + 1) hunting (omega arith) (stand stride (Hunting from) (place + 1) bytes))
stand stride (Synced skip) place [] = tt
stand stride (Synced zero) place (b ∷ bytes) =
    let synced = framed_from stride (Synced (stride - 1)) (place + 1) bytes in
    let hunting = framed_from stride (Hunting place) (place + 1) bytes in
    let packet = Packet place (take 188 (b ∷ bytes)) ∷ synced in
    let kept = if_stand place (keeps_sync stride (b ∷ bytes)) (Bad place ∷ synced) (SyncLoss place ∷ hunting)
    (earlier place (place + 1) synced (omega arith) (stand stride (Synced (stride - 1)) (place + 1) bytes))
    (earlier place (place + 1) hunting (omega arith) (stand stride (Hunting place) (place + 1) bytes)) in
    let told = if_stand place (is_sync (b ∷ bytes) 0) packet (cond (keeps_sync stride (b ∷ bytes)) (Bad place ∷ synced) (SyncLoss place ∷ hunting))
    (omega arith, stand stride (Synced (stride - 1)) (place + 1) bytes) kept in
    if_stand place (nat_lt (length (b ∷ bytes)) 188) (Lost (length (b ∷ bytes)) ∷ [])
    (cond (is_sync (b ∷ bytes) 0) packet (cond (keeps_sync stride (b ∷ bytes)) (Bad place ∷ synced) (SyncLoss place ∷ hunting))) tt told
stand stride (Synced (suc skip)) place (b ∷ bytes) = earlier place (place + 1) (framed_from stride (Synced skip) (place + 1) bytes) (omega arith) (stand stride (Synced skip) (place + 1) bytes)

time_grows : (rate a b : ℕ) → 0 < rate → a ≤ b → time_of a rate ≤ time_of b rate
time_grows rate a b r l = le-div (a * 216000000 / rate) (b * 216000000) rate r (omega (arith, l, div-mul-le_self (a * 216000000) rate))

stamp_grows : (origin : OriginValue) (a b : ℕ) → 0 < origin.rate → a ≤ b → stamp_at origin a ≤ stamp_at origin b
stamp_grows origin a b r l = let grown = time_grows origin.rate (a + 10) (b + 10) r (omega (arith, l)) in omega (arith, grown)

since : (s t : ℕ) (items : List Stamped) → s ≤ t → ComeFrom t items → ComeFrom s items
since s t [] l c = tt
since s t (item ∷ items) l c = (omega (arith, l, c.0), c.1)

come : (schedule : ScheduleValue) (origin : OriginValue) (n : ℕ) (items : List Item) → 0 < origin.rate → StandFrom n items → ComeFrom (stamp_at origin n) (takeable schedule origin items)
come schedule origin n [] r s = tt
come schedule origin n (Packet place bytes ∷ items) r s =
    let rest = come schedule origin (place + 1) items r s.1 in
    let here = stamp_grows origin n place r s.0 in
    let next = stamp_grows origin place (place + 1) r (omega arith) in
    let skipped : ComeFrom (stamp_at origin n) (takeable schedule origin items) = since _ _ _ (omega (arith, here, next)) rest in
    elim (cases_Bool (is_well_formed bytes)) [
      | inl e ↦ elim (cases_Bool (is_named schedule origin place bytes)) [
        | inl f ↦ rw e (rw f (here, since _ _ _ next rest))
        | inr f ↦ rw e (rw f skipped)
      ]
      | inr e ↦ rw e skipped
    ]
come schedule origin n (Bad place ∷ items) r s = come schedule origin n items r s
come schedule origin n (SyncLoss place ∷ items) r s = come schedule origin n items r s
come schedule origin n (Lost count ∷ items) r s = come schedule origin n items r s

pub come_in_order : PacketsComeInOrder
come_in_order schedule origin bytes r = since 0 _ _ (omega arith) (come schedule origin 0 (framed_at origin bytes) r (stand (stride_at origin) (Hunting 0) 0 bytes))

-- An input has at most so many packets.

-- a packet more
one_more : (stride count weight : ℕ) → stride * count ≤ weight → stride * suc count ≤ stride + weight
one_more stride count weight few = omega (arith, few, mul-suc stride count)

weigh : (schedule : ScheduleValue) (origin : OriginValue) (stride : ℕ) (items : List Item) → stride * length (takeable schedule origin items) ≤ sum_by (covered stride) items
weigh schedule origin stride [] = omega arith
weigh schedule origin stride (Packet place bytes ∷ items) =
    let rest = weigh schedule origin stride items in
    let sum = sum_by-cons (covered stride) (Packet place bytes) items in
    let more = one_more stride (length (takeable schedule origin items)) (sum_by (covered stride) items) rest in
    elim (cases_Bool (is_well_formed bytes)) [
      | inl e ↦ elim (cases_Bool (is_named schedule origin place bytes)) [ inl f ↦ rw (e, f) (omega (arith, more, sum)) | inr f ↦ rw (e, f) (omega (arith, rest, sum)) ]
      | inr e ↦ rw e (omega (arith, rest, sum))
    ]
weigh schedule origin stride (Bad place ∷ items) = let rest = weigh schedule origin stride items in omega (arith, rest, sum_by-cons (covered stride) (Bad place) items)
weigh schedule origin stride (SyncLoss place ∷ items) = let rest = weigh schedule origin stride items in omega (arith, rest, sum_by-cons (covered stride) (SyncLoss place) items)
weigh schedule origin stride (Lost count ∷ items) = let rest = weigh schedule origin stride items in omega (arith, rest, sum_by-cons (covered stride) (Lost count) items)

-- a packet has room between one and the next
long_enough : (size : PacketSize) → 188 ≤ stride_of size
long_enough Ts188 = omega arith
long_enough Ts204 = omega arith

pub are_few : PacketsAreFew
are_few schedule origin bytes =
    let stride = stride_at origin in
    let weight = weigh schedule origin stride (framed_at origin bytes) in
    let covers = covered-framed stride bytes (long_enough origin.size) in
    omega (arith, weight, covers.no_more)

-- so few are no more than the bytes
fewer_than : (size : PacketSize) (count bytes : ℕ) → stride_of size * count ≤ bytes + (stride_of size - 188) → count ≤ bytes
fewer_than Ts188 count bytes few = omega (arith, few)
fewer_than Ts204 count bytes few = omega (arith, few)

pub fewer_than_bytes : (schedule : ScheduleValue) (origin : OriginValue) (bytes : List ℕ) → length (takeable schedule origin (framed_at origin bytes)) ≤ length bytes
fewer_than_bytes schedule origin bytes = fewer_than origin.size (length (takeable schedule origin (framed_at origin bytes))) (length bytes) (are_few schedule origin bytes)
