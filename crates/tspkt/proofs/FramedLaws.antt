-- What the definition of framing means: its items cover the stream, packets are the bytes at their places, and
-- whole packets are found.
use Rattle.std.proofs.Common.{◌≡◌, ℕ, zero, suc, ◌+◌, ◌-◌, ◌*◌, ◌<◌, ◌≤◌, List, [], ◌∷◌, ◌++◌, length, take, drop, get_or, refl, sym, ◌∙◌, ap, subst, arith, Bool, true, false, if◌then◌else◌, ⊎_elim, ltb, ◌&&◌, ◌==◌, All}
use Rattle.std.specs.List.{AllByRecursion, flat_map, sum_by}
use Rattle.std.proofs.lemmas.List.Sums.{sum_by-cons, sum_by-append}
use Rattle.std.proofs.lemmas.List.Elements.{All-from_recursion, recursion_from_All}
use Rattle.std.proofs.lemmas.List.{append_assoc, append-nil, drop-drop, drop_at, drop_all, drop-append-le, take-append-le, length-drop, length-append, get_or_append_left, get_or-append_right}
use Rattle.std.proofs.Math.Nat.{suc-mul, mul-le-mul_right}
use Rattle.std.proofs.lemmas.Bool.{cases_Bool, cases_lt}
use Rattle.std.proofs.lemmas.Bool.Decides.{nat_tests}
use Rattle.tspkt.specs.PacketSize.{stride_of}
use Rattle.tspkt.specs.declared.packet_size.PacketSize.{PacketSize}
use Rattle.tspkt.specs.declared.packet_size.PacketSize.TheVariants.{Ts188, Ts204}
use Rattle.tspkt.specs.Framed.{framed, framed_from, is_sync, acquires_sync, keeps_sync, lost, covered, IsCovered, IsAtItsPlace, IsWhole, packets_at, ExactOnPackets, ExactOnLastPacket}
use Rattle.tspkt.specs.declared.item.Item.{Item}
use Rattle.tspkt.specs.declared.item.Item.TheVariants.{Packet, Bad, SyncLoss, Lost}
use Rattle.tspkt.specs.declared.mode.Mode.{Mode}
use Rattle.tspkt.specs.declared.mode.Mode.TheVariants.{Hunting, Synced}
use Rattle.tspkt.proofs.FramingLaws.{short, passed, told_packet, told_whole, acquired_whole, synced_ends}

-- a packet has room in what lies from one to the next
pub stride_long : (size : PacketSize) → 188 ≤ stride_of size
stride_long Ts188 = omega arith
stride_long Ts204 = omega arith

-- sync is acquired only where a fifth sync byte is there
acquired_long : (stride : ℕ) (bytes : List ℕ) → acquires_sync stride bytes ≡ true → 4 * stride < length bytes
acquired_long stride bytes h =
    ⊎_elim
    (λ (l : 4 * stride < length bytes). l)
    (λ (l : length bytes ≤ 4 * stride). let bad : true ≡ false = sym h ∙ short stride bytes l in cc)
    (cases_lt (4 * stride) (length bytes))

sum-lost : (stride from place : ℕ) → sum_by (covered stride) (lost from place) ≡ place - from
sum-lost stride from place =
    ⊎_elim
    (λ (l : from < place). let t : ltb from place ≡ true = grind (arith, nat_tests) in rw t (sum_by-cons (covered stride) (Lost (place - from)) [] ∙ omega arith))
    (λ (l : place ≤ from). let f : ltb from place ≡ false = grind (arith, nat_tests) in rw f (omega arith))
    (cases_lt from place)

-- bytes that are passed over, and bytes of a loss that began before
abbrev passed_over : Mode → ℕ
passed_over (Hunting from) = 0
passed_over (Synced skip) = skip

abbrev lost_before : Mode → ℕ → ℕ
lost_before (Hunting from) place = place - from
lost_before (Synced skip) place = 0

-- behind the last packet some of the bytes that are passed over may lack
abbrev Fits : ℕ → Mode → ℕ → List ℕ → Type 0
Fits stride (Hunting from) place bytes = from ≤ place
Fits stride (Synced skip) place bytes = skip ≤ length bytes + (stride - 188)

-- the items and the bytes that are passed over cover what was lost before and what is left, and what lacks
record Covers (stride : ℕ) (mode : Mode) (place : ℕ) (bytes : List ℕ) : Type 0 where
  all : lost_before mode place + length bytes ≤ sum_by (covered stride) (framed_from stride mode place bytes) + passed_over mode
  no_more : sum_by (covered stride) (framed_from stride mode place bytes) + passed_over mode ≤ lost_before mode place + length bytes + (stride - 188)

cover : (stride : ℕ) (mode : Mode) (place : ℕ) (bytes : List ℕ) → 188 ≤ stride → Fits stride mode place bytes → Covers stride mode place bytes
unfolding framed_from
cover stride (Hunting from) place [] w h = record { all = omega (arith, sum-lost stride from place); no_more = omega (arith, sum-lost stride from place) }
cover stride (Hunting from) place (b ∷ bytes) w h =
    ⊎_elim
    (λ (t : acquires_sync stride (b ∷ bytes) ≡ true).
    let long = acquired_long stride (b ∷ bytes) t in
    let rest = cover stride (Synced (stride - 1)) (place + 1) bytes w (omega arith) in
    let tail = framed_from stride (Synced (stride - 1)) (place + 1) bytes in
    let item = Packet place (take 188 (b ∷ bytes)) in
    let sum = sum_by-append (covered stride) (lost from place) (item ∷ tail) in
    let last = sum_by-cons (covered stride) item tail in
    record {
      all = rw t (omega (arith, sum, sum-lost stride from place, last, rest.all));
      no_more = rw t (omega (arith, sum, sum-lost stride from place, last, rest.no_more));
    })
    (λ (f : acquires_sync stride (b ∷ bytes) ≡ false).
    let rest = cover stride (Hunting from) (place + 1) bytes w (omega arith) in
    record { all = rw f (omega (arith, rest.all)); no_more = rw f (omega (arith, rest.no_more)) })
    (cases_Bool (acquires_sync stride (b ∷ bytes)))
cover stride (Synced skip) place [] w h = record { all = omega arith; no_more = omega arith }
cover stride (Synced zero) place (b ∷ bytes) w h =
    ⊎_elim
    (λ (l : suc (length bytes) < 188).
    let t : ltb (suc (length bytes)) 188 ≡ true = grind (arith, nat_tests) in
    let sum = sum_by-cons (covered stride) (Lost (suc (length bytes))) [] in
    record { all = rw t (omega (arith, sum)); no_more = rw t (omega (arith, sum)) })
    (λ (l : 188 ≤ suc (length bytes)).
    let f : ltb (suc (length bytes)) 188 ≡ false = grind (arith, nat_tests) in
    let rest = cover stride (Synced (stride - 1)) (place + 1) bytes w (omega arith) in
    let tail = framed_from stride (Synced (stride - 1)) (place + 1) bytes in
    ⊎_elim
    (λ (s : is_sync (b ∷ bytes) 0 ≡ true).
    let sum = sum_by-cons (covered stride) (Packet place (take 188 (b ∷ bytes))) tail in
    record { all = rw (f, s) (omega (arith, rest.all, sum)); no_more = rw (f, s) (omega (arith, rest.no_more, sum)) })
    (λ (s : is_sync (b ∷ bytes) 0 ≡ false).
    ⊎_elim
    (λ (k : keeps_sync stride (b ∷ bytes) ≡ true).
    let sum = sum_by-cons (covered stride) (Bad place) tail in
    record { all = rw (f, s, k) (omega (arith, rest.all, sum)); no_more = rw (f, s, k) (omega (arith, rest.no_more, sum)) })
    (λ (k : keeps_sync stride (b ∷ bytes) ≡ false).
    let hunt = cover stride (Hunting place) (place + 1) bytes w (omega arith) in
    let sum = sum_by-cons (covered stride) (SyncLoss place) (framed_from stride (Hunting place) (place + 1) bytes) in
    record { all = rw (f, s, k) (omega (arith, hunt.all, sum)); no_more = rw (f, s, k) (omega (arith, hunt.no_more, sum)) })
    (cases_Bool (keeps_sync stride (b ∷ bytes))))
    (cases_Bool (is_sync (b ∷ bytes) 0)))
    (cases_lt (suc (length bytes)) 188)
cover stride (Synced (suc skip)) place (b ∷ bytes) w h =
    let rest = cover stride (Synced skip) (place + 1) bytes w (omega arith) in
    record { all = omega (arith, rest.all); no_more = omega (arith, rest.no_more) }

-- the items cover the stream
pub covered-framed : (stride : ℕ) (bytes : List ℕ) → 188 ≤ stride → IsCovered stride bytes (framed stride bytes)
covered-framed stride bytes w =
    let h = cover stride (Hunting 0) 0 bytes w (omega arith) in
    record { all = omega (arith, h.all); no_more = omega (arith, h.no_more) }

pub sum-framed : (bytes : List ℕ) → sum_by (covered 188) (framed 188 bytes) ≡ length bytes
sum-framed bytes = let h = covered-framed 188 bytes (omega arith) in omega (arith, h.all, h.no_more)

-- ---- each packet is its bytes at its place

-- the rest of the stream, a byte further
one_on : (stream : List ℕ) (place : ℕ) (b : ℕ) (bytes : List ℕ) → b ∷ bytes ≡ drop place stream → bytes ≡ drop (place + 1) stream
one_on stream place b bytes h = ap (drop 1) h ∙ drop-drop 1 place stream

-- 188 bytes that begin with the sync byte are a packet at their place
packet_there : (stream : List ℕ) (place b : ℕ) (bytes : List ℕ) → b ∷ bytes ≡ drop place stream → 188 ≤ length (b ∷ bytes) → is_sync (b ∷ bytes) 0 ≡ true → IsAtItsPlace stream (Packet place (take 188 (b ∷ bytes)))
packet_there stream place b bytes h l s =
    let long : length (drop place stream) ≡ suc (length bytes) = sym (ap length h) in
    (omega (arith, long, length-drop place stream), ap (take 188) h, s)

first_of_five : (a b c d e : Bool) → ((((a && b) && c) && d) && e) ≡ true → a ≡ true
first_of_five true b c d e h = refl
first_of_five false b c d e h = h

acquired_first : (stride : ℕ) (bytes : List ℕ) → acquires_sync stride bytes ≡ true → is_sync bytes 0 ≡ true
acquired_first stride bytes h = first_of_five (is_sync bytes 0) (is_sync bytes stride) (is_sync bytes (2 * stride)) (is_sync bytes (3 * stride)) (is_sync bytes (4 * stride)) h

lost_places : (stream : List ℕ) (from place : ℕ) (rest : List Item) → AllByRecursion (IsAtItsPlace stream) rest → AllByRecursion (IsAtItsPlace stream) (lost from place ++ rest)
lost_places stream from place rest h = elim (ltb from place) as (λ v. AllByRecursion (IsAtItsPlace stream) ((if v then Lost (place - from) ∷ [] else []) ++ rest)) [ true ↦ (tt, h) | false ↦ h ]

places : (stride : ℕ) (stream : List ℕ) (mode : Mode) (place : ℕ) (bytes : List ℕ) → 188 ≤ stride → bytes ≡ drop place stream → AllByRecursion (IsAtItsPlace stream) (framed_from stride mode place bytes)
unfolding framed_from
places stride stream (Hunting from) place [] w h = subst (AllByRecursion (IsAtItsPlace stream)) (append-nil (lost from place)) (lost_places stream from place [] tt)
places stride stream (Hunting from) place (b ∷ bytes) w h =
    ⊎_elim
    (λ (t : acquires_sync stride (b ∷ bytes) ≡ true).
    let long = acquired_long stride (b ∷ bytes) t in
    rw t (lost_places stream from place (Packet place (take 188 (b ∷ bytes)) ∷ framed_from stride (Synced (stride - 1)) (place + 1) bytes)
    (packet_there stream place b bytes h (omega arith) (acquired_first stride (b ∷ bytes) t), places stride stream (Synced (stride - 1)) (place + 1) bytes w (one_on stream place b bytes h))))
    (λ (f : acquires_sync stride (b ∷ bytes) ≡ false). rw f (places stride stream (Hunting from) (place + 1) bytes w (one_on stream place b bytes h)))
    (cases_Bool (acquires_sync stride (b ∷ bytes)))
places stride stream (Synced skip) place [] w h = tt
places stride stream (Synced zero) place (b ∷ bytes) w h =
    let on = one_on stream place b bytes h in
    ⊎_elim
    (λ (l : suc (length bytes) < 188).
    let t : ltb (suc (length bytes)) 188 ≡ true = grind (arith, nat_tests) in
    rw t (tt, tt))
    (λ (l : 188 ≤ suc (length bytes)).
    let f : ltb (suc (length bytes)) 188 ≡ false = grind (arith, nat_tests) in
    ⊎_elim
    (λ (s : is_sync (b ∷ bytes) 0 ≡ true). rw (f, s) (packet_there stream place b bytes h l s, places stride stream (Synced (stride - 1)) (place + 1) bytes w on))
    (λ (s : is_sync (b ∷ bytes) 0 ≡ false).
    ⊎_elim
    (λ (k : keeps_sync stride (b ∷ bytes) ≡ true). rw (f, s, k) (tt, places stride stream (Synced (stride - 1)) (place + 1) bytes w on))
    (λ (k : keeps_sync stride (b ∷ bytes) ≡ false). rw (f, s, k) (tt, places stride stream (Hunting place) (place + 1) bytes w on))
    (cases_Bool (keeps_sync stride (b ∷ bytes))))
    (cases_Bool (is_sync (b ∷ bytes) 0)))
    (cases_lt (suc (length bytes)) 188)
places stride stream (Synced (suc skip)) place (b ∷ bytes) w h = places stride stream (Synced skip) (place + 1) bytes w (one_on stream place b bytes h)

pub places-framed : (stride : ℕ) (bytes : List ℕ) → 188 ≤ stride → All (IsAtItsPlace bytes) (framed stride bytes)
places-framed stride bytes w = All-from_recursion (IsAtItsPlace bytes) (framed stride bytes) (places stride bytes (Hunting 0) 0 bytes w refl)

-- ---- whole packets are found

-- the bytes of packets, one behind the other
abbrev joined : List (List ℕ) → List ℕ
joined packets = flat_map (λ (packet : List ℕ). packet) packets

first_sync : (stride : ℕ) (q : List ℕ) (qs : List (List ℕ)) (rest : List ℕ) → 188 ≤ stride → AllByRecursion (IsWhole stride) (q ∷ qs) → is_sync (joined (q ∷ qs) ++ rest) 0 ≡ true
first_sync stride q qs rest w h =
    let here : get_or ((q ++ joined qs) ++ rest) 0 0 ≡ get_or q 0 0 =
    (get_or_append_left (q ++ joined qs) rest 0 0 (omega (arith, length-append q (joined qs), h.0.0)) ∙ get_or_append_left q (joined qs) 0 0 (omega (arith, h.0.0))) in
    ap (λ (n : ℕ). n == 71) here ∙ h.0.1

-- each of them begins with the sync byte
sync-joined : (stride : ℕ) (packets : List (List ℕ)) (rest : List ℕ) (k : ℕ) → 188 ≤ stride → AllByRecursion (IsWhole stride) packets → k < length packets → is_sync (joined packets ++ rest) (k * stride) ≡ true
sync-joined stride [] rest k w h l = absurd (omega arith)
sync-joined stride (q ∷ qs) rest zero w h l =
    let first : 0 ≡ zero * stride = omega arith in
    ap (λ (n : ℕ). is_sync (joined (q ∷ qs) ++ rest) n) (sym first) ∙ first_sync stride q qs rest w h
sync-joined stride (q ∷ qs) rest (suc k) w h l =
    let next = suc-mul k stride in
    let place : suc k * stride - stride ≡ k * stride = omega (arith, next) in
    let there : get_or ((q ++ joined qs) ++ rest) (suc k * stride) 0 ≡ get_or (joined qs ++ rest) (k * stride) 0 =
    (ap (λ (v : List ℕ). get_or v (suc k * stride) 0) (append_assoc q (joined qs) rest)
    ∙ get_or-append_right q (joined qs ++ rest) stride (suc k * stride) 0 h.0.0 (omega (arith, next))
    ∙ ap (λ (n : ℕ). get_or (joined qs ++ rest) n 0) place) in
    ap (λ (n : ℕ). n == 71) there ∙ sync-joined stride qs rest k w h.1 (omega arith)

-- the first packet of a stream, and what is left behind it
first_packet : (stride : ℕ) (q : List ℕ) (qs : List (List ℕ)) (rest : List ℕ) → 188 ≤ stride → IsWhole stride q → (take 188 ((q ++ joined qs) ++ rest) ≡ take 188 q) × (drop stride ((q ++ joined qs) ++ rest) ≡ joined qs ++ rest)
first_packet stride q qs rest w h =
    let e = append_assoc q (joined qs) rest in
    (ap (take 188) e ∙ take-append-le 188 q (joined qs ++ rest) (omega (arith, h.0)), ap (drop stride) e ∙ drop_at q (joined qs ++ rest) stride h.0)

synced_packets : (stride : ℕ) (packets : List (List ℕ)) (rest : List ℕ) (place : ℕ) → 188 ≤ stride → AllByRecursion (IsWhole stride) packets → length rest < 188 → framed_from stride (Synced 0) place (joined packets ++ rest) ≡ packets_at stride place packets ++ lost 0 (length rest)
unfolding framed_from
synced_packets stride [] [] place w h l = refl
synced_packets stride [] (b ∷ rest) place w h l =
    let t : ltb 0 (suc (length rest)) ≡ true = grind (arith, nat_tests) in
    let whole : suc (length rest) - 0 ≡ suc (length rest) = omega arith in
    synced_ends stride place (b ∷ rest) (omega arith) l ∙ sym (rw (t, whole) refl)
synced_packets stride (q ∷ qs) rest place w h l =
    let bytes = (q ++ joined qs) ++ rest in
    let long : stride ≤ length bytes = omega (arith, length-append (q ++ joined qs) rest, length-append q (joined qs), h.0.0) in
    let f = first_packet stride q qs rest w h.0 in
    told_whole stride place bytes w long (first_sync stride q qs rest w h)
    ∙ ap (λ (v : List ℕ). Packet place v ∷ framed_from stride (Synced 0) (place + stride) (drop stride bytes)) f.0
    ∙ ap (λ (v : List ℕ). Packet place (take 188 q) ∷ framed_from stride (Synced 0) (place + stride) v) f.1
    ∙ ap (λ (v : List Item). Packet place (take 188 q) ∷ v) (synced_packets stride qs rest (place + stride) w h.1 l)

five_true : (a b c d e : Bool) → a ≡ true → b ≡ true → c ≡ true → d ≡ true → e ≡ true → ((((a && b) && c) && d) && e) ≡ true
five_true a b c d e p q r s t = rw (p, q, r, s, t) refl

pub packets-framed : (stride : ℕ) (stream : List ℕ) → 188 ≤ stride → ExactOnPackets stride stream (framed stride stream)
packets-framed stride stream w [] rest five all l e = absurd (omega arith)
packets-framed stride stream w (q ∷ qs) rest five all l e =
    let h = recursion_from_All (IsWhole stride) (q ∷ qs) all in
    let bytes = joined (q ∷ qs) ++ rest in
    let sync = λ (k : ℕ) (x : k < 5). sync-joined stride (q ∷ qs) rest k w h (omega arith) in
    let one : 1 * stride ≡ stride = omega arith in
    let second : is_sync bytes stride ≡ true = ap (λ (n : ℕ). is_sync bytes n) (sym one) ∙ sync 1 (omega arith) in
    let acquired : acquires_sync stride bytes ≡ true = five_true (is_sync bytes 0) (is_sync bytes stride) (is_sync bytes (2 * stride)) (is_sync bytes (3 * stride)) (is_sync bytes (4 * stride)) (first_sync stride q qs rest w h) second (sync 2 (omega arith)) (sync 3 (omega arith)) (sync 4 (omega arith)) in
    let f = first_packet stride q qs rest w h.0 in
    ap (framed stride) e
    ∙ acquired_whole stride 0 0 bytes w (acquired_long stride bytes acquired) acquired
    ∙ ap (λ (v : List ℕ). lost 0 0 ++ Packet 0 v ∷ framed_from stride (Synced 0) (0 + stride) (drop stride bytes)) f.0
    ∙ ap (λ (v : List ℕ). lost 0 0 ++ Packet 0 (take 188 q) ∷ framed_from stride (Synced 0) (0 + stride) v) f.1
    ∙ ap (λ (v : List Item). Packet 0 (take 188 q) ∷ v) (synced_packets stride qs rest (0 + stride) w h.1 l)

-- ---- some of the bytes behind the last packet lack

length-joined : (stride : ℕ) (packets : List (List ℕ)) → AllByRecursion (IsWhole stride) packets → length (joined packets) ≡ length packets * stride
length-joined stride [] h = omega arith
length-joined stride (q ∷ qs) h = omega (arith, length-append q (joined qs), h.0.0, length-joined stride qs h.1, suc-mul (length qs) stride)

-- a packet, and maybe others, at the front of a stream that lacks bytes at its end
module _ (stride : ℕ) (q : List ℕ) (qs : List (List ℕ)) (bytes lacking : List ℕ) (w : 188 ≤ stride) (h : IsWhole stride q) (l : length lacking ≤ stride - 188) (e : bytes ++ lacking ≡ q ++ joined qs) where
  front_long : length bytes + length lacking ≡ stride + length (joined qs)
  front_long = sym (length-append bytes lacking) ∙ ap length e ∙ length-append q (joined qs) ∙ ap (λ (n : ℕ). n + length (joined qs)) h.0

  front_whole : 188 ≤ length bytes
  front_whole = omega (arith, front_long, l, w)

  front_take : take 188 bytes ≡ take 188 q
  front_take =
      sym (take-append-le 188 bytes lacking front_whole) ∙ ap (take 188) e ∙ take-append-le 188 q (joined qs) (omega (arith, h.0))

  front_sync : is_sync bytes 0 ≡ true
  front_sync =
      let some : 0 < length bytes = omega (arith, front_whole) in
      let here : get_or bytes 0 0 ≡ get_or q 0 0 =
      (sym (get_or_append_left bytes lacking 0 0 some) ∙ ap (λ (v : List ℕ). get_or v 0 0) e ∙ get_or_append_left q (joined qs) 0 0 (omega (arith, h.0))) in
      ap (λ (n : ℕ). n == 71) here ∙ h.1

  front_drop : stride ≤ length bytes → drop stride bytes ++ lacking ≡ joined qs
  front_drop long = sym (drop-append-le stride bytes lacking long) ∙ ap (drop stride) e ∙ drop_at q (joined qs) stride h.0

-- less than what lies behind a packet tells nothing
passed_all : (stride skip place : ℕ) (bytes : List ℕ) → length bytes ≤ skip → framed_from stride (Synced skip) place bytes ≡ []
unfolding framed_from
passed_all stride skip place bytes l =
    passed stride skip (length bytes) place bytes l (omega arith)
    ∙ ap (framed_from stride (Synced (skip - length bytes)) (place + length bytes)) (drop_all (length bytes) bytes (omega arith))

synced_last : (stride : ℕ) (packets : List (List ℕ)) (bytes lacking : List ℕ) (place : ℕ) → 188 ≤ stride → AllByRecursion (IsWhole stride) packets → length lacking ≤ stride - 188 → bytes ++ lacking ≡ joined packets → framed_from stride (Synced 0) place bytes ≡ packets_at stride place packets
unfolding framed_from
synced_last stride [] [] lacking place w h l e = refl
synced_last stride [] (b ∷ bytes) lacking place w h l e = let bad : suc (length (bytes ++ lacking)) ≡ 0 = ap length e in absurd (omega arith)
synced_last stride (q ∷ []) bytes lacking place w h l e =
    let long = front_long stride q [] bytes lacking w h.0 l e in
    told_packet stride place bytes w (front_whole stride q [] bytes lacking w h.0 l e) (front_sync stride q [] bytes lacking w h.0 l e)
    ∙ ap (λ (v : List ℕ). Packet place v ∷ framed_from stride (Synced (stride - 188)) (place + 188) (drop 188 bytes)) (front_take stride q [] bytes lacking w h.0 l e)
    ∙ ap (λ (v : List Item). Packet place (take 188 q) ∷ v) (passed_all stride (stride - 188) (place + 188) (drop 188 bytes) (simp length-drop (omega (arith, long))))
synced_last stride (q ∷ r ∷ qs) bytes lacking place w h l e =
    let whole = front_long stride q (r ∷ qs) bytes lacking w h.0 l e in
    let long : stride ≤ length bytes = omega (arith, whole, length-append r (joined qs), h.1.0.0, l) in
    told_whole stride place bytes w long (front_sync stride q (r ∷ qs) bytes lacking w h.0 l e)
    ∙ ap (λ (v : List ℕ). Packet place v ∷ framed_from stride (Synced 0) (place + stride) (drop stride bytes)) (front_take stride q (r ∷ qs) bytes lacking w h.0 l e)
    ∙ ap (λ (v : List Item). Packet place (take 188 q) ∷ v) (synced_last stride (r ∷ qs) (drop stride bytes) lacking (place + stride) w h.1 l (front_drop stride q (r ∷ qs) bytes lacking w h.0 l e long))

pub last-framed : (stride : ℕ) (stream : List ℕ) → 188 ≤ stride → ExactOnLastPacket stride stream (framed stride stream)
last-framed stride stream w [] lacking five all l e = absurd (omega arith)
last-framed stride stream w (q ∷ qs) lacking five all l e =
    let h = recursion_from_All (IsWhole stride) (q ∷ qs) all in
    let size = length-joined stride (q ∷ qs) h in
    let most : 5 * stride ≤ length (q ∷ qs) * stride = mul-le-mul_right stride five in
    let sum : length stream + length lacking ≡ length (joined (q ∷ qs)) = (sym (length-append stream lacking) ∙ ap length e) in
    let long : 4 * stride + 188 ≤ length stream = omega (arith, size, most, sum, l, w) in
    let sync = λ (k : ℕ) (x : k < 5) (y : k * stride < length stream).
    (ap (λ (n : ℕ). n == 71) (sym (get_or_append_left stream lacking 0 (k * stride) y) ∙ ap (λ (v : List ℕ). get_or v (k * stride) 0) (e ∙ sym (append-nil (joined (q ∷ qs)))))
    ∙ sync-joined stride (q ∷ qs) [] k w h (omega arith)) in
    let one : 1 * stride ≡ stride = omega arith in
    let second : is_sync stream stride ≡ true = ap (λ (n : ℕ). is_sync stream n) (sym one) ∙ sync 1 (omega arith) (omega (arith, long, w)) in
    let first = front_sync stride q qs stream lacking w h.0 l e in
    let acquired : acquires_sync stride stream ≡ true = five_true (is_sync stream 0) (is_sync stream stride) (is_sync stream (2 * stride)) (is_sync stream (3 * stride)) (is_sync stream (4 * stride)) first second (sync 2 (omega arith) (omega (arith, long, w))) (sync 3 (omega arith) (omega (arith, long, w))) (sync 4 (omega arith) (omega (arith, long, w))) in
    let behind : stride ≤ length stream = omega (arith, long) in
    acquired_whole stride 0 0 stream w (omega (arith, long)) acquired
    ∙ ap (λ (v : List ℕ). lost 0 0 ++ Packet 0 v ∷ framed_from stride (Synced 0) (0 + stride) (drop stride stream)) (front_take stride q qs stream lacking w h.0 l e)
    ∙ ap (λ (v : List Item). Packet 0 (take 188 q) ∷ v) (synced_last stride qs (drop stride stream) lacking (0 + stride) w h.1 l (front_drop stride q qs stream lacking w h.0 l e behind))
