-- A section's packets, each with the counter 0.
use Rattle.std.proofs.Common.{arith, ◌≡◌, ℕ, ◌+◌, ◌*◌, ◌/◌, ◌%◌, ◌<◌, ◌==◌, if◌then◌else◌, List, [], ◌∷◌, ◌++◌, length, take, drop, set, get_or, refl, sym, ap, ◌∙◌, None, length-append, length-drop}
use Rattle.std.specs.List.{flat_map}
use Rattle.std.proofs.lemmas.List.{take-append-drop, get_or_default, take_more}
use Rattle.std.proofs.lemmas.Grind.{flat_map-append}
use Rattle.std.proofs.Math.Seq.{drop-append_seam, take-append_seam}
use Rattle.tspkt.specs.Bits.{field}
use Rattle.tspkt.specs.Packet.{fault_of, payload_of}
use Rattle.tspkt.proofs.PacketFields.{payload_at, adaptation_at}
use Rattle.section.specs.Packetized.{header_of, stuffed}
use Rattle.section.proofs.PartLaws.{part_accepted}
use Rattle.output_tables.specs.Output.{table_packet}
use Rattle.output_tables.proofs.ListLaws.{rest_split}

-- the header that is written is that of a first counter with which the packet's is 0
header_with_0 : (pid k : ℕ) → header_of pid (15 * k) k ≡ take 3 (header_of pid 0 k) ++ 0x10 ∷ []
header_with_0 pid k =
    let none : (15 * k + k) % 16 ≡ 0 = omega arith in
    ap (λ (n : ℕ). 0x47 ∷ ((if k == 0 then 64 else 0) + pid / 256) ∷ pid % 256 ∷ (16 + n) ∷ []) none

-- the packet of this header and this payload, with the counter 0
pub packet_with_0 : (pid k : ℕ) (section p : List ℕ) → take 4 p ≡ header_of pid 0 k → drop 4 p ≡ take 184 (drop (184 * k) (stuffed section)) → set p 3 0x10 ≡ table_packet pid section k
packet_with_0 pid k section p h e =
    let payload = take 184 (drop (184 * k) (stuffed section)) in
    let whole : p ≡ header_of pid 0 k ++ payload = sym (take-append-drop 4 p) ∙ ap (λ (l : List ℕ). l ++ drop 4 p) h ∙ ap (λ (l : List ℕ). header_of pid 0 k ++ l) e in
    ap (λ (l : List ℕ). set l 3 0x10) whole

-- and it has no fault
pub packet_accepted : (pid k : ℕ) (section : List ℕ) → fault_of (table_packet pid section k) ≡ None
packet_accepted pid k section =
    let payload = take 184 (drop (184 * k) (stuffed section)) in
    ap (λ (l : List ℕ). fault_of (l ++ payload)) (sym (header_with_0 pid k)) ∙ part_accepted pid (15 * k) k payload

-- a packet with such a header has payload only
pub plain_payload : (pid k : ℕ) (p : List ℕ) → take 4 p ≡ header_of pid 0 k → payload_of p ≡ drop 4 p
plain_payload pid k p h =
    let whole : p ≡ header_of pid 0 k ++ drop 4 p = sym (take-append-drop 4 p) ∙ ap (λ (l : List ℕ). l ++ drop 4 p) h in
    let third : get_or p 3 0 ≡ 16 + (0 + k) % 16 = ap (λ (l : List ℕ). get_or l 3 0) whole in
    let y : field p 27 1 ≡ 1 = omega (arith, payload_at p) in
    let n : field p 26 1 ≡ 0 = omega (arith, adaptation_at p) in
    rw (y, n) refl

-- the payload of a packet, where those before it are 184 bytes long
pub payload_is : (packets : List (List ℕ)) (section : List ℕ) (i : ℕ) (p : List ℕ) → i < length packets → p ≡ get_or packets i p → flat_map payload_of packets ≡ stuffed section → length (flat_map payload_of (take i packets)) ≡ 184 * i → length (payload_of p) ≡ 184 → payload_of p ≡ take 184 (drop (184 * i) (stuffed section))
payload_is packets section i p l e all before size =
    let front = flat_map payload_of (take i packets) in
    let back = flat_map payload_of (drop (i + 1) packets) in
    let parts : stuffed section ≡ front ++ (payload_of p ++ back) =
    sym all
    ∙ ap (flat_map payload_of) (sym (take-append-drop i packets))
    ∙ flat_map-append payload_of (take i packets) (drop i packets)
    ∙ ap (λ (r : List (List ℕ)). front ++ flat_map payload_of r) (rest_split packets i p l e) in
    let rest : drop (184 * i) (stuffed section) ≡ payload_of p ++ back =
    ap (drop (184 * i)) parts ∙ ap (λ (n : ℕ). drop n (front ++ (payload_of p ++ back))) (sym before) ∙ drop-append_seam front (payload_of p ++ back) in
    sym (ap (take 184) rest ∙ ap (λ (n : ℕ). take n (payload_of p ++ back)) (sym size) ∙ take-append_seam (payload_of p) back)

-- one more of them
pub payloads_more : (packets : List (List ℕ)) (i : ℕ) (p : List ℕ) → i < length packets → p ≡ get_or packets i p → length (flat_map payload_of (take i packets)) ≡ 184 * i → length (payload_of p) ≡ 184 → length (flat_map payload_of (take (i + 1) packets)) ≡ 184 * (i + 1)
payloads_more packets i p l e before size =
    let more : take (i + 1) packets ≡ take i packets ++ p ∷ [] = take_more packets i p l ∙ ap (λ (x : List ℕ). take i packets ++ x ∷ []) (sym e) in
    let parts = ap (λ (x : List (List ℕ)). length (flat_map payload_of x)) more
    ∙ ap length (flat_map-append payload_of (take i packets) (p ∷ []))
    ∙ length-append (flat_map payload_of (take i packets)) (payload_of p ++ []) in
    let one = length-append (payload_of p) [] in
    omega arith

-- packet i of those of a section, with the counter 0
pub packet_here : (pid : ℕ) (section : List ℕ) (packets : List (List ℕ)) (i : ℕ) (p : List ℕ) → ((k : ℕ) → k < length packets → take 4 (get_or packets k []) ≡ header_of pid 0 k) → flat_map payload_of packets ≡ stuffed section → i < length packets → p ≡ get_or packets i p → length p ≡ 188 → length (flat_map payload_of (take i packets)) ≡ 184 * i → (set p 3 0x10 ≡ table_packet pid section i) × (length (payload_of p) ≡ 184)
packet_here pid section packets i p headers all l e whole before =
    let head : take 4 p ≡ header_of pid 0 i = ap (take 4) (e ∙ get_or_default packets i p [] l) ∙ headers i l in
    let plain : payload_of p ≡ drop 4 p = plain_payload pid i p head in
    let size : length (payload_of p) ≡ 184 = ap length plain ∙ length-drop 4 p ∙ omega arith in
    (packet_with_0 pid i section p head (sym plain ∙ payload_is packets section i p l e all before size), size)
