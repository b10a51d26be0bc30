-- The fields of a table packet, with whatever counter.
use Rattle.std.proofs.Common.{ℕ, ◌+◌, ◌-◌, ◌*◌, ◌/◌, ◌%◌, ◌^◌, ◌<◌, ◌≡◌, ◌==◌, Bool, true, if◌then◌else◌, List, ◌∷◌, length, take, drop, set, get_or, replicate, None, refl, ap, ◌∙◌, sym, arith, inl, inr}
use Rattle.std.proofs.lemmas.Bool.{cases_Bool, eq-eqb}
use Rattle.std.proofs.lemmas.List.{length-append, length-take, length-drop, length-replicate}
use Rattle.tspkt.specs.Bits.{field}
use Rattle.tspkt.specs.Packet.{fault_of, has_bad_adaptation, pid_of, has_payload_of, payload_of, payload_unit_start_indicator_of, continuity_counter_of}
use Rattle.tspkt.specs.Counted.{with_counter}
use Rattle.tspkt.proofs.BitLaws.{field_in_byte}
use Rattle.tspkt.proofs.PacketFields.{sync_at, unit_start_at, pid_at, control_at, adaptation_at, payload_at, counter_at}
use Rattle.section.specs.Packetized.{packet_count_of, stuffed}
use Rattle.output_tables.specs.Output.{table_packet}

-- the part of the section, of the pointer_field and of the stuffing bytes that packet k has
abbrev pub part_of : List ℕ → ℕ → List ℕ
part_of section k = take 184 (drop (184 * k) (stuffed section))

abbrev pub second_of : ℕ → ℕ → ℕ
second_of pid k = (if k == 0 then 64 else 0) + pid / 256

-- a packet with payload only and this counter
abbrev pub counted_packet : ℕ → List ℕ → ℕ → ℕ → List ℕ
counted_packet pid section k counter = 0x47 ∷ second_of pid k ∷ pid % 256 ∷ (16 + counter) ∷ part_of section k

pub counted_is : (pid : ℕ) (section : List ℕ) (k counter : ℕ) → with_counter (table_packet pid section k) counter ≡ counted_packet pid section k counter
unfolding with_counter
counted_is pid section k counter =
    let p = table_packet pid section k in
    let high : field p 24 4 ≡ 1 = field_in_byte p 3 0 4 (omega arith) ∙ refl in
    ap (λ (n : ℕ). set p 3 (n * 16 + counter)) high

pub uncounted_is : (pid : ℕ) (section : List ℕ) (k : ℕ) → table_packet pid section k ≡ counted_packet pid section k 0
uncounted_is pid section k = refl

-- the parts of a section fill their packets
pub part_length : (section : List ℕ) (k : ℕ) → k < packet_count_of section → length (part_of section k) ≡ 184
part_length section k l =
    let n = length section in
    let whole : length (stuffed section) ≡ 184 * packet_count_of section =
    length-append (0 ∷ section) (replicate (184 * packet_count_of section - (n + 1)) 255)
    ∙ ap (λ m. length (0 ∷ section) + m) (length-replicate (184 * packet_count_of section - (n + 1)) 255) ∙ omega arith in
    length-take 184 (drop (184 * k) (stuffed section)) ∙ omega (arith, length-drop (184 * k) (stuffed section), whole)

-- what each reads
pub record IsTablePacket (pid : ℕ) (section : List ℕ) (k number : ℕ) (q : List ℕ) : Type 0 where
  pub whole : length q ≡ 188
  pub accepted : fault_of q ≡ None
  pub on_pid : pid_of q ≡ pid
  pub loaded : has_payload_of q ≡ true
  pub start : payload_unit_start_indicator_of q ≡ (k == 0)
  pub counter : continuity_counter_of q ≡ number
  pub payload : payload_of q ≡ part_of section k

second_fits : (pid k : ℕ) → pid < 2 ^ 13 → (second_of pid k % 32 ≡ pid / 256) × ((second_of pid k / 64 % 2 == 1) ≡ (k == 0))
second_fits pid k h = elim (cases_Bool (k == 0)) [
  | inl y ↦
      let e : second_of pid k ≡ 64 + pid / 256 = ap (λ (v : Bool). (if v then 64 else 0) + pid / 256) y in
      (omega arith, eq-eqb (second_of pid k / 64 % 2) 1 (omega arith) ∙ sym y)
  | inr n ↦
      let e : second_of pid k ≡ 0 + pid / 256 = ap (λ (v : Bool). (if v then 64 else 0) + pid / 256) n in
      let z : second_of pid k / 64 % 2 ≡ 0 = omega arith in
      (omega arith, ap (λ (m : ℕ). m == 1) z ∙ sym n)
]

fault_free : (p : List ℕ) → get_or p 0 0 ≡ 71 → get_or p 3 0 / 16 ≡ 1 → fault_of p ≡ None
unfolding fault_of has_bad_adaptation
fault_free p a b =
    let s : (field p 0 8 == 0x47) ≡ true = eq-eqb _ _ (omega (arith, sync_at p, a)) in
    let c : field p 26 2 ≡ 1 = omega (arith, control_at p, b) in
    let f : field p 26 1 ≡ 0 = omega (arith, adaptation_at p, b) in
    rw (s, c, f) refl

plain_payload : (p : List ℕ) → get_or p 3 0 / 16 ≡ 1 → (has_payload_of p ≡ true) × (payload_of p ≡ drop 4 p)
plain_payload p b =
    let y : field p 27 1 ≡ 1 = omega (arith, payload_at p, b) in
    let n : field p 26 1 ≡ 0 = omega (arith, adaptation_at p, b) in
    (rw y refl, rw (y, n) refl)

counted_reads : (pid : ℕ) (section : List ℕ) (k counter : ℕ) → pid < 2 ^ 13 → counter < 16 → k < packet_count_of section → IsTablePacket pid section k counter (counted_packet pid section k counter)
counted_reads pid section k counter h l m =
    let q = counted_packet pid section k counter in
    let size = part_length section k m in
    let second = second_fits pid k h in
    let plain = plain_payload q (omega arith) in
    record {
      whole = omega arith;
      accepted = fault_free q refl (omega arith);
      on_pid = pid_at q ∙ let e = second.0 in omega arith;
      loaded = plain.0;
      start = ap (λ (n : ℕ). n == 1) (unit_start_at q) ∙ second.1;
      counter = counter_at q ∙ omega arith;
      payload = plain.1;
    }

pub table_packet_reads : (pid : ℕ) (section : List ℕ) (k counter : ℕ) → pid < 2 ^ 13 → counter < 16 → k < packet_count_of section → IsTablePacket pid section k counter (with_counter (table_packet pid section k) counter)
table_packet_reads pid section k counter h l m = rw (counted_is pid section k counter) (counted_reads pid section k counter h l m)

pub uncounted_reads : (pid : ℕ) (section : List ℕ) (k : ℕ) → pid < 2 ^ 13 → k < packet_count_of section → IsTablePacket pid section k 0 (table_packet pid section k)
uncounted_reads pid section k h m = counted_reads pid section k 0 h (omega arith) m
