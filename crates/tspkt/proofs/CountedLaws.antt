-- What a packet that was given another counter keeps.
use Rattle.std.proofs.Common.{◌≡◌, ◌≢◌, inl, inr, ℕ, zero, suc, ◌+◌, ◌-◌, ◌*◌, ◌/◌, ◌%◌, ◌^◌, ◌<◌, ◌==◌, List, get_or, set, length, drop, refl, sym, ◌∙◌, ap, arith}
use Rattle.std.proofs.lemmas.Bool.{cases_lt, cases_eq, cases_Bool}
use Rattle.std.proofs.lemmas.List.{get_or-set_same, get_or-set_other, length-set, drop-set-lt}
use Rattle.tspkt.specs.Bits.{bit, field}
use Rattle.tspkt.specs.Packet.{IsPacket, fault_of, has_bad_adaptation, pid_of, continuity_counter_of, payload_of, has_payload_of, payload_start_of}
use Rattle.tspkt.specs.Counted.{with_counter, IsOutsideCounter}
use Rattle.tspkt.proofs.BitLaws.{bit_same, field_in_byte}
use Rattle.tspkt.proofs.PacketFields.{sync_at, pid_at, control_at, adaptation_at, payload_at, counter_at, length_at, pcr_flag_at}

-- the byte that has the counter, and the others
record HasCounter (p : List ℕ) (counter : ℕ) (q : List ℕ) : Type 0 where
  pub whole : length q ≡ length p
  pub three : get_or q 3 0 ≡ get_or p 3 0 / 16 * 16 + counter
  pub others : (j : ℕ) → j ≢ 3 → get_or q j 0 ≡ get_or p j 0

high_at : (p : List ℕ) → field p 24 4 ≡ get_or p 3 0 / 16 % 16
high_at p = field_in_byte p 3 0 4 (omega arith)

has_counter : (p : List ℕ) (counter : ℕ) → IsPacket p → HasCounter p counter (with_counter p counter)
unfolding with_counter
has_counter p counter k =
    let b = k.bytes 3 in
    let high : field p 24 4 ≡ get_or p 3 0 / 16 = omega (arith, high_at p, b) in
    record {
      whole = length-set p 3 (field p 24 4 * 16 + counter);
      three = get_or-set_same p 3 (field p 24 4 * 16 + counter) 0 (omega (arith, k.whole)) ∙ omega (arith, high);
      others = λ j n. get_or-set_other p 3 j (field p 24 4 * 16 + counter) 0 n;
    }

-- what is written in the code
pub written : (p : List ℕ) (counter : ℕ) → IsPacket p → with_counter p counter ≡ set p 3 (get_or p 3 0 / 16 * 16 + counter)
unfolding with_counter
written p counter k =
    let b = k.bytes 3 in
    let high : field p 24 4 ≡ get_or p 3 0 / 16 = omega (arith, high_at p, b) in
    ap (λ (n : ℕ). set p 3 (n * 16 + counter)) high

bytes_of : (p : List ℕ) (counter : ℕ) → counter < 16 → IsPacket p → (i : ℕ) → get_or (with_counter p counter) i 0 < 256
bytes_of p counter l k i =
    let h = has_counter p counter k in
    elim (cases_eq i 3) [
      | inl e ↦ let b = k.bytes 3 in rw e (omega (arith, h.three, b))
      | inr n ↦ rw (h.others i n) (k.bytes i)
    ]

-- the fields that stay
record SameFields (p q : List ℕ) : Type 0 where
  pub sync : field q 0 8 ≡ field p 0 8
  pub pid : field q 11 13 ≡ field p 11 13
  pub control : field q 26 2 ≡ field p 26 2
  pub adaptation : field q 26 1 ≡ field p 26 1
  pub loaded : field q 27 1 ≡ field p 27 1
  pub length : field q 32 8 ≡ field p 32 8
  pub pcr_flag : field q 43 1 ≡ field p 43 1

same_fields : (p : List ℕ) (counter : ℕ) → counter < 16 → IsPacket p → SameFields p (with_counter p counter)
same_fields p counter l k =
    let q = with_counter p counter in
    let h = has_counter p counter k in
    record {
      sync = omega (arith, sync_at p, sync_at q, h.others 0 (omega arith));
      pid = omega (arith, pid_at p, pid_at q, h.others 1 (omega arith), h.others 2 (omega arith));
      control = omega (arith, control_at p, control_at q, h.three);
      adaptation = omega (arith, adaptation_at p, adaptation_at q, h.three);
      loaded = omega (arith, payload_at p, payload_at q, h.three);
      length = omega (arith, length_at p, length_at q, h.others 4 (omega arith));
      pcr_flag = omega (arith, pcr_flag_at p, pcr_flag_at q, h.others 5 (omega arith));
    }

same_fault : (p q : List ℕ) → SameFields p q → fault_of q ≡ fault_of p
unfolding fault_of has_bad_adaptation
same_fault p q s = rw (s.sync, s.control, s.adaptation, s.length, s.pcr_flag) refl

pub is_packet-with_counter : (p : List ℕ) (counter : ℕ) → counter < 16 → IsPacket p → IsPacket (with_counter p counter)
is_packet-with_counter p counter l k =
    let q = with_counter p counter in
    let h = has_counter p counter k in
    let same = same_fields p counter l k in
    record { whole = h.whole ∙ k.whole; bytes = bytes_of p counter l k; accepted = same_fault p q same ∙ k.accepted }

pub continuity_counter_of-with_counter : (p : List ℕ) (counter : ℕ) → counter < 16 → IsPacket p → continuity_counter_of (with_counter p counter) ≡ counter
continuity_counter_of-with_counter p counter l k =
    let q = with_counter p counter in
    let h = has_counter p counter k in
    omega (arith, counter_at q, h.three)

pub pid_of-with_counter : (p : List ℕ) (counter : ℕ) → counter < 16 → IsPacket p → pid_of (with_counter p counter) ≡ pid_of p
pid_of-with_counter p counter l k = (same_fields p counter l k).pid

pub has_payload_of-with_counter : (p : List ℕ) (counter : ℕ) → counter < 16 → IsPacket p → has_payload_of (with_counter p counter) ≡ has_payload_of p
has_payload_of-with_counter p counter l k = let e = (same_fields p counter l k).loaded in rw e refl

dropped : (p : List ℕ) (counter n : ℕ) → 3 < n → drop n (with_counter p counter) ≡ drop n p
unfolding with_counter
dropped p counter n l = drop-set-lt n p 3 (field p 24 4 * 16 + counter) l

-- the payload begins behind the header
start_above : (p : List ℕ) → 3 < payload_start_of p
start_above p = elim (cases_Bool (field p 26 1 == 1)) [
  | inl t ↦ rw t (omega arith)
  | inr f ↦ rw f (omega arith)
]

pub payload_of-with_counter : (p : List ℕ) (counter : ℕ) → counter < 16 → IsPacket p → payload_of (with_counter p counter) ≡ payload_of p
payload_of-with_counter p counter l k =
    let q = with_counter p counter in
    let s = same_fields p counter l k in
    let start : payload_start_of q ≡ payload_start_of p = rw (s.adaptation, s.length) refl in
    let rest : drop (payload_start_of p) q ≡ drop (payload_start_of p) p = dropped p counter (payload_start_of p) (start_above p) in
    rw (s.loaded, start, rest) refl

-- the four bits above the counter
above : (x y k : ℕ) → k < 4 → x / 16 ≡ y / 16 → x / 2 ^ (7 - k) % 2 ≡ y / 2 ^ (7 - k) % 2
above x y zero l h = omega arith
above x y (suc zero) l h = omega arith
above x y (suc (suc zero)) l h = omega arith
above x y (suc (suc (suc zero))) l h = omega arith
above x y (suc (suc (suc (suc k)))) l h = absurd (omega arith)

pub bit-with_counter : (p : List ℕ) (counter : ℕ) → counter < 16 → IsPacket p → (i : ℕ) → IsOutsideCounter i → bit (with_counter p counter) i ≡ bit p i
bit-with_counter p counter l k i o =
    let q = with_counter p counter in
    let h = has_counter p counter k in
    elim (cases_eq (i / 8) 3) [
      | inl e ↦
          let inside : i % 8 < 4 = elim (cases_lt i 28) [ inl a ↦ omega arith | inr b ↦ absurd (omega (arith, o b)) ] in
          let high : get_or q 3 0 / 16 ≡ get_or p 3 0 / 16 = omega (arith, h.three) in
          ap (λ (n : ℕ). get_or q n 0 / 2 ^ (7 - i % 8) % 2) e ∙ above (get_or q 3 0) (get_or p 3 0) (i % 8) inside high ∙ sym (ap (λ (n : ℕ). get_or p n 0 / 2 ^ (7 - i % 8) % 2) e)
      | inr n ↦ bit_same q p i (h.others (i / 8) n)
    ]
