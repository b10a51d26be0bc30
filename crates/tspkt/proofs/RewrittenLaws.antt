-- What a packet that was put on another PID and later in time keeps, and what it has instead.
use Rattle.std.proofs.Common.{◌≡◌, ◌≢◌, ℕ, zero, suc, ◌+◌, ◌-◌, ◌*◌, ◌/◌, ◌%◌, ◌^◌, ◌<◌, ◌≤◌, List, Option, ◌∷◌, ◌++◌, get_or, length, take, drop, refl, sym, ◌∙◌, ap, arith, Some, None, true, false, option_map, ⊎_elim, length-append, replicate}
use Rattle.std.proofs.lemmas.Bool.{cases_lt, cases_eq, cases_Bool}
use Rattle.std.proofs.lemmas.Bool.Decides.{nat_tests}
use Rattle.std.proofs.lemmas.List.{append_assoc, take_at, get_or_append_left, get_or-append_right, get_or-drop, get_or-take, length-take-le, length-drop}
use Rattle.std.proofs.lemmas.Slice.{drop-append-drop}
use Rattle.byteorder.specs.Endian.{big_bytes}
use Rattle.tspkt.specs.Bits.{bit, field}
use Rattle.tspkt.specs.Packet.{IsPacket, fault_of, has_bad_adaptation, pid_of, pcr_flag_of, has_adaptation_field_of, adaptation_field_length_of, pcr_of, pcr_base_of, pcr_extension_of, pcr_modulus, null_packet}
use Rattle.tspkt.specs.Rewritten.{with_bytes, with_pid, with_pcr, with_later_pcr, rewritten, IsOutsidePidAndPcr}
use Rattle.tspkt.proofs.BitLaws.{bit_same}
use Rattle.tspkt.proofs.PacketFields.{sync_at, flags_at, pid_at, control_at, adaptation_at, length_at, pcr_flag_at, base_at, reserved_at, extension_at}

-- an accepted adaptation field ends within the packet
pub adaptation_fits : (p : List ℕ) → fault_of p ≡ None → has_adaptation_field_of p ≡ true → adaptation_field_length_of p ≤ 183
unfolding fault_of has_bad_adaptation
adaptation_fits p h a = grind (arith, nat_tests, control_at p, adaptation_at p)

-- ---- bytes with some of them replaced

module _ (p these : List ℕ) (at : ℕ) (fits : at + length these ≤ length p) where
  front_length : length (take at p) ≡ at
  front_length = length-take-le at p (omega arith)

  both_length : length (take at p ++ these) ≡ at + length these
  both_length = length-append (take at p) these ∙ ap (λ (n : ℕ). n + length these) front_length

  pub length-with_bytes : length (with_bytes p at these) ≡ length p
  length-with_bytes =
      length-append (take at p ++ these) (drop (at + length these) p) ∙ omega (arith, both_length, length-drop (at + length these) p)

  pub get_or-with_bytes_before : (j : ℕ) → j < at → get_or (with_bytes p at these) j 0 ≡ get_or p j 0
  get_or-with_bytes_before j h =
      get_or_append_left (take at p ++ these) (drop (at + length these) p) 0 j (omega (arith, both_length))
      ∙ get_or_append_left (take at p) these 0 j (omega (arith, front_length))
      ∙ get_or-take at p j 0 h

  pub get_or-with_bytes_within : (j : ℕ) → at ≤ j → j < at + length these → get_or (with_bytes p at these) j 0 ≡ get_or these (j - at) 0
  get_or-with_bytes_within j l h =
      get_or_append_left (take at p ++ these) (drop (at + length these) p) 0 j (omega (arith, both_length))
      ∙ get_or-append_right (take at p) these at j 0 front_length l

  pub get_or-with_bytes_after : (j : ℕ) → at + length these ≤ j → get_or (with_bytes p at these) j 0 ≡ get_or p j 0
  get_or-with_bytes_after j h =
      get_or-append_right (take at p ++ these) (drop (at + length these) p) (at + length these) j 0 both_length h
      ∙ get_or-drop (at + length these) p (j - (at + length these)) 0
      ∙ ap (λ (n : ℕ). get_or p n 0) (omega arith)

  pub bytes-with_bytes : ((i : ℕ) → get_or p i 0 < 256) → ((i : ℕ) → get_or these i 0 < 256) → (i : ℕ) → get_or (with_bytes p at these) i 0 < 256
  bytes-with_bytes a b i =
      ⊎_elim
      (λ (h : i < at). omega (arith, get_or-with_bytes_before i h, a i))
      (λ (l : at ≤ i).
      ⊎_elim
      (λ (h : i < at + length these). omega (arith, get_or-with_bytes_within i l h, b (i - at)))
      (λ (h : at + length these ≤ i). omega (arith, get_or-with_bytes_after i h, a i))
      (cases_lt i (at + length these)))
      (cases_lt i at)

-- two neighbouring writes are one
pub with_bytes_twice : (p a b : List ℕ) → length a ≡ 4 → length b ≡ 2 → 12 ≤ length p → take 10 ((take 6 p ++ a) ++ drop 10 p) ++ b ++ drop 12 ((take 6 p ++ a) ++ drop 10 p) ≡ (take 6 p ++ (a ++ b)) ++ drop 12 p
with_bytes_twice p a b x y l =
    let six : length (take 6 p) ≡ 6 = length-take-le 6 p (omega arith) in
    let ten : length (take 6 p ++ a) ≡ 10 = length-append (take 6 p) a ∙ omega (arith, six) in
    let front : take 10 ((take 6 p ++ a) ++ drop 10 p) ≡ take 6 p ++ a = take_at (take 6 p ++ a) (drop 10 p) 10 ten in
    let back : drop 12 ((take 6 p ++ a) ++ drop 10 p) ≡ drop 12 p = drop-append-drop 10 p (take 6 p ++ a) 12 (omega arith) ten in
    rw (front, back) (ap (λ (q : List ℕ). q ++ drop 12 p) (append_assoc (take 6 p) a b))

-- ---- a PID that was written

pub record HasPid (p : List ℕ) (pid : ℕ) (q : List ℕ) : Type 0 where
  pub whole : length q ≡ length p
  pub bytes : ((i : ℕ) → get_or p i 0 < 256) → (i : ℕ) → get_or q i 0 < 256
  pub one : get_or q 1 0 ≡ get_or p 1 0 / 32 % 8 * 32 + pid / 256
  pub two : get_or q 2 0 ≡ pid % 256
  pub others : (j : ℕ) → j ≢ 1 → j ≢ 2 → get_or q j 0 ≡ get_or p j 0

two_bytes : (x i : ℕ) → get_or (big_bytes 2 x) i 0 < 256
two_bytes x zero = omega arith
two_bytes x (suc zero) = omega arith
two_bytes x (suc (suc i)) = omega arith

pub has_pid : (p : List ℕ) (pid : ℕ) → 3 ≤ length p → pid < 8192 → HasPid p pid (with_pid p pid)
unfolding with_pid
has_pid p pid l h =
    let word = field p 8 3 * 8192 + pid in
    let these = big_bytes 2 word in
    record {
      whole = length-with_bytes p these 1 l;
      bytes = λ b. bytes-with_bytes p these 1 l b (two_bytes word);
      one = get_or-with_bytes_within p these 1 l 1 (omega arith) (omega arith) ∙ omega (arith, flags_at p);
      two = get_or-with_bytes_within p these 1 l 2 (omega arith) (omega arith) ∙ omega arith;
      others = λ j a b.
          ⊎_elim
          (λ (before : j < 1). get_or-with_bytes_before p these 1 l j before)
          (λ (after : 1 ≤ j). get_or-with_bytes_after p these 1 l j (omega (arith, a, b)))
          (cases_lt j 1);
    }

-- ---- a PCR that was written

pub record HasPcr (p : List ℕ) (pcr : ℕ) (q : List ℕ) : Type 0 where
  pub whole : length q ≡ length p
  pub bytes : ((i : ℕ) → get_or p i 0 < 256) → (i : ℕ) → get_or q i 0 < 256
  pub six : get_or q 6 0 ≡ pcr / 300 / 33554432
  pub seven : get_or q 7 0 ≡ pcr / 300 / 131072 % 256
  pub eight : get_or q 8 0 ≡ pcr / 300 / 512 % 256
  pub nine : get_or q 9 0 ≡ pcr / 300 / 2 % 256
  pub ten : get_or q 10 0 ≡ pcr / 300 % 2 * 128 + get_or p 10 0 / 2 % 64 * 2 + pcr % 300 / 256
  pub eleven : get_or q 11 0 ≡ pcr % 300 % 256
  pub before : (j : ℕ) → j < 6 → get_or q j 0 ≡ get_or p j 0
  pub after : (j : ℕ) → 12 ≤ j → get_or q j 0 ≡ get_or p j 0

six_bytes : (x y i : ℕ) → get_or (big_bytes 4 x ++ big_bytes 2 y) i 0 < 256
six_bytes x y zero = omega arith
six_bytes x y (suc zero) = omega arith
six_bytes x y (suc (suc zero)) = omega arith
six_bytes x y (suc (suc (suc zero))) = omega arith
six_bytes x y (suc (suc (suc (suc i)))) = two_bytes y i

pub has_pcr : (p : List ℕ) (pcr : ℕ) → 12 ≤ length p → pcr < pcr_modulus → HasPcr p pcr (with_pcr p pcr)
unfolding with_pcr
has_pcr p pcr l h =
    let high = pcr / 300 / 2 in
    let low = pcr / 300 % 2 * 32768 + field p 81 6 * 512 + pcr % 300 in
    let these = big_bytes 4 high ++ big_bytes 2 low in
    let at = λ (j : ℕ) (a : 6 ≤ j) (b : j < 12). get_or-with_bytes_within p these 6 l j a b in
    record {
      whole = length-with_bytes p these 6 l;
      bytes = λ b. bytes-with_bytes p these 6 l b (six_bytes high low);
      six = at 6 (omega arith) (omega arith) ∙ omega arith;
      seven = at 7 (omega arith) (omega arith) ∙ omega arith;
      eight = at 8 (omega arith) (omega arith) ∙ omega arith;
      nine = at 9 (omega arith) (omega arith) ∙ omega arith;
      ten = at 10 (omega arith) (omega arith) ∙ omega (arith, reserved_at p);
      eleven = at 11 (omega arith) (omega arith) ∙ omega arith;
      before = λ j b. get_or-with_bytes_before p these 6 l j b;
      after = λ j b. get_or-with_bytes_after p these 6 l j b;
    }

-- ---- the null packet

ones : (n i : ℕ) → get_or (replicate n 255) i 0 < 256
ones zero i = omega arith
ones (suc n) zero = omega arith
ones (suc n) (suc i) = ones n i

null_bytes : (rest : List ℕ) → ((i : ℕ) → get_or rest i 0 < 256) → (i : ℕ) → get_or (71 ∷ 31 ∷ 255 ∷ 16 ∷ rest) i 0 < 256
null_bytes rest h zero = omega arith
null_bytes rest h (suc zero) = omega arith
null_bytes rest h (suc (suc zero)) = omega arith
null_bytes rest h (suc (suc (suc zero))) = omega arith
null_bytes rest h (suc (suc (suc (suc i)))) = h i

pub is_packet-null_packet : IsPacket null_packet
unfolding null_packet fault_of has_bad_adaptation field
is_packet-null_packet = record {
  whole = refl;
  bytes = null_bytes (replicate 184 255) (ones 184);
  accepted = refl;
}

pub pid_of-null_packet : pid_of null_packet ≡ 8191
unfolding null_packet field
pid_of-null_packet = refl

-- ---- what decides whether a packet is accepted, and whether it has a PCR

-- the bytes that decide it
pub record SameHead (p q : List ℕ) : Type 0 where
  pub sync : get_or q 0 0 ≡ get_or p 0 0
  pub control : get_or q 3 0 ≡ get_or p 3 0
  pub length : get_or q 4 0 ≡ get_or p 4 0
  pub flags : get_or q 5 0 ≡ get_or p 5 0

pub same_fault : (p q : List ℕ) → SameHead p q → fault_of q ≡ fault_of p
unfolding fault_of has_bad_adaptation
same_fault p q h =
    let a : field q 0 8 ≡ field p 0 8 = omega (arith, sync_at p, sync_at q) in
    let b : field q 26 2 ≡ field p 26 2 = omega (arith, control_at p, control_at q) in
    let c : field q 26 1 ≡ field p 26 1 = omega (arith, adaptation_at p, adaptation_at q) in
    let d : field q 32 8 ≡ field p 32 8 = omega (arith, length_at p, length_at q) in
    let e : field q 43 1 ≡ field p 43 1 = omega (arith, pcr_flag_at p, pcr_flag_at q) in
    rw (a, b, c, d, e) refl

pub same_pcr_flag : (p q : List ℕ) → SameHead p q → pcr_flag_of q ≡ pcr_flag_of p
same_pcr_flag p q h =
    let c : field q 26 1 ≡ field p 26 1 = omega (arith, adaptation_at p, adaptation_at q) in
    let d : field q 32 8 ≡ field p 32 8 = omega (arith, length_at p, length_at q) in
    let e : field q 43 1 ≡ field p 43 1 = omega (arith, pcr_flag_at p, pcr_flag_at q) in
    rw (c, d, e) refl

head_with_pid : (p q : List ℕ) (pid : ℕ) → HasPid p pid q → SameHead p q
head_with_pid p q pid h = record {
  sync = h.others 0 (omega arith) (omega arith);
  control = h.others 3 (omega arith) (omega arith);
  length = h.others 4 (omega arith) (omega arith);
  flags = h.others 5 (omega arith) (omega arith);
}

head_with_pcr : (p q : List ℕ) (pcr : ℕ) → HasPcr p pcr q → SameHead p q
head_with_pcr p q pcr h = record {
  sync = h.before 0 (omega arith);
  control = h.before 3 (omega arith);
  length = h.before 4 (omega arith);
  flags = h.before 5 (omega arith);
}

-- ---- a packet that was rewritten, by whether it has a PCR

-- the PCR that is sent
abbrev pub later : List ℕ → ℕ → ℕ
later p delay = (pcr_base_of p * 300 + pcr_extension_of p + delay) % pcr_modulus

pub rewritten_plain : (p : List ℕ) (pid delay : ℕ) → pcr_flag_of p ≡ false → rewritten p pid delay ≡ with_pid p pid
unfolding rewritten with_later_pcr
rewritten_plain p pid delay h = rw h refl

pub rewritten_timed : (p : List ℕ) (pid delay : ℕ) → pcr_flag_of p ≡ true → rewritten p pid delay ≡ with_pcr (with_pid p pid) (later p delay)
unfolding rewritten with_later_pcr
rewritten_timed p pid delay h = rw h refl

-- what holds of both is told by the bytes before the PCR, and those behind it
pub record IsMoved (p : List ℕ) (pid : ℕ) (q : List ℕ) : Type 0 where
  pub packet : IsPacket q
  pub head : SameHead p q
  pub one : get_or q 1 0 ≡ get_or p 1 0 / 32 % 8 * 32 + pid / 256
  pub two : get_or q 2 0 ≡ pid % 256
  pub before : (j : ℕ) → j < 6 → j ≢ 1 → j ≢ 2 → get_or q j 0 ≡ get_or p j 0
  pub after : (j : ℕ) → 12 ≤ j → get_or q j 0 ≡ get_or p j 0

moved_by_pid : (p : List ℕ) (pid : ℕ) → pid < 8192 → IsPacket p → IsMoved p pid (with_pid p pid)
moved_by_pid p pid h k =
    let q = with_pid p pid in
    let w : HasPid p pid q = has_pid p pid (omega (arith, k.whole)) h in
    let head = head_with_pid p q pid w in
    record {
      packet = record { whole = w.whole ∙ k.whole; bytes = w.bytes k.bytes; accepted = same_fault p q head ∙ k.accepted };
      head = head;
      one = w.one;
      two = w.two;
      before = λ j b x y. w.others j x y;
      after = λ j b. w.others j (omega arith) (omega arith);
    }

later_fits : (p : List ℕ) (delay : ℕ) → later p delay < pcr_modulus
later_fits p delay = omega arith

moved_by_both : (p : List ℕ) (pid pcr : ℕ) → pid < 8192 → pcr < pcr_modulus → IsPacket p → IsMoved p pid (with_pcr (with_pid p pid) pcr)
moved_by_both p pid pcr h f k =
    let m = moved_by_pid p pid h k in
    let q = with_pid p pid in
    let w : HasPcr q pcr (with_pcr q pcr) = has_pcr q pcr (omega (arith, m.packet.whole)) f in
    let head = head_with_pcr q (with_pcr q pcr) pcr w in
    record {
      packet = record { whole = w.whole ∙ m.packet.whole; bytes = w.bytes m.packet.bytes; accepted = same_fault q (with_pcr q pcr) head ∙ m.packet.accepted };
      head = record {
        sync = head.sync ∙ m.head.sync;
        control = head.control ∙ m.head.control;
        length = head.length ∙ m.head.length;
        flags = head.flags ∙ m.head.flags;
      };
      one = w.before 1 (omega arith) ∙ m.one;
      two = w.before 2 (omega arith) ∙ m.two;
      before = λ j b x y. w.before j b ∙ m.before j b x y;
      after = λ j b. w.after j b ∙ m.after j b;
    }

pub moved : (p : List ℕ) (pid delay : ℕ) → pid < 8192 → IsPacket p → IsMoved p pid (rewritten p pid delay)
moved p pid delay h k =
    ⊎_elim
    (λ (t : pcr_flag_of p ≡ true). rw (rewritten_timed p pid delay t) (moved_by_both p pid (later p delay) h (later_fits p delay) k))
    (λ (f : pcr_flag_of p ≡ false). rw (rewritten_plain p pid delay f) (moved_by_pid p pid h k))
    (cases_Bool (pcr_flag_of p))

-- ---- what the crates above use

pub is_packet-rewritten : (p : List ℕ) (pid delay : ℕ) → pid < 8192 → IsPacket p → IsPacket (rewritten p pid delay)
is_packet-rewritten p pid delay h k = (moved p pid delay h k).packet

pub pid_of-rewritten : (p : List ℕ) (pid delay : ℕ) → pid < 8192 → IsPacket p → pid_of (rewritten p pid delay) ≡ pid
pid_of-rewritten p pid delay h k =
    let m = moved p pid delay h k in
    let q = rewritten p pid delay in
    omega (arith, pid_at q, m.one, m.two)

pub pcr_flag_of-rewritten : (p : List ℕ) (pid delay : ℕ) → pid < 8192 → IsPacket p → pcr_flag_of (rewritten p pid delay) ≡ pcr_flag_of p
pcr_flag_of-rewritten p pid delay h k = same_pcr_flag p (rewritten p pid delay) (moved p pid delay h k).head

-- PCR base and extension of a packet with a PCR
later_written : (q : List ℕ) (pcr : ℕ) → 12 ≤ length q → pcr < pcr_modulus → (pcr_base_of (with_pcr q pcr) ≡ pcr / 300) × (pcr_extension_of (with_pcr q pcr) ≡ pcr % 300)
later_written q pcr l f =
    let w : HasPcr q pcr (with_pcr q pcr) = has_pcr q pcr l f in
    let r = with_pcr q pcr in
    (omega (arith, base_at r, w.six, w.seven, w.eight, w.nine, w.ten), omega (arith, extension_at r, w.ten, w.eleven))

long_enough : (p : List ℕ) (pid : ℕ) → pid < 8192 → IsPacket p → 12 ≤ length (with_pid p pid)
long_enough p pid h k = let m = moved_by_pid p pid h k in omega (arith, m.packet.whole)

pub pcr_extension_of-rewritten : (p : List ℕ) (pid delay : ℕ) → pid < 8192 → IsPacket p → pcr_flag_of p ≡ true → pcr_extension_of (rewritten p pid delay) < 300
pcr_extension_of-rewritten p pid delay h k t =
    let w = later_written (with_pid p pid) (later p delay) (long_enough p pid h k) (later_fits p delay) in
    rw (rewritten_timed p pid delay t) (omega (arith, w.1))

same_base : (p q : List ℕ) (pid : ℕ) → HasPid p pid q → (pcr_base_of q ≡ pcr_base_of p) × (pcr_extension_of q ≡ pcr_extension_of p)
same_base p q pid w =
    let at = λ (j : ℕ) (l : 6 ≤ j). w.others j (omega arith) (omega arith) in (
      omega (arith, base_at p, base_at q, at 6 (omega arith), at 7 (omega arith), at 8 (omega arith), at 9 (omega arith), at 10 (omega arith)),
      omega (arith, extension_at p, extension_at q, at 10 (omega arith), at 11 (omega arith)),
    )

pub pcr_of-rewritten : (p : List ℕ) (pid delay : ℕ) → pid < 8192 → IsPacket p → pcr_of (rewritten p pid delay) ≡ option_map (λ pcr. (pcr + delay) % pcr_modulus) (pcr_of p)
pcr_of-rewritten p pid delay h k =
    let flag = pcr_flag_of-rewritten p pid delay h k in
    ⊎_elim
    (λ (t : pcr_flag_of p ≡ true).
    let w = later_written (with_pid p pid) (later p delay) (long_enough p pid h k) (later_fits p delay) in
    let value : pcr_base_of (rewritten p pid delay) * 300 + pcr_extension_of (rewritten p pid delay) ≡ later p delay = rw (rewritten_timed p pid delay t) (omega (arith, w.0, w.1)) in
    rw (flag, t) (ap Some value))
    (λ (f : pcr_flag_of p ≡ false). rw (flag, f) refl)
    (cases_Bool (pcr_flag_of p))

-- ---- the bits that stay

-- the three bits above the PID
above_pid : (x y k : ℕ) → k < 3 → x / 32 % 8 ≡ y / 32 % 8 → x / 2 ^ (7 - k) % 2 ≡ y / 2 ^ (7 - k) % 2
above_pid x y zero l h = omega arith
above_pid x y (suc zero) l h = omega arith
above_pid x y (suc (suc zero)) l h = omega arith
above_pid x y (suc (suc (suc k))) l h = absurd (omega arith)

-- the six bits between base and extension
between : (x y k : ℕ) → 0 < k → k < 7 → x / 2 % 64 ≡ y / 2 % 64 → x / 2 ^ (7 - k) % 2 ≡ y / 2 ^ (7 - k) % 2
between x y zero p l h = absurd (omega arith)
between x y (suc zero) p l h = omega arith
between x y (suc (suc zero)) p l h = omega arith
between x y (suc (suc (suc zero))) p l h = omega arith
between x y (suc (suc (suc (suc zero)))) p l h = omega arith
between x y (suc (suc (suc (suc (suc zero))))) p l h = omega arith
between x y (suc (suc (suc (suc (suc (suc zero)))))) p l h = omega arith
between x y (suc (suc (suc (suc (suc (suc (suc k))))))) p l h = absurd (omega arith)

kept_by_pid : (p q : List ℕ) (pid : ℕ) → pid < 8192 → HasPid p pid q → (i : ℕ) → (11 ≤ i → 24 ≤ i) → bit q i ≡ bit p i
kept_by_pid p q pid l h i o =
    let high : get_or q 1 0 / 32 % 8 ≡ get_or p 1 0 / 32 % 8 = omega (arith, h.one) in
    ⊎_elim
    (λ (e : i / 8 ≡ 1).
    let inside : i % 8 < 3 = ⊎_elim (λ (a : i < 11). omega arith) (λ (b : 11 ≤ i). absurd (omega (arith, o b))) (cases_lt i 11) in
    ap (λ (n : ℕ). get_or q n 0 / 2 ^ (7 - i % 8) % 2) e ∙ above_pid (get_or q 1 0) (get_or p 1 0) (i % 8) inside high ∙ sym (ap (λ (n : ℕ). get_or p n 0 / 2 ^ (7 - i % 8) % 2) e))
    (λ (n1 : i / 8 ≢ 1).
    ⊎_elim
    (λ (e : i / 8 ≡ 2). absurd (omega (arith, o (omega arith))))
    (λ (n2 : i / 8 ≢ 2). bit_same q p i (h.others (i / 8) n1 n2))
    (cases_eq (i / 8) 2))
    (cases_eq (i / 8) 1)

kept_by_pcr : (p q : List ℕ) (pcr : ℕ) → HasPcr p pcr q → (i : ℕ) → (48 ≤ i → 81 ≤ i) → (87 ≤ i → 96 ≤ i) → bit q i ≡ bit p i
kept_by_pcr p q pcr h i o o' =
    let middle : get_or q 10 0 / 2 % 64 ≡ get_or p 10 0 / 2 % 64 = omega (arith, h.ten) in
    ⊎_elim
    (λ (b : i < 48). bit_same q p i (h.before (i / 8) (omega arith)))
    (λ (b : 48 ≤ i).
    ⊎_elim
    (λ (a : i < 96).
    let low : 81 ≤ i = o b in
    let top : i < 87 = ⊎_elim (λ (x : i < 87). x) (λ (x : 87 ≤ i). absurd (omega (arith, o' x))) (cases_lt i 87) in
    let ten : i / 8 ≡ 10 = omega arith in
    ap (λ (n : ℕ). get_or q n 0 / 2 ^ (7 - i % 8) % 2) ten ∙ between (get_or q 10 0) (get_or p 10 0) (i % 8) (omega arith) (omega arith) middle ∙ sym (ap (λ (n : ℕ). get_or p n 0 / 2 ^ (7 - i % 8) % 2) ten))
    (λ (a : 96 ≤ i). bit_same q p i (h.after (i / 8) (omega arith)))
    (cases_lt i 96))
    (cases_lt i 48)

pub bit-rewritten : (p : List ℕ) (pid delay : ℕ) → pid < 8192 → IsPacket p → (i : ℕ) → IsOutsidePidAndPcr p i → bit (rewritten p pid delay) i ≡ bit p i
bit-rewritten p pid delay h k i o =
    let q = with_pid p pid in
    let w : HasPid p pid q = has_pid p pid (omega (arith, k.whole)) h in
    let first : bit q i ≡ bit p i = kept_by_pid p q pid h w i o.outside_pid in
    ⊎_elim
    (λ (t : pcr_flag_of p ≡ true).
    rw (rewritten_timed p pid delay t)
    (kept_by_pcr q (with_pcr q (later p delay)) (later p delay) (has_pcr q (later p delay) (long_enough p pid h k) (later_fits p delay)) i (o.outside_base t) (o.outside_extension t) ∙ first))
    (λ (f : pcr_flag_of p ≡ false). rw (rewritten_plain p pid delay f) first)
    (cases_Bool (pcr_flag_of p))

-- the bytes that were written are those of the definition
pub written : (p q r bytes : List ℕ) (pcr : Option ℕ) (pid delay : ℕ) → bytes ≡ p → q ≡ with_pid bytes pid → pcr ≡ pcr_of p → r ≡ with_later_pcr pcr q delay → r ≡ rewritten p pid delay
unfolding rewritten
written p q r bytes pcr pid delay a b c d = cc
