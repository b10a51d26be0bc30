-- Eight bits at once.
use Rattle.std.proofs.Common.{◌≡◌, ℕ, ◌+◌, ◌-◌, ◌*◌, ◌/◌, ◌%◌, ◌^◌, ◌<◌, List, [], ◌∷◌, ◌++◌, refl, sym, ◌∙◌, ap, arith, bit_xor, ◌==◌, false, true, if◌then◌else◌, lit<, ◌⊎◌, inl, inr, ⊎_elim, length}
use Rattle.std.proofs.lemmas.Nat.{xor_lt, xor_block, xor_mod}
use Rattle.std.proofs.lemmas.Nat.Bits.{bit_at_xor}
use Rattle.std.proofs.lemmas.Bool.{cases_eq}
use Rattle.std.proofs.lemmas.List.{append_assoc}
use Rattle.std.specs.Int.Bits.{xor_assoc, xor_comm, xor_self, xor_zero_l, xor_zero_r}
use Rattle.std.proofs.lemmas.Bool.Decides.{nat_tests}
use Rattle.section.specs.Crc.{crc_step, crc_bits, byte_bits, bits_of, crc_of, crc_bytes}

-- bits in two parts
pub crc_bits-append : (r : ℕ) (a b : List ℕ) → crc_bits r (a ++ b) ≡ crc_bits (crc_bits r a) b
crc_bits-append r [] b = refl
crc_bits-append r (x ∷ a) b = crc_bits-append (crc_step r x) a b

-- where the bit that comes is the one that leaves, the register only moves up
same_bit : (s b : ℕ) → b ≡ s / 2 ^ 31 → crc_step s b ≡ s * 2 % 2 ^ 32
unfolding crc_step
same_bit s b e =
    let none : ((s / 2 ^ 31 + b) % 2 == 1) ≡ false = grind (arith, nat_tests) in
    rw none refl

-- the register's own top byte
eight_same : (s : ℕ) → s < 2 ^ 32 → crc_bits s (byte_bits (s / 2 ^ 24)) ≡ s * 256 % 2 ^ 32
eight_same s h =
    let s1 = s * 2 % 2 ^ 32 in
    let e1 = same_bit s (s / 2 ^ 24 / 128 % 2) (omega arith) in
    let s2 = s * 4 % 2 ^ 32 in
    let e2 : crc_step s1 (s / 2 ^ 24 / 64 % 2) ≡ s2 = same_bit s1 (s / 2 ^ 24 / 64 % 2) (omega arith) ∙ omega arith in
    let s3 = s * 8 % 2 ^ 32 in
    let e3 : crc_step s2 (s / 2 ^ 24 / 32 % 2) ≡ s3 = same_bit s2 (s / 2 ^ 24 / 32 % 2) (omega arith) ∙ omega arith in
    let s4 = s * 16 % 2 ^ 32 in
    let e4 : crc_step s3 (s / 2 ^ 24 / 16 % 2) ≡ s4 = same_bit s3 (s / 2 ^ 24 / 16 % 2) (omega arith) ∙ omega arith in
    let s5 = s * 32 % 2 ^ 32 in
    let e5 : crc_step s4 (s / 2 ^ 24 / 8 % 2) ≡ s5 = same_bit s4 (s / 2 ^ 24 / 8 % 2) (omega arith) ∙ omega arith in
    let s6 = s * 64 % 2 ^ 32 in
    let e6 : crc_step s5 (s / 2 ^ 24 / 4 % 2) ≡ s6 = same_bit s5 (s / 2 ^ 24 / 4 % 2) (omega arith) ∙ omega arith in
    let s7 = s * 128 % 2 ^ 32 in
    let e7 : crc_step s6 (s / 2 ^ 24 / 2 % 2) ≡ s7 = same_bit s6 (s / 2 ^ 24 / 2 % 2) (omega arith) ∙ omega arith in
    let e8 : crc_step s7 (s / 2 ^ 24 % 2) ≡ s * 256 % 2 ^ 32 = same_bit s7 (s / 2 ^ 24 % 2) (omega arith) ∙ omega arith in
    rw (e1, e2, e3, e4, e5, e6, e7, e8) refl

-- one byte, the register's own
own_byte : (s b : ℕ) → s < 2 ^ 32 → b ≡ s / 2 ^ 24 → crc_bits s (byte_bits b) ≡ s * 256 % 2 ^ 32
own_byte s b h e = ap (λ (n : ℕ). crc_bits s (byte_bits n)) e ∙ eight_same s h

-- the register's own bytes bring it to 0
own_bytes : (s : ℕ) → s < 2 ^ 32 → crc_bits s (bits_of (crc_bytes s)) ≡ 0
own_bytes s h =
    let b2 = s / 2 ^ 16 % 256 in
    let b3 = s / 2 ^ 8 % 256 in
    let b4 = s % 256 in
    let t1 = s * 256 % 2 ^ 32 in
    let t2 = t1 * 256 % 2 ^ 32 in
    let t3 = t2 * 256 % 2 ^ 32 in
    ap (λ (r : ℕ). crc_bits r (bits_of (b2 ∷ b3 ∷ b4 ∷ []))) (own_byte s (s / 2 ^ 24) h refl)
    ∙ ap (λ (r : ℕ). crc_bits r (bits_of (b3 ∷ b4 ∷ []))) (own_byte t1 b2 (omega arith) (omega arith))
    ∙ ap (λ (r : ℕ). crc_bits r (bits_of (b4 ∷ []))) (own_byte t2 b3 (omega arith) (omega arith))
    ∙ own_byte t3 b4 (omega arith) (omega arith) ∙ omega arith

-- the register stays within 32 bits
step_fits : (r b : ℕ) → crc_step r b < 2 ^ 32
unfolding crc_step
step_fits r b =
    elim ((r / 2 ^ 31 + b) % 2 == 1) as (λ v. (if v then bit_xor (r * 2 % 2 ^ 32) 0x04C11DB7 else r * 2 % 2 ^ 32) < 2 ^ 32) [
      | true ↦ xor_lt 32 (r * 2 % 2 ^ 32) 0x04C11DB7 (omega arith) (lit< tt)
      | false ↦ omega arith
    ]

pub bits_fit : (r : ℕ) (bits : List ℕ) → r < 2 ^ 32 → crc_bits r bits < 2 ^ 32
bits_fit r [] h = h
bits_fit r (b ∷ bits) h = bits_fit (crc_step r b) bits (step_fits r b)

pub bits_of-append : (xs ys : List ℕ) → bits_of (xs ++ ys) ≡ bits_of xs ++ bits_of ys
bits_of-append [] ys = refl
bits_of-append (x ∷ xs) ys = ap (λ (l : List ℕ). byte_bits x ++ l) (bits_of-append xs ys) ∙ sym (append_assoc (byte_bits x) (bits_of xs) (bits_of ys))

-- bytes and their CRC behind them give 0
pub crc_own : (xs : List ℕ) → crc_of (xs ++ crc_bytes (crc_of xs)) ≡ 0
unfolding crc_of
crc_own xs =
    ap (crc_bits (2 ^ 32 - 1)) (bits_of-append xs (crc_bytes (crc_of xs)))
    ∙ crc_bits-append (2 ^ 32 - 1) (bits_of xs) (bits_of (crc_bytes (crc_of xs)))
    ∙ own_bytes (crc_of xs) (bits_fit (2 ^ 32 - 1) (bits_of xs) (lit< tt))

pub crc_fits : (xs : List ℕ) → crc_of xs < 2 ^ 32
unfolding crc_of
crc_fits xs = bits_fit (2 ^ 32 - 1) (bits_of xs) (lit< tt)

-- ---- a byte at a time, from a table
moved : ℕ → ℕ
moved r = r * 2 % 2 ^ 32

-- what one bit does
step_cases : (r b : ℕ) → (((r / 2 ^ 31 + b) % 2 ≡ 1) × (crc_step r b ≡ bit_xor (r * 2 % 2 ^ 32) 0x04C11DB7)) ⊎ (((r / 2 ^ 31 + b) % 2 ≡ 0) × (crc_step r b ≡ r * 2 % 2 ^ 32))
unfolding crc_step
step_cases r b = ⊎_elim
    (λ (e : (r / 2 ^ 31 + b) % 2 ≡ 1). let t : ((r / 2 ^ 31 + b) % 2 == 1) ≡ true = grind (arith, nat_tests) in inl (e, rw t refl))
    (λ (n : (r / 2 ^ 31 + b) % 2 ≡ 1 → ⊥). let t : ((r / 2 ^ 31 + b) % 2 == 1) ≡ false = grind (arith, nat_tests) in inr (omega arith, rw t refl))
    (cases_eq ((r / 2 ^ 31 + b) % 2) 1)

moved_xor : (x y : ℕ) → bit_xor x y * 2 % 2 ^ 32 ≡ bit_xor (x * 2 % 2 ^ 32) (y * 2 % 2 ^ 32)
moved_xor x y =
    let twice : bit_xor x y * 2 ≡ bit_xor (x * 2) (y * 2) = sym (ap (λ (n : ℕ). bit_xor n (y * 2)) (omega arith) ∙ ap (λ (n : ℕ). bit_xor (x * 2 ^ 1 + 0) n) (omega arith) ∙ xor_block 1 x y 0 0 (lit< tt) (lit< tt) ∙ omega arith) in
    ap (λ (n : ℕ). n % 2 ^ 32) twice ∙ xor_mod (x * 2) (y * 2) 32

top_xor : (x y : ℕ) → x < 2 ^ 32 → y < 2 ^ 32 → bit_xor x y / 2 ^ 31 ≡ (x / 2 ^ 31 + y / 2 ^ 31) % 2
top_xor x y h k =
    let e = bit_at_xor x y 31 in
    let b = xor_lt 32 x y h k in
    omega (arith, e, b)

-- a step is linear: what it does to a sum is the sum of what it does
step_xor : (x y a b : ℕ) → x < 2 ^ 32 → y < 2 ^ 32 → crc_step (bit_xor x y) ((a + b) % 2) ≡ bit_xor (crc_step x a) (crc_step y b)
step_xor x y a b h k =
    let p : ℕ = 0x04C11DB7 in
    let u = x * 2 % 2 ^ 32 in
    let v = y * 2 % 2 ^ 32 in
    let m : bit_xor x y * 2 % 2 ^ 32 ≡ bit_xor u v = moved_xor x y in
    let t = top_xor x y h k in
    ⊎_elim
    (λ (s1 : ((bit_xor x y / 2 ^ 31 + (a + b) % 2) % 2 ≡ 1) × (crc_step (bit_xor x y) ((a + b) % 2) ≡ bit_xor (bit_xor x y * 2 % 2 ^ 32) p)).
    ⊎_elim
    (λ (x1 : ((x / 2 ^ 31 + a) % 2 ≡ 1) × (crc_step x a ≡ bit_xor u p)).
    ⊎_elim
    (λ (y1 : ((y / 2 ^ 31 + b) % 2 ≡ 1) × (crc_step y b ≡ bit_xor v p)). absurd (omega (arith, t, s1.0, x1.0, y1.0)))
    (λ (y0 : ((y / 2 ^ 31 + b) % 2 ≡ 0) × (crc_step y b ≡ v)).
    rw (s1.1, m, x1.1, y0.1) (xor_assoc u v p ∙ ap (bit_xor u) (xor_comm v p) ∙ sym (xor_assoc u p v)))
    (step_cases y b))
    (λ (x0 : ((x / 2 ^ 31 + a) % 2 ≡ 0) × (crc_step x a ≡ u)).
    ⊎_elim
    (λ (y1 : ((y / 2 ^ 31 + b) % 2 ≡ 1) × (crc_step y b ≡ bit_xor v p)).
    rw (s1.1, m, x0.1, y1.1) (xor_assoc u v p))
    (λ (y0 : ((y / 2 ^ 31 + b) % 2 ≡ 0) × (crc_step y b ≡ v)). absurd (omega (arith, t, s1.0, x0.0, y0.0)))
    (step_cases y b))
    (step_cases x a))
    (λ (s0 : ((bit_xor x y / 2 ^ 31 + (a + b) % 2) % 2 ≡ 0) × (crc_step (bit_xor x y) ((a + b) % 2) ≡ bit_xor x y * 2 % 2 ^ 32)).
    ⊎_elim
    (λ (x1 : ((x / 2 ^ 31 + a) % 2 ≡ 1) × (crc_step x a ≡ bit_xor u p)).
    ⊎_elim
    (λ (y1 : ((y / 2 ^ 31 + b) % 2 ≡ 1) × (crc_step y b ≡ bit_xor v p)).
    rw (s0.1, m, x1.1, y1.1) (sym (xor_assoc u p (bit_xor v p) ∙ ap (bit_xor u) (ap (bit_xor p) (xor_comm v p) ∙ sym (xor_assoc p p v) ∙ ap (λ (n : ℕ). bit_xor n v) (xor_self p) ∙ xor_zero_l v))))
    (λ (y0 : ((y / 2 ^ 31 + b) % 2 ≡ 0) × (crc_step y b ≡ v)). absurd (omega (arith, t, s0.0, x1.0, y0.0)))
    (step_cases y b))
    (λ (x0 : ((x / 2 ^ 31 + a) % 2 ≡ 0) × (crc_step x a ≡ u)).
    ⊎_elim
    (λ (y1 : ((y / 2 ^ 31 + b) % 2 ≡ 1) × (crc_step y b ≡ bit_xor v p)). absurd (omega (arith, t, s0.0, x0.0, y1.0)))
    (λ (y0 : ((y / 2 ^ 31 + b) % 2 ≡ 0) × (crc_step y b ≡ v)). rw (s0.1, m, x0.1, y0.1) refl)
    (step_cases y b))
    (step_cases x a))
    (step_cases (bit_xor x y) ((a + b) % 2))

-- two lists of bits, place by place
abbrev sums : List ℕ → List ℕ → List ℕ
sums [] ys = []
sums (x ∷ xs) [] = []
sums (x ∷ xs) (y ∷ ys) = (x + y) % 2 ∷ sums xs ys

bits_xor : (x y : ℕ) (us vs : List ℕ) → length us ≡ length vs → x < 2 ^ 32 → y < 2 ^ 32 → crc_bits (bit_xor x y) (sums us vs) ≡ bit_xor (crc_bits x us) (crc_bits y vs)
bits_xor x y [] [] e h k = refl
bits_xor x y [] (b ∷ vs) e h k = absurd (omega arith)
bits_xor x y (a ∷ us) [] e h k = absurd (omega arith)
bits_xor x y (a ∷ us) (b ∷ vs) e h k =
    ap (λ (r : ℕ). crc_bits r (sums us vs)) (step_xor x y a b h k)
    ∙ bits_xor (crc_step x a) (crc_step y b) us vs (omega arith) (step_fits x a) (step_fits y b)

-- the bits of a sum of bytes
byte_bits_xor : (x y : ℕ) → byte_bits (bit_xor x y) ≡ sums (byte_bits x) (byte_bits y)
byte_bits_xor x y =
    let b7 = bit_at_xor x y 7 in let b6 = bit_at_xor x y 6 in let b5 = bit_at_xor x y 5 in let b4 = bit_at_xor x y 4 in
    let b3 = bit_at_xor x y 3 in let b2 = bit_at_xor x y 2 in let b1 = bit_at_xor x y 1 in
    let b0 : bit_xor x y % 2 ≡ (x % 2 + y % 2) % 2 = let e = bit_at_xor x y 0 in omega (arith, e) in
    rw (b7, b6, b5, b4, b3, b2, b1, b0) refl

-- a whole byte: the register moves up by eight, and what its top byte and the new byte differ in is looked up
pub byte_step : (r b : ℕ) → r < 2 ^ 32 → crc_bits r (byte_bits b) ≡ bit_xor (r * 256 % 2 ^ 32) (crc_bits 0 (byte_bits (bit_xor (r / 2 ^ 24) b)))
byte_step r b h =
    let top = r / 2 ^ 24 in
    let d = bit_xor top b in
    let back : bit_xor top d ≡ b = sym (xor_assoc top top b) ∙ ap (λ (n : ℕ). bit_xor n b) (xor_self top) ∙ xor_zero_l b in
    ap (λ (n : ℕ). crc_bits n (byte_bits b)) (sym (xor_zero_r r))
    ∙ ap (λ (n : ℕ). crc_bits (bit_xor r 0) (byte_bits n)) (sym back)
    ∙ ap (crc_bits (bit_xor r 0)) (byte_bits_xor top d)
    ∙ bits_xor r 0 (byte_bits top) (byte_bits d) refl h (lit< tt)
    ∙ ap (λ (n : ℕ). bit_xor n (crc_bits 0 (byte_bits d))) (eight_same r h)
