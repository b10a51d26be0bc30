-- Fields by the bytes that they stand in.
use Rattle.std.proofs.Common.{◌≡◌, ℕ, zero, suc, ◌+◌, ◌-◌, ◌*◌, ◌/◌, ◌%◌, ◌^◌, ◌<◌, ◌≤◌, List, get_or, refl, sym, ◌∙◌, ap, arith}
use Rattle.std.proofs.lemmas.Nat.{mod-pow-add, shr-shr}
use Rattle.tspkt.specs.Bits.{bit, field}

-- bit k of byte j
pub bit_at_byte : (bytes : List ℕ) (j k : ℕ) → k < 8 → bit bytes (8 * j + k) ≡ get_or bytes j 0 / 2 ^ (7 - k) % 2
bit_at_byte bytes j k h =
    let q : (8 * j + k) / 8 ≡ j = omega arith in
    let r : (8 * j + k) % 8 ≡ k = omega arith in
    ap (λ (n : ℕ). get_or bytes n 0 / 2 ^ (7 - (8 * j + k) % 8) % 2) q ∙ ap (λ (n : ℕ). get_or bytes j 0 / 2 ^ (7 - n) % 2) r

-- a number's top w bits of w + 1, and its last bit
one_more : (y w : ℕ) → y % 2 ^ (w + 1) ≡ 2 * (y / 2 % 2 ^ w) + y % 2
one_more y w = let e = mod-pow-add y w 1 in omega (arith, e)

-- a field within one byte
pub field_in_byte : (bytes : List ℕ) (j k w : ℕ) → k + w ≤ 8 → field bytes (8 * j + k) w ≡ get_or bytes j 0 / 2 ^ (8 - (k + w)) % 2 ^ w
unfolding field
field_in_byte bytes j k zero h = omega arith
field_in_byte bytes j k (suc w) h =
    let before : k + w ≤ 8 = omega arith in
    let b = get_or bytes j 0 in
    let y = b / 2 ^ (7 - (k + w)) in
    let ih : field bytes (8 * j + k) w ≡ b / 2 ^ (8 - (k + w)) % 2 ^ w = field_in_byte bytes j k w before in
    let last : bit bytes (8 * j + (k + w)) ≡ y % 2 = bit_at_byte bytes j (k + w) (omega arith) in
    let place : 8 * j + k + w ≡ 8 * j + (k + w) = omega arith in
    let down : 8 - (k + w) ≡ 7 - (k + w) + 1 = omega arith in
    let halved : b / 2 ^ (8 - (k + w)) ≡ y / 2 = ap (λ (n : ℕ). b / 2 ^ n) down ∙ sym (shr-shr b (7 - (k + w)) 1) in
    let whole : y % 2 ^ (w + 1) ≡ 2 * (y / 2 % 2 ^ w) + y % 2 = one_more y w in
    let shown : 8 - (k + suc w) ≡ 7 - (k + w) = omega arith in
    ap (λ (n : ℕ). 2 * field bytes (8 * j + k) w + bit bytes n) place
    ∙ ap (λ (n : ℕ). 2 * n + bit bytes (8 * j + (k + w))) (ih ∙ ap (λ (n : ℕ). n % 2 ^ w) halved)
    ∙ ap (λ (n : ℕ). 2 * (y / 2 % 2 ^ w) + n) last
    ∙ sym (ap (λ (n : ℕ). b / 2 ^ n % 2 ^ suc w) shown ∙ ap (λ (n : ℕ). y % 2 ^ n) (omega arith) ∙ whole)

pow_suc_two : (w : ℕ) → 2 ^ suc w ≡ 2 * 2 ^ w
pow_suc_two w = omega arith

-- a field in two parts
pub field_split : (bytes : List ℕ) (first v w : ℕ) → field bytes first (v + w) ≡ field bytes first v * 2 ^ w + field bytes (first + v) w
unfolding field
field_split bytes first v zero =
    let same : v + 0 ≡ v = omega arith in
    let e : field bytes first (v + 0) ≡ field bytes first v = ap (field bytes first) same in
    omega arith
field_split bytes first v (suc w) =
    let longer : v + suc w ≡ suc (v + w) = omega arith in
    let place : first + (v + w) ≡ first + v + w = omega arith in
    let e : field bytes first (v + suc w) ≡ 2 * field bytes first (v + w) + bit bytes (first + (v + w)) = ap (field bytes first) longer in
    let ih = field_split bytes first v w in
    let p : bit bytes (first + (v + w)) ≡ bit bytes (first + v + w) = ap (bit bytes) place in
    let twice : field bytes first v * 2 ^ suc w ≡ 2 * (field bytes first v * 2 ^ w) = (ap (λ (n : ℕ). field bytes first v * n) (pow_suc_two w) ∙ omega arith) in
    omega (arith, e, ih, p, twice)

-- a whole byte
pub field_byte : (bytes : List ℕ) (j : ℕ) → field bytes (8 * j) 8 ≡ get_or bytes j 0 % 256
field_byte bytes j =
    let e = field_in_byte bytes j 0 8 (omega arith) in
    let same : 8 * j + 0 ≡ 8 * j = omega arith in
    let f : field bytes (8 * j + 0) 8 ≡ field bytes (8 * j) 8 = ap (λ (n : ℕ). field bytes n 8) same in
    omega (arith, e, f)

-- a field that ends with a whole byte
pub field_and_byte : (bytes : List ℕ) (first w j : ℕ) → first + w ≡ 8 * j → field bytes first (w + 8) ≡ field bytes first w * 256 + get_or bytes j 0 % 256
field_and_byte bytes first w j h = field_split bytes first w 8 ∙ ap (λ (n : ℕ). field bytes first w * 256 + n) (ap (λ (n : ℕ). field bytes n 8) h ∙ field_byte bytes j)

-- fields of equal bits are equal
pub field_same : (a b : List ℕ) (first w : ℕ) → ((k : ℕ) → k < w → bit a (first + k) ≡ bit b (first + k)) → field a first w ≡ field b first w
unfolding field
field_same a b first zero h = refl
field_same a b first (suc w) h =
    let ih = field_same a b first w (λ k l. h k (omega arith)) in
    let last = h w (omega arith) in
    omega (arith, ih, last)

-- equal bytes have equal bits
pub bit_same : (a b : List ℕ) (i : ℕ) → get_or a (i / 8) 0 ≡ get_or b (i / 8) 0 → bit a i ≡ bit b i
bit_same a b i h = ap (λ (n : ℕ). n / 2 ^ (7 - i % 8) % 2) h

-- a field fits its width
pub field_fits : (bytes : List ℕ) (first w : ℕ) → field bytes first w < 2 ^ w
unfolding field
field_fits bytes first zero = omega arith
field_fits bytes first (suc w) =
    let ih = field_fits bytes first w in
    let e = pow_suc_two w in
    omega (arith, ih, e)
