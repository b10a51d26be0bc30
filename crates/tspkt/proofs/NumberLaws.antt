-- The numbers that byteorder reads are the fields of the bits.
use Rattle.std.proofs.Common.{◌≡◌, ℕ, zero, suc, ◌+◌, ◌*◌, ◌^◌, ◌<◌, List, slice_index, refl, sym, ◌∙◌, ap, arith}
use Rattle.byteorder.proofs.Bytes.{pow256}
use Rattle.byteorder.specs.Endian.{big_from}
use Rattle.tspkt.specs.Bits.{field}
use Rattle.tspkt.proofs.BitLaws.{field_byte, field_split}

-- the number in n bytes from byte i is the field of their bits
pub field-big_from : (bytes : List ℕ) (i n : ℕ) → ((k : ℕ) → slice_index bytes k < 256) → field bytes (8 * i) (8 * n) ≡ big_from i n bytes
unfolding field
field-big_from bytes i zero h = refl
field-big_from bytes i (suc n) h =
    let more : 8 * suc n ≡ 8 + 8 * n = omega arith in
    let place : 8 * i + 8 ≡ 8 * suc i = omega arith in
    let first : field bytes (8 * i) 8 ≡ slice_index bytes i = omega (arith, field_byte bytes i, h i) in
    ap (field bytes (8 * i)) more
    ∙ field_split bytes (8 * i) 8 (8 * n)
    ∙ ap (λ (k : ℕ). k * 2 ^ (8 * n) + field bytes (8 * i + 8) (8 * n)) first
    ∙ ap (λ (k : ℕ). slice_index bytes i * k + field bytes (8 * i + 8) (8 * n)) (sym (pow256 n))
    ∙ ap (λ (k : ℕ). slice_index bytes i * 256 ^ n + field bytes k (8 * n)) place
    ∙ ap (λ (k : ℕ). slice_index bytes i * 256 ^ n + k) (field-big_from bytes (suc i) n h)
