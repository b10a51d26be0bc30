-- The table.
use Rattle.std.proofs.Common.{◌≡◌, ℕ, zero, suc, ◌+◌, ◌<◌, List, [], ◌∷◌, map, length, get_or, refl, ◌∙◌, ap, arith}
use Rattle.std.proofs.lemmas.List.{get_or-map}
use Rattle.section.specs.Crc.{crc_step, crc_bits, byte_bits}
use Rattle.section.specs.declared.table.TheConstants.{TABLE}

-- n numbers from k on
up : ℕ → ℕ → List ℕ
up k zero = []
up k (suc n) = k ∷ up (k + 1) n

table_is : TABLE ≡ map (λ (i : ℕ). crc_bits 0 (byte_bits i)) (up 0 256)
unfolding up crc_step
table_is = refl

up_length : (k n : ℕ) → length (up k n) ≡ n
unfolding up
up_length k zero = refl
up_length k (suc n) = ap suc (up_length (k + 1) n)

up_at : (k n i : ℕ) → i < n → get_or (up k n) i 0 ≡ k + i
unfolding up
up_at k zero i h = absurd (omega arith)
up_at k (suc n) zero h = omega arith
up_at k (suc n) (suc i) h = up_at (k + 1) n i (omega arith) ∙ omega arith

-- each word is what a byte leaves of an empty register
pub table_at : (i : ℕ) → i < 256 → get_or TABLE i 0 ≡ crc_bits 0 (byte_bits i)
table_at i h =
    ap (λ (l : List ℕ). get_or l i 0) table_is
    ∙ get_or-map (λ (j : ℕ). crc_bits 0 (byte_bits j)) (up 0 256) i 0 0 (omega (arith, up_length 0 256))
    ∙ ap (λ (j : ℕ). crc_bits 0 (byte_bits j)) (up_at 0 256 i h ∙ omega arith)
