-- The first byte of a section.
use Rattle.std.proofs.Common.{◌≡◌, ℕ, ◌%◌, List, length, get_or, ◌∙◌, ap, arith}
use Rattle.std.proofs.Math.ListN.{get_or-eq_default}
use Rattle.tspkt.specs.Bits.{field}
use Rattle.tspkt.proofs.BitLaws.{field_byte}

pub table_id_at : (b : List ℕ) → field b 0 8 ≡ get_or b 0 0 % 256
table_id_at b = field_byte b 0

pub no_table_id : (b : List ℕ) → length b ≡ 0 → field b 0 8 ≡ 0
no_table_id b h = table_id_at b ∙ ap (λ (n : ℕ). n % 256) (get_or-eq_default b 0 (omega arith))
