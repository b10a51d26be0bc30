-- Which PIDs are watched.
use Rattle.std.proofs.Common.{◌≡◌, ℕ, zero, suc, get_or, refl, false}
use Rattle.std.specs.Prelude.{replicate}

pub no_flag : (n pid : ℕ) → get_or (replicate n false) pid false ≡ false
no_flag zero pid = refl
no_flag (suc n) zero = refl
no_flag (suc n) (suc pid) = no_flag n pid
