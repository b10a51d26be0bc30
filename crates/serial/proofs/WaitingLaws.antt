-- Why a run fails.
use Rattle.std.proofs.Common.{◌≡◌, refl}
use Rattle.std.specs.Prelude.{Result, Ok, Err, OnErr}
use Rattle.outlet.specs.declared.run_fault.RunFault.{RunFault}
use Rattle.outlet.specs.declared.run_fault.RunFault.TheVariants.{Memory, Write}

-- A fault is want of memory, or a failed write.
pub on_fault : {T P : Type 0} (r : Result T RunFault) → (r ≡ Err Memory → P) → (r ≡ Err Write → P) → OnErr r P
on_fault (Ok x) memory write = tt
on_fault (Err Memory) memory write = memory refl
on_fault (Err Write) memory write = write refl
