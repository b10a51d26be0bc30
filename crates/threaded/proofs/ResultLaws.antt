-- Want of memory goes before what a run answers.
use Rattle.std.proofs.Common.{◌≡◌, ◌⊎◌, ◌∙◌, inl, inr, refl, sym, subst}
use Rattle.std.specs.Prelude.{Result, Ok, Err, IfOk, OnOk, OnErr}
use Rattle.outcome.proofs.ResultLaws.{ok_no_err}
use Rattle.outlet.specs.declared.run_fault.RunFault.{RunFault}
use Rattle.outlet.specs.declared.run_fault.RunFault.TheVariants.{Memory, Write}

-- it didn't fail

pub ok_fine : {T E : Type 0} (r : Result T E) (x : T) → r ≡ Ok x → OnErr r ⊥
ok_fine {T} {E} r x is = (let O : Result T E → Type 0 = λ v. OnErr v ⊥ in subst O (sym is) tt)

pub ok_unwritten : {T Q : Type 0} (r : Result T RunFault) (x : T) → r ≡ Ok x → (r ≡ Err Write → ⊥) ⊎ Q
ok_unwritten r x is = inl (λ write. ok_no_err x Write (sym is ∙ write))

pub fine_part : {T E P : Type 0} (r : Result T E) → OnErr r ⊥ → OnOk r P → P
fine_part (Ok x) fine p = p
fine_part (Err e) fine p = absurd fine

-- what is so of what is answered, and of `Ok`
pub if_ok_both : {T E Q : Type 0} {P S : T → Type 0} (r : Result T E) → IfOk r P → OnOk r Q → ((x : T) → P x → Q → S x) → IfOk r S
if_ok_both (Ok x) p q f = f x p q
if_ok_both (Err e) p q f = tt

-- what is so at `Ok`, and at `Err` where another thing isn't
pub either_part : {T E P Q : Type 0} (r : Result T E) → OnOk r P → OnErr r (P ⊎ Q) → P ⊎ Q
either_part (Ok x) p q = inl p
either_part (Err e) p q = q

-- it failed to write, or it didn't
pub unless_write : {T P Q : Type 0} (r : Result T RunFault) → OnOk r P → (r ≡ Err Memory → P) → (r ≡ Err Write → Q) → P ⊎ Q
unless_write (Ok x) p memory write = inl p
unless_write (Err Memory) p memory write = inl (memory refl)
unless_write (Err Write) p memory write = inr (write refl)
