-- What is said of a result.
use Rattle.std.proofs.Common.{◌≡◌, ◌∙◌, sym, subst}
use Rattle.std.specs.Prelude.{Result, Ok, Err, OnOk, OnErr}
use Rattle.outlet.specs.declared.run_fault.RunFault.{RunFault}
use Rattle.outlet.specs.declared.run_fault.RunFault.TheVariants.{Memory, Write}

pub ok_no_err : {T E : Type 0} (x : T) (y : E) → Ok x ≡ Err y → ⊥
ok_no_err x y e = cc

pub not_write : Memory ≡ Write → ⊥
not_write e = cc

pub not_ok : {T E : Type 0} (P : Type 0) (r : Result T E) (e : E) → r ≡ Err e → OnOk r P
not_ok {T} {E} P r e is = (let O : Result T E → Type 0 = λ v. OnOk v P in subst O (sym is) tt)

pub is_failed : {T E P : Type 0} (r : Result T E) (e : E) → r ≡ Err e → OnErr r P → P
is_failed {T} {E} {P} r e is on = (let O : Result T E → Type 0 = λ v. OnErr v P in subst O is on)

pub is_fine : {T E P : Type 0} (r : Result T E) (x : T) → r ≡ Ok x → OnOk r P → P
is_fine {T} {E} {P} r x is on = (let O : Result T E → Type 0 = λ v. OnOk v P in subst O is on)

pub not_memory : {T : Type 0} (r : Result T RunFault) → r ≡ Err Memory → r ≡ Err Write → ⊥
not_memory r first second = (let both = sym first ∙ second in cc)
