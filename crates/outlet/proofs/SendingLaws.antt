-- What went out of a run, packet by packet.
use Rattle.std.proofs.Common.{ℕ, ◌+◌, ◌≡◌, min, List, [], ◌∷◌, ◌++◌, length, refl, ap, ◌∙◌, sym, arith, length-append}
use Rattle.std.specs.Prelude.{Result, Ok, Err, IfErr, OnOk, OnErr}
use Rattle.analyse.specs.declared.fault.Fault.{Fault}
use Rattle.analyse.specs.Faults.{faults, faults_at}
use Rattle.analyse.proofs.FaultsLaws.{faults_more}
use Rattle.outlet.specs.Sending.{fault_count}

-- the faults of one packet more
pub counted_more : (rate period : ℕ) (slots : List (List ℕ)) (q : List ℕ) (old new : ℕ) (told : List Fault) → old ≡ fault_count rate period slots
    → told ≡ faults_at rate period (slots ++ q ∷ []) (length slots) → new ≡ min (old + length told) 18446744073709551615
    → new ≡ fault_count rate period (slots ++ q ∷ [])
counted_more rate period slots q old new told was is sum =
    let more = ap length (faults_more rate period slots q) in
    let parts = length-append (faults rate period slots) (faults_at rate period (slots ++ q ∷ []) (length slots)) in
    let these = ap length is in
    omega (arith, was, sum, more, parts, these)

pub on_err_always : {T E P : Type 0} (r : Result T E) → P → OnErr r P
on_err_always (Ok x) p = tt
on_err_always (Err e) p = p

pub if_err_always : {T E : Type 0} {P : E → Type 0} (r : Result T E) → ((e : E) → P e) → IfErr r P
if_err_always (Ok x) p = tt
if_err_always (Err e) p = p e

pub same_err : {T E : Type 0} (r : Result T E) (a b : E) → r ≡ Err a → r ≡ Err b → a ≡ b
same_err r a b first second =
    let both = sym first ∙ second in cc

pub if_err_is : {T E : Type 0} {P : E → Type 0} (r : Result T E) → ((e : E) → r ≡ Err e → P e) → IfErr r P
if_err_is (Ok x) p = tt
if_err_is (Err e) p = p e refl

pub on_ok_always : {T E P : Type 0} (r : Result T E) → P → OnOk r P
on_ok_always (Ok x) p = p
on_ok_always (Err e) p = tt

pub on_err_weaker : {T E P Q : Type 0} (r : Result T E) → (P → Q) → OnErr r P → OnErr r Q
on_err_weaker (Ok x) f p = tt
on_err_weaker (Err e) f p = f p

-- from three clauses of a result
pub on_err_three : {T E P Q U S : Type 0} (r : Result T E) → OnErr r P → OnErr r Q → OnErr r U → (P → Q → U → S) → OnErr r S
on_err_three (Ok x) p q u f = tt
on_err_three (Err e) p q u f = f p q u
