-- The service descriptor.
use Rattle.std.proofs.Common.{◌≡◌, ◌≢◌, ℕ, ◌+◌, ◌-◌, ◌==◌, if◌then◌else◌, Bool, true, false, List, [], ◌∷◌, length, get_or, take, drop, refl, sym, ◌∙◌, ap, arith, Option, Some, None}
use Rattle.std.specs.Option.{option_or}
use Rattle.std.proofs.lemmas.Bool.Decides.{nat_tests}
use Rattle.tables.specs.Descriptors.{DescriptorValue}
use Rattle.tables.specs.ServiceDescriptor.{ServiceValue, service_of, first_service_of}

-- another length than that of the parts
pub service_bad : (b : List ℕ) → length b ≢ 3 + get_or b 1 0 + get_or b (2 + get_or b 1 0) 0 → service_of b ≡ None
unfolding service_of
service_bad b h =
    let test : (length b == 3 + get_or b 1 0 + get_or b (2 + get_or b 1 0) 0) ≡ false = grind (arith, nat_tests) in
    rw test refl

abbrev service_by : List ℕ → ℕ → ℕ → Option ServiceValue
service_by b p n = Some (record { service_type = get_or b 0 0; service_provider_name = take (get_or b 1 0) (drop 2 b); service_name = take n (drop (3 + p) b) })

parts : (b : List ℕ) (p n : ℕ) → p ≡ get_or b 1 0 → n ≡ get_or b (2 + get_or b 1 0) 0 → service_by b p n ≡ service_by b (get_or b 1 0) (get_or b (2 + get_or b 1 0) 0)
parts b p n e f = ap (λ (k : ℕ). service_by b k n) e ∙ ap (λ (m : ℕ). service_by b (get_or b 1 0) m) f

-- the length of the parts
pub service_good : (b : List ℕ) (p n : ℕ) → p ≡ get_or b 1 0 → n ≡ get_or b (2 + p) 0 → length b ≡ 3 + p + n → service_of b ≡ Some (record { service_type = get_or b 0 0; service_provider_name = take (2 + p - 2) (drop 2 b); service_name = take (length b - (3 + p)) (drop (3 + p) b) })
unfolding service_of
service_good b p n e f l =
    let same : 2 + p - 2 ≡ get_or b 1 0 = omega arith in
    let left : length b - (3 + p) ≡ n = omega arith in
    let second : n ≡ get_or b (2 + get_or b 1 0) 0 = f ∙ ap (λ (k : ℕ). get_or b (2 + k) 0) e in
    let test : (length b == 3 + get_or b 1 0 + get_or b (2 + get_or b 1 0) 0) ≡ true = grind (arith, nat_tests) in
    rw (test, same, left) (sym (parts b p n e second))

-- ---- the first in a loop

pub services_none : first_service_of [] ≡ None
unfolding first_service_of
services_none = refl

pub services_first : (d : DescriptorValue) (rest : List DescriptorValue) (s : ServiceValue) → (d.tag == 0x48) ≡ true → service_of d.body ≡ Some s → first_service_of (d ∷ rest) ≡ Some s
unfolding first_service_of
services_first d rest s t e = rw (t, e) refl

either : (b : Bool) (rest : Option ServiceValue) → option_or (if b then None else None) rest ≡ rest
either true rest = refl
either false rest = refl

pub services_bad : (d : DescriptorValue) (rest : List DescriptorValue) → service_of d.body ≡ None → first_service_of (d ∷ rest) ≡ first_service_of rest
unfolding first_service_of
services_bad d rest e = rw e (either (d.tag == 0x48) (first_service_of rest))

pub services_other : (d : DescriptorValue) (rest : List DescriptorValue) → (d.tag == 0x48) ≡ false → first_service_of (d ∷ rest) ≡ first_service_of rest
unfolding first_service_of
services_other d rest t = rw t refl
