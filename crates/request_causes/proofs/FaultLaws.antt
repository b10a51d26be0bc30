-- What a fault that parts are refused for says of them.
use Rattle.std.proofs.Common.{◌≡◌, ◌≢◌, Bool, true, false, if◌then◌else◌, Some, None, refl}
use Rattle.std.specs.Prelude.{Result, Ok, Err, IfOk}
use Rattle.request.specs.declared.plan_fault.PlanFault.{PlanFault}
use Rattle.request.specs.declared.plan_fault.PlanFault.TheVariants.{OutOfRange, ServiceTaken, PidTaken}
use Rattle.request.specs.Parts.{PartsValue}
use Rattle.request.specs.Request.{has_bad_range, has_service_twice, has_pid_twice, request_fault_of}

range_of : (a b d : Bool) → (if a then Some OutOfRange else if b then Some ServiceTaken else if d then Some PidTaken else None) ≡ Some OutOfRange → a ≡ true
range_of true b d h = refl
range_of false true d h = cc
range_of false false true h = cc
range_of false false false h = cc

pub bad_range : (p : PartsValue) → request_fault_of p ≡ Some OutOfRange → has_bad_range p ≡ true
unfolding request_fault_of
bad_range p h = range_of (has_bad_range p) (has_service_twice p.services) (has_pid_twice p.services) h

service_of : (a b d : Bool) → (if a then Some OutOfRange else if b then Some ServiceTaken else if d then Some PidTaken else None) ≡ Some ServiceTaken → b ≡ true
service_of true b d h = cc
service_of false true d h = refl
service_of false false true h = cc
service_of false false false h = cc

pub service_twice : (p : PartsValue) → request_fault_of p ≡ Some ServiceTaken → has_service_twice p.services ≡ true
unfolding request_fault_of
service_twice p h = service_of (has_bad_range p) (has_service_twice p.services) (has_pid_twice p.services) h

pid_of : (a b d : Bool) → (if a then Some OutOfRange else if b then Some ServiceTaken else if d then Some PidTaken else None) ≡ Some PidTaken → d ≡ true
pid_of true b d h = cc
pid_of false true d h = cc
pid_of false false true h = refl
pid_of false false false h = cc

pub pid_twice : (p : PartsValue) → request_fault_of p ≡ Some PidTaken → has_pid_twice p.services ≡ true
unfolding request_fault_of
pid_twice p h = pid_of (has_bad_range p) (has_service_twice p.services) (has_pid_twice p.services) h

-- there are three
others_of : (a b d : Bool) (fault : PlanFault) → (if a then Some OutOfRange else if b then Some ServiceTaken else if d then Some PidTaken else None) ≡ Some fault
    → fault ≢ OutOfRange → fault ≢ ServiceTaken → fault ≢ PidTaken → ⊥
others_of true b d fault h x y z = x (cc)
others_of false true d fault h x y z = y (cc)
others_of false false true fault h x y z = z (cc)
others_of false false false fault h x y z = cc

pub no_other : (p : PartsValue) (fault : PlanFault) → request_fault_of p ≡ Some fault → fault ≢ OutOfRange → fault ≢ ServiceTaken → fault ≢ PidTaken → ⊥
unfolding request_fault_of
no_other p fault h x y z = others_of (has_bad_range p) (has_service_twice p.services) (has_pid_twice p.services) fault h x y z

-- what follows from what is said of the answer
pub answer_then : {A E : Type 0} {P Q : A → Type 0} (r : Result A E) → IfOk r P → ((x : A) → P x → Q x) → IfOk r Q
answer_then (Ok x) h k = k x h
answer_then (Err e) h k = tt
