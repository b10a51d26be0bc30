-- The faults of a plan, one by one.
use Rattle.std.proofs.Common.{ℕ, ◌≤◌, ◌<◌, ◌≡◌, ◌&&◌, Bool, true, false, not, leb, length, Some, None, refl, arith}
use Rattle.std.proofs.lemmas.Bool.{and_parts, leb-true}
use Rattle.std.proofs.lemmas.Bool.Decides.{nat_tests}
use Rattle.request.specs.declared.limits.TheConstants.{MAX_SERVICES, MAX_STREAMS}
use Rattle.request.specs.declared.plan_fault.PlanFault.TheVariants.{OutOfRange, ServiceTaken, PidTaken}
use Rattle.request.specs.Parts.{PartsValue}
use Rattle.request.specs.Ranges.{is_count_between, has_good_top, has_good_lists, are_inputs, is_service, are_services}
use Rattle.request.specs.Request.{stream_rows_of, has_bad_range, has_service_twice, has_pid_twice, request_fault_of}
use Rattle.std.specs.List.{list_all}

-- the ranges
pub bad_top : (p : PartsValue) → has_good_top p ≡ false → has_bad_range p ≡ true
unfolding has_bad_range
bad_top p a = rw a refl

pub bad_lists : (p : PartsValue) → has_good_top p ≡ true → has_good_lists p ≡ false → has_bad_range p ≡ true
unfolding has_bad_range
bad_lists p a b = rw (a, b) refl

abbrev pub has_few_streams : PartsValue → Bool
has_few_streams p = is_count_between 1 MAX_STREAMS (length (stream_rows_of p.services))

pub stream_count_is : (p : PartsValue) (count : Bool) → has_good_top p ≡ true → has_good_lists p ≡ true → has_few_streams p ≡ count → has_bad_range p ≡ not count
unfolding has_bad_range
stream_count_is p count a b c = rw (a, b, c) refl

too_many : (n : ℕ) → MAX_STREAMS < n → is_count_between 1 MAX_STREAMS n ≡ false
too_many n h = grind (arith, nat_tests)

pub many_streams : (p : PartsValue) → has_good_top p ≡ true → has_good_lists p ≡ true → MAX_STREAMS < length (stream_rows_of p.services) → has_bad_range p ≡ true
many_streams p a b h = stream_count_is p false a b (too_many (length (stream_rows_of p.services)) h)

-- and what good ranges are
good_of : (x : Bool) → not x ≡ false → x ≡ true
good_of true e = refl
good_of false e = cc

pub record IsRanged (p : PartsValue) : Type 0 where
  pub top : has_good_top p ≡ true
  pub lists : has_good_lists p ≡ true
  pub few_streams : has_few_streams p ≡ true

pub ranged_of : (p : PartsValue) → has_bad_range p ≡ false → IsRanged p
unfolding has_bad_range
ranged_of p e =
    let all = and_parts (has_good_top p && has_good_lists p) (has_few_streams p) (good_of ((has_good_top p && has_good_lists p) && has_few_streams p) e) in
    let both = and_parts (has_good_top p) (has_good_lists p) all.0 in
    record { top = both.0; lists = both.1; few_streams = all.1 }

pub services_fit : (p : PartsValue) → has_bad_range p ≡ false → length p.services ≤ MAX_SERVICES
unfolding has_good_lists are_services
services_fit p e =
    let ranged = ranged_of p e in
    let both = and_parts (are_inputs p.inputs) (are_services (length p.inputs) p.services) ranged.lists in
    let parts = and_parts (is_count_between 1 MAX_SERVICES (length p.services)) (list_all (is_service (length p.inputs)) p.services) both.1 in
    let count = and_parts (leb 1 (length p.services)) (leb (length p.services) MAX_SERVICES) parts.0 in
    leb-true (length p.services) MAX_SERVICES count.1

-- the faults
pub out_of_range : (p : PartsValue) → has_bad_range p ≡ true → request_fault_of p ≡ Some OutOfRange
unfolding request_fault_of
out_of_range p a = rw a refl

pub service_taken : (p : PartsValue) → has_bad_range p ≡ false → has_service_twice p.services ≡ true → request_fault_of p ≡ Some ServiceTaken
unfolding request_fault_of
service_taken p a b = rw (a, b) refl

pub pid_taken : (p : PartsValue) → has_bad_range p ≡ false → has_service_twice p.services ≡ false → has_pid_twice p.services ≡ true → request_fault_of p ≡ Some PidTaken
unfolding request_fault_of
pid_taken p a b c = rw (a, b, c) refl

pub no_fault : (p : PartsValue) → has_bad_range p ≡ false → has_service_twice p.services ≡ false → has_pid_twice p.services ≡ false → request_fault_of p ≡ None
unfolding request_fault_of
no_fault p a b c = rw (a, b, c) refl
