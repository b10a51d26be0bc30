-- An analyser tells few faults a slot.
use Rattle.std.proofs.Common.{ℕ, ◌*◌, ◌≤◌, List, [], ◌∷◌, ◌++◌, length, Option, Some, None, Bool, true, false, ap, arith}
use Rattle.std.specs.List.{flat_map, range_with_len, sum_by}
use Rattle.std.proofs.lemmas.List.{length-append}
use Rattle.std.proofs.lemmas.List.Concat.{length-flat_map}
use Rattle.std.proofs.lemmas.List.FromFn.{length-range_with_len}
use Rattle.std.proofs.lemmas.List.Sums.{sum_by-cons}
use Rattle.std.proofs.Math.Nat.{suc-mul}
use Rattle.tspkt.specs.Packet.{pid_of}
use Rattle.analyse.specs.Slots.{slot_at, is_sync_lost_at, is_sync_byte_bad_at}
use Rattle.analyse.specs.Faults.{told_if, told_of_pids, table_limit, is_pat_bad_at, is_counter_bad_at, is_pmt_bad_at, is_pid_missing_at, faults_at, faults}
use Rattle.analyse.specs.declared.fault_kind.FaultKind.{FaultKind}
use Rattle.analyse.specs.declared.fault_kind.FaultKind.TheVariants.{TsSyncLoss, SyncByteError, PatError2, ContinuityCountError, PmtError2, PidError}
use Rattle.analyse.specs.declared.fault.Fault.{Fault}

sum_few : {X : Type 0} (g : X → ℕ) (b : ℕ) (xs : List X) → ((x : X) → g x ≤ b) → sum_by g xs ≤ length xs * b
sum_few g b [] each = omega arith
sum_few g b (x ∷ xs) each =
    let rest = sum_few g b xs each in
    let here = each x in
    omega (arith, rest, here, sum_by-cons g x xs, suc-mul (length xs) b)

told_few : (told : Bool) (kind : FaultKind) (m : ℕ) (pid : Option ℕ) → length (told_if told kind m pid) ≤ 1
told_few true kind m pid = omega arith
told_few false kind m pid = omega arith

flat_few : {X : Type 0} (f : ℕ → List X) (n : ℕ) → ((k : ℕ) → length (f k) ≤ 1) → length (flat_map f (range_with_len 0 n)) ≤ n
flat_few f n each =
    let sum = sum_few (λ k. length (f k)) 1 (range_with_len 0 n) each in
    omega (arith, sum, length-flat_map f (range_with_len 0 n), length-range_with_len 0 n)

pids_few : (test : ℕ → Bool) (kind : FaultKind) (m : ℕ) → length (told_of_pids test kind m) ≤ 8192
pids_few test kind m = flat_few (λ pid. told_if (test pid) kind m (Some pid)) 8192 (λ pid. told_few (test pid) kind m (Some pid))

six_few : (a b c d e f : List Fault) → length a ≤ 1 → length b ≤ 1 → length c ≤ 1 → length d ≤ 1 → length e ≤ 8192 → length f ≤ 8192 → length (a ++ b ++ c ++ d ++ e ++ f) ≤ 16388
six_few a b c d e f fa fb fc fd fe ff =
    omega (arith, fa, fb, fc, fd, fe, ff, length-append (a ++ b ++ c ++ d ++ e) f, length-append (a ++ b ++ c ++ d) e, length-append (a ++ b ++ c) d, length-append (a ++ b) c, length-append a b)

slot_few : (rate period : ℕ) (slots : List (List ℕ)) (m : ℕ) → length (faults_at rate period slots m) ≤ 16388
unfolding faults_at
slot_few rate period slots m =
    let limit = table_limit rate in
    six_few (told_if (is_sync_lost_at slots m) TsSyncLoss m None) (told_if (is_sync_byte_bad_at slots m) SyncByteError m None)
    (told_if (is_pat_bad_at limit slots m) PatError2 m (Some 0)) (told_if (is_counter_bad_at slots m) ContinuityCountError m (Some (pid_of (slot_at slots m))))
    (told_of_pids (is_pmt_bad_at limit slots m) PmtError2 m) (told_of_pids (is_pid_missing_at period slots m) PidError m)
    (told_few (is_sync_lost_at slots m) TsSyncLoss m None) (told_few (is_sync_byte_bad_at slots m) SyncByteError m None)
    (told_few (is_pat_bad_at limit slots m) PatError2 m (Some 0)) (told_few (is_counter_bad_at slots m) ContinuityCountError m (Some (pid_of (slot_at slots m))))
    (pids_few (is_pmt_bad_at limit slots m) PmtError2 m) (pids_few (is_pid_missing_at period slots m) PidError m)

-- at most 16,388 faults a slot
pub few_faults : (rate period : ℕ) (slots : List (List ℕ)) → length (faults rate period slots) ≤ length slots * 16388
few_faults rate period slots =
    let sum = sum_few (λ m. length (faults_at rate period slots m)) 16388 (range_with_len 0 (length slots)) (λ m. slot_few rate period slots m) in
    omega (arith, sum, length-flat_map (faults_at rate period slots) (range_with_len 0 (length slots)), ap (λ n. n * 16388) (length-range_with_len 0 (length slots)))
