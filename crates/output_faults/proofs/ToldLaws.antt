-- Which faults are told of some slots: those whose test passes, each at its slot.
use Rattle.std.proofs.Common.{◌≡◌, ℕ, zero, suc, ◌+◌, ◌<◌, ◌≤◌, List, [], ◌∷◌, ◌++◌, length, refl, subst, arith, Option, Some, None, Bool, true, false, inl, inr}
use Rattle.std.specs.List.{All, Contains, slice_get, flat_map, range_with_len}
use Rattle.std.proofs.lemmas.Bool.{cases_lt}
use Rattle.std.proofs.lemmas.List.Elements.{All-nil, All-cons, All-append, Contains-append_left, Contains-append_right}
use Rattle.tspkt.specs.Packet.{pid_of}
use Rattle.tspkt.specs.Counters.{follows_of, lawful_behind, lawful_of}
use Rattle.analyse.specs.Slots.{slot_at, is_sync_lost_at, is_sync_byte_bad_at}
use Rattle.analyse.specs.Faults.{is_pat_bad_at, is_counter_bad_at, last_is_lawful, is_pmt_bad_at, is_pid_missing_at, told_if, told_of_pids, table_limit, faults_at, faults}
use Rattle.analyse.specs.declared.fault_kind.FaultKind.{FaultKind}
use Rattle.analyse.specs.declared.fault_kind.FaultKind.TheVariants.{TsSyncLoss, SyncByteError, PatError2, ContinuityCountError, PmtError2, PidError}
use Rattle.analyse.specs.declared.fault.Fault.{Fault}

-- ---- lists for the numbers of a range

all_of_range : {X : Type 0} (P : X → Type 0) (f : ℕ → List X) (a n : ℕ) → ((k : ℕ) → a ≤ k → k < a + n → All P (f k)) → All P (flat_map f (range_with_len a n))
all_of_range P f a zero h = All-nil P
all_of_range P f a (suc n) h =
    All-append P (f a) (flat_map f (range_with_len (a + 1) n)) (h a (omega arith) (omega arith))
    (all_of_range P f (a + 1) n (λ k low high. h k (omega arith) (omega arith)))

in_range : {X : Type 0} (f : ℕ → List X) (x : X) (a n k : ℕ) → a ≤ k → k < a + n → Contains (f k) x → Contains (flat_map f (range_with_len a n)) x
in_range f x a zero k low high c = absurd (omega arith)
in_range f x a (suc n) k low high c = elim (cases_lt a k) [
  | inl l ↦ Contains-append_right (f a) (flat_map f (range_with_len (a + 1) n)) x (in_range f x (a + 1) n k (omega arith) (omega arith) c)
  | inr l ↦
      let e : k ≡ a = omega arith in
      Contains-append_left (f a) (flat_map f (range_with_len (a + 1) n)) x (subst (λ (j : ℕ). Contains (f j) x) e c)
]

-- ---- each fault that is told

-- the test of a fault's kind passes at its slot
abbrev pub PassesKind : ℕ → ℕ → List (List ℕ) → FaultKind → ℕ → Option ℕ → Type 0
PassesKind rate period slots TsSyncLoss m pid = is_sync_lost_at slots m ≡ true
PassesKind rate period slots SyncByteError m pid = is_sync_byte_bad_at slots m ≡ true
PassesKind rate period slots PatError2 m pid = is_pat_bad_at (table_limit rate) slots m ≡ true
PassesKind rate period slots ContinuityCountError m pid = (is_counter_bad_at slots m ≡ true) × (pid ≡ Some (pid_of (slot_at slots m)))
PassesKind rate period slots PmtError2 m pid = (n : ℕ) × (is_pmt_bad_at (table_limit rate) slots m n ≡ true)
PassesKind rate period slots PidError m pid = (n : ℕ) × (is_pid_missing_at period slots m n ≡ true)

abbrev pub Passes : ℕ → ℕ → List (List ℕ) → Fault → Type 0
Passes rate period slots f = (f.slot < length slots) × PassesKind rate period slots f.kind f.slot f.pid

if_told : (P : Fault → Type 0) (b : Bool) (kind : FaultKind) (m : ℕ) (pid : Option ℕ) → (b ≡ true → P (record { slot = m; kind = kind; pid = pid })) → All P (told_if b kind m pid)
if_told P true kind m pid h = All-cons P (record { slot = m; kind = kind; pid = pid }) [] (h refl) (All-nil P)
if_told P false kind m pid h = All-nil P

of_pids_told : (P : Fault → Type 0) (test : ℕ → Bool) (kind : FaultKind) (m : ℕ) → ((n : ℕ) → test n ≡ true → P (record { slot = m; kind = kind; pid = Some n })) → All P (told_of_pids test kind m)
of_pids_told P test kind m h = all_of_range P (λ n. told_if (test n) kind m (Some n)) 0 8192 (λ n low high. if_told P (test n) kind m (Some n) (h n))

all_six : {X : Type 0} (P : X → Type 0) (a b c d e f : List X) → All P a → All P b → All P c → All P d → All P e → All P f → All P (a ++ b ++ c ++ d ++ e ++ f)
all_six P a b c d e f ha hb hc hd he hf =
    All-append P (a ++ b ++ c ++ d ++ e) f
    (All-append P (a ++ b ++ c ++ d) e
    (All-append P (a ++ b ++ c) d
    (All-append P (a ++ b) c
    (All-append P a b ha hb) hc) hd) he) hf

at_pass : (rate period : ℕ) (slots : List (List ℕ)) (m : ℕ) → m < length slots → All (Passes rate period slots) (faults_at rate period slots m)
unfolding faults_at
at_pass rate period slots m l =
    let P = Passes rate period slots in
    let limit = table_limit rate in
    all_six P
    (told_if (is_sync_lost_at slots m) TsSyncLoss m None)
    (told_if (is_sync_byte_bad_at slots m) SyncByteError m None)
    (told_if (is_pat_bad_at limit slots m) PatError2 m (Some 0x0000))
    (told_if (is_counter_bad_at slots m) ContinuityCountError m (Some (pid_of (slot_at slots m))))
    (told_of_pids (is_pmt_bad_at limit slots m) PmtError2 m)
    (told_of_pids (is_pid_missing_at period slots m) PidError m)
    (if_told P (is_sync_lost_at slots m) TsSyncLoss m None (λ t. (l, t)))
    (if_told P (is_sync_byte_bad_at slots m) SyncByteError m None (λ t. (l, t)))
    (if_told P (is_pat_bad_at limit slots m) PatError2 m (Some 0x0000) (λ t. (l, t)))
    (if_told P (is_counter_bad_at slots m) ContinuityCountError m (Some (pid_of (slot_at slots m))) (λ t. (l, (t, refl))))
    (of_pids_told P (is_pmt_bad_at limit slots m) PmtError2 m (λ n t. (l, (n, t))))
    (of_pids_told P (is_pid_missing_at period slots m) PidError m (λ n t. (l, (n, t))))

pub all_pass : (rate period : ℕ) (slots : List (List ℕ)) → All (Passes rate period slots) (faults rate period slots)
all_pass rate period slots = all_of_range (Passes rate period slots) (faults_at rate period slots) 0 (length slots) (λ m low high. at_pass rate period slots m (omega arith))

-- ---- a Continuity_count_error that is told

abbrev pub counter_fault : List (List ℕ) → ℕ → Fault
counter_fault slots m = record { slot = m; kind = ContinuityCountError; pid = Some (pid_of (slot_at slots m)) }

fourth : {X : Type 0} (a b c d e f : List X) (x : X) → Contains d x → Contains (a ++ b ++ c ++ d ++ e ++ f) x
fourth a b c d e f x h = Contains-append_left (a ++ b ++ c ++ d ++ e) f x (Contains-append_left (a ++ b ++ c ++ d) e x (Contains-append_right (a ++ b ++ c) d x h))

one_told : (b : Bool) (kind : FaultKind) (m : ℕ) (pid : Option ℕ) → b ≡ true → Contains (told_if b kind m pid) (record { slot = m; kind = kind; pid = pid })
one_told true kind m pid h = (0, omega arith, refl)
one_told false kind m pid h = cc

counter_at : (rate period : ℕ) (slots : List (List ℕ)) (m : ℕ) → is_counter_bad_at slots m ≡ true → Contains (faults_at rate period slots m) (counter_fault slots m)
unfolding faults_at
counter_at rate period slots m t =
    let limit = table_limit rate in
    fourth
    (told_if (is_sync_lost_at slots m) TsSyncLoss m None)
    (told_if (is_sync_byte_bad_at slots m) SyncByteError m None)
    (told_if (is_pat_bad_at limit slots m) PatError2 m (Some 0x0000))
    (told_if (is_counter_bad_at slots m) ContinuityCountError m (Some (pid_of (slot_at slots m))))
    (told_of_pids (is_pmt_bad_at limit slots m) PmtError2 m)
    (told_of_pids (is_pid_missing_at period slots m) PidError m)
    (counter_fault slots m) (one_told (is_counter_bad_at slots m) ContinuityCountError m (Some (pid_of (slot_at slots m))) t)

pub counter_told : (rate period : ℕ) (slots : List (List ℕ)) (m : ℕ) → m < length slots → is_counter_bad_at slots m ≡ true → Contains (faults rate period slots) (counter_fault slots m)
counter_told rate period slots m l t = in_range (faults_at rate period slots) (counter_fault slots m) 0 (length slots) m (omega arith) (omega arith) (counter_at rate period slots m t)

-- ---- the counter rule at one packet of a PID

later_lawful : (told : Bool) (before : Option (List ℕ)) (last : List ℕ) (earlier : List (List ℕ)) (q : List ℕ) (rest : List (List ℕ))
    → slice_get (lawful_behind before last (earlier ++ q ∷ rest)) (length earlier) ≡ Some (last_is_lawful (told ∷ lawful_behind before last (earlier ++ q ∷ [])))
later_lawful told before last [] q rest = refl
later_lawful told before last (n ∷ earlier) q rest = later_lawful (follows_of before last n) (Some last) n earlier q rest

pub lawful_there : (earlier : List (List ℕ)) (q : List ℕ) (rest : List (List ℕ)) → slice_get (lawful_of (earlier ++ q ∷ rest)) (length earlier) ≡ Some (last_is_lawful (lawful_of (earlier ++ q ∷ [])))
lawful_there [] q rest = refl
lawful_there (p ∷ earlier) q rest = later_lawful true None p earlier q rest
