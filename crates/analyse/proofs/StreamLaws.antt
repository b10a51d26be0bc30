-- The faults of the next slot, from what the watches tell.
use Rattle.std.proofs.Common.{◌≡◌, ℕ, List, [], ◌∷◌, ◌++◌, length, sym, ◌∙◌, ap, append_assoc, Option, Some, None, Bool, false}
use Rattle.tspkt.specs.Packet.{pid_of}
use Rattle.analyse.specs.Slots.{slot_at, is_sync_lost_at, is_sync_byte_bad_at}
use Rattle.analyse.specs.InForce.{program_rows_behind}
use Rattle.analyse.specs.Faults.{is_pat_bad_at, is_counter_bad_at, is_pmt_bad_at, is_pid_missing_at, told_if, told_of_pids, table_limit, faults_at}
use Rattle.analyse.specs.SlotReading.{IsReadAs}
use Rattle.analyse.specs.PatWatching.{PatState, HasSeenPat}
use Rattle.analyse.specs.StreamWatching.{pid_or_zero}
use Rattle.analyse.specs.TablesWatching.{table_faults_at}
use Rattle.analyse.specs.declared.fault_kind.FaultKind.TheVariants.{TsSyncLoss, SyncByteError, PatError2, ContinuityCountError, PmtError2, PidError}
use Rattle.analyse.specs.declared.fault.Fault.{Fault}
use Rattle.analyse.proofs.SlotLaws.{new_slot}
use Rattle.analyse.proofs.CountersLaws.{bad_none}
use Rattle.analyse.proofs.ProgramsLaws.{rows_behind}

pub rows_kept : (w : PatState) (slots : List (List ℕ)) → HasSeenPat w slots → w.programs.rows ≡ program_rows_behind slots
rows_kept w slots s = s.programs.rows ∙ rows_behind slots

-- the PID of a counter's fault
pub counter_told : (slots : List (List ℕ)) (x : List ℕ) (packet : Option (List ℕ)) (count : ℕ) (bad : Bool) → IsReadAs x packet → count ≡ length slots → bad ≡ is_counter_bad_at (slots ++ x ∷ []) count → told_if bad ContinuityCountError count (Some (pid_or_zero packet)) ≡ told_if (is_counter_bad_at (slots ++ x ∷ []) count) ContinuityCountError count (Some (pid_of (slot_at (slots ++ x ∷ []) count)))
counter_told slots x None count bad r n b =
    let none : is_counter_bad_at (slots ++ x ∷ []) count ≡ false = ap (is_counter_bad_at (slots ++ x ∷ [])) n ∙ sym (bad_none slots x r) in
    ap (λ (t : Bool). told_if t ContinuityCountError count (Some 0)) (b ∙ none)
    ∙ sym (ap (λ (t : Bool). told_if t ContinuityCountError count (Some (pid_of (slot_at (slots ++ x ∷ []) count)))) none)
counter_told slots x (Some packet) count bad r n b =
    let at : slot_at (slots ++ x ∷ []) count ≡ packet = ap (slot_at (slots ++ x ∷ [])) n ∙ new_slot slots x ∙ sym r.0 in
    ap (λ (t : Bool). told_if t ContinuityCountError count (Some (pid_of packet))) b
    ∙ ap (λ (s : List ℕ). told_if (is_counter_bad_at (slots ++ x ∷ []) count) ContinuityCountError count (Some (pid_of s))) (sym at)

joined : (old a b c d e f : List Fault) → ((((old ++ a) ++ b) ++ c) ++ d) ++ (e ++ f) ≡ old ++ (((((a ++ b) ++ c) ++ d) ++ e) ++ f)
joined old a b c d e f = simp append_assoc

pub all_told : (rate period : ℕ) (slots : List (List ℕ)) (m : ℕ) (lost bad pat : Bool) (counter old one two three four new : List Fault) → lost ≡ is_sync_lost_at slots m → bad ≡ is_sync_byte_bad_at slots m → pat ≡ is_pat_bad_at (table_limit rate) slots m → counter ≡ told_if (is_counter_bad_at slots m) ContinuityCountError m (Some (pid_of (slot_at slots m))) → one ≡ old ++ told_if lost TsSyncLoss m None → two ≡ one ++ told_if bad SyncByteError m None → three ≡ two ++ told_if pat PatError2 m (Some 0x0000) → four ≡ three ++ counter → new ≡ four ++ table_faults_at (table_limit rate) period slots m → new ≡ old ++ faults_at rate period slots m
unfolding faults_at
all_told rate period slots m lost bad pat counter old one two three four new l b p c o1 o2 o3 o4 o5 =
    let e = told_of_pids (is_pmt_bad_at (table_limit rate) slots m) PmtError2 m in
    let f = told_of_pids (is_pid_missing_at period slots m) PidError m in
    let a1 = told_if (is_sync_lost_at slots m) TsSyncLoss m None in
    let a2 = told_if (is_sync_byte_bad_at slots m) SyncByteError m None in
    let a3 = told_if (is_pat_bad_at (table_limit rate) slots m) PatError2 m (Some 0x0000) in
    let a4 = told_if (is_counter_bad_at slots m) ContinuityCountError m (Some (pid_of (slot_at slots m))) in
    let q1 : one ≡ old ++ a1 = o1 ∙ ap (λ (t : Bool). old ++ told_if t TsSyncLoss m None) l in
    let q2 : two ≡ (old ++ a1) ++ a2 = o2 ∙ ap (λ (t : Bool). one ++ told_if t SyncByteError m None) b ∙ ap (λ (k : List Fault). k ++ a2) q1 in
    let q3 : three ≡ ((old ++ a1) ++ a2) ++ a3 = o3 ∙ ap (λ (t : Bool). two ++ told_if t PatError2 m (Some 0x0000)) p ∙ ap (λ (k : List Fault). k ++ a3) q2 in
    let q4 : four ≡ (((old ++ a1) ++ a2) ++ a3) ++ a4 = o4 ∙ ap (λ (k : List Fault). three ++ k) c ∙ ap (λ (k : List Fault). k ++ a4) q3 in
    o5 ∙ ap (λ (k : List Fault). k ++ (e ++ f)) q4 ∙ joined old a1 a2 a3 a4 e f
