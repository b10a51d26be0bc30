-- What is told at a slot depends on the slots up to it alone.
use Rattle.std.proofs.Common.{◌≡◌, ℕ, zero, suc, ◌+◌, ◌-◌, ◌<◌, ◌≤◌, List, [], ◌∷◌, ◌++◌, length, take, refl, sym, ◌∙◌, ap, arith, append_assoc, length-append, Some, None, Bool, true, ◌&&◌, ◌||◌}
use Rattle.std.specs.Prelude.{◌==◌, not, nat_le}
use Rattle.std.specs.List.{flat_map, range_with_len}
use Rattle.std.proofs.lemmas.List.{take-append-le, get_or_append_left}
use Rattle.tspkt.specs.Packet.{pid_of, transport_scrambling_control_of}
use Rattle.tspkt.specs.Counters.{lawful_of}
use Rattle.analyse.specs.Slots.{slot_at, is_good, is_packet, packets_of_pid, ends_five_good, has_no_two_bad, is_sync_lost_at, is_sync_byte_bad_at}
use Rattle.analyse.specs.Gaps.{is_gap_at}
use Rattle.analyse.specs.Faults.{is_scrambled_at, others_of, is_pat_mark, is_pat_bad_at, last_is_lawful, is_counter_bad_at, is_pmt_watched, is_pmt_mark, is_pmt_bad_at, is_pid_watched, is_pid_mark, is_pid_missing_at, told_if, told_of_pids, table_limit, faults_at, faults}
use Rattle.analyse.specs.declared.fault_kind.FaultKind.{FaultKind}
use Rattle.analyse.specs.declared.fault_kind.FaultKind.TheVariants.{TsSyncLoss, SyncByteError, PatError2, ContinuityCountError, PmtError2, PidError}
use Rattle.analyse.specs.declared.fault.Fault.{Fault}
use Rattle.analyse.proofs.RangeLaws.{each_same, some_same, flat_more}
use Rattle.analyse.proofs.GapLaws.{gap_agree}
use Rattle.analyse.proofs.GapsLaws.{told_same}
use Rattle.analyse.proofs.PatWatchLaws.{completes_before, mark_before}
use Rattle.analyse.proofs.TablesLaws.{pmt_watched_before, pmt_mark_before, pid_watched_before, pid_mark_before}

module _ (slots : List (List ℕ)) (x : List ℕ) where
  slot_before : (k : ℕ) → k < length slots → slot_at (slots ++ x ∷ []) k ≡ slot_at slots k
  slot_before k h = get_or_append_left slots (x ∷ []) [] k h

  good_before : (k : ℕ) → k < length slots → is_good (slot_at (slots ++ x ∷ []) k) ≡ is_good (slot_at slots k)
  good_before k h = ap is_good (slot_before k h)

  five_before : (e : ℕ) → e < length slots → ends_five_good (slots ++ x ∷ []) e ≡ ends_five_good slots e
  five_before e h = ap (λ (b : Bool). nat_le 4 e && b) (each_same (e - 4) (e + 1) (λ k. is_good (slot_at (slots ++ x ∷ []) k)) (λ k. is_good (slot_at slots k)) (λ k p q. good_before k (omega arith)))

  pairs_before : (first end : ℕ) → end ≤ length slots → has_no_two_bad (slots ++ x ∷ []) first end ≡ has_no_two_bad slots first end
  pairs_before first end h =
      each_same (first + 1) end (λ k. is_good (slot_at (slots ++ x ∷ []) (k - 1)) || is_good (slot_at (slots ++ x ∷ []) k)) (λ k. is_good (slot_at slots (k - 1)) || is_good (slot_at slots k))
      (λ k p q.
      ap (λ (b : Bool). b || is_good (slot_at (slots ++ x ∷ []) k)) (good_before (k - 1) (omega arith))
      ∙ ap (λ (b : Bool). is_good (slot_at slots (k - 1)) || b) (good_before k (omega arith)))

  lost_before : (m : ℕ) → m < length slots → is_sync_lost_at (slots ++ x ∷ []) m ≡ is_sync_lost_at slots m
  unfolding is_sync_lost_at
  lost_before m h =
      let a = good_before (m - 1) (omega arith) in
      let b = good_before m h in
      let c = some_same m (λ e. ends_five_good (slots ++ x ∷ []) e && has_no_two_bad (slots ++ x ∷ []) (e + 1) m) (λ e. ends_five_good slots e && has_no_two_bad slots (e + 1) m)
      (λ e p.
      ap (λ (t : Bool). t && has_no_two_bad (slots ++ x ∷ []) (e + 1) m) (five_before e (omega arith))
      ∙ ap (λ (t : Bool). ends_five_good slots e && t) (pairs_before (e + 1) m (omega arith))) in
      rw (a, b, c) refl

  scrambled_before : (pid m : ℕ) → m < length slots → is_scrambled_at (slots ++ x ∷ []) pid m ≡ is_scrambled_at slots pid m
  scrambled_before pid m h = ap (λ (s : List ℕ). is_packet s && (pid_of s == pid && not (transport_scrambling_control_of s == 0))) (slot_before m h)

  pat_before : (limit m : ℕ) → m < length slots → is_pat_bad_at limit (slots ++ x ∷ []) m ≡ is_pat_bad_at limit slots m
  unfolding is_pat_bad_at
  pat_before limit m h =
      let a = gap_agree limit (λ k. true) (λ k. true) (is_pat_mark (slots ++ x ∷ [])) (is_pat_mark slots) m (λ k p. refl) (λ k p. mark_before slots x k (omega arith)) in
      let b = completes_before others_of slots x (m + 1) (omega arith) in
      let c = scrambled_before 0x0000 m h in
      rw (a, b, c) refl

  counter_before : (m : ℕ) → m < length slots → is_counter_bad_at (slots ++ x ∷ []) m ≡ is_counter_bad_at slots m
  unfolding is_counter_bad_at
  counter_before m h =
      ap (λ (s : List ℕ). is_packet s && (not (pid_of s == 0x1FFF) && not (last_is_lawful (lawful_of (packets_of_pid (pid_of s) (take (m + 1) (slots ++ x ∷ []))))))) (slot_before m h)
      ∙ ap (λ (l : List (List ℕ)). is_packet (slot_at slots m) && (not (pid_of (slot_at slots m) == 0x1FFF) && not (last_is_lawful (lawful_of (packets_of_pid (pid_of (slot_at slots m)) l))))) (take-append-le (m + 1) slots (x ∷ []) (omega arith))

  pmt_before : (limit m pid : ℕ) → m < length slots → is_pmt_bad_at limit (slots ++ x ∷ []) m pid ≡ is_pmt_bad_at limit slots m pid
  unfolding is_pmt_bad_at
  pmt_before limit m pid h =
      let a = gap_agree limit (is_pmt_watched (slots ++ x ∷ []) pid) (is_pmt_watched slots pid) (is_pmt_mark (slots ++ x ∷ []) pid) (is_pmt_mark slots pid) m (λ k p. sym (pmt_watched_before slots x pid k (omega arith))) (λ k p. sym (pmt_mark_before slots x pid k (omega arith))) in
      let b = scrambled_before pid m h in
      let c = sym (pmt_watched_before slots x pid m (omega arith)) in
      ap (λ (t : Bool). t || (is_scrambled_at (slots ++ x ∷ []) pid m && is_pmt_watched (slots ++ x ∷ []) pid m)) a
      ∙ ap (λ (t : Bool). is_gap_at limit (is_pmt_watched slots pid) (is_pmt_mark slots pid) m || (t && is_pmt_watched (slots ++ x ∷ []) pid m)) b
      ∙ ap (λ (t : Bool). is_gap_at limit (is_pmt_watched slots pid) (is_pmt_mark slots pid) m || (is_scrambled_at slots pid m && t)) c

  missing_before : (period m pid : ℕ) → m < length slots → is_pid_missing_at period (slots ++ x ∷ []) m pid ≡ is_pid_missing_at period slots m pid
  unfolding is_pid_missing_at
  missing_before period m pid h =
      gap_agree period (is_pid_watched (slots ++ x ∷ []) pid) (is_pid_watched slots pid) (is_pid_mark (slots ++ x ∷ []) pid) (is_pid_mark slots pid) m (λ k p. sym (pid_watched_before slots x pid k (omega arith))) (λ k p. sym (pid_mark_before slots x pid k (omega arith)))

  of_pids_before : (s t : ℕ → Bool) (kind : FaultKind) (m end : ℕ) → end ≡ 8192 → ((pid : ℕ) → s pid ≡ t pid) → told_of_pids s kind m ≡ told_of_pids t kind m
  of_pids_before s t kind m end e same =
      let told = λ (f : ℕ → Bool) (n : ℕ). flat_map (λ pid. told_if (f pid) kind m (Some pid)) (range_with_len 0 n) in
      sym (ap (told s) e) ∙ told_same s t kind m 0 end (λ pid p q. same pid) ∙ ap (told t) e

  pub faults_before : (rate period m : ℕ) → m < length slots → faults_at rate period (slots ++ x ∷ []) m ≡ faults_at rate period slots m
  unfolding faults_at
  faults_before rate period m h =
      let limit = table_limit rate in
      let more = slots ++ x ∷ [] in
      let a = told_if (is_sync_lost_at slots m) TsSyncLoss m None in
      let b = told_if (is_sync_byte_bad_at slots m) SyncByteError m None in
      let c = told_if (is_pat_bad_at limit slots m) PatError2 m (Some 0x0000) in
      let d = told_if (is_counter_bad_at slots m) ContinuityCountError m (Some (pid_of (slot_at slots m))) in
      let e = told_of_pids (is_pmt_bad_at limit slots m) PmtError2 m in
      let b' = told_if (is_sync_byte_bad_at more m) SyncByteError m None in
      let c' = told_if (is_pat_bad_at limit more m) PatError2 m (Some 0x0000) in
      let d' = told_if (is_counter_bad_at more m) ContinuityCountError m (Some (pid_of (slot_at more m))) in
      let e' = told_of_pids (is_pmt_bad_at limit more m) PmtError2 m in
      let f' = told_of_pids (is_pid_missing_at period more m) PidError m in
      ap (λ (t : Bool). ((((told_if t TsSyncLoss m None ++ b') ++ c') ++ d') ++ e') ++ f') (lost_before m h)
      ∙ ap (λ (t : Bool). ((((a ++ told_if (not t) SyncByteError m None) ++ c') ++ d') ++ e') ++ f') (good_before m h)
      ∙ ap (λ (t : Bool). ((((a ++ b) ++ told_if t PatError2 m (Some 0x0000)) ++ d') ++ e') ++ f') (pat_before limit m h)
      ∙ ap (λ (t : Bool). ((((a ++ b) ++ c) ++ told_if t ContinuityCountError m (Some (pid_of (slot_at more m)))) ++ e') ++ f') (counter_before m h)
      ∙ ap (λ (s : List ℕ). ((((a ++ b) ++ c) ++ told_if (is_counter_bad_at slots m) ContinuityCountError m (Some (pid_of s))) ++ e') ++ f') (slot_before m h)
      ∙ ap (λ (l : List Fault). ((((a ++ b) ++ c) ++ d) ++ l) ++ f') (of_pids_before (is_pmt_bad_at limit more m) (is_pmt_bad_at limit slots m) PmtError2 m 8192 refl (λ pid. pmt_before limit m pid h))
      ∙ ap (λ (l : List Fault). ((((a ++ b) ++ c) ++ d) ++ e) ++ l) (of_pids_before (is_pid_missing_at period more m) (is_pid_missing_at period slots m) PidError m 8192 refl (λ pid. missing_before period m pid h))

flat_same : (f g : ℕ → List Fault) (first n : ℕ) → ((k : ℕ) → k < first + n → f k ≡ g k) → flat_map f (range_with_len first n) ≡ flat_map g (range_with_len first n)
flat_same f g first zero e = refl
flat_same f g first (suc n) e =
    ap (λ (l : List Fault). l ++ flat_map f (range_with_len (first + 1) n)) (e first (omega arith))
    ∙ ap (λ (l : List Fault). g first ++ l) (flat_same f g (first + 1) n (λ k h. e k (omega arith)))

-- the faults of a stream are those of its front, and those of its last slot
pub faults_more : (rate period : ℕ) (slots : List (List ℕ)) (x : List ℕ) → faults rate period (slots ++ x ∷ []) ≡ faults rate period slots ++ faults_at rate period (slots ++ x ∷ []) (length slots)
faults_more rate period slots x =
    let n = length slots in
    let f = faults_at rate period (slots ++ x ∷ []) in
    let size : length (slots ++ x ∷ []) ≡ suc n = length-append slots (x ∷ []) ∙ omega arith in
    let last : 0 + n ≡ n = omega arith in
    ap (λ (k : ℕ). flat_map f (range_with_len 0 k)) size
    ∙ flat_more f 0 n
    ∙ ap (λ (k : ℕ). flat_map f (range_with_len 0 n) ++ f k) last
    ∙ ap (λ (l : List Fault). l ++ f n) (flat_same f (faults_at rate period slots) 0 n (λ k h. faults_before slots x rate period k (omega arith)))

pub whole_told : (rate period : ℕ) (slots : List (List ℕ)) (x : List ℕ) (before old new : List Fault) → old ≡ before ++ faults rate period slots → new ≡ old ++ faults_at rate period (slots ++ x ∷ []) (length slots) → new ≡ before ++ faults rate period (slots ++ x ∷ [])
whole_told rate period slots x before old new o n =
    n ∙ ap (λ (l : List Fault). l ++ faults_at rate period (slots ++ x ∷ []) (length slots)) o
    ∙ append_assoc before (faults rate period slots) (faults_at rate period (slots ++ x ∷ []) (length slots))
    ∙ ap (λ (l : List Fault). before ++ l) (sym (faults_more rate period slots x))
