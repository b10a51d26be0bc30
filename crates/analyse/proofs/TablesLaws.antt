-- The watches of the PMTs and of the PIDs to which they refer, behind one more slot.
use Rattle.std.proofs.Common.{◌≡◌, ℕ, zero, suc, ◌+◌, ◌-◌, ◌<◌, List, [], ◌∷◌, ◌++◌, length, take, get_or, refl, sym, ◌∙◌, ap, subst, arith, length-append, append_assoc, Option, Some, None, Bool, true, false, ◌&&◌, ◌||◌, ⊎_elim}
use Rattle.std.specs.Prelude.{◌==◌, not, find, if◌then◌else◌, option_map, option_and_then}
use Rattle.std.specs.List.{flat_map, range_with_len, list_any}
use Rattle.std.proofs.Math.Seq.{take-append_seam}
use Rattle.std.proofs.lemmas.Bool.{cases_eq, and_left, false_from_ne_true}
use Rattle.std.proofs.lemmas.Bool.Decides.{Decides-eqb, nat_tests}
use Rattle.std.proofs.lemmas.List.{take-append-le, get_or_append_left}
use Rattle.tspkt.specs.Packet.{pid_of, transport_scrambling_control_of}
use Rattle.tables.specs.Pmt.{PmtValue}
use Rattle.tables.specs.declared.pat_row.PatRow.{PatRow}
use Rattle.tables.specs.declared.pmt_row.PmtRow.{PmtRow}
use Rattle.analyse.specs.Slots.{slot_at, is_packet}
use Rattle.analyse.specs.Gaps.{is_gap_at}
use Rattle.analyse.specs.InForce.{program_rows_behind, is_pmt_pid_behind, newest_pmt_on, pmt_behind, has_elementary_pid, is_referred_behind}
use Rattle.analyse.specs.Faults.{completes, pmts_of, is_scrambled_at, is_of_pid_at, began_at, is_pmt_watched, is_pmt_mark, is_pid_watched, is_pid_mark, is_pmt_bad_at, is_pid_missing_at, told_if, told_of_pids}
use Rattle.analyse.specs.SlotReading.{IsReadAs}
use Rattle.analyse.specs.GapsWatching.{GapsState, is_watched, is_of_packet, is_also, OnlyMarked, ChangesTo, HaveSeenNumbers, gaps_at}
use Rattle.analyse.specs.PmtWatching.{PmtState, elementary_pids, pids_of_program, HaveSeenPmts}
use Rattle.analyse.specs.WatchedPids.{is_pmt_pid_of, first_pid, pids_of_row, is_listed, is_referred_of}
use Rattle.analyse.specs.TablesWatching.{TablesState, scrambled_pid, watched_only, HaveSeenTables, table_faults_at}
use Rattle.analyse.specs.declared.fault_kind.FaultKind.{FaultKind}
use Rattle.analyse.specs.declared.fault_kind.FaultKind.TheVariants.{PmtError2, PidError}
use Rattle.analyse.specs.declared.fault.Fault.{Fault}
use Rattle.analyse.proofs.SlotLaws.{all_slots, new_slot}
use Rattle.analyse.proofs.PatWatchLaws.{completes_before}
use Rattle.analyse.proofs.RangeLaws.{and_true}
use Rattle.analyse.proofs.GapsLaws.{told_same, numbers_agree, pass_none}
use Rattle.analyse.proofs.ProgramsLaws.{no_rows, rows_behind}

-- ---- which PIDs are watched

pub pmt_pids_are : (slots : List (List ℕ)) (pid : ℕ) → is_pmt_pid_of (program_rows_behind slots) pid ≡ is_pmt_pid_behind slots pid
unfolding is_pmt_pid_behind
pmt_pids_are slots pid = refl

listed_rows : (pid : ℕ) (rows : List PmtRow) → list_any (λ p. p == pid) (elementary_pids rows) ≡ list_any (λ (r : PmtRow). r.elementary_pid == pid) rows
listed_rows pid [] = refl
listed_rows pid (r ∷ rows) = ap (λ (b : Bool). r.elementary_pid == pid || b) (listed_rows pid rows)

listed_pmt : (pid : ℕ) (v : Option PmtValue) → is_listed pid (option_map (λ (v : PmtValue). elementary_pids v.rows) v) ≡ has_elementary_pid pid v
listed_pmt pid None = refl
listed_pmt pid (Some v) = listed_rows pid v.rows

listed_row : (pmts : List (Option PmtState)) (slots : List (List ℕ)) (pid program : ℕ) (row : Option PatRow) → HaveSeenPmts pmts slots → is_listed pid (option_and_then (λ at. pids_of_program pmts at program) (option_map (λ (r : PatRow). r.pid) row)) ≡ has_elementary_pid pid (option_and_then (λ (r : PatRow). newest_pmt_on slots r.pid program) row)
listed_row pmts slots pid program None s = refl
listed_row pmts slots pid program (Some r) s =
    let one = s.pids r.pid in
    ap (is_listed pid) (one.newest.pids program)
    ∙ listed_pmt pid (newest_pmt_on slots r.pid program)

any_same : {X : Type 0} (s t : X → Bool) (xs : List X) → ((x : X) → s x ≡ t x) → list_any s xs ≡ list_any t xs
any_same s t [] e = refl
any_same s t (x ∷ xs) e = ap (λ (b : Bool). b || list_any s xs) (e x) ∙ ap (λ (b : Bool). t x || b) (any_same s t xs e)

pub referred_are : (pmts : List (Option PmtState)) (slots : List (List ℕ)) (pid : ℕ) → HaveSeenPmts pmts slots → is_referred_of pmts (program_rows_behind slots) pid ≡ is_referred_behind slots pid
unfolding is_referred_behind
referred_are pmts slots pid s =
    any_same (λ (r : PatRow). is_listed pid (pids_of_row pmts (program_rows_behind slots) r.program_number)) (λ (r : PatRow). has_elementary_pid pid (pmt_behind slots r.program_number)) (program_rows_behind slots)
    (λ r. listed_row pmts slots pid r.program_number (find (λ (q : PatRow). q.program_number == r.program_number) (program_rows_behind slots)) s)

-- where nothing that is kept changed
listed_same : (pmts other : List (Option PmtState)) (rows : List PatRow) (pid program : ℕ) (at : Option ℕ) → ((pid program : ℕ) → pids_of_program other pid program ≡ pids_of_program pmts pid program) → is_listed pid (option_and_then (λ p. pids_of_program other p program) at) ≡ is_listed pid (option_and_then (λ p. pids_of_program pmts p program) at)
listed_same pmts other rows pid program None e = refl
listed_same pmts other rows pid program (Some p) e = ap (is_listed pid) (e p program)

pub referred_same : (pmts other : List (Option PmtState)) (slots more : List (List ℕ)) (pid : ℕ) → HaveSeenPmts pmts slots → HaveSeenPmts other more → program_rows_behind more ≡ program_rows_behind slots → ((pid program : ℕ) → pids_of_program other pid program ≡ pids_of_program pmts pid program) → is_referred_behind more pid ≡ is_referred_behind slots pid
referred_same pmts other slots more pid s t rows e =
    sym (referred_are other more pid t)
    ∙ ap (λ (l : List PatRow). is_referred_of other l pid) rows
    ∙ any_same (λ (r : PatRow). is_listed pid (pids_of_row other (program_rows_behind slots) r.program_number)) (λ (r : PatRow). is_listed pid (pids_of_row pmts (program_rows_behind slots) r.program_number)) (program_rows_behind slots)
    (λ r. listed_same pmts other (program_rows_behind slots) pid r.program_number (first_pid (program_rows_behind slots) r.program_number) e)
    ∙ referred_are pmts slots pid s

pub pmt_pids_same : (slots more : List (List ℕ)) (pid : ℕ) → program_rows_behind more ≡ program_rows_behind slots → is_pmt_pid_behind more pid ≡ is_pmt_pid_behind slots pid
pmt_pids_same slots more pid rows = sym (pmt_pids_are more pid) ∙ ap (λ (l : List PatRow). is_pmt_pid_of l pid) rows ∙ pmt_pids_are slots pid

-- ---- what is known of the slots so far stays

module _ (slots : List (List ℕ)) (x : List ℕ) where
  front : (k : ℕ) → k < length slots + 1 → take k (slots ++ x ∷ []) ≡ take k slots
  front k h = take-append-le k slots (x ∷ []) (omega arith)

  pub pmt_watched_before : (pid k : ℕ) → k < length slots + 1 → is_pmt_watched slots pid k ≡ is_pmt_watched (slots ++ x ∷ []) pid k
  pmt_watched_before pid k h = sym (ap (λ (l : List (List ℕ)). is_pmt_pid_behind l pid) (front k h))

  pub pid_watched_before : (pid k : ℕ) → k < length slots + 1 → is_pid_watched slots pid k ≡ is_pid_watched (slots ++ x ∷ []) pid k
  pid_watched_before pid k h = sym (ap (λ (l : List (List ℕ)). is_referred_behind l pid) (front k h))

  began_before : (s t : ℕ → Bool) (k : ℕ) → k < length slots + 1 → ((j : ℕ) → j < length slots + 1 → s j ≡ t j) → began_at s k ≡ began_at t k
  began_before s t k h e =
      let a = e k h in
      let b = e (k - 1) (omega arith) in
      rw (a, b) refl

  pub pmt_mark_before : (pid k : ℕ) → k < length slots + 1 → is_pmt_mark slots pid k ≡ is_pmt_mark (slots ++ x ∷ []) pid k
  pmt_mark_before pid k h =
      let a = completes_before (pmts_of pid) slots x k (omega arith) in
      let b = began_before (is_pmt_watched slots pid) (is_pmt_watched (slots ++ x ∷ []) pid) k h (pmt_watched_before pid) in
      rw (a, b) refl

  packet_before : (pid k : ℕ) → k < length slots + 1 → (not (k == 0) && is_of_pid_at slots pid (k - 1)) ≡ (not (k == 0) && is_of_pid_at (slots ++ x ∷ []) pid (k - 1))
  packet_before pid zero h = refl
  packet_before pid (suc k) h =
      let back : suc k - 1 ≡ k = omega arith in
      let same : slot_at (slots ++ x ∷ []) k ≡ slot_at slots k = get_or_append_left slots (x ∷ []) [] k (omega arith) in
      rw back (rw same refl)

  pub pid_mark_before : (pid k : ℕ) → k < length slots + 1 → is_pid_mark slots pid k ≡ is_pid_mark (slots ++ x ∷ []) pid k
  pid_mark_before pid k h =
      let a = packet_before pid k h in
      let b = began_before (is_pid_watched slots pid) (is_pid_watched (slots ++ x ∷ []) pid) k h (pid_watched_before pid) in
      rw (a, b) refl

  -- ---- and the new slot's part

  pub pmt_watched_last : (pid : ℕ) → is_pmt_watched (slots ++ x ∷ []) pid (length slots + 1) ≡ is_pmt_pid_behind (slots ++ x ∷ []) pid
  pmt_watched_last pid = ap (λ (l : List (List ℕ)). is_pmt_pid_behind l pid) (all_slots slots x)

  pub pid_watched_last : (pid : ℕ) → is_pid_watched (slots ++ x ∷ []) pid (length slots + 1) ≡ is_referred_behind (slots ++ x ∷ []) pid
  pid_watched_last pid = ap (λ (l : List (List ℕ)). is_referred_behind l pid) (all_slots slots x)

  pub pmt_watched_now : (pid : ℕ) → is_pmt_watched (slots ++ x ∷ []) pid (length slots) ≡ is_pmt_pid_behind slots pid
  pmt_watched_now pid = ap (λ (l : List (List ℕ)). is_pmt_pid_behind l pid) (take-append_seam slots (x ∷ []))

  pid_watched_now : (pid : ℕ) → is_pid_watched (slots ++ x ∷ []) pid (length slots) ≡ is_referred_behind slots pid
  pid_watched_now pid = ap (λ (l : List (List ℕ)). is_referred_behind l pid) (take-append_seam slots (x ∷ []))

  began_last : (watched : ℕ → Bool) → began_at watched (length slots + 1) ≡ (watched (length slots + 1) && not (watched (length slots)))
  began_last watched =
      let back : length slots + 1 - 1 ≡ length slots = omega arith in
      let some : (length slots + 1 == 0) ≡ false = grind (arith, nat_tests) in
      rw back (rw some refl)

  pub pmt_mark_last : (pid : ℕ) → is_pmt_mark (slots ++ x ∷ []) pid (length slots + 1) ≡ (completes (pmts_of pid) (slots ++ x ∷ []) (length slots + 1) || (is_pmt_pid_behind (slots ++ x ∷ []) pid && not (is_pmt_pid_behind slots pid)))
  pmt_mark_last pid =
      ap (λ (b : Bool). completes (pmts_of pid) (slots ++ x ∷ []) (length slots + 1) || b)
      (began_last (is_pmt_watched (slots ++ x ∷ []) pid)
      ∙ ap (λ (b : Bool). b && not (is_pmt_watched (slots ++ x ∷ []) pid (length slots))) (pmt_watched_last pid)
      ∙ ap (λ (b : Bool). is_pmt_pid_behind (slots ++ x ∷ []) pid && not b) (pmt_watched_now pid))

  pub pid_mark_last : (pid : ℕ) (packet : Option (List ℕ)) → IsReadAs x packet → is_pid_mark (slots ++ x ∷ []) pid (length slots + 1) ≡ (is_of_packet packet pid || (is_referred_behind (slots ++ x ∷ []) pid && not (is_referred_behind slots pid)))
  pid_mark_last pid packet r =
      let back : length slots + 1 - 1 ≡ length slots = omega arith in
      let some : (length slots + 1 == 0) ≡ false = grind (arith, nat_tests) in
      ap (λ (b : Bool). b || began_at (is_pid_watched (slots ++ x ∷ []) pid) (length slots + 1)) (rw back (rw some (read_last pid packet r)))
      ∙ ap (λ (b : Bool). is_of_packet packet pid || b)
      (began_last (is_pid_watched (slots ++ x ∷ []) pid)
      ∙ ap (λ (b : Bool). b && not (is_pid_watched (slots ++ x ∷ []) pid (length slots))) (pid_watched_last pid)
      ∙ ap (λ (b : Bool). is_referred_behind (slots ++ x ∷ []) pid && not b) (pid_watched_now pid))
    where
      of_new : (pid : ℕ) → is_of_pid_at (slots ++ x ∷ []) pid (length slots) ≡ (is_packet x && pid_of x == pid)
      of_new pid = ap (λ (s : List ℕ). is_packet s && pid_of s == pid) (new_slot slots x)

      read_last : (pid : ℕ) (packet : Option (List ℕ)) → IsReadAs x packet → is_of_pid_at (slots ++ x ∷ []) pid (length slots) ≡ is_of_packet packet pid
      read_last pid None r = of_new pid ∙ and_left (is_packet x) (pid_of x == pid) r
      read_last pid (Some packet) r = of_new pid ∙ ap (λ (b : Bool). b && pid_of x == pid) r.1 ∙ ap (λ (p : List ℕ). pid_of p == pid) (sym r.0)

-- ---- what is told

and_no : (b : Bool) → (b && false) ≡ false
and_no true = refl
and_no false = refl

or_no : (b : Bool) → (b || false) ≡ b
or_no true = refl
or_no false = refl

kept_if : (c : Bool) (at pid : ℕ) → is_also (if c then Some at else None) pid ≡ (c && at == pid)
kept_if true at pid = refl
kept_if false at pid = refl

also_if : (w : GapsState) (at pid : ℕ) (b : Bool) → is_also (watched_only w (if b then Some at else None)) pid ≡ ((at == pid && b) && is_watched w pid)
also_if w at pid false = sym (ap (λ (b : Bool). b && is_watched w pid) (and_no (at == pid)))
also_if w at pid true =
    kept_if (is_watched w at) at pid
    ∙ ⊎_elim
    (λ (same : at ≡ pid).
    let t : (at == pid) ≡ true = (Decides-eqb at pid).1 same in
    ap (λ (b : Bool). is_watched w at && b) t ∙ and_true (is_watched w at) ∙ ap (is_watched w) same ∙ sym (ap (λ (b : Bool). (b && true) && is_watched w pid) t))
    (λ (differ : (at ≡ pid) → ⊥).
    let t : (at == pid) ≡ false = false_from_ne_true (at == pid) (λ t. differ ((Decides-eqb at pid).0 t)) in
    ap (λ (b : Bool). is_watched w at && b) t ∙ and_no (is_watched w at) ∙ sym (ap (λ (b : Bool). (b && true) && is_watched w pid) t))
    (cases_eq at pid)

module _ (w : GapsState) (slots : List (List ℕ)) (x : List ℕ) (packet : Option (List ℕ)) (r : IsReadAs x packet) where
  scrambled_new : (pid : ℕ) → is_scrambled_at (slots ++ x ∷ []) pid (length slots) ≡ (is_packet x && (pid_of x == pid && not (transport_scrambling_control_of x == 0)))
  scrambled_new pid = ap (λ (s : List ℕ). is_packet s && (pid_of s == pid && not (transport_scrambling_control_of s == 0))) (new_slot slots x)

  also_of : (pid : ℕ) (packet : Option (List ℕ)) → IsReadAs x packet → is_watched w pid ≡ is_pmt_pid_behind slots pid → is_also (watched_only w (scrambled_pid packet)) pid ≡ (is_scrambled_at (slots ++ x ∷ []) pid (length slots) && is_pmt_watched (slots ++ x ∷ []) pid (length slots))
  also_of pid None q e =
      sym (ap (λ (b : Bool). b && is_pmt_watched (slots ++ x ∷ []) pid (length slots)) (scrambled_new pid ∙ and_left (is_packet x) (pid_of x == pid && not (transport_scrambling_control_of x == 0)) q))
  also_of pid (Some p) q e =
      also_if w (pid_of p) pid (not (transport_scrambling_control_of p == 0))
      ∙ ap (λ (s : List ℕ). (pid_of s == pid && not (transport_scrambling_control_of s == 0)) && is_watched w pid) q.0
      ∙ ap (λ (b : Bool). (pid_of x == pid && not (transport_scrambling_control_of x == 0)) && b) (e ∙ sym (pmt_watched_now slots x pid))
      ∙ sym (ap (λ (b : Bool). b && is_pmt_watched (slots ++ x ∷ []) pid (length slots)) (scrambled_new pid ∙ ap (λ (b : Bool). b && (pid_of x == pid && not (transport_scrambling_control_of x == 0))) q.1))

  pub pmt_told : (limit : ℕ) (kind : FaultKind) (end : ℕ) → end ≡ 8192 → ((pid : ℕ) → pid < end → is_watched w pid ≡ is_pmt_pid_behind slots pid) → gaps_at limit (is_pmt_watched (slots ++ x ∷ [])) (is_pmt_mark (slots ++ x ∷ [])) (watched_only w (scrambled_pid packet)) kind (length slots) ≡ told_of_pids (is_pmt_bad_at limit (slots ++ x ∷ []) (length slots)) kind (length slots)
  unfolding gaps_at is_pmt_bad_at
  pmt_told limit kind end e same =
      let m = length slots in
      let more = slots ++ x ∷ [] in
      let told = λ (n : ℕ). flat_map (λ pid. told_if (is_gap_at limit (is_pmt_watched more pid) (is_pmt_mark more pid) m || is_also (watched_only w (scrambled_pid packet)) pid) kind m (Some pid)) (range_with_len 0 n) in
      let bad = λ (n : ℕ). flat_map (λ pid. told_if (is_gap_at limit (is_pmt_watched more pid) (is_pmt_mark more pid) m || (is_scrambled_at more pid m && is_pmt_watched more pid m)) kind m (Some pid)) (range_with_len 0 n) in
      sym (ap told e)
      ∙ told_same (λ pid. is_gap_at limit (is_pmt_watched more pid) (is_pmt_mark more pid) m || is_also (watched_only w (scrambled_pid packet)) pid) (λ pid. is_gap_at limit (is_pmt_watched more pid) (is_pmt_mark more pid) m || (is_scrambled_at more pid m && is_pmt_watched more pid m)) kind m 0 end
      (λ pid p h. ap (λ (b : Bool). is_gap_at limit (is_pmt_watched more pid) (is_pmt_mark more pid) m || b) (also_of pid packet r (same pid (omega arith))))
      ∙ ap bad e

pub pid_told : (period : ℕ) (slots : List (List ℕ)) (m : ℕ) (kind : FaultKind) (end : ℕ) → end ≡ 8192 → gaps_at period (is_pid_watched slots) (is_pid_mark slots) None kind m ≡ told_of_pids (is_pid_missing_at period slots m) kind m
unfolding gaps_at is_pid_missing_at
pid_told period slots m kind end e =
    let told = λ (n : ℕ). flat_map (λ pid. told_if (is_gap_at period (is_pid_watched slots pid) (is_pid_mark slots pid) m || false) kind m (Some pid)) (range_with_len 0 n) in
    let bad = λ (n : ℕ). flat_map (λ pid. told_if (is_gap_at period (is_pid_watched slots pid) (is_pid_mark slots pid) m) kind m (Some pid)) (range_with_len 0 n) in
    sym (ap told e)
    ∙ told_same (λ pid. is_gap_at period (is_pid_watched slots pid) (is_pid_mark slots pid) m || false) (λ pid. is_gap_at period (is_pid_watched slots pid) (is_pid_mark slots pid) m) kind m 0 end
    (λ pid p h. or_no (is_gap_at period (is_pid_watched slots pid) (is_pid_mark slots pid) m))
    ∙ ap bad e

-- ---- the watches behind the new slot

module _ (w : TablesState) (slots : List (List ℕ)) (x : List ℕ) (s : HaveSeenTables w slots) where
  pub pmt_numbers : HaveSeenNumbers w.pmt_gaps (is_pmt_watched (slots ++ x ∷ [])) (is_pmt_mark (slots ++ x ∷ [])) (length slots + 1)
  pmt_numbers = numbers_agree w.pmt_gaps (is_pmt_watched slots) (is_pmt_watched (slots ++ x ∷ [])) (is_pmt_mark slots) (is_pmt_mark (slots ++ x ∷ [])) (length slots + 1) (pmt_watched_before slots x) (pmt_mark_before slots x) s.pmt_gaps

  pub pid_numbers : HaveSeenNumbers w.pid_gaps (is_pid_watched (slots ++ x ∷ [])) (is_pid_mark (slots ++ x ∷ [])) (length slots + 1)
  pid_numbers = numbers_agree w.pid_gaps (is_pid_watched slots) (is_pid_watched (slots ++ x ∷ [])) (is_pid_mark slots) (is_pid_mark (slots ++ x ∷ [])) (length slots + 1) (pid_watched_before slots x) (pid_mark_before slots x) s.pid_gaps

  module _ (packet marked : Option (List ℕ)) (came : Bool) (completed : (pid : ℕ) → completes (pmts_of pid) (slots ++ x ∷ []) (length slots + 1) ≡ (came && is_of_packet packet pid)) (mark_is : (pid : ℕ) → is_of_packet marked pid ≡ (came && is_of_packet packet pid)) (r : IsReadAs x packet) where
    not_begun : (now before : Bool) → now ≡ before → (now && not before) ≡ false
    not_begun true before e = ap not (sym e)
    not_begun false before e = refl

    pub pmt_only : ((pid : ℕ) → is_pmt_pid_behind (slots ++ x ∷ []) pid ≡ is_pmt_pid_behind slots pid) → OnlyMarked w.pmt_gaps (is_pmt_watched (slots ++ x ∷ [])) (is_pmt_mark (slots ++ x ∷ [])) (length slots + 1) marked
    pmt_only same = record {
      same = λ pid h. pmt_watched_last slots x pid ∙ same pid ∙ sym (s.pmt_pids pid h);
      only = λ pid h.
          pmt_mark_last slots x pid
          ∙ ap (λ (b : Bool). completes (pmts_of pid) (slots ++ x ∷ []) (length slots + 1) || b) (not_begun (is_pmt_pid_behind (slots ++ x ∷ []) pid) (is_pmt_pid_behind slots pid) (same pid))
          ∙ or_no (completes (pmts_of pid) (slots ++ x ∷ []) (length slots + 1)) ∙ completed pid ∙ sym (mark_is pid);
    }

    pub pid_only : ((pid : ℕ) → is_referred_behind (slots ++ x ∷ []) pid ≡ is_referred_behind slots pid) → OnlyMarked w.pid_gaps (is_pid_watched (slots ++ x ∷ [])) (is_pid_mark (slots ++ x ∷ [])) (length slots + 1) packet
    pid_only same = record {
      same = λ pid h. pid_watched_last slots x pid ∙ same pid ∙ sym (s.referred pid h);
      only = λ pid h.
          pid_mark_last slots x pid packet r
          ∙ ap (λ (b : Bool). is_of_packet packet pid || b) (not_begun (is_referred_behind (slots ++ x ∷ []) pid) (is_referred_behind slots pid) (same pid))
          ∙ or_no (is_of_packet packet pid);
    }

    pub pmt_changes : (set : List Bool) → ((pid : ℕ) → pid < 8192 → get_or set pid false ≡ is_pmt_pid_behind (slots ++ x ∷ []) pid) → ChangesTo w.pmt_gaps set (is_pmt_watched (slots ++ x ∷ [])) (is_pmt_mark (slots ++ x ∷ [])) (length slots + 1) marked
    pmt_changes set now = record {
      now = λ pid h. pmt_watched_last slots x pid ∙ sym (now pid h);
      marks = λ pid h.
          pmt_mark_last slots x pid
          ∙ ap (λ (b : Bool). b || (is_pmt_pid_behind (slots ++ x ∷ []) pid && not (is_pmt_pid_behind slots pid))) (completed pid ∙ sym (mark_is pid))
          ∙ ap (λ (b : Bool). is_of_packet marked pid || (b && not (is_pmt_pid_behind slots pid))) (sym (now pid h))
          ∙ ap (λ (b : Bool). is_of_packet marked pid || (get_or set pid false && not b)) (sym (s.pmt_pids pid h));
    }

    pub pid_changes : (set : List Bool) → ((pid : ℕ) → pid < 8192 → get_or set pid false ≡ is_referred_behind (slots ++ x ∷ []) pid) → ChangesTo w.pid_gaps set (is_pid_watched (slots ++ x ∷ [])) (is_pid_mark (slots ++ x ∷ [])) (length slots + 1) packet
    pid_changes set now = record {
      now = λ pid h. pid_watched_last slots x pid ∙ sym (now pid h);
      marks = λ pid h.
          pid_mark_last slots x pid packet r
          ∙ ap (λ (b : Bool). is_of_packet packet pid || (b && not (is_referred_behind slots pid))) (sym (now pid h))
          ∙ ap (λ (b : Bool). is_of_packet packet pid || (get_or set pid false && not b)) (sym (s.referred pid h));
    }

-- together
pub tables_seen : (pmts : List (Option PmtState)) (pmt_gaps pid_gaps : GapsState) (slots : List (List ℕ)) (x : List ℕ) → HaveSeenPmts pmts (slots ++ x ∷ []) → HaveSeenNumbers pmt_gaps (is_pmt_watched (slots ++ x ∷ [])) (is_pmt_mark (slots ++ x ∷ [])) (length slots + 1 + 1) → HaveSeenNumbers pid_gaps (is_pid_watched (slots ++ x ∷ [])) (is_pid_mark (slots ++ x ∷ [])) (length slots + 1 + 1) → ((pid : ℕ) → pid < 8192 → is_watched pmt_gaps pid ≡ is_pmt_pid_behind (slots ++ x ∷ []) pid) → ((pid : ℕ) → pid < 8192 → is_watched pid_gaps pid ≡ is_referred_behind (slots ++ x ∷ []) pid) → HaveSeenTables (record { pmts = pmts; pmt_gaps = pmt_gaps; pid_gaps = pid_gaps }) (slots ++ x ∷ [])
tables_seen pmts pmt_gaps pid_gaps slots x p a b c d =
    let size : length slots + 1 + 1 ≡ length (slots ++ x ∷ []) + 1 = ap (λ (n : ℕ). n + 1) (sym (length-append slots (x ∷ []))) in
    record {
      pmts = p;
      pmt_gaps = subst (λ (n : ℕ). HaveSeenNumbers pmt_gaps (is_pmt_watched (slots ++ x ∷ [])) (is_pmt_mark (slots ++ x ∷ [])) n) size a;
      pid_gaps = subst (λ (n : ℕ). HaveSeenNumbers pid_gaps (is_pid_watched (slots ++ x ∷ [])) (is_pid_mark (slots ++ x ∷ [])) n) size b;
      pmt_pids = c;
      referred = d;
    }

pub faults_told : (w : TablesState) (slots : List (List ℕ)) (x : List ℕ) (packet : Option (List ℕ)) (also : Option ℕ) (count : ℕ) (old between new : List Fault) → HaveSeenTables w slots → IsReadAs x packet → length slots ≡ count → also ≡ watched_only w.pmt_gaps (scrambled_pid packet) → between ≡ old ++ gaps_at w.pmt_gaps.limit (is_pmt_watched (slots ++ x ∷ [])) (is_pmt_mark (slots ++ x ∷ [])) also PmtError2 count → new ≡ between ++ gaps_at w.pid_gaps.limit (is_pid_watched (slots ++ x ∷ [])) (is_pid_mark (slots ++ x ∷ [])) None PidError count → new ≡ old ++ table_faults_at w.pmt_gaps.limit w.pid_gaps.limit (slots ++ x ∷ []) count
faults_told w slots x packet also count old between new s r n a first second =
    let more = slots ++ x ∷ [] in
    let pmt : gaps_at w.pmt_gaps.limit (is_pmt_watched more) (is_pmt_mark more) also PmtError2 count ≡ told_of_pids (is_pmt_bad_at w.pmt_gaps.limit more count) PmtError2 count =
    ap (λ (o : Option ℕ). gaps_at w.pmt_gaps.limit (is_pmt_watched more) (is_pmt_mark more) o PmtError2 count) a
    ∙ subst (λ (k : ℕ). gaps_at w.pmt_gaps.limit (is_pmt_watched more) (is_pmt_mark more) (watched_only w.pmt_gaps (scrambled_pid packet)) PmtError2 k ≡ told_of_pids (is_pmt_bad_at w.pmt_gaps.limit more k) PmtError2 k) n
    (pmt_told w.pmt_gaps slots x packet r w.pmt_gaps.limit PmtError2 8192 refl s.pmt_pids) in
    let pid : gaps_at w.pid_gaps.limit (is_pid_watched more) (is_pid_mark more) None PidError count ≡ told_of_pids (is_pid_missing_at w.pid_gaps.limit more count) PidError count =
    pid_told w.pid_gaps.limit more count PidError 8192 refl in
    second ∙ ap (λ (l : List Fault). l ++ gaps_at w.pid_gaps.limit (is_pid_watched more) (is_pid_mark more) None PidError count) first
    ∙ append_assoc old (gaps_at w.pmt_gaps.limit (is_pmt_watched more) (is_pmt_mark more) also PmtError2 count) (gaps_at w.pid_gaps.limit (is_pid_watched more) (is_pid_mark more) None PidError count)
    ∙ ap (λ (l : List Fault). old ++ (l ++ gaps_at w.pid_gaps.limit (is_pid_watched more) (is_pid_mark more) None PidError count)) pmt
    ∙ ap (λ (l : List Fault). old ++ (told_of_pids (is_pmt_bad_at w.pmt_gaps.limit more count) PmtError2 count ++ l)) pid

-- ---- no slot yet

no_programs : program_rows_behind [] ≡ []
no_programs = sym (rows_behind []) ∙ sym (no_rows 256 refl)

none_watched : (pid : ℕ) → is_pmt_pid_behind [] pid ≡ false
none_watched pid = sym (pmt_pids_are [] pid) ∙ ap (λ (l : List PatRow). is_pmt_pid_of l pid) no_programs

none_referred : (pid : ℕ) → is_referred_behind [] pid ≡ false
unfolding is_referred_behind
none_referred pid = ap (λ (l : List PatRow). list_any (λ (r : PatRow). has_elementary_pid pid (pmt_behind [] r.program_number)) l) no_programs

first_number : (w : GapsState) (watched mark : ℕ → ℕ → Bool) → ((pid : ℕ) → is_watched w pid ≡ false) → ((pid : ℕ) → watched pid 0 ≡ false) → ((pid : ℕ) → mark pid 0 ≡ false) → HaveSeenNumbers w watched mark 0 → HaveSeenNumbers w watched mark (0 + 1)
first_number w watched mark off a b s = pass_none w watched mark 0 s (record { same = λ pid h. a pid ∙ sym (off pid); only = λ pid h. b pid })

pub tables_first : (pmts : List (Option PmtState)) (pmt_gaps pid_gaps : GapsState) → HaveSeenPmts pmts [] → ((pid : ℕ) → is_watched pmt_gaps pid ≡ false) → ((pid : ℕ) → is_watched pid_gaps pid ≡ false) → ((watched mark : ℕ → ℕ → Bool) → HaveSeenNumbers pmt_gaps watched mark 0) → ((watched mark : ℕ → ℕ → Bool) → HaveSeenNumbers pid_gaps watched mark 0) → HaveSeenTables (record { pmts = pmts; pmt_gaps = pmt_gaps; pid_gaps = pid_gaps }) []
tables_first pmts pmt_gaps pid_gaps p a b c d = record {
  pmts = p;
  pmt_gaps = first_number pmt_gaps (is_pmt_watched []) (is_pmt_mark []) a none_watched (λ pid. refl) (c (is_pmt_watched []) (is_pmt_mark []));
  pid_gaps = first_number pid_gaps (is_pid_watched []) (is_pid_mark []) b none_referred (λ pid. refl) (d (is_pid_watched []) (is_pid_mark []));
  pmt_pids = λ pid h. a pid ∙ sym (none_watched pid);
  referred = λ pid h. b pid ∙ sym (none_referred pid);
}
