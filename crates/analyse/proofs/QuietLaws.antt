-- What the watches know of the slots before a quiet slot stands behind it too.
use Rattle.std.proofs.Common.{◌≡◌, ◌≢◌, ℕ, ◌+◌, ◌<◌, List, [], ◌∷◌, ◌++◌, length, get_or, refl, sym, ◌∙◌, ap, subst, arith, Option, Some, None, Bool, true, false, ◌&&◌, ⊎_elim}
use Rattle.std.specs.Prelude.{◌==◌, not, nat_le, nat_lt, filter_map, cond}
use Rattle.std.proofs.lemmas.Bool.{cases_Bool, cases_eq, and_parts}
use Rattle.std.proofs.lemmas.Bool.Decides.{nat_tests}
use Rattle.std.proofs.lemmas.List.{append-nil}
use Rattle.tspkt.specs.Packet.{pid_of, has_payload_of, payload_unit_start_indicator_of, transport_scrambling_control_of}
use Rattle.section.specs.Assembled.{AssemblerState, Step, fresh, packet_told, state_behind, assembled}
use Rattle.section.proofs.FoundLaws.{packet_none}
use Rattle.tables.specs.OnPid.{packets_on, section_in, sections_on, pmts_on}
use Rattle.analyse.specs.declared.pmt_assembly.PmtAssembly.TheVariants.{Between}
use Rattle.analyse.specs.declared.fault_kind.FaultKind.TheVariants.{ContinuityCountError, PmtError2, PidError}
use Rattle.analyse.specs.declared.fault.Fault.{Fault}
use Rattle.analyse.specs.Slots.{slot_at, is_good, packets_in, is_sync_lost_at, is_sync_byte_bad_at}
use Rattle.analyse.specs.InForce.{program_rows_behind, is_pmt_pid_behind, is_referred_behind}
use Rattle.analyse.specs.Faults.{completes, pmts_of, is_pat_bad_at, is_counter_bad_at, told_if, table_limit, faults_at, is_pmt_watched, is_pmt_mark, is_pid_watched, is_pid_mark}
use Rattle.analyse.specs.SlotReading.{IsReadAs}
use Rattle.analyse.specs.SyncWatching.{SyncState, HasSeenSlots, is_lost_by, behind}
use Rattle.tables.specs.SectionReading.{is_on, ReaderState, reader_on}
use Rattle.analyse.specs.GapWatching.{is_told, HasSeenNumbers}
use Rattle.analyse.specs.ProgramsWatching.{HasRows}
use Rattle.analyse.specs.PatWatching.{PatState, HasSeenPat}
use Rattle.analyse.specs.ToldPmts.{pmts_in}
use Rattle.analyse.specs.UnreadSections.{IsBetween}
use Rattle.analyse.specs.PmtAssembling.{StandsFor}
use Rattle.analyse.specs.PmtWatching.{PmtState, state_of, KeepsNewest, assembler_behind, HasSeenPmts}
use Rattle.analyse.specs.GapsWatching.{GapsState, HaveSeenNumbers, OnlyMarked}
use Rattle.analyse.specs.TablesWatching.{TablesState, scrambled_pid, watched_only, HaveSeenTables, table_faults_at}
use Rattle.analyse.specs.Quiet.{stands, LeavesSync, LeavesPat, LeavesAssembly, LeavesPmt, LeavesPmts, LeavesTables}
use Rattle.analyse.proofs.SyncLaws.{last_slot, seen_more, lost_now}
use Rattle.analyse.proofs.GapLaws.{since_more, told_now}
use Rattle.analyse.proofs.PatWatchLaws.{seen_pat, bad_pat}
use Rattle.analyse.proofs.UnreadLaws.{between_passed}
use Rattle.analyse.proofs.PmtWatchLaws.{assembler_more, pmts_more, came_last}
use Rattle.analyse.proofs.PmtWatchesLaws.{unread, stays, other_off, scrambled_stays, scrambled_grows, watch_came}
use Rattle.analyse.proofs.GapsLaws.{pass_none, none_due}
use Rattle.analyse.proofs.TablesLaws.{pmt_pids_same, referred_same, pmt_numbers, pid_numbers, pmt_only, pid_only, tables_seen, faults_told}
use Rattle.analyse.proofs.StreamLaws.{all_told}

pub off_from_not : (b : Bool) → not b ≡ true → b ≡ false
off_from_not false e = refl
off_from_not true e = sym e

-- ---- sync

same_sync : (run : ℕ) (in_sync was_bad : Bool) → nat_lt run 5 ≡ false → in_sync ≡ true → was_bad ≡ false → behind (record { run = run; in_sync = in_sync; was_bad = was_bad }) false ≡ record { run = run; in_sync = in_sync; was_bad = was_bad }
unfolding behind
same_sync run in_sync was_bad r s b = rw (r, s, b) refl

pub sync_stands : (w : SyncState) (slot : List ℕ) → stands w slot ≡ true → LeavesSync w slot
sync_stands w slot h =
    let last = and_parts ((is_good slot && nat_le 5 w.run) && w.in_sync) (not w.was_bad) h in
    let front = and_parts (is_good slot && nat_le 5 w.run) w.in_sync last.0 in
    let first = and_parts (is_good slot) (nat_le 5 w.run) front.0 in
    let acquired : nat_lt w.run 5 ≡ false = grind (arith, nat_tests) in
    let good : not (is_good slot) ≡ false = ap not first.0 in
    let same : behind w (not (is_good slot)) ≡ w = ap (behind w) good ∙ same_sync w.run w.in_sync w.was_bad acquired front.1 (off_from_not w.was_bad last.1) in
    record {
      seen = λ slots s. subst (λ (v : SyncState). HasSeenSlots v (slots ++ slot ∷ [])) same (seen_more w slots slot s);
      lost = λ slots s. sym (lost_now w slots slot s) ∙ ap (is_lost_by w) good;
      bad = λ slots s. ap not (last_slot slots slot) ∙ good;
    }

-- ---- the PAT

module _ (w : PatState) (count : ℕ) (packet : List ℕ) (other : pid_of packet ≢ 0) (unmarked : w.marked ≡ false) (early : is_told w.gap count ≡ false) (slots : List (List ℕ)) (slot : List ℕ) (s : HasSeenPat w slots) (n : length slots ≡ count) (r : IsReadAs slot (Some packet)) where
  off : is_on 0x0000 slot ≡ false
  off = other_off 0x0000 slot (λ e. other (ap pid_of r.0 ∙ e))

  same_packets : packets_on 0x0000 (packets_in (slots ++ slot ∷ [])) ≡ packets_on 0x0000 (packets_in slots)
  same_packets = unread 0x0000 slots slot r.1 off

  no_sections : sections_on 0x0000 (packets_in (slots ++ slot ∷ [])) ≡ sections_on 0x0000 (packets_in slots) ++ []
  no_sections =
      ap (λ (packets : List (List ℕ)). filter_map section_in (assembled packets)) same_packets
      ∙ sym (append-nil (sections_on 0x0000 (packets_in slots)))

  same_sections : w.sections ≡ reader_on 0x0000 (packets_in (slots ++ slot ∷ []))
  same_sections =
      s.sections ∙ sym (ap (λ (packets : List (List ℕ)). let q : ReaderState = record { pid = 0x0000; assembler = state_behind fresh packets } in q) same_packets)

  same_gap : (watched mark : ℕ → Bool) → HasSeenNumbers w.gap watched mark count → watched count ≡ true → mark count ≡ w.marked → HasSeenNumbers w.gap watched mark (count + 1)
  same_gap watched mark g p q = record { since = since_more watched mark count w.gap.since true false p (q ∙ unmarked) g.since }

  same_pat : HasSeenPat w (slots ++ slot ∷ [])
  same_pat =
      seen_pat w.sections w.sections w.gap w.gap w.marked w.marked w.programs w.programs slots slot count [] s n no_sections same_sections same_gap unmarked
      (λ sections h. subst (HasRows w.programs) (sym (append-nil sections)) h)

  other_pid : (pid_of packet == 0 && not (transport_scrambling_control_of packet == 0)) ≡ false
  other_pid = grind (arith, nat_tests)

  good_pat : is_pat_bad_at w.gap.limit (slots ++ slot ∷ []) count ≡ false
  good_pat =
      sym (bad_pat w.sections w.sections w.gap w.gap w.marked w.marked w.programs w.programs slots slot count [] s n no_sections false (Some packet) r
      (λ watched mark g p q. sym early ∙ told_now w.gap.limit watched mark count w.gap.since (same_gap watched mark g p q).since))
      ∙ other_pid

pub pat_rests : (w : PatState) (count : ℕ) (packet : List ℕ) → pid_of packet ≢ 0 → w.marked ≡ false → is_told w.gap count ≡ false → LeavesPat w count packet
pat_rests w count packet other unmarked early = record {
  seen = λ slots slot s n r. same_pat w count packet other unmarked early slots slot s n r;
  good = λ slots slot s n r. good_pat w count packet other unmarked early slots slot s n r;
}

-- ---- the PMTs

pub between_rests : (s : AssemblerState) (p : List ℕ) → IsBetween s → payload_unit_start_indicator_of p ≡ false → LeavesAssembly Between s p
between_rests s p i start =
    ⊎_elim
    (λ (h : has_payload_of p ≡ true).
    let q = between_passed s p i.begun h start in
    record { state = q.state; none = q.pmts })
    (λ (h : has_payload_of p ≡ false).
    let e = packet_none s p h in
    record {
      state = subst (λ (x : Step). IsBetween x.state) (sym e) i;
      none = ap (λ (x : Step). pmts_in x.told) e;
    })
    (cases_Bool (has_payload_of p))

module _ (pid : ℕ) (w : PmtState) (packet : List ℕ) (rests : (s : AssemblerState) → StandsFor w.assembly s → LeavesAssembly w.assembly s packet) (on : is_on pid packet ≡ true) (slots : List (List ℕ)) (slot : List ℕ) (s : HasSeenPmts pid w slots) (r : IsReadAs slot (Some packet)) where
  here : is_on pid slot ≡ true
  here = ap (is_on pid) (sym r.0) ∙ on

  left : LeavesAssembly w.assembly (assembler_behind pid slots) packet
  left = rests (assembler_behind pid slots) s.sections

  no_pmts : pmts_in [] ≡ pmts_in (packet_told (assembler_behind pid slots) slot).told
  no_pmts = sym (ap (λ (x : List ℕ). pmts_in (packet_told (assembler_behind pid slots) x).told) (sym r.0) ∙ left.none)

  pmts_same : pmts_on pid (packets_in (slots ++ slot ∷ [])) ≡ pmts_on pid (packets_in slots) ++ pmts_in []
  pmts_same = pmts_more pid slots slot r.1 here [] no_pmts

  same_pmts : HasSeenPmts pid w (slots ++ slot ∷ [])
  same_pmts = record {
    sections = subst (StandsFor w.assembly) (ap (λ (x : List ℕ). (packet_told (assembler_behind pid slots) x).state) r.0 ∙ sym (assembler_more pid slots slot r.1 here)) left.state;
    newest = subst (KeepsNewest w.newest) (sym (pmts_same ∙ append-nil (pmts_on pid (packets_in slots)))) s.newest;
  }

  none_came : completes (pmts_of pid) (slots ++ slot ∷ []) (length slots + 1) ≡ false
  none_came = sym (came_last pid slots slot [] pmts_same)

pub pmt_rests : (pid : ℕ) (w : PmtState) (packet : List ℕ) → ((s : AssemblerState) → StandsFor w.assembly s → LeavesAssembly w.assembly s packet) → is_on pid packet ≡ true → LeavesPmt pid w packet
pmt_rests pid w packet rests on = record {
  seen = λ slots slot s r. same_pmts pid w packet rests on slots slot s r;
  none = λ slots slot s r. none_came pid w packet rests on slots slot s r;
}

pub watch_rests : (ws : List (Option PmtState)) (place : ℕ) (w : PmtState) (packet : List ℕ) → get_or ws place None ≡ Some w → pid_of packet ≡ place → LeavesPmt place w packet → LeavesPmts ws packet
watch_rests ws place w packet at e l = record {
  seen = λ slots slot s r. record {
    pids = λ pid.
        ⊎_elim
        (λ (same : pid ≡ place).
        subst (λ (k : ℕ). HasSeenPmts k (state_of (get_or ws k None)) (slots ++ slot ∷ [])) (sym same)
        (subst (λ (o : Option PmtState). HasSeenPmts place (state_of o) (slots ++ slot ∷ [])) (sym at) (l.seen slots slot (before slots (s.pids place)) r)))
        (λ (differ : pid ≢ place).
        stays pid slots slot (unread pid slots slot r.1 (other_off pid slot (λ q. differ (sym q ∙ ap pid_of (sym r.0) ∙ e)))) (state_of (get_or ws pid None)) (s.pids pid))
        (cases_eq pid place);
  };
  none = λ slots slot s r pid. watch_came place pid slots slot false r.1 (ap pid_of (sym r.0) ∙ e) (sym (l.none slots slot (before slots (s.pids place)) r));
}
  where
    before : (slots : List (List ℕ)) → HasSeenPmts place (state_of (get_or ws place None)) slots → HasSeenPmts place w slots
    before slots s = subst (λ (o : Option PmtState). HasSeenPmts place (state_of o) slots) at s

pub scrambled_rests : (ws : List (Option PmtState)) (packet : List ℕ) → transport_scrambling_control_of packet ≢ 0 → LeavesPmts ws packet
scrambled_rests ws packet e = record {
  seen = λ slots slot s r. scrambled_stays ws slots slot r.1 (λ q. e (ap transport_scrambling_control_of r.0 ∙ q)) s;
  none = λ slots slot s r pid. scrambled_grows slots slot pid r.1 (λ q. e (ap transport_scrambling_control_of r.0 ∙ q));
}

-- ---- the tables

pub tables_rest : (w : TablesState) (count : ℕ) (packet : List ℕ) → count < w.pmt_gaps.due → count < w.pid_gaps.due → watched_only w.pmt_gaps (scrambled_pid (Some packet)) ≡ None → LeavesPmts w.pmts packet → LeavesTables w count packet
tables_rest w count packet pmt_early pid_early also l = record {
  pmts = l;
  none = λ slots slot s n r.
      let more = slots ++ slot ∷ [] in
      let pmts = subst (λ (k : ℕ). HaveSeenNumbers w.pmt_gaps (is_pmt_watched more) (is_pmt_mark more) (k + 1)) n (pmt_numbers w slots slot s) in
      let pids = subst (λ (k : ℕ). HaveSeenNumbers w.pid_gaps (is_pid_watched more) (is_pid_mark more) (k + 1)) n (pid_numbers w slots slot s) in
      sym (faults_told w slots slot (Some packet) None count [] [] [] s r n (sym also)
      (sym (none_due w.pmt_gaps (is_pmt_watched more) (is_pmt_mark more) None PmtError2 count 8192 refl (λ pid e. absurd (cc)) pmt_early pmts))
      (sym (none_due w.pid_gaps (is_pid_watched more) (is_pid_mark more) None PidError count 8192 refl (λ pid e. absurd (cc)) pid_early pids)));
}

pub tables_passed : (w : TablesState) (new : GapsState) (slots : List (List ℕ)) (slot packet : List ℕ) → HaveSeenTables w slots → LeavesPmts w.pmts packet → IsReadAs slot (Some packet) → program_rows_behind (slots ++ slot ∷ []) ≡ program_rows_behind slots → ((watched mark : ℕ → ℕ → Bool) → HaveSeenNumbers w.pid_gaps watched mark (length slots + 1) → OnlyMarked w.pid_gaps watched mark (length slots + 1) (Some packet) → HaveSeenNumbers new watched mark (length slots + 1 + 1)) → new.watched ≡ w.pid_gaps.watched → HaveSeenTables (record { pmts = w.pmts; pmt_gaps = w.pmt_gaps; pid_gaps = new }) (slots ++ slot ∷ [])
tables_passed w new slots slot packet t l r rows each watched =
    let more = slots ++ slot ∷ [] in
    let pmts = l.seen slots slot t.pmts r in
    let none = l.none slots slot t.pmts r in
    let pmt_same : (pid : ℕ) → is_pmt_pid_behind more pid ≡ is_pmt_pid_behind slots pid = λ pid. pmt_pids_same slots more pid rows in
    let pid_same : (pid : ℕ) → is_referred_behind more pid ≡ is_referred_behind slots pid = λ pid. referred_same w.pmts w.pmts slots more pid t.pmts pmts rows (λ p program. refl) in
    tables_seen w.pmts w.pmt_gaps new slots slot pmts
    (pass_none w.pmt_gaps (is_pmt_watched more) (is_pmt_mark more) (length slots + 1) (pmt_numbers w slots slot t) (pmt_only w slots slot t (Some packet) None false none (λ pid. refl) r pmt_same))
    (each (is_pid_watched more) (is_pid_mark more) (pid_numbers w slots slot t) (pid_only w slots slot t (Some packet) None false none (λ pid. refl) r pid_same))
    (λ pid h. t.pmt_pids pid h ∙ sym (pmt_same pid))
    (λ pid h. ap (λ (b : List Bool). get_or b pid false) watched ∙ t.referred pid h ∙ sym (pid_same pid))

-- ---- what is told

pub quiet_told : (rate period : ℕ) (slots : List (List ℕ)) (m : ℕ) (counter old new : List Fault) → is_sync_lost_at slots m ≡ false → is_sync_byte_bad_at slots m ≡ false → is_pat_bad_at (table_limit rate) slots m ≡ false → counter ≡ told_if (is_counter_bad_at slots m) ContinuityCountError m (Some (pid_of (slot_at slots m))) → table_faults_at (table_limit rate) period slots m ≡ [] → new ≡ old ++ counter → new ≡ old ++ faults_at rate period slots m
quiet_told rate period slots m counter old new l b p c e o =
    let one = sym (append-nil old) in
    let four = sym (append-nil new) in
    all_told rate period slots m false false false counter old old old old new new (sym l) (sym b) (sym p) c one one one o (four ∙ ap (λ (f : List Fault). new ++ f) (sym e))
