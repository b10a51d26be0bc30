-- The PMT watches of all PIDs, behind one more slot.
use Rattle.std.proofs.Common.{◌≡◌, ◌≢◌, ℕ, zero, suc, ◌+◌, ◌<◌, List, [], ◌∷◌, ◌++◌, length, get_or, refl, sym, ◌∙◌, ap, subst, arith, Option, None, Bool, true, false, ◌&&◌, ⊎_elim}
use Rattle.std.specs.Prelude.{◌==◌, set, cond, map, replicate}
use Rattle.std.proofs.lemmas.Bool.{cases_eq, false_from_ne_true}
use Rattle.std.proofs.lemmas.Bool.Decides.{Decides-eqb, nat_tests}
use Rattle.std.proofs.lemmas.List.{append-nil, get_or-set_same, get_or-set_other}
use Rattle.std.proofs.lemmas.List.Elements.{filter-append}
use Rattle.tspkt.specs.Packet.{pid_of, transport_scrambling_control_of}
use Rattle.tables.specs.OnPid.{packets_on}
use Rattle.analyse.specs.Slots.{packets_in, is_packet}
use Rattle.analyse.specs.Faults.{completes, pmts_of}
use Rattle.section.specs.Assembled.{fresh, state_behind}
use Rattle.tables.specs.SectionReading.{is_on}
use Rattle.analyse.specs.PmtAssembling.{StandsFor}
use Rattle.analyse.specs.PmtWatching.{PmtState, PmtPids, boxed_state, state_of, pids_kept, pids_of_program, HasSeenPmts, HaveSeenPmts}
use Rattle.analyse.proofs.SlotLaws.{packets_more, packets_same}
use Rattle.analyse.proofs.PmtLaws.{no_newest}
use Rattle.analyse.proofs.PatWatchLaws.{completes_last}

-- a slot that is no packet of the PID that isn't scrambled
pub unread : (pid : ℕ) (slots : List (List ℕ)) (x : List ℕ) → is_packet x ≡ true → is_on pid x ≡ false → packets_on pid (packets_in (slots ++ x ∷ [])) ≡ packets_on pid (packets_in slots)
unread pid slots x h off =
    ap (packets_on pid) (packets_more slots x h) ∙ filter-append (is_on pid) (packets_in slots) (x ∷ [])
    ∙ ap (λ (b : Bool). packets_on pid (packets_in slots) ++ cond b (x ∷ []) []) off ∙ append-nil (packets_on pid (packets_in slots))

none_read : (pid : ℕ) (slots : List (List ℕ)) (x : List ℕ) → is_packet x ≡ false → packets_on pid (packets_in (slots ++ x ∷ [])) ≡ packets_on pid (packets_in slots)
none_read pid slots x h = ap (packets_on pid) (packets_same slots x h)

module _ (pid : ℕ) (slots : List (List ℕ)) (x : List ℕ) (same : packets_on pid (packets_in (slots ++ x ∷ [])) ≡ packets_on pid (packets_in slots)) where
  pub stays : (w : PmtState) → HasSeenPmts pid w slots → HasSeenPmts pid w (slots ++ x ∷ [])
  stays w s = record {
    sections = subst (λ (packets : List (List ℕ)). StandsFor w.assembly (state_behind fresh packets)) (sym same) s.sections;
    newest = rw same s.newest;
  }

  no_growth : completes (pmts_of pid) (slots ++ x ∷ []) (length slots + 1) ≡ false
  no_growth =
      let e : pmts_of pid (slots ++ x ∷ []) ≡ pmts_of pid slots = rw same refl in
      completes_last (pmts_of pid) slots x [] (e ∙ sym (append-nil (pmts_of pid slots)))

pub none_stays : (ws : List (Option PmtState)) (slots : List (List ℕ)) (x : List ℕ) → is_packet x ≡ false → HaveSeenPmts ws slots → HaveSeenPmts ws (slots ++ x ∷ [])
none_stays ws slots x h s = record { pids = λ pid. stays pid slots x (none_read pid slots x h) (state_of (get_or ws pid None)) (s.pids pid) }

pub none_grows : (slots : List (List ℕ)) (x : List ℕ) (pid : ℕ) → is_packet x ≡ false → completes (pmts_of pid) (slots ++ x ∷ []) (length slots + 1) ≡ false
none_grows slots x pid h = no_growth pid slots x (none_read pid slots x h)

scrambled_off : (pid : ℕ) (x : List ℕ) → transport_scrambling_control_of x ≢ 0 → is_on pid x ≡ false
scrambled_off pid x e = grind (arith, nat_tests)

pub other_off : (pid : ℕ) (x : List ℕ) → pid_of x ≢ pid → is_on pid x ≡ false
other_off pid x e = grind (arith, nat_tests)

pub scrambled_stays : (ws : List (Option PmtState)) (slots : List (List ℕ)) (x : List ℕ) → is_packet x ≡ true → transport_scrambling_control_of x ≢ 0 → HaveSeenPmts ws slots → HaveSeenPmts ws (slots ++ x ∷ [])
scrambled_stays ws slots x h e s = record { pids = λ pid. stays pid slots x (unread pid slots x h (scrambled_off pid x e)) (state_of (get_or ws pid None)) (s.pids pid) }

pub scrambled_grows : (slots : List (List ℕ)) (x : List ℕ) (pid : ℕ) → is_packet x ≡ true → transport_scrambling_control_of x ≢ 0 → completes (pmts_of pid) (slots ++ x ∷ []) (length slots + 1) ≡ false
scrambled_grows slots x pid h e = no_growth pid slots x (unread pid slots x h (scrambled_off pid x e))

-- ---- the packet of a PID

pub clear_on : (pid : ℕ) (x : List ℕ) → pid_of x ≡ pid → transport_scrambling_control_of x ≡ 0 → is_on pid x ≡ true
clear_on pid x p e = grind (arith, nat_tests)

pub watch_seen : (ws : List (Option PmtState)) (place : ℕ) (new : Option PmtState) (slots : List (List ℕ)) (x : List ℕ) → place < length ws → is_packet x ≡ true → pid_of x ≡ place → (HasSeenPmts place (state_of (get_or ws place None)) slots → HasSeenPmts place (state_of new) (slots ++ x ∷ [])) → HaveSeenPmts ws slots → HaveSeenPmts (set ws place new) (slots ++ x ∷ [])
watch_seen ws place new slots x small h e one s = record {
  pids = λ pid.
      ⊎_elim
      (λ (same : pid ≡ place).
      let now : get_or (set ws place new) pid None ≡ new = ap (λ (k : ℕ). get_or (set ws place new) k None) same ∙ get_or-set_same ws place new None small in
      rw (now, same) (one (s.pids place)))
      (λ (differ : pid ≢ place).
      let kept : get_or (set ws place new) pid None ≡ get_or ws pid None = get_or-set_other ws place pid new None differ in
      rw kept (stays pid slots x (unread pid slots x h (other_off pid x (λ q. differ (sym q ∙ e)))) (state_of (get_or ws pid None)) (s.pids pid)))
      (cases_eq pid place);
}

pub watch_came : (place pid : ℕ) (slots : List (List ℕ)) (x : List ℕ) (came : Bool) → is_packet x ≡ true → pid_of x ≡ place → came ≡ completes (pmts_of place) (slots ++ x ∷ []) (length slots + 1) → completes (pmts_of pid) (slots ++ x ∷ []) (length slots + 1) ≡ (came && pid_of x == pid)
watch_came place pid slots x came h e c =
    ⊎_elim
    (λ (same : pid_of x ≡ pid).
    let t : (pid_of x == pid) ≡ true = (Decides-eqb (pid_of x) pid).1 same in
    ap (λ (k : ℕ). completes (pmts_of k) (slots ++ x ∷ []) (length slots + 1)) (sym same ∙ e) ∙ sym c ∙ and_is came (pid_of x == pid) t)
    (λ (differ : pid_of x ≢ pid).
    let t : (pid_of x == pid) ≡ false = false_from_ne_true (pid_of x == pid) (λ t. differ ((Decides-eqb (pid_of x) pid).0 t)) in
    no_growth pid slots x (unread pid slots x h (other_off pid x differ)) ∙ and_not came (pid_of x == pid) t)
    (cases_eq (pid_of x) pid)
  where
    and_is : (a b : Bool) → b ≡ true → a ≡ (a && b)
    and_is true b t = sym t
    and_is false b t = refl

    and_not : (a b : Bool) → b ≡ false → false ≡ (a && b)
    and_not true b t = sym t
    and_not false b t = refl

pub watch_same : (ws : List (Option PmtState)) (place : ℕ) (new : Option PmtState) (pid program : ℕ) → place < length ws → (state_of new).newest ≡ (state_of (get_or ws place None)).newest → pids_of_program (set ws place new) pid program ≡ pids_of_program ws pid program
watch_same ws place new pid program small e =
    ⊎_elim
    (λ (same : pid ≡ place).
    let now : get_or (set ws place new) pid None ≡ new = ap (λ (k : ℕ). get_or (set ws place new) k None) same ∙ get_or-set_same ws place new None small in
    rw (now, same) (ap (λ (l : List PmtPids). pids_kept l program) e))
    (λ (differ : pid ≢ place).
    ap (λ (o : Option PmtState). pids_kept (state_of o).newest program) (get_or-set_other ws place pid new None differ))
    (cases_eq pid place)

-- ---- no slot yet

none_at : (n pid : ℕ) → get_or (map boxed_state (replicate n None)) pid None ≡ None
none_at zero pid = refl
none_at (suc n) zero = refl
none_at (suc n) (suc pid) = none_at n pid

pub none_seen : (n : ℕ) → HaveSeenPmts (map boxed_state (replicate n None)) []
none_seen n = record {
  pids = λ pid.
      subst (λ (o : Option PmtState). HasSeenPmts pid (state_of o) []) (sym (none_at n pid))
      (record { sections = record { begun = refl; last = refl }; newest = no_newest });
}
