-- The counter watches of all PIDs, behind one more slot.
use Rattle.std.proofs.Common.{◌≡◌, ◌≢◌, ℕ, ◌<◌, List, [], ◌∷◌, ◌++◌, length, get_or, sym, ◌∙◌, ap, arith, Option, None, Bool, true, false, ◌&&◌}
use Rattle.std.specs.Prelude.{not, ◌==◌}
use Rattle.std.proofs.lemmas.Bool.{and_left, false_from_ne_true}
use Rattle.std.proofs.lemmas.Bool.Decides.{Decides-eqb}
use Rattle.std.proofs.lemmas.List.{get_or_default}
use Rattle.tspkt.specs.Packet.{pid_of}
use Rattle.tspkt.specs.Counters.{lawful_of}
use Rattle.analyse.specs.Slots.{is_packet, packets_of_pid}
use Rattle.analyse.specs.Faults.{last_is_lawful, is_counter_bad_at}
use Rattle.analyse.specs.CounterWatching.{CounterState}
use Rattle.analyse.specs.CountersWatching.{HasSeenIfAny, HaveSeenPids}
use Rattle.analyse.proofs.SlotLaws.{of_pid_more, counter_bad}

pub bad_none : (slots : List (List ℕ)) (x : List ℕ) → is_packet x ≡ false → false ≡ is_counter_bad_at (slots ++ x ∷ []) (length slots)
bad_none slots x h = sym (counter_bad slots x ∙ and_left (is_packet x) (not (pid_of x == 0x1FFF) && not (last_is_lawful (lawful_of (packets_of_pid (pid_of x) (slots ++ x ∷ []))))) h)

pub bad_null : (slots : List (List ℕ)) (x : List ℕ) → is_packet x ≡ true → pid_of x ≡ 0x1FFF → false ≡ is_counter_bad_at (slots ++ x ∷ []) (length slots)
bad_null slots x h e =
    let t : (pid_of x == 0x1FFF) ≡ true = (Decides-eqb (pid_of x) 0x1FFF).1 e in
    let rest = not (last_is_lawful (lawful_of (packets_of_pid (pid_of x) (slots ++ x ∷ [])))) in
    sym (counter_bad slots x ∙ ap (λ (b : Bool). b && (not (pid_of x == 0x1FFF) && rest)) h ∙ ap (λ (b : Bool). not b && rest) t)

pub bad_packet : (slots : List (List ℕ)) (x : List ℕ) → is_packet x ≡ true → (pid_of x == 0x1FFF) ≡ false → not (last_is_lawful (lawful_of (packets_of_pid (pid_of x) slots ++ x ∷ []))) ≡ is_counter_bad_at (slots ++ x ∷ []) (length slots)
bad_packet slots x h f =
    let rest = not (last_is_lawful (lawful_of (packets_of_pid (pid_of x) (slots ++ x ∷ [])))) in
    sym (counter_bad slots x ∙ ap (λ (b : Bool). b && (not (pid_of x == 0x1FFF) && rest)) h ∙ ap (λ (b : Bool). not b && rest) f
    ∙ ap (λ (l : List (List ℕ)). not (last_is_lawful (lawful_of l))) (of_pid_more slots x h))

pub bad_now : (ws : List (Option CounterState)) (w : Option CounterState) (slots : List (List ℕ)) (x : List ℕ) (pid : ℕ) (bad : Bool) → HaveSeenPids ws slots → is_packet x ≡ true → pid_of x ≡ pid → pid ≢ 0x1FFF → pid < 8192 → length ws ≡ 8192 → w ≡ get_or ws pid w → ((packets : List (List ℕ)) → HasSeenIfAny w packets → bad ≡ not (last_is_lawful (lawful_of (packets ++ x ∷ [])))) → bad ≡ is_counter_bad_at (slots ++ x ∷ []) (length slots)
bad_now ws w slots x pid bad s h e other below whole at each =
    let one : get_or ws pid None ≡ w = get_or_default ws pid None w (omega arith) ∙ sym at in
    let seen : HasSeenIfAny w (packets_of_pid (pid_of x) slots) = rw (e, ← one) (s.pids pid below other) in
    let not_null : (pid_of x == 0x1FFF) ≡ false = false_from_ne_true (pid_of x == 0x1FFF) (λ t. other (sym e ∙ (Decides-eqb (pid_of x) 0x1FFF).0 t)) in
    each (packets_of_pid (pid_of x) slots) seen ∙ bad_packet slots x h not_null
