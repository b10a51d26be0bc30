-- One more slot: the packets so far, and those of a PID.
use Rattle.std.proofs.Common.{◌≡◌, ◌≢◌, ℕ, ◌+◌, List, [], ◌∷◌, ◌++◌, length, take, refl, sym, ◌∙◌, ap, length-append, Bool, true, false, ◌&&◌}
use Rattle.std.specs.Prelude.{not, ◌==◌, filter, cond}
use Rattle.std.proofs.Math.Seq.{get_or-append_seam, take-length}
use Rattle.std.proofs.lemmas.Bool.{false_from_ne_true}
use Rattle.std.proofs.lemmas.Bool.Decides.{Decides-eqb}
use Rattle.std.proofs.lemmas.List.{append-nil}
use Rattle.std.proofs.lemmas.List.Elements.{filter-append}
use Rattle.tspkt.specs.Packet.{pid_of}
use Rattle.tspkt.specs.Counters.{lawful_of}
use Rattle.analyse.specs.Slots.{slot_at, is_packet, packets_in, packets_of_pid}
use Rattle.analyse.specs.Faults.{last_is_lawful, is_counter_bad_at}

-- a filter of one item
one_kept : (test : List ℕ → Bool) (x : List ℕ) (xs : List (List ℕ)) → test x ≡ true → filter test (xs ++ x ∷ []) ≡ filter test xs ++ x ∷ []
one_kept test x xs h = filter-append test xs (x ∷ []) ∙ ap (λ (b : Bool). filter test xs ++ cond b (x ∷ []) []) h

one_dropped : (test : List ℕ → Bool) (x : List ℕ) (xs : List (List ℕ)) → test x ≡ false → filter test (xs ++ x ∷ []) ≡ filter test xs
one_dropped test x xs h = filter-append test xs (x ∷ []) ∙ ap (λ (b : Bool). filter test xs ++ cond b (x ∷ []) []) h ∙ append-nil (filter test xs)

pub packets_more : (slots : List (List ℕ)) (x : List ℕ) → is_packet x ≡ true → packets_in (slots ++ x ∷ []) ≡ packets_in slots ++ x ∷ []
packets_more slots x h = one_kept is_packet x slots h

pub packets_same : (slots : List (List ℕ)) (x : List ℕ) → is_packet x ≡ false → packets_in (slots ++ x ∷ []) ≡ packets_in slots
packets_same slots x h = one_dropped is_packet x slots h

pub of_pid_more : (slots : List (List ℕ)) (x : List ℕ) → is_packet x ≡ true → packets_of_pid (pid_of x) (slots ++ x ∷ []) ≡ packets_of_pid (pid_of x) slots ++ x ∷ []
of_pid_more slots x h =
    ap (λ (l : List (List ℕ)). filter (λ p. pid_of p == pid_of x) l) (packets_more slots x h)
    ∙ one_kept (λ p. pid_of p == pid_of x) x (packets_in slots) ((Decides-eqb (pid_of x) (pid_of x)).1 refl)

pub of_pid_other : (slots : List (List ℕ)) (x : List ℕ) (pid : ℕ) → is_packet x ≡ true → pid_of x ≢ pid → packets_of_pid pid (slots ++ x ∷ []) ≡ packets_of_pid pid slots
of_pid_other slots x pid h n =
    ap (λ (l : List (List ℕ)). filter (λ p. pid_of p == pid) l) (packets_more slots x h)
    ∙ one_dropped (λ p. pid_of p == pid) x (packets_in slots) (false_from_ne_true (pid_of x == pid) (λ e. n ((Decides-eqb (pid_of x) pid).0 e)))

pub of_pid_same : (slots : List (List ℕ)) (x : List ℕ) (pid : ℕ) → is_packet x ≡ false → packets_of_pid pid (slots ++ x ∷ []) ≡ packets_of_pid pid slots
of_pid_same slots x pid h = ap (λ (l : List (List ℕ)). filter (λ p. pid_of p == pid) l) (packets_same slots x h)

-- the new slot, and all slots up to it
pub new_slot : (slots : List (List ℕ)) (x : List ℕ) → slot_at (slots ++ x ∷ []) (length slots) ≡ x
new_slot slots x = get_or-append_seam slots x [] []

pub all_slots : (slots : List (List ℕ)) (x : List ℕ) → take (length slots + 1) (slots ++ x ∷ []) ≡ slots ++ x ∷ []
all_slots slots x = ap (λ (n : ℕ). take n (slots ++ x ∷ [])) (sym (length-append slots (x ∷ []))) ∙ take-length (slots ++ x ∷ [])

-- whether the counter of the new slot is bad
pub counter_bad : (slots : List (List ℕ)) (x : List ℕ) → is_counter_bad_at (slots ++ x ∷ []) (length slots) ≡ (is_packet x && (not (pid_of x == 0x1FFF) && not (last_is_lawful (lawful_of (packets_of_pid (pid_of x) (slots ++ x ∷ []))))))
unfolding is_counter_bad_at
counter_bad slots x =
    ap (λ (y : List ℕ). is_packet y && (not (pid_of y == 0x1FFF) && not (last_is_lawful (lawful_of (packets_of_pid (pid_of y) (take (length slots + 1) (slots ++ x ∷ []))))))) (new_slot slots x)
    ∙ ap (λ (l : List (List ℕ)). is_packet x && (not (pid_of x == 0x1FFF) && not (last_is_lawful (lawful_of (packets_of_pid (pid_of x) l))))) (all_slots slots x)
