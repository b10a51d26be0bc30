-- The last packet of a PID, and whether it is a copy, decide whether the next one is lawful.
use Rattle.std.proofs.Common.{◌≡◌, ◌≢◌, ℕ, List, [], ◌∷◌, ◌++◌, refl, sym, ◌∙◌, ap, Option, Some, None, Bool, true, false, ◌&&◌, ◌||◌}
use Rattle.std.specs.Prelude.{not, ◌==◌, ◌+◌, ◌%◌}
use Rattle.std.proofs.Math.Bool.{or_assoc}
use Rattle.std.proofs.lemmas.Bool.{and_left, and_right, false_from_ne_true}
use Rattle.std.proofs.lemmas.Bool.Decides.{Decides-eqb}
use Rattle.tspkt.specs.Packet.{discontinuity_indicator_of, has_payload_of, continuity_counter_of}
use Rattle.tspkt.specs.Counters.{is_copy, is_equal_but_pcr, is_second_copy, follows_of, lawful_behind, lawful_of}
use Rattle.analyse.specs.Faults.{last_is_lawful}
use Rattle.analyse.specs.CounterWatching.{CounterState, last_of, steps_to, is_next_lawful, HasSeenPackets}

last_behind : (told : Bool) (before : Option (List ℕ)) (first : List ℕ) (rest : List (List ℕ)) (last next : List ℕ) → last_is_lawful (told ∷ lawful_behind before first ((rest ++ last ∷ []) ++ next ∷ [])) ≡ follows_of (last_of (first ∷ rest)) last next
last_behind told before first [] last next = refl
last_behind told before first (second ∷ rest) last next = last_behind (follows_of before first second) (Some first) second rest last next

last_lawful : (earlier : List (List ℕ)) (last next : List ℕ) → last_is_lawful (lawful_of ((earlier ++ last ∷ []) ++ next ∷ [])) ≡ follows_of (last_of earlier) last next
last_lawful [] last next = refl
last_lawful (first ∷ rest) last next = last_behind true None first rest last next

last_of-append : (earlier : List (List ℕ)) (last : List ℕ) → last_of (earlier ++ last ∷ []) ≡ Some last
last_of-append [] last = refl
last_of-append (p ∷ []) last = refl
last_of-append (p ∷ q ∷ rest) last = last_of-append (q ∷ rest) last

pub lawful_now : (w : CounterState) (packets : List (List ℕ)) (next : List ℕ) → HasSeenPackets w packets → is_next_lawful w next (is_copy w.last next) ≡ last_is_lawful (lawful_of (packets ++ next ∷ []))
unfolding follows_of
lawful_now w packets next s =
    ap (λ (b : Bool). (discontinuity_indicator_of next || steps_to w.last next) || (is_copy w.last next && not b)) s.is_copy
    ∙ ap (λ (b : Bool). b || (is_copy w.last next && not (is_second_copy (last_of s.earlier) w.last)))
    (sym (or_assoc (discontinuity_indicator_of next) (has_payload_of next && continuity_counter_of next == (continuity_counter_of w.last + 1) % 16) (not (has_payload_of next) && continuity_counter_of next == continuity_counter_of w.last)))
    ∙ sym (last_lawful s.earlier w.last next)
    ∙ ap (λ (l : List (List ℕ)). last_is_lawful (lawful_of (l ++ next ∷ []))) (sym s.packets_are)

pub packets_more : (w : CounterState) (packets : List (List ℕ)) (next : List ℕ) → HasSeenPackets w packets → HasSeenPackets (record { last = next; is_copy = is_copy w.last next }) (packets ++ next ∷ [])
unfolding is_second_copy
packets_more w packets next s = record {
  earlier = packets;
  packets_are = refl;
  is_copy = sym (ap (λ (o : Option (List ℕ)). is_second_copy o next) (ap last_of s.packets_are ∙ last_of-append s.earlier w.last));
}

pub packets_first : (first : List ℕ) → HasSeenPackets (record { last = first; is_copy = false }) (first ∷ [])
unfolding is_second_copy
packets_first first = record { earlier = []; packets_are = refl; is_copy = refl }

-- a packet whose counter is another is no copy
pub other_counter : (last next : List ℕ) → continuity_counter_of last ≢ continuity_counter_of next → is_copy last next ≡ false
unfolding is_copy
other_counter last next e =
    let t : (continuity_counter_of last == continuity_counter_of next) ≡ false = false_from_ne_true (continuity_counter_of last == continuity_counter_of next) (λ t. e ((Decides-eqb (continuity_counter_of last) (continuity_counter_of next)).0 t)) in
    and_left ((has_payload_of last && has_payload_of next) && continuity_counter_of last == continuity_counter_of next) (is_equal_but_pcr last next)
    (and_right (has_payload_of last && has_payload_of next) (continuity_counter_of last == continuity_counter_of next) t)
