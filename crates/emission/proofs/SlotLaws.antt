-- What the packet of a slot is, by what the slot carries, behind packets that went out before.
use Rattle.std.proofs.Common.{ℕ, suc, ◌+◌, zero-add, ◌%◌, ◌<◌, ◌≡◌, ◌==◌, ◌⊎◌, inl, inr, Bool, List, [], ◌++◌, length, take, get_or, Option, Some, None, refl, ap, ◌∙◌, sym, subst, arith}
use Rattle.std.specs.List.{All, slice_get, filter}
use Rattle.std.proofs.lemmas.Bool.{eqb-true, ne_eqb}
use Rattle.std.proofs.lemmas.List.{length-take-le, length-append}
use Rattle.std.proofs.lemmas.List.Elements.{filter-append}
use Rattle.std.proofs.lemmas.Option.{slice_get_within, slice_get-get_or}
use Rattle.tspkt.specs.Packet.{pid_of, null_packet}
use Rattle.tspkt.specs.Counted.{with_counter}
use Rattle.tspkt.proofs.PacketFields.{pid_at}
use Rattle.rounds.specs.declared.table_place.TablePlace.{TablePlace}
use Rattle.rounds.specs.declared.table_place.TablePlace.TheVariants.{Fast, Slow}
use Rattle.rounds.specs.Rounds.{IsRounds, table_at}
use Rattle.rounds.proofs.RecurringLaws.{are_places}
use Rattle.request.specs.declared.stream.Stream.{Stream}
use Rattle.output_tables.specs.TableSet.{fast_packets, slow_packets}
use Rattle.plan.specs.Build.{PlanValue}
use Rattle.emission.specs.Emission.{of_pid, counted_behind, IsNullOrMapped, IsPacketOf, IsEmission}
use Rattle.emission.proofs.WalkLaws.{turns, fast_one, slow_one, fast_in_turn, slow_in_turn}
use Rattle.emission.proofs.CycleLaws.{Steps, TakesTurn, PassesBy}
use Rattle.emission.proofs.SectionPacketLaws.{GoesOut}
use Rattle.emission.proofs.RepeatLaws.{numbered, numbered_from}
use Rattle.emission.proofs.PlanFacts.{PlanFacts}

-- packets that a plan sends behind these, its first round with the first of them
abbrev pub IsSpanOf : PlanValue → List (List ℕ) → List (List ℕ) → Type 0
IsSpanOf p before out = (m : ℕ) (q : List ℕ) → slice_get out m ≡ Some q → IsPacketOf p (before ++ take m out) (table_at p.rounds m) q

-- an emission has none before it
pub from_start : (p : PlanValue) (out : List (List ℕ)) → IsEmission p out → IsSpanOf p [] out
from_start p out h = λ m q e.
    let within = slice_get_within out m q e in
    let size : length (take m out) ≡ m = length-take-le m out (omega arith) in
    subst (λ n. IsPacketOf p (take m out) (table_at p.rounds n) q) size (h m q e)

pub carried_behind : (p : PlanValue) (before out : List (List ℕ)) (m : ℕ) (q : List ℕ) (o : Option TablePlace) → IsSpanOf p before out → slice_get out m ≡ Some q
    → table_at p.rounds m ≡ o → IsPacketOf p (before ++ take m out) o q
carried_behind p before out m q o h e t = subst (λ place. IsPacketOf p (before ++ take m out) place q) t (h m q e)

pub carried : (p : PlanValue) (out : List (List ℕ)) (m : ℕ) (q : List ℕ) (o : Option TablePlace) → IsEmission p out → slice_get out m ≡ Some q → table_at p.rounds m ≡ o → IsPacketOf p (take m out) o q
carried p out m q o h e t = carried_behind p [] out m q o (from_start p out h) e t

-- a PID that no stream has, and no null packet
pub record IsNoOther (p : PlanValue) (pid : ℕ) : Type 0 where
  pub null : 0x1FFF ≡ pid → ⊥
  pub streams : (k : ℕ) (s : Stream) → k < length p.request.streams → (get_or p.request.streams k s).output_pid ≡ pid → ⊥

pub null_pid : pid_of null_packet ≡ 0x1FFF
unfolding null_packet
null_pid = pid_at null_packet

pub other_pid : (p : PlanValue) (pid : ℕ) (q : List ℕ) → IsNoOther p pid → IsNullOrMapped p.request.streams q → pid_of q ≡ pid → ⊥
other_pid p pid q n (inl z) e = n.null (sym null_pid ∙ sym (ap pid_of z) ∙ e)
other_pid p pid q n (inr a) e = n.streams a.0 a.1 a.2 (ap (λ (s : Stream). s.output_pid) a.3 ∙ sym a.4 ∙ e)

-- a packet of a list goes out on its PID
pub kept_pid : (p : PlanValue) (before : List (List ℕ)) (x q : List ℕ) → GoesOut x → q ≡ counted_behind before x → pid_of q ≡ pid_of x
kept_pid p before x q g c = ap pid_of c ∙ g.on_pid (length (of_pid (pid_of x) before) % 16) (omega arith)

at_place : (xs : List (List ℕ)) (t n j : ℕ) → n ≡ length xs → t % n ≡ j → j < n → slice_get xs (t % length xs) ≡ Some (get_or xs j null_packet)
at_place xs t n j e is l = ap (λ m. slice_get xs (t % m)) (sym e) ∙ ap (slice_get xs) is ∙ slice_get-get_or xs j null_packet (omega arith)

-- how many of a PID went out so far
count_behind : (pid : ℕ) (before out : List (List ℕ)) → length (of_pid pid (before ++ out)) ≡ length (of_pid pid before) + length (of_pid pid out)
count_behind pid before out = ap length (filter-append (λ r. pid_of r == pid) before out) ∙ length-append (of_pid pid before) (of_pid pid out)

takes : (p : PlanValue) (pid : ℕ) (xs before out : List (List ℕ)) (t u n j : ℕ) (q : List ℕ) → All GoesOut xs → n ≡ length xs → t % n ≡ j → j < n → u ≡ suc t
    → q ≡ counted_behind (before ++ out) (get_or xs j null_packet)
    → TakesTurn (λ r. pid_of r == pid) (numbered_from (length (of_pid pid before))) xs out t u q (get_or xs j null_packet)
takes p pid xs before out t u n j q g e is l next c =
    let x = get_or xs j null_packet in
    let goes : GoesOut x = g j null_packet (omega arith) in
    record {
      turn = at_place xs t n j e is l;
      same = ap (λ k. k == pid) (kept_pid p (before ++ out) x q goes c);
      is = λ y. c ∙ ap (λ k. with_counter x (length (of_pid k (before ++ out)) % 16)) (eqb-true (pid_of x) pid y) ∙ ap (numbered x) (count_behind pid before out);
      next = next;
    }

-- which of the fast packets goes out on a PID
pub fast_steps_behind : (p : PlanValue) (before out : List (List ℕ)) (pid : ℕ) → PlanFacts p → IsRounds p.rounds → IsSpanOf p before out → IsNoOther p pid
    → All (λ r. pid_of r ≡ pid → ⊥) (slow_packets p.tables) → Steps (λ r. pid_of r == pid) (numbered_from (length (of_pid pid before))) (fast_packets p.tables) out (turns fast_one p.rounds)
unfolding turns fast_one
fast_steps_behind p before out pid f ok h n absent = λ m q e. by_slot m q e (table_at p.rounds m) refl
  where
    by_slot : (m : ℕ) (q : List ℕ) → slice_get out m ≡ Some q → (o : Option TablePlace) → table_at p.rounds m ≡ o
        → ((x : List ℕ) × TakesTurn (λ r. pid_of r == pid) (numbered_from (length (of_pid pid before))) (fast_packets p.tables) (take m out) (turns fast_one p.rounds m) (turns fast_one p.rounds (suc m)) q x)
        ⊎ PassesBy (λ r. pid_of r == pid) (turns fast_one p.rounds m) (turns fast_one p.rounds (suc m)) q
    by_slot m q e None t =
        let c = carried_behind p before out m q None h e t in
        inr (record {
          not = ne_eqb (pid_of q) pid (other_pid p pid q n c.1);
          same = ap (λ o. turns fast_one p.rounds m + fast_one o) t ∙ omega arith;
        })
    by_slot m q e (Some (Fast j)) t =
        let c = carried_behind p before out m q (Some (Fast j)) h e t in
        let within = are_places p.rounds ok m (Fast j) t in
        inl (
          get_or (fast_packets p.tables) j null_packet,
          takes p pid (fast_packets p.tables) before (take m out) (turns fast_one p.rounds m) (turns fast_one p.rounds (suc m)) p.rounds.fast_len j q f.fast f.basics.fast_len (fast_in_turn p.rounds m j ok t) within
              (ap (λ o. turns fast_one p.rounds m + fast_one o) t ∙ omega arith) c,
        )
    by_slot m q e (Some (Slow j)) t =
        let c = carried_behind p before out m q (Some (Slow j)) h e t in
        let within = are_places p.rounds ok m (Slow j) t in
        let len = f.basics.slow_len in
        let x = get_or (slow_packets p.tables) j null_packet in
        inr (record {
          not = ne_eqb (pid_of q) pid (λ s. absent j null_packet (omega arith) (sym (kept_pid p (before ++ take m out) x q (f.slow j null_packet (omega arith)) c) ∙ s));
          same = ap (λ o. turns fast_one p.rounds m + fast_one o) t ∙ omega arith;
        })

-- and which of the slow ones
pub slow_steps_behind : (p : PlanValue) (before out : List (List ℕ)) (pid : ℕ) → PlanFacts p → IsRounds p.rounds → IsSpanOf p before out → IsNoOther p pid
    → All (λ r. pid_of r ≡ pid → ⊥) (fast_packets p.tables) → Steps (λ r. pid_of r == pid) (numbered_from (length (of_pid pid before))) (slow_packets p.tables) out (turns slow_one p.rounds)
unfolding turns slow_one
slow_steps_behind p before out pid f ok h n absent = λ m q e. by_slot m q e (table_at p.rounds m) refl
  where
    by_slot : (m : ℕ) (q : List ℕ) → slice_get out m ≡ Some q → (o : Option TablePlace) → table_at p.rounds m ≡ o
        → ((x : List ℕ) × TakesTurn (λ r. pid_of r == pid) (numbered_from (length (of_pid pid before))) (slow_packets p.tables) (take m out) (turns slow_one p.rounds m) (turns slow_one p.rounds (suc m)) q x)
        ⊎ PassesBy (λ r. pid_of r == pid) (turns slow_one p.rounds m) (turns slow_one p.rounds (suc m)) q
    by_slot m q e None t =
        let c = carried_behind p before out m q None h e t in
        inr (record {
          not = ne_eqb (pid_of q) pid (other_pid p pid q n c.1);
          same = ap (λ o. turns slow_one p.rounds m + slow_one o) t ∙ omega arith;
        })
    by_slot m q e (Some (Slow j)) t =
        let c = carried_behind p before out m q (Some (Slow j)) h e t in
        let within = are_places p.rounds ok m (Slow j) t in
        inl (
          get_or (slow_packets p.tables) j null_packet,
          takes p pid (slow_packets p.tables) before (take m out) (turns slow_one p.rounds m) (turns slow_one p.rounds (suc m)) p.rounds.slow_len j q f.slow f.basics.slow_len (slow_in_turn p.rounds m j ok t) within
              (ap (λ o. turns slow_one p.rounds m + slow_one o) t ∙ omega arith) c,
        )
    by_slot m q e (Some (Fast j)) t =
        let c = carried_behind p before out m q (Some (Fast j)) h e t in
        let within = are_places p.rounds ok m (Fast j) t in
        let len = f.basics.fast_len in
        let x = get_or (fast_packets p.tables) j null_packet in
        inr (record {
          not = ne_eqb (pid_of q) pid (λ s. absent j null_packet (omega arith) (sym (kept_pid p (before ++ take m out) x q (f.fast j null_packet (omega arith)) c) ∙ s));
          same = ap (λ o. turns slow_one p.rounds m + slow_one o) t ∙ omega arith;
        })

-- the same of an emission, which has none before it
at_start : (test : List ℕ → Bool) (xs out : List (List ℕ)) (turn : ℕ → ℕ) → Steps test (numbered_from 0) xs out turn → Steps test numbered xs out turn
at_start test xs out turn steps = λ m q e. elim (steps m q e) [
  | inl a ↦
      let x = a.0 in
      let number = length (filter test (take m out)) in
      inl (x, record { turn = a.1.turn; same = a.1.same; is = λ y. a.1.is y ∙ ap (numbered x) (zero-add number); next = a.1.next })
  | inr a ↦ inr a
]

pub fast_steps : (p : PlanValue) (out : List (List ℕ)) (pid : ℕ) → PlanFacts p → IsRounds p.rounds → IsEmission p out → IsNoOther p pid
    → All (λ r. pid_of r ≡ pid → ⊥) (slow_packets p.tables) → Steps (λ r. pid_of r == pid) numbered (fast_packets p.tables) out (turns fast_one p.rounds)
fast_steps p out pid f ok h n absent =
    at_start (λ r. pid_of r == pid) (fast_packets p.tables) out (turns fast_one p.rounds) (fast_steps_behind p [] out pid f ok (from_start p out h) n absent)
