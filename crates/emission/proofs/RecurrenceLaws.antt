-- Each table comes within its limit, in what a plan sends behind other packets too.
use Rattle.std.proofs.Common.{ℕ, zero, suc, ◌+◌, ◌%◌, ◌<◌, ◌≤◌, ◌≡◌, List, [], ◌∷◌, ◌++◌, length, map, take, get_or, Some, refl, ap, ◌∙◌, subst, arith}
use Rattle.std.specs.List.{slice_get, flat_map, range_with_len}
use Rattle.std.proofs.lemmas.Option.{slice_get_within, slice_get-get_or, get_or_from_slice_get}
use Rattle.tspkt.specs.Packet.{pid_of, null_packet}
use Rattle.tspkt.specs.Counted.{with_counter}
use Rattle.section.specs.Packetized.{packet_count_of}
use Rattle.rounds.specs.declared.table_place.TablePlace.{TablePlace}
use Rattle.rounds.specs.declared.table_place.TablePlace.TheVariants.{Fast, Slow}
use Rattle.rounds.specs.Rounds.{IsRounds, RecursWithin, fast_limit_of, sdt_limit_of, nit_limit_of}
use Rattle.rounds.proofs.RecurringLaws.{fast_recurs, slow_recurs, slow_recurs_late}
use Rattle.request.specs.Request.{IsRequest}
use Rattle.output_tables.specs.Output.{table_packet}
use Rattle.output_tables.specs.OnPid.{SectionOnPid, packets_on_pid}
use Rattle.output_tables.specs.TableSet.{fast_packets, slow_packets}
use Rattle.plan.specs.Build.{PlanValue, IsPlan}
use Rattle.emission.specs.Emission.{of_pid, table_packet_at, IsEmission}
use Rattle.emission.specs.Recurrence.{BeginsWithin, TablesRecur}
use Rattle.emission.proofs.PlanFacts.{PlanFacts, plan_facts, fast_sections, slow_sections}
use Rattle.emission.proofs.SlotLaws.{IsSpanOf, from_start, carried_behind}

-- ---- where a section's first packet stands

pub get_behind : {X : Type 0} (xs ys : List X) (k : ℕ) → slice_get (xs ++ ys) (length xs + k) ≡ slice_get ys k
get_behind [] ys k = ap (slice_get ys) (let e : 0 + k ≡ k = omega arith in e)
get_behind (x ∷ xs) ys k = ap (slice_get (x ∷ (xs ++ ys))) (let e : suc (length xs) + k ≡ suc (length xs + k) = omega arith in e) ∙ get_behind xs ys k

made_first : {X : Type 0} (f : ℕ → X) (n : ℕ) (rest : List X) → 1 ≤ n → slice_get (map f (range_with_len 0 n) ++ rest) 0 ≡ Some (f 0)
made_first f zero rest l = absurd (omega arith)
made_first f (suc n) rest l = refl

first_place : (ss : List SectionOnPid) (i : ℕ) (s : SectionOnPid) → slice_get ss i ≡ Some s → (place : ℕ) × (slice_get (flat_map packets_on_pid ss) place ≡ Some (table_packet s.pid s.bytes 0))
first_place [] i s e = cc
first_place (x ∷ ss) zero s e =
    let same : x ≡ s = cc in
    (0, made_first (table_packet x.pid x.bytes) (packet_count_of x.bytes) (flat_map packets_on_pid ss) (omega arith) ∙ ap (λ (u : SectionOnPid). Some (table_packet u.pid u.bytes 0)) same)
first_place (x ∷ ss) (suc i) s e =
    let there = first_place ss i s e in
    (length (packets_on_pid x) + there.0, get_behind (packets_on_pid x) (flat_map packets_on_pid ss) there.0 ∙ there.1)

-- ---- it comes again

recurs : (p : PlanValue) (before out : List (List ℕ)) (s : SectionOnPid) (window : ℕ) (place : TablePlace) → IsSpanOf p before out → RecursWithin p.rounds place window
    → table_packet_at p.tables place ≡ table_packet s.pid s.bytes 0 → BeginsWithin window s out
recurs p before out s window place h again is = λ first fits.
    let found = again first in
    let m = found.0 in
    let low = found.1 in
    let high = found.2 in
    let q = get_or out m null_packet in
    let here : slice_get out m ≡ Some q = slice_get-get_or out m null_packet (omega arith) in
    let c = carried_behind p before out m q (Some place) h here found.3 in
    let x = table_packet_at p.tables place in
    let count = length (of_pid (pid_of x) (before ++ take m out)) in
    let few : count % 16 < 16 = omega arith in
    (m, low, high, (q, here, (count % 16, few, c ∙ ap (λ r. with_counter r (count % 16)) is)))

fast_begins : (p : PlanValue) (before out : List (List ℕ)) (i : ℕ) (s : SectionOnPid) → PlanFacts p → IsRounds p.rounds → IsSpanOf p before out → slice_get (fast_sections p) i ≡ Some s → BeginsWithin (fast_limit_of p.request.rate) s out
fast_begins p before out i s f ok h e =
    let at = first_place (fast_sections p) i s e in
    let within = slice_get_within (fast_packets p.tables) at.0 (table_packet s.pid s.bytes 0) at.1 in
    let len = f.basics.fast_len in
    let again = fast_recurs p.rounds at.0 ok (omega arith) in
    recurs p before out s (fast_limit_of p.request.rate) (Fast at.0) h (subst (λ rate. RecursWithin p.rounds (Fast at.0) (fast_limit_of rate)) f.basics.rate again)
    (get_or_from_slice_get (fast_packets p.tables) at.0 (table_packet s.pid s.bytes 0) null_packet at.1)

slow_begins : (p : PlanValue) (before out : List (List ℕ)) (i : ℕ) (s : SectionOnPid) → PlanFacts p → IsRounds p.rounds → IsSpanOf p before out → slice_get (slow_sections p) i ≡ Some s
    → BeginsWithin (sdt_limit_of p.request.rate) s out × BeginsWithin (nit_limit_of p.request.rate) s out
slow_begins p before out i s f ok h e =
    let at = first_place (slow_sections p) i s e in
    let within = slice_get_within (slow_packets p.tables) at.0 (table_packet s.pid s.bytes 0) at.1 in
    let len = f.basics.slow_len in
    let soon = slow_recurs p.rounds at.0 ok (omega arith) in
    let late = slow_recurs_late p.rounds at.0 ok (omega arith) in
    let is = get_or_from_slice_get (slow_packets p.tables) at.0 (table_packet s.pid s.bytes 0) null_packet at.1 in (
      recurs p before out s (sdt_limit_of p.request.rate) (Slow at.0) h (subst (λ rate. RecursWithin p.rounds (Slow at.0) (sdt_limit_of rate)) f.basics.rate soon) is,
      recurs p before out s (nit_limit_of p.request.rate) (Slow at.0) h (subst (λ rate. RecursWithin p.rounds (Slow at.0) (nit_limit_of rate)) f.basics.rate late) is,
    )

-- one of some that others stand behind, and the last one
pub get_before : {X : Type 0} (xs ys : List X) (i : ℕ) (x : X) → slice_get xs i ≡ Some x → slice_get (xs ++ ys) i ≡ Some x
get_before [] ys i x e = cc
get_before (y ∷ xs) ys zero x e = e
get_before (y ∷ xs) ys (suc i) x e = get_before xs ys i x e

pub last_behind : {X : Type 0} (xs : List X) (y : X) → slice_get (xs ++ y ∷ []) (length xs) ≡ Some y
last_behind [] y = refl
last_behind (x ∷ xs) y = last_behind xs y

pub span_recurs : (p : PlanValue) (before out : List (List ℕ)) → IsRequest p.request → IsPlan p → IsRounds p.rounds → IsSpanOf p before out → TablesRecur p out
span_recurs p before out r is ok h =
    let f = plan_facts p r is in
    record {
      pat = fast_begins p before out 0 p.tables.pat f ok h refl;
      pmts = λ i d l. fast_begins p before out (suc i) (get_or p.tables.pmts i d) f ok h (slice_get-get_or p.tables.pmts i d l);
      sdt = λ i d l.
          let s = get_or p.tables.sdt i d in
          (slow_begins p before out i s f ok h (get_before p.tables.sdt (p.tables.nit ∷ []) i s (slice_get-get_or p.tables.sdt i d l))).0;
      nit = (slow_begins p before out (length p.tables.sdt) p.tables.nit f ok h (last_behind p.tables.sdt p.tables.nit)).1;
    }

pub recur : (p : PlanValue) (out : List (List ℕ)) → IsRequest p.request → IsPlan p → IsRounds p.rounds → IsEmission p out → TablesRecur p out
recur p out r is ok h = span_recurs p [] out r is ok (from_start p out h)
