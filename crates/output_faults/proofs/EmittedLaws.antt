-- What each packet of an emission is, and that the packets of PAT and PMTs repeat their sections.
use Rattle.std.proofs.Common.{◌≡◌, ℕ, zero, suc, ◌+◌, ◌-◌, ◌%◌, ◌<◌, ◌≤◌, ◌==◌, List, [], ◌∷◌, ◌++◌, length, map, take, get_or, refl, sym, ◌∙◌, ap, subst, arith, Option, Some, None, Bool, true, false, if◌then◌else◌}
use Rattle.std.specs.Prelude.{not, is_some}
use Rattle.std.specs.List.{All, slice_get, flat_map, range_with_len}
use Rattle.std.proofs.lemmas.Bool.{eq-eqb, eqb-true, ne_eqb}
use Rattle.std.proofs.lemmas.List.{length-take, append-nil, take-append-le}
use Rattle.std.proofs.lemmas.Nat.{mod_below}
use Rattle.std.proofs.Math.Seq.{take-append-add}
use Rattle.std.proofs.lemmas.List.FromFn.{length-map-range_with_len, get_or-map-range_with_len}
use Rattle.std.proofs.lemmas.List.Elements.{All-head, All-tail, All-take, All-weaker, filter-append}
use Rattle.std.proofs.lemmas.Option.{get_or_from_slice_get}
use Rattle.tspkt.specs.Bits.{field}
use Rattle.tspkt.specs.Packet.{fault_of, pid_of, null_packet, transport_scrambling_control_of, IsPacket}
use Rattle.tspkt.specs.Counted.{with_counter}
use Rattle.tspkt.proofs.PacketFields.{sync_at, scrambling_at}
use Rattle.section.specs.Packetized.{packet_count_of}
use Rattle.rounds.specs.declared.table_place.TablePlace.{TablePlace}
use Rattle.rounds.specs.declared.table_place.TablePlace.TheVariants.{Fast, Slow}
use Rattle.rounds.specs.Rounds.{IsRounds, table_at}
use Rattle.rounds.proofs.RecurringLaws.{are_places}
use Rattle.output_tables.specs.Output.{table_packet}
use Rattle.output_tables.specs.OnPid.{SectionOnPid, packets_on_pid}
use Rattle.output_tables.specs.TableSet.{fast_packets, slow_packets}
use Rattle.plan.specs.Build.{PlanValue}
use Rattle.emission.specs.Emission.{of_pid, counted_behind, IsPacketOf}
use Rattle.emission.proofs.TablePacketLaws.{counted_is, counted_packet, table_packet_reads}
use Rattle.emission.proofs.SectionPacketLaws.{HasPid, all_made, all_flat, all_on_pid}
use Rattle.emission.proofs.PlanFacts.{PlanFacts, fast_sections, slow_sections}
use Rattle.emission.proofs.RepeatLaws.{numbered_from}
use Rattle.emission.proofs.CycleLaws.{RepeatsBy}
use Rattle.emission.proofs.RecurrenceLaws.{get_behind}
use Rattle.analyse.specs.Slots.{is_packet, is_good}
use Rattle.output_faults.proofs.ReadingLaws.{IsPiece, AreRepeated}

-- ---- each packet

-- a packet that the layout allows, with the sync byte
pub record IsSound (q : List ℕ) : Type 0 where
  pub whole : is_packet q ≡ true
  pub good : is_good q ≡ true

-- with each counter it is sound, and not scrambled
pub record StaysSound (r : List ℕ) : Type 0 where
  pub sound : (counter : ℕ) → counter < 16 → IsSound (with_counter r counter)
  pub clear : (counter : ℕ) → counter < 16 → transport_scrambling_control_of (with_counter r counter) ≡ 0

is_accepted : (q : List ℕ) → fault_of q ≡ None → is_packet q ≡ true
is_accepted q e = ap (λ o. not (is_some o)) e

stays_sound : (s : SectionOnPid) → HasPid s → (k : ℕ) → k < packet_count_of s.bytes → StaysSound (table_packet s.pid s.bytes k)
stays_sound s h k l = record {
  sound = λ counter m.
      let reads = table_packet_reads s.pid s.bytes k counter h m l in
      let good : is_good (counted_packet s.pid s.bytes k counter) ≡ true = refl in
      record { whole = is_accepted (with_counter (table_packet s.pid s.bytes k) counter) reads.accepted; good = ap is_good (counted_is s.pid s.bytes k counter) ∙ good };
  clear = λ counter m.
      let q = counted_packet s.pid s.bytes k counter in
      ap transport_scrambling_control_of (counted_is s.pid s.bytes k counter) ∙ scrambling_at q ∙ omega arith;
}

pub all_stay_sound : (ss : List SectionOnPid) → All HasPid ss → All StaysSound (flat_map packets_on_pid ss)
all_stay_sound ss h =
    all_flat StaysSound packets_on_pid ss
    (All-weaker HasPid (λ s. All StaysSound (packets_on_pid s)) (λ s p. all_made StaysSound (table_packet s.pid s.bytes) (packet_count_of s.bytes) (stays_sound s p)) ss h)

first_test : {X : Type 0} (b : Bool) (e : X) (later : Option X) → (if not b then Some e else later) ≡ None → b ≡ true
first_test true e later h = refl
first_test false e later h = cc

packet_good : (q : List ℕ) → IsPacket q → is_good q ≡ true
unfolding fault_of
packet_good q p =
    let first = eqb-true (field q 0 8) 0x47 (first_test (field q 0 8 == 0x47) _ _ p.accepted) in
    let byte = p.bytes 0 in
    eq-eqb (get_or q 0 0) 0x47 (omega (arith, first, sync_at q, byte))

-- a packet that a plan sends is sound, whatever went out before it
pub placed_sound : (p : PlanValue) → PlanFacts p → IsRounds p.rounds → (before : List (List ℕ)) (n : ℕ) (q : List ℕ) (o : Option TablePlace) → table_at p.rounds n ≡ o → IsPacketOf p before o q → IsSound q
placed_sound p f ok before n q None t c = record { whole = is_accepted q c.0.accepted; good = packet_good q c.0 }
placed_sound p f ok before n q (Some (Fast j)) t c =
    let within = are_places p.rounds ok n (Fast j) t in
    let x = get_or (fast_packets p.tables) j null_packet in
    let stays = all_stay_sound (fast_sections p) f.fast_pids j null_packet (omega (arith, f.basics.fast_len)) in
    subst IsSound (sym c) (stays.sound (length (of_pid (pid_of x) before) % 16) (omega arith))
placed_sound p f ok before n q (Some (Slow j)) t c =
    let within = are_places p.rounds ok n (Slow j) t in
    let x = get_or (slow_packets p.tables) j null_packet in
    let stays = all_stay_sound (slow_sections p) f.slow_pids j null_packet (omega (arith, f.basics.slow_len)) in
    subst IsSound (sym c) (stays.sound (length (of_pid (pid_of x) before) % 16) (omega arith))

-- ---- the packets of a section on its PID

pub own_length : (s : SectionOnPid) → length (flat_map packets_on_pid (s ∷ [])) ≡ packet_count_of s.bytes
own_length s =
    ap length (append-nil (packets_on_pid s)) ∙ length-map-range_with_len (table_packet s.pid s.bytes) 0 (packet_count_of s.bytes)

own_at : (s : SectionOnPid) (k : ℕ) (r : List ℕ) → k < packet_count_of s.bytes → slice_get (flat_map packets_on_pid (s ∷ [])) k ≡ Some r → r ≡ table_packet s.pid s.bytes k
own_at s k r l e =
    let there : slice_get (packets_on_pid s) k ≡ Some r = sym (ap (λ qs. slice_get qs k) (append-nil (packets_on_pid s))) ∙ e in
    sym (get_or_from_slice_get (packets_on_pid s) k r null_packet there) ∙ get_or-map-range_with_len (table_packet s.pid s.bytes) 0 (packet_count_of s.bytes) k k null_packet l (omega arith)

below_count : (section : List ℕ) (k : ℕ) → k % packet_count_of section < packet_count_of section
below_count section k = let c = packet_count_of section in mod_below k c (omega arith)

-- what repeats the packets of a section repeats its pieces
pub pieces : (s : SectionOnPid) (earlier : ℕ) (sent : List (List ℕ)) → HasPid s → RepeatsBy (numbered_from earlier) (flat_map packets_on_pid (s ∷ [])) sent → AreRepeated s.bytes 0 earlier sent
pieces s earlier sent fits h = λ k q e.
    let c = packet_count_of s.bytes in
    let turn = h k q e in
    let l = below_count s.bytes k in
    let there : slice_get (flat_map packets_on_pid (s ∷ [])) (k % c) ≡ Some turn.0 = sym (ap (λ n. slice_get (flat_map packets_on_pid (s ∷ [])) (k % n)) (own_length s)) ∙ turn.1 in
    let counter = (earlier + k) % 16 in
    let is : q ≡ with_counter (table_packet s.pid s.bytes (k % c)) counter = turn.2 ∙ ap (λ r. with_counter r counter) (own_at s (k % c) turn.0 l there) in
    let reads = table_packet_reads s.pid s.bytes (k % c) counter fits (omega arith) l in
    let piece : IsPiece s.bytes (k % c) counter q =
    subst (IsPiece s.bytes (k % c) counter) (sym is) (record { loaded = reads.loaded; start = reads.start; counter = reads.counter; payload = reads.payload }) in
    let z : k ≡ 0 + k = omega arith in
    subst (λ (n : ℕ). IsPiece s.bytes (n % c) counter q) z piece

-- a packet that a plan sends of a table isn't scrambled
clear_place : (ss : List SectionOnPid) (before : List (List ℕ)) (q : List ℕ) (j : ℕ) → All HasPid ss → j < length (flat_map packets_on_pid ss) → q ≡ counted_behind before (get_or (flat_map packets_on_pid ss) j null_packet)
    → transport_scrambling_control_of q ≡ 0
clear_place ss before q j fits l is =
    let x = get_or (flat_map packets_on_pid ss) j null_packet in
    ap transport_scrambling_control_of is ∙ (all_stay_sound ss fits j null_packet l).clear (length (of_pid (pid_of x) before) % 16) (omega arith)

pub placed_clear : (p : PlanValue) → PlanFacts p → IsRounds p.rounds → (before : List (List ℕ)) (n : ℕ) (q : List ℕ) (place : TablePlace) → table_at p.rounds n ≡ Some place → IsPacketOf p before (Some place) q
    → transport_scrambling_control_of q ≡ 0
placed_clear p f ok before n q (Fast j) t c =
    let within = are_places p.rounds ok n (Fast j) t in
    clear_place (fast_sections p) before q j f.fast_pids (omega (arith, f.basics.fast_len, within)) c
placed_clear p f ok before n q (Slow j) t c =
    let within = are_places p.rounds ok n (Slow j) t in
    clear_place (slow_sections p) before q j f.slow_pids (omega (arith, f.basics.slow_len, within)) c

-- ---- where the last packet of a section stands in the list of the tables' packets

pub record LastPlace (ss : List SectionOnPid) (s : SectionOnPid) : Type 0 where
  pub place : ℕ
  pub at : slice_get (flat_map packets_on_pid ss) place ≡ Some (table_packet s.pid s.bytes (packet_count_of s.bytes - 1))
  pub before : length (of_pid s.pid (take place (flat_map packets_on_pid ss))) + 1 ≡ packet_count_of s.bytes

all_length : (pid : ℕ) (qs : List (List ℕ)) → All (λ q. pid_of q ≡ pid) qs → length (of_pid pid qs) ≡ length qs
all_length pid [] h = refl
all_length pid (q ∷ qs) h =
    let P : List ℕ → Type 0 = λ q. pid_of q ≡ pid in
    let e : (pid_of q == pid) ≡ true = eq-eqb _ _ (All-head P q qs h) in
    rw e (ap suc (all_length pid qs (All-tail P q qs h)))

none_on : (pid n : ℕ) (qs : List (List ℕ)) → (n ≡ pid → ⊥) → All (λ q. pid_of q ≡ n) qs → of_pid pid qs ≡ []
none_on pid n [] apart h = refl
none_on pid n (q ∷ qs) apart h =
    let P : List ℕ → Type 0 = λ q. pid_of q ≡ n in
    let e : (pid_of q == pid) ≡ false = ne_eqb _ _ (λ same. apart (sym (All-head P q qs h) ∙ same)) in
    rw e (none_on pid n qs apart (All-tail P q qs h))

made_at : {X : Type 0} (f : ℕ → X) (a n k : ℕ) (rest : List X) → k < n → slice_get (map f (range_with_len a n) ++ rest) k ≡ Some (f (a + k))
made_at f a zero k rest l = absurd (omega arith)
made_at f a (suc n) zero rest l = ap (λ j. Some (f j)) (let e : a ≡ a + 0 = omega arith in e)
made_at f a (suc n) (suc k) rest l = made_at f (a + 1) n k rest (omega arith) ∙ ap (λ j. Some (f j)) (let e : a + 1 + k ≡ a + suc k = omega arith in e)

here_last : (s : SectionOnPid) (ss : List SectionOnPid) → HasPid s → LastPlace (s ∷ ss) s
here_last s ss fits =
    let c = packet_count_of s.bytes in
    let some : 1 ≤ c = omega arith in
    let qs = packets_on_pid s in
    let size : length qs ≡ c = length-map-range_with_len (table_packet s.pid s.bytes) 0 c in
    let front : take (c - 1) (qs ++ flat_map packets_on_pid ss) ≡ take (c - 1) qs = take-append-le (c - 1) qs (flat_map packets_on_pid ss) (omega arith) in
    let all : length (of_pid s.pid (take (c - 1) qs)) ≡ length (take (c - 1) qs) = all_length s.pid (take (c - 1) qs) (All-take (λ q. pid_of q ≡ s.pid) (c - 1) qs (all_on_pid s fits)) in
    let many = length-take (c - 1) qs in
    let counted : length (of_pid s.pid (take (c - 1) (qs ++ flat_map packets_on_pid ss))) ≡ length (take (c - 1) qs) = ap (λ l. length (of_pid s.pid l)) front ∙ all in
    record {
      place = c - 1;
      at = made_at (table_packet s.pid s.bytes) 0 c (c - 1) (flat_map packets_on_pid ss) (omega arith) ∙ ap (λ k. Some (table_packet s.pid s.bytes k)) (let e : 0 + (c - 1) ≡ c - 1 = omega arith in e);
      before = omega arith;
    }

pub last_place : (ss : List SectionOnPid) (i : ℕ) (s : SectionOnPid) → All HasPid ss → slice_get ss i ≡ Some s
    → ((j : ℕ) (d : SectionOnPid) → j < length ss → (j ≡ i → ⊥) → (get_or ss j d).pid ≡ s.pid → ⊥) → LastPlace ss s
last_place [] i s h e apart = cc
last_place (x ∷ ss) zero s h e apart =
    let same : x ≡ s = cc in
    subst (λ (y : SectionOnPid). LastPlace (y ∷ ss) s) (sym same) (here_last s ss (subst HasPid same (All-head HasPid x ss h)))
last_place (x ∷ ss) (suc i) s h e apart =
    let later = last_place ss i s (All-tail HasPid x ss h) e (λ j d l n. apart (suc j) d (omega arith) (λ z. n (omega arith))) in
    let qs = packets_on_pid x in
    let rest = flat_map packets_on_pid ss in
    let none : of_pid s.pid qs ≡ [] = none_on s.pid x.pid qs (apart 0 x (omega arith) (λ z. absurd (omega arith))) (all_on_pid x (All-head HasPid x ss h)) in
    let counted : of_pid s.pid (take (length qs + later.place) (qs ++ rest)) ≡ of_pid s.pid (take later.place rest) =
    ap (of_pid s.pid) (take-append-add qs rest later.place)
    ∙ filter-append (λ q. pid_of q == s.pid) qs (take later.place rest)
    ∙ ap (λ l. l ++ of_pid s.pid (take later.place rest)) none in
    record {
      place = length qs + later.place;
      at = get_behind qs rest later.place ∙ later.at;
      before = ap (λ l. length l + 1) counted ∙ later.before;
    }
