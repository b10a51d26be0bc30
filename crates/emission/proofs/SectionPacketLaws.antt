-- The packets of sections, one behind the other, and those of them on a PID.
use Rattle.std.proofs.Common.{ℕ, zero, suc, ◌+◌, ◌*◌, ◌^◌, ◌<◌, ◌≡◌, ◌==◌, Bool, true, false, cond, List, [], ◌∷◌, ◌++◌, length, map, take, drop, get_or, Some, refl, ap, ◌∙◌, sym, subst, arith}
use Rattle.std.specs.List.{All, slice_get, filter, flat_map, range_with_len}
use Rattle.std.proofs.lemmas.Bool.{eq-eqb, ne_eqb}
use Rattle.std.proofs.lemmas.List.{map-append}
use Rattle.std.proofs.lemmas.List.FromFn.{length-map-range_with_len, get_or-map-range_with_len}
use Rattle.std.proofs.lemmas.List.Elements.{All-nil, All-head, All-tail, All-append, All-weaker, filter-append}
use Rattle.tspkt.specs.Packet.{pid_of, has_payload_of, payload_of, payload_unit_start_indicator_of, continuity_counter_of}
use Rattle.tspkt.specs.Counted.{with_counter}
use Rattle.section.specs.Packetized.{packet_count_of, stuffed}
use Rattle.output_tables.specs.Output.{table_packet}
use Rattle.output_tables.specs.OnPid.{SectionOnPid, packets_on_pid}
use Rattle.emission.specs.Emission.{of_pid}
use Rattle.emission.specs.Agreement.{payloads_of, starts_of}
use Rattle.emission.proofs.TablePacketLaws.{table_packet_reads, uncounted_reads}

-- ---- lists

pub all_made : {X : Type 0} (P : X → Type 0) (f : ℕ → X) (n : ℕ) → ((k : ℕ) → k < n → P (f k)) → All P (map f (range_with_len 0 n))
all_made P f n h = λ i d l.
    let within : i < n = omega (arith, length-map-range_with_len f 0 n) in
    subst P (sym (get_or-map-range_with_len f 0 n i i d within (omega arith))) (h i within)

pub all_flat : {X Y : Type 0} (P : Y → Type 0) (f : X → List Y) (xs : List X) → All (λ x. All P (f x)) xs → All P (flat_map f xs)
all_flat P f [] h = All-nil P
all_flat P f (x ∷ xs) h =
    All-append P (f x) (flat_map f xs) (All-head (λ y. All P (f y)) x xs h) (all_flat P f xs (All-tail (λ y. All P (f y)) x xs h))

filter_all : {X : Type 0} (p : X → Bool) (xs : List X) → All (λ x. p x ≡ true) xs → filter p xs ≡ xs
filter_all p [] h = refl
filter_all p (x ∷ xs) h =
    ap (λ b. cond b (x ∷ filter p xs) (filter p xs)) (All-head (λ y. p y ≡ true) x xs h)
    ∙ ap (λ ys. x ∷ ys) (filter_all p xs (All-tail (λ y. p y ≡ true) x xs h))

filter_none : {X : Type 0} (p : X → Bool) (xs : List X) → All (λ x. p x ≡ false) xs → filter p xs ≡ []
filter_none p [] h = refl
filter_none p (x ∷ xs) h =
    ap (λ b. cond b (x ∷ filter p xs) (filter p xs)) (All-head (λ y. p y ≡ false) x xs h)
    ∙ filter_none p xs (All-tail (λ y. p y ≡ false) x xs h)

map_made : {X Y : Type 0} (h : X → Y) (f : ℕ → X) (g : ℕ → Y) (a n : ℕ) → ((k : ℕ) → k < a + n → h (f k) ≡ g k) → map h (map f (range_with_len a n)) ≡ map g (range_with_len a n)
map_made h f g a zero e = refl
map_made h f g a (suc n) e =
    ap (λ y. y ∷ map h (map f (range_with_len (a + 1) n))) (e a (omega arith))
    ∙ ap (λ ys. g a ∷ ys) (map_made h f g (a + 1) n (λ k l. e k (omega arith)))

map_flat : {X Y Z : Type 0} (h : Y → Z) (f : X → List Y) (g : X → List Z) (P : X → Type 0) (xs : List X) → ((x : X) → P x → map h (f x) ≡ g x) → All P xs → map h (flat_map f xs) ≡ flat_map g xs
map_flat h f g P [] e a = refl
map_flat h f g P (x ∷ xs) e a =
    map-append h (f x) (flat_map f xs)
    ∙ ap (λ ys. ys ++ map h (flat_map f xs)) (e x (All-head P x xs a))
    ∙ ap (λ ys. g x ++ ys) (map_flat h f g P xs e (All-tail P x xs a))

-- ---- packets

-- its PID has 13 bits
abbrev pub HasPid : SectionOnPid → Type 0
HasPid s = s.pid < 2 ^ 13

-- a packet as it goes out, with whatever counter
pub record GoesOut (r : List ℕ) : Type 0 where
  pub on_pid : (counter : ℕ) → counter < 16 → pid_of (with_counter r counter) ≡ pid_of r
  pub loaded : (counter : ℕ) → counter < 16 → has_payload_of (with_counter r counter) ≡ true
  pub counted : (counter : ℕ) → counter < 16 → continuity_counter_of (with_counter r counter) ≡ counter
  pub start : (counter : ℕ) → counter < 16 → payload_unit_start_indicator_of (with_counter r counter) ≡ payload_unit_start_indicator_of r
  pub payload : (counter : ℕ) → counter < 16 → payload_of (with_counter r counter) ≡ payload_of r

goes_out : (s : SectionOnPid) → HasPid s → (k : ℕ) → k < packet_count_of s.bytes → GoesOut (table_packet s.pid s.bytes k)
goes_out s h k l =
    let before = uncounted_reads s.pid s.bytes k h l in
    let reads = λ (counter : ℕ) (m : counter < 16). table_packet_reads s.pid s.bytes k counter h m l in
    record {
      on_pid = λ counter m. (reads counter m).on_pid ∙ sym before.on_pid;
      loaded = λ counter m. (reads counter m).loaded;
      counted = λ counter m. (reads counter m).counter;
      start = λ counter m. (reads counter m).start ∙ sym before.start;
      payload = λ counter m. (reads counter m).payload ∙ sym before.payload;
    }

pub all_go_out : (ss : List SectionOnPid) → All HasPid ss → All GoesOut (flat_map packets_on_pid ss)
all_go_out ss h =
    all_flat GoesOut packets_on_pid ss
    (All-weaker HasPid (λ s. All GoesOut (packets_on_pid s)) (λ s p. all_made GoesOut (table_packet s.pid s.bytes) (packet_count_of s.bytes) (goes_out s p)) ss h)

pub all_on_pid : (s : SectionOnPid) → HasPid s → All (λ q. pid_of q ≡ s.pid) (packets_on_pid s)
all_on_pid s h = all_made (λ q. pid_of q ≡ s.pid) (table_packet s.pid s.bytes) (packet_count_of s.bytes) (λ k l. (uncounted_reads s.pid s.bytes k h l).on_pid)

own : (s : SectionOnPid) (pid : ℕ) → HasPid s → s.pid ≡ pid → of_pid pid (packets_on_pid s) ≡ packets_on_pid s
own s pid h e =
    filter_all (λ q. pid_of q == pid) (packets_on_pid s)
    (All-weaker (λ q. pid_of q ≡ s.pid) (λ q. (pid_of q == pid) ≡ true) (λ q is. eq-eqb (pid_of q) pid (is ∙ e)) (packets_on_pid s) (all_on_pid s h))

other : (s : SectionOnPid) (pid : ℕ) → HasPid s → (s.pid ≡ pid → ⊥) → of_pid pid (packets_on_pid s) ≡ []
other s pid h e =
    filter_none (λ q. pid_of q == pid) (packets_on_pid s)
    (All-weaker (λ q. pid_of q ≡ s.pid) (λ q. (pid_of q == pid) ≡ false) (λ q is. ne_eqb (pid_of q) pid (λ same. e (sym is ∙ same))) (packets_on_pid s) (all_on_pid s h))

-- sections on the PID, and sections on others
pub of_pid_all : (pid : ℕ) (ss : List SectionOnPid) → All HasPid ss → All (λ (s : SectionOnPid). s.pid ≡ pid) ss → of_pid pid (flat_map packets_on_pid ss) ≡ flat_map packets_on_pid ss
of_pid_all pid [] h e = refl
of_pid_all pid (s ∷ ss) h e =
    let P : SectionOnPid → Type 0 = λ s. s.pid ≡ pid in
    filter-append (λ q. pid_of q == pid) (packets_on_pid s) (flat_map packets_on_pid ss)
    ∙ ap (λ qs. qs ++ of_pid pid (flat_map packets_on_pid ss)) (own s pid (All-head HasPid s ss h) (All-head P s ss e))
    ∙ ap (λ qs. packets_on_pid s ++ qs) (of_pid_all pid ss (All-tail HasPid s ss h) (All-tail P s ss e))

pub of_pid_none : (pid : ℕ) (ss : List SectionOnPid) → All HasPid ss → All (λ (s : SectionOnPid). s.pid ≡ pid → ⊥) ss → of_pid pid (flat_map packets_on_pid ss) ≡ []
of_pid_none pid [] h e = refl
of_pid_none pid (s ∷ ss) h e =
    let P : SectionOnPid → Type 0 = λ s. s.pid ≡ pid → ⊥ in
    filter-append (λ q. pid_of q == pid) (packets_on_pid s) (flat_map packets_on_pid ss)
    ∙ ap (λ qs. qs ++ of_pid pid (flat_map packets_on_pid ss)) (other s pid (All-head HasPid s ss h) (All-head P s ss e))
    ∙ of_pid_none pid ss (All-tail HasPid s ss h) (All-tail P s ss e)

-- a section whose PID no other has
pub of_pid_one : (ss : List SectionOnPid) (i : ℕ) (s : SectionOnPid) → All HasPid ss → slice_get ss i ≡ Some s
    → ((j : ℕ) (d : SectionOnPid) → j < length ss → (j ≡ i → ⊥) → (get_or ss j d).pid ≡ s.pid → ⊥) → of_pid s.pid (flat_map packets_on_pid ss) ≡ flat_map packets_on_pid (s ∷ [])
of_pid_one [] i s h e apart = cc
of_pid_one (x ∷ ss) zero s h e apart =
    let same : x ≡ s = cc in
    let others : All (λ (u : SectionOnPid). u.pid ≡ s.pid → ⊥) ss = λ j d l. apart (suc j) d (omega arith) (λ z. absurd (omega arith)) in
    filter-append (λ q. pid_of q == s.pid) (packets_on_pid x) (flat_map packets_on_pid ss)
    ∙ ap (λ qs. qs ++ of_pid s.pid (flat_map packets_on_pid ss)) (own x s.pid (All-head HasPid x ss h) (ap (λ (u : SectionOnPid). u.pid) same))
    ∙ ap (λ qs. packets_on_pid x ++ qs) (of_pid_none s.pid ss (All-tail HasPid x ss h) others)
    ∙ ap (λ u. flat_map packets_on_pid (u ∷ [])) same
of_pid_one (x ∷ ss) (suc i) s h e apart =
    filter-append (λ q. pid_of q == s.pid) (packets_on_pid x) (flat_map packets_on_pid ss)
    ∙ ap (λ qs. qs ++ of_pid s.pid (flat_map packets_on_pid ss)) (other x s.pid (All-head HasPid x ss h) (apart 0 x (omega arith) (λ z. absurd (omega arith))))
    ∙ of_pid_one ss i s (All-tail HasPid x ss h) e (λ j d l n. apart (suc j) d (omega arith) (λ z. n (omega arith)))

-- ---- what an assembler reads of them

pub payloads_are : (ss : List SectionOnPid) → All HasPid ss → map payload_of (flat_map packets_on_pid ss) ≡ flat_map payloads_of ss
payloads_are ss h =
    map_flat payload_of packets_on_pid payloads_of HasPid ss
    (λ s p. map_made payload_of (table_packet s.pid s.bytes) (λ k. take 184 (drop (184 * k) (stuffed s.bytes))) 0 (packet_count_of s.bytes) (λ k l. (uncounted_reads s.pid s.bytes k p (omega arith)).payload)) h

pub starts_are : (ss : List SectionOnPid) → All HasPid ss → map payload_unit_start_indicator_of (flat_map packets_on_pid ss) ≡ flat_map starts_of ss
starts_are ss h =
    map_flat payload_unit_start_indicator_of packets_on_pid starts_of HasPid ss
    (λ s p. map_made payload_unit_start_indicator_of (table_packet s.pid s.bytes) (λ k. k == 0) 0 (packet_count_of s.bytes) (λ k l. (uncounted_reads s.pid s.bytes k p (omega arith)).start)) h
