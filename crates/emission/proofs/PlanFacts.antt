-- Plain facts of a plan: what is on which PID, and which packets its tables take.
use Rattle.std.proofs.Common.{ℕ, ◌+◌, ◌<◌, ◌≤◌, ◌≡◌, ◌⊎◌, inl, inr, List, [], ◌∷◌, ◌++◌, length, map, get_or, ap, ◌∙◌, sym, subst, arith, None, true}
use Rattle.std.specs.List.{All, AllPairs, flat_map}
use Rattle.std.proofs.lemmas.Bool.{cases_order}
use Rattle.std.proofs.lemmas.List.{length-append, length-map, get_or-map, get_or_append_left, get_or-append-add}
use Rattle.std.proofs.lemmas.List.Elements.{All-nil, All-cons, All-append, All-weaker}
use Rattle.tspkt.specs.Packet.{IsPacket, pid_of, fault_of, has_payload_of, continuity_counter_of}
use Rattle.request.specs.declared.stream.Stream.{Stream}
use Rattle.request.specs.Request.{ServiceValue, IsRequest, IsService, IsStream}
use Rattle.output_tables.specs.OnPid.{SectionOnPid, packets_on_pid}
use Rattle.output_tables.specs.TableSet.{fast_packets, slow_packets}
use Rattle.plan.specs.Build.{PlanValue, IsPlan}
use Rattle.emission.proofs.PlanBasics.{IsFitSection, PlanBasics, plan_basics, pid_of_section, pmt_of_service}
use Rattle.emission.proofs.SectionPacketLaws.{HasPid, GoesOut, all_go_out, all_made, all_flat, all_on_pid}
use Rattle.emission.proofs.SectionByteLaws.{AreBytes, all_bytes}
use Rattle.emission.proofs.TablePacketLaws.{uncounted_reads}
use Rattle.section.specs.Packetized.{packet_count_of}
use Rattle.output_tables.specs.Output.{table_packet}

abbrev pid_of_stream : Stream → ℕ
pid_of_stream s = s.output_pid

-- the sections of PAT and PMTs, and those of SDT and NIT, in the order of their packets
abbrev pub fast_sections : PlanValue → List SectionOnPid
fast_sections p = p.tables.pat ∷ p.tables.pmts

abbrev pub slow_sections : PlanValue → List SectionOnPid
slow_sections p = p.tables.sdt ++ p.tables.nit ∷ []

-- a packet with payload, and with the counter 0
pub record IsPlainPacket (q : List ℕ) : Type 0 where
  pub packet : IsPacket q
  pub loaded : has_payload_of q ≡ true
  pub counter : continuity_counter_of q ≡ 0

pub record PlanFacts (p : PlanValue) : Type 0 where
  pub basics : PlanBasics p
  -- the PMTs' PIDs
  pub pmts_range : All (λ (s : SectionOnPid). (0x0020 ≤ s.pid) × (s.pid ≤ 0x1FFE)) p.tables.pmts
  pub pmts_apart : (i j : ℕ) (d : SectionOnPid) → i < length p.tables.pmts → j < length p.tables.pmts → (i ≡ j → ⊥) → (get_or p.tables.pmts i d).pid ≡ (get_or p.tables.pmts j d).pid → ⊥
  -- the streams' PIDs
  pub streams_range : All (λ (s : Stream). (0x0020 ≤ s.output_pid) × (s.output_pid ≤ 0x1FFE)) p.request.streams
  pub streams_apart : (i j : ℕ) (s : Stream) (d : SectionOnPid) → i < length p.request.streams → j < length p.tables.pmts → (get_or p.request.streams i s).output_pid ≡ (get_or p.tables.pmts j d).pid → ⊥
  -- the sections and their packets
  pub fast_pids : All HasPid (fast_sections p)
  pub slow_pids : All HasPid (slow_sections p)
  pub fast_section_bytes : All (λ (s : SectionOnPid). AreBytes s.bytes) (fast_sections p)
  pub slow_section_bytes : All (λ (s : SectionOnPid). AreBytes s.bytes) (slow_sections p)
  pub fast_whole : All IsPlainPacket (fast_packets p.tables)
  pub slow_whole : All IsPlainPacket (slow_packets p.tables)
  pub fast : All GoesOut (fast_packets p.tables)
  pub slow : All GoesOut (slow_packets p.tables)
  pub fast_on : All (λ q. (pid_of q ≡ 0x0000) ⊎ (0x0020 ≤ pid_of q)) (fast_packets p.tables)
  pub slow_on : All (λ q. (0x0010 ≤ pid_of q) × (pid_of q ≤ 0x0011)) (slow_packets p.tables)

-- ---- numbers that differ

either_order : {X : Type 0} (R : X → X → Type 0) (xs : List X) → ((a b : X) → R a b → R b a) → AllPairs R xs → (i j : ℕ) (d : X) → i < length xs → j < length xs → (i ≡ j → ⊥) → R (get_or xs i d) (get_or xs j d)
either_order R xs turn h i j d li lj n = elim (cases_order i j) [
  | inl e ↦ absurd (n e)
  | inr o ↦ elim o [
    | inl l ↦ h i j d l lj
    | inr l ↦ turn (get_or xs j d) (get_or xs i d) (h j i d l li)
  ]
]

-- of the second list, and of the first and the second
second_apart : (xs ys : List ℕ) → AllPairs (λ a b. a ≡ b → ⊥) (xs ++ ys) → AllPairs (λ a b. a ≡ b → ⊥) ys
second_apart xs ys h = λ i j d l m e.
    let size = length-append xs ys in
    h (length xs + i) (length xs + j) d (omega arith) (omega arith)
    (get_or-append-add xs ys i d ∙ e ∙ sym (get_or-append-add xs ys j d))

both_apart : (xs ys : List ℕ) → AllPairs (λ a b. a ≡ b → ⊥) (xs ++ ys) → (i j : ℕ) → i < length xs → j < length ys → get_or xs i 0 ≡ get_or ys j 0 → ⊥
both_apart xs ys h i j l m e =
    let size = length-append xs ys in
    h i (length xs + j) 0 (omega arith) (omega arith)
    (get_or_append_left xs ys 0 i l ∙ e ∙ sym (get_or-append-add xs ys j 0))

range_of : (ss : List SectionOnPid) (services : List ServiceValue) → map pid_of_section ss ≡ map pmt_of_service services → All (λ (s : ServiceValue). (0x0020 ≤ s.pmt) × (s.pmt ≤ 0x1FFE)) services → All (λ (s : SectionOnPid). (0x0020 ≤ s.pid) × (s.pid ≤ 0x1FFE)) ss
range_of ss services e h = λ i d l.
    let same : length ss ≡ length services = sym (length-map ss pid_of_section) ∙ ap length e ∙ length-map services pmt_of_service in
    let n : ServiceValue = record { input = 0; program = 0; service = 0; pmt = 0; streams = [] } in
    let one = h i n (omega arith) in
    let is : (get_or ss i d).pid ≡ (get_or services i n).pmt =
    sym (get_or-map pid_of_section ss i d 0 l) ∙ ap (λ (ns : List ℕ). get_or ns i 0) e ∙ get_or-map pmt_of_service services i n 0 (omega arith) in
    (omega (arith, one, is), omega (arith, one, is))

-- ---- the facts

pub packets_have : (P : ℕ → Type 0) (ss : List SectionOnPid) → All HasPid ss → All (λ (s : SectionOnPid). P s.pid) ss → All (λ q. P (pid_of q)) (flat_map packets_on_pid ss)
packets_have P ss h a =
    all_flat (λ q. P (pid_of q)) packets_on_pid ss
    (λ i d l. All-weaker (λ q. pid_of q ≡ (get_or ss i d).pid) (λ q. P (pid_of q)) (λ q is. subst P (sym is) (a i d l)) (packets_on_pid (get_or ss i d)) (all_on_pid (get_or ss i d) (h i d l)))

fit_pids : (ss : List SectionOnPid) → All IsFitSection ss → All HasPid ss
fit_pids ss h = All-weaker IsFitSection HasPid (λ s f. f.on_pid) ss h

-- a packet without a fault, but for its bytes
record IsReady (q : List ℕ) : Type 0 where
  whole : length q ≡ 188
  accepted : fault_of q ≡ None
  loaded : has_payload_of q ≡ true
  counter : continuity_counter_of q ≡ 0

all_ready : (ss : List SectionOnPid) → All HasPid ss → All IsReady (flat_map packets_on_pid ss)
all_ready ss h =
    all_flat IsReady packets_on_pid ss
    (All-weaker HasPid (λ s. All IsReady (packets_on_pid s))
    (λ s fits. all_made IsReady (table_packet s.pid s.bytes) (packet_count_of s.bytes)
    (λ k l. let r = uncounted_reads s.pid s.bytes k fits l in record { whole = r.whole; accepted = r.accepted; loaded = r.loaded; counter = r.counter })) ss h)

all_plain : (ss : List SectionOnPid) → All HasPid ss → All AreBytes (flat_map packets_on_pid ss) → All IsPlainPacket (flat_map packets_on_pid ss)
all_plain ss h b = λ i d l.
    let r : IsReady (get_or (flat_map packets_on_pid ss) i d) = all_ready ss h i d l in
    record { packet = record { whole = r.whole; bytes = b i d l; accepted = r.accepted }; loaded = r.loaded; counter = r.counter }

pub plan_facts : (p : PlanValue) → IsRequest p.request → IsPlan p → PlanFacts p
plan_facts p ok is =
    let b = plan_basics p ok is in
    let r = p.request in
    let outs = map pid_of_stream r.streams in
    let pmts = map pmt_of_service r.services in
    let apart : AllPairs (λ a b. a ≡ b → ⊥) (outs ++ pmts) = ok.one_use_an_output_pid in
    let pids : map pid_of_section p.tables.pmts ≡ pmts = b.pmt_pids in
    let apart_pmts : AllPairs (λ a b. a ≡ b → ⊥) (map pid_of_section p.tables.pmts) = subst (AllPairs (λ a b. a ≡ b → ⊥)) (sym pids) (second_apart outs pmts apart) in
    let range : All (λ (s : SectionOnPid). (0x0020 ≤ s.pid) × (s.pid ≤ 0x1FFE)) p.tables.pmts =
    range_of p.tables.pmts r.services b.pmt_pids
    (All-weaker (IsService (length r.inputs) (length r.streams)) (λ (s : ServiceValue). (0x0020 ≤ s.pmt) × (s.pmt ≤ 0x1FFE)) (λ s h. h.pmt) r.services ok.services) in
    let fast_pids : All HasPid (fast_sections p) = All-cons HasPid p.tables.pat p.tables.pmts b.pat.on_pid (fit_pids p.tables.pmts b.pmts) in
    let slow_pids : All HasPid (slow_sections p) =
    All-append HasPid p.tables.sdt (p.tables.nit ∷ []) (fit_pids p.tables.sdt b.sdt) (All-cons HasPid p.tables.nit [] b.nit.on_pid (All-nil HasPid)) in
    let S : SectionOnPid → Type 0 = λ s. (0x0010 ≤ s.pid) × (s.pid ≤ 0x0011) in
    record {
      basics = b;
      pmts_range = range;
      pmts_apart = λ i j d l m n e.
          let pl : ℕ = length p.tables.pmts in
          let size = length-map p.tables.pmts pid_of_section in
          either_order (λ a b. a ≡ b → ⊥) (map pid_of_section p.tables.pmts) (λ x y f g. f (sym g)) apart_pmts i j 0 (omega arith) (omega arith) n
          (get_or-map pid_of_section p.tables.pmts i d 0 l ∙ e ∙ sym (get_or-map pid_of_section p.tables.pmts j d 0 m));
      streams_range = All-weaker (IsStream (length r.inputs)) (λ (s : Stream). (0x0020 ≤ s.output_pid) × (s.output_pid ≤ 0x1FFE)) (λ s h. h.output_pid) r.streams ok.streams;
      streams_apart = λ i j s d l m e.
          let here = length-map r.streams pid_of_stream in
          let there = ap length (sym pids) ∙ length-map p.tables.pmts pid_of_section in
          both_apart outs pmts apart i j (omega arith) (omega arith)
          (get_or-map pid_of_stream r.streams i s 0 l ∙ e ∙ sym (get_or-map pid_of_section p.tables.pmts j d 0 m) ∙ ap (λ (ns : List ℕ). get_or ns j 0) pids);
      fast_pids = fast_pids;
      slow_pids = slow_pids;
      fast_section_bytes = all_bytes (fast_sections p) b.fast_bytes;
      slow_section_bytes = all_bytes (slow_sections p) b.slow_bytes;
      fast_whole = all_plain (fast_sections p) fast_pids b.fast_bytes;
      slow_whole = all_plain (slow_sections p) slow_pids b.slow_bytes;
      fast = all_go_out (fast_sections p) fast_pids;
      slow = all_go_out (slow_sections p) slow_pids;
      fast_on = packets_have (λ n. (n ≡ 0x0000) ⊎ (0x0020 ≤ n)) (fast_sections p) fast_pids
          (All-cons (λ (s : SectionOnPid). (s.pid ≡ 0x0000) ⊎ (0x0020 ≤ s.pid)) p.tables.pat p.tables.pmts (inl b.pat_pid)
          (All-weaker (λ (s : SectionOnPid). (0x0020 ≤ s.pid) × (s.pid ≤ 0x1FFE)) (λ (s : SectionOnPid). (s.pid ≡ 0x0000) ⊎ (0x0020 ≤ s.pid)) (λ s h. inr h.0) p.tables.pmts range));
      slow_on = packets_have (λ n. (0x0010 ≤ n) × (n ≤ 0x0011)) (slow_sections p) slow_pids
          (All-append S p.tables.sdt (p.tables.nit ∷ [])
          (All-weaker (λ (s : SectionOnPid). s.pid ≡ 0x0011) S (λ s h. (omega arith, omega arith)) p.tables.sdt b.sdt_pids)
          (All-cons S p.tables.nit [] (omega (arith, b.nit_pid), omega (arith, b.nit_pid)) (All-nil S)));
    }
