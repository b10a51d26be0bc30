-- Of what a plan sends, also behind other packets, those on the PIDs of tables stand in the slots of tables, since no stream goes out
-- there.
use Rattle.std.proofs.Common.{ℕ, ◌+◌, ◌<◌, ◌≡◌, List, [], ◌∷◌, ◌++◌, true, false, Option, Some, None, length, take, map, get_or, eqb, arith, subst, sym, ap, refl, ◌∙◌, inl, inr}
use Rattle.std.specs.Prelude.{◌≢◌, All}
use Rattle.std.proofs.Math.Logic.{∥∥₁_elim}
use Rattle.std.specs.Coded.{Coded-set, coded_ℕ}
use Rattle.std.proofs.lemmas.Bool.{ne_eqb}
use Rattle.std.proofs.lemmas.List.{length-append, length-map, get_or_append_left, get_or-append-add, get_or-map}
use Rattle.std.proofs.lemmas.List.Folds.{list_any_none}
use Rattle.std.proofs.lemmas.List.Elements.{All-nil, All-cons}
use Rattle.tspkt.specs.Packet.{pid_of}
use Rattle.tspkt.proofs.RewrittenLaws.{pid_of-null_packet}
use Rattle.request.specs.declared.stream.Stream.{Stream}
use Rattle.request.specs.Request.{ServiceValue, RequestValue, IsRequest}
use Rattle.rounds.specs.declared.table_place.TablePlace.{TablePlace}
use Rattle.rounds.specs.Rounds.{RoundsValue, IsRounds, table_at}
use Rattle.buffers.specs.Level.{is_on_pids}
use Rattle.plan.specs.Build.{PlanValue, IsPlan}
use Rattle.emission.specs.Emission.{IsNullOrMapped, IsPacketOf, IsEmission}
use Rattle.emission.specs.TableBuffers.{BufferFits, table_leak, TableBuffersFit}
use Rattle.emission.proofs.SlotLaws.{IsSpanOf, from_start}
use Rattle.emission.proofs.TableLevelLaws.{AreInTableSlots, table_buffer_fits}

-- neither the null packets nor a stream are on this PID
pub record IsTablePid (streams : List Stream) (pid : ℕ) : Type 0 where
  pub not_null : pid ≢ 8191
  pub not_mapped : All (λ (st : Stream). pid ≢ st.output_pid) streams

-- a packet of none of these PIDs
not_on : (pids : List ℕ) (q : List ℕ) → All (λ pid. pid ≢ pid_of q) pids → is_on_pids pids q ≡ false
not_on pids q apart = list_any_none (λ pid. eqb pid (pid_of q)) pids (λ k d l. ne_eqb (get_or pids k d) (pid_of q) (apart k d l))

-- so the null packet and those of the streams are not on them
mapped_elsewhere : (streams : List Stream) (pids : List ℕ) (q : List ℕ) → All (IsTablePid streams) pids → IsNullOrMapped streams q
    → is_on_pids pids q ≡ false
mapped_elsewhere streams pids q tables m = elim m [
  | inl null ↦ not_on pids q (λ k d l e. (tables k d l).not_null (e ∙ ap pid_of null ∙ pid_of-null_packet))
  | inr found ↦
      let k = found.0 in
      let st = found.1 in
      let is : pid_of q ≡ (get_or streams k st).output_pid = found.4 ∙ ap (λ (s : Stream). s.output_pid) (sym found.3) in
      not_on pids q (λ j d l e. (tables j d l).not_mapped k st found.2 (e ∙ is))
]

-- a packet on them is none of a slot without a table
pub slot_of : (p : PlanValue) (out : List (List ℕ)) (pids : List ℕ) (q : List ℕ) (o : Option TablePlace) → All (IsTablePid p.request.streams) pids
    → IsPacketOf p out o q → is_on_pids pids q ≡ true → (place : TablePlace) × (o ≡ Some place)
slot_of p out pids q (Some place) tables is on = (place, refl)
slot_of p out pids q None tables is on = let off = mapped_elsewhere p.request.streams pids q tables is.1 in absurd (cc)

in_table_slots : (p : PlanValue) (before out : List (List ℕ)) (pids : List ℕ) → All (IsTablePid p.request.streams) pids → IsSpanOf p before out
    → AreInTableSlots p.rounds pids out
in_table_slots p before out pids tables emission m q at on =
    slot_of p (before ++ take m out) pids q (table_at p.rounds m) tables (emission m q at) on

-- a PID below those of plans
kept_pid : (r : RequestValue) (pid : ℕ) → IsRequest r → pid < 32 → IsTablePid r.streams pid
kept_pid r pid ok low = record {
  not_null = λ e. absurd (omega arith);
  not_mapped = λ k d l e. (let b = (ok.streams k d l).output_pid in absurd (omega arith));
}

-- the PID of a PMT
pmt_pid : (r : RequestValue) (k : ℕ) (d : ServiceValue) → IsRequest r → k < length r.services → IsTablePid r.streams (get_or r.services k d).pmt
pmt_pid r k d ok l = record { not_null = λ e. (let b = (ok.services k d l).pmt in absurd (omega arith)); not_mapped = not_mapped }
  where
    outputs : List ℕ
    outputs = map (λ (st : Stream). st.output_pid) r.streams

    pmts : List ℕ
    pmts = map (λ (s : ServiceValue). s.pmt) r.services

    not_mapped : All (λ (st : Stream). (get_or r.services k d).pmt ≢ st.output_pid) r.streams
    not_mapped j st within same =
        let first : length outputs ≡ length r.streams = length-map r.streams (λ (s : Stream). s.output_pid) in
        let second : length pmts ≡ length r.services = length-map r.services (λ (s : ServiceValue). s.pmt) in
        let whole = length-append outputs pmts in
        let at_stream : get_or (outputs ++ pmts) j 0 ≡ (get_or r.streams j st).output_pid =
        get_or_append_left outputs pmts 0 j (omega arith) ∙ get_or-map (λ (s : Stream). s.output_pid) r.streams j st 0 within in
        let at_pmt : get_or (outputs ++ pmts) (length outputs + k) 0 ≡ (get_or r.services k d).pmt =
        get_or-append-add outputs pmts k 0 ∙ get_or-map (λ (s : ServiceValue). s.pmt) r.services k d 0 l in
        ok.one_use_an_output_pid j (length outputs + k) 0 (omega arith) (omega arith) (at_stream ∙ sym same ∙ sym at_pmt)

-- the rounds of a plan are those of its rate
pub rate_of_rounds : (p : PlanValue) → IsPlan p → p.rounds.rate ≡ p.request.rate
rate_of_rounds p plan = ∥∥₁_elim plan (Coded-set coded_ℕ _ _) (λ made. ap (λ (r : RoundsValue). r.rate) made.1.rounds)

-- no transport buffer of a table is overrun
pub span_buffers_fit : (p : PlanValue) (before out : List (List ℕ)) → IsPlan p → IsRequest p.request → IsRounds p.rounds → IsSpanOf p before out → TableBuffersFit p out
span_buffers_fit p before out plan request rounds emission = record {
  services = λ k d l. (
      let pmt = (get_or p.request.services k d).pmt in
      fit (0 ∷ pmt ∷ []) (two 0 pmt (kept 0 (omega arith)) (pmt_pid p.request k d request l)));
  sdt = fit (17 ∷ []) (one 17 (kept 17 (omega arith)));
  nit = fit (16 ∷ []) (one 16 (kept 16 (omega arith)));
}
  where
    Is : ℕ → Type 0
    Is pid = IsTablePid p.request.streams pid

    kept : (pid : ℕ) → pid < 32 → Is pid
    kept pid low = kept_pid p.request pid request low

    one : (pid : ℕ) → Is pid → All Is (pid ∷ [])
    one pid is = All-cons Is pid [] is (All-nil Is)

    two : (a b : ℕ) → Is a → Is b → All Is (a ∷ b ∷ [])
    two a b x y = All-cons Is a (b ∷ []) x (one b y)

    fit : (pids : List ℕ) → All Is pids → BufferFits p.request.rate table_leak pids out
    fit pids tables =
        let same = rate_of_rounds p plan in
        let rate = request.rate in
        subst (λ (r : ℕ). BufferFits r table_leak pids out) same
        (table_buffer_fits p.rounds pids out rounds (omega arith) (omega arith) (in_table_slots p before out pids tables emission))

pub table_buffers_fit : (p : PlanValue) (out : List (List ℕ)) → IsPlan p → IsRequest p.request → IsRounds p.rounds → IsEmission p out → TableBuffersFit p out
table_buffers_fit p out plan request rounds emission = span_buffers_fit p [] out plan request rounds (from_start p out emission)
