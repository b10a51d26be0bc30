-- The packets on each table's PID repeat the plan's sections, behind packets that went out before.
use Rattle.std.proofs.Common.{ℕ, zero, suc, ◌<◌, ◌≤◌, ◌≡◌, ◌==◌, ◌⊎◌, inl, inr, List, [], ◌∷◌, ◌++◌, length, get_or, refl, ap, ◌∙◌, sym, subst, arith}
use Rattle.std.specs.List.{All, flat_map}
use Rattle.std.proofs.lemmas.List.{append-nil, get_or_default}
use Rattle.std.proofs.lemmas.List.Elements.{All-nil, All-cons, All-weaker, filter-append}
use Rattle.std.proofs.lemmas.Option.{slice_get-get_or}
use Rattle.std.proofs.lemmas.Grind.{flat_map-append}
use Rattle.tspkt.specs.Packet.{pid_of}
use Rattle.rounds.specs.Rounds.{IsRounds}
use Rattle.request.specs.Request.{IsRequest}
use Rattle.output_tables.specs.OnPid.{SectionOnPid, packets_on_pid}
use Rattle.output_tables.specs.TableSet.{fast_packets, slow_packets}
use Rattle.plan.specs.Build.{PlanValue, IsPlan}
use Rattle.emission.specs.Emission.{of_pid, IsEmission}
use Rattle.emission.specs.Agreement.{TablesAgree}
use Rattle.emission.specs.Spans.{SpanAgrees}
use Rattle.emission.proofs.WalkLaws.{turns, fast_one, slow_one}
use Rattle.emission.proofs.CycleLaws.{RepeatsBy, repeats}
use Rattle.emission.proofs.SectionPacketLaws.{HasPid, of_pid_all, of_pid_none, of_pid_one}
use Rattle.emission.proofs.RepeatLaws.{numbered_from, RepeatFrom, repeat_from, repeat_behind, repeat_sections}
use Rattle.emission.proofs.PlanFacts.{PlanFacts, plan_facts, fast_sections}
use Rattle.emission.proofs.SlotLaws.{IsSpanOf, from_start, IsNoOther, fast_steps_behind, slow_steps_behind}

starts_none : (p : PlanValue) → (turns fast_one p.rounds 0 ≡ 0) × (turns slow_one p.rounds 0 ≡ 0)
unfolding turns
starts_none p = (refl, refl)

-- the sections on a PID, behind these packets, with their counters
abbrev RepeatOn : ℕ → List SectionOnPid → List (List ℕ) → List (List ℕ) → Type 0
RepeatOn pid sections before out = RepeatFrom sections (length (of_pid pid before)) (of_pid pid out)

fast_repeats : (p : PlanValue) (before out : List (List ℕ)) (s : SectionOnPid) → PlanFacts p → IsRounds p.rounds → IsSpanOf p before out → IsNoOther p s.pid → HasPid s
    → (s.pid ≡ 0x0000) ⊎ (0x0020 ≤ s.pid) → of_pid s.pid (fast_packets p.tables) ≡ flat_map packets_on_pid (s ∷ []) → RepeatOn s.pid (s ∷ []) before out
fast_repeats p before out s f ok h n fits range own =
    let absent : All (λ r. pid_of r ≡ s.pid → ⊥) (slow_packets p.tables) =
    All-weaker (λ r. (0x0010 ≤ pid_of r) × (pid_of r ≤ 0x0011)) (λ r. pid_of r ≡ s.pid → ⊥)
    (λ r b e. elim range [ inl z ↦ omega (arith, b.0, b.1, e, z) | inr z ↦ omega (arith, b.0, b.1, e, z) ]) (slow_packets p.tables) f.slow_on in
    let some = ok.fast in
    let len = f.basics.fast_len in
    let earlier = length (of_pid s.pid before) in
    let all = repeats (λ r. pid_of r == s.pid) (numbered_from earlier) (fast_packets p.tables) out (turns fast_one p.rounds) (omega arith) (starts_none p).0 (fast_steps_behind p before out s.pid f ok h n absent) in
    repeat_from (s ∷ []) earlier (of_pid s.pid out) (All-cons HasPid s [] fits (All-nil HasPid)) (subst (λ cycle. RepeatsBy (numbered_from earlier) cycle (of_pid s.pid out)) own all)

slow_repeats : (p : PlanValue) (before out : List (List ℕ)) (pid : ℕ) (ss : List SectionOnPid) → PlanFacts p → IsRounds p.rounds → IsSpanOf p before out → 0x0010 ≤ pid → pid ≤ 0x0011
    → All HasPid ss → of_pid pid (slow_packets p.tables) ≡ flat_map packets_on_pid ss → RepeatOn pid ss before out
slow_repeats p before out pid ss f ok h low high fits own =
    let n : IsNoOther p pid = record { null = λ e. omega arith; streams = λ k s l e. let b = f.streams_range k s l in omega (arith, b.0, e) } in
    let absent : All (λ r. pid_of r ≡ pid → ⊥) (fast_packets p.tables) =
    All-weaker (λ r. (pid_of r ≡ 0x0000) ⊎ (0x0020 ≤ pid_of r)) (λ r. pid_of r ≡ pid → ⊥)
    (λ r b e. elim b [ inl z ↦ omega (arith, e, z) | inr z ↦ omega (arith, e, z) ]) (fast_packets p.tables) f.fast_on in
    let some = ok.slow in
    let len = f.basics.slow_len in
    let earlier = length (of_pid pid before) in
    let all = repeats (λ r. pid_of r == pid) (numbered_from earlier) (slow_packets p.tables) out (turns slow_one p.rounds) (omega arith) (starts_none p).1 (slow_steps_behind p before out pid f ok h n absent) in
    repeat_from ss earlier (of_pid pid out) fits (subst (λ cycle. RepeatsBy (numbered_from earlier) cycle (of_pid pid out)) own all)

-- ---- the tables

pat_repeats : (p : PlanValue) (before out : List (List ℕ)) → PlanFacts p → IsRounds p.rounds → IsSpanOf p before out → RepeatOn 0x0000 (p.tables.pat ∷ []) before out
pat_repeats p before out f ok h =
    let s = p.tables.pat in
    let z = f.basics.pat_pid in
    let n : IsNoOther p s.pid = record { null = λ e. omega arith; streams = λ k t l e. let b = f.streams_range k t l in omega (arith, b.0, e) } in
    let own = of_pid_one (fast_sections p) 0 s f.fast_pids refl (apart z) in
    subst (λ pid. RepeatOn pid (s ∷ []) before out) z (fast_repeats p before out s f ok h n f.basics.pat.on_pid (inl z) own)
  where
    apart : p.tables.pat.pid ≡ 0 → (j : ℕ) (d : SectionOnPid) → j < length (fast_sections p) → (j ≡ 0 → ⊥) → (get_or (fast_sections p) j d).pid ≡ p.tables.pat.pid → ⊥
    apart z zero d l n e = n refl
    apart z (suc j) d l n e = let b = f.pmts_range j d (omega arith) in omega (arith, b.0, e, z)

pmt_repeats : (p : PlanValue) (before out : List (List ℕ)) → PlanFacts p → IsRounds p.rounds → IsSpanOf p before out → (i : ℕ) (d : SectionOnPid) → i < length p.tables.pmts
    → RepeatOn (get_or p.tables.pmts i d).pid (get_or p.tables.pmts i d ∷ []) before out
pmt_repeats p before out f ok h i d l =
    let s = get_or p.tables.pmts i d in
    let b = f.pmts_range i d l in
    let n : IsNoOther p s.pid = record { null = λ e. omega (arith, b.1, e); streams = λ k t m e. f.streams_apart k i t d m l e } in
    let own = of_pid_one (fast_sections p) (suc i) s f.fast_pids (slice_get-get_or p.tables.pmts i d l) (apart b.0) in
    fast_repeats p before out s f ok h n (omega (arith, b.1)) (inr b.0) own
  where
    apart : 0x0020 ≤ (get_or p.tables.pmts i d).pid → (j : ℕ) (c : SectionOnPid) → j < length (fast_sections p) → (j ≡ suc i → ⊥) → (get_or (fast_sections p) j c).pid ≡ (get_or p.tables.pmts i d).pid → ⊥
    apart b zero c m n e = let z = f.basics.pat_pid in omega (arith, b, e, z)
    apart b (suc j) c m n e = f.pmts_apart j i d (omega arith) l (λ g. n (ap suc g)) (ap (λ (u : SectionOnPid). u.pid) (same_at j c (omega arith)) ∙ e)
      where
        same_at : (j : ℕ) (c : SectionOnPid) → j < length p.tables.pmts → get_or p.tables.pmts j d ≡ get_or p.tables.pmts j c
        same_at j c m = sym (get_or_default p.tables.pmts j c d m)

sdt_repeats : (p : PlanValue) (before out : List (List ℕ)) → PlanFacts p → IsRounds p.rounds → IsSpanOf p before out → RepeatOn 0x0011 p.tables.sdt before out
sdt_repeats p before out f ok h =
    let sdt = p.tables.sdt in
    let nit = p.tables.nit ∷ [] in
    let b = f.basics in
    let fits : All HasPid sdt = All-weaker (λ (s : SectionOnPid). s.pid ≡ 0x0011) HasPid (λ s e. omega arith) sdt b.sdt_pids in
    let last : All HasPid nit = All-cons HasPid p.tables.nit [] b.nit.on_pid (All-nil HasPid) in
    let other : All (λ (s : SectionOnPid). s.pid ≡ 0x0011 → ⊥) nit = All-cons (λ (s : SectionOnPid). s.pid ≡ 0x0011 → ⊥) p.tables.nit [] (λ e. omega (arith, b.nit_pid, e)) (All-nil (λ (s : SectionOnPid). s.pid ≡ 0x0011 → ⊥)) in
    let own : of_pid 0x0011 (slow_packets p.tables) ≡ flat_map packets_on_pid sdt =
    ap (of_pid 0x0011) (flat_map-append packets_on_pid sdt nit)
    ∙ filter-append (λ q. pid_of q == 0x0011) (flat_map packets_on_pid sdt) (flat_map packets_on_pid nit)
    ∙ ap (λ qs. qs ++ of_pid 0x0011 (flat_map packets_on_pid nit)) (of_pid_all 0x0011 sdt fits b.sdt_pids)
    ∙ ap (λ qs. flat_map packets_on_pid sdt ++ qs) (of_pid_none 0x0011 nit last other)
    ∙ append-nil (flat_map packets_on_pid sdt) in
    slow_repeats p before out 0x0011 sdt f ok h (omega arith) (omega arith) fits own

nit_repeats : (p : PlanValue) (before out : List (List ℕ)) → PlanFacts p → IsRounds p.rounds → IsSpanOf p before out → RepeatOn 0x0010 (p.tables.nit ∷ []) before out
nit_repeats p before out f ok h =
    let sdt = p.tables.sdt in
    let nit = p.tables.nit ∷ [] in
    let b = f.basics in
    let fits : All HasPid sdt = All-weaker (λ (s : SectionOnPid). s.pid ≡ 0x0011) HasPid (λ s e. omega arith) sdt b.sdt_pids in
    let last : All HasPid nit = All-cons HasPid p.tables.nit [] b.nit.on_pid (All-nil HasPid) in
    let on : All (λ (s : SectionOnPid). s.pid ≡ 0x0010) nit = All-cons (λ (s : SectionOnPid). s.pid ≡ 0x0010) p.tables.nit [] b.nit_pid (All-nil (λ (s : SectionOnPid). s.pid ≡ 0x0010)) in
    let other : All (λ (s : SectionOnPid). s.pid ≡ 0x0010 → ⊥) sdt = All-weaker (λ (s : SectionOnPid). s.pid ≡ 0x0011) (λ (s : SectionOnPid). s.pid ≡ 0x0010 → ⊥) (λ s is e. omega (arith, is, e)) sdt b.sdt_pids in
    let own : of_pid 0x0010 (slow_packets p.tables) ≡ flat_map packets_on_pid nit =
    ap (of_pid 0x0010) (flat_map-append packets_on_pid sdt nit)
    ∙ filter-append (λ q. pid_of q == 0x0010) (flat_map packets_on_pid sdt) (flat_map packets_on_pid nit)
    ∙ ap (λ qs. qs ++ of_pid 0x0010 (flat_map packets_on_pid nit)) (of_pid_none 0x0010 sdt fits other)
    ∙ of_pid_all 0x0010 nit last on in
    slow_repeats p before out 0x0010 nit f ok h (omega arith) (omega arith) last own

-- behind these packets, the PIDs of the PAT, of each PMT, of the SDT and of the NIT carry the plan's sections
record AllRepeat (p : PlanValue) (before out : List (List ℕ)) : Type 0 where
  pat : RepeatOn 0x0000 (p.tables.pat ∷ []) before out
  pmts : All (λ (s : SectionOnPid). RepeatOn s.pid (s ∷ []) before out) p.tables.pmts
  sdt : RepeatOn 0x0011 p.tables.sdt before out
  nit : RepeatOn 0x0010 (p.tables.nit ∷ []) before out

all_repeat : (p : PlanValue) (before out : List (List ℕ)) → IsRequest p.request → IsPlan p → IsRounds p.rounds → IsSpanOf p before out → AllRepeat p before out
all_repeat p before out r is ok h =
    let f = plan_facts p r is in
    record { pat = pat_repeats p before out f ok h; pmts = pmt_repeats p before out f ok h; sdt = sdt_repeats p before out f ok h; nit = nit_repeats p before out f ok h }

pub span_agrees : (p : PlanValue) (before out : List (List ℕ)) → IsRequest p.request → IsPlan p → IsRounds p.rounds → IsSpanOf p before out → SpanAgrees p before out
span_agrees p before out r is ok h =
    let all = all_repeat p before out r is ok h in
    record {
      pat = repeat_behind (p.tables.pat ∷ []) (length (of_pid 0x0000 before)) (of_pid 0x0000 out) all.pat;
      pmts = λ i d l. (let s = get_or p.tables.pmts i d in repeat_behind (s ∷ []) (length (of_pid s.pid before)) (of_pid s.pid out) (all.pmts i d l));
      sdt = repeat_behind p.tables.sdt (length (of_pid 0x0011 before)) (of_pid 0x0011 out) all.sdt;
      nit = repeat_behind (p.tables.nit ∷ []) (length (of_pid 0x0010 before)) (of_pid 0x0010 out) all.nit;
    }

-- and so they do in an emission
pub agree : (p : PlanValue) (out : List (List ℕ)) → IsRequest p.request → IsPlan p → IsRounds p.rounds → IsEmission p out → TablesAgree p out
agree p out r is ok h =
    let all = all_repeat p [] out r is ok (from_start p out h) in
    record {
      pat = repeat_sections (p.tables.pat ∷ []) (of_pid 0x0000 out) all.pat;
      pmts = λ i d l. (let s = get_or p.tables.pmts i d in repeat_sections (s ∷ []) (of_pid s.pid out) (all.pmts i d l));
      sdt = repeat_sections p.tables.sdt (of_pid 0x0011 out) all.sdt;
      nit = repeat_sections (p.tables.nit ∷ []) (of_pid 0x0010 out) all.nit;
    }
