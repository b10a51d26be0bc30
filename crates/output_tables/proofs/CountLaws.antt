-- How many packets the output's tables take.
use Rattle.std.proofs.Common.{arith, ◌≡◌, ℕ, ◌+◌, ◌*◌, ◌/◌, List, [], ◌∷◌, ◌++◌, length, map, sum, refl, ap, ◌∙◌, length-append}
use Rattle.std.specs.List.{AllZip, flat_map}
use Rattle.std.proofs.lemmas.Grind.{flat_map-append}
use Rattle.std.proofs.lemmas.List.FromFn.{length-map-range_with_len}
use Rattle.std.proofs.lemmas.List.Sums.{sum-map, sum_by-cons}
use Rattle.section.specs.Packetized.{packet_count_of}
use Rattle.tables.specs.Pmt.{pmt_section_length_of}
use Rattle.tables.specs.Sdt.{SdtValue, sdt_section_length_of}
use Rattle.tables.specs.Nit.{nit_section_length_of}
use Rattle.request.specs.Request.{RequestValue}
use Rattle.selection.specs.Chosen.{ChosenValue}
use Rattle.output_tables.specs.Output.{table_packet, packets_for, output_pmt, output_sdt, output_nit, fast_count, slow_count}
use Rattle.output_tables.specs.OnPid.{SectionOnPid, packets_on_pid}
use Rattle.output_tables.specs.TableSet.{TableSetValue, IsPmtFor, IsSdtFor, fast_packets, slow_packets}

-- the packets of one section
one_count : (s : SectionOnPid) (n : ℕ) → length s.bytes ≡ n + 3 → length (packets_on_pid s) ≡ packets_for n
one_count s n h =
    length-map-range_with_len (table_packet s.pid s.bytes) 0 (packet_count_of s.bytes) ∙ ap (λ (k : ℕ). (k + 184) / 184) h

-- and of several
all_count : {V : Type 0} (R : SectionOnPid → V → Type 0) (n : V → ℕ) → ((s : SectionOnPid) (v : V) → R s v → length s.bytes ≡ n v + 3) → (ss : List SectionOnPid) (vs : List V) → AllZip R ss vs → length (flat_map packets_on_pid ss) ≡ sum (map (λ v. packets_for (n v)) vs)
all_count R n h [] [] a = refl
all_count R n h [] (v ∷ vs) a = absurd a
all_count R n h (s ∷ ss) [] a = absurd a
all_count {V = V} R n h (s ∷ ss) (v ∷ vs) a =
    let f = λ (w : V). packets_for (n w) in
    let first = one_count s (n v) (h s v a.0) in
    let rest = all_count R n h ss vs a.1 in
    let whole = sum-map f (v ∷ vs) in
    let less = sum-map f vs in
    let cons = sum_by-cons f v vs in
    length-append (packets_on_pid s) (flat_map packets_on_pid ss) ∙ omega arith

pub fast_counted : (r : RequestValue) (chosen : List ChosenValue) (t : TableSetValue) → length t.pat.bytes ≡ 9 + 4 * (1 + length chosen) + 3 → AllZip (IsPmtFor r) t.pmts chosen → length (fast_packets t) ≡ fast_count r chosen
fast_counted r chosen t h a =
    let first = one_count t.pat (9 + 4 * (1 + length chosen)) h in
    let rest = all_count (IsPmtFor r) (λ (c : ChosenValue). pmt_section_length_of (output_pmt r c)) (λ s c p. p.whole) t.pmts chosen a in
    length-append (packets_on_pid t.pat) (flat_map packets_on_pid t.pmts) ∙ ap (λ (k : ℕ). k + length (flat_map packets_on_pid t.pmts)) first ∙ ap (λ (k : ℕ). packets_for (9 + 4 * (1 + length chosen)) + k) rest

pub slow_counted : (r : RequestValue) (chosen : List ChosenValue) (t : TableSetValue) → AllZip IsSdtFor t.sdt (output_sdt r chosen) → length t.nit.bytes ≡ nit_section_length_of (output_nit r chosen) + 3 → length (slow_packets t) ≡ slow_count r chosen
slow_counted r chosen t a h =
    let first = all_count IsSdtFor (λ (v : SdtValue). sdt_section_length_of v) (λ s v p. p.whole) t.sdt (output_sdt r chosen) a in
    let last = one_count t.nit (nit_section_length_of (output_nit r chosen)) h in
    let none = length-append (packets_on_pid t.nit) [] in
    ap length (flat_map-append packets_on_pid t.sdt (t.nit ∷ []))
    ∙ length-append (flat_map packets_on_pid t.sdt) (packets_on_pid t.nit ++ [])
    ∙ ap (λ (k : ℕ). length (flat_map packets_on_pid t.sdt) + k) (none ∙ let z : length (packets_on_pid t.nit) + 0 ≡ length (packets_on_pid t.nit) = omega arith in z ∙ last)
    ∙ ap (λ (k : ℕ). k + packets_for (nit_section_length_of (output_nit r chosen))) first
