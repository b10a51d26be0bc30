-- The packets of a section, one by one.
use Rattle.std.proofs.Common.{◌≡◌, ℕ, suc, ◌+◌, ◌-◌, ◌*◌, ◌/◌, ◌^◌, ◌<◌, ◌≤◌, ◌≢◌, List, [], ◌∷◌, ◌++◌, length, take, drop, get_or, replicate, if◌then◌else◌, ◌==◌, refl, sym, ◌∙◌, ap, arith, Bool, true, false, ◌⊎◌, inl, inr, ⊎_elim, None}
use Rattle.std.proofs.lemmas.List.{append_assoc, append-nil, length-append, length-take, length-drop, take_all, take-append-le, drop-append-le, take-replicate}
use Rattle.std.proofs.Math.Seq.{take-append-add}
use Rattle.std.proofs.lemmas.Bool.{cases_Bool, cases_lt, eq-eqb}
use Rattle.tspkt.specs.Bits.{field}
use Rattle.tspkt.specs.Packet.{fault_of, has_bad_adaptation, has_payload_of, payload_unit_start_indicator_of, payload_of}
use Rattle.tspkt.proofs.PacketFields.{sync_at, control_at, adaptation_at, payload_at, unit_start_at, counter_at}
use Rattle.section.specs.Packetizing.{IsPart}
use Rattle.section.specs.Packetized.{packet_count_of, stuffed, header_of}

-- 184 bytes from a place of a list with bytes 255 behind it
chunk : (ys : List ℕ) (d m : ℕ) → d ≤ length ys → d + 184 ≤ length ys + m → take 184 (drop d (ys ++ replicate m 255)) ≡ take 184 (drop d ys) ++ replicate (184 - length (take 184 (drop d ys))) 255
chunk ys d m h k =
    let zs = drop d ys in
    let f = replicate m 255 in
    let size : length zs ≡ length ys - d = length-drop d ys in
    ap (take 184) (drop-append-le d ys f h)
    ∙ ⊎_elim
    (λ (s : length zs < 184).
    let n = 184 - length zs in
    let whole : take 184 zs ≡ zs = take_all 184 zs (omega arith) in
    ap (λ (j : ℕ). take j (zs ++ f)) (let e : 184 ≡ length zs + n = omega arith in e)
    ∙ take-append-add zs f n
    ∙ ap (λ (l : List ℕ). zs ++ l) (take-replicate n m 255 (omega arith))
    ∙ sym (ap (λ (l : List ℕ). l ++ replicate (184 - length l) 255) whole))
    (λ (s : 184 ≤ length zs).
    let full : length (take 184 zs) ≡ 184 = length-take 184 zs ∙ omega arith in
    take-append-le 184 zs f s
    ∙ sym (ap (λ (j : ℕ). take 184 zs ++ replicate (184 - j) 255) full ∙ append-nil (take 184 zs)))
    (cases_lt (length zs) 184)

-- the stuffing bytes fill the last packet
fills : (section : List ℕ) (place : ℕ) → 184 * place ≤ length section → 184 * place + 184 ≤ length (0 ∷ section) + (184 * packet_count_of section - (length section + 1))
fills section place h = omega arith

-- the header is there
pub begins_long : (header begin : List ℕ) (place : ℕ) → length header ≡ 4 → ((place ≡ 0) × (begin ≡ header ++ 0 ∷ [])) ⊎ ((place ≢ 0) × (begin ≡ header)) → 4 ≤ length begin
begins_long header begin place h (inl z) = omega (arith, ap length z.1, length-append header (0 ∷ []))
begins_long header begin place h (inr n) = omega (arith, ap length n.1)

-- the bytes of a packet behind its header, by its part of the section
pub bytes_behind : (section header part begin : List ℕ) (place : ℕ) → length header ≡ 4 → 184 * place ≤ length section → part ≡ take (184 - (1 - place)) (drop (184 * place - 1) section) → ((place ≡ 0) × (begin ≡ header ++ 0 ∷ [])) ⊎ ((place ≢ 0) × (begin ≡ header)) → (begin ++ part) ++ replicate (188 - length (begin ++ part)) 255 ≡ header ++ take 184 (drop (184 * place) (stuffed section))
bytes_behind section header part begin place h p e b =
    let ys = 0 ∷ section in
    let w = take 184 (drop (184 * place) ys) in
    let same : begin ++ part ≡ header ++ w = begins section header part begin place e b in
    let size : 188 - length (header ++ w) ≡ 184 - length w = ap (λ (n : ℕ). 188 - n) (length-append header w) ∙ omega arith in
    ap (λ (l : List ℕ). l ++ replicate (188 - length l) 255) same
    ∙ ap (λ (n : ℕ). (header ++ w) ++ replicate n 255) size
    ∙ append_assoc header w (replicate (184 - length w) 255)
    ∙ ap (λ (l : List ℕ). header ++ l) (sym (chunk ys (184 * place) (184 * packet_count_of section - (length section + 1)) (omega arith) (fills section place p)))
  where
    begins : (section header part begin : List ℕ) (place : ℕ) → part ≡ take (184 - (1 - place)) (drop (184 * place - 1) section) → ((place ≡ 0) × (begin ≡ header ++ 0 ∷ [])) ⊎ ((place ≢ 0) × (begin ≡ header)) → begin ++ part ≡ header ++ take 184 (drop (184 * place) (0 ∷ section))
    begins section header part begin place e (inl z) =
        let first : part ≡ take 183 section = e ∙ ap (λ (n : ℕ). take (184 - (1 - n)) (drop (184 * n - 1) section)) z.0 in
        let all : take 184 (drop (184 * place) (0 ∷ section)) ≡ 0 ∷ take 183 section = ap (λ (n : ℕ). take 184 (drop (184 * n) (0 ∷ section))) z.0 in
        ap (λ (l : List ℕ). l ++ part) z.1
        ∙ append_assoc header (0 ∷ []) part
        ∙ ap (λ (l : List ℕ). header ++ (0 ∷ l)) first
        ∙ ap (λ (l : List ℕ). header ++ l) (sym all)
    begins section header part begin place e (inr n) =
        let some = n.0 in
        let room : 184 - (1 - place) ≡ 184 = omega arith in
        let down : 184 * place ≡ suc (184 * place - 1) = omega arith in
        let all : take 184 (drop (184 * place) (0 ∷ section)) ≡ take 184 (drop (184 * place - 1) section) = ap (λ (d : ℕ). take 184 (drop d (0 ∷ section))) down in
        ap (λ (l : List ℕ). l ++ part) n.1
        ∙ ap (λ (l : List ℕ). header ++ l) (e ∙ ap (λ (d : ℕ). take d (drop (184 * place - 1) section)) room ∙ sym all)

-- ---- the header
-- a sync byte, and payload only: no fault
accepted : (p : List ℕ) → get_or p 0 0 ≡ 71 → get_or p 3 0 / 16 ≡ 1 → fault_of p ≡ None
unfolding fault_of has_bad_adaptation
accepted p a b =
    let s : (field p 0 8 == 0x47) ≡ true = eq-eqb _ _ (omega (arith, sync_at p, a)) in
    let c : field p 26 2 ≡ 1 = omega (arith, control_at p, b) in
    let f : field p 26 1 ≡ 0 = omega (arith, adaptation_at p, b) in
    rw (s, c, f) refl

-- bytes with such a header are a packet
pub part_accepted : (pid first k : ℕ) (payload : List ℕ) → fault_of (header_of pid first k ++ payload) ≡ None
part_accepted pid first k payload = accepted (header_of pid first k ++ payload) refl (omega arith)

-- a packet with payload only
plain_payload : (p : List ℕ) → get_or p 3 0 / 16 ≡ 1 → (has_payload_of p ≡ true) × (payload_of p ≡ drop 4 p)
plain_payload p b =
    let y : field p 27 1 ≡ 1 = omega (arith, payload_at p, b) in
    let n : field p 26 1 ≡ 0 = omega (arith, adaptation_at p, b) in
    (rw y refl, rw (y, n) refl)

-- the payload_unit_start_indicator stands in the first packet alone
start_at : (p : List ℕ) (pid k : ℕ) → pid < 2 ^ 13 → get_or p 1 0 ≡ (if k == 0 then 64 else 0) + pid / 256 → payload_unit_start_indicator_of p ≡ (k == 0)
start_at p pid k h e =
    ⊎_elim
    (λ (y : (k == 0) ≡ true).
    let b : get_or p 1 0 ≡ 64 + pid / 256 = e ∙ ap (λ (v : Bool). (if v then 64 else 0) + pid / 256) y in
    eq-eqb (field p 9 1) 1 (omega (arith, unit_start_at p, b)) ∙ sym y)
    (λ (n : (k == 0) ≡ false).
    let b : get_or p 1 0 ≡ 0 + pid / 256 = e ∙ ap (λ (v : Bool). (if v then 64 else 0) + pid / 256) n in
    let z : field p 9 1 ≡ 0 = omega (arith, unit_start_at p, b) in
    ap (λ (f : ℕ). f == 1) z ∙ sym n)
    (cases_Bool (k == 0))

-- and what an assembler reads of them
pub part_is : (section payload : List ℕ) (pid first k : ℕ) → pid < 2 ^ 13 → payload ≡ take 184 (drop (184 * k) (stuffed section)) → IsPart section pid first k (header_of pid first k ++ payload)
part_is section payload pid first k h e =
    let p = header_of pid first k ++ payload in
    let plain = plain_payload p (omega arith) in
    record {
      header = refl;
      loaded = plain.0;
      start = start_at p pid k h refl;
      counter = counter_at p ∙ omega arith;
      payload = plain.1 ∙ e;
    }
