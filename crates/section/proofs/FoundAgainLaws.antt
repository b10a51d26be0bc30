-- A section is found again in its packets, and nothing else is told.
use Rattle.std.proofs.Common.{◌≡◌, ℕ, zero, suc, ◌+◌, ◌-◌, ◌*◌, ◌%◌, ◌<◌, ◌≤◌, List, [], ◌∷◌, ◌++◌, length, take, drop, get_or, replicate, ◌==◌, refl, sym, ◌∙◌, ap, subst, arith, Bool, true, false, not, ⊎_elim, Some}
use Rattle.std.proofs.lemmas.List.{length-append, length-take, length-replicate, take_all, take_at, drop_at, take-append-le, drop-drop, take-append-drop, get_or_append_left, get_or_push}
use Rattle.std.proofs.Math.Seq.{take-append-add, take-add}
use Rattle.std.proofs.lemmas.Bool.{cases_lt, eq-eqb, false_from_ne_true}
use Rattle.std.proofs.lemmas.Bool.Decides.{nat_tests}
use Rattle.std.specs.List.{flat_map}
use Rattle.tspkt.specs.Packet.{payload_unit_start_indicator_of, continuity_counter_of, payload_of}
use Rattle.tspkt.specs.Counters.{is_copy}
use Rattle.section.specs.Crc.{crc_of}
use Rattle.section.specs.Section.{section_length_of, is_too_long, is_whole, first_section, IsGoodSection}
use Rattle.section.specs.Assembled.{nothing, collected, told_of_whole, sections_from, ending, has_pointer, payload_told, AssemblerState, Step, packet_told, read_with, assembled_from, assembled, fresh}
use Rattle.section.specs.Packetized.{packet_count_of, stuffed}
use Rattle.section.specs.Packetizing.{IsPart}
use Rattle.section.specs.declared.told.Told.{Told}
use Rattle.section.specs.declared.told.Told.TheVariants.{Section}
use Rattle.section.proofs.SectionLaws.{section_length_of-append}
use Rattle.section.proofs.CollectLaws.{is_too_long-fits, is_whole-true, is_whole-partial, collected_whole, collected_begun}
use Rattle.section.proofs.SectionsLaws.{sections_nil, sections_stuffing, sections_begun, sections_whole, behind}
use Rattle.section.proofs.FoundLaws.{packet_read, counter_copy}

-- parts from place k on
abbrev pub PartsFrom : List ℕ → ℕ → ℕ → ℕ → List (List ℕ) → Type 0
PartsFrom section pid first k packets = (j : ℕ) → j < length packets → IsPart section pid first (k + j) (get_or packets j [])

pub parts_head : (section : List ℕ) (pid first k : ℕ) (p : List ℕ) (packets : List (List ℕ)) → PartsFrom section pid first k (p ∷ packets) → IsPart section pid first k p
parts_head section pid first k p packets h =
    let P : ℕ → Type 0 = λ n. IsPart section pid first n p in
    subst P (let e : k + 0 ≡ k = omega arith in e) (h 0 (omega arith))

pub parts_tail : (section : List ℕ) (pid first k : ℕ) (p : List ℕ) (packets : List (List ℕ)) → PartsFrom section pid first k (p ∷ packets) → PartsFrom section pid first (k + 1) packets
parts_tail section pid first k p packets h j l =
    let P : ℕ → Type 0 = λ n. IsPart section pid first n (get_or packets j []) in
    subst P (let e : k + suc j ≡ k + 1 + j = omega arith in e) (h (suc j) (omega arith))

-- the payloads, one behind the other
payloads_from : (section : List ℕ) (pid first k : ℕ) (packets : List (List ℕ)) → PartsFrom section pid first k packets → flat_map payload_of packets ≡ take (184 * length packets) (drop (184 * k) (stuffed section))
payloads_from section pid first k [] h = refl
payloads_from section pid first k (p ∷ packets) h =
    let s = stuffed section in
    let one = (parts_head section pid first k p packets h).payload in
    let later = payloads_from section pid first (k + 1) packets (parts_tail section pid first k p packets h) in
    let place : drop (184 * (k + 1)) s ≡ drop 184 (drop (184 * k) s) = ap (λ (n : ℕ). drop n s) (let e : 184 * (k + 1) ≡ 184 * k + 184 = omega arith in e) ∙ sym (drop-drop 184 (184 * k) s) in
    ap (λ (l : List ℕ). l ++ flat_map payload_of packets) one
    ∙ ap (λ (l : List ℕ). take 184 (drop (184 * k) s) ++ l) (later ∙ ap (take (184 * length packets)) place)
    ∙ sym (take-add 184 (184 * length packets) (drop (184 * k) s))
    ∙ ap (λ (n : ℕ). take n (drop (184 * k) s)) (let e : 184 + 184 * length packets ≡ 184 * suc (length packets) = omega arith in e)

length-stuffed : (section : List ℕ) → length (stuffed section) ≡ 184 * packet_count_of section
length-stuffed section =
    length-append (0 ∷ section) (replicate (184 * packet_count_of section - (length section + 1)) 255)
    ∙ ap (λ (n : ℕ). length (0 ∷ section) + n) (length-replicate (184 * packet_count_of section - (length section + 1)) 255)
    ∙ omega arith

pub payloads_are : (section : List ℕ) (pid first : ℕ) (packets : List (List ℕ)) → length packets ≡ packet_count_of section → PartsFrom section pid first 0 packets → flat_map payload_of packets ≡ stuffed section
payloads_are section pid first packets n h =
    payloads_from section pid first 0 packets h
    ∙ take_all (184 * length packets) (stuffed section) (omega (arith, length-stuffed section))

-- ---- one reading
-- bytes that begin with a good section
whole_collected : (section more : List ℕ) → IsGoodSection section → length section ≤ 1024 → (is_too_long (section ++ more) ≡ false) × (is_whole (section ++ more) ≡ true) × (section_length_of (section ++ more) ≡ section_length_of section) × (told_of_whole (first_section (section ++ more)) ≡ Section (record { items = section }))
whole_collected section more g h =
    let xs = section ++ more in
    let kept = section_length_of-append section more (omega (arith, g.whole)) in
    let size = length-append section more in
    let one : first_section xs ≡ section = take_at section more (section_length_of xs + 3) (omega (arith, g.whole, kept)) in
    let good : (crc_of section == 0) ≡ true = eq-eqb (crc_of section) 0 g.crc in
    (is_too_long-fits xs (omega (arith, g.whole, kept)), is_whole-true xs (omega (arith, g.whole, size)) (omega (arith, g.whole, kept, size)), kept, ap told_of_whole one ∙ rw good refl)

-- a good section whose end isn't there
part_collected : (section : List ℕ) (n : ℕ) → IsGoodSection section → length section ≤ 1024 → 3 ≤ n → n < length section → (is_too_long (take n section) ≡ false) × (is_whole (take n section) ≡ false)
part_collected section n g h low high =
    let xs = take n section in
    let size : length xs ≡ n = length-take n section ∙ omega arith in
    let kept : section_length_of section ≡ section_length_of xs = sym (ap section_length_of (take-append-drop n section)) ∙ section_length_of-append xs (drop n section) (omega arith) in
    (is_too_long-fits xs (omega (arith, g.whole, kept)), is_whole-partial xs (omega (arith, g.whole, kept, size)))

-- stuffing bytes tell nothing
stuffing_none : (n m : ℕ) → sections_from 0 (take n (replicate m 255)) ≡ nothing
stuffing_none zero m = sections_nil
stuffing_none (suc n) zero = sections_nil
stuffing_none (suc n) (suc m) = sections_stuffing 255 (take n (replicate m 255)) refl

-- ---- the packets behind the first
pub payload_ending : (begun payload : List ℕ) → payload_told begun false payload ≡ ending begun payload
unfolding payload_told
payload_ending begun payload = refl

-- the assembler's state behind a packet that was read
abbrev behind_of : List ℕ → List ℕ → AssemblerState
behind_of begun last = record { begun = begun; last = Some last; skipped = false }

-- a later packet is no copy, follows the last one, and begins no section
part_read : (section : List ℕ) (pid first k : ℕ) (p q begun : List ℕ) → IsPart section pid first (k + 1) p → continuity_counter_of q ≡ (first + k) % 16 → packet_told (behind_of begun q) p ≡ read_with [] p (ending begun (payload_of p))
part_read section pid first k p q begun h c =
    let other : is_copy q p ≡ false = false_from_ne_true (is_copy q p) (λ (t : is_copy q p ≡ true). let e = counter_copy q p t in let d = h.counter in omega (arith, e, d)) in
    let steps : (continuity_counter_of p == (continuity_counter_of q + 1) % 16) ≡ true = eq-eqb (continuity_counter_of p) ((continuity_counter_of q + 1) % 16) (let d = h.counter in omega (arith, d)) in
    let plain : payload_unit_start_indicator_of p ≡ false = h.start ∙ (let e : (k + 1 == 0) ≡ false = grind (arith, nat_tests) in e) in
    packet_read (behind_of begun q) p h.loaded other (ap not steps)
    ∙ ap (λ (v : Bool). read_with [] p (payload_told begun v (payload_of p))) plain
    ∙ ap (read_with [] p) (payload_ending begun (payload_of p))

-- where nothing is begun, they tell nothing
rest_told : (section : List ℕ) (pid first k : ℕ) (packets : List (List ℕ)) (q : List ℕ) → PartsFrom section pid first (k + 1) packets → continuity_counter_of q ≡ (first + k) % 16 → assembled_from (behind_of [] q) packets ≡ []
rest_told section pid first k [] q h c = refl
rest_told section pid first k (p ∷ packets) q h c =
    let part = parts_head section pid first (k + 1) p packets h in
    let one = part_read section pid first k p q [] part c in
    ap (λ (x : Step). x.told ++ assembled_from x.state packets) one
    ∙ rest_told section pid first (k + 1) packets p (parts_tail section pid first (k + 1) p packets h) part.counter

-- where its first bytes are begun, they tell the section
tail_told : (section : List ℕ) (pid first k : ℕ) (packets : List (List ℕ)) (q : List ℕ) → IsGoodSection section → length section ≤ 1024 → PartsFrom section pid first (k + 1) packets → continuity_counter_of q ≡ (first + k) % 16 → 184 * k + 183 < length section → length section + 1 ≤ 184 * (k + 1 + length packets) → assembled_from (behind_of (take (184 * k + 183) section) q) packets ≡ Section (record { items = section }) ∷ []
tail_told section pid first k [] q g small h c more enough = absurd (omega arith)
tail_told section pid first k (p ∷ packets) q g small h c more enough =
    let a = 184 * k + 183 in
    let m = 184 * packet_count_of section - (length section + 1) in
    let fill = replicate m 255 in
    let e = section ++ fill in
    let begun = take a section in
    let part = parts_head section pid first (k + 1) p packets h in
    let later = parts_tail section pid first (k + 1) p packets h in
    let one = part_read section pid first k p q begun part c in
    let size : length begun ≡ a = length-take a section ∙ omega arith in
    let some : (length begun == 0) ≡ false = grind (arith, nat_tests, size) in
    let load : payload_of p ≡ take 184 (drop a e) = part.payload ∙ ap (λ (n : ℕ). take 184 (drop n (0 ∷ e))) (let i : 184 * (k + 1) ≡ suc a = omega arith in i) in
    let bytes : begun ++ payload_of p ≡ take (a + 184) e =
    ap (λ (l : List ℕ). begun ++ l) load
    ∙ ap (λ (l : List ℕ). l ++ take 184 (drop a e)) (sym (take-append-le a section fill (omega arith)))
    ∙ sym (take-add a 184 e) in
    let reading : ending begun (payload_of p) ≡ collected (take (a + 184) e) = rw some (ap collected bytes) in
    let step : packet_told (behind_of begun q) p ≡ read_with [] p (collected (take (a + 184) e)) = one ∙ ap (read_with [] p) reading in
    ⊎_elim
    (λ (short : length section < a + 185).
    let n = a + 184 - length section in
    let all : take (a + 184) e ≡ section ++ take n fill = ap (λ (i : ℕ). take i e) (let i : a + 184 ≡ length section + n = omega arith in i) ∙ take-append-add section fill n in
    let w = whole_collected section (take n fill) g small in
    let told : collected (take (a + 184) e) ≡ record { begun = []; told = Section (record { items = section }) ∷ []; ended = false } =
    ap collected all
    ∙ collected_whole (section ++ take n fill) w.0 w.1
    ∙ ap (λ (t : Told). record { begun = []; told = t ∷ []; ended = false }) w.3 in
    ap (λ (x : Step). x.told ++ assembled_from x.state packets) (step ∙ ap (read_with [] p) told)
    ∙ ap (λ (l : List Told). Section (record { items = section }) ∷ l) (rest_told section pid first (k + 1) packets p later part.counter))
    (λ (long : a + 185 ≤ length section).
    let all : take (a + 184) e ≡ take (a + 184) section = take-append-le (a + 184) section fill (omega arith) in
    let w = part_collected section (a + 184) g small (omega arith) (omega arith) in
    let told : collected (take (a + 184) e) ≡ record { begun = take (a + 184) section; told = []; ended = false } = ap collected all ∙ collected_begun (take (a + 184) section) w.0 w.1 in
    let next : a + 184 ≡ 184 * (k + 1) + 183 = omega arith in
    ap (λ (x : Step). x.told ++ assembled_from x.state packets) (step ∙ ap (read_with [] p) told)
    ∙ ap (λ (n : ℕ). assembled_from (behind_of (take n section) p) packets) next
    ∙ tail_told section pid first (k + 1) packets p g small later part.counter (omega arith) (omega arith))
    (cases_lt (length section) (a + 185))

pub parts_push : (section : List ℕ) (pid first : ℕ) (packets : List (List ℕ)) (p : List ℕ) → PartsFrom section pid first 0 packets → IsPart section pid first (length packets) p → PartsFrom section pid first 0 (packets ++ p ∷ [])
parts_push section pid first packets p h n j l =
    let size = length-append packets (p ∷ []) in
    ⊎_elim
    (λ (b : j < length packets).
    let P : List ℕ → Type 0 = λ q. IsPart section pid first (0 + j) q in
    subst P (sym (get_or_append_left packets (p ∷ []) [] j b)) (h j b))
    (λ (b : length packets ≤ j).
    let here : length packets ≡ 0 + j = omega arith in
    let P : ℕ → List ℕ → Type 0 = λ i q. IsPart section pid first i q in
    subst (λ (i : ℕ). P i (get_or (packets ++ p ∷ []) j [])) here (subst (P (length packets)) (sym (get_or_push packets p [] j (omega arith))) n))
    (cases_lt j (length packets))

-- ---- the first packet
-- a payload with pointer_field 0, where nothing is begun
pointed : (bytes : List ℕ) → payload_told [] true (0 ∷ bytes) ≡ sections_from 0 bytes
unfolding payload_told
pointed bytes = let y : has_pointer (0 ∷ bytes) ≡ true = grind (arith, nat_tests) in rw y refl

-- the packets of a good section tell it, and nothing else
pub found_again : (section : List ℕ) (pid first : ℕ) (packets : List (List ℕ)) → IsGoodSection section → length section ≤ 1024 → length packets ≡ packet_count_of section → PartsFrom section pid first 0 packets → assembled packets ≡ Section (record { items = section }) ∷ []
found_again section pid first [] g small n h = absurd (omega arith)
found_again [] pid first (p ∷ packets) g small n h = absurd (omega (arith, g.whole))
found_again (b ∷ bytes) pid first (p ∷ packets) g small n h =
    let section : List ℕ = b ∷ bytes in
    let m = 184 * packet_count_of section - (length section + 1) in
    let fill : List ℕ = replicate m 255 in
    let e : List ℕ = section ++ fill in
    let part = parts_head section pid first 0 p packets h in
    let later = parts_tail section pid first 0 p packets h in
    let plain : (b == 255) ≡ false = (let t = g.table in grind (arith, nat_tests, t)) in
    let load : payload_of p ≡ 0 ∷ take 183 e = part.payload in
    let step : packet_told fresh p ≡ read_with [] p (sections_from 0 (take 183 e)) =
    packet_read fresh p part.loaded refl refl
    ∙ ap (λ (v : Bool). read_with [] p (payload_told [] v (payload_of p))) part.start
    ∙ ap (λ (l : List ℕ). read_with [] p (payload_told [] true l)) load
    ∙ ap (read_with [] p) (pointed (take 183 e)) in
    ⊎_elim
    (λ (short : length section < 184).
    let k = 183 - length section in
    let more : List ℕ = take k fill in
    let all : take 183 e ≡ section ++ more = ap (λ (i : ℕ). take i e) (let i : 183 ≡ length section + k = omega arith in i) ∙ take-append-add section fill k in
    let w = whole_collected section more g small in
    let rest : drop (section_length_of (section ++ more) + 3) (section ++ more) ≡ more = drop_at section more (section_length_of (section ++ more) + 3) (let a = g.whole in let c = w.2 in omega (arith, a, c)) in
    let none : sections_from 0 (drop (section_length_of (section ++ more) + 3) (section ++ more)) ≡ nothing = ap (sections_from 0) rest ∙ stuffing_none k m in
    let told : sections_from 0 (take 183 e) ≡ record { begun = []; told = Section (record { items = section }) ∷ []; ended = false } =
    ap (sections_from 0) all
    ∙ sections_whole b (bytes ++ more) plain w.0 w.1
    ∙ ap (behind (section ++ more)) none
    ∙ ap (λ (t : Told). record { begun = []; told = t ∷ []; ended = false }) w.3 in
    ap (λ (x : Step). x.told ++ assembled_from x.state packets) (step ∙ ap (read_with [] p) told)
    ∙ ap (λ (l : List Told). Section (record { items = section }) ∷ l) (rest_told section pid first 0 packets p later part.counter))
    (λ (long : 184 ≤ length section).
    let all : take 183 e ≡ take 183 section = take-append-le 183 section fill (omega arith) in
    let w = part_collected section 183 g small (omega arith) (omega arith) in
    let told : sections_from 0 (take 183 e) ≡ record { begun = take 183 section; told = []; ended = false } =
    ap (sections_from 0) all
    ∙ sections_begun b (take 182 bytes) plain w.0 w.1
    ∙ collected_begun (take 183 section) w.0 w.1 in
    ap (λ (x : Step). x.told ++ assembled_from x.state packets) (step ∙ ap (read_with [] p) told)
    ∙ tail_told section pid first 0 packets p g small later part.counter (omega arith) (omega arith))
    (cases_lt (length section) 184)
