-- A section that is sent again and again on a PID is told at the last of its packets each time, and nothing else is.
use Rattle.std.proofs.Common.{◌≡◌, ℕ, zero, suc, ◌+◌, ◌-◌, ◌*◌, ◌/◌, ◌%◌, ◌<◌, ◌≤◌, List, [], ◌∷◌, ◌++◌, length, take, drop, replicate, ◌==◌, refl, sym, ◌∙◌, ap, subst, arith, Bool, true, false, not, Some, inl, inr}
use Rattle.std.specs.List.{slice_get}
use Rattle.std.proofs.lemmas.List.{length-append, length-take, take_at, drop_at, take-append-le, take-append-drop}
use Rattle.std.proofs.lemmas.Nat.{mod-mul-add, div-add-mod', mod_below}
use Rattle.std.proofs.Math.Seq.{take-append-add, take-add}
use Rattle.std.proofs.lemmas.Bool.{eq-eqb, false_from_ne_true, cases_lt}
use Rattle.std.proofs.lemmas.Bool.Decides.{nat_tests}
use Rattle.tspkt.specs.Packet.{has_payload_of, payload_unit_start_indicator_of, continuity_counter_of, payload_of}
use Rattle.tspkt.specs.Counters.{is_copy}
use Rattle.section.specs.Crc.{crc_of}
use Rattle.section.specs.Section.{section_length_of, is_too_long, is_whole, first_section, IsGoodSection}
use Rattle.section.specs.Assembled.{Reading, nothing, collected, told_of_whole, sections_from, has_pointer, payload_told, AssemblerState, Step, packet_told, read_with, reading_of, is_repeat, is_discontinuous, fresh, state_behind}
use Rattle.section.specs.Packetized.{packet_count_of, stuffed}
use Rattle.section.specs.declared.told.Told.{Told}
use Rattle.section.specs.declared.told.Told.TheVariants.{Section}
use Rattle.section.proofs.SectionLaws.{section_length_of-append}
use Rattle.section.proofs.CollectLaws.{is_too_long-fits, is_whole-true, is_whole-partial, collected_whole, collected_begun}
use Rattle.section.proofs.SectionsLaws.{sections_nil, sections_stuffing, sections_begun, sections_whole, behind}
use Rattle.section.proofs.FoundLaws.{packet_read, counter_copy}
use Rattle.section.proofs.FoundAgainLaws.{payload_ending}

-- packet k of a section, as an assembler reads it
pub record IsPiece (section : List ℕ) (k number : ℕ) (q : List ℕ) : Type 0 where
  pub loaded : has_payload_of q ≡ true
  pub start : payload_unit_start_indicator_of q ≡ (k == 0)
  pub counter : continuity_counter_of q ≡ number
  pub payload : payload_of q ≡ take 184 (drop (184 * k) (stuffed section))

-- what is told of the section
abbrev pub told_of : List ℕ → Told
told_of section = Section (record { items = section })

-- the section's bytes in its first packets
abbrev begun_of : List ℕ → ℕ → List ℕ
begun_of section zero = []
begun_of section (suc k) = take (184 * k + 183) section

-- ---- one payload

-- bytes that begin with a good section
whole_collected : (section more : List ℕ) → IsGoodSection section → length section ≤ 1024 → (is_too_long (section ++ more) ≡ false) × (is_whole (section ++ more) ≡ true) × (section_length_of (section ++ more) ≡ section_length_of section) × (told_of_whole (first_section (section ++ more)) ≡ told_of section)
whole_collected section more g h =
    let xs = section ++ more in
    let kept = section_length_of-append section more (omega (arith, g.whole)) in
    let size = length-append section more in
    let one : first_section xs ≡ section = take_at section more (section_length_of xs + 3) (omega (arith, g.whole, kept)) in
    let good : (crc_of section == 0) ≡ true = eq-eqb (crc_of section) 0 g.crc in
    (is_too_long-fits xs (omega (arith, g.whole, kept)), is_whole-true xs (omega (arith, g.whole, size)) (omega (arith, g.whole, kept, size)), kept, ap told_of_whole one ∙ rw good refl)

-- a good section whose end isn't there
part_collected : (section : List ℕ) (n : ℕ) → IsGoodSection section → length section ≤ 1024 → 3 ≤ n → n < length section → (is_too_long (take n section) ≡ false) × (is_whole (take n section) ≡ false)
part_collected section n g h low high =
    let xs = take n section in
    let size : length xs ≡ n = length-take n section ∙ omega arith in
    let kept : section_length_of section ≡ section_length_of xs = sym (ap section_length_of (take-append-drop n section)) ∙ section_length_of-append xs (drop n section) (omega arith) in
    (is_too_long-fits xs (omega (arith, g.whole, kept)), is_whole-partial xs (omega (arith, g.whole, kept, size)))

-- stuffing bytes tell nothing
stuffing_none : (n m : ℕ) → sections_from 0 (take n (replicate m 255)) ≡ nothing
stuffing_none zero m = sections_nil
stuffing_none (suc n) zero = sections_nil
stuffing_none (suc n) (suc m) = sections_stuffing 255 (take n (replicate m 255)) refl

-- a payload with pointer_field 0, where nothing is begun
pointed : (bytes : List ℕ) → payload_told [] true (0 ∷ bytes) ≡ sections_from 0 bytes
unfolding payload_told
pointed bytes = let y : has_pointer (0 ∷ bytes) ≡ true = grind (arith, nat_tests) in rw y refl

-- the reading of the last packet, and of another one
abbrev whole_reading : List ℕ → Reading
whole_reading section = record { begun = []; told = told_of section ∷ []; ended = false }

abbrev part_reading : List ℕ → ℕ → Reading
part_reading section k = record { begun = begun_of section (suc k); told = []; ended = false }

first_load : (section : List ℕ) (counter : ℕ) (q : List ℕ) → IsPiece section 0 counter q → reading_of [] q ≡ sections_from 0 (take 183 (section ++ replicate (184 * packet_count_of section - (length section + 1)) 255))
first_load section counter q h =
    let e = section ++ replicate (184 * packet_count_of section - (length section + 1)) 255 in
    let load : payload_of q ≡ 0 ∷ take 183 e = h.payload in
    ap (λ (v : Bool). payload_told [] v (payload_of q)) h.start
    ∙ ap (λ (l : List ℕ). payload_told [] true l) load
    ∙ pointed (take 183 e)

later_load : (section : List ℕ) (k counter : ℕ) (q : List ℕ) → IsPiece section (suc k) counter q → 184 * k + 183 < length section
    → reading_of (begun_of section (suc k)) q ≡ collected (take (184 * k + 183 + 184) (section ++ replicate (184 * packet_count_of section - (length section + 1)) 255))
later_load section k counter q h more =
    let a = 184 * k + 183 in
    let fill : List ℕ = replicate (184 * packet_count_of section - (length section + 1)) 255 in
    let e : List ℕ = section ++ fill in
    let begun : List ℕ = take a section in
    let size : length begun ≡ a = length-take a section ∙ omega arith in
    let some : (length begun == 0) ≡ false = grind (arith, nat_tests, size) in
    let plain : payload_unit_start_indicator_of q ≡ false = h.start ∙ (let z : (suc k == 0) ≡ false = grind (arith, nat_tests) in z) in
    let load : payload_of q ≡ take 184 (drop a e) = h.payload ∙ ap (λ (n : ℕ). take 184 (drop n (0 ∷ e))) (let i : 184 * suc k ≡ suc a = omega arith in i) in
    let bytes : begun ++ payload_of q ≡ take (a + 184) e =
    ap (λ (l : List ℕ). begun ++ l) load
    ∙ ap (λ (l : List ℕ). l ++ take 184 (drop a e)) (sym (take-append-le a section fill (omega arith)))
    ∙ sym (take-add a 184 e) in
    ap (λ (v : Bool). payload_told begun v (payload_of q)) plain
    ∙ payload_ending begun (payload_of q)
    ∙ rw some (ap collected bytes)

last_read : (section : List ℕ) (k counter : ℕ) (q : List ℕ) → IsGoodSection section → length section ≤ 1024 → k + 1 ≡ packet_count_of section → IsPiece section k counter q → reading_of (begun_of section k) q ≡ whole_reading section
last_read [] k counter q g small n h = absurd (omega (arith, g.whole))
last_read (b ∷ bytes) zero counter q g small n h =
    let section : List ℕ = b ∷ bytes in
    let m = 184 * packet_count_of section - (length section + 1) in
    let fill : List ℕ = replicate m 255 in
    let short : length section < 184 = omega arith in
    let plain : (b == 255) ≡ false = (let t = g.table in grind (arith, nat_tests, t)) in
    let k = 183 - length section in
    let more : List ℕ = take k fill in
    let all : take 183 (section ++ fill) ≡ section ++ more = ap (λ (i : ℕ). take i (section ++ fill)) (let i : 183 ≡ length section + k = omega arith in i) ∙ take-append-add section fill k in
    let w = whole_collected section more g small in
    let rest : drop (section_length_of (section ++ more) + 3) (section ++ more) ≡ more = drop_at section more (section_length_of (section ++ more) + 3) (let a = g.whole in let c = w.2 in omega (arith, a, c)) in
    let none : sections_from 0 (drop (section_length_of (section ++ more) + 3) (section ++ more)) ≡ nothing = ap (sections_from 0) rest ∙ stuffing_none k m in
    first_load section counter q h
    ∙ ap (sections_from 0) all
    ∙ sections_whole b (bytes ++ more) plain w.0 w.1
    ∙ ap (behind (section ++ more)) none
    ∙ ap (λ (t : Told). record { begun = []; told = t ∷ []; ended = false }) w.3
last_read (b ∷ bytes) (suc k) counter q g small n h =
    let section : List ℕ = b ∷ bytes in
    let a = 184 * k + 183 in
    let fill : List ℕ = replicate (184 * packet_count_of section - (length section + 1)) 255 in
    let e : List ℕ = section ++ fill in
    let j = a + 184 - length section in
    let all : take (a + 184) e ≡ section ++ take j fill = ap (λ (i : ℕ). take i e) (let i : a + 184 ≡ length section + j = omega arith in i) ∙ take-append-add section fill j in
    let w = whole_collected section (take j fill) g small in
    later_load section k counter q h (omega arith)
    ∙ ap collected all
    ∙ collected_whole (section ++ take j fill) w.0 w.1
    ∙ ap (λ (t : Told). record { begun = []; told = t ∷ []; ended = false }) w.3

part_read : (section : List ℕ) (k counter : ℕ) (q : List ℕ) → IsGoodSection section → length section ≤ 1024 → k + 1 < packet_count_of section → IsPiece section k counter q → reading_of (begun_of section k) q ≡ part_reading section k
part_read [] k counter q g small n h = absurd (omega (arith, g.whole))
part_read (b ∷ bytes) zero counter q g small n h =
    let section : List ℕ = b ∷ bytes in
    let fill : List ℕ = replicate (184 * packet_count_of section - (length section + 1)) 255 in
    let plain : (b == 255) ≡ false = (let t = g.table in grind (arith, nat_tests, t)) in
    let all : take 183 (section ++ fill) ≡ take 183 section = take-append-le 183 section fill (omega arith) in
    let w = part_collected section 183 g small (omega arith) (omega arith) in
    first_load section counter q h
    ∙ ap (sections_from 0) all
    ∙ sections_begun b (take 182 bytes) plain w.0 w.1
    ∙ collected_begun (take 183 section) w.0 w.1
part_read (b ∷ bytes) (suc k) counter q g small n h =
    let section : List ℕ = b ∷ bytes in
    let a = 184 * k + 183 in
    let fill : List ℕ = replicate (184 * packet_count_of section - (length section + 1)) 255 in
    let e : List ℕ = section ++ fill in
    let all : take (a + 184) e ≡ take (a + 184) section = take-append-le (a + 184) section fill (omega arith) in
    let w = part_collected section (a + 184) g small (omega arith) (omega arith) in
    let next : a + 184 ≡ 184 * suc k + 183 = omega arith in
    later_load section k counter q h (omega arith)
    ∙ ap collected all
    ∙ collected_begun (take (a + 184) section) w.0 w.1
    ∙ ap (λ (i : ℕ). record { begun = take i section; told = []; ended = false }) next

-- ---- one packet

-- a state behind n packets of the repetition; the next packet has the counter that follows so many packets
pub record IsBehind (section : List ℕ) (n count : ℕ) (s : AssemblerState) : Type 0 where
  pub begun : s.begun ≡ begun_of section (n % packet_count_of section)
  pub skipped : s.skipped ≡ false
  pub new : (q : List ℕ) → continuity_counter_of q ≡ count % 16 → is_repeat s.last q ≡ false
  pub follows : (q : List ℕ) → continuity_counter_of q ≡ count % 16 → is_discontinuous s.last q ≡ false

-- before the first packet of a section nothing is begun
first_place : (section : List ℕ) → 0 % packet_count_of section ≡ 0
first_place section =
    let c = packet_count_of section in
    let e : 0 * c + 0 ≡ 0 = omega arith in
    ap (λ k. k % c) (sym e) ∙ mod-mul-add 0 c 0 (omega arith)

pub starts : (section : List ℕ) (count : ℕ) → IsBehind section 0 count fresh
starts section count = record { begun = ap (begun_of section) (sym (first_place section)); skipped = refl; new = λ q e. refl; follows = λ q e. refl }

-- where all packets of a section came, any other section may follow
pub begins_anew : (section other : List ℕ) (n count : ℕ) (s : AssemblerState) → IsBehind section n count s → n % packet_count_of section ≡ 0 → IsBehind other 0 count s
begins_anew section other n count s b z = record {
  begun = b.begun ∙ ap (begun_of section) z ∙ ap (begun_of other) (sym (first_place other));
  skipped = b.skipped;
  new = b.new;
  follows = b.follows;
}

-- the state behind a packet with this counter
reads : (section begun q : List ℕ) (n count : ℕ) → continuity_counter_of q ≡ count % 16 → begun ≡ begun_of section (suc n % packet_count_of section)
    → IsBehind section (suc n) (suc count) (record { begun = begun; last = Some q; skipped = false })
reads section begun q n count c b = record {
  begun = b;
  skipped = refl;
  new = λ r e. false_from_ne_true (is_copy q r) (λ (t : is_copy q r ≡ true). let same = counter_copy q r t in absurd (omega (arith, same, c, e)));
  follows = λ r e. let next : (continuity_counter_of r == (continuity_counter_of q + 1) % 16) ≡ true = eq-eqb _ _ (omega (arith, c, e)) in ap not next;
}

read_by : (section : List ℕ) (n count : ℕ) (s : AssemblerState) (q : List ℕ) (r : Reading) → IsBehind section n count s → has_payload_of q ≡ true → continuity_counter_of q ≡ count % 16
    → reading_of (begun_of section (n % packet_count_of section)) q ≡ r → packet_told s q ≡ read_with [] q r
read_by section n count s q r b h c e =
    let fresh_one = b.new q c in
    let skipped = b.skipped in
    packet_read s q h (rw (skipped, fresh_one) refl) (b.follows q c)
    ∙ ap (λ (l : List ℕ). read_with [] q (reading_of l q)) b.begun
    ∙ ap (read_with [] q) e

-- one more, in the same turn or as the first of the next
next_in : (n c : ℕ) → n % c + 1 < c → suc n % c ≡ suc (n % c)
next_in n c l =
    let whole = div-add-mod' n c in
    let e : n / c * c + suc (n % c) ≡ suc n = omega arith in
    ap (λ k. k % c) (sym e) ∙ mod-mul-add (n / c) c (suc (n % c)) (omega arith)

next_turn : (n c : ℕ) → n % c + 1 ≡ c → suc n % c ≡ 0
next_turn n c l =
    let whole = div-add-mod' n c in
    let more : (n / c + 1) * c ≡ n / c * c + c = omega arith in
    let e : (n / c + 1) * c + 0 ≡ suc n = omega arith in
    ap (λ k. k % c) (sym e) ∙ mod-mul-add (n / c + 1) c 0 (omega arith)

-- what a packet of the repetition tells, and the state behind it
pub record Tells (section : List ℕ) (n count : ℕ) (s : AssemblerState) (q : List ℕ) : Type 0 where
  pub behind : IsBehind section (suc n) (suc count) (packet_told s q).state
  pub none : n % packet_count_of section + 1 < packet_count_of section → (packet_told s q).told ≡ []
  pub some : n % packet_count_of section + 1 ≡ packet_count_of section → (packet_told s q).told ≡ told_of section ∷ []

pub tells : (section : List ℕ) (n count : ℕ) (s : AssemblerState) (q : List ℕ) → IsGoodSection section → length section ≤ 1024 → IsBehind section n count s
    → IsPiece section (n % packet_count_of section) (count % 16) q → Tells section n count s q
tells section n count s q g small b h =
    let c = packet_count_of section in
    let positive : 0 < c = omega arith in
    let below = mod_below n c positive in
    elim (cases_lt (n % c + 1) c) [
      | inl l ↦
          let step = read_by section n count s q (part_reading section (n % c)) b h.loaded h.counter (part_read section (n % c) (count % 16) q g small l h) in
          let to = next_in n c l in
          record {
            behind = subst (λ (x : Step). IsBehind section (suc n) (suc count) x.state) (sym step) (reads section (begun_of section (suc (n % c))) q n count h.counter (ap (begun_of section) (sym to)));
            none = λ _. ap (λ (x : Step). x.told) step;
            some = λ e. absurd (omega arith);
          }
      | inr l ↦
          let last : n % c + 1 ≡ c = omega arith in
          let step = read_by section n count s q (whole_reading section) b h.loaded h.counter (last_read section (n % c) (count % 16) q g small last h) in
          let to = next_turn n c last in
          record {
            behind = subst (λ (x : Step). IsBehind section (suc n) (suc count) x.state) (sym step) (reads section [] q n count h.counter (ap (begun_of section) (sym to)));
            none = λ e. absurd (omega arith);
            some = λ _. ap (λ (x : Step). x.told) step;
          }
    ]

-- ---- all packets

-- the packets are those of the repetition from number n on, with counters that follow so many packets
abbrev pub AreRepeated : List ℕ → ℕ → ℕ → List (List ℕ) → Type 0
AreRepeated section n count sent = (k : ℕ) (q : List ℕ) → slice_get sent k ≡ Some q → IsPiece section ((n + k) % packet_count_of section) ((count + k) % 16) q

repeated_head : (section : List ℕ) (n count : ℕ) (q : List ℕ) (sent : List (List ℕ)) → AreRepeated section n count (q ∷ sent) → IsPiece section (n % packet_count_of section) (count % 16) q
repeated_head section n count q sent h =
    let e : n + 0 ≡ n = omega arith in
    let f : count + 0 ≡ count = omega arith in
    subst (λ (m : ℕ). IsPiece section (n % packet_count_of section) (m % 16) q) f (subst (λ (m : ℕ). IsPiece section (m % packet_count_of section) ((count + 0) % 16) q) e (h 0 q refl))

repeated_tail : (section : List ℕ) (n count : ℕ) (q : List ℕ) (sent : List (List ℕ)) → AreRepeated section n count (q ∷ sent) → AreRepeated section (suc n) (suc count) sent
repeated_tail section n count q sent h = λ k r at.
    let e : n + suc k ≡ suc n + k = omega arith in
    let f : count + suc k ≡ suc count + k = omega arith in
    subst (λ (m : ℕ). IsPiece section ((suc n + k) % packet_count_of section) (m % 16) r) f (subst (λ (m : ℕ). IsPiece section (m % packet_count_of section) ((count + suc k) % 16) r) e (h (suc k) r at))

pub all_behind : (section : List ℕ) (n count : ℕ) (s : AssemblerState) (sent : List (List ℕ)) → IsGoodSection section → length section ≤ 1024 → IsBehind section n count s → AreRepeated section n count sent
    → IsBehind section (n + length sent) (count + length sent) (state_behind s sent)
all_behind section n count s [] g small b h =
    let e : n ≡ n + 0 = omega arith in
    let f : count ≡ count + 0 = omega arith in
    subst (λ (m : ℕ). IsBehind section (n + 0) m s) f (subst (λ (m : ℕ). IsBehind section m count s) e b)
all_behind section n count s (q ∷ sent) g small b h =
    let one = tells section n count s q g small b (repeated_head section n count q sent h) in
    let e : suc n + length sent ≡ n + suc (length sent) = omega arith in
    let f : suc count + length sent ≡ count + suc (length sent) = omega arith in
    let state = state_behind (packet_told s q).state sent in
    subst (λ (m : ℕ). IsBehind section (n + suc (length sent)) m state) f
    (subst (λ (m : ℕ). IsBehind section m (suc count + length sent) state) e
    (all_behind section (suc n) (suc count) (packet_told s q).state sent g small one.behind (repeated_tail section n count q sent h)))
