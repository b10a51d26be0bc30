-- A begun section that is no PMT, behind one more packet.
use Rattle.std.proofs.Common.{◌≡◌, ◌≢◌, ℕ, ◌+◌, ◌-◌, ◌/◌, ◌%◌, ◌<◌, ◌≤◌, List, [], ◌∷◌, ◌++◌, length, take, drop, get_or, refl, sym, ◌∙◌, ap, subst, arith, Option, Some, None, Bool, true, false, ◌&&◌, ◌==◌, not, ⊎_elim}
use Rattle.std.specs.Prelude.{slice_index, nat_lt, filter_map}
use Rattle.std.proofs.lemmas.Bool.{cases_Bool, cases_lt, false_from_ne_true, not-false, not-true}
use Rattle.std.proofs.lemmas.Bool.Decides.{nat_tests, Decides-eqb}
use Rattle.std.proofs.lemmas.List.{length-append, length-take, get_or_append_left, get_or-take}
use Rattle.std.proofs.lemmas.List.Elements.{filter_map-append}
use Rattle.std.specs.Str.{bytes_eq}
use Rattle.std.proofs.lemmas.Slice.Eq.{bytes_eq-Decides}
use Rattle.tspkt.specs.Bits.{field}
use Rattle.tspkt.specs.Packet.{has_payload_of, payload_unit_start_indicator_of, payload_of, continuity_counter_of, pcr_flag_of}
use Rattle.tspkt.specs.Counters.{is_equal_but_pcr, is_copy}
use Rattle.tspkt.proofs.PacketFields.{unit_start_at}
use Rattle.section.specs.Crc.{crc_of}
use Rattle.section.specs.Section.{section_length_of, first_section}
use Rattle.section.specs.Assembled.{Reading, nothing, collected, told_of_whole, sections_from, ending, cut, followed_by, has_pointer, payload_told, AssemblerState, Step, fresh, packet_told, is_repeat, is_discontinuous, read_with}
use Rattle.section.specs.declared.told.Told.{Told}
use Rattle.section.proofs.SectionLaws.{section_length_of-append}
use Rattle.section.proofs.CollectLaws.{is_too_long-fits, is_whole-true, is_whole-partial, collected_whole, collected_begun}
use Rattle.section.proofs.SectionsLaws.{ending-begun, sections_begun}
use Rattle.section.proofs.FoundLaws.{and_left, and_right, packet_skipped, packet_broken, packet_read}
use Rattle.section.proofs.FoundAgainLaws.{payload_ending}
use Rattle.tables.specs.Header.{header_of}
use Rattle.tables.specs.Pmt.{PmtValue, pmt_of}
use Rattle.tables.specs.OnPid.{section_in, value_of}
use Rattle.analyse.specs.ToldPmts.{pmts_in}
use Rattle.analyse.specs.UnreadSections.{Lacks, UnreadState, IsUnread, has_start, IsBetween, IsReadAsFirst, IsPassed, IsReadAnew, is_next}
use Rattle.analyse.proofs.TableIdLaws.{table_id_at}

-- ---- a section with another table_id is no PMT

other_pmt : (b : List ℕ) → field b 0 8 ≢ 0x02 → 3 ≤ length b → value_of (pmt_of b) ≡ None
unfolding header_of
other_pmt b other long =
    let short : nat_lt (length b) 3 ≡ false = grind (arith, nat_tests) in
    let wrong : (field b 0 8 == 0x02) ≡ false = false_from_ne_true _ (λ t. other ((Decides-eqb (field b 0 8) 0x02).0 t)) in
    rw (short, wrong) refl

other_told : (b : List ℕ) → field b 0 8 ≢ 0x02 → 3 ≤ length b → pmts_in (told_of_whole b ∷ []) ≡ []
other_told b other long =
    let none = other_pmt b other long in
    ⊎_elim
    (λ (good : (crc_of b == 0) ≡ true). rw good (rw none refl))
    (λ (bad : (crc_of b == 0) ≡ false). rw bad refl)
    (cases_Bool (crc_of b == 0))

pmts_in-append : (xs ys : List Told) → pmts_in (xs ++ ys) ≡ pmts_in xs ++ pmts_in ys
pmts_in-append xs ys =
    ap (filter_map (λ b. value_of (pmt_of b))) (filter_map-append section_in xs ys)
    ∙ filter_map-append (λ b. value_of (pmt_of b)) (filter_map section_in xs) (filter_map section_in ys)

-- ---- the bytes of the section, and more

table_id-append : (a b : List ℕ) → 3 ≤ length a → field (a ++ b) 0 8 ≡ field a 0 8
table_id-append a b h = table_id_at (a ++ b) ∙ ap (λ (n : ℕ). n % 256) (get_or_append_left a b 0 0 (omega arith)) ∙ sym (table_id_at a)

table_id-take : (n : ℕ) (a : List ℕ) → 0 < n → field (take n a) 0 8 ≡ field a 0 8
table_id-take n a h = table_id_at (take n a) ∙ ap (λ (k : ℕ). k % 256) (get_or-take n a 0 0 h) ∙ sym (table_id_at a)

-- so many bytes more, and the section still lacks some
lacks_more : (n : ℕ) (a b : List ℕ) → Lacks n a → length b < n → Lacks (n - length b) (a ++ b)
lacks_more n a b l h =
    let size = length-append a b in
    let same = section_length_of-append a b l.header in
    record {
      header = omega (arith, l.header, size);
      other = λ e. l.other (sym (table_id-append a b l.header) ∙ e);
      fits = omega (arith, l.fits, same);
      sum = omega (arith, l.sum, same, size);
      some = omega arith;
    }

lacks_begun : (n : ℕ) (a : List ℕ) → Lacks n a → collected a ≡ record { begun = a; told = []; ended = false }
lacks_begun n a l = collected_begun a (is_too_long-fits a l.fits) (is_whole-partial a (omega (arith, l.sum, l.some)))

lacks_some : (n : ℕ) (a : List ℕ) → Lacks n a → (length a == 0) ≡ false
lacks_some n a l = let h = l.header in grind (arith, nat_tests)

-- what a reading of its end tells: no PMT
pub record Ends (r : Reading) : Type 0 where
  pub ended : r.ended ≡ false
  pub told : pmts_in (r.told ++ cut r.begun) ≡ []

ends_same : (r s : Reading) → r ≡ s → Ends s → Ends r
ends_same r s e x = let P : Reading → Type 0 = λ y. Ends y in subst P (sym e) x

lacks_none : (n : ℕ) (a b : List ℕ) → Lacks n a → n ≤ length b → collected (a ++ b) ≡ record { begun = []; told = told_of_whole (first_section (a ++ b)) ∷ []; ended = false }
lacks_none n a b l h =
    let size = length-append a b in
    let same = section_length_of-append a b l.header in
    let header = l.header in
    let fits = l.fits in
    let sum = l.sum in
    collected_whole (a ++ b) (is_too_long-fits (a ++ b) (omega arith)) (is_whole-true (a ++ b) (omega arith) (omega arith))

first_told : (n : ℕ) (a b : List ℕ) → Lacks n a → n ≤ length b → pmts_in (told_of_whole (first_section (a ++ b)) ∷ []) ≡ []
first_told n a b l h =
    let xs = a ++ b in
    let size = length-append a b in
    let same = section_length_of-append a b l.header in
    let header = l.header in
    let sum = l.sum in
    let long : length (first_section xs) ≡ section_length_of xs + 3 = length-take (section_length_of xs + 3) xs ∙ omega arith in
    other_told (first_section xs)
    (λ e. l.other (sym (table_id-append a b header) ∙ sym (table_id-take (section_length_of xs + 3) xs (omega arith)) ∙ e))
    (omega (arith, long))

ends_collected : (n : ℕ) (a b : List ℕ) → Lacks n a → Ends (collected (a ++ b))
ends_collected n a b l =
    ⊎_elim
    (λ (few : length b < n).
    let more = lacks_more n a b l few in
    let some = lacks_some (n - length b) (a ++ b) more in
    ends_same _ _ (lacks_begun (n - length b) (a ++ b) more) (record { ended = refl; told = rw some refl }))
    (λ (all : n ≤ length b).
    ends_same _ _ (lacks_none n a b l all) (record { ended = refl; told = first_told n a b l all }))
    (cases_lt (length b) n)

-- ---- readings

cut_none : (b : List ℕ) → pmts_in (cut b) ≡ []
cut_none b =
    ⊎_elim (λ (e : (length b == 0) ≡ true). rw e refl) (λ (e : (length b == 0) ≡ false). rw e refl) (cases_Bool (length b == 0))

none_before : (xs ys : List Told) → pmts_in xs ≡ [] → pmts_in (xs ++ ys) ≡ pmts_in ys
none_before xs ys e = pmts_in-append xs ys ∙ ap (λ (l : List PmtValue). l ++ pmts_in ys) e

-- the same is left, and the same PMTs are told
record TellsSame (r t : Reading) : Type 0 where
  begun : r.begun ≡ t.begun
  pmts : pmts_in r.told ≡ pmts_in t.told

followed : (first later : Reading) → Ends first → TellsSame (followed_by first later) (followed_by nothing later)
followed first later e =
    let ended = e.ended in
    let same : followed_by first later ≡ record { begun = later.begun; told = (first.told ++ cut first.begun) ++ later.told; ended = later.ended } = rw ended refl in
    record {
      begun = ap (λ (r : Reading). r.begun) same;
      pmts = ap (λ (r : Reading). pmts_in r.told) same ∙ none_before (first.told ++ cut first.begun) later.told e.told;
    }

started_same : (n : ℕ) (b payload : List ℕ) → Lacks n b → TellsSame (payload_told b true payload) (payload_told [] true payload)
unfolding payload_told
started_same n b payload l =
    ⊎_elim
    (λ (w : has_pointer payload ≡ true).
    let x = take (slice_index payload 0) (drop 1 payload) in
    let later = sections_from 0 (drop (1 + slice_index payload 0) payload) in
    let e = ends_same _ _ (ending-begun b x (lacks_some n b l)) (ends_collected n b x l) in
    rw w (followed (ending b x) later e))
    (λ (w : has_pointer payload ≡ false). rw w (record { begun = refl; pmts = cut_none b }))
    (cases_Bool (has_pointer payload))

-- a section that begins and goes on
sections_lacking : (n : ℕ) (xs : List ℕ) → Lacks n xs → get_or xs 0 0 ≢ 255 → sections_from 0 xs ≡ record { begun = xs; told = []; ended = false }
sections_lacking n [] l plain = let h = l.header in absurd (omega arith)
sections_lacking n (b ∷ bytes) l plain =
    let whole = is_whole-partial (b ∷ bytes) (omega (arith, l.sum, l.some)) in
    let other : (b == 255) ≡ false = false_from_ne_true (b == 255) (λ t. plain ((Decides-eqb b 255).0 t)) in
    sections_begun b bytes other (is_too_long-fits (b ∷ bytes) l.fits) whole ∙ lacks_begun n (b ∷ bytes) l

started : (n : ℕ) (payload xs : List ℕ) → has_pointer payload ≡ true → xs ≡ drop (1 + slice_index payload 0) payload → Lacks n xs → get_or xs 0 0 ≢ 255 → payload_told [] true payload ≡ record { begun = xs; told = []; ended = false }
unfolding payload_told
started n payload xs w e l plain =
    rw w (ap (λ (r : Reading). followed_by nothing r) (ap (sections_from 0) (sym e) ∙ sections_lacking n xs l plain))

-- ---- packets

first_packet : (p : List ℕ) → has_payload_of p ≡ true → packet_told fresh p ≡ read_with [] p (payload_told [] (payload_unit_start_indicator_of p) (payload_of p))
first_packet p h = packet_read fresh p h refl refl

-- a packet in which a section begins that is no PMT and goes on
pub begun_first : (n : ℕ) (p xs : List ℕ) → has_payload_of p ≡ true → payload_unit_start_indicator_of p ≡ true → has_pointer (payload_of p) ≡ true → xs ≡ drop (1 + slice_index (payload_of p) 0) (payload_of p) → Lacks n xs → slice_index xs 0 ≢ 255 → packet_told fresh p ≡ record { state = record { begun = xs; last = Some p; skipped = false }; told = [] }
begun_first n p xs h s w e l plain =
    first_packet p h
    ∙ ap (λ (b : Bool). read_with [] p (payload_told [] b (payload_of p))) s
    ∙ ap (read_with [] p) (started n (payload_of p) xs w e l plain)

pub unread_first : (n : ℕ) (p xs : List ℕ) → Lacks n xs → packet_told fresh p ≡ record { state = record { begun = xs; last = Some p; skipped = false }; told = [] } → IsUnread (record { lacks = n; last = p; skipped = false }) (packet_told fresh p).state
unread_first n p xs l e =
    let P : Step → Type 0 = λ x. IsUnread (record { lacks = n; last = p; skipped = false }) x.state in
    subst P (sym e) (record { begun = l; last = refl; skipped = refl })

passed_by : (s : AssemblerState) (p : List ℕ) (told : List Told) (k : Bool) → packet_told s p ≡ record { state = record { begun = []; last = Some p; skipped = k }; told = told } → pmts_in told ≡ [] → payload_unit_start_indicator_of p ≡ false → IsPassed s p
passed_by s p told k e none start =
    let P : AssemblerState → Type 0 = λ x. IsBetween x in
    record {
      state = subst P (sym (ap (λ (x : Step). x.state) e)) (record { begun = refl; last = start });
      pmts = ap (λ (x : Step). pmts_in x.told) e ∙ none;
    }

first_by : (s : AssemblerState) (p : List ℕ) (before : List Told) (r : Reading) → has_payload_of p ≡ true → packet_told s p ≡ read_with before p r → pmts_in before ≡ [] → TellsSame r (payload_told [] (payload_unit_start_indicator_of p) (payload_of p)) → IsReadAsFirst s p
first_by s p before r h e none same =
    let f = first_packet p h in
    record {
      state =
          ap (λ (x : Step). x.state) e
          ∙ ap (λ (b : List ℕ). record { begun = b; last = Some p; skipped = false }) same.begun
          ∙ sym (ap (λ (x : Step). x.state) f);
      pmts =
          ap (λ (x : Step). pmts_in x.told) e ∙ none_before before r.told none ∙ same.pmts
          ∙ sym (ap (λ (x : Step). pmts_in x.told) f);
    }

-- a packet behind one that doesn't come before it
broken_anew : (s : AssemblerState) (p : List ℕ) → has_payload_of p ≡ true → (not s.skipped && is_repeat s.last p) ≡ false → is_discontinuous s.last p ≡ true → IsReadAnew s p
broken_anew s p h c d =
    let e = packet_broken s p h c d in
    record {
      first = λ start. first_by s p (cut s.begun) (payload_told [] (payload_unit_start_indicator_of p) (payload_of p)) h e (cut_none s.begun) (record { begun = refl; pmts = refl });
      passed = λ start.
          passed_by s p (cut s.begun ++ []) false
          (e ∙ ap (λ (b : Bool). read_with (cut s.begun) p (payload_told [] b (payload_of p))) start ∙ ap (read_with (cut s.begun) p) (payload_ending [] (payload_of p)))
          (none_before (cut s.begun) [] (cut_none s.begun)) start;
    }

true_is_false : {A : Type 0} (b : Bool) → b ≡ true → b ≡ false → A
true_is_false b t f = absurd (cc)

started_anew : (n : ℕ) (s : AssemblerState) (p : List ℕ) → Lacks n s.begun → has_payload_of p ≡ true → (not s.skipped && is_repeat s.last p) ≡ false → is_discontinuous s.last p ≡ false → payload_unit_start_indicator_of p ≡ true → IsReadAnew s p
started_anew n s p l h c d start =
    let e = packet_read s p h c d in
    let P : Bool → Type 0 = λ b. TellsSame (payload_told s.begun b (payload_of p)) (payload_told [] b (payload_of p)) in
    record {
      first = λ t. first_by s p [] (payload_told s.begun (payload_unit_start_indicator_of p) (payload_of p)) h e refl (subst P (sym start) (started_same n s.begun (payload_of p) l));
      passed = λ f. true_is_false _ start f;
    }

ended_anew : (n : ℕ) (s : AssemblerState) (p : List ℕ) → Lacks n s.begun → has_payload_of p ≡ true → (not s.skipped && is_repeat s.last p) ≡ false → is_discontinuous s.last p ≡ false → payload_unit_start_indicator_of p ≡ false → n ≤ length (payload_of p) → IsReadAnew s p
ended_anew n s p l h c d start all =
    let payload = payload_of p in
    let e =
    packet_read s p h c d
    ∙ ap (λ (b : Bool). read_with [] p (payload_told s.begun b payload)) start
    ∙ ap (read_with [] p) (payload_ending s.begun payload ∙ ending-begun s.begun payload (lacks_some n s.begun l) ∙ lacks_none n s.begun payload l all) in
    record {
      first = λ t. true_is_false _ t start;
      passed = λ f. passed_by s p _ false e (first_told n s.begun payload l all) start;
    }

-- ---- a packet behind an unread section

module _ (u : UnreadState) (s : AssemblerState) (p : List ℕ) (i : IsUnread u s) (h : has_payload_of p ≡ true) where
  skip_test : (not s.skipped && is_repeat s.last p) ≡ (not u.skipped && is_copy u.last p)
  skip_test = let a = i.skipped in let b = i.last in rw (a, b) refl

  next_test : is_discontinuous s.last p ≡ not (continuity_counter_of p == (continuity_counter_of u.last + 1) % 16)
  next_test = let b = i.last in rw b refl

  pub copied : (not u.skipped && is_copy u.last p) ≡ true → IsUnread (record { lacks = u.lacks; last = p; skipped = true }) (packet_told s p).state × (pmts_in (packet_told s p).told ≡ [])
  copied c =
      let e = packet_skipped s p h (skip_test ∙ c) in
      let P : Step → Type 0 = λ x. IsUnread (record { lacks = u.lacks; last = p; skipped = true }) x.state × (pmts_in x.told ≡ []) in
      subst P (sym e) (record { begun = i.begun; last = refl; skipped = refl }, refl)

  pub grown : (not u.skipped && is_copy u.last p) ≡ false → is_next u p ≡ true → length (payload_of p) < u.lacks → IsUnread (record { lacks = u.lacks - length (payload_of p); last = p; skipped = false }) (packet_told s p).state × (pmts_in (packet_told s p).told ≡ [])
  grown c next few =
      let payload = payload_of p in
      let start : payload_unit_start_indicator_of p ≡ false = not-true _ (and_left _ _ next) in
      let more = lacks_more u.lacks s.begun payload i.begun few in
      let e =
      packet_read s p h (skip_test ∙ c) (next_test ∙ ap not (and_right _ _ next))
      ∙ ap (λ (b : Bool). read_with [] p (payload_told s.begun b payload)) start
      ∙ ap (read_with [] p) (payload_ending s.begun payload ∙ ending-begun s.begun payload (lacks_some u.lacks s.begun i.begun) ∙ lacks_begun (u.lacks - length payload) (s.begun ++ payload) more) in
      let P : Step → Type 0 = λ x. IsUnread (record { lacks = u.lacks - length payload; last = p; skipped = false }) x.state × (pmts_in x.told ≡ []) in
      subst P (sym e) (record { begun = more; last = refl; skipped = refl }, refl)

  pub not_next : (not u.skipped && is_copy u.last p) ≡ false → is_next u p ≡ false → IsReadAnew s p
  not_next c next =
      ⊎_elim
      (λ (d : is_discontinuous s.last p ≡ true). broken_anew s p h (skip_test ∙ c) d)
      (λ (d : is_discontinuous s.last p ≡ false).
      started_anew u.lacks s p i.begun h (skip_test ∙ c) d (start_left _ _ next (not-false _ (sym next_test ∙ d))))
      (cases_Bool (is_discontinuous s.last p))
    where
      start_left : (a b : Bool) → (not a && b) ≡ false → b ≡ true → a ≡ true
      start_left true b e t = refl
      start_left false b e t = absurd (cc)

  pub ended : (not u.skipped && is_copy u.last p) ≡ false → is_next u p ≡ true → u.lacks ≤ length (payload_of p) → IsReadAnew s p
  ended c next all =
      let start : payload_unit_start_indicator_of p ≡ false = not-true _ (and_left _ _ next) in
      ended_anew u.lacks s p i.begun h (skip_test ∙ c) (next_test ∙ ap not (and_right _ _ next)) start all

-- ---- a packet where no section is begun

second_byte : (a b : List ℕ) → is_equal_but_pcr a b ≡ true → get_or a 1 0 ≡ get_or b 1 0
unfolding is_equal_but_pcr
second_byte a b h =
    ⊎_elim
    (λ (t : (pcr_flag_of a && pcr_flag_of b) ≡ true).
    let k : (bytes_eq (take 6 a) (take 6 b) && bytes_eq (drop 12 a) (drop 12 b)) ≡ true = rw t at h in
    let same = (bytes_eq-Decides (take 6 a) (take 6 b)).0 (and_left _ _ k) in
    sym (get_or-take 6 a 1 0 (omega arith)) ∙ ap (λ (l : List ℕ). get_or l 1 0) same ∙ get_or-take 6 b 1 0 (omega arith))
    (λ (f : (pcr_flag_of a && pcr_flag_of b) ≡ false).
    let k : bytes_eq a b ≡ true = rw f at h in
    ap (λ (l : List ℕ). get_or l 1 0) ((bytes_eq-Decides a b).0 k))
    (cases_Bool (pcr_flag_of a && pcr_flag_of b))

start_copy : (a b : List ℕ) → is_copy a b ≡ true → payload_unit_start_indicator_of a ≡ payload_unit_start_indicator_of b
unfolding is_copy
start_copy a b h =
    let same = second_byte a b (and_right _ _ h) in
    ap (λ (n : ℕ). n == 1) (unit_start_at a ∙ ap (λ (n : ℕ). n / 64 % 2) same ∙ sym (unit_start_at b))

not_repeat : (last : Option (List ℕ)) (p : List ℕ) → has_start last ≡ false → payload_unit_start_indicator_of p ≡ true → is_repeat last p ≡ false
not_repeat None p off on = refl
not_repeat (Some last) p off on = false_from_ne_true _ (λ c. true_is_false _ (start_copy last p c ∙ on) off)

and_false : (a b : Bool) → b ≡ false → (a && b) ≡ false
and_false true b e = e
and_false false b e = refl

pub between_passed : (s : AssemblerState) (p : List ℕ) → s.begun ≡ [] → has_payload_of p ≡ true → payload_unit_start_indicator_of p ≡ false → IsPassed s p
between_passed s p none h start =
    ⊎_elim
    (λ (c : (not s.skipped && is_repeat s.last p) ≡ true).
    passed_by s p [] true (packet_skipped s p h c ∙ ap (λ (b : List ℕ). record { state = record { begun = b; last = Some p; skipped = true }; told = [] }) none) refl start)
    (λ (c : (not s.skipped && is_repeat s.last p) ≡ false).
    ⊎_elim
    (λ (d : is_discontinuous s.last p ≡ true). (broken_anew s p h c d).passed start)
    (λ (d : is_discontinuous s.last p ≡ false).
    passed_by s p [] false
    (packet_read s p h c d
    ∙ ap (λ (b : Bool). read_with [] p (payload_told s.begun b (payload_of p))) start
    ∙ ap (λ (b : List ℕ). read_with [] p (payload_told b false (payload_of p))) none
    ∙ ap (read_with [] p) (payload_ending [] (payload_of p)))
    refl start)
    (cases_Bool (is_discontinuous s.last p)))
    (cases_Bool (not s.skipped && is_repeat s.last p))

between_first : (s : AssemblerState) (p : List ℕ) → IsBetween s → has_payload_of p ≡ true → payload_unit_start_indicator_of p ≡ true → IsReadAsFirst s p
between_first s p i h start =
    let c = and_false (not s.skipped) _ (not_repeat s.last p i.last start) in
    ⊎_elim
    (λ (d : is_discontinuous s.last p ≡ true). (broken_anew s p h c d).first start)
    (λ (d : is_discontinuous s.last p ≡ false).
    first_by s p [] (payload_told [] (payload_unit_start_indicator_of p) (payload_of p)) h
    (packet_read s p h c d ∙ ap (λ (b : List ℕ). read_with [] p (payload_told b (payload_unit_start_indicator_of p) (payload_of p))) i.begun)
    refl (record { begun = refl; pmts = refl }))
    (cases_Bool (is_discontinuous s.last p))

pub between_anew : (s : AssemblerState) (p : List ℕ) → IsBetween s → has_payload_of p ≡ true → IsReadAnew s p
between_anew s p i h = record {
  first = λ start. between_first s p i h start;
  passed = λ start. between_passed s p i.begun h start;
}

nil_from_length : (b : List ℕ) → not (length b == 0) ≡ false → b ≡ []
nil_from_length [] e = refl
nil_from_length (x ∷ b) e = absurd (grind (arith, nat_tests))

-- nothing is begun, and no section begins in the packet
pub rest_anew : (s : AssemblerState) (p : List ℕ) → not (length s.begun == 0) ≡ false → has_payload_of p ≡ true → payload_unit_start_indicator_of p ≡ false → IsReadAnew s p
rest_anew s p none h start = record {
  first = λ t. true_is_false _ t start;
  passed = λ f. between_passed s p (nil_from_length s.begun none) h start;
}
