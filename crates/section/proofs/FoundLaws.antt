-- Each section that is told was there.
use Rattle.std.proofs.Common.{◌≡◌, ℕ, zero, suc, ◌+◌, ◌%◌, List, [], ◌∷◌, ◌++◌, length, take, drop, slice_index, if◌then◌else◌, ◌==◌, refl, sym, ◌∙◌, ap, subst, arith, Bool, true, false, not, ◌&&◌, ◌⊎◌, inl, inr, ⊎_elim, Option, Some}
use Rattle.std.specs.Bool.{⊤}
use Rattle.std.proofs.lemmas.List.{append_assoc, append-nil, take-append-drop, drop-drop, length-take}
use Rattle.std.proofs.lemmas.List.Elements.{All-nil, All-cons, All-append, All-weaker}
use Rattle.std.proofs.lemmas.List.Concat.{flat_map-append}
use Rattle.std.proofs.lemmas.Bool.{cases_Bool, false≢true, eqb-true, not-false}
use Rattle.std.proofs.lemmas.Bool.Decides.{nat_tests}
use Rattle.std.specs.List.{All, flat_map}
use Rattle.tspkt.specs.Packet.{has_payload_of, payload_unit_start_indicator_of, payload_of, continuity_counter_of}
use Rattle.tspkt.specs.Counters.{is_copy}
use Rattle.section.specs.Crc.{crc_of}
use Rattle.section.specs.Section.{section_length_of, is_too_long, is_whole, first_section}
use Rattle.section.specs.Assembled.{Reading, nothing, collected, told_of_whole, sections_from, ending, cut, followed_by, has_pointer, payload_told, AssemblerState, Step, packet_told, read_with, is_repeat, is_discontinuous, assembled_from, assembled, fresh}
use Rattle.section.specs.Found.{kept_behind, kept, body_of, AreConsecutive, IsRunIn, IsFoundIfSection}
use Rattle.section.specs.declared.told.Told.{Told}
use Rattle.section.specs.declared.told.Told.TheVariants.{Section, BadCrc, TooLong, Cut}
use Rattle.section.proofs.SectionLaws.{section_length_of-append}
use Rattle.section.proofs.CollectLaws.{collected_too_long, collected_whole, collected_begun}
use Rattle.section.proofs.SectionsLaws.{whole_fits, sections_stuffing, sections_too_long, sections_begun, sections_one, behind}

-- a section among bytes
record Among (bytes section : List ℕ) : Type 0 where
  before : List ℕ
  behind : List ℕ
  parts : bytes ≡ before ++ section ++ behind
  whole : length section ≡ section_length_of section + 3
  crc : crc_of section ≡ 0

abbrev AmongIfSection : List ℕ → Told → Type 0
AmongIfSection bytes (Section section) = Among bytes section.items
AmongIfSection bytes BadCrc = ⊤
AmongIfSection bytes TooLong = ⊤
AmongIfSection bytes Cut = ⊤

-- a reading of bytes: its sections are among them, and what it leaves begun ends them
record Reads-among (bytes : List ℕ) (r : Reading) : Type 0 where
  told : All (AmongIfSection bytes) r.told
  rest : List ℕ
  begun : bytes ≡ rest ++ r.begun

among_same : (xs ys section : List ℕ) (before behind : List ℕ) → ys ≡ (before ++ xs) ++ behind → Among xs section → Among ys section
among_same xs ys section before behind e a = record {
  before = before ++ a.before;
  behind = a.behind ++ behind;
  parts =
      e
      ∙ ap (λ (l : List ℕ). (before ++ l) ++ behind) a.parts
      ∙ simp append_assoc;
  whole = a.whole;
  crc = a.crc;
}

among_more : (xs ys : List ℕ) (before behind : List ℕ) → ys ≡ (before ++ xs) ++ behind → (t : Told) → AmongIfSection xs t → AmongIfSection ys t
among_more xs ys before behind e (Section section) a = among_same xs ys section.items before behind e a
among_more xs ys before behind e BadCrc a = a
among_more xs ys before behind e TooLong a = a
among_more xs ys before behind e Cut a = a

all_more : (xs ys : List ℕ) (before behind : List ℕ) → ys ≡ (before ++ xs) ++ behind → (ts : List Told) → All (AmongIfSection xs) ts → All (AmongIfSection ys) ts
all_more xs ys before behind e ts a = All-weaker (AmongIfSection xs) (AmongIfSection ys) (λ t h. among_more xs ys before behind e t h) ts a

-- what a reading tells has the length that it says
first_whole : (xs : List ℕ) → is_whole xs ≡ true → length (first_section xs) ≡ section_length_of (first_section xs) + 3
first_whole xs w =
    let fits = whole_fits xs w in
    let n = section_length_of xs + 3 in
    let size : length (take n xs) ≡ n = length-take n xs ∙ omega (arith, fits.1) in
    let kept = section_length_of-append (take n xs) (drop n xs) (omega arith) in
    let same = ap section_length_of (take-append-drop n xs) in
    omega arith

among_first : (xs : List ℕ) → is_whole xs ≡ true → AmongIfSection xs (told_of_whole (first_section xs))
among_first xs w =
    let n = section_length_of xs + 3 in
    ⊎_elim
    (λ (good : (crc_of (first_section xs) == 0) ≡ true).
    rw good (record {
      before = [];
      behind = drop n xs;
      parts = sym (take-append-drop n xs);
      whole = first_whole xs w;
      crc = grind (arith, nat_tests, good);
    }))
    (λ (bad : (crc_of (first_section xs) == 0) ≡ false). rw bad tt)
    (cases_Bool (crc_of (first_section xs) == 0))

-- a reading is among bytes as another that it equals
reads_same : (bytes : List ℕ) (r s : Reading) → r ≡ s → Reads-among bytes s → Reads-among bytes r
reads_same bytes r s e h = let P : Reading → Type 0 = λ x. Reads-among bytes x in subst P (sym e) h

reads_nothing : (bytes : List ℕ) → Reads-among bytes nothing
reads_nothing bytes = record { told = All-nil (AmongIfSection bytes); rest = bytes; begun = sym (append-nil bytes) }

reads_collected : (xs : List ℕ) → Reads-among xs (collected xs)
reads_collected xs =
    ⊎_elim
    (λ (t : is_too_long xs ≡ true). reads_same xs (collected xs) _ (collected_too_long xs t) (record {
      told = All-cons (AmongIfSection xs) TooLong [] tt (All-nil (AmongIfSection xs));
      rest = xs;
      begun = sym (append-nil xs);
    }))
    (λ (f : is_too_long xs ≡ false).
    ⊎_elim
    (λ (w : is_whole xs ≡ true). reads_same xs (collected xs) _ (collected_whole xs f w) (record {
      told = All-cons (AmongIfSection xs) (told_of_whole (first_section xs)) [] (among_first xs w) (All-nil (AmongIfSection xs));
      rest = xs;
      begun = sym (append-nil xs);
    }))
    (λ (b : is_whole xs ≡ false). reads_same xs (collected xs) _ (collected_begun xs f b) (record {
      told = All-nil (AmongIfSection xs);
      rest = [];
      begun = refl;
    }))
    (cases_Bool (is_whole xs)))
    (cases_Bool (is_too_long xs))

reads_shift : (b : ℕ) (bytes : List ℕ) (r : Reading) → Reads-among bytes r → Reads-among (b ∷ bytes) r
reads_shift b bytes r h = record {
  told = all_more bytes (b ∷ bytes) (b ∷ []) [] (sym (append-nil (b ∷ bytes))) r.told h.told;
  rest = b ∷ h.rest;
  begun = ap (λ (l : List ℕ). b ∷ l) h.begun;
}

reads_behind : (xs : List ℕ) (r : Reading) → is_whole xs ≡ true → Reads-among xs r → Reads-among xs (behind xs r)
reads_behind xs r w h = record {
  told = All-cons (AmongIfSection xs) (told_of_whole (first_section xs)) r.told (among_first xs w) h.told;
  rest = h.rest;
  begun = h.begun;
}

reads_sections : (n : ℕ) (bytes : List ℕ) → Reads-among bytes (sections_from n bytes)
unfolding sections_from
reads_sections zero [] = reads_nothing []
reads_sections (suc n) [] = reads_nothing []
reads_sections (suc n) (b ∷ bytes) = reads_shift b bytes (sections_from n bytes) (reads_sections n bytes)
reads_sections zero (b ∷ bytes) =
    let xs = b ∷ bytes in
    let later = reads_shift b bytes (sections_from (section_length_of xs + 2) bytes) (reads_sections (section_length_of xs + 2) bytes) in
    ⊎_elim
    (λ (s : (b == 255) ≡ true). reads_same xs (sections_from 0 xs) nothing (sections_stuffing b bytes s) (reads_nothing xs))
    (λ (p : (b == 255) ≡ false).
    ⊎_elim
    (λ (t : is_too_long xs ≡ true). reads_same xs (sections_from 0 xs) _ (sections_too_long b bytes p t) (reads_collected xs))
    (λ (f : is_too_long xs ≡ false).
    ⊎_elim
    (λ (w : is_whole xs ≡ true). reads_same xs (sections_from 0 xs) _ (sections_one b bytes p f w) (reads_behind xs (sections_from (section_length_of xs + 2) bytes) w later))
    (λ (g : is_whole xs ≡ false). reads_same xs (sections_from 0 xs) _ (sections_begun b bytes p f g) (reads_collected xs))
    (cases_Bool (is_whole xs)))
    (cases_Bool (is_too_long xs)))
    (cases_Bool (b == 255))

reads_ending : (begun bytes : List ℕ) → Reads-among (begun ++ bytes) (ending begun bytes)
reads_ending begun bytes =
    ⊎_elim
    (λ (e : (length begun == 0) ≡ true). rw e (reads_nothing (begun ++ bytes)))
    (λ (n : (length begun == 0) ≡ false). rw n (reads_collected (begun ++ bytes)))
    (cases_Bool (length begun == 0))

-- a reading that ended leaves nothing begun
ended_begun : (begun bytes : List ℕ) → (ending begun bytes).ended ≡ true → (ending begun bytes).begun ≡ []
ended_begun begun bytes =
    ⊎_elim
    (λ (e : (length begun == 0) ≡ true). rw e (λ (h : false ≡ true). refl))
    (λ (n : (length begun == 0) ≡ false). rw n (collected_ended (begun ++ bytes)))
    (cases_Bool (length begun == 0))
  where
    collected_ended : (xs : List ℕ) → (collected xs).ended ≡ true → (collected xs).begun ≡ []
    collected_ended xs =
        ⊎_elim
        (λ (t : is_too_long xs ≡ true). λ (h : (collected xs).ended ≡ true). ap (λ (r : Reading). r.begun) (collected_too_long xs t))
        (λ (f : is_too_long xs ≡ false).
        ⊎_elim
        (λ (w : is_whole xs ≡ true). λ (h : (collected xs).ended ≡ true). ap (λ (r : Reading). r.begun) (collected_whole xs f w))
        (λ (b : is_whole xs ≡ false). λ (h : (collected xs).ended ≡ true). absurd (false≢true (sym (ap (λ (r : Reading). r.ended) (collected_begun xs f b)) ∙ h)))
        (cases_Bool (is_whole xs)))
        (cases_Bool (is_too_long xs))

-- the payload without its pointer_field
abbrev body : Bool → List ℕ → List ℕ
body start payload = if start then drop 1 payload else payload

all_cut : (bytes begun : List ℕ) → All (AmongIfSection bytes) (cut begun)
all_cut bytes begun =
    ⊎_elim
    (λ (e : (length begun == 0) ≡ true). rw e (All-nil (AmongIfSection bytes)))
    (λ (n : (length begun == 0) ≡ false). rw n (All-cons (AmongIfSection bytes) Cut [] tt (All-nil (AmongIfSection bytes))))
    (cases_Bool (length begun == 0))

reads_followed : (xs ys : List ℕ) (first later : Reading) → (first.ended ≡ true → first.begun ≡ []) → Reads-among xs first → Reads-among ys later → Reads-among (xs ++ ys) (followed_by first later)
reads_followed xs ys first later none h k =
    let told_first = all_more xs (xs ++ ys) [] ys refl first.told h.told in
    ⊎_elim
    (λ (e : first.ended ≡ true). rw e (record {
      told = told_first;
      rest = xs ++ ys;
      begun = sym (ap (λ (l : List ℕ). (xs ++ ys) ++ l) (none e) ∙ append-nil (xs ++ ys));
    }))
    (λ (n : first.ended ≡ false). rw n (record {
      told = All-append (AmongIfSection (xs ++ ys)) (first.told ++ cut first.begun) later.told
          (All-append (AmongIfSection (xs ++ ys)) first.told (cut first.begun) told_first (all_cut (xs ++ ys) first.begun))
          (all_more ys (xs ++ ys) xs [] (sym (append-nil (xs ++ ys))) later.told k.told);
      rest = xs ++ k.rest;
      begun = ap (λ (l : List ℕ). xs ++ l) k.begun ∙ sym (append_assoc xs k.rest later.begun);
    }))
    (cases_Bool first.ended)

-- a payload, behind a section that was begun
reads_payload : (begun : List ℕ) (start : Bool) (payload : List ℕ) → Reads-among (begun ++ body start payload) (payload_told begun start payload)
unfolding payload_told
reads_payload begun false payload = reads_ending begun payload
reads_payload begun true payload =
    let f = slice_index payload 0 in
    ⊎_elim
    (λ (n : has_pointer payload ≡ false). rw n (record {
      told = all_cut (begun ++ drop 1 payload) begun;
      rest = begun ++ drop 1 payload;
      begun = sym (append-nil (begun ++ drop 1 payload));
    }))
    (λ (y : has_pointer payload ≡ true).
    let head = take f (drop 1 payload) in
    let tail = drop (1 + f) payload in
    let parts : begun ++ drop 1 payload ≡ (begun ++ head) ++ tail =
    ap (λ (l : List ℕ). begun ++ l) (sym (take-append-drop f (drop 1 payload)) ∙ ap (λ (l : List ℕ). head ++ l) (drop-drop f 1 payload))
    ∙ sym (append_assoc begun head tail) in
    let P : List ℕ → Type 0 = λ l. Reads-among l (followed_by (ending begun head) (sections_from 0 tail)) in
    rw y (subst P (sym parts) (reads_followed (begun ++ head) tail (ending begun head) (sections_from 0 tail) (ended_begun begun head) (reads_ending begun head) (reads_sections 0 tail))))
    (swap (cases_Bool (has_pointer payload)))
  where
    swap : {A B : Type 0} → A ⊎ B → B ⊎ A
    swap (inl a) = inr a
    swap (inr b) = inl b

-- ---- packets

-- a section that was told, in a list of packets that were read
record Told-in (packets : List (List ℕ)) (section : List ℕ) : Type 0 where
  run : IsRunIn packets section
  whole : length section ≡ section_length_of section + 3
  crc : crc_of section ≡ 0

abbrev ToldInIfSection : List (List ℕ) → Told → Type 0
ToldInIfSection packets (Section section) = Told-in packets section.items
ToldInIfSection packets BadCrc = ⊤
ToldInIfSection packets TooLong = ⊤
ToldInIfSection packets Cut = ⊤

told_in_more : (packets more : List (List ℕ)) (t : Told) → ToldInIfSection packets t → ToldInIfSection (packets ++ more) t
told_in_more packets more (Section section) h = record {
  run = record {
    front = h.run.front;
    run = h.run.run;
    back = h.run.back ++ more;
    before = h.run.before;
    behind = h.run.behind;
    neighbours = ap (λ (l : List (List ℕ)). l ++ more) h.run.neighbours ∙ append_assoc (h.run.front ++ h.run.run) h.run.back more;
    consecutive = h.run.consecutive;
    unbroken = h.run.unbroken;
  };
  whole = h.whole;
  crc = h.crc;
}
told_in_more packets more BadCrc h = h
told_in_more packets more TooLong h = h
told_in_more packets more Cut h = h

-- the packets in which the begun section stands, up to the last one that was read
record Begun-in (packets : List (List ℕ)) (s : AssemblerState) : Type 0 where
  front : List (List ℕ)
  run : List (List ℕ)
  newest : List ℕ
  last : List ℕ
  before : List ℕ
  neighbours : packets ≡ front ++ (run ++ newest ∷ [])
  consecutive : AreConsecutive (run ++ newest ∷ [])
  unbroken : flat_map body_of (run ++ newest ∷ []) ≡ before ++ s.begun
  is : s.last ≡ Some last
  counter : continuity_counter_of last ≡ continuity_counter_of newest

-- one packet more behind a run
consecutive_push : (run : List (List ℕ)) (p q : List ℕ) → AreConsecutive (run ++ p ∷ []) → continuity_counter_of q ≡ (continuity_counter_of p + 1) % 16 → AreConsecutive ((run ++ p ∷ []) ++ q ∷ [])
consecutive_push [] p q h e = (e, (tt, tt))
consecutive_push (x ∷ []) p q h e = (h.0, consecutive_push [] p q h.1 e)
consecutive_push (x ∷ (y ∷ run)) p q h e = (h.0, consecutive_push (y ∷ run) p q h.1 e)

-- what a run's packets and a reading of the last of them come to
told_in_run : (front run : List (List ℕ)) (p : List ℕ) (begun : List ℕ) (before : List ℕ) (t : Told) → AreConsecutive (run ++ p ∷ []) → flat_map body_of (run ++ p ∷ []) ≡ before ++ (begun ++ body_of p) → AmongIfSection (begun ++ body_of p) t → ToldInIfSection (front ++ (run ++ p ∷ [])) t
told_in_run front run p begun before (Section section) c u a = record {
  run = record {
    front = front;
    run = run ++ p ∷ [];
    back = [];
    before = before ++ a.before;
    behind = a.behind;
    neighbours = sym (append-nil (front ++ (run ++ p ∷ [])));
    consecutive = c;
    unbroken = u ∙ ap (λ (l : List ℕ). before ++ l) a.parts ∙ simp append_assoc;
  };
  whole = a.whole;
  crc = a.crc;
}
told_in_run front run p begun before BadCrc c u a = tt
told_in_run front run p begun before TooLong c u a = tt
told_in_run front run p begun before Cut c u a = tt

-- what is found in a packet that is read, and what stays begun behind it
record Read-in (packets : List (List ℕ)) (p : List ℕ) (r : Reading) : Type 0 where
  told : All (ToldInIfSection packets) r.told
  begun : Begun-in packets (record { begun = r.begun; last = Some p; skipped = false })

read_in : (front run : List (List ℕ)) (p begun before : List ℕ) → AreConsecutive (run ++ p ∷ []) → flat_map body_of (run ++ p ∷ []) ≡ before ++ (begun ++ body_of p) → Read-in (front ++ (run ++ p ∷ [])) p (payload_told begun (payload_unit_start_indicator_of p) (payload_of p))
read_in front run p begun before c u =
    let r = payload_told begun (payload_unit_start_indicator_of p) (payload_of p) in
    let h = reads_payload begun (payload_unit_start_indicator_of p) (payload_of p) in
    record {
      told = All-weaker (AmongIfSection (begun ++ body_of p)) (ToldInIfSection (front ++ (run ++ p ∷ []))) (λ t a. told_in_run front run p begun before t c u a) r.told h.told;
      begun = record {
        front = front;
        run = run;
        newest = p;
        last = p;
        before = before ++ h.rest;
        neighbours = refl;
        consecutive = c;
        unbroken = u ∙ ap (λ (l : List ℕ). before ++ l) h.begun ∙ sym (append_assoc before h.rest r.begun);
        is = refl;
        counter = refl;
      };
    }

-- the ways in which a packet is read
pub packet_none : (s : AssemblerState) (p : List ℕ) → has_payload_of p ≡ false → packet_told s p ≡ record { state = s; told = [] }
unfolding packet_told
packet_none s p h = rw h refl

pub packet_skipped : (s : AssemblerState) (p : List ℕ) → has_payload_of p ≡ true → (not s.skipped && is_repeat s.last p) ≡ true → packet_told s p ≡ record { state = record { begun = s.begun; last = Some p; skipped = true }; told = [] }
unfolding packet_told
packet_skipped s p h k = rw (h, k) refl

pub packet_broken : (s : AssemblerState) (p : List ℕ) → has_payload_of p ≡ true → (not s.skipped && is_repeat s.last p) ≡ false → is_discontinuous s.last p ≡ true → packet_told s p ≡ read_with (cut s.begun) p (payload_told [] (payload_unit_start_indicator_of p) (payload_of p))
unfolding packet_told
packet_broken s p h k d = rw (h, k, d) refl

pub packet_read : (s : AssemblerState) (p : List ℕ) → has_payload_of p ≡ true → (not s.skipped && is_repeat s.last p) ≡ false → is_discontinuous s.last p ≡ false → packet_told s p ≡ read_with [] p (payload_told s.begun (payload_unit_start_indicator_of p) (payload_of p))
unfolding packet_told
packet_read s p h k d = rw (h, k, d) refl

-- all of what packets tell, by the first of them
all_from : (Q : Told → Type 0) (s : AssemblerState) (p : List ℕ) (packets : List (List ℕ)) (x : Step) → packet_told s p ≡ x → All Q x.told → All Q (assembled_from x.state packets) → All Q (assembled_from s (p ∷ packets))
all_from Q s p packets x e h k =
    let P : Step → Type 0 = λ y. All Q (y.told ++ assembled_from y.state packets) in
    subst P (sym e) (All-append Q x.told (assembled_from x.state packets) h k)

pub and_left : (a b : Bool) → (a && b) ≡ true → a ≡ true
and_left true b h = refl
and_left false b h = h

pub and_right : (a b : Bool) → (a && b) ≡ true → b ≡ true
and_right true b h = h
and_right false b h = absurd (false≢true h)

pub counter_copy : (a b : List ℕ) → is_copy a b ≡ true → continuity_counter_of a ≡ continuity_counter_of b
unfolding is_copy
counter_copy a b h =
    let same : (continuity_counter_of a == continuity_counter_of b) ≡ true = and_right _ _ (and_left _ _ h) in
    eqb-true (continuity_counter_of a) (continuity_counter_of b) same

counter_next : (last p : List ℕ) → is_discontinuous (Some last) p ≡ false → continuity_counter_of p ≡ (continuity_counter_of last + 1) % 16
counter_next last p h = eqb-true (continuity_counter_of p) ((continuity_counter_of last + 1) % 16) (not-false _ h)

-- a copy changes nothing of what is begun
begun_skipped : (packets : List (List ℕ)) (s : AssemblerState) (p : List ℕ) → is_repeat s.last p ≡ true → Begun-in packets s → Begun-in packets (record { begun = s.begun; last = Some p; skipped = true })
begun_skipped packets s p k b = record {
  front = b.front;
  run = b.run;
  newest = b.newest;
  last = p;
  before = b.before;
  neighbours = b.neighbours;
  consecutive = b.consecutive;
  unbroken = b.unbroken;
  is = refl;
  counter = sym (counter_copy b.last p (sym (ap (λ (o : Option (List ℕ)). is_repeat o p) b.is) ∙ k)) ∙ b.counter;
}

abbrev Begun-by : List (List ℕ) → AssemblerState → Type 0
Begun-by packets s = (s.begun ≡ []) ⊎ Begun-in packets s

-- the packet that follows is read behind those before it
read_broken : (packets : List (List ℕ)) (p : List ℕ) → Read-in (packets ++ p ∷ []) p (payload_told [] (payload_unit_start_indicator_of p) (payload_of p))
read_broken packets p = read_in packets [] p [] [] (tt, tt) (append-nil (body_of p))

read_next : (packets : List (List ℕ)) (s : AssemblerState) (p : List ℕ) → is_discontinuous s.last p ≡ false → Begun-by packets s → Read-in (packets ++ p ∷ []) p (payload_told s.begun (payload_unit_start_indicator_of p) (payload_of p))
read_next packets s p d (inl none) =
    let P : List ℕ → Type 0 = λ l. Read-in (packets ++ p ∷ []) p (payload_told l (payload_unit_start_indicator_of p) (payload_of p)) in
    subst P (sym none) (read_broken packets p)
read_next packets s p d (inr b) =
    let next = counter_next b.last p (sym (ap (λ (o : Option (List ℕ)). is_discontinuous o p) b.is) ∙ d) ∙ ap (λ (n : ℕ). (n + 1) % 16) b.counter in
    let run = b.run ++ b.newest ∷ [] in
    let bytes : flat_map body_of (run ++ p ∷ []) ≡ b.before ++ (s.begun ++ body_of p) =
    flat_map-append body_of run (p ∷ [])
    ∙ ap (λ (l : List ℕ). flat_map body_of run ++ l) (append-nil (body_of p))
    ∙ ap (λ (l : List ℕ). l ++ body_of p) b.unbroken
    ∙ append_assoc b.before s.begun (body_of p) in
    let places : packets ++ p ∷ [] ≡ b.front ++ (run ++ p ∷ []) = ap (λ (l : List (List ℕ)). l ++ p ∷ []) b.neighbours ∙ append_assoc b.front run (p ∷ []) in
    let P : List (List ℕ) → Type 0 = λ l. Read-in l p (payload_told s.begun (payload_unit_start_indicator_of p) (payload_of p)) in
    subst P (sym places) (read_in b.front run p s.begun b.before (consecutive_push b.run b.newest p b.consecutive next) bytes)

-- one packet with a payload, and those behind it
told_in_payload : (p : List ℕ) (packets : List (List ℕ)) (read : List (List ℕ)) (s : AssemblerState) → ((r : List (List ℕ)) (t : AssemblerState) → Begun-by r t → All (ToldInIfSection (r ++ kept_behind t.last t.skipped packets)) (assembled_from t packets)) → has_payload_of p ≡ true → Begun-by read s → All (ToldInIfSection (read ++ (if not s.skipped && is_repeat s.last p then kept_behind (Some p) true packets else p ∷ kept_behind (Some p) false packets))) (assembled_from s (p ∷ packets))
told_in_payload p packets read s ih y b =
    let start = payload_unit_start_indicator_of p in
    let P : Bool → Type 0 = λ v. All (ToldInIfSection (read ++ (if v then kept_behind (Some p) true packets else p ∷ kept_behind (Some p) false packets))) (assembled_from s (p ∷ packets)) in
    let longer = read ++ p ∷ [] in
    let later = kept_behind (Some p) false packets in
    let all : longer ++ later ≡ read ++ p ∷ later = append_assoc read (p ∷ []) later in
    let Q = ToldInIfSection (longer ++ later) in
    let R : List (List ℕ) → Type 0 = λ l. All (ToldInIfSection l) (assembled_from s (p ∷ packets)) in
    ⊎_elim
    (λ (k : (not s.skipped && is_repeat s.last p) ≡ true).
    let copy : AssemblerState = record { begun = s.begun; last = Some p; skipped = true } in
    let S = ToldInIfSection (read ++ kept_behind (Some p) true packets) in
    let still : Begun-by read copy = ⊎_elim (λ (none : s.begun ≡ []). inl none) (λ (h : Begun-in read s). inr (begun_skipped read s p (and_right _ _ k) h)) b in
    subst P (sym k) (all_from S s p packets _ (packet_skipped s p y k) (All-nil S) (ih read copy still)))
    (λ (k : (not s.skipped && is_repeat s.last p) ≡ false).
    subst P (sym k) (subst R all
    (⊎_elim
    (λ (d : is_discontinuous s.last p ≡ true).
    let h = read_broken read p in
    let r = payload_told [] start (payload_of p) in
    all_from Q s p packets _ (packet_broken s p y k d)
    (All-append Q (cut s.begun) r.told (told_cut (longer ++ later) s.begun) (All-weaker (ToldInIfSection longer) Q (λ t i. told_in_more longer later t i) r.told h.told))
    (ih longer (record { begun = r.begun; last = Some p; skipped = false }) (inr h.begun)))
    (λ (d : is_discontinuous s.last p ≡ false).
    let h = read_next read s p d b in
    let r = payload_told s.begun start (payload_of p) in
    all_from Q s p packets _ (packet_read s p y k d)
    (All-weaker (ToldInIfSection longer) Q (λ t i. told_in_more longer later t i) r.told h.told)
    (ih longer (record { begun = r.begun; last = Some p; skipped = false }) (inr h.begun)))
    (cases_Bool (is_discontinuous s.last p)))))
    (cases_Bool (not s.skipped && is_repeat s.last p))
  where
    told_cut : (packets : List (List ℕ)) (begun : List ℕ) → All (ToldInIfSection packets) (cut begun)
    told_cut packets begun =
        ⊎_elim
        (λ (e : (length begun == 0) ≡ true). rw e (All-nil (ToldInIfSection packets)))
        (λ (n : (length begun == 0) ≡ false). rw n (All-cons (ToldInIfSection packets) Cut [] tt (All-nil (ToldInIfSection packets))))
        (cases_Bool (length begun == 0))

-- each section that packets tell stands in those that were read
told_in_packets : (packets : List (List ℕ)) (read : List (List ℕ)) (s : AssemblerState) → Begun-by read s → All (ToldInIfSection (read ++ kept_behind s.last s.skipped packets)) (assembled_from s packets)
told_in_packets [] read s b = All-nil (ToldInIfSection (read ++ []))
told_in_packets (p ∷ packets) read s b =
    let P : Bool → Type 0 = λ v. All (ToldInIfSection (read ++ (if not v then kept_behind s.last s.skipped packets else if not s.skipped && is_repeat s.last p then kept_behind (Some p) true packets else p ∷ kept_behind (Some p) false packets))) (assembled_from s (p ∷ packets)) in
    let Q = ToldInIfSection (read ++ kept_behind s.last s.skipped packets) in
    ⊎_elim
    (λ (y : has_payload_of p ≡ true). subst P (sym y) (told_in_payload p packets read s (λ r t h. told_in_packets packets r t h) y b))
    (λ (n : has_payload_of p ≡ false). subst P (sym n) (all_from Q s p packets _ (packet_none s p n) (All-nil Q) (told_in_packets packets read s b)))
    (cases_Bool (has_payload_of p))

found_told : (packets : List (List ℕ)) (t : Told) → ToldInIfSection (kept packets) t → IsFoundIfSection packets t
found_told packets (Section section) h = record { found = h.run; whole = h.whole; crc = h.crc }
found_told packets BadCrc h = h
found_told packets TooLong h = h
found_told packets Cut h = h

-- each section that packets tell was in them
pub assembled_found : (packets : List (List ℕ)) → All (IsFoundIfSection packets) (assembled packets)
assembled_found packets = All-weaker (ToldInIfSection (kept packets)) (IsFoundIfSection packets) (λ t h. found_told packets t h) (assembled packets) (told_in_packets packets [] fresh (inl refl))
