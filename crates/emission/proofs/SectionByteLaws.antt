-- The bytes of a section, and those of its packets.
use Rattle.std.proofs.Common.{ℕ, suc, ◌+◌, ◌-◌, ◌*◌, ◌/◌, ◌%◌, ◌<◌, ◌≡◌, List, [], ◌∷◌, ◌++◌, length, drop, get_or, replicate, ap, ◌∙◌, sym, subst, arith, inl, inr}
use Rattle.std.specs.List.{All, flat_map}
use Rattle.std.proofs.lemmas.Bool.{cases_lt}
use Rattle.std.proofs.lemmas.List.{length-append, get_or_append_left, get_or-append-add, get_or-take, get_or-drop, get_or_past}
use Rattle.std.proofs.lemmas.List.FromFn.{length-map-range_with_len, get_or-map-range_with_len}
use Rattle.std.proofs.lemmas.List.Elements.{All-nil, All-cons}
use Rattle.section.specs.Packetized.{packet_count_of, stuffed}
use Rattle.output_tables.specs.Output.{table_packet}
use Rattle.output_tables.specs.OnPid.{SectionOnPid, packets_on_pid}

-- numbers that are bytes
abbrev pub AreBytes : List ℕ → Type 0
AreBytes q = (i : ℕ) → get_or q i 0 < 256

both_parts : {X : Type 0} (P : X → Type 0) (xs ys : List X) → All P (xs ++ ys) → All P xs × All P ys
both_parts P xs ys h =
    let size = length-append xs ys in (
      λ i d l. subst P (get_or_append_left xs ys d i l) (h i d (omega arith)),
      λ i d l. subst P (get_or-append-add xs ys i d) (h (length xs + i) d (omega arith)),
    )

each_part : {X Y : Type 0} (P : Y → Type 0) (f : X → List Y) (xs : List X) → All P (flat_map f xs) → All (λ x. All P (f x)) xs
each_part P f [] h = All-nil (λ x. All P (f x))
each_part P f (x ∷ xs) h =
    let both = both_parts P (f x) (flat_map f xs) h in
    All-cons (λ y. All P (f y)) x xs both.0 (each_part P f xs both.1)

-- where byte i of a section stands: behind the pointer_field
byte_at : (pid : ℕ) (section : List ℕ) (i : ℕ) → i < length section → get_or (table_packet pid section (suc i / 184)) (4 + suc i % 184) 0 ≡ get_or section i 0
byte_at pid section i l =
    let k = suc i / 184 in
    let o = suc i % 184 in
    let place : 4 + o ≡ suc (suc (suc (suc o))) = omega arith in
    let whole : 184 * k + o ≡ suc i = omega arith in
    ap (λ n. get_or (table_packet pid section k) n 0) place
    ∙ get_or-take 184 (drop (184 * k) (stuffed section)) o 0 (omega arith)
    ∙ get_or-drop (184 * k) (stuffed section) o 0
    ∙ ap (λ n. get_or (stuffed section) n 0) whole
    ∙ get_or_append_left (0 ∷ section) (replicate (184 * packet_count_of section - (length section + 1)) 255) 0 (suc i) (omega arith)

section_bytes : (s : SectionOnPid) → All AreBytes (packets_on_pid s) → AreBytes s.bytes
section_bytes s h i = elim (cases_lt i (length s.bytes)) [
  | inl l ↦
      let k = suc i / 184 in
      let within : k < packet_count_of s.bytes = omega arith in
      let made = table_packet s.pid s.bytes in
      let count = length-map-range_with_len made 0 (packet_count_of s.bytes) in
      let is : get_or (packets_on_pid s) k [] ≡ made k = get_or-map-range_with_len made 0 (packet_count_of s.bytes) k k [] within (omega arith) in
      subst (λ n. n < 256) (byte_at s.pid s.bytes i l) (subst AreBytes is (h k [] (omega arith)) (4 + suc i % 184))
  | inr l ↦ subst (λ n. n < 256) (sym (get_or_past s.bytes i 0 l)) (omega arith)
]

-- where the packets' bytes are bytes, those of the sections are
pub all_bytes : (ss : List SectionOnPid) → All AreBytes (flat_map packets_on_pid ss) → All (λ (s : SectionOnPid). AreBytes s.bytes) ss
all_bytes ss h = λ i d l. section_bytes (get_or ss i d) (each_part AreBytes packets_on_pid ss h i d l)
