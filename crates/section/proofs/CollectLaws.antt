-- What bytes for a begun section leave of it.
use Rattle.std.proofs.Common.{◌≡◌, ℕ, ◌+◌, ◌-◌, ◌<◌, ◌≤◌, List, [], ◌∷◌, ◌++◌, length, take, drop, min, if◌then◌else◌, refl, sym, ◌∙◌, ap, subst, arith, true, false, ⊎_elim}
use Rattle.std.proofs.lemmas.List.{append_assoc, take-append-drop, length-append, length-take, take_all, append-nil, take_at}
use Rattle.std.proofs.lemmas.Bool.{cases_lt}
use Rattle.std.proofs.lemmas.Bool.Decides.{nat_tests}
use Rattle.section.specs.Section.{section_length_of, is_too_long, is_whole, first_section}
use Rattle.section.specs.Assembled.{Reading, collected, told_of_whole}
use Rattle.section.specs.Collecting.{IsBegun, Collects, Reads, outcome_of}
use Rattle.section.specs.declared.told.Told.{Told}
use Rattle.section.specs.declared.told.Told.TheVariants as told
use Rattle.section.specs.declared.collected.Collected.{Collected}
use Rattle.section.specs.declared.collected.Collected.TheVariants.{Begun, TooLong, Whole}
use Rattle.section.proofs.SectionLaws.{section_length_of-append}

pub is_too_long-true : (xs : List ℕ) → 3 ≤ length xs → 1021 < section_length_of xs → is_too_long xs ≡ true
is_too_long-true xs h k = grind (arith, nat_tests)

pub is_too_long-short : (xs : List ℕ) → length xs < 3 → is_too_long xs ≡ false
is_too_long-short xs h = grind (arith, nat_tests)

pub is_too_long-fits : (xs : List ℕ) → section_length_of xs ≤ 1021 → is_too_long xs ≡ false
is_too_long-fits xs h = grind (arith, nat_tests)

pub is_whole-true : (xs : List ℕ) → 3 ≤ length xs → section_length_of xs + 3 ≤ length xs → is_whole xs ≡ true
is_whole-true xs h k = grind (arith, nat_tests)

pub is_whole-short : (xs : List ℕ) → length xs < 3 → is_whole xs ≡ false
is_whole-short xs h = grind (arith, nat_tests)

pub is_whole-partial : (xs : List ℕ) → length xs < section_length_of xs + 3 → is_whole xs ≡ false
is_whole-partial xs h = grind (arith, nat_tests)

-- the three ways in which a section can end
pub collected_too_long : (xs : List ℕ) → is_too_long xs ≡ true → collected xs ≡ record { begun = []; told = told.TooLong ∷ []; ended = true }
unfolding collected
collected_too_long xs t = rw t refl

pub collected_whole : (xs : List ℕ) → is_too_long xs ≡ false → is_whole xs ≡ true → collected xs ≡ record { begun = []; told = told_of_whole (first_section xs) ∷ []; ended = false }
unfolding collected
collected_whole xs t w = rw (t, w) refl

pub collected_begun : (xs : List ℕ) → is_too_long xs ≡ false → is_whole xs ≡ false → collected xs ≡ record { begun = xs; told = []; ended = false }
unfolding collected
collected_begun xs t w = rw (t, w) refl

pub IsBegun-nil : IsBegun []
IsBegun-nil = record { partial = λ (h : 3 ≤ 0). absurd (omega arith); fits = λ (h : 3 ≤ 0). absurd (omega arith) }

pub IsBegun-short : (xs : List ℕ) → length xs < 3 → IsBegun xs
IsBegun-short xs s = record { partial = λ (h : 3 ≤ length xs). absurd (omega arith); fits = λ (h : 3 ≤ length xs). absurd (omega arith) }

-- the bytes that are there, in two parts
pub parted : (held bytes : List ℕ) (n : ℕ) → held ++ bytes ≡ (held ++ take n bytes) ++ drop n bytes
parted held bytes n = ap (λ (l : List ℕ). held ++ l) (sym (take-append-drop n bytes)) ∙ sym (append_assoc held (take n bytes) (drop n bytes))

-- what the first three bytes come to
pub header_grows : (held bytes first : List ℕ) (n : ℕ) → n ≡ min (3 - length held) (length bytes) → first ≡ held ++ take n bytes → length first ≡ length held + n
header_grows held bytes first n e k = ap length k ∙ length-append held (take n bytes) ∙ ap (λ (m : ℕ). length held + m) (length-take n bytes ∙ omega arith)

pub header_within : (held bytes first : List ℕ) (n : ℕ) → IsBegun held → n ≡ min (3 - length held) (length bytes) → first ≡ held ++ take n bytes → length first ≤ section_length_of first + 3
header_within held bytes first n b e k =
    let grown = header_grows held bytes first n e k in
    ⊎_elim
    (λ (few : length held < 3). omega arith)
    (λ (there : 3 ≤ length held).
    let none : n ≡ 0 = omega arith in
    let same : first ≡ held = k ∙ ap (λ (m : ℕ). held ++ take m bytes) none ∙ append-nil held in
    let lengths = ap section_length_of same in
    let short = b.partial there in
    omega arith)
    (cases_lt (length held) 3)

-- a section of less than three bytes
pub collects_short : (held bytes kept : List ℕ) (n : ℕ) (out : List Told) → n ≡ min (3 - length held) (length bytes) → kept ≡ held ++ take n bytes → length kept < 3 → Collects held bytes kept out out Begun
collects_short held bytes kept n out e k s =
    let sum = length-append held (take n bytes) in
    let part = length-take n bytes in
    let same = ap length k in
    let all : take n bytes ≡ bytes = take_all n bytes (omega arith) in
    let is : kept ≡ held ++ bytes = k ∙ ap (λ (l : List ℕ). held ++ l) all in
    let few : length (held ++ bytes) < 3 = omega (arith, ap length is) in
    let t = is_too_long-short (held ++ bytes) few in
    let w = is_whole-short (held ++ bytes) few in
    let c = collected_begun (held ++ bytes) t w in
    record {
      begun = is ∙ sym (ap (λ (r : Reading). r.begun) c);
      told = sym (append-nil out) ∙ ap (λ (r : Reading). out ++ r.told) (sym c);
      next = rw (t, w) refl;
      still = IsBegun-short kept s;
    }

-- one that is too long
pub collects_too_long : (held bytes first rest : List ℕ) (out : List Told) → held ++ bytes ≡ first ++ rest → 3 ≤ length first → 1021 < section_length_of first → Collects held bytes [] out (out ++ told.TooLong ∷ []) TooLong
collects_too_long held bytes first rest out e s l =
    let sum = length-append first rest in
    let kept = section_length_of-append first rest s in
    let whole : section_length_of (held ++ bytes) ≡ section_length_of first = ap section_length_of e ∙ kept in
    let long : length (held ++ bytes) ≡ length first + length rest = ap length e ∙ sum in
    let t = is_too_long-true (held ++ bytes) (omega arith) (omega arith) in
    let c = collected_too_long (held ++ bytes) t in
    record {
      begun = sym (ap (λ (r : Reading). r.begun) c);
      told = ap (λ (r : Reading). out ++ r.told) (sym c);
      next = rw t refl;
      still = IsBegun-nil;
    }

-- one that goes on
pub collects_begun : (held bytes first rest : List ℕ) (out : List Told) → held ++ bytes ≡ first ++ rest → 3 ≤ length first → section_length_of first ≤ 1021 → length first + length rest < section_length_of first + 3 → Collects held bytes (first ++ rest) out out Begun
collects_begun held bytes first rest out e s l p =
    let sum = length-append first rest in
    let kept = section_length_of-append first rest s in
    let whole : section_length_of (held ++ bytes) ≡ section_length_of first = ap section_length_of e ∙ kept in
    let long : length (held ++ bytes) ≡ length first + length rest = ap length e ∙ sum in
    let t = is_too_long-fits (held ++ bytes) (omega arith) in
    let w = is_whole-partial (held ++ bytes) (omega arith) in
    let c = collected_begun (held ++ bytes) t w in
    record {
      begun = sym e ∙ sym (ap (λ (r : Reading). r.begun) c);
      told = sym (append-nil out) ∙ ap (λ (r : Reading). out ++ r.told) (sym c);
      next = rw (t, w) refl;
      still = record { partial = λ h. omega arith; fits = λ h. omega arith };
    }

-- one that is whole
pub collects_whole : (held bytes first rest : List ℕ) (n : ℕ) (out : List Told) → held ++ bytes ≡ first ++ rest → 3 ≤ length first → section_length_of first ≤ 1021 → length first + n ≡ section_length_of first + 3 → n ≤ length rest → Collects held bytes [] out (out ++ told_of_whole (first ++ take n rest) ∷ []) (Whole (section_length_of first + 3 - length held))
collects_whole held bytes first rest n out e s l p q =
    let sum = length-append first rest in
    let kept = section_length_of-append first rest s in
    let whole : section_length_of (held ++ bytes) ≡ section_length_of first = ap section_length_of e ∙ kept in
    let long : length (held ++ bytes) ≡ length first + length rest = ap length e ∙ sum in
    let t = is_too_long-fits (held ++ bytes) (omega arith) in
    let w = is_whole-true (held ++ bytes) (omega arith) (omega arith) in
    let c = collected_whole (held ++ bytes) t w in
    let size : length (first ++ take n rest) ≡ section_length_of first + 3 = omega (arith, length-append first (take n rest), length-take n rest) in
    let parts : held ++ bytes ≡ (first ++ take n rest) ++ drop n rest = e ∙ parted first rest n in
    let one : first_section (held ++ bytes) ≡ first ++ take n rest =
    ap (λ (k : ℕ). take (k + 3) (held ++ bytes)) whole
    ∙ ap (take (section_length_of first + 3)) parts
    ∙ take_at (first ++ take n rest) (drop n rest) (section_length_of first + 3) size in
    record {
      begun = sym (ap (λ (r : Reading). r.begun) c);
      told = sym (ap (λ (r : Reading). out ++ r.told) c ∙ ap (λ (x : List ℕ). out ++ told_of_whole x ∷ []) one);
      next = rw (t, w) (ap (λ (k : ℕ). Whole (k + 3 - length held)) (sym whole));
      still = IsBegun-nil;
    }

-- the same, at what the code has
pub collects_same : (held bytes : List ℕ) (k k' : List ℕ) (out n n' : List Told) (o o' : Collected) → k' ≡ k → n' ≡ n → o' ≡ o → Collects held bytes k out n o → Collects held bytes k' out n' o'
collects_same held bytes k k' out n n' o o' ke ne oe c = record {
  begun = ke ∙ c.begun;
  told = ne ∙ c.told;
  next = oe ∙ c.next;
  still = let P : List ℕ → Type 0 = λ l. IsBegun l in subst P (sym ke) c.still;
}

-- and as a reading
pub reads_collected : (held bytes kept : List ℕ) (out new : List Told) (o : Collected) → Collects held bytes kept out new o → Reads (collected (held ++ bytes)) kept out new
reads_collected held bytes kept out new o c = record { begun = c.begun; told = c.told; still = c.still }

-- a reading ended exactly where the section was too long
pub ended-too_long : (xs : List ℕ) → is_too_long xs ≡ true → (collected xs).ended ≡ true
ended-too_long xs t = ap (λ (r : Reading). r.ended) (collected_too_long xs t)

pub ended-whole : (xs : List ℕ) → is_too_long xs ≡ false → is_whole xs ≡ true → (collected xs).ended ≡ false
ended-whole xs t w = ap (λ (r : Reading). r.ended) (collected_whole xs t w)

pub ended-begun : (xs : List ℕ) → is_too_long xs ≡ false → is_whole xs ≡ false → (collected xs).ended ≡ false
ended-begun xs t w = ap (λ (r : Reading). r.ended) (collected_begun xs t w)

-- an outcome tells which tests hold
pub outcome-too_long : (held bytes : List ℕ) → TooLong ≡ outcome_of held bytes → is_too_long (held ++ bytes) ≡ true
outcome-too_long held bytes = elim (is_too_long (held ++ bytes)) as (λ v. TooLong ≡ (if v then TooLong else if is_whole (held ++ bytes) then Whole (section_length_of (held ++ bytes) + 3 - length held) else Begun) → v ≡ true) [
  | true ↦ λ e. refl
  | false ↦ elim (is_whole (held ++ bytes)) as (λ w. TooLong ≡ (if w then Whole (section_length_of (held ++ bytes) + 3 - length held) else Begun) → false ≡ true) [ true ↦ λ e. cc | false ↦ λ e. cc ]
]

pub outcome-begun : (held bytes : List ℕ) → Begun ≡ outcome_of held bytes → (is_too_long (held ++ bytes) ≡ false) × (is_whole (held ++ bytes) ≡ false)
outcome-begun held bytes = elim (is_too_long (held ++ bytes)) as (λ v. Begun ≡ (if v then TooLong else if is_whole (held ++ bytes) then Whole (section_length_of (held ++ bytes) + 3 - length held) else Begun) → (v ≡ false) × (is_whole (held ++ bytes) ≡ false)) [
  | true ↦ λ e. cc
  | false ↦ elim (is_whole (held ++ bytes)) as (λ w. Begun ≡ (if w then Whole (section_length_of (held ++ bytes) + 3 - length held) else Begun) → (false ≡ false) × (w ≡ false)) [ true ↦ λ e. cc | false ↦ λ e. (refl, refl) ]
]

pub outcome-whole : (held bytes : List ℕ) (n : ℕ) → Whole n ≡ outcome_of held bytes → (is_too_long (held ++ bytes) ≡ false) × (is_whole (held ++ bytes) ≡ true) × (n ≡ section_length_of (held ++ bytes) + 3 - length held)
outcome-whole held bytes n = elim (is_too_long (held ++ bytes)) as (λ v. Whole n ≡ (if v then TooLong else if is_whole (held ++ bytes) then Whole (section_length_of (held ++ bytes) + 3 - length held) else Begun) → (v ≡ false) × (is_whole (held ++ bytes) ≡ true) × (n ≡ section_length_of (held ++ bytes) + 3 - length held)) [
  | true ↦ λ e. absurd (cc)
  | false ↦ elim (is_whole (held ++ bytes)) as (λ w. Whole n ≡ (if w then Whole (section_length_of (held ++ bytes) + 3 - length held) else Begun) → (false ≡ false) × (w ≡ true) × (n ≡ section_length_of (held ++ bytes) + 3 - length held)) [ true ↦ λ e. (refl, refl, cc) | false ↦ λ e. absurd (cc) ]
]
