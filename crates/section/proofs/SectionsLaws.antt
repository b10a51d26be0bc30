-- Sections, one behind the other.
use Rattle.std.proofs.Common.{◌≡◌, ℕ, zero, suc, ◌+◌, ◌≤◌, List, [], ◌∷◌, ◌++◌, length, drop, ◌==◌, refl, sym, ◌∙◌, ap, subst, arith, true, false, ◌⊎◌, ⊎_elim}
use Rattle.std.proofs.lemmas.List.{append_assoc, append-nil}
use Rattle.std.proofs.lemmas.Bool.{cases_Bool}
use Rattle.std.proofs.lemmas.Bool.Decides.{nat_tests}
use Rattle.section.specs.Section.{section_length_of, is_too_long, is_whole, first_section}
use Rattle.section.specs.Assembled.{Reading, nothing, collected, told_of_whole, sections_from, ending}
use Rattle.section.specs.Collecting.{IsBegun, Collects, Reads, outcome_of, is_ended}
use Rattle.section.specs.declared.told.Told.{Told}
use Rattle.section.specs.declared.collected.Collected.{Collected}
use Rattle.section.specs.declared.collected.Collected.TheVariants.{Whole}
use Rattle.section.proofs.CollectLaws.{collected_too_long, collected_whole, collected_begun, outcome-whole, IsBegun-nil}

-- a whole section has three bytes, and as many more as it says
pub whole_fits : (xs : List ℕ) → is_whole xs ≡ true → (3 ≤ length xs) × (section_length_of xs + 3 ≤ length xs)
whole_fits xs w = (grind (arith, nat_tests), grind (arith, nat_tests))

-- a reading ended where the outcome says so
pub ended-outcome : (held bytes : List ℕ) → is_ended (outcome_of held bytes) ≡ (collected (held ++ bytes)).ended
ended-outcome held bytes =
    let xs = held ++ bytes in
    ⊎_elim
    (λ (t : is_too_long xs ≡ true). rw t (sym (ap (λ (r : Reading). r.ended) (collected_too_long xs t))))
    (λ (f : is_too_long xs ≡ false).
    ⊎_elim
    (λ (w : is_whole xs ≡ true). rw (f, w) (sym (ap (λ (r : Reading). r.ended) (collected_whole xs f w))))
    (λ (b : is_whole xs ≡ false). rw (f, b) (sym (ap (λ (r : Reading). r.ended) (collected_begun xs f b))))
    (cases_Bool (is_whole xs)))
    (cases_Bool (is_too_long xs))

pub ending-begun : (held bytes : List ℕ) → (length held == 0) ≡ false → ending held bytes ≡ collected (held ++ bytes)
ending-begun held bytes h = rw h refl

-- bytes to pass are dropped
pub sections_from-drop : (n : ℕ) (bytes : List ℕ) → sections_from n bytes ≡ sections_from 0 (drop n bytes)
unfolding sections_from
sections_from-drop zero [] = refl
sections_from-drop zero (b ∷ bytes) = refl
sections_from-drop (suc n) [] = refl
sections_from-drop (suc n) (b ∷ bytes) = sections_from-drop n bytes

pub sections_nil : sections_from 0 [] ≡ nothing
unfolding sections_from
sections_nil = refl

pub sections_stuffing : (b : ℕ) (bytes : List ℕ) → (b == 255) ≡ true → sections_from 0 (b ∷ bytes) ≡ nothing
unfolding sections_from
sections_stuffing b bytes s = rw s refl

pub sections_too_long : (b : ℕ) (bytes : List ℕ) → (b == 255) ≡ false → is_too_long (b ∷ bytes) ≡ true → sections_from 0 (b ∷ bytes) ≡ collected (b ∷ bytes)
unfolding sections_from
sections_too_long b bytes s t = rw (s, t) refl

pub sections_begun : (b : ℕ) (bytes : List ℕ) → (b == 255) ≡ false → is_too_long (b ∷ bytes) ≡ false → is_whole (b ∷ bytes) ≡ false → sections_from 0 (b ∷ bytes) ≡ collected (b ∷ bytes)
unfolding sections_from
sections_begun b bytes s t w = rw (s, t, w) refl

-- a whole section, and what comes behind it
abbrev pub behind : List ℕ → Reading → Reading
behind xs later = record { begun = later.begun; told = told_of_whole (first_section xs) ∷ later.told; ended = later.ended }

pub sections_one : (b : ℕ) (bytes : List ℕ) → (b == 255) ≡ false → is_too_long (b ∷ bytes) ≡ false → is_whole (b ∷ bytes) ≡ true → sections_from 0 (b ∷ bytes) ≡ behind (b ∷ bytes) (sections_from (section_length_of (b ∷ bytes) + 2) bytes)
unfolding sections_from
sections_one b bytes s t w = rw (s, t, w) refl

pub sections_whole : (b : ℕ) (bytes : List ℕ) → (b == 255) ≡ false → is_too_long (b ∷ bytes) ≡ false → is_whole (b ∷ bytes) ≡ true → sections_from 0 (b ∷ bytes) ≡ behind (b ∷ bytes) (sections_from 0 (drop (section_length_of (b ∷ bytes) + 3) (b ∷ bytes)))
sections_whole b bytes s t w =
    let n = section_length_of (b ∷ bytes) in
    let one : drop (n + 3) (b ∷ bytes) ≡ drop (n + 2) bytes = ap (λ (k : ℕ). drop k (b ∷ bytes)) (let e : n + 3 ≡ suc (n + 2) = omega arith in e) in
    sections_one b bytes s t w
    ∙ ap (behind (b ∷ bytes)) (sections_from-drop (n + 2) bytes ∙ ap (sections_from 0) (sym one))

-- one section that the code has collected, and the rest
pub record Continues (xs kept : List ℕ) (out new : List Told) (n : ℕ) : Type 0 where
  pub none : kept ≡ []
  pub some : 3 ≤ n
  pub inside : n ≤ length xs
  pub begun : (sections_from 0 (drop n xs)).begun ≡ (sections_from 0 xs).begun
  pub told : new ++ (sections_from 0 (drop n xs)).told ≡ out ++ (sections_from 0 xs).told

pub continues : (b : ℕ) (bytes kept : List ℕ) (out new : List Told) (n : ℕ) → (b == 255) ≡ false → Collects [] (b ∷ bytes) kept out new (Whole n) → Continues (b ∷ bytes) kept out new n
continues b bytes kept out new n s c =
    let xs = b ∷ bytes in
    let o = outcome-whole [] xs n c.next in
    let size : n ≡ section_length_of xs + 3 = omega (arith, o.2) in
    let fits = whole_fits xs o.1 in
    let one = collected_whole xs o.0 o.1 in
    let all : sections_from 0 xs ≡ behind xs (sections_from 0 (drop n xs)) = sections_whole b bytes s o.0 o.1 ∙ ap (λ (k : ℕ). behind xs (sections_from 0 (drop k xs))) (sym size) in
    record {
      none = c.begun ∙ ap (λ (r : Reading). r.begun) one;
      some = omega arith;
      inside = omega arith;
      begun = sym (ap (λ (r : Reading). r.begun) all);
      told =
          ap (λ (l : List Told). l ++ (sections_from 0 (drop n xs)).told) (c.told ∙ ap (λ (r : Reading). out ++ r.told) one)
          ∙ append_assoc out (told_of_whole (first_section xs) ∷ []) (sections_from 0 (drop n xs)).told
          ∙ sym (ap (λ (r : Reading). out ++ r.told) all);
    }

-- the last section, which is too long or goes on
pub stops : (b : ℕ) (bytes kept : List ℕ) (out new : List Told) (o : Collected) → (b == 255) ≡ false → Collects [] (b ∷ bytes) kept out new o → (is_too_long (b ∷ bytes) ≡ true) ⊎ (is_whole (b ∷ bytes) ≡ false) → Reads (sections_from 0 (b ∷ bytes)) kept out new
stops b bytes kept out new o s c h =
    let xs = b ∷ bytes in
    let all : sections_from 0 xs ≡ collected xs =
    ⊎_elim
    (λ (t : is_too_long xs ≡ true). sections_too_long b bytes s t)
    (λ (f : is_too_long xs ≡ false).
    ⊎_elim
    (λ (t : is_too_long xs ≡ true). sections_too_long b bytes s t)
    (λ (w : is_whole xs ≡ false). sections_begun b bytes s f w) h)
    (cases_Bool (is_too_long xs)) in
    record {
      begun = c.begun ∙ sym (ap (λ (r : Reading). r.begun) all);
      told = c.told ∙ sym (ap (λ (r : Reading). out ++ r.told) all);
      still = c.still;
    }

-- nothing is read
pub reads_none : (xs kept : List ℕ) (out : List Told) → sections_from 0 xs ≡ nothing → kept ≡ [] → Reads (sections_from 0 xs) kept out out
reads_none xs kept out e k = record {
  begun = k ∙ sym (ap (λ (r : Reading). r.begun) e);
  told = sym (append-nil out) ∙ ap (λ (r : Reading). out ++ r.told) (sym e);
  still = let P : List ℕ → Type 0 = λ l. IsBegun l in subst P (sym k) IsBegun-nil;
}

-- what is left at a place is read, and so all is
pub reads_on : (bytes xs : List ℕ) (at : ℕ) (kept : List ℕ) (start out new : List Told) → xs ≡ drop at bytes → (sections_from 0 (drop at bytes)).begun ≡ (sections_from 0 bytes).begun → out ++ (sections_from 0 (drop at bytes)).told ≡ start ++ (sections_from 0 bytes).told → Reads (sections_from 0 xs) kept out new → Reads (sections_from 0 bytes) kept start new
reads_on bytes xs at kept start out new e b t r = record {
  begun = r.begun ∙ ap (λ (l : List ℕ). (sections_from 0 l).begun) e ∙ b;
  told = r.told ∙ ap (λ (l : List ℕ). out ++ (sections_from 0 l).told) e ∙ t;
  still = r.still;
}
