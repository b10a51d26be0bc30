-- What the sections of a PID that are read packet by packet say of a table.
use Rattle.std.proofs.Common.{◌≡◌, ℕ, ◌+◌, ◌<◌, true, false, List, [], ◌∷◌, ◌++◌, Option, Some, None, option_to_list, is_some, filter_map, take, length, get_or, refl, sym, ◌∙◌, ap, subst, append_assoc}
use Rattle.std.specs.List.{cons_option}
use Rattle.std.proofs.lemmas.List.{append-nil, take_more}
use Rattle.std.proofs.lemmas.List.Elements.{filter_map-append}
use Rattle.section.specs.declared.told.Told.{Told}
use Rattle.section.specs.declared.told.Told.TheVariants.{Section, BadCrc, TooLong, Cut}
use Rattle.arrayvec.specs.declared.array_vec.ArrayVec.{ArrayVec}
use Rattle.tables.specs.InForce.{SectionValue}
use Rattle.tables.specs.OnPid.{section_in, sections_in, sections_on}
use Rattle.tables.specs.SectionReading.{ReaderState, reader_on, reader_step, reader_behind}
use Rattle.tables.proofs.SectionReadingLaws.{reader_more, sections_more}
use Rattle.acquire.specs.Taken.{FirstTableState, HasTaken}
use Rattle.acquire.specs.Seen.{HasSought}
use Rattle.acquire.proofs.TakenLaws.{taken_stays}

-- ---- one packet more

pub values_more : {V : Type 0} (f : List ℕ → Option V) (pid : ℕ) (packets : List (List ℕ)) (p : List ℕ)
    → filter_map f (sections_on pid (packets ++ p ∷ [])) ≡ filter_map f (sections_on pid packets) ++ filter_map f (sections_in (reader_step (reader_on pid packets) p).told)
values_more f pid packets p =
    ap (filter_map f) (sections_more pid packets p)
    ∙ filter_map-append f (sections_on pid packets) (sections_in (reader_step (reader_on pid packets) p).told)

-- ---- one told item more

one_option : {V : Type 0} (o : Option V) → cons_option o [] ≡ option_to_list o
one_option None = refl
one_option (Some x) = refl

none_told : {V : Type 0} (f : List ℕ → Option V) (t : Told) → section_in t ≡ None → filter_map f (sections_in (t ∷ [])) ≡ []
none_told f t e = ap (λ o. filter_map f (cons_option o [])) e

one_told : {V : Type 0} (f : List ℕ → Option V) (t : Told) (b : List ℕ) → section_in t ≡ Some b → filter_map f (sections_in (t ∷ [])) ≡ option_to_list (f b)
one_told f t b e = ap (λ o. filter_map f (cons_option o [])) e ∙ one_option (f b)

told_more : {V : Type 0} (f : List ℕ → Option V) (told : List Told) (i : ℕ) (d : Told) → i < length told
    → filter_map f (sections_in (take (i + 1) told)) ≡ filter_map f (sections_in (take i told)) ++ filter_map f (sections_in (get_or told i d ∷ []))
told_more f told i d l =
    ap (λ l. filter_map f (sections_in l)) (take_more told i d l)
    ∙ ap (filter_map f) (filter_map-append section_in (take i told) (get_or told i d ∷ []))
    ∙ filter_map-append f (sections_in (take i told)) (sections_in (get_or told i d ∷ []))

-- a section among what was told is taken
pub told_section : {V : Type 0} (f : List ℕ → Option (SectionValue V)) (first t u : FirstTableState V) (told : List Told) (i : ℕ) (d : Told) (b : List ℕ)
    → i < length told → section_in (get_or told i d) ≡ Some b
    → ((sections : List (SectionValue V)) → HasTaken first sections → HasTaken t (sections ++ filter_map f (sections_in (take i told))))
    → ((sections : List (SectionValue V)) → HasTaken t sections → HasTaken u (sections ++ option_to_list (f b)))
    → (sections : List (SectionValue V)) → HasTaken first sections → HasTaken u (sections ++ filter_map f (sections_in (take (i + 1) told)))
told_section f first t u told i d b l at before takes sections h =
    let front = filter_map f (sections_in (take i told)) in
    subst (HasTaken u)
    (append_assoc sections front (option_to_list (f b))
    ∙ ap (λ l. sections ++ l) (sym (told_more f told i d l ∙ ap (λ l. front ++ l) (one_told f (get_or told i d) b at))))
    (takes (sections ++ front) (before sections h))

pub not_section : (t : Told) → ((x : ArrayVec ℕ 1024 (Unit {0})) → t ≡ Section x → ⊥) → section_in t ≡ None
not_section (Section x) n = absurd (n x refl)
not_section BadCrc n = refl
not_section TooLong n = refl
not_section Cut n = refl

-- what else was told is passed over
pub told_other : {V : Type 0} (f : List ℕ → Option (SectionValue V)) (first t : FirstTableState V) (told : List Told) (i : ℕ) (d : Told)
    → i < length told → section_in (get_or told i d) ≡ None
    → ((sections : List (SectionValue V)) → HasTaken first sections → HasTaken t (sections ++ filter_map f (sections_in (take i told))))
    → (sections : List (SectionValue V)) → HasTaken first sections → HasTaken t (sections ++ filter_map f (sections_in (take (i + 1) told)))
told_other f first t told i d l at before sections h =
    let front = filter_map f (sections_in (take i told)) in
    subst (HasTaken t)
    (ap (λ l. sections ++ l) (sym (told_more f told i d l ∙ ap (λ l. front ++ l) (none_told f (get_or told i d) at) ∙ append-nil front)))
    (before sections h)

-- ---- the first complete table of a PID

not_both : {V : Type 0} (o : Option V) → is_some o ≡ true → o ≡ None → ⊥
not_both None s e = absurd (cc)
not_both (Some x) s e = absurd (cc)

pub none_of : {V : Type 0} (o : Option V) → is_some o ≡ false → o ≡ None
none_of None e = refl
none_of (Some x) e = absurd (cc)

-- a table that was found stays
pub sought_stays : {V : Type 0} (pid : ℕ) (f : List ℕ → Option (SectionValue V)) (r : ReaderState) (t : FirstTableState V) (packets : List (List ℕ)) (p : List ℕ)
    → is_some t.found ≡ true → HasSought pid f r t packets → HasSought pid f r t (packets ++ p ∷ [])
sought_stays pid f r t packets p there sought = record {
  taken = subst (HasTaken t) (sym (values_more f pid packets p)) (taken_stays t (filter_map f (sections_on pid packets)) (filter_map f (sections_in (reader_step (reader_on pid packets) p).told)) there sought.taken);
  state = λ e. absurd (not_both t.found there e);
}

-- the packet was read
pub sought_more : {V : Type 0} (pid : ℕ) (f : List ℕ → Option (SectionValue V)) (r s : ReaderState) (t u : FirstTableState V) (packets : List (List ℕ)) (p : List ℕ)
    → is_some t.found ≡ false → HasSought pid f r t packets → s ≡ reader_behind r p
    → ((sections : List (SectionValue V)) → HasTaken t sections → HasTaken u (sections ++ filter_map f (sections_in (reader_step r p).told)))
    → HasSought pid f s u (packets ++ p ∷ [])
sought_more pid f r s t u packets p missing sought read takes =
    let at : r ≡ reader_on pid packets = sought.state (none_of t.found missing) in
    record {
      taken = subst (HasTaken u)
          (ap (λ q. filter_map f (sections_on pid packets) ++ filter_map f (sections_in (reader_step q p).told)) at ∙ sym (values_more f pid packets p))
          (takes (filter_map f (sections_on pid packets)) sought.taken);
      state = λ e. read ∙ ap (λ q. reader_behind q p) at ∙ reader_more pid packets p;
    }
