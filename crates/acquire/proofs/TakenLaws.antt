-- The first complete table, as its sections come.
use Rattle.std.proofs.Common.{◌≡◌, true, false, List, [], ◌∷◌, ◌++◌, Option, Some, None, option_map, is_some, refl, sym, ◌∙◌, ap}
use Rattle.tables.specs.InForce.{SectionValue, complete_table, run_of}
use Rattle.tables.specs.Kept.{StandsFor, tables_of, newest_of_each}
use Rattle.acquire.specs.Findings.{or_later, first_complete_behind, first_complete}
use Rattle.acquire.specs.Taken.{newest_first, FirstTableState, HasTaken}

pub or_none : {V : Type 0} (o : Option V) → or_later o None ≡ o
or_none None = refl
or_none (Some x) = refl

or_assoc : {V : Type 0} (o p q : Option V) → or_later o (or_later p q) ≡ or_later (or_later o p) q
or_assoc None p q = refl
or_assoc (Some x) p q = refl

first_more_behind : {V : Type 0} (before sections : List (SectionValue V)) (s : SectionValue V)
    → first_complete_behind before (sections ++ s ∷ []) ≡ or_later (first_complete_behind before sections) (complete_table (s ∷ newest_first before sections))
first_more_behind before [] s = or_none (complete_table (s ∷ before))
first_more_behind before (x ∷ sections) s =
    ap (or_later (complete_table (x ∷ before))) (first_more_behind (x ∷ before) sections s)
    ∙ or_assoc (complete_table (x ∷ before)) (first_complete_behind (x ∷ before) sections) (complete_table (s ∷ newest_first (x ∷ before) sections))

newest_more : {V : Type 0} (before sections : List (SectionValue V)) (s : SectionValue V) → newest_first before (sections ++ s ∷ []) ≡ s ∷ newest_first before sections
newest_more before [] s = refl
newest_more before (x ∷ sections) s = newest_more (x ∷ before) sections s

or_stays : {V : Type 0} (o later other : Option V) (x : V) → or_later o later ≡ Some x → (later ≡ Some x → other ≡ Some x) → or_later o other ≡ Some x
or_stays None later other x e then_other = then_other e
or_stays (Some y) later other x e then_other = e

first_stays_behind : {V : Type 0} (before sections more : List (SectionValue V)) (t : List (SectionValue V))
    → first_complete_behind before sections ≡ Some t → first_complete_behind before (sections ++ more) ≡ Some t
first_stays_behind before [] more t e = absurd (cc)
first_stays_behind before (x ∷ sections) more t e =
    or_stays (complete_table (x ∷ before)) (first_complete_behind (x ∷ before) sections) (first_complete_behind (x ∷ before) (sections ++ more)) t e
    (λ later. first_stays_behind (x ∷ before) sections more t later)

-- once a table was complete, no later section changes it
pub first_stays : {V : Type 0} (sections more : List (SectionValue V)) (t : List (SectionValue V)) → first_complete sections ≡ Some t → first_complete (sections ++ more) ≡ Some t
first_stays sections more t e = first_stays_behind [] sections more t e

stays_at : {V W : Type 0} (f : V → W) (o other : Option V) → is_some (option_map f o) ≡ true → ((t : V) → o ≡ Some t → other ≡ Some t) → option_map f o ≡ option_map f other
stays_at f None other s e = absurd (cc)
stays_at f (Some t) other s e = ap (option_map f) (sym (e t refl))

none_is_not_some : {V : Type 0} (o : Option V) → is_some o ≡ true → o ≡ None → ⊥
none_is_not_some None s e = absurd (cc)
none_is_not_some (Some x) s e = absurd (cc)

-- a table that was found stays
pub taken_stays : {V : Type 0} (f : FirstTableState V) (sections more : List (SectionValue V)) → is_some f.found ≡ true → HasTaken f sections → HasTaken f (sections ++ more)
taken_stays f sections more s taken = record {
  found = taken.found ∙ stays_at tables_of (first_complete sections) (first_complete (sections ++ more)) (ap is_some (sym taken.found) ∙ s) (λ t e. first_stays sections more t e);
  run = λ e. absurd (none_is_not_some f.found s e);
}

not_mapped : {V W : Type 0} (f : V → W) (o : Option V) → option_map f o ≡ None → o ≡ None
not_mapped f None e = refl
not_mapped f (Some x) e = absurd (cc)

is_none : {V : Type 0} (o : Option V) → is_some o ≡ false → o ≡ None
is_none None e = refl
is_none (Some x) e = absurd (cc)

pub some_mapped : {V W : Type 0} (f : V → W) (o : Option V) → is_some (option_map f o) ≡ is_some o
some_mapped f None = refl
some_mapped f (Some x) = refl

first_is : {V : Type 0} (f : FirstTableState V) (sections : List (SectionValue V)) (s : SectionValue V) → HasTaken f sections → is_some f.found ≡ false
    → first_complete (sections ++ s ∷ []) ≡ complete_table (s ∷ newest_first [] sections)
first_is f sections s taken n =
    first_more_behind [] sections s
    ∙ ap (λ o. or_later o (complete_table (s ∷ newest_first [] sections))) (not_mapped tables_of (first_complete sections) (sym taken.found ∙ is_none f.found n))

-- the section that comes makes the table complete
pub taken_complete : {V : Type 0} (f g : FirstTableState V) (sections : List (SectionValue V)) (s : SectionValue V) → HasTaken f sections → is_some f.found ≡ false
    → g.found ≡ option_map tables_of (complete_table (s ∷ newest_first [] sections)) → is_some (complete_table (s ∷ newest_first [] sections)) ≡ true
    → HasTaken g (sections ++ s ∷ [])
taken_complete f g sections s taken n found complete = record {
  found = found ∙ ap (option_map tables_of) (sym (first_is f sections s taken n));
  run = λ e. absurd (none_is_not_some g.found (ap is_some found ∙ some_mapped tables_of (complete_table (s ∷ newest_first [] sections)) ∙ complete) e);
}

-- the table isn't complete with it
pub taken_waits : {V : Type 0} (f g : FirstTableState V) (sections : List (SectionValue V)) (s : SectionValue V) → HasTaken f sections → is_some f.found ≡ false
    → g.found ≡ f.found → is_some (complete_table (s ∷ newest_first [] sections)) ≡ false → StandsFor g.run (s ∷ newest_first [] sections)
    → HasTaken g (sections ++ s ∷ [])
taken_waits f g sections s taken n same waits stands = record {
  found = same ∙ is_none f.found n ∙ sym (ap (option_map tables_of) (first_is f sections s taken n ∙ is_none (complete_table (s ∷ newest_first [] sections)) waits));
  run = λ e. stands ∙ ap (λ l. newest_of_each (run_of l)) (sym (newest_more [] sections s));
}

-- what was kept before
pub taken_run : {V : Type 0} (f : FirstTableState V) (sections : List (SectionValue V)) → HasTaken f sections → is_some f.found ≡ false → StandsFor f.run (newest_first [] sections)
taken_run f sections taken n = taken.run (is_none f.found n)
