-- PAT_error_2 at the next slot, from what is known of the slots so far.
use Rattle.std.proofs.Common.{◌≡◌, ℕ, suc, ◌+◌, ◌-◌, ◌≤◌, List, [], ◌∷◌, ◌++◌, length, take, drop, refl, sym, ◌∙◌, ap, subst, arith, length-append, Option, Some, None, Bool, true, false, ◌&&◌, ◌||◌}
use Rattle.std.specs.Prelude.{not, ◌==◌, filter, filter_map, cond, is_some, option_and_then}
use Rattle.std.specs.List.{list_any, cons_option}
use Rattle.std.proofs.lemmas.Bool.{and_left}
use Rattle.std.proofs.lemmas.Bool.Decides.{nat_tests}
use Rattle.std.proofs.lemmas.List.{take-append-le}
use Rattle.std.proofs.lemmas.List.Elements.{filter-append, filter_map-append}
use Rattle.std.proofs.Math.Seq.{take-append_seam, drop-append_seam}
use Rattle.tspkt.specs.Packet.{pid_of, transport_scrambling_control_of}
use Rattle.tspkt.specs.Bits.{field}
use Rattle.section.specs.declared.told.Told.{Told}
use Rattle.tables.specs.OnPid.{section_in, sections_on, pat_section_of, pat_sections}
use Rattle.analyse.specs.Slots.{packets_in, is_packet}
use Rattle.analyse.specs.Gaps.{is_gap_at}
use Rattle.analyse.specs.Faults.{completed_by, completes, pats_of, others_of, is_pat_mark, is_scrambled_at, is_pat_bad_at}
use Rattle.analyse.specs.SlotReading.{IsReadAs}
use Rattle.analyse.specs.PatWatching.{is_other, is_other_in, is_scrambled, HasSeenPat}
use Rattle.tables.specs.InForce.{SectionValue}
use Rattle.tables.specs.Pat.{PatValue}
use Rattle.analyse.specs.ProgramsWatching.{ProgramsState, HasRows, is_pat_in, pats_in}
use Rattle.tables.specs.SectionReading.{ReaderState, reader_on}
use Rattle.analyse.specs.GapWatching.{GapState, HasSeenNumbers, IsSince}
use Rattle.analyse.proofs.GapLaws.{since_same}
use Rattle.analyse.proofs.SlotLaws.{all_slots, new_slot}

-- ---- what a slot completes

pub completes_last : {X : Type 0} (sections_of : List (List ℕ) → List X) (slots : List (List ℕ)) (x : List ℕ) (new : List X) → sections_of (slots ++ x ∷ []) ≡ sections_of slots ++ new → completes sections_of (slots ++ x ∷ []) (length slots + 1) ≡ not (length new == 0)
completes_last {X = X} sections_of slots x new e =
    let n = length slots in
    let back : n + 1 - 1 ≡ n = omega arith in
    let front : take (n + 1 - 1) (slots ++ x ∷ []) ≡ slots = ap (λ (k : ℕ). take k (slots ++ x ∷ [])) back ∙ take-append_seam slots (x ∷ []) in
    let behind : completed_by sections_of (slots ++ x ∷ []) (n + 1) ≡ new =
    ap (λ (l : List (List ℕ)). drop (length (sections_of l)) (sections_of (take (n + 1) (slots ++ x ∷ [])))) front
    ∙ ap (λ (l : List (List ℕ)). drop (length (sections_of slots)) (sections_of l)) (all_slots slots x)
    ∙ ap (drop (length (sections_of slots))) e ∙ drop-append_seam (sections_of slots) new in
    ap (λ (l : List X). not (length l == 0)) behind

pub completes_before : {X : Type 0} (sections_of : List (List ℕ) → List X) (slots : List (List ℕ)) (x : List ℕ) (k : ℕ) → k ≤ length slots → completes sections_of (slots ++ x ∷ []) k ≡ completes sections_of slots k
completes_before sections_of slots x k h =
    let a = take-append-le k slots (x ∷ []) h in
    let b = take-append-le (k - 1) slots (x ∷ []) (omega arith) in
    rw (a, b) refl

pub mark_before : (slots : List (List ℕ)) (x : List ℕ) (k : ℕ) → k ≤ length slots → is_pat_mark (slots ++ x ∷ []) k ≡ is_pat_mark slots k
mark_before slots x k h = ap (λ (b : Bool). k == 0 || b) (completes_before pats_of slots x k h)

-- ---- what was told

some_more : (n : ℕ) → true ≡ not (suc n == 0)
some_more n = grind (arith, nat_tests)

kept_some : {Y : Type 0} (o : Option Y) (ys : List Y) (b : Bool) → b ≡ not (length ys == 0) → (is_some o || b) ≡ not (length (cons_option o ys) == 0)
kept_some None ys b h = h
kept_some (Some y) ys b h = some_more (length ys)

kept_test : (test : List ℕ → Bool) (y : List ℕ) (ys : List (List ℕ)) (t b : Bool) → b ≡ not (length ys == 0) → (t || b) ≡ not (length (cond t (y ∷ ys) ys) == 0)
kept_test test y ys false b h = h
kept_test test y ys true b h = some_more (length ys)

read_step : {V : Type 0} (read : List ℕ → Option V) (o : Option (List ℕ)) (rest : List (List ℕ)) (b : Bool) → b ≡ not (length (filter_map read rest) == 0) → (is_some (option_and_then read o) || b) ≡ not (length (filter_map read (cons_option o rest)) == 0)
read_step read None rest b h = h
read_step read (Some y) rest b h = kept_some (read y) (filter_map read rest) b h

other_step : (o : Option (List ℕ)) (rest : List (List ℕ)) (b : Bool) → b ≡ not (length (filter (λ s. not (field s 0 8 == 0)) rest) == 0) → (is_other o || b) ≡ not (length (filter (λ s. not (field s 0 8 == 0)) (cons_option o rest)) == 0)
other_step None rest b h = h
other_step (Some y) rest b h = kept_test (λ s. not (field s 0 8 == 0)) y (filter (λ s. not (field s 0 8 == 0)) rest) (not (field y 0 8 == 0)) b h

-- whether something was told that is read as a table
pub any_read : {V : Type 0} (read : List ℕ → Option V) (told : List Told) → list_any (λ t. is_some (option_and_then read (section_in t))) told ≡ not (length (filter_map read (filter_map section_in told)) == 0)
any_read read [] = refl
any_read read (t ∷ told) = read_step read (section_in t) (filter_map section_in told) (list_any (λ t. is_some (option_and_then read (section_in t))) told) (any_read read told)

any_other : (told : List Told) → list_any is_other_in told ≡ not (length (filter (λ b. not (field b 0 8 == 0)) (filter_map section_in told)) == 0)
any_other [] = refl
any_other (t ∷ told) = other_step (section_in t) (filter_map section_in told) (list_any is_other_in told) (any_other told)

-- ---- together

pats_last : (slots : List (List ℕ)) (x : List ℕ) (told : List Told) → sections_on 0x0000 (packets_in (slots ++ x ∷ [])) ≡ sections_on 0x0000 (packets_in slots) ++ filter_map section_in told → pat_sections (packets_in (slots ++ x ∷ [])) ≡ pat_sections (packets_in slots) ++ pats_in told
pats_last slots x told e = ap (filter_map pat_section_of) e ∙ filter_map-append pat_section_of (sections_on 0x0000 (packets_in slots)) (filter_map section_in told)

pub marked_last : (slots : List (List ℕ)) (x : List ℕ) (told : List Told) → sections_on 0x0000 (packets_in (slots ++ x ∷ [])) ≡ sections_on 0x0000 (packets_in slots) ++ filter_map section_in told → list_any is_pat_in told ≡ is_pat_mark (slots ++ x ∷ []) (length slots + 1)
marked_last slots x told e =
    let some : (length slots + 1 == 0) ≡ false = grind (arith, nat_tests) in
    any_read pat_section_of told
    ∙ sym (completes_last pats_of slots x (pats_in told) (pats_last slots x told e))
    ∙ sym (ap (λ (b : Bool). b || completes pats_of (slots ++ x ∷ []) (length slots + 1)) some)

other_last : (slots : List (List ℕ)) (x : List ℕ) (told : List Told) → sections_on 0x0000 (packets_in (slots ++ x ∷ [])) ≡ sections_on 0x0000 (packets_in slots) ++ filter_map section_in told → list_any is_other_in told ≡ completes others_of (slots ++ x ∷ []) (length slots + 1)
other_last slots x told e =
    let test = λ (b : List ℕ). not (field b 0 8 == 0) in
    let more : filter test (sections_on 0x0000 (packets_in (slots ++ x ∷ []))) ≡ filter test (sections_on 0x0000 (packets_in slots)) ++ filter test (filter_map section_in told) =
    ap (filter test) e ∙ filter-append test (sections_on 0x0000 (packets_in slots)) (filter_map section_in told) in
    any_other told
    ∙ sym (completes_last others_of slots x (filter test (filter_map section_in told)) more)

at_new : (slots : List (List ℕ)) (x : List ℕ) → is_scrambled_at (slots ++ x ∷ []) 0x0000 (length slots) ≡ (is_packet x && (pid_of x == 0x0000 && not (transport_scrambling_control_of x == 0)))
at_new slots x = ap (λ (s : List ℕ). is_packet s && (pid_of s == 0x0000 && not (transport_scrambling_control_of s == 0))) (new_slot slots x)

scrambled_last : (slots : List (List ℕ)) (x : List ℕ) (packet : Option (List ℕ)) → IsReadAs x packet → is_scrambled packet ≡ is_scrambled_at (slots ++ x ∷ []) 0x0000 (length slots)
scrambled_last slots x None r = sym (at_new slots x ∙ and_left (is_packet x) (pid_of x == 0x0000 && not (transport_scrambling_control_of x == 0)) r)
scrambled_last slots x (Some packet) r =
    ap (λ (p : List ℕ). pid_of p == 0x0000 && not (transport_scrambling_control_of p == 0)) r.0
    ∙ sym (at_new slots x ∙ ap (λ (b : Bool). b && (pid_of x == 0x0000 && not (transport_scrambling_control_of x == 0))) r.1)

pub bad_last : (limit : ℕ) (slots : List (List ℕ)) (x : List ℕ) (told : List Told) (packet : Option (List ℕ)) (missed : Bool) → sections_on 0x0000 (packets_in (slots ++ x ∷ [])) ≡ sections_on 0x0000 (packets_in slots) ++ filter_map section_in told → IsReadAs x packet → missed ≡ is_gap_at limit (λ k. true) (is_pat_mark (slots ++ x ∷ [])) (length slots) → ((missed || list_any is_other_in told) || is_scrambled packet) ≡ is_pat_bad_at limit (slots ++ x ∷ []) (length slots)
unfolding is_pat_bad_at
bad_last limit slots x told packet missed e r g =
    let a = other_last slots x told e in
    let b = scrambled_last slots x packet r in
    rw (g, a, b) refl

-- ---- the watch behind one more slot

module _ (a new_a : ReaderState) (g new_g : GapState) (b new_b : Bool) (p new_p : ProgramsState) (slots : List (List ℕ)) (x : List ℕ) (count : ℕ) (told : List Told) (s : HasSeenPat (record { sections = a; gap = g; marked = b; programs = p }) slots) (e : length slots ≡ count) (more : sections_on 0x0000 (packets_in (slots ++ x ∷ [])) ≡ sections_on 0x0000 (packets_in slots) ++ filter_map section_in told) where
  gap_now : HasSeenNumbers g (λ k. true) (is_pat_mark (slots ++ x ∷ [])) count
  gap_now = record {
    since = since_same (λ k. true) (is_pat_mark slots) (is_pat_mark (slots ++ x ∷ [])) count g.since
        (λ k h. sym (mark_before slots x k (omega arith)))
        (subst (λ (k : ℕ). IsSince (λ j. true) (is_pat_mark slots) k g.since) e s.gap.since);
  }

  marked_now : is_pat_mark (slots ++ x ∷ []) count ≡ b
  marked_now = mark_before slots x count (omega arith) ∙ ap (is_pat_mark slots) (sym e) ∙ sym s.marked

  pub seen_pat : new_a ≡ reader_on 0x0000 (packets_in (slots ++ x ∷ [])) → ((watched mark : ℕ → Bool) → HasSeenNumbers g watched mark count → watched count ≡ true → mark count ≡ b → HasSeenNumbers new_g watched mark (count + 1)) → new_b ≡ list_any is_pat_in told → ((sections : List (SectionValue PatValue)) → HasRows p sections → HasRows new_p (sections ++ pats_in told)) → HasSeenPat (record { sections = new_a; gap = new_g; marked = new_b; programs = new_p }) (slots ++ x ∷ [])
  seen_pat seen each marked rows =
      let size : count + 1 ≡ length (slots ++ x ∷ []) = ap (λ (k : ℕ). k + 1) (sym e) ∙ sym (length-append slots (x ∷ [])) in
      let behind = each (λ k. true) (is_pat_mark (slots ++ x ∷ [])) gap_now refl marked_now in
      record {
        sections = seen;
        gap = subst (λ (k : ℕ). HasSeenNumbers new_g (λ j. true) (is_pat_mark (slots ++ x ∷ [])) k) size behind;
        marked = marked ∙ marked_last slots x told more ∙ ap (is_pat_mark (slots ++ x ∷ [])) (sym (length-append slots (x ∷ [])));
        programs = subst (HasRows new_p) (sym (pats_last slots x told more)) (rows (pat_sections (packets_in slots)) s.programs);
      }

  pub bad_pat : (missed : Bool) (packet : Option (List ℕ)) → IsReadAs x packet → ((watched mark : ℕ → Bool) → HasSeenNumbers g watched mark count → watched count ≡ true → mark count ≡ b → missed ≡ is_gap_at g.limit watched mark count) → ((missed || list_any is_other_in told) || is_scrambled packet) ≡ is_pat_bad_at g.limit (slots ++ x ∷ []) count
  bad_pat missed packet r each =
      let gap = each (λ k. true) (is_pat_mark (slots ++ x ∷ [])) gap_now refl marked_now in
      bad_last g.limit slots x told packet missed more r (gap ∙ ap (is_gap_at g.limit (λ k. true) (is_pat_mark (slots ++ x ∷ []))) (sym e))
      ∙ ap (is_pat_bad_at g.limit (slots ++ x ∷ [])) e
