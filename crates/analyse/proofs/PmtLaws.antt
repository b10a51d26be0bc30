-- What is kept of the newest PMTs of a PID, as its PMTs come.
use Rattle.std.proofs.Common.{◌≡◌, ℕ, ◌+◌, ◌<◌, List, [], ◌∷◌, ◌++◌, length, take, get_or, refl, sym, ◌∙◌, ap, append_assoc, Option, Some, None, Bool, true, false, ◌&&◌}
use Rattle.std.specs.Prelude.{◌==◌, not, find, filter_map, option_map, option_to_list, option_and_then, cond}
use Rattle.std.specs.List.{cons_option}
use Rattle.std.proofs.lemmas.Bool.{eqb-true}
use Rattle.std.proofs.lemmas.List.{take_more, reverse-append}
use Rattle.std.proofs.lemmas.List.Elements.{filter_map-append}
use Rattle.section.specs.declared.told.Told.{Told}
use Rattle.tables.specs.Pmt.{PmtValue, pmt_of}
use Rattle.tables.specs.OnPid.{section_in, value_of}
use Rattle.analyse.specs.PmtWatching.{PmtPids, pids_kept, without, elementary_pids, newest_of, KeepsNewest}
use Rattle.analyse.specs.ToldPmts.{pmt_in, pmts_in}

pub on_from_not : (b : Bool) → not b ≡ false → b ≡ true
on_from_not true e = refl
on_from_not false e = absurd (cc)

-- ---- one PMT more

newest_more : (pmts : List PmtValue) (v : PmtValue) (program : ℕ) → newest_of (pmts ++ v ∷ []) program ≡ cond (v.header.current_next_indicator && v.header.table_id_extension == program) (Some v) (newest_of pmts program)
newest_more pmts v program =
    ap (find (λ (w : PmtValue). w.header.current_next_indicator && w.header.table_id_extension == program)) (reverse-append pmts (v ∷ []))

pub not_current : (kept : List PmtPids) (pmts : List PmtValue) (v : PmtValue) → v.header.current_next_indicator ≡ false → KeepsNewest kept pmts → KeepsNewest kept (pmts ++ v ∷ [])
not_current kept pmts v off k = record {
  pids = λ program.
      k.pids program
      ∙ sym (ap (option_map (λ (w : PmtValue). elementary_pids w.rows)) (newest_more pmts v program
      ∙ ap (λ (b : Bool). cond (b && v.header.table_id_extension == program) (Some v) (newest_of pmts program)) off));
}

current : (pmts : List PmtValue) (v : PmtValue) (program : ℕ) → v.header.current_next_indicator ≡ true → newest_of (pmts ++ v ∷ []) program ≡ cond (v.header.table_id_extension == program) (Some v) (newest_of pmts program)
current pmts v program on = newest_more pmts v program ∙ ap (λ (b : Bool). cond (b && v.header.table_id_extension == program) (Some v) (newest_of pmts program)) on

-- the same PIDs are kept already
same_at : (kept : List PmtPids) (pmts : List PmtValue) (v : PmtValue) (program : ℕ) (same : Bool) → (v.header.table_id_extension == program) ≡ same → pids_kept kept v.header.table_id_extension ≡ Some (elementary_pids v.rows) → KeepsNewest kept pmts → pids_kept kept program ≡ option_map (λ (w : PmtValue). elementary_pids w.rows) (cond same (Some v) (newest_of pmts program))
same_at kept pmts v program true e has k = ap (pids_kept kept) (sym (eqb-true _ _ e)) ∙ has
same_at kept pmts v program false e has k = k.pids program

pub has_same : (kept : List PmtPids) (pmts : List PmtValue) (v : PmtValue) → v.header.current_next_indicator ≡ true → pids_kept kept v.header.table_id_extension ≡ Some (elementary_pids v.rows) → KeepsNewest kept pmts → KeepsNewest kept (pmts ++ v ∷ [])
has_same kept pmts v on has k = record {
  pids = λ program.
      same_at kept pmts v program (v.header.table_id_extension == program) refl has k
      ∙ sym (ap (option_map (λ (w : PmtValue). elementary_pids w.rows)) (current pmts v program on));
}

-- others are put in their place
without_at : (program other : ℕ) (p : PmtPids) (before : List PmtPids) (b : Bool) → (p.program == program) ≡ b → (program == other) ≡ false → pids_kept (without program before) other ≡ pids_kept before other → pids_kept (cond (not b) (p ∷ without program before) (without program before)) other ≡ pids_kept (p ∷ before) other
without_at program other p before true e differ rest =
    let off : (p.program == other) ≡ false = ap (λ (k : ℕ). k == other) (eqb-true _ _ e) ∙ differ in
    rest ∙ sym (ap (λ (b : Bool). option_map (λ (q : PmtPids). q.pids) (cond b (Some p) (find (λ (q : PmtPids). q.program == other) before))) off)
without_at program other p before false e differ rest =
    kept_if (p.program == other) rest
  where
    kept_if : (b : Bool) → pids_kept (without program before) other ≡ pids_kept before other → option_map (λ (q : PmtPids). q.pids) (cond b (Some p) (find (λ (q : PmtPids). q.program == other) (without program before))) ≡ option_map (λ (q : PmtPids). q.pids) (cond b (Some p) (find (λ (q : PmtPids). q.program == other) before))
    kept_if true r = refl
    kept_if false r = r

without_other : (program other : ℕ) (kept : List PmtPids) → (program == other) ≡ false → pids_kept (without program kept) other ≡ pids_kept kept other
without_other program other [] differ = refl
without_other program other (p ∷ before) differ = without_at program other p before (p.program == program) refl differ (without_other program other before differ)

put_at : (kept : List PmtPids) (pmts : List PmtValue) (v : PmtValue) (program : ℕ) (pids : List ℕ) (same : Bool) → (v.header.table_id_extension == program) ≡ same → pids ≡ elementary_pids v.rows → KeepsNewest kept pmts → option_map (λ (q : PmtPids). q.pids) (cond same (Some (record { program = v.header.table_id_extension; pids = pids })) (find (λ (q : PmtPids). q.program == program) (without v.header.table_id_extension kept))) ≡ option_map (λ (w : PmtValue). elementary_pids w.rows) (cond same (Some v) (newest_of pmts program))
put_at kept pmts v program pids true e p k = ap Some p
put_at kept pmts v program pids false e p k = without_other v.header.table_id_extension program kept e ∙ k.pids program

pub put_newest : (kept : List PmtPids) (pmts : List PmtValue) (v : PmtValue) (pids : List ℕ) → v.header.current_next_indicator ≡ true → pids ≡ elementary_pids v.rows → KeepsNewest kept pmts → KeepsNewest (record { program = v.header.table_id_extension; pids = pids } ∷ without v.header.table_id_extension kept) (pmts ++ v ∷ [])
put_newest kept pmts v pids on p k = record {
  pids = λ program.
      put_at kept pmts v program pids (v.header.table_id_extension == program) refl p k
      ∙ sym (ap (option_map (λ (w : PmtValue). elementary_pids w.rows)) (current pmts v program on));
}

pub no_newest : KeepsNewest [] []
no_newest = record { pids = λ program. refl }

-- ---- what was told

step_of : (o : Option (List ℕ)) → filter_map (λ b. value_of (pmt_of b)) (cons_option o []) ≡ option_to_list (option_and_then (λ b. value_of (pmt_of b)) o)
step_of None = refl
step_of (Some b) = last_of (value_of (pmt_of b))
  where
    last_of : (o : Option PmtValue) → cons_option o [] ≡ option_to_list o
    last_of None = refl
    last_of (Some s) = refl

pub pmts_more : (told : List Told) (i : ℕ) (x : Told) → i < length told → x ≡ get_or told i x → pmts_in (take (i + 1) told) ≡ pmts_in (take i told) ++ option_to_list (pmt_in x)
pmts_more told i x h at =
    ap pmts_in (take_more told i x h ∙ ap (λ (y : Told). take i told ++ y ∷ []) (sym at))
    ∙ ap (filter_map (λ b. value_of (pmt_of b))) (filter_map-append section_in (take i told) (x ∷ []))
    ∙ filter_map-append (λ b. value_of (pmt_of b)) (filter_map section_in (take i told)) (filter_map section_in (x ∷ []))
    ∙ ap (λ (l : List PmtValue). pmts_in (take i told) ++ l) (step_of (section_in x))

pub newest_step : (told : List Told) (i : ℕ) (x : Told) (first kept new : List PmtPids) → i < length told → x ≡ get_or told i x → ((pmts : List PmtValue) → KeepsNewest first pmts → KeepsNewest kept (pmts ++ pmts_in (take i told))) → ((pmts : List PmtValue) → KeepsNewest kept pmts → KeepsNewest new (pmts ++ option_to_list (pmt_in x))) → (pmts : List PmtValue) → KeepsNewest first pmts → KeepsNewest new (pmts ++ pmts_in (take (i + 1) told))
newest_step told i x first kept new h at before step pmts s =
    let more : (pmts ++ pmts_in (take i told)) ++ option_to_list (pmt_in x) ≡ pmts ++ pmts_in (take (i + 1) told) =
    append_assoc pmts (pmts_in (take i told)) (option_to_list (pmt_in x)) ∙ ap (λ (l : List PmtValue). pmts ++ l) (sym (pmts_more told i x h at)) in
    rw (← more) (step (pmts ++ pmts_in (take i told)) (before pmts s))
