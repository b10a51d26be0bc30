-- Where a service is scrambled, by what is found.
use Rattle.std.proofs.Common.{◌≡◌, Bool, false, true, ◌||◌, None, Some, refl, ap, ◌∙◌}
use Rattle.std.specs.Prelude.{find}
use Rattle.std.specs.List.{list_any}
use Rattle.tables.specs.declared.pmt_row.PmtRow.{PmtRow}
use Rattle.selection.specs.Chosen.{ChosenValue, has_ca, is_scrambled}
use Rattle.plan_causes.specs.Causes.{IsCaPlace}
use Rattle.plan_causes.specs.declared.ca_place.CaPlace.TheVariants as Ca
use Rattle.plan_causes.proofs.FindLaws.{none_of, one_of, is_there, found_passes}

abbrev has_ca_row : PmtRow → Bool
has_ca_row row = has_ca row.descriptors

pub by_program : (c : ChosenValue) → has_ca c.pmt.program_info ≡ true → is_scrambled c ≡ true
unfolding is_scrambled
by_program c h = ap (λ b. (b || list_any has_ca_row c.pmt.rows) || c.row.free_ca_mode) h

pub by_row : (c : ChosenValue) (row : PmtRow) → has_ca c.pmt.program_info ≡ false → find has_ca_row c.pmt.rows ≡ Some row → is_scrambled c ≡ true
unfolding is_scrambled
by_row c row e h =
    ap (λ b. (b || list_any has_ca_row c.pmt.rows) || c.row.free_ca_mode) e ∙ ap (λ b. b || c.row.free_ca_mode) (one_of has_ca_row c.pmt.rows row h)

pub by_mode : (c : ChosenValue) (b : Bool) → has_ca c.pmt.program_info ≡ false → find has_ca_row c.pmt.rows ≡ None → c.row.free_ca_mode ≡ b → is_scrambled c ≡ b
unfolding is_scrambled
by_mode c b e h f =
    ap (λ b. (b || list_any has_ca_row c.pmt.rows) || c.row.free_ca_mode) e ∙ ap (λ b. b || c.row.free_ca_mode) (none_of has_ca_row c.pmt.rows h) ∙ f

pub row_is_there : (c : ChosenValue) (row : PmtRow) → find has_ca_row c.pmt.rows ≡ Some row → IsCaPlace c (Ca.Stream row.elementary_pid)
row_is_there c row h =
    is_there has_ca_row (λ (x : PmtRow). (x.elementary_pid ≡ row.elementary_pid) × (has_ca x.descriptors ≡ true)) c.pmt.rows row h
    (refl, found_passes has_ca_row c.pmt.rows row h)
