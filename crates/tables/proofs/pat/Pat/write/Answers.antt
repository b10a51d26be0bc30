use Rattle.std.proofs.Common.{arith, ◌≡◌, ◌≤◌, length, ◌∙◌, ap, Ok, subst}
use Rattle.std.specs.List.{flat_map}
use Rattle.tables.specs.Header.{section_bytes}
use Rattle.tables.specs.Pat.{PatValue, pat_row_bytes, HasReservedPatBits}
use Rattle.tables.proofs.PatLaws.{pat_back, pat_reserved}
use Rattle.tables.proofs.pat.Pat.write.Goals as goal

bytes : (c : goal.After-drop-body-2) → c.in_ok-section.section.items ≡ section_bytes 0 0 c.self.inside.header (flat_map pat_row_bytes c.self.inside.rows.items)
bytes c =
    let body : c.deref-2.result.now ≡ flat_map pat_row_bytes c.self.inside.rows.items = c.deref-2.ensures.value ∙ c.in_ok-body.ensures.bytes ∙ ap (flat_map pat_row_bytes) c.deref.ensures.value in
    c.in_ok-section.ensures.bytes ∙ ap (section_bytes 0 0 c.self.inside.header) body

pub returns-clause-written : goal.returns-clause-written
returns-clause-written c =
    let few : length c.self.inside.rows.items ≤ 253 = omega arith in
    let v : PatValue = record { header = c.self.inside.header; rows = c.self.inside.rows.items } in
    pat_back v c.self.invariant.0 c.self.invariant.1 few c.in_ok-section.section.items (bytes c) ∙ ap Ok c.self.view_is

pub returns-clause-reserved : goal.returns-clause-reserved
returns-clause-reserved c =
    let few : length c.self.inside.rows.items ≤ 253 = omega arith in
    let v : PatValue = record { header = c.self.inside.header; rows = c.self.inside.rows.items } in
    subst (λ (w : PatValue). HasReservedPatBits (length w.rows) c.in_ok-section.section.items) c.self.view_is
    (pat_reserved v c.self.invariant.0 c.self.invariant.1 few c.in_ok-section.section.items (bytes c))
