use Rattle.std.proofs.Common.{rules, ◌≡◌, ◌==◌, not, ◌∷◌, ap, ◌∙◌}
use Rattle.std.proofs.lemmas.Fn.{filter_same}
use Rattle.tables.specs.InForce.{SectionValue}
use Rattle.tables.specs.Kept.{kept_with, without}
use Rattle.tables.proofs.InForceLaws.{stands_behind}
use Rattle.tables.proofs.table_run.TableRun.push.Goals as goal

pub returns-clause-stands : goal.returns-clause-stands
returns-clause-stands g c sections stands =
    let s : SectionValue _ = record { header = c.args.header; table = c.args.table } in
    let number = c.args.header.section_number in
    let left = filter_same _ (λ s. not (s.header.section_number == number)) _ (λ x b f' k. search rules) _ _ c.retain.ensures.filtered in
    let put : c.insert.new.self.items ≡ s ∷ c.retain.new.self.items = rw c.unwrap.ensures at c.insert.ensures.items in
    put
    ∙ ap (λ l. s ∷ l) left
    ∙ ap (λ l. s ∷ without number l) c.keep_version.ensures.items
    ∙ ap (λ l. s ∷ without number (kept_with c.args.header l)) (c.in_ok-reserve.ensures.items ∙ c.self.view_is)
    ∙ stands_behind s c.args.self.now sections (search rules) stands
