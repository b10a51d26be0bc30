use Rattle.std.proofs.Common.{◌≡◌, ◌==◌, length, false, sym, ap, subst, ◌∙◌}
use Rattle.section.specs.Assembled.{Reading}
use Rattle.section.specs.Collecting.{Reads, is_ended}
use Rattle.section.proofs.CollectLaws.{reads_collected}
use Rattle.section.proofs.SectionsLaws.{ending-begun, ended-outcome}
use Rattle.section.proofs.reading.collect_ending.Goals as goal

pub returns-clause-reads : goal.returns-clause-reads
returns-clause-reads c =
    let held = c.args.begun.now.items in
    let bytes = c.args.bytes.now in
    let some : (length held == 0) ≡ false = sym c.is_empty.ensures ∙ c.if-is_empty.false in
    let P : Reading → Type 0 = λ r. Reads r c.collect.new.begun.items c.args.out.now.items c.collect.new.out.items in
    subst P (sym (ending-begun held bytes some)) (reads_collected held bytes _ _ _ _ c.collect.ensures.collects)

pub returns-clause-ended : goal.returns-clause-ended
returns-clause-ended c =
    let held = c.args.begun.now.items in
    let bytes = c.args.bytes.now in
    let some : (length held == 0) ≡ false = sym c.is_empty.ensures ∙ c.if-is_empty.false in
    c.is_ended.ensures ∙ ap is_ended c.collect.ensures.collects.next ∙ ended-outcome held bytes ∙ sym (ap (λ (r : Reading). r.ended) (ending-begun held bytes some))
