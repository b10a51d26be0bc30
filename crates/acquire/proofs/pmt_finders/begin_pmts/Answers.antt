use Rattle.std.proofs.Common.{◌≡◌, ◌<◌, [], sym, ap, ◌∙◌, get_or, length, slice_set, arith}
use Rattle.std.proofs.lemmas.List.Edits.{map_over_more}
use Rattle.std.specs.List.{flat_map}
use Rattle.tables.specs.Pat.{PatValue}
use Rattle.acquire.specs.Findings.{pmt_pid_of}
use Rattle.acquire.specs.Seen.{pmt_finder_on, pmt_finder_begun}
use Rattle.acquire.proofs.pmt_finders.begin_pmts.Goals as goal

pub loop-finder-preserved : goal.loop-finder-preserved
loop-finder-preserved c =
    let rows = flat_map (λ (p : PatValue). p.rows) c.args.pats.now in
    let items = c.loop-finder.finder-items in
    let i = c.loop-finder.finder-index in
    let x = c.finder-item.result in
    let begun : c.begin.new.self ≡ pmt_finder_begun rows x =
    c.begin.ensures
    ∙ ap (λ pid. pmt_finder_on (get_or items i x).program pid []) (c.pmt_pid-pid.ensures ∙ ap (λ n. pmt_pid_of n rows) c.program.ensures)
    ∙ ap (pmt_finder_begun rows) (sym c.finder-item.is) in
    let within : i < length c.deref_mut-finder-items.result.now = omega arith in
    ap (slice_set items i) begun
    ∙ map_over_more (pmt_finder_begun rows) c.deref_mut-finder-items.result.now items i x within c.loop-finder.invariant c.finder-item.is
