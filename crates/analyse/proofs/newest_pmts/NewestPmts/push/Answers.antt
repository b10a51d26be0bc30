use Rattle.std.proofs.Common.{[], ◌∷◌, ◌++◌, List, sym, ap, subst, ◌∙◌}
use Rattle.tables.specs.declared.header.Header.{Header}
use Rattle.analyse.specs.PmtWatching.{PmtPids, KeepsNewest, without, elementary_pids}
use Rattle.analyse.proofs.PmtLaws.{on_from_not, put_newest}
use Rattle.analyse.proofs.newest_pmts.NewestPmts.push.Goals as goal

pub returns-clause-seen : goal.returns-clause-seen
returns-clause-seen c pmts k =
    let h = c.header-header.ensures.value in
    let pids = c.in_ok-pids.pids.items in
    let new = c.in_ok-put.ensures ∙ ap (λ (h : Header). record { program = h.table_id_extension; pids = pids } ∷ without h.table_id_extension c.args.self.now) h in
    subst (λ (kept : List PmtPids). KeepsNewest kept (pmts ++ c.args.pmt.now ∷ [])) (sym new)
    (put_newest c.args.self.now pmts c.args.pmt.now pids (sym (ap (λ (h : Header). h.current_next_indicator) h) ∙ on_from_not c.header-header.result.current_next_indicator c.if-not-header.false)
    (c.in_ok-pids.ensures ∙ ap elementary_pids c.rows-2.ensures.value) k)
