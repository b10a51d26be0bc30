use Rattle.std.proofs.Common.{◌≡◌, Some, None, ap, sym, subst, ◌∙◌}
use Rattle.analyse.specs.TablesWatching.{TablesState, scrambled_pid, watched_only}
use Rattle.analyse.specs.Quiet.{LeavesTables}
use Rattle.analyse.proofs.QuietLaws.{tables_rest}
use Rattle.analyse.proofs.table_watches.TableWatches.rest_at.Goals as goal

pub returns-in-None : goal.returns-in-None
returns-in-None c t =
    let w : TablesState = record { pmts = c.self.inside.pmts; pmt_gaps = c.self.inside.pmt_gaps; pid_gaps = c.self.inside.pid_gaps } in
    let also = sym c.watched_only.ensures.value ∙ c.in-None.is in
    let none : watched_only w.pmt_gaps (scrambled_pid (Some c.args.packet.now)) ≡ None = ap (watched_only w.pmt_gaps) (sym c.scrambled_pid.ensures.value) ∙ also in
    subst (λ (v : TablesState). LeavesTables v c.args.count c.args.packet.now) c.self.view_is
    (tables_rest w c.args.count c.args.packet.now (c.is_early.ensures c.if-not-is_early.false) (c.is_early-2.ensures c.if-not-is_early-2.false) none (c.rest_at.ensures t))
