use Rattle.std.proofs.Common.{ℕ, ◌+◌, Some, sym, subst, length}
use Rattle.analyse.specs.GapsWatching.{HaveSeenNumbers, OnlyMarked}
use Rattle.analyse.specs.TablesWatching.{TablesState, HaveSeenTables}
use Rattle.analyse.specs.Quiet.{LeavesTables}
use Rattle.analyse.proofs.QuietLaws.{tables_passed}
use Rattle.analyse.proofs.table_watches.TableWatches.pass.Goals as goal

pub returns-clause-seen : goal.returns-clause-seen
returns-clause-seen c slots slot packet s n r e left rows =
    let t = subst (λ (w : TablesState). HaveSeenTables w slots) (sym c.self.view_is) s in
    let l = subst (λ (w : TablesState). LeavesTables w (length slots) packet) (sym c.self.view_is) left in
    let w : TablesState = record { pmts = c.self.inside.pmts; pmt_gaps = c.self.inside.pmt_gaps; pid_gaps = c.self.inside.pid_gaps } in
    tables_passed w c.pass_marked.new.self slots slot packet t l.pmts r rows
    (λ watched mark seen only.
    subst (λ (k : ℕ). HaveSeenNumbers c.pass_marked.new.self watched mark (k + 1)) (sym n)
    (c.pass_marked.ensures.seen watched mark packet e
    (subst (λ (k : ℕ). HaveSeenNumbers w.pid_gaps watched mark k) n seen)
    (subst (λ (k : ℕ). OnlyMarked w.pid_gaps watched mark k (Some packet)) n only)))
    c.pass_marked.ensures.watched
