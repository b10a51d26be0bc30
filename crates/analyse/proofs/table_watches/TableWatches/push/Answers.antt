use Rattle.std.proofs.Common.{◌≡◌, ◌<◌, ℕ, List, [], ◌∷◌, ◌++◌, ◌+◌, Bool, false, get_or, ap, sym, subst, ◌∙◌}
use Rattle.std.specs.Prelude.{option_map}
use Rattle.tables.specs.declared.pat_row.PatRow.{PatRow}
use Rattle.analyse.specs.InForce.{is_pmt_pid_behind, is_referred_behind}
use Rattle.analyse.specs.Faults.{is_pmt_watched, is_pmt_mark, is_pid_watched, is_pid_mark}
use Rattle.analyse.specs.GapsWatching.{ChangesTo, OnlyMarked, HaveSeenNumbers}
use Rattle.analyse.specs.WatchedPids.{is_pmt_pid_of, is_referred_of}
use Rattle.analyse.specs.TablesWatching.{TablesState, HaveSeenTables}
use Rattle.analyse.proofs.TablesLaws.{pmt_pids_are, referred_are, referred_same, pmt_pids_same, pmt_numbers, pid_numbers, pmt_only, pid_only, pmt_changes, pid_changes, tables_seen}
use Rattle.analyse.proofs.table_watches.TableWatches.push.Goals as goal

pub returns-then-changed-clause-seen : goal.returns-then-changed-clause-seen
returns-then-changed-clause-seen c slots slot s n r rows same =
    let t = subst (λ (w : TablesState). HaveSeenTables w slots) (sym c.self.view_is) s in
    let w : TablesState = record { pmts = c.self.inside.pmts; pmt_gaps = c.self.inside.pmt_gaps; pid_gaps = c.self.inside.pid_gaps } in
    let more = slots ++ slot ∷ [] in
    let packet = option_map (λ p. p.now) c.args.packet in
    let marked = option_map (λ p. p.now) c.packet_if-pmt.result in
    let pmts = c.in_ok-seen.ensures.seen slots slot t.pmts r in
    let grew = c.in_ok-seen.ensures.came slots slot t.pmts r in
    let pmt_set : (pid : ℕ) → pid < 8192 → get_or c.change_pmts.ensures.set pid false ≡ is_pmt_pid_behind more pid =
    λ pid h. c.change_pmts.ensures.has pid h ∙ ap (λ (l : List PatRow). is_pmt_pid_of l pid) rows ∙ pmt_pids_are more pid in
    let pid_set : (pid : ℕ) → pid < 8192 → get_or c.change_pids.ensures.set pid false ≡ is_referred_behind more pid =
    λ pid h. c.change_pids.ensures.has pid h ∙ ap (λ (l : List PatRow). is_referred_of c.push.new.self l pid) rows ∙ referred_are c.push.new.self more pid pmts in
    tables_seen c.push.new.self c.change_pmts.new.gaps c.change_pids.new.gaps slots slot pmts
    (subst (λ (k : ℕ). HaveSeenNumbers c.change_pmts.new.gaps (is_pmt_watched more) (is_pmt_mark more) (k + 1)) (sym n)
    (c.change_pmts.ensures.seen (is_pmt_watched more) (is_pmt_mark more)
    (subst (λ (k : ℕ). HaveSeenNumbers w.pmt_gaps (is_pmt_watched more) (is_pmt_mark more) k) n (pmt_numbers w slots slot t))
    (subst (λ (k : ℕ). ChangesTo w.pmt_gaps c.change_pmts.ensures.set (is_pmt_watched more) (is_pmt_mark more) k marked) n (pmt_changes w slots slot t packet marked c.in_ok-seen.seen.came grew c.packet_if-pmt.ensures r c.change_pmts.ensures.set pmt_set))))
    (subst (λ (k : ℕ). HaveSeenNumbers c.change_pids.new.gaps (is_pid_watched more) (is_pid_mark more) (k + 1)) (sym n)
    (c.change_pids.ensures.seen (is_pid_watched more) (is_pid_mark more)
    (subst (λ (k : ℕ). HaveSeenNumbers w.pid_gaps (is_pid_watched more) (is_pid_mark more) k) n (pid_numbers w slots slot t))
    (subst (λ (k : ℕ). ChangesTo w.pid_gaps c.change_pids.ensures.set (is_pid_watched more) (is_pid_mark more) k packet) n (pid_changes w slots slot t packet marked c.in_ok-seen.seen.came grew c.packet_if-pmt.ensures r c.change_pids.ensures.set pid_set))))
    (λ pid h. c.change_pmts.ensures.watched pid h ∙ pmt_set pid h)
    (λ pid h. c.change_pids.ensures.watched pid h ∙ pid_set pid h)

pub returns-clause-seen : goal.returns-clause-seen
returns-clause-seen c slots slot s n r rows same =
    let t = subst (λ (w : TablesState). HaveSeenTables w slots) (sym c.self.view_is) s in
    let w : TablesState = record { pmts = c.self.inside.pmts; pmt_gaps = c.self.inside.pmt_gaps; pid_gaps = c.self.inside.pid_gaps } in
    let more = slots ++ slot ∷ [] in
    let packet = option_map (λ p. p.now) c.args.packet in
    let marked = option_map (λ p. p.now) c.packet_if-pmt.result in
    let pmts = c.in_ok-seen.ensures.seen slots slot t.pmts r in
    let grew = c.in_ok-seen.ensures.came slots slot t.pmts r in
    let pmt_same : (pid : ℕ) → is_pmt_pid_behind more pid ≡ is_pmt_pid_behind slots pid = λ pid. pmt_pids_same slots more pid (same c.if-changed.false) in
    let pid_same : (pid : ℕ) → is_referred_behind more pid ≡ is_referred_behind slots pid =
    λ pid. referred_same c.self.inside.pmts c.push.new.self slots more pid t.pmts pmts (same c.if-changed.false) (c.in_ok-seen.ensures.changed c.if-seen.false) in
    tables_seen c.push.new.self c.pass.new.self c.pass-2.new.self slots slot pmts
    (subst (λ (k : ℕ). HaveSeenNumbers c.pass.new.self (is_pmt_watched more) (is_pmt_mark more) (k + 1)) (sym n)
    (c.pass.ensures.seen (is_pmt_watched more) (is_pmt_mark more)
    (subst (λ (k : ℕ). HaveSeenNumbers w.pmt_gaps (is_pmt_watched more) (is_pmt_mark more) k) n (pmt_numbers w slots slot t))
    (subst (λ (k : ℕ). OnlyMarked w.pmt_gaps (is_pmt_watched more) (is_pmt_mark more) k marked) n (pmt_only w slots slot t packet marked c.in_ok-seen.seen.came grew c.packet_if-pmt.ensures r pmt_same))))
    (subst (λ (k : ℕ). HaveSeenNumbers c.pass-2.new.self (is_pid_watched more) (is_pid_mark more) (k + 1)) (sym n)
    (c.pass-2.ensures.seen (is_pid_watched more) (is_pid_mark more)
    (subst (λ (k : ℕ). HaveSeenNumbers w.pid_gaps (is_pid_watched more) (is_pid_mark more) k) n (pid_numbers w slots slot t))
    (subst (λ (k : ℕ). OnlyMarked w.pid_gaps (is_pid_watched more) (is_pid_mark more) k packet) n (pid_only w slots slot t packet marked c.in_ok-seen.seen.came grew c.packet_if-pmt.ensures r pid_same))))
    (λ pid h. ap (λ (l : List Bool). get_or l pid false) c.pass.ensures.watched ∙ t.pmt_pids pid h ∙ sym (pmt_same pid))
    (λ pid h. ap (λ (l : List Bool). get_or l pid false) c.pass-2.ensures.watched ∙ t.referred pid h ∙ sym (pid_same pid))
