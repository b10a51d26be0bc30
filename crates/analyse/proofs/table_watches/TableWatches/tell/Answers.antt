use Rattle.std.proofs.Common.{ℕ, List, [], ◌∷◌, ◌++◌, ◌+◌, Bool, false, get_or, ap, sym, subst, ◌∙◌}
use Rattle.std.specs.Prelude.{option_map}
use Rattle.analyse.specs.Faults.{is_pmt_watched, is_pmt_mark, is_pid_watched, is_pid_mark}
use Rattle.analyse.specs.GapsWatching.{HaveSeenNumbers}
use Rattle.analyse.specs.TablesWatching.{TablesState, HaveSeenTables, watched_only, table_faults_at}
use Rattle.analyse.proofs.TablesLaws.{pmt_numbers, pid_numbers, faults_told}
use Rattle.analyse.proofs.table_watches.TableWatches.tell.Goals as goal

pub returns-clause-seen : goal.returns-clause-seen
returns-clause-seen c slots s n =
    let t = subst (λ (w : TablesState). HaveSeenTables w slots) (sym c.self.view_is) s in
    record {
      pmts = t.pmts;
      pmt_gaps = subst (λ (k : ℕ). HaveSeenNumbers c.tell.new.self (is_pmt_watched slots) (is_pmt_mark slots) (k + 1)) (sym n)
          (c.tell.ensures.seen (is_pmt_watched slots) (is_pmt_mark slots) (subst (λ (k : ℕ). HaveSeenNumbers c.self.inside.pmt_gaps (is_pmt_watched slots) (is_pmt_mark slots) (k + 1)) n t.pmt_gaps));
      pid_gaps = subst (λ (k : ℕ). HaveSeenNumbers c.tell-2.new.self (is_pid_watched slots) (is_pid_mark slots) (k + 1)) (sym n)
          (c.tell-2.ensures.seen (is_pid_watched slots) (is_pid_mark slots) (subst (λ (k : ℕ). HaveSeenNumbers c.self.inside.pid_gaps (is_pid_watched slots) (is_pid_mark slots) (k + 1)) n t.pid_gaps));
      pmt_pids = λ pid h. ap (λ (l : List Bool). get_or l pid false) c.tell.ensures.watched ∙ t.pmt_pids pid h;
      referred = λ pid h. ap (λ (l : List Bool). get_or l pid false) c.tell-2.ensures.watched ∙ t.referred pid h;
    }

pub returns-clause-told : goal.returns-clause-told
returns-clause-told c slots slot s n r =
    let t = subst (λ (w : TablesState). HaveSeenTables w slots) (sym c.self.view_is) s in
    let w : TablesState = record { pmts = c.self.inside.pmts; pmt_gaps = c.self.inside.pmt_gaps; pid_gaps = c.self.inside.pid_gaps } in
    let more = slots ++ slot ∷ [] in
    let packet = option_map (λ p. p.now) c.args.packet in
    let first = c.in_ok-tell.ensures.told (is_pmt_watched more) (is_pmt_mark more)
    (subst (λ (k : ℕ). HaveSeenNumbers c.self.inside.pmt_gaps (is_pmt_watched more) (is_pmt_mark more) (k + 1)) n (pmt_numbers w slots slot t)) in
    let second = c.in_ok-tell-2.ensures.told (is_pid_watched more) (is_pid_mark more)
    (subst (λ (k : ℕ). HaveSeenNumbers c.self.inside.pid_gaps (is_pid_watched more) (is_pid_mark more) (k + 1)) n (pid_numbers w slots slot t)) in
    let also = c.watched_only-also.ensures.value ∙ ap (watched_only c.self.inside.pmt_gaps) c.scrambled_pid.ensures.value in
    faults_told w slots slot packet c.watched_only-also.result c.args.count c.args.out.now.items c.tell.new.out.items c.tell-2.new.out.items t r n also first second
    ∙ ap (λ (w : TablesState). c.args.out.now.items ++ table_faults_at w.pmt_gaps.limit w.pid_gaps.limit more c.args.count) c.self.view_is
