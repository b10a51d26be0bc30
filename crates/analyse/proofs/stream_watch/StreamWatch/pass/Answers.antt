use Rattle.std.proofs.Common.{◌≡◌, ℕ, [], ◌∷◌, ◌++◌, ◌+◌, Some, length, length-append, ap, sym, subst, ◌∙◌}
use Rattle.analyse.specs.Slots.{is_sync_lost_at, is_sync_byte_bad_at}
use Rattle.analyse.specs.Faults.{is_pat_bad_at, is_counter_bad_at, told_if, faults_at}
use Rattle.analyse.specs.StreamWatching.{StreamState, HaveSeenStream}
use Rattle.analyse.specs.TablesWatching.{table_faults_at}
use Rattle.analyse.specs.Quiet.{IsQuiet, LeavesTables}
use Rattle.analyse.specs.declared.fault_kind.FaultKind.TheVariants.{ContinuityCountError}
use Rattle.analyse.proofs.StreamLaws.{rows_kept, counter_told}
use Rattle.analyse.proofs.QuietLaws.{quiet_told}
use Rattle.analyse.proofs.stream_watch.StreamWatch.pass.Goals as goal

pub returns-clause-seen : goal.returns-clause-seen
returns-clause-seen c rate period slots s =
    let t = subst (λ (w : StreamState). HaveSeenStream rate period w slots) (sym c.self.view_is) s in
    let q = subst (λ (w : StreamState). IsQuiet w c.args.slot.now c.args.packet.now) (sym c.self.view_is) c.requires.quiet in
    let x = c.args.slot.now in
    let more = slots ++ x ∷ [] in
    let r = c.requires.read in
    let n = sym t.count in
    let pat = q.pat.seen slots x t.pat n r in
    let next : length slots + 1 ≡ c.in_ok-next.next = ap (λ (k : ℕ). k + 1) n ∙ sym c.in_ok-next.ensures in
    record {
      count = sym next ∙ sym (length-append slots (x ∷ []));
      pat_limit = t.pat_limit;
      pmt_limit = c.pass.ensures.limit ∙ t.pmt_limit;
      period_is = c.pass.ensures.period ∙ t.period_is;
      sync = q.sync.seen slots t.sync;
      pat = pat;
      counters = c.push_of-is_bad.ensures.seen slots x t.counters r;
      tables = c.pass.ensures.seen slots x c.args.packet.now t.tables next r (sym c.pid-pid.ensures.value) (subst (λ (k : ℕ). LeavesTables c.self.inside.tables k c.args.packet.now) t.count q.tables) (sym (rows_kept c.self.inside.pat more pat) ∙ rows_kept c.self.inside.pat slots t.pat);
    }

pub returns-clause-told : goal.returns-clause-told
returns-clause-told c rate period slots s =
    let t = subst (λ (w : StreamState). HaveSeenStream rate period w slots) (sym c.self.view_is) s in
    let q = subst (λ (w : StreamState). IsQuiet w c.args.slot.now c.args.packet.now) (sym c.self.view_is) c.requires.quiet in
    let x = c.args.slot.now in
    let more = slots ++ x ∷ [] in
    let r = c.requires.read in
    let n = sym t.count in
    let m = c.self.inside.count in
    quiet_told rate period more m (told_if c.push_of-is_bad.result ContinuityCountError m (Some c.pid-pid.result)) c.args.out.now.items c.tell_if.new.out.items
    (ap (is_sync_lost_at more) t.count ∙ q.sync.lost slots t.sync)
    (ap (is_sync_byte_bad_at more) t.count ∙ q.sync.bad slots t.sync)
    (ap (λ (k : ℕ). is_pat_bad_at k more m) (sym t.pat_limit) ∙ q.pat.good slots x t.pat n r)
    (ap (λ (k : ℕ). told_if c.push_of-is_bad.result ContinuityCountError m (Some k)) c.pid-pid.ensures.value
    ∙ counter_told slots x (Some c.args.packet.now) m c.push_of-is_bad.result r t.count (c.push_of-is_bad.ensures.bad slots x t.counters r ∙ ap (is_counter_bad_at more) n))
    (ap (λ (k : ℕ). table_faults_at k period more m) (sym t.pmt_limit)
    ∙ ap (λ (k : ℕ). table_faults_at c.self.inside.tables.pmt_gaps.limit k more m) (sym t.period_is)
    ∙ q.tables.none slots x t.tables n r)
    c.in_ok-tell_if.ensures
    ∙ ap (λ (k : ℕ). c.args.out.now.items ++ faults_at rate period more k) t.count
