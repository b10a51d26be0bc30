use Rattle.std.proofs.Common.{◌≡◌, ℕ, [], ◌∷◌, ◌++◌, ◌+◌, Some, length, length-append, ap, sym, subst, ◌∙◌}
use Rattle.std.specs.Prelude.{option_map}
use Rattle.analyse.specs.Slots.{is_sync_lost_at, is_sync_byte_bad_at}
use Rattle.analyse.specs.Faults.{is_pat_bad_at, is_counter_bad_at, told_if, table_limit, faults_at}
use Rattle.analyse.specs.StreamWatching.{StreamState, HaveSeenStream}
use Rattle.analyse.specs.TablesWatching.{table_faults_at}
use Rattle.analyse.specs.declared.fault_kind.FaultKind.TheVariants.{ContinuityCountError}
use Rattle.analyse.proofs.StreamLaws.{rows_kept, counter_told, all_told}
use Rattle.analyse.proofs.stream_watch.StreamWatch.see_any.Goals as goal

pub returns-clause-seen : goal.returns-clause-seen
returns-clause-seen c rate period slots s =
    let t = subst (λ (w : StreamState). HaveSeenStream rate period w slots) (sym c.self.view_is) s in
    let x = c.args.slot.now in
    let more = slots ++ x ∷ [] in
    let packet = option_map (λ p. p.now) c.args.packet in
    let r = c.requires in
    let n = sym t.count in
    let pat = c.in_ok-pat.ensures.seen slots x t.pat n r in
    let next : length slots + 1 ≡ c.in_ok-next.next = ap (λ (k : ℕ). k + 1) n ∙ sym c.in_ok-next.ensures in
    let rows = c.programs.ensures.in_force more pat in
    record {
      count = sym next ∙ sym (length-append slots (x ∷ []));
      pat_limit = c.in_ok-pat.ensures.limit ∙ t.pat_limit;
      pmt_limit = c.in_ok-push.ensures.limit ∙ c.in_ok-tell.ensures.limit ∙ t.pmt_limit;
      period_is = c.in_ok-push.ensures.period ∙ c.in_ok-tell.ensures.period ∙ t.period_is;
      sync = c.push-sync.ensures.seen slots t.sync;
      pat = pat;
      counters = c.push-is_bad.ensures.seen slots x t.counters r;
      tables = c.in_ok-push.ensures.seen slots x (c.in_ok-tell.ensures.seen slots t.tables n) next r rows
          (λ same. sym (rows_kept c.push.new.self more pat) ∙ c.in_ok-pat.ensures.changed same ∙ rows_kept c.self.inside.pat slots t.pat);
    }

pub returns-clause-told : goal.returns-clause-told
returns-clause-told c rate period slots s =
    let t = subst (λ (w : StreamState). HaveSeenStream rate period w slots) (sym c.self.view_is) s in
    let x = c.args.slot.now in
    let more = slots ++ x ∷ [] in
    let packet = option_map (λ p. p.now) c.args.packet in
    let r = c.requires in
    let n = sym t.count in
    let m = c.self.inside.count in
    let counter = told_if c.push-is_bad.result ContinuityCountError m (Some c.pid_of.result) in
    all_told rate period more m c.push-sync.result.lost c.push-sync.result.bad c.in_ok-pat.pat.bad counter
    c.args.out.now.items c.tell_if.new.out.items c.tell_if-2.new.out.items c.tell_if-3.new.out.items c.tell_if-4.new.out.items c.tell.new.out.items
    (c.push-sync.ensures.lost slots t.sync ∙ ap (is_sync_lost_at more) n)
    (c.push-sync.ensures.bad slots t.sync ∙ ap (is_sync_byte_bad_at more) n)
    (c.in_ok-pat.ensures.bad slots x t.pat n r ∙ ap (λ (k : ℕ). is_pat_bad_at k more m) t.pat_limit)
    (ap (λ (k : ℕ). told_if c.push-is_bad.result ContinuityCountError m (Some k)) c.pid_of.ensures
    ∙ counter_told slots x packet m c.push-is_bad.result r t.count (c.push-is_bad.ensures.bad slots x t.counters r ∙ ap (is_counter_bad_at more) n))
    c.in_ok-tell_if.ensures c.in_ok-tell_if-2.ensures c.in_ok-tell_if-3.ensures c.in_ok-tell_if-4.ensures
    (c.in_ok-tell.ensures.told slots x t.tables n r
    ∙ ap (λ (k : ℕ). c.tell_if-4.new.out.items ++ table_faults_at k c.self.inside.tables.pid_gaps.limit more m) t.pmt_limit
    ∙ ap (λ (k : ℕ). c.tell_if-4.new.out.items ++ table_faults_at (table_limit rate) k more m) t.period_is)
    ∙ ap (λ (k : ℕ). c.args.out.now.items ++ faults_at rate period more k) t.count
