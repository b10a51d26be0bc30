use Rattle.std.proofs.Common.{◌≡◌, ℕ, ◌+◌, Bool, ◌++◌, ap, ◌∙◌}
use Rattle.std.proofs.lemmas.Result.{on_ok_weaker}
use Rattle.analyse.specs.GapsWatching.{HaveSeenNumbers, gaps_at}
use Rattle.analyse.proofs.gap_watches.GapWatches.tell.Goals as goal

pub returns-clause-told : goal.returns-clause-told
returns-clause-told c =
    on_ok_weaker c.tell_due.result
    (λ (told : (watched mark : ℕ → ℕ → Bool) → HaveSeenNumbers c.renew_due.new.self watched mark (c.args.count + 1) → c.tell_due.new.out.items ≡ c.args.out.now.items ++ gaps_at c.renew_due.new.self.limit watched mark c.args.also c.args.kind c.args.count) watched mark s.
    told watched mark (c.renew_due.ensures.seen watched mark s)
    ∙ ap (λ (n : ℕ). c.args.out.now.items ++ gaps_at n watched mark c.args.also c.args.kind c.args.count) c.renew_due.ensures.limit)
    c.tell_due.ensures
