use Rattle.std.proofs.Common.{rules, ◌≡◌, ◌==◌, not, ◌∷◌, ap, ◌∙◌}
use Rattle.std.proofs.lemmas.Fn.{filter_same}
use Rattle.analyse.specs.PmtWatching.{PmtPids, without}
use Rattle.analyse.proofs.newest_pmts.NewestPmts.put.Goals as goal

pub returns : goal.returns
returns c =
    let p : PmtPids = record { program = c.args.program; pids = c.args.pids.items } in
    let left = filter_same _ (λ (q : PmtPids). not (q.program == c.args.program)) _ (λ x b f' k. search rules) _ _ c.retain.ensures.filtered in
    let put : c.insert.new.self.items ≡ p ∷ c.retain.new.self.items = rw c.unwrap.ensures at c.insert.ensures.items in
    put
    ∙ ap (λ l. p ∷ l) left
    ∙ ap (λ l. p ∷ without c.args.program l) (c.in_ok-reserve.ensures.items ∙ c.self.view_is)
