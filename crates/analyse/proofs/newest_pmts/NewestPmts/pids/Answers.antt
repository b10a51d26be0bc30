use Rattle.std.proofs.Common.{◌==◌, get_or, option_map, Some, ap, sym, ◌∙◌}
use Rattle.std.specs.List.{position}
use Rattle.tables.proofs.InForceLaws.{find_none, find_some}
use Rattle.analyse.specs.PmtWatching.{PmtPids}
use Rattle.analyse.proofs.newest_pmts.NewestPmts.pids.Goals as goal

pub returns-in_err-place : goal.returns-in_err-place
returns-in_err-place c =
    ap (option_map (λ pids. pids.now)) c.from_residual.ensures
    ∙ sym (ap (option_map (λ (p : PmtPids). p.pids)) (find_none (λ (p : PmtPids). p.program == c.args.program) c.args.self.now
    (sym (c.in_err-place.ensures ∙ ap (position (λ (p : PmtPids). p.program == c.args.program)) (c.deref.ensures.value ∙ c.self.view_is)))))

pub returns : goal.returns
returns c =
    let found = find_some (λ (p : PmtPids). p.program == c.args.program) c.args.self.now c.in_ok-place.place c.index-pmt.result.now
    (sym (c.in_ok-place.ensures ∙ ap (position (λ (p : PmtPids). p.program == c.args.program)) (c.deref.ensures.value ∙ c.self.view_is))) in
    let at = c.index-pmt.ensures ∙ ap (λ l. get_or l c.in_ok-place.place c.index-pmt.result.now) c.self.view_is in
    ap Some (c.deref-2.ensures.value ∙ ap (λ (p : PmtPids). p.pids) (c.pmt.view_is ∙ at)) ∙ sym (ap (option_map (λ (p : PmtPids). p.pids)) found)
