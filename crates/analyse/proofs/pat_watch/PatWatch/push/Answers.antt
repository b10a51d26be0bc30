use Rattle.std.proofs.Common.{ℕ, List, [], ◌∷◌, ◌++◌, ◌||◌, ap, subst, sym, ◌∙◌}
use Rattle.std.specs.Prelude.{option_map}
use Rattle.std.specs.List.{list_any}
use Rattle.section.specs.declared.told.Told.{Told}
use Rattle.analyse.specs.ProgramsWatching.{is_pat_in, pats_in, HasRows}
use Rattle.analyse.specs.PatWatching.{PatState, HasSeenPat, is_other_in, is_scrambled}
use Rattle.analyse.specs.Faults.{is_pat_bad_at}
use Rattle.analyse.proofs.PatWatchLaws.{seen_pat, bad_pat}
use Rattle.analyse.proofs.pat_watch.PatWatch.push.Goals as goal

pub returns-clause-seen : goal.returns-clause-seen
returns-clause-seen c slots slot s n r =
    let t = subst (λ (w : PatState). HasSeenPat w slots) (sym c.self.view_is) s in
    seen_pat c.self.inside.sections c.see.new.sections c.self.inside.gap c.push-missed.new.self c.self.inside.marked c.in_ok-programs.programs.came
    c.self.inside.programs c.push.new.self
    slots slot c.args.count c.see.new.told.items t n (c.in_ok-see.ensures.told slots slot 0x0000 t.sections r)
    (c.in_ok-see.ensures.seen slots slot 0x0000 t.sections r) c.push-missed.ensures.seen
    (c.in_ok-programs.ensures.came ∙ ap (λ (l : List Told). list_any is_pat_in l) c.deref.ensures.value)
    (λ sections h. subst (λ (l : List Told). HasRows c.push.new.self (sections ++ pats_in l)) c.deref.ensures.value (c.in_ok-programs.ensures.seen sections h))

pub returns-clause-bad : goal.returns-clause-bad
returns-clause-bad c slots slot s n r =
    let t = subst (λ (w : PatState). HasSeenPat w slots) (sym c.self.view_is) s in
    let limit = ap (λ (w : PatState). w.gap.limit) c.self.view_is in
    c.is_bad.ensures
    ∙ ap (λ (l : List Told). (c.push-missed.result || list_any is_other_in l) || is_scrambled (option_map (λ p. p.now) c.args.packet)) c.deref-2.ensures.value
    ∙ bad_pat c.self.inside.sections c.see.new.sections c.self.inside.gap c.push-missed.new.self c.self.inside.marked c.in_ok-programs.programs.came
    c.self.inside.programs c.push.new.self
    slots slot c.args.count c.see.new.told.items t n (c.in_ok-see.ensures.told slots slot 0x0000 t.sections r)
    c.push-missed.result (option_map (λ p. p.now) c.args.packet) r c.push-missed.ensures.told
    ∙ ap (λ (k : ℕ). is_pat_bad_at k (slots ++ slot ∷ []) c.args.count) limit
