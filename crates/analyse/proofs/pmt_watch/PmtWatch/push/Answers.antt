use Rattle.std.proofs.Common.{ℕ, List, [], ◌∷◌, ◌++◌, ap, sym, subst, ◌∙◌}
use Rattle.std.specs.List.{list_any}
use Rattle.section.specs.Assembled.{AssemblerState, packet_told}
use Rattle.section.specs.declared.told.Told.{Told}
use Rattle.tables.specs.OnPid.{pmts_on}
use Rattle.analyse.specs.declared.pmt_assembly.PmtAssembly.{PmtAssembly}
use Rattle.analyse.specs.Slots.{packets_in}
use Rattle.tables.specs.SectionReading.{is_on}
use Rattle.analyse.specs.ToldPmts.{is_pmt_in, pmts_in}
use Rattle.analyse.specs.PmtAssembling.{StandsFor}
use Rattle.analyse.specs.PmtWatching.{PmtState, HasSeenPmts, KeepsNewest, assembler_behind}
use Rattle.analyse.proofs.PmtWatchLaws.{assembler_more, pmts_more, came_last}
use Rattle.analyse.proofs.pmt_watch.PmtWatch.push.Goals as goal

pub returns-clause-seen : goal.returns-clause-seen
returns-clause-seen c slots slot pid s r on =
    let before = subst (λ (w : PmtState). HasSeenPmts pid w slots) (sym c.self.view_is) s in
    let here = ap (is_on pid) (sym r.0) ∙ on in
    let state = assembler_behind pid slots in
    let told = c.in_ok-push.ensures.told state before.sections ∙ ap (λ (x : List ℕ). pmts_in (packet_told state x).told) r.0 in
    let after = c.in_ok-push.ensures.seen state before.sections in
    let more = pmts_more pid slots slot r.1 here c.push.new.told.items told in
    let newest = c.in_ok-seen.ensures.newest (pmts_on pid (packets_in slots)) before.newest in
    record {
      sections = subst (λ (a : PmtAssembly). StandsFor a (assembler_behind pid (slots ++ slot ∷ []))) (sym c.in_ok-seen.ensures.assembly)
          (subst (λ (t : AssemblerState). StandsFor c.push.new.self t) (ap (λ (x : List ℕ). (packet_told state x).state) r.0 ∙ sym (assembler_more pid slots slot r.1 here)) after);
      newest = subst (KeepsNewest c.push_all.new.self.newest) (ap (λ (l : List Told). pmts_on pid (packets_in slots) ++ pmts_in l) c.deref.ensures.value ∙ sym more) newest;
    }

pub returns-clause-came : goal.returns-clause-came
returns-clause-came c slots slot pid s r on =
    let before = subst (λ (w : PmtState). HasSeenPmts pid w slots) (sym c.self.view_is) s in
    let here = ap (is_on pid) (sym r.0) ∙ on in
    let state = assembler_behind pid slots in
    let told = c.in_ok-push.ensures.told state before.sections ∙ ap (λ (x : List ℕ). pmts_in (packet_told state x).told) r.0 in
    let more = pmts_more pid slots slot r.1 here c.push.new.told.items told in
    c.in_ok-seen.ensures.came ∙ ap (λ (l : List Told). list_any is_pmt_in l) c.deref.ensures.value
    ∙ came_last pid slots slot c.push.new.told.items more
