use Rattle.std.proofs.Common.{◌≡◌, ℕ, List, [], ◌∷◌, ◌++◌, ap, sym, ◌∙◌}
use Rattle.std.specs.Prelude.{filter_map}
use Rattle.std.proofs.lemmas.Result.{on_ok_weaker}
use Rattle.section.specs.declared.told.Told.{Told}
use Rattle.tables.specs.OnPid.{section_in, sections_on}
use Rattle.tables.specs.SectionReading.{ReaderState, reader_step, reader_behind}
use Rattle.analyse.specs.Slots.{packets_in}
use Rattle.analyse.proofs.SectionLaws.{packet_seen, sections_told, none_seen, none_told}
use Rattle.analyse.proofs.pat_watch.see.Goals as goal

pub returns-in-Some-clause-seen : goal.returns-in-Some-clause-seen
returns-in-Some-clause-seen c =
    on_ok_weaker c.push.result
    (λ (state : c.push.new.self ≡ reader_behind c.args.sections.now c.in-Some.packet.now) slots slot pid s r.
    let h = rw c.in-Some.is at r in
    state ∙ ap (reader_behind c.args.sections.now) h.0 ∙ packet_seen c.args.sections.now slots slot pid s h.1)
    c.push.ensures.state

pub returns-in-Some-clause-told : goal.returns-in-Some-clause-told
returns-in-Some-clause-told c =
    on_ok_weaker c.push.result
    (λ (told : c.push.new.told.items ≡ (reader_step c.args.sections.now c.in-Some.packet.now).told) slots slot pid s r.
    let h = rw c.in-Some.is at r in
    sections_told c.args.sections.now slots slot pid s h.1
    ∙ sym (ap (λ (l : List Told). sections_on pid (packets_in slots) ++ filter_map section_in l) (told ∙ ap (λ (x : List ℕ). (reader_step c.args.sections.now x).told) h.0)))
    c.push.ensures.told

pub returns-in-None-clause-seen : goal.returns-in-None-clause-seen
returns-in-None-clause-seen c slots slot pid s r =
    let h = rw c.in-None.is at r in
    none_seen c.args.sections.now slots slot pid s h

pub returns-in-None-clause-told : goal.returns-in-None-clause-told
returns-in-None-clause-told c slots slot pid s r =
    let h = rw c.in-None.is at r in
    none_told slots slot pid h
    ∙ ap (λ (l : List Told). sections_on pid (packets_in slots) ++ filter_map section_in l) (sym c.clear.ensures.items)
