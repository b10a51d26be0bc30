use Rattle.std.proofs.Common.{◌+◌, List, ℕ, drop, slice_index, sym, ◌∙◌, ap}
use Rattle.section.specs.Assembled.{has_pointer, Step}
use Rattle.analyse.specs.ToldPmts.{pmts_in}
use Rattle.analyse.proofs.UnreadLaws.{begun_first, unread_first}
use Rattle.analyse.proofs.unread_section.UnreadSection.begun_by.Goals as goal

pub returns-clause-begun : goal.returns-clause-begun
returns-clause-begun c =
    let payload = c.payload.ensures.value in
    let lacks = c.in_ok-lacks.lacks in
    let bytes = c.in_ok-bytes.bytes.now in
    unread_first lacks c.args.packet.now bytes c.in_ok-lacks.ensures.lacks
    (begun_first lacks c.args.packet.now bytes c.requires.payload c.requires.start
    (ap has_pointer (sym payload) ∙ c.in_ok-bytes.ensures.within)
    (c.in_ok-bytes.ensures.bytes ∙ ap (λ (l : List ℕ). drop (1 + slice_index l 0) l) payload)
    c.in_ok-lacks.ensures.lacks c.in_ok-lacks.ensures.section)

pub returns-clause-no_pmt : goal.returns-clause-no_pmt
returns-clause-no_pmt c =
    let payload = c.payload.ensures.value in
    let lacks = c.in_ok-lacks.lacks in
    let bytes = c.in_ok-bytes.bytes.now in
    ap (λ (x : Step). pmts_in x.told)
    (begun_first lacks c.args.packet.now bytes c.requires.payload c.requires.start
    (ap has_pointer (sym payload) ∙ c.in_ok-bytes.ensures.within)
    (c.in_ok-bytes.ensures.bytes ∙ ap (λ (l : List ℕ). drop (1 + slice_index l 0) l) payload)
    c.in_ok-lacks.ensures.lacks c.in_ok-lacks.ensures.section)
