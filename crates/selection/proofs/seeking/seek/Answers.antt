use Rattle.std.proofs.Common.{◌≡◌, ℕ, List, [], ◌∙◌, subst}
use Rattle.std.specs.Prelude.{IfOk}
use Rattle.acquire.specs.Seen.{HasSeen}
use Rattle.selection.specs.Chosen.{programs_of}
use Rattle.selection.proofs.ChoiceLaws.{programs_by}
use Rattle.selection.proofs.seeking.seek.Goals as goal

pub returns-clause-seen : goal.returns-clause-seen
returns-clause-seen c =
    let r = c.args.request.now in
    let P : List ℕ → Type 0 = λ programs. IfOk c.new.result (λ acquire. HasSeen programs acquire []) in
    let wanted : c.deref.result.now ≡ programs_of r c.args.input =
    c.deref.ensures.value ∙ c.in_ok-programs.ensures ∙ programs_by c.args.input c.services.result.now r.services c.services.ensures.value in
    subst P wanted c.new.ensures.seen
