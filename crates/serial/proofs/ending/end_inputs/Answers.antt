use Rattle.std.proofs.Common.{◌≡◌, [], ◌∷◌, ◌++◌, ap, sym, ◌∙◌}
use Rattle.outcome.specs.declared.ended.Ended.{Ended}
use Rattle.outcome.proofs.ListLaws.{map_push}
use Rattle.serial.specs.Ending.{ended_of}
use Rattle.serial.specs.Feeding.{SerialInput}
use Rattle.serial.proofs.ending.end_inputs.Goals as goal

pub loop-input-preserved : goal.loop-input-preserved
loop-input-preserved g c =
    let l = c.loop-input in
    let x = c.in-Some.input in
    let one : SerialInput g.row.R.Denot → Ended g.row.R.Denot = ended_of in
    let left : Ended g.row.R.Denot = record { report = c.report.result; is_closed = x.is_closed; lent = c.into_source.result } in
    let same : left ≡ one x = λ k. record { report = c.report.ensures.value k; is_closed = x.is_closed; lent = c.into_source.ensures k } in
    c.in_ok-push.ensures.items ∙ ap (λ v. l.ended.items ++ v ∷ []) same ∙ ap (λ v. v ++ one x ∷ []) l.invariant ∙ sym (map_push one l.yielded x)
