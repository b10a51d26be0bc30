use Rattle.std.proofs.Common.{length, List, ap, subst, ◌∙◌}
use Rattle.std.specs.Prelude.{IfOk}
use Rattle.std.proofs.lemmas.List.{length-map}
use Rattle.outcome.specs.declared.ended.Ended.{Ended}
use Rattle.outcome.specs.Ending.{IsTold}
use Rattle.serial.specs.Ending.{ended_of}
use Rattle.serial.specs.Feeding.{SerialInput}
use Rattle.serial.proofs.serial_run.SerialRun.finish.Goals as goal

pub end_run-requires : goal.end_run-requires
end_run-requires g c =
    let one : SerialInput g.row.R.Denot → Ended g.row.R.Denot = ended_of in
    ap length c.in_ok-ended.ensures ∙ length-map c.args.self.inputs.items one ∙ c.requires

pub returns : goal.returns
returns g c =
    let T : List (Ended g.row.R.Denot) → Type 0 = λ v. IfOk c.end_run.result (λ done. IsTold c.args.self.mux.run.schedule c.args.self.mux.events v c.args.self.output done.0 done.1.items) in
    subst T c.in_ok-ended.ensures c.end_run.ensures
