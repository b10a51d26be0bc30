use Rattle.std.proofs.Common.{List, take, ◌++◌, ap, ◌∙◌, sym, subst}
use Rattle.std.proofs.lemmas.List.{take_all, take_more, append_assoc}
use Rattle.analyse.specs.declared.fault.Fault.{Fault}
use Rattle.analyse.specs.FaultReport.{IsReportOf}
use Rattle.analyse.proofs.fault_report.FaultReport.add_all.Goals as goal

pub loop-fault-preserved : goal.loop-fault-preserved
loop-fault-preserved c told has =
    let i = c.loop-fault.fault-index in
    let xs = c.args.faults.now in
    let R : List Fault → Type 0 = λ v. IsReportOf c.add.new.self v in
    subst R (append_assoc told (take i xs) _ ∙ ap (λ v. told ++ v) (sym (take_more xs i _ c.loop-fault-test.true)))
    (c.add.ensures (told ++ take i xs) (c.loop-fault.invariant told has))

pub returns : goal.returns
returns c told has =
    let xs = c.args.faults.now in
    let R : List Fault → Type 0 = λ v. IsReportOf c.loop-fault.self (told ++ v) in
    subst R (take_all c.loop-fault.fault-index xs c.loop-fault-test.false) (c.loop-fault.invariant told has)
