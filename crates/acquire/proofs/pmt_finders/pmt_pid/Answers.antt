use Rattle.std.proofs.Common.{◌≡◌, ◌+◌, Some, None, sym, ap, ◌∙◌, get_or, drop}
use Rattle.std.specs.List.{flat_map}
use Rattle.tables.specs.Pat.{PatValue}
use Rattle.acquire.specs.Findings.{or_later, pmt_pid_of}
use Rattle.acquire.proofs.ProgramLaws.{pid_step}
use Rattle.acquire.proofs.pmt_finders.pmt_pid.Goals as goal

pub returns-in-Some : goal.returns-in-Some
returns-in-Some c =
    let later = pmt_pid_of c.args.program (flat_map (λ (p : PatValue). p.rows) (drop (c.loop-pat.pat-index + 1) c.args.pats.now)) in
    let here : Some c.in-Some.pid ≡ pmt_pid_of c.args.program (get_or c.args.pats.now c.loop-pat.pat-index c.pat-item.result).rows =
    c.in-Some.ensures ∙ ap (pmt_pid_of c.args.program) (c.rows.ensures.value ∙ ap (λ (p : PatValue). p.rows) c.pat-item.is) in
    ap (λ o. or_later o later) here
    ∙ sym (pid_step c.args.program c.args.pats.now c.loop-pat.pat-index c.pat-item.result c.loop-pat-test.true)
    ∙ c.loop-pat.invariant

pub loop-pat-preserved : goal.loop-pat-preserved
loop-pat-preserved c =
    let later = pmt_pid_of c.args.program (flat_map (λ (p : PatValue). p.rows) (drop (c.loop-pat.pat-index + 1) c.args.pats.now)) in
    let here : None ≡ pmt_pid_of c.args.program (get_or c.args.pats.now c.loop-pat.pat-index c.pat-item.result).rows =
    c.in_default.ensures ∙ ap (pmt_pid_of c.args.program) (c.rows.ensures.value ∙ ap (λ (p : PatValue). p.rows) c.pat-item.is) in
    ap (λ o. or_later o later) here
    ∙ sym (pid_step c.args.program c.args.pats.now c.loop-pat.pat-index c.pat-item.result c.loop-pat-test.true)
    ∙ c.loop-pat.invariant
