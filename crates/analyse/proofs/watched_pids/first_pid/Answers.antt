use Rattle.std.proofs.Common.{◌==◌, option_map, ap, sym, ◌∙◌}
use Rattle.tables.proofs.InForceLaws.{find_none, find_some}
use Rattle.tables.specs.declared.pat_row.PatRow.{PatRow}
use Rattle.analyse.proofs.watched_pids.first_pid.Goals as goal

pub returns-in_err-place : goal.returns-in_err-place
returns-in_err-place c =
    c.from_residual.ensures
    ∙ sym (ap (option_map (λ (r : PatRow). r.pid)) (find_none (λ (r : PatRow). r.program_number == c.args.program) c.args.rows.now (sym c.in_err-place.ensures)))

pub returns : goal.returns
returns c =
    sym (ap (option_map (λ (r : PatRow). r.pid)) (find_some (λ (r : PatRow). r.program_number == c.args.program) c.args.rows.now c.in_ok-place.place (record { program_number = 0; pid = 0 }) (sym c.in_ok-place.ensures)))
