use Rattle.std.proofs.Common.{refl, ◌++◌, ap, sym, ◌∙◌, List, map}
use Rattle.request.specs.declared.stream_row.StreamRow.{StreamRow}
use Rattle.request.specs.Parts.{ServicePartsValue, service_parts_value}
use Rattle.request.specs.Request.{has_repeat}
use Rattle.request.proofs.OddsLaws.{pid_twice_is}
use Rattle.request.proofs.taken.has_pid_twice.Goals as goal

pub returns-then-name_pids_twice : goal.returns-then-name_pids_twice
returns-then-name_pids_twice c =
    let xs = c.args.services.now in
    sym (pid_twice_is xs ∙ rw (← c.name_pids_twice.ensures, c.if-name_pids_twice.true) refl)

pub returns-then-has_rows_at_odds : goal.returns-then-has_rows_at_odds
returns-then-has_rows_at_odds c =
    let xs = c.args.services.now in
    sym (pid_twice_is xs ∙ rw (← c.name_pids_twice.ensures, c.if-name_pids_twice.false, ← c.has_rows_at_odds.ensures, c.if-has_rows_at_odds.true) refl)

pub returns : goal.returns
returns c =
    let xs = c.args.services.now in
    c.has_repeat.ensures ∙ ap has_repeat c.as_slice.ensures.value ∙ ap has_repeat c.output_pids.ensures
    ∙ ap (λ (rows : List StreamRow). has_repeat (map (λ (r : StreamRow). r.out) rows ++ map (λ (s : ServicePartsValue). s.pmt) (map service_parts_value xs))) c.requires.found
    ∙ sym (pid_twice_is xs ∙ rw (← c.name_pids_twice.ensures, c.if-name_pids_twice.false, ← c.has_rows_at_odds.ensures, c.if-has_rows_at_odds.false) refl)
