use Rattle.std.proofs.Common.{◌≡◌, map, sym, ◌∙◌, rules}
use Rattle.std.proofs.lemmas.Bool.{OnFalse_from}
use Rattle.selection.specs.ChosenView.{chosen_value}
use Rattle.output_tables.specs.Output.{is_too_large}
use Rattle.output_tables.specs.Room.{HaveRoom}
use Rattle.output_tables.proofs.RoomLaws.{too_large_by, has_room}
use Rattle.output_tables.proofs.too_large.is_too_large.Goals as goal

pub returns-then-is_nit_too_large-clause-value : goal.returns-then-is_nit_too_large-clause-value
returns-then-is_nit_too_large-clause-value c = rw (too_large_by c.args.request.now c.args.chosen.now) (search rules)

pub returns-else-is_nit_too_large-clause-value : goal.returns-else-is_nit_too_large-clause-value
returns-else-is_nit_too_large-clause-value c = rw (too_large_by c.args.request.now c.args.chosen.now) (search rules)

pub returns-else-is_nit_too_large-clause-room : goal.returns-else-is_nit_too_large-clause-room
returns-else-is_nit_too_large-clause-room c =
    let same : c.has_large_row.result ≡ is_too_large c.args.request.now (map chosen_value c.args.chosen.now) = rw (too_large_by c.args.request.now c.args.chosen.now) (search rules) in
    OnFalse_from c.has_large_row.result (HaveRoom c.args.request.now (map chosen_value c.args.chosen.now)) (λ f. has_room c.args.request.now (map chosen_value c.args.chosen.now) (sym same ∙ f))
