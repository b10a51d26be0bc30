use Rattle.std.proofs.Common.{arith, map}
use Rattle.std.proofs.lemmas.List.Elements.{All-same}
use Rattle.tables.specs.Pmt.{IsPmtRow}
use Rattle.request.specs.Request.{service_value}
use Rattle.selection.specs.Chosen.{streams_of}
use Rattle.output_tables.specs.Output.{mapped_row}
use Rattle.output_tables.proofs.OutputLaws.{mapped_fits, pmt_rows_fit}
use Rattle.output_tables.proofs.output_pmt.output_pmt.Goals as goal

pub new-requires-clause-pcr_pid : goal.new-requires-clause-pcr_pid
new-requires-clause-pcr_pid c =
    let fits = mapped_fits c.args.request.now (service_value c.args.chosen.now.service.now) c.pcr_pid.result c.requires.request in
    omega (arith, c.mapped_pid-pcr_pid.ensures)

pub new-requires-clause-rows : goal.new-requires-clause-rows
new-requires-clause-rows c =
    let row = mapped_row (streams_of c.args.request.now (service_value c.args.chosen.now.service.now)) in
    All-same IsPmtRow c.in_ok-rows.rows.items (map row c.rows.result.now) c.in_ok-rows.ensures
    (pmt_rows_fit c.args.request.now (service_value c.args.chosen.now.service.now) c.rows.result.now c.requires.request c.rows.ensures.fits)
