use Rattle.std.proofs.Common.{ap, ◌∙◌}
use Rattle.tables.specs.Descriptors.{are_whole}
use Rattle.tables.specs.Nit.{nit_row_of, IsNitRow}
use Rattle.tables.proofs.RowLaws.{rows_all}
use Rattle.tables.proofs.NitLaws.{nit_row_fits}
use Rattle.tables.proofs.nit.Nit.read_body.Goals as goal

pub invariant_of-result : goal.invariant_of-result
invariant_of-result c = (
  c.requires,
  ap (are_whole 0) c.in_ok-network_descriptors.ensures ∙ c.in-Some.ensures.whole_descriptors,
  rows_all 6 nit_row_of IsNitRow nit_row_fits c.in-Some.rows.now c.in_ok-rows.rows.items c.in_ok-rows.ensures.rows,
)
