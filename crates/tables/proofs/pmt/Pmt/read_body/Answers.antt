use Rattle.std.proofs.Common.{arith, ap, refl, ◌∙◌}
use Rattle.tables.specs.Descriptors.{are_whole}
use Rattle.tables.specs.Pmt.{pmt_row_of, IsPmtRow}
use Rattle.tables.proofs.RowLaws.{rows_all}
use Rattle.tables.proofs.FillLaws.{head_long, descriptors_whole}
use Rattle.tables.proofs.PmtLaws.{pmt_row_fits}
use Rattle.tables.proofs.pmt.Pmt.read_body.Goals as goal

pub copy-requires : goal.copy-requires
copy-requires c = descriptors_whole 4 c.args.body.now c.in-Some.program.descriptors.now (c.in-Some.ensures.whole.0 refl) c.in-Some.ensures.descriptors

pub read_pcr_pid-requires : goal.read_pcr_pid-requires
read_pcr_pid-requires c = let long = head_long 4 c.args.body.now c.in-Some.program.head.now (c.in-Some.ensures.whole.0 refl) c.in-Some.ensures.head in omega arith

pub invariant_of-result : goal.invariant_of-result
invariant_of-result c = (
  c.requires,
  c.read_pcr_pid.ensures.fits,
  ap (are_whole 0) c.in_ok-program_info.ensures ∙ descriptors_whole 4 c.args.body.now c.in-Some.program.descriptors.now (c.in-Some.ensures.whole.0 refl) c.in-Some.ensures.descriptors,
  rows_all 5 pmt_row_of IsPmtRow pmt_row_fits c.in-Some.program.rest.now c.in_ok-rows.rows.items c.in_ok-rows.ensures.rows,
)
