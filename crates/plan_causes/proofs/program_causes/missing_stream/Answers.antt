use Rattle.std.proofs.Common.{rules, ◌≡◌, true, false, sym}
use Rattle.plan_causes.proofs.StreamLaws.{row_is_missing, row_lacks, pcr_is_missing, pcr_lacks}
use Rattle.plan_causes.proofs.program_causes.missing_stream.Goals as goal

pub returns-in-Some-clause-stream : goal.returns-in-Some-clause-stream
returns-in-Some-clause-stream c =
    row_is_missing c.args.streams.now c.args.numbers.now c.args.pmt.now c.in-Some.row.now (search rules)

pub returns-in-Some-clause-some : goal.returns-in-Some-clause-some
returns-in-Some-clause-some c =
    sym (row_lacks c.args.streams.now c.args.numbers.now c.args.pmt.now c.in-Some.row.now (search rules))

pub returns-in-None-clause-stream : goal.returns-in-None-clause-stream
returns-in-None-clause-stream c =
    let pid : c.pcr_pid.result ≡ c.args.pmt.now.pcr_pid = search rules in
    rw pid (pcr_is_missing c.args.streams.now c.args.numbers.now c.args.pmt.now (search rules))

pub returns-in-None-clause-some : goal.returns-in-None-clause-some
returns-in-None-clause-some c =
    sym (pcr_lacks c.args.streams.now c.args.numbers.now c.args.pmt.now true (search rules) (search rules))

pub returns-in-None-2-clause-some : goal.returns-in-None-2-clause-some
returns-in-None-2-clause-some c =
    sym (pcr_lacks c.args.streams.now c.args.numbers.now c.args.pmt.now false (search rules) (search rules))
