use Rattle.reading.proofs.StreamLaws.{passed_on}
use Rattle.reading.proofs.stream_reader.StreamReader.pass.Goals as goal

pub returns-clause-passed : goal.returns-clause-passed
returns-clause-passed g c = λ stride bytes stopped passed item first h.
    passed_on stride c.args.self.now.items c.pass.new.self passed item bytes _ stopped first c.pass.ensures h
