use Rattle.std.proofs.Common.{[], Option, None, sym, ap, subst, ◌∙◌}
use Rattle.tspkt.specs.declared.stamped.Stamped.{Stamped}
use Rattle.std.proofs.lemmas.Option.{none-some}
use Rattle.reading.specs.declared.report.Report.{Report}
use Rattle.reading.specs.declared.stop.Stop.TheVariants.{ReadFailed}
use Rattle.reading.specs.Takeable.{OriginValue, stride_at}
use Rattle.reading.specs.PacketReading.{HasLooked}
use Rattle.reading.specs.StreamReading.{HasPassed}
use Rattle.reading.proofs.PacketLaws.{fresh_looked}
use Rattle.reading.proofs.packet_reader.PacketReader.new.Goals as goal

pub returns-clause-read : goal.returns-clause-read
returns-clause-read g c = λ schedule.
    let M = g.R.Source.remaining in
    let stream = c.new-2.result in
    let P : OriginValue → Type 0 = λ o. HasPassed M (stride_at o) stream [] None [] in
    ([], fresh_looked M schedule c.new.result stream c.new-3.result c.new-3.ensures (subst P (sym c.new.ensures) c.new-2.ensures.passed))

pub returns-clause-failures : goal.returns-clause-failures
returns-clause-failures g c = record {
  unfailed = λ some. ap g.R.Source.failures c.new-2.ensures.source;
  told = λ e. absurd (none-some ReadFailed (sym (ap (λ (r : Report). r.stopped) c.new-3.ensures) ∙ e));
  untold = λ f. ap g.R.Source.failures c.new-2.ensures.source;
}
