use Rattle.std.proofs.Common.{ap, sym, subst, ◌∙◌}
use Rattle.std.specs.Io.KnownBytes.{IsAtEnd}
use Rattle.reading.specs.Holding.{PacketReader}
use Rattle.reading.specs.PacketReading.{CountsTold}
use Rattle.reading.specs.declared.report.Report.{Report}
use Rattle.reading.proofs.PacketLaws.{given_begins, too_much, within_read, counts_told, whole_read}
use Rattle.reading.proofs.packet_reader.PacketReader.report.Goals as goal

pub returns-clause-begins : goal.returns-clause-begins
returns-clause-begins g c = λ schedule bytes given h more. given_begins g.R.Source.remaining schedule c.args.self.now bytes given h more

pub returns-clause-whole : goal.returns-clause-whole
returns-clause-whole g c = λ schedule bytes given h spent goes.
    whole_read g.R.Source.remaining schedule c.args.self.now bytes given h spent (sym (ap (λ (v : PacketReader _). v.report.stopped) c.self.view_is) ∙ goes)

pub returns-clause-too_much : goal.returns-clause-too_much
returns-clause-too_much g c = λ schedule bytes given h e.
    too_much g.R.Source.remaining schedule c.args.self.now bytes given h (sym (ap (λ (v : PacketReader _). v.report.stopped) c.self.view_is) ∙ e)

pub returns-clause-within : goal.returns-clause-within
returns-clause-within g c = λ schedule bytes given h other.
    within_read g.R.Source.remaining schedule c.args.self.now bytes given h (λ e. other (ap (λ (v : PacketReader _). v.report.stopped) c.self.view_is ∙ e))

pub returns-clause-told : goal.returns-clause-told
returns-clause-told g c = λ schedule bytes given h e.
    let s = c.args.self.now in
    let M = g.R.Source.remaining in
    let P : Report → Type 0 = λ v. CountsTold schedule s.origin bytes (IsAtEnd (M s.stream.source)) v in
    subst P (sym (ap (λ (v : PacketReader _). v.report) c.self.view_is))
    (counts_told M schedule s bytes given h (sym (ap (λ (v : PacketReader _). v.report.stopped) c.self.view_is) ∙ e))
