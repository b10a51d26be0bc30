use Rattle.std.proofs.Common.{ℕ, ◌≡◌, refl, sym, subst, ◌∙◌}
use Rattle.std.specs.Prelude.{IsSome, IfSome}
use Rattle.reading.specs.Takeable.{stream_number}
use Rattle.reading.specs.Holding.{PacketReader}
use Rattle.reading.proofs.PacketLaws.{reads_told, reads_reads}
use Rattle.reading.proofs.FailureLaws.{newly_failed, goes_goes}
use Rattle.reading.proofs.packet_reader.PacketReader.find.Goals as goal

pub returns-in-Packet-clause-read : goal.returns-in-Packet-clause-read
returns-in-Packet-clause-read g c =
    reads_told g.R.Source.remaining c.args.schedule.now c.args.self.now c.loop-number.self c.look.new.self c.loop-number.invariant.read c.look.ensures.read c.look.ensures.source

pub returns-in-Packet-clause-number : goal.returns-in-Packet-clause-number
returns-in-Packet-clause-number g c = λ number e.
    let same : c.in-Packet.number ≡ number = cc in
    let P : ℕ → Type 0 = λ n. IfSome c.look.new.self.held (λ item. n ≡ stream_number c.args.schedule.now c.look.new.self.origin item) in
    subst P same (c.in-Packet.ensures.number c.in-Packet.number refl)

pub returns-in-Packet-clause-failed : goal.returns-in-Packet-clause-failed
returns-in-Packet-clause-failed g c =
    newly_failed g.R.Source.failures c.args.self.now c.look.new.self
    (goes_goes g.R.Source.failures c.args.self.now c.loop-number.self c.look.new.self c.loop-number.invariant.goes c.look.ensures.goes).failures_told

pub returns-in-Over-clause-read : goal.returns-in-Over-clause-read
returns-in-Over-clause-read g c =
    reads_told g.R.Source.remaining c.args.schedule.now c.args.self.now c.loop-number.self c.look.new.self c.loop-number.invariant.read c.look.ensures.read c.look.ensures.source

pub returns-in-Over-clause-failed : goal.returns-in-Over-clause-failed
returns-in-Over-clause-failed g c =
    newly_failed g.R.Source.failures c.args.self.now c.look.new.self
    (goes_goes g.R.Source.failures c.args.self.now c.loop-number.self c.look.new.self c.loop-number.invariant.goes c.look.ensures.goes).failures_told

pub returns-in_err-read-in-More-clause-read : goal.returns-in_err-read-in-More-clause-read
returns-in_err-read-in-More-clause-read g c =
    let M = g.R.Source.remaining in
    let p = c.args.schedule.now in
    let a = c.args.self.now in
    reads_reads M p a c.look.new.self c.read.new.self (reads_told M p a c.loop-number.self c.look.new.self c.loop-number.invariant.read c.look.ensures.read c.look.ensures.source) (c.read.ensures.read p)

pub loop-number-preserved : goal.loop-number-preserved
loop-number-preserved g c =
    let M = g.R.Source.remaining in
    let F = g.R.Source.failures in
    let p = c.args.schedule.now in
    let a = c.args.self.now in
    let kept = c.loop-number.invariant in
    let look = c.in-More.ensures in
    record {
      read = reads_reads M p a c.look.new.self c.read.new.self (reads_told M p a c.loop-number.self c.look.new.self kept.read look.read look.source) (c.read.ensures.read p);
      goes = goes_goes F a c.look.new.self c.read.new.self (goes_goes F a c.loop-number.self c.look.new.self kept.goes look.goes) c.read.ensures.goes;
      stays = λ some.
          (let P : PacketReader _ → Type 0 = λ x. IsSome x.held in
          let here = subst P (sym (kept.stays some)) some in
          let there = subst P (sym (look.stays here)) here in
          let bad = subst IsSome (look.more refl).held there in cc);
      unrefused = λ e. kept.unrefused (sym look.stopped ∙ c.in_ok-read-in-More.ensures.unrefused e);
    }
