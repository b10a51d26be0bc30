use Rattle.std.proofs.Common.{◌≡◌, List, ℕ, true, ap, sym, subst, ◌∙◌}
use Rattle.std.specs.Prelude.{is_err}
use Rattle.outlet.specs.Sending.{bytes_of}
use Rattle.outlet.specs.Written.{SendsBeginning}
use Rattle.recorder.proofs.RecordingLaws.{begun_more, erred, written_whole}
use Rattle.recorder.proofs.recorder.Recorder.step.Goals as goal

pub invariant_of-self-then-is_err-2 : goal.invariant_of-self-then-is_err-2
invariant_of-self-then-is_err-2 g c =
    let W = g.W.Sink in
    let items = c.read.new.piece.items in
    let old = written_whole (W.contents c.self.inside.given.value) (W.contents c.self.inside.sink) c.self.inside.has_failed c.self.inside.reader.read c.if-has_failed.false c.self.invariant.0 in
    let these = c.as_slice-2.ensures.value ∙ (c.gather.ensures.bytes ∙ ap bytes_of c.as_slice.ensures.value) in
    let err = erred c.write_all.result (sym c.is_err-2.ensures.value ∙ c.if-is_err-2.true) c.write_all.ensures.err in
    let P : List ℕ → Type 0 = SendsBeginning (W.contents c.self.inside.sink) (W.contents c.write_all.new.sink) in (
      begun_more (W.contents c.self.inside.given.value) (W.contents c.self.inside.sink) (W.contents c.write_all.new.sink) c.self.inside.reader.read items c.read.new.self.read old (subst P these err) c.read.ensures.read,
      c.read.ensures.lawful,
    )

pub returns-then-is_err-2-clause-written : goal.returns-then-is_err-2-clause-written
returns-then-is_err-2-clause-written g c =
    let W = g.W.Sink in
    let items = c.read.new.piece.items in
    let old = written_whole (W.contents c.self.inside.given.value) (W.contents c.self.inside.sink) c.self.inside.has_failed c.self.inside.reader.read c.if-has_failed.false c.self.invariant.0 in
    let these = c.as_slice-2.ensures.value ∙ (c.gather.ensures.bytes ∙ ap bytes_of c.as_slice.ensures.value) in
    let err = erred c.write_all.result (sym c.is_err-2.ensures.value ∙ c.if-is_err-2.true) c.write_all.ensures.err in
    let P : List ℕ → Type 0 = SendsBeginning (W.contents c.self.inside.sink) (W.contents c.write_all.new.sink) in
    begun_more (W.contents c.self.inside.given.value) (W.contents c.self.inside.sink) (W.contents c.write_all.new.sink) c.self.inside.reader.read items c.read.new.self.read old (subst P these err) c.read.ensures.read
