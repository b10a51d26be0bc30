use Rattle.std.proofs.Common.{rules, ◌≡◌, ◌<◌, ◌++◌, length, [], List, ℕ, take, sym, ap, subst, Some}
use Rattle.std.proofs.lemmas.List.{append-nil}
use Rattle.std.specs.Io.KnownBytes.{Consumes}
use Rattle.reading.specs.StreamReading.{HasPassed, stopped_by}
use Rattle.reading.proofs.KnownLaws.{keeps_consumes}
use Rattle.reading.proofs.StreamLaws.{passed_elsewhere, left_now, not_much, all_passed}
use Rattle.reading.specs.declared.stop.Stop.TheVariants.{ReadFailed}
use Rattle.reading.proofs.stream_reader.StreamReader.read.Goals as goal

pub returns-in-Ok-eq0-clause-read : goal.returns-in-Ok-eq0-clause-read
returns-in-Ok-eq0-clause-read g c = λ stride bytes stopped passed h.
    let s = c.args.self.now in
    let R = g.R.Source.remaining in
    let now = passed_elsewhere stride s.items passed bytes _ (R c.read.new.self) stopped c.requires.open h in
    let zero : c.in-Ok-eq0.field-0 ≡ 0 = search rules in
    let room : 0 < length c.read.new.piece = search rules in
    let there = c.in-Ok-eq0.ensures.bytes.1 zero room in
    let read = c.finish.ensures.read stride bytes stopped passed there now in
    let gave = subst (λ n. Consumes (R s.source) (R c.read.new.self) (take n c.read.new.piece)) zero c.in-Ok-eq0.ensures.bytes.0 in (
      [],
      subst (λ v. Consumes (R s.source) (R v) []) (sym (ap (λ v. v.source) c.finish.ensures.stays)) gave,
      subst (λ (v : List ℕ). HasPassed R stride c.finish.new.self v (stopped_by c.finish.result stopped) passed) (sym (append-nil bytes)) read,
    )

pub returns-in-Ok-clause-read : goal.returns-in-Ok-clause-read
returns-in-Ok-clause-read g c = λ stride bytes stopped passed h.
    let s = c.args.self.now in
    let R = g.R.Source.remaining in
    let now = passed_elsewhere stride s.items passed bytes _ (R c.read.new.self) stopped c.requires.open h in
    let piece = take c.in-Ok.count c.read.new.piece in (
      piece,
      subst (λ v. Consumes (R s.source) (R v) piece) (sym (ap (λ v. v.source) c.feed.ensures.stays)) c.in-Ok.ensures.bytes.0,
      c.feed.ensures.read stride bytes stopped passed now,
    )

pub returns-in-Err-clause-read : goal.returns-in-Err-clause-read
returns-in-Err-clause-read g c = λ stride bytes stopped passed h.
    let s = c.args.self.now in
    let R = g.R.Source.remaining in
    let now = passed_elsewhere stride s.items passed bytes _ (R c.read.new.self) stopped c.requires.open h in
    let all = all_passed stride s.items.limit s.items.framer passed s.items.ahead bytes _ stopped c.requires.ahead c.requires.open h in
    let left = left_now stride s.items c.give_up.new.self passed bytes (R c.read.new.self) stopped ReadFailed c.give_up.ensures (λ e. cc)
    (not_much stride s.items.limit s.items.framer (passed ++ s.items.ahead) bytes _ stopped c.requires.open h) (λ e. all) now in (
      [],
      keeps_consumes _ _ c.in-Err.ensures.bytes,
      subst (λ (v : List ℕ). HasPassed R stride (record s { source = c.read.new.self; items = c.give_up.new.self }) v (Some ReadFailed) passed) (sym (append-nil bytes)) left,
    )
