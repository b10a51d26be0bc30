use Rattle.std.proofs.Common.{◌≡◌, false, drop, ap, sym, ◌∙◌}
use Rattle.feed.specs.Writers.{FeedWriterValue}
use Rattle.broadcast.proofs.KeepingLaws.{keeps_appended, keeps_tried, may_publish}
use Rattle.broadcast.proofs.feeding.publish_on.Goals as goal

pub publish-requires-clause-lawful : goal.publish-requires-clause-lawful
publish-requires-clause-lawful g c =
    let s = c.args.station.now in
    let w = c.args.feed.now in
    let v = c.append_all.new.feed in
    let left = drop c.append_all.new.appended c.args.sent.now in
    let unsealed : w.is_sealed ≡ false = sym c.is_sealed.ensures ∙ c.if-is_sealed.false in
    let keeps = keeps_appended s w v (drop c.args.appended.now c.args.sent.now) left c.requires.keeps c.append_all.ensures.feed c.append_all.ensures.order in
    may_publish s v left (ap (λ (z : FeedWriterValue). z.is_sealed) c.append_all.ensures.feed ∙ unsealed) keeps c.known.ensures.sound.emission

pub returns-clause-keeps : goal.returns-clause-keeps
returns-clause-keeps g c =
    let s = c.args.station.now in
    let w = c.args.feed.now in
    let v = c.append_all.new.feed in
    let left = drop c.append_all.new.appended c.args.sent.now in
    let unsealed : w.is_sealed ≡ false = sym c.is_sealed.ensures ∙ c.if-is_sealed.false in
    let keeps = keeps_appended s w v (drop c.args.appended.now c.args.sent.now) left c.requires.keeps c.append_all.ensures.feed c.append_all.ensures.order in
    keeps_tried s v c.publish.new.self left c.publish.result (ap (λ (z : FeedWriterValue). z.is_sealed) c.append_all.ensures.feed ∙ unsealed) keeps c.publish.ensures
