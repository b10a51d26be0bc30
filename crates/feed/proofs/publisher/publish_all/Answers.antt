use Rattle.std.proofs.Common.{drop}
use Rattle.left_right.specs.Sides.{view}
use Rattle.feed.proofs.EndLaws.{may_publish, marked_again}
use Rattle.feed.proofs.VersionLaws.{schedule_kept, packets_more}
use Rattle.feed.proofs.publisher.publish_all.Goals as goal

pub publish_as-writer-requires : goal.publish_as-writer-requires
publish_as-writer-requires g c next is =
    let w = c.args.writer in
    may_publish _ (view w.desk.place) w.desk.shown.value next (drop w.behind w.log.items) c.requires.marked c.requires.lawful is

pub returns-in-Ok-clause-marked : goal.returns-in-Ok-clause-marked
returns-in-Ok-clause-marked g c =
    let w = c.args.writer in
    let w' = c.publish_as-writer.result.0 in
    let values = rw c.in-Ok.is at c.publish_as-writer.ensures.values in
    let rule = rw c.in-Ok.is at c.publish_as-writer.ensures.rule in
    (marked_again (view w.desk.place) (view w'.desk.place) w.desk.shown.value w'.desk.shown.value (drop w.behind w.log.items) (drop w'.behind w'.log.items) c.requires.marked values.0 rule values.1).1

pub returns-in-Ok-clause-feed : goal.returns-in-Ok-clause-feed
returns-in-Ok-clause-feed g c =
    let w = c.args.writer in
    let w' = c.publish_as-writer.result.0 in
    let values = rw c.in-Ok.is at c.publish_as-writer.ensures.values in
    let rule = rw c.in-Ok.is at c.publish_as-writer.ensures.rule in
    (marked_again (view w.desk.place) (view w'.desk.place) w.desk.shown.value w'.desk.shown.value (drop w.behind w.log.items) (drop w'.behind w'.log.items) c.requires.marked values.0 rule values.1).0

pub returns-in-Ok-clause-schedule : goal.returns-in-Ok-clause-schedule
returns-in-Ok-clause-schedule g c =
    let w = c.args.writer in
    let values = rw c.in-Ok.is at c.publish_as-writer.ensures.values in
    schedule_kept w.desk.shown.value c.publish_as-writer.result.0.desk.shown.value (drop w.behind w.log.items) values.0

pub returns-in-Ok-clause-published : goal.returns-in-Ok-clause-published
returns-in-Ok-clause-published g c =
    let w = c.args.writer in
    let values = rw c.in-Ok.is at c.publish_as-writer.ensures.values in
    (packets_more w.desk.shown.value c.publish_as-writer.result.0.desk.shown.value (drop w.behind w.log.items) values.0, values.1)
