use Rattle.std.proofs.Common.{rules, ◌≡◌, [], drop}
use Rattle.marks.specs.Marks.{open_mark}
use Rattle.feed.specs.Versions.{Version}
use Rattle.feed.proofs.EndLaws.{may_publish_first}
use Rattle.feed.proofs.opening.new_publisher.Goals as goal

pub publish_as-writer-requires : goal.publish_as-writer-requires
publish_as-writer-requires g c next is =
    let w = c.in_ok-writer.writer in
    let v : Version = w.desk.shown.value in
    let mark : v.mark ≡ open_mark c.args.sequence.now.feed [] = search rules in
    let packets : v.packets.items ≡ [] = search rules in
    let none : drop w.behind w.log.items ≡ [] = search rules in
    may_publish_first _ _ v next (drop w.behind w.log.items) c.args.sequence.now.feed mark packets none is
