use Rattle.handing.specs.Driving.{IsSameRun}
use Rattle.handing.proofs.DrivingLaws.{needed_steps}
use Rattle.handing.proofs.HandingLaws.{hands_some, hands_all_but}
use Rattle.handing.proofs.driving.step.Goals as goal

pub returns-clause-all : goal.returns-clause-all
returns-clause-all g c going start had =
    let old = c.args.station.now in
    let new = c.advance_behind-answer.new.self in
    let a = c.advance_behind-answer.ensures in
    let out = a.advances.packets in
    let block = c.advance_behind-answer.new.sent.items in
    let s = c.hand_on.ensures.sent in
    let same : IsSameRun old new = record { run = a.run; rings = a.rings; needed = needed_steps a.advances.advances.count old new out a.advances.advances.steps } in
    hands_all_but start old new c.args.sender.now.sent c.hand_on.new.sender.sent c.args.packets.now.items out block s.0 c.hand_on.new.packets.items had same (a.emitted out a.advances.behind) a.advances.behind s.1
    (s.2 going)

pub returns-clause-some : goal.returns-clause-some
returns-clause-some g c start had =
    let old = c.args.station.now in
    let new = c.advance_behind-answer.new.self in
    let a = c.advance_behind-answer.ensures in
    let out = a.advances.packets in
    let block = c.advance_behind-answer.new.sent.items in
    let s = c.hand_on.ensures.sent in
    let same : IsSameRun old new = record { run = a.run; rings = a.rings; needed = needed_steps a.advances.advances.count old new out a.advances.advances.steps } in
    hands_some start old new c.args.sender.now.sent c.hand_on.new.sender.sent c.args.packets.now.items out block s.0 had same (a.emitted out a.advances.behind) a.advances.behind s.1
