use Rattle.std.proofs.Common.{rules, [], ◌++◌, refl, ap, sym, ◌∙◌, append_assoc, append-nil, arith}
use Rattle.station.specs.Stations.{StationValue}
use Rattle.station.proofs.AdvancingLaws.{steps_on}
use Rattle.station.proofs.advancing.advance_behind.Goals as goal

pub loop-count-init : goal.loop-count-init
loop-count-init c = record {
  steps = ([], sym (append-nil c.args.sent.now.items), search rules);
  lawful = c.requires.lawful;
  len = omega arith;
  room = omega arith;
}

pub loop-count-preserved : goal.loop-count-preserved
loop-count-preserved c =
    let l = c.loop-count in
    let done = c.in_default.ensures.step in
    let before = l.invariant.steps in
    let start : StationValue = record { history = c.args.mux.now; inputs = c.args.entries.now.items } in
    let mid : StationValue = record { history = l.mux; inputs = l.entries.items } in
    let end : StationValue = record { history = c.step_behind.new.mux; inputs = c.step_behind.new.entries.items } in
    record {
      steps = (
        before.0 ++ done.0,
        done.1 ∙ (ap (λ v. v ++ done.0) before.1 ∙ append_assoc c.args.sent.now.items before.0 done.0),
        steps_on l._count start mid end before.0 done.0 (before.0 ++ done.0) before.2 done.2 refl,
      );
      lawful = c.step_behind.ensures.lawful;
      len = omega (arith, l.invariant.len, c.step_behind.ensures.room.0);
      room = omega (arith, l.invariant.room, c.step_behind.ensures.room.1);
    }
