use Rattle.std.proofs.Common.{◌≡◌, false, refl, ap, sym, ◌∙◌}
use Rattle.std.specs.Prelude.{Option, None, Some, is_some}
use Rattle.schedule.specs.Streams.{scheduled_place}
use Rattle.reading.specs.Takeable.{stamp_at}
use Rattle.reading.proofs.classify.classify_packet.Goals as goal

none_of : {X : Type 0} (o : Option X) → is_some o ≡ false → o ≡ None
none_of None h = refl
none_of (Some x) h = cc

pub returns-clause-some : goal.returns-clause-some
returns-clause-some c =
    let s = c.args.schedule.now in
    let o = c.args.origin.now in
    let found = c.in-Some.ensures.some in (
      sym c.fault.ensures ∙ none_of c.fault.result (sym c.is_some.ensures ∙ c.if-is_some.false),
      found.0,
      ap (λ pid. scheduled_place s o.number pid (stamp_at o c.args.position)) (sym c.pid_in-pid.ensures.value) ∙ found.1,
    )
