use Rattle.std.proofs.Common.{◌∷◌, List, subst, sym}
use Rattle.rate_meter.specs.declared.seen.Seen.{Seen}
use Rattle.rate_meter.specs.declared.clocks.Clocks.TheInside.{Inside}
use Rattle.rate_meter.specs.Meter.{AreClocks}
use Rattle.rate_meter.proofs.MeterLaws.{reads, passes_by}
use Rattle.rate_meter.proofs.clocks.Clocks.add.Goals as goal
use Rattle.rate_meter.proofs.clocks.Clocks.add.Goals.{in-Some, in_default}

pub invariant_of-self : goal.invariant_of-self
invariant_of-self c =
    let After : Inside → Type 0 = λ inside. AreClocks (c.args.seen ∷ inside.past) inside.is_whole inside.clocks.items in
    let after : After c.match-seen.self-inside =
    elim c.match-seen.branch [
      | in-Some w ↦
          subst After (sym w.self-inside-is)
          (rw w.read.ensures
          (reads c.self.inside.past w.prepare-self-inside.result c.args.seen w.in-Some.reading w.prepare-self-inside.new.clocks.items w.in-Some.is
          (w.prepare-self-inside.ensures.clocks c.self.inside.past c.self.invariant) w.prepare-self-inside.ensures.has))
      | in_default w ↦
          subst After (sym w.self-inside-is)
          (passes_by c.self.inside.past c.self.inside.is_whole c.args.seen c.self.inside.clocks.items w.in_default.is c.self.invariant)
    ] in
    let Is : List Seen → Type 0 = λ s. AreClocks s c.match-seen.self-inside.is_whole c.match-seen.self-inside.clocks.items in
    subst Is (sym c.add.ensures) after
