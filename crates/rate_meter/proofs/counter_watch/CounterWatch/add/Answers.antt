use Rattle.std.proofs.Common.{◌≡◌, ◌<◌, ◌&&◌, not, ◌∷◌, List, false, slice_index, nat_lt, arith, subst, sym, ◌∙◌}
use Rattle.std.proofs.lemmas.Grind.{common_steps}
use Rattle.rate_meter.specs.declared.seen.Seen.{Seen}
use Rattle.rate_meter.specs.declared.counter_watch.CounterWatch.TheInside.{Inside}
use Rattle.rate_meter.specs.Counters.{KeepsCounters, goes_on_behind}
use Rattle.rate_meter.proofs.CounterLaws.{breaks, keeps_at, passes}
use Rattle.rate_meter.proofs.counter_watch.CounterWatch.add.Goals as goal
use Rattle.rate_meter.proofs.counter_watch.CounterWatch.add.Goals.{then-place-lt-PIDS, then-not-seen, else-not-seen, else-place-lt-PIDS}

pub invariant_of-self : goal.invariant_of-self
invariant_of-self c =
    let After : Inside → Type 0 = λ inside. KeepsCounters (c.args.seen ∷ inside.past) inside.newest.items inside.cut.items in
    let past = c.self.inside.past in
    let newest = c.self.inside.newest.items in
    let s = c.args.seen in
    let after : After c.if-place-lt-PIDS.self-inside =
    elim c.if-place-lt-PIDS.branch [
      | then-place-lt-PIDS w ↦
          let within : s.pid < 8191 = grind (arith, common_steps) in
          let told : w.if-not-seen.is_broken ≡ (not s.is_discontinuous && not (goes_on_behind (slice_index newest s.pid) s)) =
          elim w.if-not-seen.branch [
            | then-not-seen v ↦ grind (arith, common_steps)
            | else-not-seen v ↦ grind (arith, common_steps)
          ] in
          subst After (sym w.self-inside-is)
          (keeps_at past newest c.self.inside.cut.items w.cut_behind-is_cut_off.new.cut.items s w.if-not-seen.is_broken w.is_some.result c.from-place.result
          w.from.result c.self.invariant c.from-place.ensures w.from.ensures w.is_some.ensures within
          (told ∙ breaks past newest c.self.inside.cut.items s c.self.invariant within) w.cut_behind-is_cut_off.ensures.length
          w.cut_behind-is_cut_off.ensures.cut)
      | else-place-lt-PIDS w ↦
          let no : nat_lt s.pid 8191 ≡ false = grind (arith, common_steps) in
          subst After (sym w.self-inside-is) (passes past newest c.self.inside.cut.items s c.self.invariant no)
    ] in
    let Is : List Seen → Type 0 = λ x. KeepsCounters x c.if-place-lt-PIDS.self-inside.newest.items c.if-place-lt-PIDS.self-inside.cut.items in
    subst Is (sym c.add.ensures) after
