use Rattle.rate_meter.proofs.MeterLaws.{parts_behind}
use Rattle.rate_meter.proofs.rate_meter.RateMeter.see.Goals as goal

pub invariant_of-self : goal.invariant_of-self
invariant_of-self c =
    rw (c.add.ensures, c.add-2.ensures, c.cut_off.ensures, c.add-is_cut_off.ensures.cut, c.add-is_cut_off.ensures.seen, c.count_if_scrambled.ensures)
    (parts_behind c.args.seen c.self.inside.counts c.self.inside.clocks.seen c.self.inside.counters c.self.inside.scrambled c.self.invariant)
