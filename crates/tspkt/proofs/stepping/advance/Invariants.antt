use Rattle.std.proofs.Common.{◌+◌, ◌-◌, ◌≤◌, length}
use Rattle.tspkt.specs.ItemLists.{IsLater}
use Rattle.tspkt.specs.Stepping.{TellsSame}
use Rattle.tspkt.proofs.stepping.advance.Given as goal

abbrev pub invariant-steps : goal.invariant-steps
invariant-steps g l =
    let old = g.L.ItemList.list l.fn.out in
    let now = g.L.ItemList.list l.out in
    record {
      goes : TellsSame l.stride l.base l.window old.told l.fn.mode 0 now.told l.mode l.at;
      later : IsLater old now;
      few : length now.told ≤ length old.told + l.at;
    }

abbrev pub decreases-steps : goal.decreases-steps
decreases-steps g l = length l.window - l.at
