use Rattle.std.proofs.Common.{◌≡◌, map, drop}
use Rattle.request.specs.Text.{is_among}
use Rattle.request.proofs.keys.is_known.Given as goal

abbrev pub invariant-loop-name : goal.invariant-loop-name
invariant-loop-name l = is_among (map (λ name. name.now) (drop l.name-index l.names)) l.key ≡ is_among (map (λ name. name.now) l.names) l.key
