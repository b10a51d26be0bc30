use Rattle.std.proofs.Common.{rules, ◌≡◌, ◌+◌, List, [], ◌∷◌, ◌++◌, subst, sym}
use Rattle.port.specs.Rings.{PortValue, RingEndValue, IsNewRing, AreNewRings}
use Rattle.port.proofs.NewRingLaws.{one_more}
use Rattle.port.proofs.rings.ports.Goals as goal

pub loop-input-preserved : goal.loop-input-preserved
loop-input-preserved c =
    let ports : List PortValue = c.loop-input.ports.items in
    let ends : List RingEndValue = c.loop-input.ends.items in
    let port : PortValue = c.in_ok-port.port in
    let end : RingEndValue = c.in_ok-port.end in
    let more_ports : c.push.new.self.items ≡ ports ++ port ∷ [] = search rules in
    let more_ends : c.push-in-loop-input.new.self.items ≡ ends ++ end ∷ [] = search rules in
    let new : IsNewRing c.loop-input.input port end = c.in_ok-port.ensures in
    subst (λ (z : List PortValue × List RingEndValue). AreNewRings (c.loop-input.input + 1) z.0 z.1)
    (λ j. (sym more_ports j, sym more_ends j))
    (one_more c.loop-input.input ports ends port end c.loop-input.invariant new)
