use Rattle.std.proofs.Common.{ℕ, List, reverse, sym, ◌∙◌, subst}
use Rattle.std.proofs.lemmas.List.Elements.{All-nil}
use Rattle.tspkt.specs.Packet.{IsPacket}
use Rattle.mux.specs.Output.{IsOutput}
use Rattle.mux.proofs.CounterLaws.{counters_none}
use Rattle.mux.proofs.output.Output.new.Goals as goal

pub invariant_of-result : goal.invariant_of-result
invariant_of-result c =
    let P : List (List ℕ) → Type 0 = λ sent. IsOutput (reverse sent) c.in_ok-new.field-0 in
    (subst P (sym c.new.ensures) (record { whole = All-nil IsPacket; counters_are = c.in_ok-new.ensures ∙ counters_none }), c.null.ensures.value)
