use Rattle.std.proofs.Common.{ℕ, ◌<◌, ◌++◌, ◌∷◌, [], List, reverse, sym, ap, ◌∙◌, subst, arith}
use Rattle.std.proofs.lemmas.List.{reverse-append}
use Rattle.tspkt.specs.Packet.{pid_of}
use Rattle.mux.specs.PidCounters.{counted}
use Rattle.mux.specs.Output.{IsOutput}
use Rattle.mux.proofs.Pushed.{grown}
use Rattle.mux.proofs.output.Output.push.Goals as goal

pub invariant_of-self : goal.invariant_of-self
invariant_of-self c =
    let q = c.args.packet.now in
    let pid = c.pid.ensures.value in
    let fits : pid_of q < 8192 = omega (arith, pid, c.pid.ensures.fits) in
    let P : List (List ℕ) → Type 0 = λ packets. IsOutput packets c.count.new.self in
    (subst P (sym (ap reverse c.add.ensures ∙ reverse-append (q ∷ []) c.self.inside.sent)) (grown c.self.invariant.0 q c.count.new.self c.known.ensures fits (c.count.ensures ∙ ap (counted c.self.inside.counters) pid)), c.self.invariant.1)

pub returns : goal.returns
returns c = ap reverse c.add.ensures ∙ reverse-append (c.args.packet.now ∷ []) c.self.inside.sent ∙ ap (λ (xs : List (List ℕ)). xs ++ c.args.packet.now ∷ []) c.self.view_is
