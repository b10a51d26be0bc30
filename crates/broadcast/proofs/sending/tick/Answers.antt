use Rattle.std.proofs.Common.{◌++◌, List, ℕ, length, ap, sym, ◌∙◌, arith}
use Rattle.broadcast.specs.Broadcasts.{emitted_by}
use Rattle.broadcast.proofs.sending.tick.Goals as goal

pub returns-clause-emitted : goal.returns-clause-emitted
returns-clause-emitted c =
    let e = c.tick_behind.ensures.emitted in
    e.2 ∙ ap (λ (v : List (List ℕ)). emitted_by c.args.station.now ++ v) (sym (e.1 ∙ ap (λ (v : List (List ℕ)). v ++ e.0) c.requires.empty))

pub returns-clause-capacity : goal.returns-clause-capacity
returns-clause-capacity c =
    let e = c.tick_behind.ensures.emitted in
    let room = e.3 in
    let behind = ap length (e.1 ∙ ap (λ (v : List (List ℕ)). v ++ e.0) c.requires.empty) in
    let none = ap length c.requires.empty in
    omega (arith, room, behind, none, c.args.sent.now.ok.0, c.args.sent.now.ok.1, c.tick_behind.new.out.ok.0, c.tick_behind.new.out.ok.1)
