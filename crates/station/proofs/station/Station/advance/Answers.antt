use Rattle.std.proofs.Common.{◌≡◌, ◌++◌, List, ap, sym, subst, ◌∙◌}
use Rattle.std.specs.Prelude.{ℕ}
use Rattle.station.specs.Advancing.{Advances}
use Rattle.station.proofs.station.Station.advance.Goals as goal

pub returns-clause-advances : goal.returns-clause-advances
returns-clause-advances c =
    let b = c.advance_behind.ensures.advances in
    let only : c.advance_behind.new.sent.items ≡ b.packets = b.behind ∙ ap (λ (v : List (List ℕ)). v ++ b.packets) c.clear.ensures.items in
    let P : List (List ℕ) → Type 0 = Advances c.args.most c.args.self.now c.advance_behind.result c.advance_behind.new.self in
    subst P (sym only) b.advances

pub returns-clause-emitted : goal.returns-clause-emitted
returns-clause-emitted c =
    let sent = c.advance_behind.new.sent.items in
    c.advance_behind.ensures.emitted sent (ap (λ (v : List (List ℕ)). v ++ sent) (sym c.clear.ensures.items))
