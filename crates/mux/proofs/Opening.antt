-- A history is opened first, and once.
use Rattle.std.proofs.Common.{suc, ◌+◌, ◌≡◌, map, reverse, Option, Some, None, refl, sym, ◌∙◌, arith}
use Rattle.std.specs.List.{slice_get}
use Rattle.std.specs.Option.{option_map}
use Rattle.std.proofs.lemmas.Option.{slice_get-map}
use Rattle.mux.specs.declared.event.Event.{Event}
use Rattle.mux.specs.History.{Run, Open, Then, all_events}
use Rattle.mux.specs.Faithful.{OpensOnce}

not_open : (o : Option Event) (r : Run) → option_map Then o ≡ Some (Open r) → ⊥
not_open None r e = cc
not_open (Some x) r e = cc

pub opens_once : OpensOnce
opens_once h = (
  refl,
  λ k r at.
      let es = reverse h.events in
      let next : slice_get (map Then es) k ≡ slice_get (all_events h) (k + 1) = let e : k + 1 ≡ suc k = omega arith in rw e refl in
      not_open (slice_get es k) r (sym (slice_get-map Then es k) ∙ next ∙ at),
)
