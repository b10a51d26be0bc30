use Rattle.std.proofs.Common.{◌≡◌, List, [], ◌∷◌, Some, None, refl, ap, sym, ◌∙◌}
use Rattle.std.specs.Prelude.{Option}
use Rattle.std.specs.Borrow.{Bor}
use Rattle.std.specs.List.{slice_get}
use Rattle.std.specs.Option.{option_copied}
use Rattle.printing.proofs.stream_analysis.StreamAnalysis.take_told.Goals as goal

none_ahead : {X : Type 0} (xs : List X) (first : Option (Bor X)) → first ≡ None → option_copied first ≡ slice_get xs 0 → xs ≡ []
none_ahead [] first none is = refl
none_ahead (x ∷ xs) first none is = let bad : None ≡ Some x = ap option_copied (sym none) ∙ is in cc

pub returns-clause-none : goal.returns-clause-none
returns-clause-none g c = none_ahead c.loop-item.stream.items.ahead c.peek.result c.in_default.is c.peek.ensures.item
