use Rattle.std.proofs.Common.{◌≡◌, false, Option, Some, None, sym, ◌∙◌, rules}
use Rattle.std.specs.Option.{is_none, IsSome}
use Rattle.printing.proofs.stream_analysis.StreamAnalysis.read_framed.Goals as goal

-- what isn't none is there
some_where : {X : Type 0} (o : Option X) → is_none o ≡ false → IsSome o
some_where None e = cc
some_where (Some x) e = search rules

pub read-requires-clause-open : goal.read-requires-clause-open
read-requires-clause-open g c = some_where c.take_told.new.stream.items.framer (sym c.is_over.ensures ∙ c.if-is_over.false)
