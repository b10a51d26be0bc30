-- Facts of options.
use Rattle.std.proofs.Common.{◌≡◌, not, Option, None, Some, refl}
use Rattle.std.specs.Prelude.{is_some, is_none}

pub not_some : {X : Type 0} (o : Option X) → not (is_some o) ≡ is_none o
not_some None = refl
not_some (Some x) = refl
