-- Known bytes that are read, over one call after another.
use Rattle.std.proofs.Common.{ℕ, List, [], ◌++◌, refl, sym, ◌∙◌, ap, append_assoc}
use Rattle.std.specs.Prelude.{Option, Some, None}
use Rattle.std.specs.Io.KnownBytes.{Consumes, Keeps}

pub consumes_nothing : (old : Option (List ℕ)) → Consumes old old []
consumes_nothing None = tt
consumes_nothing (Some xs) = refl

pub keeps_consumes : (old new : Option (List ℕ)) → Keeps old new → Consumes old new []
keeps_consumes None new h = tt
keeps_consumes (Some xs) None h = h
keeps_consumes (Some xs) (Some ys) h = sym h

pub consumes_on : (a b c : Option (List ℕ)) (x y : List ℕ) → Consumes a b x → Consumes b c y → Consumes a c (x ++ y)
consumes_on None b c x y h k = tt
consumes_on (Some xs) None c x y h k = absurd h
consumes_on (Some xs) (Some ys) None x y h k = k
consumes_on (Some xs) (Some ys) (Some zs) x y h k = h ∙ ap (λ v. x ++ v) k ∙ sym (append_assoc x y zs)
