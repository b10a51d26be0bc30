-- Sources whose bytes are known.
use Rattle.std.proofs.Common.{ℕ, ◌≡◌, ◌≤◌, false, true, List, ◌++◌, length, length-append, Option, None, Some, refl, ap, ◌∙◌, sym, arith}
use Rattle.std.specs.Prelude.{IsSome}
use Rattle.std.specs.Io.KnownBytes.{Consumes, IsAtEnd}
use Rattle.std.proofs.lemmas.List.{append-nil, append_cancel_right}
use Rattle.std.proofs.lemmas.Option.{same_Some}
use Rattle.tspkt.specs.Framed.{framed}
use Rattle.tspkt.specs.declared.item.Item.{Item}
use Rattle.reading.specs.StreamReading.{BeginsFramed}

pub known : (start : Option (List ℕ)) → IsSome start → (all : List ℕ) × (start ≡ Some all)
known None h = let bad : false ≡ true = h in cc
known (Some all) h = (all, refl)

-- the bytes that were read begin all
pub consumed : (start rest : Option (List ℕ)) (bytes all : List ℕ) → start ≡ Some all → Consumes start rest bytes → (more : List ℕ) × (all ≡ bytes ++ more)
consumed None rest bytes all e used = cc
consumed (Some first) None bytes all e used = absurd used
consumed (Some first) (Some more) bytes all e used = (more, sym (same_Some first all e) ∙ used)

-- all bytes were read where the source is at its end
pub all_read : (start rest : Option (List ℕ)) (bytes all : List ℕ) → start ≡ Some all → Consumes start rest bytes → IsAtEnd rest → all ≡ bytes
all_read None rest bytes all e used end = cc
all_read (Some first) None bytes all e used end = absurd used
all_read (Some first) (Some more) bytes all e used end = sym (same_Some first all e) ∙ used ∙ ap (λ v. bytes ++ v) end ∙ append-nil bytes

pub some_read : (start rest : Option (List ℕ)) (bytes all : List ℕ) → start ≡ Some all → Consumes start rest bytes → length bytes ≤ length all
some_read start rest bytes all e used =
    let more = consumed start rest bytes all e used in
    omega (arith, ap length more.1, length-append bytes more.0)

-- so many bytes are left behind the same
pub same_bytes : (all : List ℕ) (left : Option (List ℕ)) (a b : List ℕ) → Consumes (Some all) left a → Consumes (Some all) left b → a ≡ b
same_bytes all None a b first second = absurd first
same_bytes all (Some more) a b first second = append_cancel_right a b more (sym first ∙ second)

-- what begins the framing of the bytes that were read begins that of all bytes
pub framed_all : (stride : ℕ) (start rest : Option (List ℕ)) (bytes all : List ℕ) (looked : List Item) → start ≡ Some all → Consumes start rest bytes → BeginsFramed stride bytes (IsAtEnd rest) looked
    → (later : List Item) × (looked ++ later ≡ framed stride all)
framed_all stride None rest bytes all looked e used begins = cc
framed_all stride (Some first) None bytes all looked e used begins = absurd used
framed_all stride (Some first) (Some more) bytes all looked e used begins =
    let b = begins more (λ none. none) in
    (b.0, b.1 ∙ ap (framed stride) (sym used ∙ same_Some first all e))
