use Rattle.std.proofs.Common.{◌≡◌, ◌+◌, ◌-◌, ◌≤◌, ℕ, List, ◌++◌, length, take, drop, sym, subst, arith, length-append}
use Rattle.std.specs.Prelude.{option_map, min}
use Rattle.std.proofs.lemmas.List.{take-append-le, length-take-le, length-take}
use Rattle.std.specs.Io.KnownBytes.{Consumes}
use Rattle.probing.proofs.FirstLaws.{first_consumed, first_at_end, none_or_end}
use Rattle.probing.proofs.first_bytes.FirstBytesSource.read.Goals as goal

pub returns-clause-bytes : goal.returns-clause-bytes
returns-clause-bytes g c =
    let a = g.R.Source.remaining c.args.self.now.source in
    let b = g.R.Source.remaining c.read.new.self in
    let left = c.args.self.now.left in
    let n = c.in_ok-count.count in
    let buf = c.read.new.piece in
    let rest = drop c.min-room.result c.args.piece.now in
    let got = c.in_ok-count.ensures.bytes in
    let long : length buf ≡ length (take c.min-room.result c.args.piece.now) = c.read.auto.piece in
    let room : c.min-room.result ≡ min left (length c.args.piece.now) = c.min-room.ensures in
    let size : length buf ≡ c.min-room.result = omega (arith, long, room, length-take c.min-room.result c.args.piece.now) in
    let within : n ≤ length buf = c.in_ok-count.ensures.bound.0 in
    let bs = take n buf in
    let count : length bs ≡ n = length-take-le n buf within in
    let front : take n (buf ++ rest) ≡ bs = take-append-le n buf rest within in
    let few : length bs ≤ left = omega (arith, count, within, size, room) in
    let P : ℕ → List ℕ → Type 0 = λ k v. Consumes (option_map (take left) a) (option_map (take (left - k)) b) v in
    let whole : length (buf ++ rest) ≡ length buf + length rest = length-append buf rest in (
      subst (P n) (sym front) (subst (λ k. P k bs) count (first_consumed a b left bs few got.0)),
      λ none some. first_at_end b (left - n) (none_or_end buf b (left - n) (got.1 none) (λ empty. omega (arith, empty, size, room, whole, some))),
    )
