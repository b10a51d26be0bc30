use Rattle.std.proofs.Common.{◌≤◌, ◌-◌, ◌++◌, length, take, drop, ap, sym, ◌∙◌, arith}
use Rattle.std.proofs.lemmas.List.{length-drop, length-take}
use Rattle.files.specs.FileReading.{KeptState, given_bytes, ahead_bytes}
use Rattle.files.proofs.Kept.{Gives, gives}
use Rattle.files.proofs.kept_reader.KeptReader.give.Given.{Over}
use Rattle.files.proofs.kept_reader.KeptReader.give.Goals as goal

next_given : (g : Over) (c : goal.After-self-1 g)
    → Gives c.self.inside.kept.items c.copy_from_slice.new.self (drop c.min-count.result c.args.buf.now) c.self.inside.at c.min-count.result
next_given g c =
    let k = c.self.inside in
    let n = c.min-count.result in
    let d = c.deref.result.now in
    let bound : n ≤ length k.kept.items - k.at =
    omega (arith, c.min-count.ensures, length-take (length d - k.at) (drop k.at d), length-drop k.at d, c.deref.ensures.len) in
    gives k.kept.items c.copy_from_slice.new.self _ k.at n bound (c.copy_from_slice.ensures.after ∙ ap (λ l. take n (take (length l - k.at) (drop k.at l))) c.deref.ensures.value)

pub returns-clause-given : goal.returns-clause-given
returns-clause-given g c =
    (next_given g c).0 ∙ ap (λ (s : KeptState _). given_bytes s ++ take c.min-count.result (c.copy_from_slice.new.self ++ drop c.min-count.result c.args.buf.now)) c.self.view_is

pub returns-clause-ahead : goal.returns-clause-ahead
returns-clause-ahead g c = ap (λ (s : KeptState _). ahead_bytes s) (sym c.self.view_is) ∙ (next_given g c).1
