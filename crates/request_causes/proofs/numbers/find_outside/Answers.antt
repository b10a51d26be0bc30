use Rattle.std.proofs.Common.{rules, ◌≡◌, None, sym}
use Rattle.std.specs.Prelude.{Contains}
use Rattle.std.proofs.lemmas.List.Elements.{All-contains_itself}
use Rattle.request_causes.specs.RangeCauses.{is_outside}
use Rattle.request_causes.proofs.FindLaws.{found_holds, found_passes, none_of, one_of}
use Rattle.request_causes.proofs.numbers.find_outside.Goals as goal

pub returns-in_err-number-clause-some : goal.returns-in_err-number-clause-some
returns-in_err-number-clause-some c =
    let none : c.from_residual.result ≡ None = search rules in
    rw none (sym (none_of is_outside c.args.numbers.now (search rules)))

pub returns-clause-outside : goal.returns-clause-outside
returns-clause-outside c =
    let number = c.in_ok-number.number.now in
    let numbers = c.args.numbers.now in
    (found_holds (Contains numbers) is_outside numbers number (All-contains_itself numbers) (search rules), found_passes is_outside numbers number (search rules))

pub returns-clause-some : goal.returns-clause-some
returns-clause-some c = sym (one_of is_outside c.args.numbers.now c.in_ok-number.number.now (search rules))
