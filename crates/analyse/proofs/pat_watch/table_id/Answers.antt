use Rattle.std.proofs.Common.{◌≡◌, sym, length, arith}
use Rattle.std.proofs.lemmas.Bool.Decides.{nat_tests}
use Rattle.analyse.proofs.TableIdLaws.{no_table_id}
use Rattle.analyse.proofs.pat_watch.table_id.Goals as goal

pub returns-then-is_empty : goal.returns-then-is_empty
returns-then-is_empty c =
    let none : length c.args.bytes.now ≡ 0 = grind (arith, nat_tests, c.is_empty.ensures, c.if-is_empty.true) in
    sym (no_table_id c.args.bytes.now none)
