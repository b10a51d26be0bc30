use Rattle.analyse.proofs.TablesLaws.{tables_first}
use Rattle.analyse.proofs.table_watches.TableWatches.new.Goals as goal

pub returns-clause-seen : goal.returns-clause-seen
returns-clause-seen c =
    tables_first c.in_ok-new.field-0 c.in_ok-new-2.field-0 c.in_ok-new-3.field-0 c.in_ok-new.ensures c.in_ok-new-2.ensures.watched c.in_ok-new-3.ensures.watched c.in_ok-new-2.ensures.seen c.in_ok-new-3.ensures.seen
