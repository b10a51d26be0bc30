use Rattle.std.proofs.Common.{rules, map, sym}
use Rattle.selection.specs.ChosenView.{chosen_value}
use Rattle.plan_causes.proofs.PeriodLaws.{round_told, period_told, none_told}
use Rattle.plan_causes.proofs.table_causes.period_cause.Goals as goal

pub returns-then-period-shortest-clause-fault : goal.returns-then-period-shortest-clause-fault
returns-then-period-shortest-clause-fault c = sym (round_told c.args.request.now (map chosen_value c.args.chosen.now) (search rules))

pub returns-then-longest-period-clause-fault : goal.returns-then-longest-period-clause-fault
returns-then-longest-period-clause-fault c =
    sym (period_told c.args.request.now (map chosen_value c.args.chosen.now) (search rules) (search rules) (search rules))

pub returns-clause-fault : goal.returns-clause-fault
returns-clause-fault c =
    sym (none_told c.args.request.now (map chosen_value c.args.chosen.now) (search rules) (search rules) (search rules))
