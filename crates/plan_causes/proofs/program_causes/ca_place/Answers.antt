use Rattle.std.proofs.Common.{rules, true, false, sym}
use Rattle.selection.specs.ChosenView.{chosen_value}
use Rattle.plan_causes.proofs.CaLaws.{by_program, by_row, by_mode, row_is_there}
use Rattle.plan_causes.proofs.program_causes.ca_place.Goals as goal

pub returns-then-has_ca_descriptor-clause-some : goal.returns-then-has_ca_descriptor-clause-some
returns-then-has_ca_descriptor-clause-some c = sym (by_program (chosen_value c.args.chosen.now) (search rules))

pub returns-in-Some-clause-place : goal.returns-in-Some-clause-place
returns-in-Some-clause-place c = row_is_there (chosen_value c.args.chosen.now) c.in-Some.row.now (search rules)

pub returns-in-Some-clause-some : goal.returns-in-Some-clause-some
returns-in-Some-clause-some c = sym (by_row (chosen_value c.args.chosen.now) c.in-Some.row.now (search rules) (search rules))

pub returns-in-None-clause-some : goal.returns-in-None-clause-some
returns-in-None-clause-some c = sym (by_mode (chosen_value c.args.chosen.now) true (search rules) (search rules) (search rules))

pub returns-in-None-2-clause-some : goal.returns-in-None-2-clause-some
returns-in-None-2-clause-some c = sym (by_mode (chosen_value c.args.chosen.now) false (search rules) (search rules) (search rules))
