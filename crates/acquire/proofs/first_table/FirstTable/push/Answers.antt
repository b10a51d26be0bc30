use Rattle.std.proofs.Common.{◌≡◌, ◌∷◌, [], is_some, option_map, true, false, sym, ap, ◌∙◌}
use Rattle.tables.specs.InForce.{SectionValue, complete_table}
use Rattle.tables.specs.Kept.{tables_of}
use Rattle.acquire.specs.Taken.{FirstTableState, newest_first}
use Rattle.acquire.proofs.TakenLaws.{taken_stays, taken_complete, taken_waits, taken_run, some_mapped}
use Rattle.acquire.proofs.first_table.FirstTable.push.Goals as goal
use Rattle.acquire.proofs.first_table.FirstTable.push.Goals.{in-Some-1, in-None-1}

pub returns-then-is_some : goal.returns-then-is_some
returns-then-is_some g c sections taken =
    let there : is_some c.args.self.now.found ≡ true = ap (λ (f : FirstTableState _). is_some f.found) (sym c.self.view_is) ∙ some_mapped (λ v. v.items) c.self.inside.found ∙ sym c.if-is_some.ensures in
    taken_stays c.args.self.now sections _ there taken

pub returns-in_ok-self-inside : goal.returns-in_ok-self-inside
returns-in_ok-self-inside g c sections taken =
    let missing : is_some c.args.self.now.found ≡ false = ap (λ (f : FirstTableState _). is_some f.found) (sym c.self.view_is) ∙ some_mapped (λ v. v.items) c.self.inside.found ∙ sym c.if-is_some.ensures in
    let s : SectionValue _ = record { header = c.args.header; table = c.args.table } in
    let stands = c.in_ok-push.ensures.stands (newest_first [] sections) (ap (λ (f : FirstTableState _). f.run) c.self.view_is ∙ taken_run c.args.self.now sections taken missing) in
    let own : c.match-self-branch.self.found ≡ option_map (λ v. v.items) c.in_ok-self-inside.field-0 =
    elim c.match-self-branch.branch [ in-Some-1 w ↦ ap (λ (f : FirstTableState _). f.found) w.self-is | in-None-1 w ↦ ap (λ (f : FirstTableState _). f.found) w.self-is ] in
    let found : c.match-self-branch.self.found ≡ option_map tables_of (complete_table (s ∷ newest_first [] sections)) =
    own ∙ c.in_ok-self-inside.ensures.complete (s ∷ newest_first [] sections) (c.replace-run.ensures.value ∙ stands) in
    taken_complete c.args.self.now c.match-self-branch.self sections s taken missing found (sym (c.if-is_complete.ensures.complete (s ∷ newest_first [] sections) stands))

pub returns-else-is_complete : goal.returns-else-is_complete
returns-else-is_complete g c sections taken =
    let missing : is_some c.args.self.now.found ≡ false = ap (λ (f : FirstTableState _). is_some f.found) (sym c.self.view_is) ∙ some_mapped (λ v. v.items) c.self.inside.found ∙ sym c.if-is_some.ensures in
    let s : SectionValue _ = record { header = c.args.header; table = c.args.table } in
    let stands = c.in_ok-push.ensures.stands (newest_first [] sections) (ap (λ (f : FirstTableState _). f.run) c.self.view_is ∙ taken_run c.args.self.now sections taken missing) in
    let after : FirstTableState _ = record { run = c.push.new.self; found = option_map (λ v. v.items) c.self.inside.found } in
    taken_waits c.args.self.now after sections s taken missing (ap (λ (f : FirstTableState _). f.found) c.self.view_is) (sym (c.if-is_complete.ensures.complete (s ∷ newest_first [] sections) stands)) stands
