use Rattle.std.proofs.Common.{◌++◌, sym, subst, ◌∙◌, filter_map}
use Rattle.tables.specs.OnPid.{sections_in}
use Rattle.acquire.specs.Taken.{HasTaken}
use Rattle.acquire.proofs.ReadingLaws.{sought_stays, sought_more}
use Rattle.acquire.proofs.table_finder.TableFinder.push.Goals as goal

pub returns-then-is_found : goal.returns-then-is_found
returns-then-is_found g c pid packets sought =
    sought_stays pid g.T.SoughtTable.section_of c.args.self.now.reader c.args.self.now.table packets c.args.packet.now (sym c.if-is_found.ensures) sought

pub returns : goal.returns
returns g c pid packets sought =
    sought_more pid g.T.SoughtTable.section_of c.args.self.now.reader c.push.new.self c.args.self.now.table c.take_told.new.table packets c.args.packet.now (sym c.if-is_found.ensures) sought c.in_ok-push.ensures.state
    (λ sections h. subst (λ l. HasTaken c.take_told.new.table (sections ++ filter_map g.T.SoughtTable.section_of (sections_in l))) (c.deref.ensures.value ∙ c.in_ok-push.ensures.told) (c.in_ok-take_told.ensures sections h))
