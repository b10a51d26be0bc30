use Rattle.std.proofs.Common.{map}
use Rattle.request.proofs.TextLaws.{closed}
use Rattle.request.proofs.keys.is_closed.Goals as goal

pub returns : goal.returns
returns c = closed (map (λ name. name.now) c.args.names.now) c.args.table.now.entries c.knows_all.result c.knows_all.ensures
