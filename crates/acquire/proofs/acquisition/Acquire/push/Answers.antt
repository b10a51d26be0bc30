use Rattle.std.proofs.Common.{◌++◌, ◌∷◌, [], ◌∙◌}
use Rattle.acquire.proofs.SeenLaws.{all_is_found}
use Rattle.acquire.proofs.acquisition.Acquire.push.Goals as goal

pub returns-in-Ok-clause-all_found : goal.returns-in-Ok-clause-all_found
returns-in-Ok-clause-all_found c programs packets seen =
    c.is_all_found.ensures
    ∙ all_is_found programs c.read.new.self (packets ++ c.args.packet.now ∷ []) (c.in-Ok.ensures.seen programs packets seen)
