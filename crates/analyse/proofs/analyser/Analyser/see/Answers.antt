use Rattle.std.proofs.Common.{◌≡◌, ℕ, List, [], ◌∷◌, ◌++◌, length}
use Rattle.std.proofs.lemmas.Result.{on_ok_weaker}
use Rattle.analyse.specs.Faults.{faults_at}
use Rattle.analyse.specs.Analysed.{HasAccepted}
use Rattle.analyse.proofs.FaultsLaws.{whole_told}
use Rattle.analyse.proofs.analyser.Analyser.see.Goals as goal

pub returns-clause-whole : goal.returns-clause-whole
returns-clause-whole c =
    on_ok_weaker c.see_accepted-result.result
    (λ (told : (slots : List (List ℕ)) → HasAccepted c.args.self.now slots → c.see_accepted-result.new.out.items ≡ c.args.out.now.items ++ faults_at c.args.self.now.rate c.args.self.now.period (slots ++ c.args.slot.now ∷ []) (length slots)) slots before s o.
    whole_told c.args.self.now.rate c.args.self.now.period slots c.args.slot.now before c.args.out.now.items c.see_accepted-result.new.out.items o (told slots s))
    c.see_accepted-result.ensures.told
