use Rattle.std.proofs.Common.{◌≡◌, ℕ, List, [], ◌∷◌, ◌++◌, length, sym, subst}
use Rattle.std.proofs.lemmas.Result.{on_ok_weaker}
use Rattle.analyse.specs.Faults.{faults_at}
use Rattle.analyse.specs.Analysed.{IsWatching}
use Rattle.analyse.specs.StreamWatching.{HaveSeenStream}
use Rattle.analyse.proofs.analyser.see_slot.Goals as goal

pub returns-in-Some-clause-seen : goal.returns-in-Some-clause-seen
returns-in-Some-clause-seen c =
    on_ok_weaker c.see.result
    (λ (seen : (rate period : ℕ) (slots : List (List ℕ)) → HaveSeenStream rate period c.in-Some.watch slots → HaveSeenStream rate period c.see.new.self (slots ++ c.args.slot.now ∷ [])) slots s.
    seen c.args.rate c.args.period slots (rw c.in-Some.is at s))
    c.see.ensures.seen

pub returns-in-None-clause-seen : goal.returns-in-None-clause-seen
returns-in-None-clause-seen c =
    on_ok_weaker c.see_first.result
    (λ (seen : IsWatching c.args.rate c.args.period c.see_first.new.watch (c.args.slot.now ∷ [])) slots s.
    let none : slots ≡ [] = rw c.in-None.is at s in
    subst (λ (l : List (List ℕ)). IsWatching c.args.rate c.args.period c.see_first.new.watch (l ++ c.args.slot.now ∷ [])) (sym none) seen)
    c.see_first.ensures.seen

pub returns-in-None-clause-told : goal.returns-in-None-clause-told
returns-in-None-clause-told c =
    on_ok_weaker c.see_first.result
    (λ (told : c.see_first.new.out.items ≡ c.args.out.now.items ++ faults_at c.args.rate c.args.period (c.args.slot.now ∷ []) 0) slots s.
    let none : slots ≡ [] = rw c.in-None.is at s in
    subst (λ (l : List (List ℕ)). c.see_first.new.out.items ≡ c.args.out.now.items ++ faults_at c.args.rate c.args.period (l ++ c.args.slot.now ∷ []) (length l)) (sym none) told)
    c.see_first.ensures.told
