use Rattle.std.proofs.Common.{◌≡◌, List, [], ◌∷◌, Option, None, map, refl, sym, subst}
use Rattle.std.specs.List.{All}
use Rattle.std.proofs.lemmas.List.Elements.{All-nil, All-cons}
use Rattle.tables.specs.Pmt.{PmtValue}
use Rattle.acquire.proofs.program_finder.ProgramFinder.forget.Goals as goal

-- none of these is there
all_none : (xs : List (Option PmtValue)) → All (λ (pmt : Option PmtValue). pmt ≡ None) (map (λ (pmt : Option PmtValue). None) xs)
all_none [] = All-nil (λ (pmt : Option PmtValue). pmt ≡ None)
all_none (x ∷ xs) = All-cons (λ (pmt : Option PmtValue). pmt ≡ None) None (map (λ (pmt : Option PmtValue). None) xs) refl (all_none xs)

pub returns-clause-pmts : goal.returns-clause-pmts
returns-clause-pmts c =
    subst (All (λ (pmt : Option PmtValue). pmt ≡ None)) (sym c.forget_pmts.ensures) (all_none c.args.self.now.found.items)
