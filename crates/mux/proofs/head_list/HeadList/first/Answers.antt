use Rattle.std.proofs.Common.{ℕ, ◌≡◌, List, subst, ap, sym, ◌∙◌, arith, inl, inr}
use Rattle.std.proofs.lemmas.List.{get_or_default}
use Rattle.mux.specs.declared.head.Head.{Head}
use Rattle.mux.specs.declared.first_head.FirstHead.{FirstHead}
use Rattle.mux.specs.HeadList.{KeepsRanks, IsFirst, head_at, first_at}
use Rattle.mux.proofs.HeadListLaws.{LeadsFirsts, first_of_all, all_unranked}
use Rattle.mux.proofs.head_list.HeadList.first.Goals as goal

pub returns-then-rank-clause-none : goal.returns-then-rank-clause-none
returns-then-rank-clause-none c =
    let P : List Head → Type 0 = λ hs. KeepsRanks hs c.self.inside.ranks.items in
    let Q : ℕ → Type 0 = λ rank. LeadsFirsts c.self.inside.firsts.items c.loop-block.block rank in
    all_unranked (subst P c.self.view_is c.self.invariant.0) c.self.invariant.1 c.loop-block.block (omega arith) (subst Q c.if-rank.true c.loop-block.invariant.0)

pub returns-clause-some : goal.returns-clause-some
returns-clause-some c =
    let le = c.loop-block.invariant.1 in
    let firsts = c.self.inside.firsts.items in
    let heads = c.self.inside.heads.items in
    let none : Head = record { time = 0; pid = 0 } in
    let nothing : FirstHead = record { rank = 0; place = 0 } in
    elim c.loop-block.invariant.2 [
      | inl e ↦ absurd (c.if-rank.false e)
      | inr m ↦
          let first : c.index-2.result.now ≡ first_at firsts c.loop-block.least = c.index-2.ensures ∙ get_or_default firsts c.loop-block.least c.index-2.result.now nothing m.0 in
          let place = ap (λ (f : FirstHead). f.place) first in
          let goes = first_of_all c.self.invariant.0 c.self.invariant.1 c.loop-block.block c.loop-block.least c.loop-block.rank (omega arith) c.loop-block.invariant.0 m.0 m.1 (omega arith) in
          let P : ℕ → Type 0 = λ i. IsFirst heads i (head_at heads i) in
          let goes_there = subst P (sym place) goes in
          let there = goes_there.within in
          let here = c.index-3.ensures ∙ get_or_default heads c.index-2.result.now.place c.index-3.result.now none there in
          let R : Head → Type 0 = λ h. IsFirst heads c.index-2.result.now.place h in
          let S : List Head → Type 0 = λ hs. IsFirst hs c.index-2.result.now.place c.index-3.result.now in
          subst S c.self.view_is (subst R (sym here) goes_there)
    ]
