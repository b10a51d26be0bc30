use Rattle.std.proofs.Common.{arith, ◌≡◌, ◌+◌, ◌-◌, ◌≤◌, ◌++◌, ℕ, List, length, take, drop, sym, ap, ◌∙◌, length-drop}
use Rattle.std.proofs.Math.Seq.{drop-append-add}
use Rattle.std.proofs.lemmas.List.{take_all}
use Rattle.tspkt.proofs.window.Window.copy_packet.Goals as goal

-- what stands behind the bytes that were kept stands in the piece
behind : (kept piece bytes : List ℕ) (at : ℕ) → kept ++ piece ≡ bytes → length kept ≤ at → drop at bytes ≡ take (length piece - (at - length kept)) (drop (at - length kept) piece)
behind kept piece bytes at is past =
    let sum : at ≡ length kept + (at - length kept) = omega arith in
    let rest = drop (at - length kept) piece in
    let all : take (length piece - (at - length kept)) rest ≡ rest = take_all (length piece - (at - length kept)) rest (omega (arith, length-drop (at - length kept) piece)) in
    ap (drop at) (sym is) ∙ ap (λ n. drop n (kept ++ piece)) sum ∙ drop-append-add kept piece (at - length kept) ∙ sym all

pub returns-in-Some : goal.returns-in-Some
returns-in-Some c =
    c.in-Some.ensures.cases.same ∙ ap (take 188) (sym (behind c.self.inside.kept.now c.self.inside.piece.now c.args.self.now c.args.at c.self.view_is (omega (arith, c.if-at-count.true))))
