use Rattle.std.proofs.Common.{arith, ◌≡◌, ◌+◌, ◌<◌, ◌≤◌, length, sym, ap, ◌∙◌, ⊎_elim, true, false}
use Rattle.std.specs.Prelude.{Ok, Err, is_ok}
use Rattle.std.proofs.lemmas.Bool.{cases_lt}
use Rattle.tspkt.specs.Framed.{seen}
use Rattle.reading.specs.Items.{IsFramerWithin}
use Rattle.reading.proofs.ItemLaws.{fed_items, if_some_at}
use Rattle.reading.proofs.item_reader.ItemReader.feed.Goals as goal

not_both : {A E : Type 0} (a : A) (e : E) (X : Type 0) → Ok a ≡ Err e → X
not_both a e X h = let bad : true ≡ false = ap is_ok h in cc

pub invariant_of-self-2 : goal.invariant_of-self-2
invariant_of-self-2 c =
    let f = c.in-Some.framer in
    let kind = if_some_at (IsFramerWithin c.self.inside.limit) c.self.inside.framer f (sym c.take.ensures.value ∙ c.in-Some.is) c.self.invariant.1.kind in
    let room : seen f + length c.args.piece.now ≤ f.limit =
    ⊎_elim
    (λ (l : f.limit < seen f + length c.args.piece.now). not_both _ _ _ (c.in_ok-refill.ensures.too_much.1 l))
    (λ (l : seen f + length c.args.piece.now ≤ f.limit). l)
    (cases_lt f.limit (seen f + length c.args.piece.now)) in
    (omega arith, fed_items c.self.inside.limit f c.args.piece.now c.refill.new.self c.refill.new.out.told c.self.invariant.1.within kind c.in_ok-refill.ensures.ok (omega (arith, room, kind.limit_is)))
