use Rattle.std.proofs.Common.{arith, ◌≡◌, None, List, [], ◌++◌, sym, ap, subst, ◌∙◌}
use Rattle.tspkt.specs.declared.item.Item.{Item}
use Rattle.tspkt.specs.ItemLists.{ListState}
use Rattle.tspkt.specs.Framed.{still_to_tell}
use Rattle.reading.specs.Items.{IsFramerWithin, AreItems}
use Rattle.reading.proofs.ItemLaws.{finished_items, empty_items, if_some_at}
use Rattle.reading.proofs.item_reader.ItemReader.finish.Goals.{in-Ok, in-Err}
use Rattle.reading.proofs.item_reader.ItemReader.finish.Goals as goal

pub invariant_of-self-2 : goal.invariant_of-self-2
invariant_of-self-2 c =
    let f = c.in-Some.framer in
    let items = c.finish_refill.new.out.told in
    let kind = if_some_at (IsFramerWithin c.self.inside.limit) c.self.inside.framer f (sym c.take.ensures.value ∙ c.in-Some.is) c.self.invariant.1.kind in
    let emptied = ap (λ (s : ListState). s.told) c.clear.ensures in
    let none : AreItems c.self.inside.limit None items = elim c.match-finish_refill.branch [
      | in-Ok w ↦ finished_items c.self.inside.limit f items c.self.invariant.1.within kind (w.in-Ok.ensures.ok ∙ ap (λ (v : List Item). v ++ still_to_tell f []) emptied)
      | in-Err w ↦ empty_items c.self.inside.limit items c.self.invariant.1.within (w.in-Err.ensures.err.1 ∙ emptied)
    ] in
    (omega arith, subst (λ v. AreItems c.self.inside.limit v items) (sym c.take.ensures.after) none)
