use Rattle.std.proofs.Common.{arith, ◌<◌, List, [], ◌∷◌, length, drop, sym, ap, subst, ◌∙◌}
use Rattle.std.specs.List.{AllByRecursion}
use Rattle.std.proofs.lemmas.List.{drop-drop, length-drop}
use Rattle.tspkt.specs.declared.item.Item.{Item}
use Rattle.reading.specs.Items.{ItemsValue, IsPlaced}
use Rattle.reading.proofs.item_reader.ItemReader.pass.Goals as goal

all_behind : (items : List Item) → AllByRecursion IsPlaced items → AllByRecursion IsPlaced (drop 1 items)
all_behind [] all = tt
all_behind (x ∷ items) all = all.1

pub invariant_of-self : goal.invariant_of-self
invariant_of-self c =
    let r = c.self.inside in
    let items = r.items.told in
    let some : 0 < length (drop r.taken items) = subst (λ (v : ItemsValue). 0 < length v.ahead) (sym c.self.view_is) c.requires in
    let size = length-drop r.taken items in (
      omega (arith, some, size, c.self.invariant.0),
      record {
        within = c.self.invariant.1.within;
        kind = c.self.invariant.1.kind;
        placed = subst (AllByRecursion IsPlaced) (drop-drop 1 r.taken items) (all_behind (drop r.taken items) c.self.invariant.1.placed);
      },
    )

pub returns : goal.returns
returns c =
    let r = c.self.inside in
    ap (λ v. record { limit = r.limit; framer = r.framer; ahead = v }) (sym (drop-drop 1 r.taken r.items.told))
    ∙ ap (λ (v : ItemsValue). record { limit = v.limit; framer = v.framer; ahead = drop 1 v.ahead }) c.self.view_is
