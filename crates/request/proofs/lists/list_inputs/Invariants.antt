use Rattle.std.proofs.Common.{◌≡◌, ◌++◌, drop, map, option_map}
use Rattle.toml.specs.View.{items_view}
use Rattle.request.specs.Parts.{input_parts_value}
use Rattle.request.specs.Text.{each_of, input_of}
use Rattle.request.proofs.lists.list_inputs.Given as goal

abbrev pub invariant-loop-item : goal.invariant-loop-item
invariant-loop-item l =
    option_map (λ rest. map input_parts_value l.inputs.items ++ rest) (each_of input_of (items_view (drop l.item-index l.items.items))) ≡ each_of input_of (items_view l.items.items)
