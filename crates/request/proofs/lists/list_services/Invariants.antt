use Rattle.std.proofs.Common.{◌≡◌, ◌++◌, drop, map, option_map}
use Rattle.toml.specs.View.{items_view}
use Rattle.request.specs.Parts.{service_parts_value}
use Rattle.request.specs.Text.{each_of, service_of}
use Rattle.request.proofs.lists.list_services.Given as goal

abbrev pub invariant-loop-item : goal.invariant-loop-item
invariant-loop-item l =
    option_map (λ rest. map service_parts_value l.services.items ++ rest) (each_of service_of (items_view (drop l.item-index l.items.items))) ≡ each_of service_of (items_view l.items.items)
