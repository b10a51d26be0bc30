use Rattle.std.proofs.Common.{◌≡◌, ◌++◌, drop, option_map}
use Rattle.toml.specs.View.{items_view}
use Rattle.request.specs.Text.{each_of, stream_of}
use Rattle.request.proofs.lists.list_streams.Given as goal

abbrev pub invariant-loop-item : goal.invariant-loop-item
invariant-loop-item l =
    option_map (λ rest. l.streams.items ++ rest) (each_of stream_of (items_view (drop l.item-index l.items.items))) ≡ each_of stream_of (items_view l.items.items)
