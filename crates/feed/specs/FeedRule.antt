-- The rule of a feed, and what its steps tell (profile).
use Rattle.std.specs.Prelude.{◌≡◌, ℕ, List}
use mathlib.Core.Option.{some}
use lib.ListN.{get_elem?}
use Rattle.emission.specs.Spans.{IsEmissionOf}
use Rattle.feed.specs.declared.knowledge.Knowledge.{Knowledge}
use Rattle.feed.specs.Knowing.{Knows, informed}
use Rattle.feed.specs.Versions.{Version}

-- the mark is that of the packets, which are an emission of the schedule; and each end knows nothing, or the schedule and the feed
pub record Keeps (v : Version) (ends : List Knowledge) : Type 0 where
  pub marked : v.packets.items ≡ v.mark.packets
  pub lawful : IsEmissionOf v.schedule.value v.packets.items
  pub each : (i : ℕ) (k : Knowledge) → get_elem? ends i ≡ some k → Knows v k

-- a reader sees a version that is marked and lawful, of what it knows
pub record Sees (knew : Knowledge) (v : Version) (knows : Knowledge) : Type 0 where
  pub same : knows ≡ knew
  pub marked : v.packets.items ≡ v.mark.packets
  pub lawful : IsEmissionOf v.schedule.value v.packets.items
  pub known : Knows v knew

-- the writer knows the schedule and the feed of what it published
abbrev pub Publishes : Version → Knowledge → Type 0
Publishes v knows = knows ≡ informed v.schedule.value v.mark.feed
