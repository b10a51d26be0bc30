-- What went through a relay: blocks of packets, and at most one end mark (profile).
use Rattle.std.specs.Prelude.{◌≡◌, ◌≤◌, ℕ, ◌+◌, List, [], ◌∷◌, ◌++◌, Bool, true, false, vec_capacity}
use Rattle.std.specs.declared.alloc.Global.{Global}
use Rattle.std.specs.declared.vec.Vec.{Vec}
use Rattle.relay.specs.declared.message.Message.{Message}
use Rattle.relay.specs.declared.message.Message.TheVariants.{Block, End}

-- the packets of each block among the messages, in order
abbrev pub blocks_of : List Message → List (List (List ℕ))
blocks_of [] = []
blocks_of (Block block ∷ rest) = block.items ∷ blocks_of rest
blocks_of (End ∷ rest) = blocks_of rest

-- how many end marks are among the messages
abbrev pub marks_of : List Message → ℕ
marks_of [] = 0
marks_of (Block block ∷ rest) = marks_of rest
marks_of (End ∷ rest) = 1 + marks_of rest

-- one mark or none
abbrev pub mark_count : Bool → ℕ
mark_count true = 1
mark_count false = 0

-- the end mark stands behind all blocks; or there is none
abbrev pub EndsMarked : Bool → List Message → Type 0
EndsMarked true all = (before : List Message) × (all ≡ before ++ End ∷ []) × (marks_of before ≡ 0)
EndsMarked false all = marks_of all ≡ 0

-- for how many packets a block has room, at least
abbrev pub block_room : ℕ
block_room = 256

-- a block has room for 256 packets
abbrev pub HasRoom : Message → Type 0
HasRoom (Block block) = block_room ≤ vec_capacity block
HasRoom End = Unit {0}

-- so has an empty one
abbrev pub IsEmptyBlock : Vec (List ℕ) Global → Type 0
IsEmptyBlock block = (block.items ≡ []) × (block_room ≤ vec_capacity block)
