-- For the code of the choice: the heads of all queues, their ranks, and of each eight the one that goes first. No public clause cites it.
use Rattle.std.specs.Prelude.{ℕ, List, ◌≡◌, ◌+◌, ◌*◌, ◌<◌, ◌≤◌, ◌⊎◌, length, slice_index, slice_index_or}
use Rattle.mux.specs.declared.head.Head.{Head}
use Rattle.mux.specs.declared.first_head.FirstHead.{FirstHead}
use Rattle.mux.specs.declared.head_list.TheConstants.{UNRANKED}

-- the first of two heads doesn't go behind the second: its time is less, or the same and its PID is not greater
abbrev pub IsNotBehind : Head → Head → Type 0
IsNotBehind a b = (a.time < b.time) ⊎ ((a.time ≡ b.time) × (a.pid ≤ b.pid))

abbrev pub head_at : List Head → ℕ → Head
head_at heads i = slice_index_or heads i (record { time = 0; pid = 0 })

abbrev pub with_time : ℕ → Head → Head
with_time time h = record h { time = time }

-- the rank of a head: its time and then its PID, as one number; the greatest number in its place where the head has none
abbrev pub IsRank : Head → ℕ → Type 0
IsRank h rank = ((h.time < UNRANKED) × (h.pid < 65536) × (rank ≡ h.time * 65536 + h.pid)) ⊎ ((UNRANKED ≤ h.time) × (rank ≡ 18446744073709551615))

-- the ranks of the heads, and then the greatest number
pub record KeepsRanks (heads : List Head) (ranks : List ℕ) : Type 0 where
  pub all : length heads ≤ length ranks
  pub of_head : (j : ℕ) → j < length heads → IsRank (head_at heads j) (slice_index ranks j)
  pub behind : (j : ℕ) → length heads ≤ j → j < length ranks → slice_index ranks j ≡ 18446744073709551615

-- this one has the least rank of a block of eight
pub record IsLeast (ranks : List ℕ) (block : ℕ) (f : FirstHead) : Type 0 where
  pub from : 8 * block ≤ f.place
  pub to : f.place < 8 * block + 8
  pub here : f.rank ≡ slice_index ranks f.place
  pub least : (j : ℕ) → 8 * block ≤ j → j < 8 * block + 8 → f.rank ≤ slice_index ranks j

abbrev pub first_at : List FirstHead → ℕ → FirstHead
first_at firsts block = slice_index_or firsts block (record { rank = 0; place = 0 })

-- those of all blocks
pub record KeepsFirsts (ranks : List ℕ) (firsts : List FirstHead) : Type 0 where
  pub covers : length ranks ≡ 8 * length firsts
  pub first : (block : ℕ) → block < length firsts → IsLeast ranks block (first_at firsts block)

-- the head at this place goes first of all
pub record IsFirst (heads : List Head) (i : ℕ) (h : Head) : Type 0 where
  pub within : i < length heads
  pub here : h ≡ head_at heads i
  pub first : (j : ℕ) → j < length heads → IsNotBehind h (head_at heads j)
