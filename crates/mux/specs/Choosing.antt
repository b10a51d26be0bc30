-- For the code of the choice: heads that may go next, by the queues and buckets that are kept. No public clause cites it.
use Rattle.std.specs.Prelude.{ℕ, List, ◌≡◌, ◌≤◌, ◌<◌, ◌⊎◌, Option, Some, None}
use Rattle.std.specs.List.{slice_get}
use Rattle.tspkt.specs.declared.stamped.Stamped.{Stamped}
use Rattle.request.specs.declared.stream.Stream.{Stream}
use Rattle.mux.specs.declared.candidate.Candidate.{Candidate}
use Rattle.buffers.specs.QueueValue.{QueueValue}
use Rattle.buffers.specs.BucketValue.{BucketValue, HasRoom}
use Rattle.mux.specs.Lawful.{IsNotAfter}

-- the item is the head of the queue of stream k, is due, and that stream's bucket has room for it
pub record IsEligibleHead (streams : List Stream) (queues : List QueueValue) (buckets : List BucketValue) (now k : ℕ)
    (st : Stream) (item : Stamped) : Type 0 where
  pub stream : slice_get streams k ≡ Some st
  pub queue : QueueValue
  pub here : slice_get queues k ≡ Some queue
  pub head : slice_get queue.items 0 ≡ Some item
  pub due : item.stamp ≤ now
  pub bucket : BucketValue
  pub bucket_here : slice_get buckets k ≡ Some bucket
  pub room : HasRoom bucket

-- the candidate's head may go next, and goes before each other that may
pub record IsFirstHead (streams : List Stream) (queues : List QueueValue) (buckets : List BucketValue) (now : ℕ)
    (c : Candidate) : Type 0 where
  pub item : Stamped
  pub head : IsEligibleHead streams queues buckets now c.index c.stream item
  pub first : (j : ℕ) (su : Stream) (other : Stamped) → IsEligibleHead streams queues buckets now j su other
      → IsNotAfter c.stream item su other

abbrev pub Precedes : Candidate → Candidate → Type 0
Precedes a b = (a.stamp < b.stamp) ⊎ ((a.stamp ≡ b.stamp) × (a.stream.output_pid ≤ b.stream.output_pid))

-- the candidate goes before the best so far, if there is one
abbrev pub Leads : Option Candidate → Candidate → Type 0
Leads None next = 0 ≤ 0
Leads (Some b) next = Precedes next b

-- the best so far goes before the candidate
abbrev pub Follows : Option Candidate → Candidate → Type 0
Follows None next = ⊥
Follows (Some b) next = Precedes b next

-- the candidate is the head of this queue, of the stream of this index, has a time of at most the limit and room, and goes before the best
pub record IsBetterHead (best : Option Candidate) (index : ℕ) (stream : Stream) (queue : QueueValue) (buckets : List BucketValue)
    (limit : ℕ) (c : Candidate) : Type 0 where
  pub here : c ≡ record { index = index; stream = stream; stamp = c.stamp }
  pub leads : Leads best c
  pub item : Stamped
  pub head : slice_get queue.items 0 ≡ Some item
  pub stamp_is : item.stamp ≡ c.stamp
  pub due : c.stamp ≤ limit
  pub bucket : BucketValue
  pub bucket_here : slice_get buckets index ≡ Some bucket
  pub room : HasRoom bucket

-- there is none
abbrev pub IsNoBetterHead : Option Candidate → ℕ → Stream → QueueValue → List BucketValue → ℕ → Type 0
IsNoBetterHead best index stream queue buckets limit = (item : Stamped) (bucket : BucketValue) → slice_get queue.items 0 ≡ Some item
    → item.stamp ≤ limit → slice_get buckets index ≡ Some bucket → HasRoom bucket
    → Follows best (record { index = index; stream = stream; stamp = item.stamp })
