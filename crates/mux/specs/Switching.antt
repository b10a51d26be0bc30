-- For the code: what a switch does to queues and inputs. No public clause cites it.
use Rattle.std.specs.Prelude.{ℕ, List, [], ◌∷◌, ◌+◌, ◌==◌, false, if◌then◌else◌, length, slice_index_or, slice_set}
use Rattle.request.specs.declared.stream.Stream.{Stream}
use Rattle.buffers.specs.QueueValue.{QueueValue}
use Rattle.plan.specs.Build.{PlanValue}
use Rattle.mux.specs.declared.input_state.InputState.{InputState}
use Rattle.mux.specs.History.{has_stream}
use Rattle.mux.specs.Totals.{told}

-- the queues behind a switch to this plan, one a stream: empty where the plan doesn't have it
abbrev pub after_switch : PlanValue → List Stream → List QueueValue → List QueueValue
after_switch p [] queues = queues
after_switch p (st ∷ streams) [] = []
after_switch p (st ∷ streams) (q ∷ queues) =
    (if has_stream p st then q else record { items = []; capacity = q.capacity }) ∷ after_switch p streams queues

-- so many more packets of an input are dropped
abbrev pub add_dropped : ℕ → ℕ → List InputState → List InputState
add_dropped i count states =
    let x = slice_index_or states i (record { closed = false; last_stamp = 0; full_noted = false; early_noted = false; sent = 0; dropped = 0 }) in
    slice_set states i (record x { dropped = told (x.dropped + count) })

-- the inputs behind it: what waited of streams that the plan doesn't have was dropped
abbrev pub with_dropped : PlanValue → List Stream → List QueueValue → List InputState → List InputState
with_dropped p [] queues states = states
with_dropped p (st ∷ streams) [] states = states
with_dropped p (st ∷ streams) (q ∷ queues) states =
    with_dropped p streams queues (if has_stream p st then states else add_dropped st.input (length q.items) states)

-- how many packets of an input wait in these queues, one a stream
abbrev pub waiting_in : ℕ → List Stream → List QueueValue → ℕ
waiting_in i [] queues = 0
waiting_in i (st ∷ streams) [] = 0
waiting_in i (st ∷ streams) (q ∷ queues) = (if st.input == i then length q.items else 0) + waiting_in i streams queues
