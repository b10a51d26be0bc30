-- The PID of a table packet is no stream's.
use Rattle.std.proofs.Common.{ℕ, ◌≡◌, ◌<◌, ◌≤◌, ◌%◌, List, length, get_or, All, sym, ◌∙◌, arith}
use Rattle.std.proofs.lemmas.List.Elements.{All-weaker, All-cons}
use Rattle.tspkt.specs.Packet.{pid_of, null_packet}
use Rattle.request.specs.declared.stream.Stream.{Stream}
use Rattle.rounds.specs.declared.table_place.TablePlace.{TablePlace}
use Rattle.rounds.specs.declared.table_place.TablePlace.TheVariants.{Fast, Slow}
use Rattle.rounds.specs.Rounds.{IsPlace}
use Rattle.output_tables.specs.OnPid.{SectionOnPid}
use Rattle.output_tables.specs.TableSet.{fast_packets, slow_packets}
use Rattle.plan.specs.Build.{PlanValue}
use Rattle.emission.specs.Emission.{of_pid, table_packet_at, counted_behind}
use Rattle.emission.proofs.SectionPacketLaws.{GoesOut}
use Rattle.emission.proofs.PlanFacts.{PlanFacts, packets_have, fast_sections}

-- the output PID of a stream of the plan
abbrev pid_at : PlanValue → ℕ → Stream → ℕ
pid_at p k s = (get_or p.request.streams k s).output_pid

fast_apart : (p : PlanValue) (k : ℕ) (s : Stream) → PlanFacts p → k < length p.request.streams → All (λ q. pid_of q ≡ pid_at p k s → ⊥) (fast_packets p.tables)
fast_apart p k s f l =
    let range = f.streams_range k s l in
    packets_have (λ n. n ≡ pid_at p k s → ⊥) (fast_sections p) f.fast_pids
    (All-cons (λ (x : SectionOnPid). x.pid ≡ pid_at p k s → ⊥) p.tables.pat p.tables.pmts (λ e. absurd (omega (arith, f.basics.pat_pid, range)))
    (λ i d m e. f.streams_apart k i s d l m (sym e)))

slow_apart : (p : PlanValue) (k : ℕ) (s : Stream) → PlanFacts p → k < length p.request.streams → All (λ q. pid_of q ≡ pid_at p k s → ⊥) (slow_packets p.tables)
slow_apart p k s f l =
    let range = f.streams_range k s l in
    All-weaker (λ q. (0x0010 ≤ pid_of q) × (pid_of q ≤ 0x0011)) (λ q. pid_of q ≡ pid_at p k s → ⊥) (λ q on e. absurd (omega (arith, on, range))) (slow_packets p.tables) f.slow_on

pub apart_at : (p : PlanValue) (out : List (List ℕ)) (xs : List (List ℕ)) (j n : ℕ) → All GoesOut xs → All (λ q. pid_of q ≡ n → ⊥) xs → j < length xs
    → pid_of (counted_behind out (get_or xs j null_packet)) ≡ n → ⊥
apart_at p out xs j n goes apart l e =
    let x = get_or xs j null_packet in
    let kept : pid_of (counted_behind out x) ≡ pid_of x = (goes j null_packet l).on_pid (length (of_pid (pid_of x) out) % 16) (omega arith) in
    apart j null_packet l (sym kept ∙ e)

-- no table packet goes out on the PID of a stream
pub on_no_stream : (p : PlanValue) (out : List (List ℕ)) (place : TablePlace) (k : ℕ) (s : Stream) → PlanFacts p → IsPlace p.rounds place → k < length p.request.streams
    → pid_of (counted_behind out (table_packet_at p.tables place)) ≡ (get_or p.request.streams k s).output_pid → ⊥
on_no_stream p out (Fast j) k s f is l e = apart_at p out (fast_packets p.tables) j (pid_at p k s) f.fast (fast_apart p k s f l) (omega (arith, f.basics.fast_len)) e
on_no_stream p out (Slow j) k s f is l e = apart_at p out (slow_packets p.tables) j (pid_at p k s) f.slow (slow_apart p k s f l) (omega (arith, f.basics.slow_len)) e
