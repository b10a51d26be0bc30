-- What a multiplex sends, by its plan alone: a list of packets, one a slot, oldest first (profile). The continuity counter
-- of each PID steps by one, modulo 16: ISO/IEC 13818-1, 2.4.3.3.
use Rattle.std.specs.Prelude.{◌≡◌, ◌==◌, ◌⊎◌, ℕ, ◌%◌, List, length, take, filter, Option, Some, None, Any}
use Rattle.std.specs.List.{slice_get, slice_index_or}
use Rattle.tspkt.specs.Packet.{pid_of, null_packet, IsPacket}
use Rattle.tspkt.specs.Counted.{with_counter}
use Rattle.request.specs.declared.stream.Stream.{Stream}
use Rattle.rounds.specs.declared.table_place.TablePlace.{TablePlace}
use Rattle.rounds.specs.declared.table_place.TablePlace.TheVariants.{Fast, Slow}
use Rattle.rounds.specs.Rounds.{table_at}
use Rattle.output_tables.specs.TableSet.{TableSetValue, fast_packets, slow_packets}
use Rattle.plan.specs.Build.{PlanValue}

-- the packets on a PID
abbrev pub of_pid : ℕ → List (List ℕ) → List (List ℕ)
of_pid pid packets = filter (λ q. pid_of q == pid) packets

-- the table packet at a place of the two lists, its counter still 0
abbrev pub table_packet_at : TableSetValue → TablePlace → List ℕ
table_packet_at t (Fast k) = slice_index_or (fast_packets t) k null_packet
table_packet_at t (Slow k) = slice_index_or (slow_packets t) k null_packet

-- the packet as it goes out behind these: its counter says how many of its PID went out before
abbrev pub counted_behind : List (List ℕ) → List ℕ → List ℕ
counted_behind out packet = with_counter packet (length (of_pid (pid_of packet) out) % 16)

-- the null packet, or a packet on the output PID of a stream
abbrev pub IsNullOrMapped : List Stream → List ℕ → Type 0
IsNullOrMapped streams q = (q ≡ null_packet) ⊎ Any (λ (st : Stream). pid_of q ≡ st.output_pid) streams

-- the packet of a slot behind these: the table packet whose turn it is, else null or one of a stream
abbrev pub IsPacketOf : PlanValue → List (List ℕ) → Option TablePlace → List ℕ → Type 0
IsPacketOf p out (Some place) q = q ≡ counted_behind out (table_packet_at p.tables place)
IsPacketOf p out None q = IsPacket q × IsNullOrMapped p.request.streams q

-- it may go out next
abbrev pub MayGoOut : PlanValue → List (List ℕ) → List ℕ → Type 0
MayGoOut p out q = IsPacketOf p out (table_at p.rounds (length out)) q

-- each packet could go out when it did
abbrev pub IsEmission : PlanValue → List (List ℕ) → Type 0
IsEmission p out = (m : ℕ) (q : List ℕ) → slice_get out m ≡ Some q → MayGoOut p (take m out) q
