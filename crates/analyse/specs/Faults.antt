-- The first-priority faults of ETSI TR 101 290, 5.2.1, by their numbers and names there. When each is told, the limits in
-- slots and the order are profile.
use Rattle.std.specs.Prelude.{ℕ, ◌+◌, ◌-◌, ◌/◌, ◌==◌, Bool, true, ◌&&◌, ◌||◌, not, if◌then◌else◌, List, [], ◌∷◌, ◌++◌, length, take, drop, Option, Some, None, filter}
use Rattle.std.specs.List.{flat_map, range_with_len}
use Rattle.rounds.specs.Rounds.{fast_limit_of}
use Rattle.tspkt.specs.Bits.{field}
use Rattle.tspkt.specs.Packet.{pid_of, transport_scrambling_control_of}
use Rattle.tspkt.specs.Counters.{lawful_of}
use Rattle.tables.specs.InForce.{SectionValue}
use Rattle.tables.specs.Pat.{PatValue}
use Rattle.tables.specs.Pmt.{PmtValue}
use Rattle.tables.specs.OnPid.{sections_on, pat_sections, pmts_on}
use Rattle.tspkt.specs.declared.packet.TheConstants.{PID_COUNT}
use Rattle.analyse.specs.Slots.{slot_at, is_packet, packets_in, packets_of_pid, is_sync_lost_at, is_sync_byte_bad_at}
use Rattle.analyse.specs.Gaps.{is_gap_at}
use Rattle.analyse.specs.InForce.{is_pmt_pid_behind, is_referred_behind}
use Rattle.analyse.specs.declared.fault_kind.FaultKind.{FaultKind}
use Rattle.analyse.specs.declared.fault_kind.FaultKind.TheVariants.{TsSyncLoss, SyncByteError, PatError2, ContinuityCountError, PmtError2, PidError}
use Rattle.analyse.specs.declared.fault.Fault.{Fault}

-- slot m is a packet of the PID, and it is scrambled
abbrev pub is_scrambled_at : List (List ℕ) → ℕ → ℕ → Bool
is_scrambled_at slots pid m =
    is_packet (slot_at slots m) && (pid_of (slot_at slots m) == pid && not (transport_scrambling_control_of (slot_at slots m) == 0))

-- slot m is a packet of the PID
abbrev pub is_of_pid_at : List (List ℕ) → ℕ → ℕ → Bool
is_of_pid_at slots pid m = is_packet (slot_at slots m) && pid_of (slot_at slots m) == pid

-- the sections that the last of the first k slots completed, of those that slots complete together
abbrev pub completed_by : {X : Type 0} → (List (List ℕ) → List X) → List (List ℕ) → ℕ → List X
completed_by sections_of slots k = drop (length (sections_of (take (k - 1) slots))) (sections_of (take k slots))

-- a section was completed by it
abbrev pub completes : {X : Type 0} → (List (List ℕ) → List X) → List (List ℕ) → ℕ → Bool
completes sections_of slots k = not (length (completed_by sections_of slots k) == 0)

-- ---- PAT_error_2 (1.3.a)

abbrev pub pats_of : List (List ℕ) → List (SectionValue PatValue)
pats_of slots = pat_sections (packets_in slots)

abbrev pub is_pat_mark : List (List ℕ) → ℕ → Bool
is_pat_mark slots k = k == 0 || completes pats_of slots k

-- the sections with another table_id on the PAT's PID
abbrev pub others_of : List (List ℕ) → List (List ℕ)
others_of slots = filter (λ b. not (field b 0 8 == 0)) (sections_on 0x0000 (packets_in slots))

unfoldable pub is_pat_bad_at : ℕ → List (List ℕ) → ℕ → Bool
is_pat_bad_at limit slots m =
    (is_gap_at limit (λ k. true) (is_pat_mark slots) m || completes others_of slots (m + 1)) || is_scrambled_at slots 0x0000 m

-- ---- Continuity_count_error (1.4)

abbrev pub last_is_lawful : List Bool → Bool
last_is_lawful [] = true
last_is_lawful (x ∷ []) = x
last_is_lawful (x ∷ y ∷ rest) = last_is_lawful (y ∷ rest)

-- slot m is a packet, not a null packet, and not lawful among the packets of its PID
unfoldable pub is_counter_bad_at : List (List ℕ) → ℕ → Bool
is_counter_bad_at slots m =
    let packet = slot_at slots m in
    is_packet packet && (not (pid_of packet == 0x1FFF) && not (last_is_lawful (lawful_of (packets_of_pid (pid_of packet) (take (m + 1) slots)))))

-- ---- PMT_error_2 (1.5.a)

abbrev pub pmts_of : ℕ → List (List ℕ) → List PmtValue
pmts_of pid slots = pmts_on pid (packets_in slots)

abbrev pub is_pmt_watched : List (List ℕ) → ℕ → ℕ → Bool
is_pmt_watched slots pid k = is_pmt_pid_behind (take k slots) pid

abbrev pub began_at : (ℕ → Bool) → ℕ → Bool
began_at watched k = not (k == 0) && (watched k && not (watched (k - 1)))

abbrev pub is_pmt_mark : List (List ℕ) → ℕ → ℕ → Bool
is_pmt_mark slots pid k = completes (pmts_of pid) slots k || began_at (is_pmt_watched slots pid) k

unfoldable pub is_pmt_bad_at : ℕ → List (List ℕ) → ℕ → ℕ → Bool
is_pmt_bad_at limit slots m pid =
    is_gap_at limit (is_pmt_watched slots pid) (is_pmt_mark slots pid) m || (is_scrambled_at slots pid m && is_pmt_watched slots pid m)

-- ---- PID_error (1.6)

abbrev pub is_pid_watched : List (List ℕ) → ℕ → ℕ → Bool
is_pid_watched slots pid k = is_referred_behind (take k slots) pid

abbrev pub is_pid_mark : List (List ℕ) → ℕ → ℕ → Bool
is_pid_mark slots pid k = (not (k == 0) && is_of_pid_at slots pid (k - 1)) || began_at (is_pid_watched slots pid) k

unfoldable pub is_pid_missing_at : ℕ → List (List ℕ) → ℕ → ℕ → Bool
is_pid_missing_at period slots m pid = is_gap_at period (is_pid_watched slots pid) (is_pid_mark slots pid) m

-- ---- all

abbrev pub told_if : Bool → FaultKind → ℕ → Option ℕ → List Fault
told_if told kind m pid = if told then record { slot = m; kind = kind; pid = pid } ∷ [] else []

-- of every PID in order, where the test passes
abbrev pub told_of_pids : (ℕ → Bool) → FaultKind → ℕ → List Fault
told_of_pids test kind m = flat_map (λ pid. told_if (test pid) kind m (Some pid)) (range_with_len 0 PID_COUNT)

-- within how many slots the PAT and each PMT have to come: those of half a second
abbrev pub table_limit : ℕ → ℕ
table_limit rate = fast_limit_of rate

-- what is told at slot m, in the order of the standard's list, for one kind by PID
unfoldable pub faults_at : ℕ → ℕ → List (List ℕ) → ℕ → List Fault
faults_at rate period slots m =
    told_if (is_sync_lost_at slots m) TsSyncLoss m None
    ++ told_if (is_sync_byte_bad_at slots m) SyncByteError m None
    ++ told_if (is_pat_bad_at (table_limit rate) slots m) PatError2 m (Some 0x0000)
    ++ told_if (is_counter_bad_at slots m) ContinuityCountError m (Some (pid_of (slot_at slots m)))
    ++ told_of_pids (is_pmt_bad_at (table_limit rate) slots m) PmtError2 m
    ++ told_of_pids (is_pid_missing_at period slots m) PidError m

-- the faults of a stream of so many bits a second, with a stated period of slots for the PIDs that a PMT refers to
abbrev pub faults : ℕ → ℕ → List (List ℕ) → List Fault
faults rate period slots = flat_map (faults_at rate period slots) (range_with_len 0 (length slots))
