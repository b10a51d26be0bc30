-- A quiet slot: what the watches know of the slots before it stands behind it too, save of its packet's counter and of when its
-- PID came last, and no fault is told at it but the counter's.
use Rattle.std.specs.Prelude.{◌≡◌, ℕ, ◌+◌, Bool, false, ◌&&◌, not, nat_le, List, [], ◌∷◌, ◌++◌, length, Option, Some}
use Rattle.section.specs.Assembled.{AssemblerState, packet_told}
use Rattle.analyse.specs.Slots.{is_good, is_sync_lost_at, is_sync_byte_bad_at}
use Rattle.analyse.specs.Faults.{completes, pmts_of, is_pat_bad_at}
use Rattle.analyse.specs.SlotReading.{IsReadAs}
use Rattle.analyse.specs.SyncWatching.{SyncState, HasSeenSlots}
use Rattle.analyse.specs.PatWatching.{PatState, HasSeenPat}
use Rattle.analyse.specs.ToldPmts.{pmts_in}
use Rattle.analyse.specs.PmtAssembling.{StandsFor}
use Rattle.analyse.specs.PmtWatching.{PmtState, HasSeenPmts, HaveSeenPmts}
use Rattle.analyse.specs.TablesWatching.{TablesState, HaveSeenTables, table_faults_at}
use Rattle.analyse.specs.StreamWatching.{StreamState}
use Rattle.analyse.specs.declared.pmt_assembly.PmtAssembly.{PmtAssembly}

-- the slot is good, and sync stands
abbrev pub stands : SyncState → List ℕ → Bool
stands w slot = ((is_good slot && nat_le 5 w.run) && w.in_sync) && not w.was_bad

-- the slot tells nothing of sync
pub record LeavesSync (w : SyncState) (slot : List ℕ) : Type 0 where
  pub seen : (slots : List (List ℕ)) → HasSeenSlots w slots → HasSeenSlots w (slots ++ slot ∷ [])
  pub lost : (slots : List (List ℕ)) → HasSeenSlots w slots → is_sync_lost_at (slots ++ slot ∷ []) (length slots) ≡ false
  pub bad : (slots : List (List ℕ)) → HasSeenSlots w slots → is_sync_byte_bad_at (slots ++ slot ∷ []) (length slots) ≡ false

-- nothing is told of the PAT at the slot behind `count` slots, where it is this packet
pub record LeavesPat (w : PatState) (count : ℕ) (packet : List ℕ) : Type 0 where
  pub seen : (slots : List (List ℕ)) (slot : List ℕ) → HasSeenPat w slots → length slots ≡ count → IsReadAs slot (Some packet)
      → HasSeenPat w (slots ++ slot ∷ [])
  pub good : (slots : List (List ℕ)) (slot : List ℕ) → HasSeenPat w slots → length slots ≡ count → IsReadAs slot (Some packet)
      → is_pat_bad_at w.gap.limit (slots ++ slot ∷ []) count ≡ false

-- the packet tells no PMT, and what is kept of its PID's sections stands for the state behind it too
pub record LeavesAssembly (a : PmtAssembly) (s : AssemblerState) (packet : List ℕ) : Type 0 where
  pub state : StandsFor a (packet_told s packet).state
  pub none : pmts_in (packet_told s packet).told ≡ []

-- the same of the watch of a PID, and of all PIDs
pub record LeavesPmt (pid : ℕ) (w : PmtState) (packet : List ℕ) : Type 0 where
  pub seen : (slots : List (List ℕ)) (slot : List ℕ) → HasSeenPmts pid w slots → IsReadAs slot (Some packet)
      → HasSeenPmts pid w (slots ++ slot ∷ [])
  pub none : (slots : List (List ℕ)) (slot : List ℕ) → HasSeenPmts pid w slots → IsReadAs slot (Some packet)
      → completes (pmts_of pid) (slots ++ slot ∷ []) (length slots + 1) ≡ false

pub record LeavesPmts (ws : List (Option PmtState)) (packet : List ℕ) : Type 0 where
  pub seen : (slots : List (List ℕ)) (slot : List ℕ) → HaveSeenPmts ws slots → IsReadAs slot (Some packet)
      → HaveSeenPmts ws (slots ++ slot ∷ [])
  pub none : (slots : List (List ℕ)) (slot : List ℕ) → HaveSeenPmts ws slots → IsReadAs slot (Some packet)
      → (pid : ℕ) → completes (pmts_of pid) (slots ++ slot ∷ []) (length slots + 1) ≡ false

-- and no gap is told at the slot behind `count` slots
pub record LeavesTables (w : TablesState) (count : ℕ) (packet : List ℕ) : Type 0 where
  pub pmts : LeavesPmts w.pmts packet
  pub none : (slots : List (List ℕ)) (slot : List ℕ) → HaveSeenTables w slots → length slots ≡ count → IsReadAs slot (Some packet)
      → table_faults_at w.pmt_gaps.limit w.pid_gaps.limit (slots ++ slot ∷ []) count ≡ []

-- together
pub record IsQuiet (w : StreamState) (slot packet : List ℕ) : Type 0 where
  pub sync : LeavesSync w.sync slot
  pub pat : LeavesPat w.pat w.count packet
  pub tables : LeavesTables w.tables w.count packet
