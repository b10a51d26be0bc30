-- What the analyser tells of the packets that went out of a multiplex (profile). The kinds of faults are those of ETSI TR
-- 101 290, 5.2.1, and the counter rule is that of ISO/IEC 13818-1, 2.4.3.3.
use Rattle.std.specs.Prelude.{◌≡◌, ◌≢◌, ℕ, false, List, length, take, Some, Any}
use Rattle.std.specs.List.{All, Contains, slice_get}
use Rattle.tspkt.specs.Packet.{pid_of}
use Rattle.tspkt.specs.Counters.{lawful_of}
use Rattle.request.specs.declared.stream.Stream.{Stream}
use Rattle.emission.specs.Emission.{of_pid}
use Rattle.analyse.specs.declared.fault.Fault.{Fault}
use Rattle.analyse.specs.declared.fault_kind.FaultKind.{FaultKind}
use Rattle.analyse.specs.declared.fault_kind.FaultKind.TheVariants.{TsSyncLoss, SyncByteError, PatError2, ContinuityCountError, PmtError2}

-- none of these faults is of the kind
abbrev pub TellsNo : FaultKind → List Fault → Type 0
TellsNo kind told = All (λ (f : Fault). f.kind ≢ kind) told

-- sync isn't lost, and no sync byte is wrong
pub record TellsNoSyncFault (told : List Fault) : Type 0 where
  pub sync : TellsNo TsSyncLoss told
  pub sync_byte : TellsNo SyncByteError told

-- neither the PAT nor a PMT is missing for half a second; no packet of theirs is scrambled, and no other table is on the
-- PID of the PAT
pub record TellsNoTableFault (told : List Fault) : Type 0 where
  pub pat : TellsNo PatError2 told
  pub pmts : TellsNo PmtError2 told

-- the packet that went out in slot m
abbrev pub WentOut : List (List ℕ) → ℕ → List ℕ → Type 0
WentOut out m q = slice_get out m ≡ Some q

-- it is on the output PID of a stream
abbrev pub IsOfStream : List Stream → List ℕ → Type 0
IsOfStream streams q = Any (λ (st : Stream). pid_of q ≡ st.output_pid) streams

-- it isn't lawful by the counter rule at its place among all packets of its PID: behind those that went out before slot m
abbrev pub IsUnlawful : List (List ℕ) → ℕ → List ℕ → Type 0
IsUnlawful out m q = slice_get (lawful_of (of_pid (pid_of q) out)) (length (of_pid (pid_of q) (take m out))) ≡ Some false

-- a packet of a stream that isn't lawful went out in slot m
pub record UnlawfulWentOut (streams : List Stream) (out : List (List ℕ)) (m : ℕ) (q : List ℕ) : Type 0 where
  pub went_out : WentOut out m q
  pub of_stream : IsOfStream streams q
  pub unlawful : IsUnlawful out m q

-- Continuity_count_error is told of a packet
abbrev pub counter_fault : ℕ → List ℕ → Fault
counter_fault m q = record { slot = m; kind = ContinuityCountError; pid = Some (pid_of q) }

-- Continuity_count_error is told at exactly the slots of the streams' packets that aren't lawful, each with its PID, and so
-- on no PID of a table
pub record CounterFaultsAreOfStreams (streams : List Stream) (out : List (List ℕ)) (told : List Fault) : Type 0 where
  pub only : All (λ (f : Fault). f.kind ≡ ContinuityCountError → (q : List ℕ) × (f ≡ counter_fault f.slot q) × UnlawfulWentOut streams out f.slot q) told
  pub each : (m : ℕ) (q : List ℕ) → UnlawfulWentOut streams out m q → Contains told (counter_fault m q)

-- ---- by what was taken

-- packet k on a stream's output PID is lawful exactly where packet k that was taken for the stream is
abbrev pub AreLawfulAsTaken : List Stream → (Stream → List (List ℕ)) → List (List ℕ) → Type 0
AreLawfulAsTaken streams taken out =
    (st : Stream) → Contains streams st → (sent : ℕ) × (lawful_of (of_pid st.output_pid out) ≡ take sent (lawful_of (taken st)))

-- a packet of a stream went out in slot m, and the one of the same place among those that were taken for the stream isn't
-- lawful there
pub record UnlawfulWasTaken (streams : List Stream) (taken : Stream → List (List ℕ)) (out : List (List ℕ)) (m : ℕ) (q : List ℕ) : Type 0 where
  pub went_out : WentOut out m q
  pub stream : Stream
  pub listed : Contains streams stream
  pub on_pid : pid_of q ≡ stream.output_pid
  pub unlawful : slice_get (lawful_of (taken stream)) (length (of_pid stream.output_pid (take m out))) ≡ Some false

-- Continuity_count_error is told at exactly the slots that carry what was taken and isn't lawful
pub record CounterFaultsAreAsTaken (streams : List Stream) (taken : Stream → List (List ℕ)) (out : List (List ℕ)) (told : List Fault) : Type 0 where
  pub only : All (λ (f : Fault). f.kind ≡ ContinuityCountError → (q : List ℕ) × (f ≡ counter_fault f.slot q) × UnlawfulWasTaken streams taken out f.slot q) told
  pub each : (m : ℕ) (q : List ℕ) → UnlawfulWasTaken streams taken out m q → Contains told (counter_fault m q)
