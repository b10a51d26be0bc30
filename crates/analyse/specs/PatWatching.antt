-- What a watch of the PAT knows of the slots so far, from which PAT_error_2 at the next slot follows.
use Rattle.std.specs.Prelude.{◌≡◌, ℕ, ◌==◌, Bool, true, false, ◌&&◌, not, List, length, Option, Some, None}
use Rattle.tspkt.specs.Bits.{field}
use Rattle.tspkt.specs.Packet.{pid_of, transport_scrambling_control_of}
use Rattle.section.specs.declared.told.Told.{Told}
use Rattle.tables.specs.OnPid.{section_in, pat_sections}
use Rattle.tables.specs.SectionReading.{ReaderState, reader_on}
use Rattle.analyse.specs.Slots.{packets_in}
use Rattle.analyse.specs.Faults.{is_pat_mark}
use Rattle.analyse.specs.ProgramsWatching.{ProgramsState, HasRows}
use Rattle.analyse.specs.GapWatching.{GapState, HasSeenNumbers}

pub record PatState : Type 0 where
  pub sections : ReaderState
  pub gap : GapState
  pub marked : Bool
  pub programs : ProgramsState

-- what was told is a section with another table_id

abbrev pub is_other : Option (List ℕ) → Bool
is_other None = false
is_other (Some b) = not (field b 0 8 == 0)

abbrev pub is_other_in : Told → Bool
is_other_in t = is_other (section_in t)

-- it is a scrambled packet of the PAT's PID
abbrev pub is_scrambled : Option (List ℕ) → Bool
is_scrambled None = false
is_scrambled (Some packet) = pid_of packet == 0 && not (transport_scrambling_control_of packet == 0)

-- the numbers of slots up to theirs were seen by the gap's watch, all but the last of them
pub record HasSeenPat (w : PatState) (slots : List (List ℕ)) : Type 0 where
  pub sections : w.sections ≡ reader_on 0x0000 (packets_in slots)
  pub gap : HasSeenNumbers w.gap (λ k. true) (is_pat_mark slots) (length slots)
  pub marked : w.marked ≡ is_pat_mark slots (length slots)
  pub programs : HasRows w.programs (pat_sections (packets_in slots))
