-- The output's tables as sections and as packets.
use Rattle.std.specs.Prelude.{◌≡◌, ℕ, ◌+◌, ◌*◌, List, [], ◌∷◌, ◌++◌, length, Ok}
use Rattle.std.specs.List.{All, flat_map, AllZip}
use Rattle.tspkt.specs.Packet.{IsPacket}
use Rattle.section.specs.Crc.{crc_of}
use Rattle.tables.specs.Pat.{PatValue, pat_of, HasReservedPatBits}
use Rattle.tables.specs.Pmt.{PmtValue, pmt_of, pmt_section_length_of, HasReservedPmtBits}
use Rattle.tables.specs.Sdt.{SdtValue, sdt_of, sdt_section_length_of, HasReservedSdtBits}
use Rattle.tables.specs.Nit.{NitValue, nit_of, nit_section_length_of, HasReservedNitBits}
use Rattle.request.specs.Request.{RequestValue}
use Rattle.selection.specs.Chosen.{ChosenValue}
use Rattle.output_tables.specs.Output.{output_pat, output_pmt, output_sdt, output_nit, fast_count, slow_count}
use Rattle.output_tables.specs.OnPid.{SectionOnPid, packets_on_pid}

pub record TableSetValue : Type 0 where
  pub pat : SectionOnPid
  pub pmts : List SectionOnPid
  pub sdt : List SectionOnPid
  pub nit : SectionOnPid

-- the packets of PAT and PMTs, one behind the other
abbrev pub fast_packets : TableSetValue → List (List ℕ)
fast_packets t = flat_map packets_on_pid (t.pat ∷ t.pmts)

-- the packets of SDT and NIT, one behind the other
abbrev pub slow_packets : TableSetValue → List (List ℕ)
slow_packets t = flat_map packets_on_pid (t.sdt ++ t.nit ∷ [])

-- a section that a table's read makes the value of, and that has its reserved bits as they are written
pub record IsPatSection (bytes : List ℕ) (v : PatValue) : Type 0 where
  pub value : pat_of bytes ≡ Ok v
  pub reserved : HasReservedPatBits (length v.rows) bytes

pub record IsPmtSection (bytes : List ℕ) (v : PmtValue) : Type 0 where
  pub value : pmt_of bytes ≡ Ok v
  pub reserved : HasReservedPmtBits bytes

pub record IsSdtSection (bytes : List ℕ) (v : SdtValue) : Type 0 where
  pub value : sdt_of bytes ≡ Ok v
  pub reserved : HasReservedSdtBits bytes

pub record IsNitSection (bytes : List ℕ) (v : NitValue) : Type 0 where
  pub value : nit_of bytes ≡ Ok v
  pub reserved : HasReservedNitBits bytes

-- a section on this PID and of this section_length, which says the value, and its register is 0
pub record IsSectionFor {V : Type 0} (Says : List ℕ → V → Type 0) (pid section_length : ℕ) (v : V) (s : SectionOnPid) : Type 0 where
  pub on_pid : s.pid ≡ pid
  pub says : Says s.bytes v
  pub crc : crc_of s.bytes ≡ 0
  pub whole : length s.bytes ≡ section_length + 3

abbrev pub IsPmtFor : RequestValue → SectionOnPid → ChosenValue → Type 0
IsPmtFor r s c = IsSectionFor IsPmtSection c.service.pmt (pmt_section_length_of (output_pmt r c)) (output_pmt r c) s

abbrev pub IsSdtFor : SectionOnPid → SdtValue → Type 0
IsSdtFor s v = IsSectionFor IsSdtSection 0x0011 (sdt_section_length_of v) v s

-- the sections of the output's tables, each on its PID, and how many packets they take
pub record IsTableSet (r : RequestValue) (chosen : List ChosenValue) (t : TableSetValue) : Type 0 where
  pub pat : IsSectionFor IsPatSection 0x0000 (9 + 4 * (1 + length chosen)) (output_pat r chosen) t.pat
  pub pmts : AllZip (IsPmtFor r) t.pmts chosen
  pub sdt : AllZip IsSdtFor t.sdt (output_sdt r chosen)
  pub nit : IsSectionFor IsNitSection 0x0010 (nit_section_length_of (output_nit r chosen)) (output_nit r chosen) t.nit
  pub fast_count : length (fast_packets t) ≡ fast_count r chosen
  pub slow_count : length (slow_packets t) ≡ slow_count r chosen
  -- each of them is whole and has no fault
  pub fast_whole : All IsPacket (fast_packets t)
  pub slow_whole : All IsPacket (slow_packets t)
