-- Which sections the packets of a table's PID carry, read back from the packets that went out: ISO/IEC 13818-1, 2.4.4
-- (sections in packets), 2.4.3.3 (counters). That they are repeated without end is profile.
use Rattle.std.specs.Prelude.{◌≡◌, ◌==◌, ℕ, ◌*◌, ◌%◌, Bool, true, List, [], ◌∷◌, length, take, drop, map, Some, All}
use Rattle.std.specs.List.{slice_get, flat_map, range_with_len}
use Rattle.tspkt.specs.Packet.{payload_of, payload_unit_start_indicator_of}
use Rattle.tspkt.specs.Counters.{lawful_of}
use Rattle.tspkt.specs.Counted.{with_counter}
use Rattle.section.specs.Packetized.{packet_count_of, stuffed}
use Rattle.output_tables.specs.OnPid.{SectionOnPid, packets_on_pid}
use Rattle.plan.specs.Build.{PlanValue}
use Rattle.emission.specs.Emission.{of_pid}

-- xs is a beginning of the endless repetition of the cycle
abbrev pub BeginsRepetitionOf : {X : Type 0} → List X → List X → Type 0
BeginsRepetitionOf {X} cycle xs = (k : ℕ) (x : X) → slice_get xs k ≡ Some x → slice_get cycle (k % length cycle) ≡ Some x

-- the payloads of a section's packets: the pointer_field, the section and stuffing bytes, cut into 184 bytes
abbrev pub payloads_of : SectionOnPid → List (List ℕ)
payloads_of s = map (λ k. take 184 (drop (184 * k) (stuffed s.bytes))) (range_with_len 0 (packet_count_of s.bytes))

-- the first of its packets has the payload_unit_start_indicator, and no other
abbrev pub starts_of : SectionOnPid → List Bool
starts_of s = map (λ k. k == 0) (range_with_len 0 (packet_count_of s.bytes))

-- the packets that went out on a PID repeat these sections, and their counters are lawful
pub record RepeatSections (sections : List SectionOnPid) (sent : List (List ℕ)) : Type 0 where
  pub payloads : BeginsRepetitionOf (flat_map payloads_of sections) (map payload_of sent)
  pub starts : BeginsRepetitionOf (flat_map starts_of sections) (map payload_unit_start_indicator_of sent)
  pub counters : All (λ is_lawful. is_lawful ≡ true) (lawful_of sent)
  -- packet k is that of the sections, with the counter k modulo 16
  pub packets : (k : ℕ) (q : List ℕ) → slice_get sent k ≡ Some q
      → (r : List ℕ) × (slice_get (flat_map packets_on_pid sections) (k % length (flat_map packets_on_pid sections)) ≡ Some r)
      × (q ≡ with_counter r (k % 16))

-- the PIDs of the PAT, of each PMT, of the SDT and of the NIT carry the plan's sections
pub record TablesAgree (p : PlanValue) (out : List (List ℕ)) : Type 0 where
  pub pat : RepeatSections (p.tables.pat ∷ []) (of_pid 0x0000 out)
  pub pmts : All (λ (s : SectionOnPid). RepeatSections (s ∷ []) (of_pid s.pid out)) p.tables.pmts
  pub sdt : RepeatSections p.tables.sdt (of_pid 0x0011 out)
  pub nit : RepeatSections (p.tables.nit ∷ []) (of_pid 0x0010 out)
