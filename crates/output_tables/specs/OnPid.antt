-- A section of a table and the PID that it is sent on (ISO/IEC 13818-1, 2.4.4), and the packets that it takes.
use Rattle.std.specs.Prelude.{ℕ, List}
use Rattle.output_tables.specs.Output.{table_packets}

pub record SectionOnPid : Type 0 where
  pub pid : ℕ
  pub bytes : List ℕ

abbrev pub packets_on_pid : SectionOnPid → List (List ℕ)
packets_on_pid s = table_packets s.pid s.bytes
