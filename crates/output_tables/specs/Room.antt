-- Whether the tables of the chosen services have room in their sections.
use Rattle.std.specs.Prelude.{◌≤◌, List}
use Rattle.std.specs.List.{All}
use Rattle.request.specs.Request.{RequestValue}
use Rattle.selection.specs.Chosen.{ChosenValue}
use Rattle.tables.specs.Pmt.{pmt_section_length_of}
use Rattle.tables.specs.Nit.{nit_section_length_of}
use Rattle.tables.specs.Sdt.{rows_room}
use Rattle.output_tables.specs.Output.{output_pmt, output_nit, output_row, row_length}

-- each row has room in a section
abbrev pub AreInRoom : List ChosenValue → Type 0
AreInRoom chosen = All (λ (c : ChosenValue). row_length (output_row c) ≤ rows_room) chosen

-- each PMT has room in a section
abbrev pub HavePmtsRoom : RequestValue → List ChosenValue → Type 0
HavePmtsRoom r chosen = All (λ (c : ChosenValue). pmt_section_length_of (output_pmt r c) ≤ 1021) chosen

-- no table is too large for its sections
pub record HaveRoom (r : RequestValue) (chosen : List ChosenValue) : Type 0 where
  pub pmts : HavePmtsRoom r chosen
  pub nit : nit_section_length_of (output_nit r chosen) ≤ 1021
  pub rows : AreInRoom chosen
