-- The PMTs among what an assembler told.
use Rattle.std.specs.Prelude.{Bool, List, Option, is_some, option_and_then, filter_map}
use Rattle.section.specs.declared.told.Told.{Told}
use Rattle.tables.specs.Pmt.{PmtValue, pmt_of}
use Rattle.tables.specs.OnPid.{section_in, value_of}

abbrev pub pmt_in : Told → Option PmtValue
pmt_in t = option_and_then (λ b. value_of (pmt_of b)) (section_in t)

abbrev pub is_pmt_in : Told → Bool
is_pmt_in t = is_some (pmt_in t)

abbrev pub pmts_in : List Told → List PmtValue
pmts_in told = filter_map (λ b. value_of (pmt_of b)) (filter_map section_in told)
