-- What is kept of the sections of one PID where only the PMTs among them are read, and how it stands for the state of an
-- assembler of all sections.
use Rattle.std.specs.Prelude.{◌≡◌}
use Rattle.section.specs.Assembled.{AssemblerState}
use Rattle.analyse.specs.UnreadSections.{IsBetween, IsUnread}
use Rattle.analyse.specs.declared.pmt_assembly.PmtAssembly.{PmtAssembly}
use Rattle.analyse.specs.declared.pmt_assembly.PmtAssembly.TheVariants.{Between, Unread, Read}

abbrev pub StandsFor : PmtAssembly → AssemblerState → Type 0
StandsFor Between s = IsBetween s
StandsFor (Unread section) s = IsUnread section s
StandsFor (Read assembler) s = assembler.value ≡ s
