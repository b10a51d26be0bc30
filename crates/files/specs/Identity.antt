-- Which files are read (profile).
use Rattle.std.specs.Prelude.{List, Option, Some, None, Contains}
use Rattle.files.specs.declared.file_identity.FileIdentity.{FileIdentity}

-- what is known to be this file is among those that are read
abbrev pub IsAmong : Option FileIdentity → List FileIdentity → Type 0
IsAmong (Some file) read = Contains read file
IsAmong None read = ⊥
