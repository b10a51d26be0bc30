-- Files that are written (profile).
use Rattle.std.specs.Prelude.{ℕ, List, Option}
use Rattle.files.specs.declared.file_writer.FileWriter.{FileWriter}

-- the bytes that the file holds, where they are known
abbrev pub file_contents : {W : Type 0} → (W → Option (List ℕ)) → FileWriter W → Option (List ℕ)
file_contents contents file = contents file.writer

-- how often a write failed
abbrev pub file_failures : {W : Type 0} → FileWriter W → ℕ
file_failures file = file.failures
