-- Files that are read, and what of them is kept (profile).
use Rattle.std.specs.Prelude.{ℕ, List, Option, Bool, take, drop}
use Rattle.std.specs.Io.KnownBytes.{prepend_known}
use Rattle.files.specs.declared.file_reader.FileReader.{FileReader}

-- what the file is read by
abbrev pub file_reader : {R : Type 0} → FileReader R → R
file_reader file = file.reader

-- the bytes that the file will give, where they are known
abbrev pub file_remaining : {R : Type 0} → (R → Option (List ℕ)) → FileReader R → Option (List ℕ)
file_remaining remaining file = remaining file.reader

-- how often a read failed
abbrev pub file_failures : {R : Type 0} → FileReader R → ℕ
file_failures file = file.failures

-- a reader that keeps what it gives, with what was kept, how much of that was given since it began or began anew, whether it keeps at
-- all, and whether all that it was to keep was kept
pub record KeptState (R : Type 0) : Type 0 where
  pub reader : R
  pub kept : List ℕ
  pub at : ℕ
  pub keeps : Bool
  pub whole : Bool

-- what was given since it began, or began anew; and what of it is given again
abbrev pub given_bytes : {R : Type 0} → KeptState R → List ℕ
given_bytes kept = take kept.at kept.kept

abbrev pub ahead_bytes : {R : Type 0} → KeptState R → List ℕ
ahead_bytes kept = drop kept.at kept.kept

-- the bytes that the reader will give, where they are known
abbrev pub kept_remaining : {R : Type 0} → (R → Option (List ℕ)) → KeptState R → Option (List ℕ)
kept_remaining remaining kept = prepend_known (ahead_bytes kept) (remaining kept.reader)

-- what was kept, as it stands in memory
abbrev pub kept_bytes : {R : Type 0} → KeptState R → List ℕ
kept_bytes kept = kept.kept

-- whether it keeps what it gives
abbrev pub is_keeping : {R : Type 0} → KeptState R → Bool
is_keeping kept = kept.keeps

-- whether all that it was to keep was kept
abbrev pub is_whole : {R : Type 0} → KeptState R → Bool
is_whole kept = kept.whole

-- what it keeps the bytes of
abbrev pub kept_of : {R : Type 0} → KeptState R → R
kept_of kept = kept.reader
