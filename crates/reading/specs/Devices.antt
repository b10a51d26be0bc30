-- Readers of `std` that count their failures (profile).
use Rattle.std.specs.Prelude.{ℕ, List, Option}
use Rattle.reading.specs.declared.source.ReadSource.{ReadSource}

-- the bytes that the reader will give, where they are known
abbrev pub source_remaining : {R : Type 0} → (R → Option (List ℕ)) → ReadSource R → Option (List ℕ)
source_remaining remaining source = remaining source.reader

-- how often the reader failed
abbrev pub source_failures : {R : Type 0} → ReadSource R → ℕ
source_failures source = source.failures
