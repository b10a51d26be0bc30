-- The transport buffers of the tables: ISO/IEC 13818-1, 2.4.2.3 (512 bytes, which leak at 1,000,000 bits a second). That
-- PAT and PMT share a buffer a service, and that SDT and NIT have one each, is profile.
use Rattle.std.specs.Prelude.{ℕ, ◌*◌, List, [], ◌∷◌, All}
use Rattle.buffers.specs.declared.bucket.TheConstants.{TRANSPORT_BUFFER_BYTES}
use Rattle.buffers.specs.Level.{bytes_of_set, IsWithinAtEachByte}
use Rattle.request.specs.Request.{ServiceValue}
use Rattle.plan.specs.Build.{PlanValue}

-- the buffer of the packets on these PIDs never held more than 512 bytes, at each byte that went out
abbrev pub BufferFits : ℕ → ℕ → List ℕ → List (List ℕ) → Type 0
BufferFits rate leak pids out = IsWithinAtEachByte leak rate (TRANSPORT_BUFFER_BYTES * rate) (bytes_of_set pids out)

-- the leak of a table's buffer, in bits a second
abbrev pub table_leak : ℕ
table_leak = 1000000

pub record TableBuffersFit (p : PlanValue) (out : List (List ℕ)) : Type 0 where
  pub services : All (λ (s : ServiceValue). BufferFits p.request.rate table_leak (0x0000 ∷ s.pmt ∷ []) out) p.request.services
  pub sdt : BufferFits p.request.rate table_leak (0x0011 ∷ []) out
  pub nit : BufferFits p.request.rate table_leak (0x0010 ∷ []) out
