use Rattle.std.proofs.Common.{◌++◌, ℕ, ap, ◌≡◌, ◌∙◌}
use Rattle.section.specs.Crc.{crc_of, crc_bytes}
use Rattle.section.proofs.CrcLaws.{crc_own}
use Rattle.section.proofs.register.crc.Goals as goal

pub returns-clause-own : goal.returns-clause-own
unfolding crc_of
returns-clause-own c =
    let bytes = c.args.bytes.now in
    let value : c.register_behind.result ≡ crc_of bytes = c.register_behind.ensures in
    ap (λ (r : ℕ). crc_of (bytes ++ crc_bytes r)) value ∙ crc_own bytes
