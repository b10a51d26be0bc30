use Rattle.std.proofs.Common.{rules, ◌*◌, ◌%◌, ◌^◌, bit_xor, sym, ap, ◌∙◌}
use Rattle.section.proofs.CrcLaws.{byte_step}
use Rattle.section.proofs.register.byte_step.Goals as goal

pub returns : goal.returns
returns c = ap (bit_xor (c.args.register * 256 % 2 ^ 32)) c.entry.ensures ∙ sym (byte_step c.args.register c.args.byte (search rules))
