use Rattle.std.proofs.Common.{◌≡◌, ◌++◌, drop}
use Rattle.section.specs.Assembled.{assembled_from, assembled}
use Rattle.section.proofs.assembly.assemble.Given as goal

abbrev pub invariant-loop-packet : goal.invariant-loop-packet
invariant-loop-packet l = l.told.items ++ assembled_from l.assembler (drop l.packet-index l.packets) ≡ assembled l.packets
