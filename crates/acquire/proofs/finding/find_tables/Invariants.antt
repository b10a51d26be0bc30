use Rattle.std.proofs.Common.{take}
use Rattle.acquire.specs.Seen.{HasSeen}
use Rattle.acquire.proofs.finding.find_tables.Given as goal

abbrev pub invariant-loop-packet : goal.invariant-loop-packet
invariant-loop-packet l = HasSeen l.fn.programs l.acquire (take l.packet-index l.packets)
