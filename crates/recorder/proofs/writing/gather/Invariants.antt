use Rattle.std.proofs.Common.{◌≡◌, ◌*◌, ◌≤◌, take, vec_len, vec_capacity}
use Rattle.outlet.specs.Sending.{bytes_of}
use Rattle.recorder.proofs.writing.gather.Given as goal

abbrev pub invariant-loop-packet : goal.invariant-loop-packet
invariant-loop-packet l = record {
  gathered : l.bytes.items ≡ bytes_of (take l.packet-index l.packets);
  len : vec_len l.bytes ≡ 188 * l.packet-index;
  room : vec_capacity l.fn.bytes ≤ vec_capacity l.bytes;
}
