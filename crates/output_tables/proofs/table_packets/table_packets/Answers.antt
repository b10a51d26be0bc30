use Rattle.std.proofs.Common.{arith, ◌≡◌, ◌+◌, ◌<◌, ◌++◌, [], ◌∷◌, ℕ, List, length, map, take, set, get_or, refl, sym, ap, ◌∙◌, Some, None, Result, Ok, Err}
use Rattle.std.specs.Prelude.{IsOk, MatchResult}
use Rattle.std.specs.List.{flat_map, range_with_len}
use Rattle.std.proofs.lemmas.List.Elements.{All-same, All-push}
use Rattle.std.proofs.lemmas.List.FromFn.{map-range_with_len_more}
use Rattle.tspkt.specs.Packet.{fault_of, payload_of, IsPacket}
use Rattle.tspkt.specs.declared.malformed.Malformed.{Malformed}
use Rattle.section.specs.Packetized.{header_of}
use Rattle.output_tables.specs.Output.{table_packet}
use Rattle.output_tables.proofs.PacketLaws.{packet_here, packet_accepted, payloads_more}
use Rattle.output_tables.proofs.table_packets.table_packets.Goals as goal

-- bytes without a fault are read
accepted_ok : (bytes : List ℕ) (r : Result (List ℕ) Malformed) → MatchResult r (λ p. (p ≡ bytes) × (fault_of bytes ≡ None)) (λ e. fault_of bytes ≡ Some e) → fault_of bytes ≡ None → IsOk r
accepted_ok bytes (Ok p) h n = refl
accepted_ok bytes (Err e) h n = absurd (cc (h, n))

pub unwrap-uncounted-requires : goal.unwrap-uncounted-requires
unwrap-uncounted-requires c =
    let packets = c.deref-packet-items.result.now in
    let i = c.loop-packet.packet-index in
    let p = c.packet-item.result in
    let same : packets ≡ c.in_ok-counted.counted.items = c.deref-packet-items.ensures.value in
    let headers : (k : ℕ) → k < length packets → take 4 (get_or packets k []) ≡ header_of c.args.pid 0 k = rw same c.in_ok-counted.ensures.headers in
    let here = packet_here c.args.pid c.args.section.now packets i p headers (ap (flat_map payload_of) same ∙ c.in_ok-counted.ensures.payloads) c.loop-packet-test.true c.packet-item.is c.known.ensures.whole c.loop-packet.invariant.payloads in
    let bytes : set c.bytes.result.now 3 0x10 ≡ table_packet c.args.pid c.args.section.now i = ap (λ (l : List ℕ). set l 3 0x10) c.bytes.ensures.value ∙ here.0 in
    accepted_ok (set c.bytes.result.now 3 0x10) c.read.result c.read.ensures (ap fault_of bytes ∙ packet_accepted c.args.pid i c.args.section.now)

pub loop-packet-preserved : goal.loop-packet-preserved
loop-packet-preserved c =
    let packets = c.deref-packet-items.result.now in
    let i = c.loop-packet.packet-index in
    let p = c.packet-item.result in
    let same : packets ≡ c.in_ok-counted.counted.items = c.deref-packet-items.ensures.value in
    let headers : (k : ℕ) → k < length packets → take 4 (get_or packets k []) ≡ header_of c.args.pid 0 k = rw same c.in_ok-counted.ensures.headers in
    let here = packet_here c.args.pid c.args.section.now packets i p headers (ap (flat_map payload_of) same ∙ c.in_ok-counted.ensures.payloads) c.loop-packet-test.true c.packet-item.is c.known.ensures.whole c.loop-packet.invariant.payloads in
    let read = rw c.unwrap-uncounted.ensures at c.read.ensures in
    let packet = table_packet c.args.pid c.args.section.now in
    let this : c.unwrap-uncounted.result ≡ packet i = read.0 ∙ ap (λ (l : List ℕ). set l 3 0x10) c.bytes.ensures.value ∙ here.0 in
    record {
      packets = c.push_reserved.ensures.items
          ∙ ap (λ (l : List (List ℕ)). l ++ c.unwrap-uncounted.result ∷ []) c.loop-packet.invariant.packets
          ∙ ap (λ (q : List ℕ). map packet (range_with_len 0 i) ++ q ∷ []) this
          ∙ sym (map-range_with_len_more packet 0 i i (let z : 0 + i ≡ i = omega arith in z));
      payloads = payloads_more packets i p c.loop-packet-test.true c.packet-item.is c.loop-packet.invariant.payloads here.1;
      whole = All-same IsPacket _ (c.loop-packet.packets.items ++ c.unwrap-uncounted.result ∷ []) c.push_reserved.ensures.items
          (All-push IsPacket c.loop-packet.packets.items c.unwrap-uncounted.result c.loop-packet.invariant.whole c.known-in-loop-packet.ensures);
      len = omega arith;
      room = omega arith;
    }
