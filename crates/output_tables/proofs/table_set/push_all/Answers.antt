use Rattle.std.proofs.Common.{ℕ, List, [], ◌∷◌, ◌++◌, ◌≡◌, ◌+◌, take, ap, ◌∙◌, sym, append_assoc}
use Rattle.std.specs.List.{flat_map}
use Rattle.std.proofs.lemmas.Grind.{flat_map-append}
use Rattle.std.proofs.lemmas.List.{append-nil}
use Rattle.std.proofs.lemmas.List.Elements.{All-same, All-append}
use Rattle.tspkt.specs.Packet.{IsPacket}
use Rattle.output_tables.specs.OnPid.{packets_on_pid}
use Rattle.output_tables.proofs.ListLaws.{taken_more}
use Rattle.output_tables.proofs.table_set.push_all.Goals as goal

pub loop-section-preserved : goal.loop-section-preserved
loop-section-preserved c =
    let sections = c.args.sections.now in
    let i = c.loop-section.section-index in
    let x = c.section-item.result in
    let before = flat_map packets_on_pid (take i sections) in
    let more : flat_map packets_on_pid (take (i + 1) sections) ≡ before ++ packets_on_pid x =
    ap (flat_map packets_on_pid) (taken_more sections i x c.loop-section-test.true c.section-item.is)
    ∙ flat_map-append packets_on_pid (take i sections) (x ∷ [])
    ∙ ap (λ (l : List (List ℕ)). before ++ l) (append-nil (packets_on_pid x)) in
    record {
      packets = c.in_ok-push_packets.ensures.value
          ∙ ap (λ (l : List (List ℕ)). l ++ packets_on_pid x) c.loop-section.invariant.packets
          ∙ append_assoc c.args.packets.now.items before (packets_on_pid x)
          ∙ ap (λ (l : List (List ℕ)). c.args.packets.now.items ++ l) (sym more);
      whole = All-same IsPacket (flat_map packets_on_pid (take (i + 1) sections)) (before ++ packets_on_pid x) more
          (All-append IsPacket before (packets_on_pid x) c.loop-section.invariant.whole c.in_ok-push_packets.ensures.whole);
    }
