use Rattle.std.proofs.Common.{ℕ, ◌≡◌, ◌%◌, ◌<◌, List, length, get_or, sym, ap, ◌∙◌, subst, arith, ◌+◌, ◌*◌, ◌≤◌}
use Rattle.rounds.specs.declared.table_place.TablePlace.{TablePlace}
use Rattle.rounds.specs.Rounds.{RoundsValue, IsRounds, IsPlace}
use Rattle.rounds.proofs.RoundLaws.{positive}
use Rattle.std.proofs.Math.Nat.{mul-le-mul_left}
use Rattle.emission.proofs.SpanFacts.{rounds_rate}
use Rattle.emission.proofs.PlanFacts.{plan_facts}
use Rattle.tspkt.specs.Packet.{null_packet}
use Rattle.tspkt.specs.Counted.{with_counter}
use Rattle.output_tables.specs.TableSet.{fast_packets, slow_packets}
use Rattle.emission.specs.Emission.{of_pid, table_packet_at, counted_behind}
use Rattle.std.proofs.lemmas.List.{get_or_default}
use Rattle.plan.specs.Build.{PlanValue}
use Rattle.mux.specs.History.{History, in_force, plan_in_force, emitted}
use Rattle.mux.proofs.Plans.{built_at, first_request, known_of}
use Rattle.mux.proofs.Force.{force_within}
use Rattle.mux.proofs.mux.Mux.table_packet.Goals.{in-Fast, in-Slow}
use Rattle.mux.proofs.mux.Mux.table_packet.Goals as goal

pub bounds-fast_packets-k : goal.bounds-fast_packets-k
bounds-fast_packets-k c =
    let s = c.args.self.now.run.schedule in
    let h = c.args.self.now.events in
    let ok = c.known.ensures.schedule in
    let p = plan_in_force s h in
    let S : TablePlace → Type 0 = IsPlace p.rounds in
    let is : c.in-Fast.k < p.rounds.fast_len = subst S c.in-Fast.is c.requires in
    let built = built_at s ok (in_force h) (force_within s h ok c.known.ensures.lawful) in
    let facts = plan_facts p built.request built.tables in
    omega (arith, is, facts.basics.fast_len, ap length c.fast_packets.ensures, ap (λ (x : PlanValue). length (fast_packets x.tables)) c.plan-plan.ensures)

pub bounds-slow_packets-k : goal.bounds-slow_packets-k
bounds-slow_packets-k c =
    let s = c.args.self.now.run.schedule in
    let h = c.args.self.now.events in
    let ok = c.known.ensures.schedule in
    let p = plan_in_force s h in
    let S : TablePlace → Type 0 = IsPlace p.rounds in
    let is : c.in-Slow.k < p.rounds.slow_len = subst S c.in-Slow.is c.requires in
    let built = built_at s ok (in_force h) (force_within s h ok c.known.ensures.lawful) in
    let facts = plan_facts p built.request built.tables in
    omega (arith, is, facts.basics.slow_len, ap length c.slow_packets.ensures, ap (λ (x : PlanValue). length (slow_packets x.tables)) c.plan-plan.ensures)

pub returns : goal.returns
returns c =
    let s = c.args.self.now.run.schedule in
    let h = c.args.self.now.events in
    let ok = c.known.ensures.schedule in
    let p = plan_in_force s h in
    let built = built_at s ok (in_force h) (force_within s h ok c.known.ensures.lawful) in
    let facts = plan_facts p built.request built.tables in
    let S : TablePlace → Type 0 = IsPlace p.rounds in
    let packet : c.match-place.packet ≡ table_packet_at p.tables c.args.place =
    elim c.match-place.branch [
      | in-Fast w ↦
          (let fits : w.in-Fast.k < p.rounds.fast_len = subst S w.in-Fast.is c.requires in
          let are = w.fast_packets.ensures ∙ ap (λ (x : PlanValue). fast_packets x.tables) c.plan-plan.ensures in
          w.packet-is ∙ w.index-fast_packets-k.is ∙ ap (λ (xs : List (List ℕ)). get_or xs w.in-Fast.k w.index-fast_packets-k.result) are
          ∙ get_or_default (fast_packets p.tables) w.in-Fast.k w.index-fast_packets-k.result null_packet (omega (arith, fits, facts.basics.fast_len)) ∙ ap (table_packet_at p.tables) (sym w.in-Fast.is))
      | in-Slow w ↦
          (let fits : w.in-Slow.k < p.rounds.slow_len = subst S w.in-Slow.is c.requires in
          let are = w.slow_packets.ensures ∙ ap (λ (x : PlanValue). slow_packets x.tables) c.plan-plan.ensures in
          w.packet-is ∙ w.index-slow_packets-k.is ∙ ap (λ (xs : List (List ℕ)). get_or xs w.in-Slow.k w.index-slow_packets-k.result) are
          ∙ get_or_default (slow_packets p.tables) w.in-Slow.k w.index-slow_packets-k.result null_packet (omega (arith, fits, facts.basics.slow_len)) ∙ ap (table_packet_at p.tables) (sym w.in-Slow.is))
    ] in
    let out : c.self.inside.output ≡ emitted s h = c.self.invariant.0.packets_are ∙ ap (λ (x : History). emitted x.run.schedule x.events) c.self.view_is in
    c.with_counter.ensures.value
    ∙ ap (with_counter c.match-place.packet) (c.counter.ensures.value ∙ ap (λ n. length (of_pid n c.self.inside.output) % 16) c.pid.ensures.value)
    ∙ ap (counted_behind c.self.inside.output) packet
    ∙ ap (λ xs. counted_behind xs (table_packet_at p.tables c.args.place)) out

-- there are few packets of tables
few_fast : (r : RoundsValue) → IsRounds r → r.rate ≤ 100000000 → r.fast_len ≤ 100000000
few_fast r ok rate =
    let pos = positive r ok in
    let more : (r.fast_len + 1) * 1 ≤ (r.fast_len + 1) * r.gap = mul-le-mul_left (r.fast_len + 1) (omega (arith, pos.0)) in
    omega (arith, more, ok.round, ok.period, rate)

few_slow : (r : RoundsValue) → IsRounds r → r.rate ≤ 100000000 → r.slow_len ≤ 100000000
few_slow r ok rate =
    let pos = positive r ok in
    let more : r.slow_len * 1 ≤ r.slow_len * r.period = mul-le-mul_left r.slow_len (omega (arith, pos.1)) in
    omega (arith, more, ok.rotation, rate)

pub offset_bounds-fast_packets-k : goal.offset_bounds-fast_packets-k
offset_bounds-fast_packets-k c =
    let s = c.args.self.now.run.schedule in
    let h = c.args.self.now.events in
    let ok = c.known.ensures.schedule in
    let p = plan_in_force s h in
    let S : TablePlace → Type 0 = IsPlace p.rounds in
    let is : c.in-Fast.k < p.rounds.fast_len = subst S c.in-Fast.is c.requires in
    let within = force_within s h ok c.known.ensures.lawful in
    let rate = rounds_rate s (known_of s ok) (in_force h) within in
    let most = (first_request s ok).rate in
    omega (arith, is, few_fast p.rounds (built_at s ok (in_force h) within).rounds (omega (arith, rate, most.1)))

pub offset_bounds-slow_packets-k : goal.offset_bounds-slow_packets-k
offset_bounds-slow_packets-k c =
    let s = c.args.self.now.run.schedule in
    let h = c.args.self.now.events in
    let ok = c.known.ensures.schedule in
    let p = plan_in_force s h in
    let S : TablePlace → Type 0 = IsPlace p.rounds in
    let is : c.in-Slow.k < p.rounds.slow_len = subst S c.in-Slow.is c.requires in
    let within = force_within s h ok c.known.ensures.lawful in
    let rate = rounds_rate s (known_of s ok) (in_force h) within in
    let most = (first_request s ok).rate in
    omega (arith, is, few_slow p.rounds (built_at s ok (in_force h) within).rounds (omega (arith, rate, most.1)))
