use Rattle.std.proofs.Common.{◌<◌, ◌≤◌, ◌+◌, ℕ, List, length, take, drop, Err, sym, subst, ◌∙◌, ap, arith}
use Rattle.std.proofs.lemmas.List.{take_all}
use Rattle.std.proofs.lemmas.Result.{err_from_is_err_and}
use Rattle.outlet.specs.declared.outlet.Outlet.{Outlet}
use Rattle.handing.specs.Outputs.{IsPut}
use Rattle.handing.proofs.WritingLaws.{Puts, puts_nothing, puts_packet, puts_all, fails_packet, one_taken, parted}
use Rattle.handing.proofs.output_worker.put_all.Goals as goal

pub loop-packet-init : goal.loop-packet-init
loop-packet-init g c = record { puts = puts_nothing g.W.Sink.contents g.W.Sink.failures c.args.outlet.now }

pub loop-packet-preserved : goal.loop-packet-preserved
loop-packet-preserved g c =
    let l = c.loop-packet in
    let xs = c.args.packets.now in
    let k = l.packet-index in
    let x = c.packet-item.result in
    let within : k < length xs = omega arith in
    let b : Outlet _ = record { output = c.put.new.self; sink = c.put.new.sink } in
    let put = c.in_ok-put.ensures in
    let P : List (List ℕ) → Type 0 = λ v. Puts g.W.Sink.contents g.W.Sink.failures c.args.outlet.now v b in
    record {
      puts = subst P (one_taken xs k x within c.packet-item.is)
          (puts_packet g.W.Sink.contents g.W.Sink.failures c.args.outlet.now (take k xs) l.outlet x b l.invariant.puts put.analysed put.written put.failures);
    }

pub returns-in_err-put : goal.returns-in_err-put
returns-in_err-put g c =
    let l = c.loop-packet in
    let xs = c.args.packets.now in
    let k = l.packet-index in
    let x = c.packet-item.result in
    let within : k < length xs = omega arith in
    let b : Outlet _ = record { output = c.put.new.self; sink = c.put.new.sink } in
    let passed = err_from_is_err_and c.from_residual.result c.from_residual.ensures.1 in
    let P : List (List ℕ) → Type 0 = λ v. IsPut g.W.Sink.contents g.W.Sink.failures c.args.outlet.now v b c.from_residual.result in
    subst P (parted xs k x within c.packet-item.is)
    (fails_packet g.W.Sink.contents g.W.Sink.failures c.args.outlet.now (take k xs) l.outlet x (drop (k + 1) xs) b c.put.result passed.0 c.from_residual.result
    l.invariant.puts (c.in_err-put.was ∙ ap Err (sym passed.2)) passed.1 c.put.ensures.begun c.put.ensures.memory c.put.ensures.failed)

pub returns : goal.returns
returns g c =
    let l = c.loop-packet in
    let xs = c.args.packets.now in
    let all : length xs ≤ l.packet-index = omega arith in
    let P : List (List ℕ) → Type 0 = λ v. Puts g.W.Sink.contents g.W.Sink.failures c.args.outlet.now v l.outlet in
    puts_all g.W.Sink.contents g.W.Sink.failures c.args.outlet.now xs l.outlet tt (subst P (take_all l.packet-index xs all) l.invariant.puts)
