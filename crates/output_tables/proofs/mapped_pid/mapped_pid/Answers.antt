use Rattle.std.proofs.Common.{arith, ◌≡◌, ◌<◌, ◌==◌, false, length, ap, sym, ◌∙◌, get_or, eq-eqb, List, ℕ}
use Rattle.std.proofs.lemmas.Bool.{ne_eqb}
use Rattle.output_tables.specs.Output.{output_pid_of}
use Rattle.output_tables.proofs.StreamLaws.{passed_none, passed_other, met}
use Rattle.output_tables.proofs.mapped_pid.mapped_pid.Goals as goal
use Rattle.output_tables.proofs.mapped_pid.mapped_pid.Goals.{in-Some+else-stream-pid, in_default}

pub returns-then-stream-pid : goal.returns-then-stream-pid
returns-then-stream-pid c =
    let numbers = c.args.service.now.streams.items in
    let i = c.loop-number.number-index in
    let n = get_or c.deref-number-items.result.now i 0 in
    let here : n ≡ get_or numbers i 0 = ap (λ (l : List ℕ). get_or l i 0) c.loop-number.invariant.items in
    let within : i < length numbers = let e = ap length c.loop-number.invariant.items in omega arith in
    let found = met c.args.request.now.streams c.args.pid numbers i n c.in-Some.stream within here (sym c.in-Some.ensures) (eq-eqb c.in-Some.stream.pid c.args.pid c.if-stream-pid.true) in
    ap output_pid_of (sym found ∙ c.loop-number.invariant.rest)

pub loop-number-preserved : goal.loop-number-preserved
loop-number-preserved c =
    let numbers = c.args.service.now.streams.items in
    let i = c.loop-number.number-index in
    let n = get_or c.deref-number-items.result.now i 0 in
    let here : n ≡ get_or numbers i 0 = ap (λ (l : List ℕ). get_or l i 0) c.loop-number.invariant.items in
    let within : i < length numbers = let e = ap length c.loop-number.invariant.items in omega arith in
    elim c.match-stream_at.branch [
      | in-Some+else-stream-pid w ↦ let no : (w.in-Some.stream.pid == c.args.pid) ≡ false = ne_eqb w.in-Some.stream.pid c.args.pid w.if-stream-pid.false in record {
        items = c.loop-number.invariant.items;
        rest = sym (passed_other c.args.request.now.streams c.args.pid numbers i n w.in-Some.stream within here (sym w.in-Some.ensures) no) ∙ c.loop-number.invariant.rest;
      }
      | in_default w ↦ record {
        items = c.loop-number.invariant.items;
        rest = sym (passed_none c.args.request.now.streams c.args.pid numbers i n within here (sym w.in_default.ensures)) ∙ c.loop-number.invariant.rest;
      }
    ]
