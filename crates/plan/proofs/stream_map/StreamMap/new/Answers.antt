use Rattle.std.proofs.Common.{rules, arith, ◌≡◌, ◌+◌, ◌*◌, ℕ, List, Option, Some, get_or, length-set, ◌∙◌}
use Rattle.std.specs.Option.{option_or}
use Rattle.request.specs.declared.stream.Stream.{Stream}
use Rattle.plan.proofs.StreamPlaceLaws.{put_next, finds_taken}
use Rattle.plan.proofs.stream_map.StreamMap.new.Goals as goal

pub loop-number-preserved : goal.loop-number-preserved
loop-number-preserved c =
    let numbers : List (Option ℕ) = c.loop-number.numbers.items in
    let n : ℕ = c.loop-number.number in
    let d : Stream = record { input = 0; pid = 0; output_pid = 0; leak = 0 } in
    let s : Stream = get_or c.args.streams.now n d in
    let cell : ℕ = s.input * 8192 + c.from.result in
    let at : cell ≡ s.input * 8192 + s.pid = search rules in
    let value : c.or.result ≡ option_or c.index.result.now (Some n) = search rules in
    let read : c.index.result.now ≡ get_or numbers cell c.index.result.now = search rules in
    record {
      cells = length-set numbers cell c.or.result ∙ c.loop-number.invariant.cells;
      says = rw value (put_next c.args.inputs n cell c.index.result.now numbers c.args.streams.now d (omega arith) c.requires.known
          c.requires.pids c.loop-number.invariant.cells at read c.loop-number.invariant.says);
    }

pub returns : goal.returns
returns c = finds_taken c.args.inputs c.loop-number.number c.loop-number.numbers.items c.args.streams.now (omega arith) c.requires.known c.requires.pids c.loop-number.invariant.says
