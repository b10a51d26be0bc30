use Rattle.std.proofs.Common.{pos, sym, ◌∙◌, map, List}
use Rattle.std.proofs.lemmas.List.{at_drop_all}
use Rattle.request.specs.declared.stream_parts.StreamParts.{StreamParts}
use Rattle.request.specs.Request.{has_repeat}
use Rattle.request.proofs.TakenLaws.{repeat_none-map, repeat_some-map}
use Rattle.request.proofs.taken.has_pid_repeat.Goals as goal

pub returns-then-has_pid_of : goal.returns-then-has_pid_of
returns-then-has_pid_of c =
    sym (c.loop-i.invariant
    ∙ repeat_some-map (λ (r : StreamParts). r.pid) c.args.streams.now c.loop-i.i (record { pid = pos 0; out = pos 0; leak = pos 0 }) c.loop-i-test.true (sym c.has_pid_of.ensures ∙ c.if-has_pid_of.true))

pub loop-i-preserved : goal.loop-i-preserved
loop-i-preserved c =
    c.loop-i.invariant
    ∙ repeat_none-map (λ (r : StreamParts). r.pid) c.args.streams.now c.loop-i.i (record { pid = pos 0; out = pos 0; leak = pos 0 }) c.loop-i-test.true (sym c.has_pid_of.ensures ∙ c.if-has_pid_of.false)

pub returns : goal.returns
unfolding has_repeat
returns c =
    sym (c.loop-i.invariant ∙ at_drop_all (λ (xs : List StreamParts). has_repeat (map (λ (r : StreamParts). r.pid) xs)) c.args.streams.now c.loop-i.i c.loop-i-test.false)
