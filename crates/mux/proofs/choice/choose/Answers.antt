use Rattle.std.proofs.Common.{refl, arith}
use Rattle.std.proofs.lemmas.Option.{slice_get-get_or}
use Rattle.request.specs.declared.stream.Stream.{Stream}
use Rattle.mux.proofs.HeadTimes.{length_heads}
use Rattle.mux.proofs.Choices.{none_due, first_goes}
use Rattle.mux.proofs.choice.choose.Goals as goal

pub returns-then-now-head-clause-none : goal.returns-then-now-head-clause-none
returns-then-now-head-clause-none c = none_due c.requires.heads c.args.progress.now.buckets c.args.now c.in-Some.index c.in-Some.head c.in-Some.ensures.some c.if-now-head.true

pub returns-then-fits-clause-some : goal.returns-then-fits-clause-some
returns-then-fits-clause-some c =
    let nobody : Stream = record { input = 0; pid = 0; output_pid = 0; leak = 0 } in
    let within = c.in-Some.ensures.some.within in
    let here = slice_get-get_or c.args.streams.now c.in-Some.index nobody (omega (arith, length_heads c.requires.heads)) in
    first_goes c.requires.heads c.args.progress.now.buckets c.args.now c.in-Some.index c.in-Some.head c.in-Some.ensures.some c.if-now-head.false (let ranked = c.in-Some.ensures.ranked in omega arith) c.bucket.result c.bucket.ensures (c.if-fits.ensures.room.0 refl) _ here
