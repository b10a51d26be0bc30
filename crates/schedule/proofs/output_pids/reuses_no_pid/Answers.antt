use Rattle.std.proofs.Common.{◌∙◌, List, sym, subst}
use Rattle.request.specs.declared.stream.Stream.{Stream}
use Rattle.request.specs.Request.{ServiceValue}
use Rattle.schedule.specs.Switches.{KeepsStreams, KeepsPmts}
use Rattle.schedule.proofs.PidLaws.{unlike}
use Rattle.schedule.proofs.output_pids.reuses_no_pid.Goals as goal

pub returns-then-keeps_streams : goal.returns-then-keeps_streams
returns-then-keeps_streams c =
    let streams : List Stream → Type 0 = λ xs. KeepsStreams c.args.earlier.now c.args.before.now xs in
    let services : List ServiceValue → Type 0 = λ vs. KeepsPmts c.args.earlier.now c.args.before.now vs in (
      λ e. record {
        streams = subst streams c.streams.ensures.value (c.keeps_streams.ensures.0 c.if-keeps_streams.true);
        services = subst services c.services.ensures.value (c.keeps_pmts.ensures.0 e);
      },
      λ r. c.keeps_pmts.ensures.1 (subst services (sym c.services.ensures.value) r.services),
    )

pub returns-else-keeps_streams : goal.returns-else-keeps_streams
returns-else-keeps_streams c =
    let streams : List Stream → Type 0 = λ xs. KeepsStreams c.args.earlier.now c.args.before.now xs in (
      λ e. absurd (unlike (sym c.if-keeps_streams.false ∙ e)),
      λ r. c.keeps_streams.ensures.1 (subst streams (sym c.streams.ensures.value) r.streams),
    )
