use Rattle.std.proofs.Common.{◌≡◌, ◌<◌, List, length, get_or, Option, Some, None, ap, sym, subst, ◌∙◌, arith}
use Rattle.std.specs.Prelude.{map}
use Rattle.std.proofs.lemmas.List.{get_or-map}
use Rattle.analyse.specs.PmtWatching.{PmtState, boxed_state}
use Rattle.tspkt.specs.Packet.{pid_of}
use Rattle.analyse.specs.Quiet.{LeavesPmt, LeavesPmts}
use Rattle.analyse.proofs.PmtWatchesLaws.{clear_on}
use Rattle.analyse.proofs.QuietLaws.{watch_rests}
use Rattle.analyse.proofs.pmt_watches.PmtWatches.rest_at.Goals as goal

pub returns-in-Some : goal.returns-in-Some
returns-in-Some c t =
    let ws = c.self.inside.watches.items in
    let place = c.from.result in
    let small : place < length ws = omega (arith, c.from.ensures, c.pid.ensures.fits, c.self.invariant) in
    let watch = c.in-Some.watch.value in
    let at : get_or (map boxed_state ws) place None ≡ Some watch =
    get_or-map boxed_state ws place c.index.result.now None small ∙ ap boxed_state (sym c.index.ensures ∙ c.in-Some.is) in
    let pid : pid_of c.args.packet.now ≡ place = sym (c.from.ensures ∙ c.pid.ensures.value) in
    let l = c.rests.ensures t place (clear_on place c.args.packet.now pid (sym c.scrambling.ensures ∙ c.if-scrambling-ne0.false)) in
    subst (λ (l : List (Option PmtState)). LeavesPmts l c.args.packet.now) c.self.view_is
    (watch_rests (map boxed_state ws) place watch c.args.packet.now at pid
    (subst (λ (w : PmtState). LeavesPmt place w c.args.packet.now) c.deref.ensures l))
