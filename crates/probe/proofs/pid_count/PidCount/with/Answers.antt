use Rattle.std.proofs.Common.{◌≡◌, ◌+◌, ◌==◌, ℕ, if◌then◌else◌, arith, sym, ap, ◌∙◌}
use Rattle.rate_meter.specs.Line.{within_64}
use Rattle.probe.specs.Counts.{window_behind}
use Rattle.probe.proofs.CountLaws.{count_grows, begun_then, begun_else}
use Rattle.probe.proofs.pid_count.PidCount.with.Goals as goal
use Rattle.probe.proofs.pid_count.PidCount.with.Goals.{then-window-self, else-window-self}

pub returns : goal.returns
returns c = λ seen behind kept.
    let before : c.if-window-self.before ≡ (if window_behind seen == c.args.self.window then c.args.self.in_window else 0) =
    elim c.if-window-self.branch [
      | then-window-self w ↦ begun_then _ _ _ _ (sym behind ∙ w.if-window-self.true) w.before-is
      | else-window-self w ↦ begun_else _ _ _ _ (λ e. w.if-window-self.false (behind ∙ e)) w.before-is
    ] in
    let counted : c.saturating_add-in_window.result
    ≡ within_64 ((if window_behind seen == c.args.self.window then c.args.self.in_window else 0) + 1) =
    c.saturating_add-in_window.ensures ∙ ap (λ (n : ℕ). within_64 (n + 1)) before in
    count_grows c.args.sighting seen c.args.self _ kept c.with.ensures c.with-2.ensures c.with-3.ensures behind counted c.max.ensures
