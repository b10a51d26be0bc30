use Rattle.std.proofs.Common.{◌≡◌, ◌+◌, List, [], ◌∷◌, ◌++◌, Vec, Global, subst, sym, ap, ◌∙◌}
use Rattle.std.specs.List.{All}
use Rattle.std.proofs.lemmas.List.Elements.{All-push}
use Rattle.probe.specs.declared.pid_survey.PidSurvey.{PidSurvey}
use Rattle.probe.specs.Probing.{IsCounted}
use Rattle.probe.proofs.SurveyLaws.{AreListed, listed_more, listed_same}
use Rattle.probe.proofs.surveying.survey_pids.Goals as goal
use Rattle.probe.proofs.surveying.survey_pids.Goals.{in-Some+in_ok-push, in_default}

pub loop-pid-preserved : goal.loop-pid-preserved
loop-pid-preserved c =
    let seen = c.args.kept.now.counts.now in
    let at = c.loop-pid.pid in
    let before = c.loop-pid.pids.items in
    let Counted : List PidSurvey → Type 0 = All (IsCounted seen) in
    let Listed : List PidSurvey → Type 0 = AreListed seen (at + 1) in
    elim c.match-survey_pid.branch [
      | in-Some+in_ok-push w ↦
          let items : c.match-survey_pid.pids.items ≡ before ++ w.in-Some.survey ∷ [] =
          ap (λ (v : Vec PidSurvey Global). v.items) w.pids-is ∙ w.in_ok-push.ensures.items in
          record {
            counted = subst Counted (sym items) (All-push (IsCounted seen) before w.in-Some.survey c.loop-pid.invariant.counted w.in-Some.ensures.counted);
            listed = subst Listed (sym items) (listed_more seen at before w.in-Some.survey w.in-Some.ensures.pid c.loop-pid.invariant.listed);
          }
      | in_default w ↦
          let items : c.match-survey_pid.pids.items ≡ before = ap (λ (v : Vec PidSurvey Global). v.items) w.pids-is in
          record {
            counted = subst Counted (sym items) c.loop-pid.invariant.counted;
            listed = subst Listed (sym items) (listed_same seen at before w.in_default.ensures.none c.loop-pid.invariant.listed);
          }
    ]
