use Rattle.emission.proofs.schedule_laws.one_plan_sends.Goals as goal

pub returns : goal.returns
returns c = λ out. (λ h. h, λ h. h)
