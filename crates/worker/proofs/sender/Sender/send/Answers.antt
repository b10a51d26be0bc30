use Rattle.std.proofs.Common.{◌≡◌, ◌⊎◌, inl, sym, ◌∙◌}
use Rattle.std.specs.Prelude.{Option, None, Some, IfSome}
use Rattle.std.proofs.lemmas.Option.{same_Some}
use Rattle.reading.specs.declared.stop.Stop.{Stop}
use Rattle.reading.specs.declared.stop.Stop.TheVariants.{Gate, Memory}
use Rattle.worker.proofs.sender.Sender.send.Goals as goal

gate_or_memory : (o : Option Stop) → IfSome o (λ s. s ≡ Gate) → IfSome o (λ s. (s ≡ Gate) ⊎ (s ≡ Memory))
gate_or_memory None gate = tt
gate_or_memory (Some s) gate = inl gate

no_memory : (o : Option Stop) → IfSome o (λ s. s ≡ Gate) → o ≡ Some Memory → ⊥
no_memory None gate is = cc
no_memory (Some s) gate is = (let bad : Gate ≡ Memory = sym gate ∙ same_Some s Memory is in cc)

pub returns-clause-over : goal.returns-clause-over
returns-clause-over g c is = c.send_all.ensures.over is

pub returns-clause-causes : goal.returns-clause-causes
returns-clause-causes g c = gate_or_memory c.send_all.result c.send_all.ensures.causes

pub returns-clause-refused : goal.returns-clause-refused
returns-clause-refused g c is = absurd (no_memory c.send_all.result c.send_all.ensures.causes is)

pub returns-clause-unfailed : goal.returns-clause-unfailed
returns-clause-unfailed g c is = c.send_all.ensures.unfailed is

pub returns-clause-stopped : goal.returns-clause-stopped
returns-clause-stopped g c is = c.send_all.ensures.stopped is

pub returns-clause-gate : goal.returns-clause-gate
returns-clause-gate g c other = c.send_all.ensures.gate other
