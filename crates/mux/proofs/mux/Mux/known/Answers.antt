use Rattle.std.proofs.Common.{ℕ, List, subst, All}
use Rattle.tspkt.specs.Packet.{IsPacket}
use Rattle.schedule.specs.Laws.{IsMultiplexSchedule}
use Rattle.mux.specs.History.{History}
use Rattle.mux.specs.Lawful.{IsLawful}
use Rattle.mux.specs.Headline.{IsSound}
use Rattle.mux.proofs.Sound.{is_sound}
use Rattle.mux.proofs.mux.Mux.known.Goals as goal

pub returns-clause-schedule : goal.returns-clause-schedule
returns-clause-schedule c = let R : History → Type 0 = λ h. IsMultiplexSchedule h.run.schedule in subst R c.self.view_is c.self.invariant.0.agrees.schedule

pub returns-clause-lawful : goal.returns-clause-lawful
returns-clause-lawful c = let R : History → Type 0 = λ h. IsLawful h.run.schedule h.events in subst R c.self.view_is c.self.invariant.0.agrees.lawful

pub returns-clause-sound : goal.returns-clause-sound
returns-clause-sound c =
    let P : List (List ℕ) → Type 0 = All IsPacket in
    let R : History → Type 0 = IsSound in
    subst R c.self.view_is (is_sound c.self.invariant.0 (subst P c.self.invariant.0.packets_are c.known.ensures))
