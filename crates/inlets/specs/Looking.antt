-- What a look at an input keeps (profile).
use Rattle.std.specs.Prelude.{◌≡◌, ℕ, List, Option}
use Rattle.tspkt.specs.declared.stamped.Stamped.{Stamped}
use Rattle.schedule.specs.Schedule.{ScheduleValue}
use Rattle.reading.specs.Items.{left_to_read}
use Rattle.reading.specs.PacketReading.{HasRead, GoesOn}
use Rattle.reading.specs.Holding.{PacketReader}

-- a look among the items that were told, which reads nothing
pub record Looks {R : Type 0} (remaining : R → Option (List ℕ)) (failures : R → ℕ) (s : ScheduleValue) (old new : PacketReader R) : Type 0 where
  pub read : (bytes : List ℕ) (given : List Stamped) → HasRead remaining s old bytes given → HasRead remaining s new bytes given
  pub goes : GoesOn failures old new
  pub source : new.stream.source ≡ old.stream.source
  pub stopped : new.report.stopped ≡ old.report.stopped
  pub left : left_to_read new.stream.items ≡ left_to_read old.stream.items
