-- What a run in one thread leaves of its inputs (profile).
use Rattle.outcome.specs.declared.ended.Ended.{Ended}
use Rattle.serial.specs.Feeding.{SerialInput}

abbrev pub ended_of : {R : Type 0} → SerialInput R → Ended R
ended_of x = record { report = x.inlet.report; is_closed = x.is_closed; lent = x.inlet.stream.source }
