-- The numbers of the faults of a plan (profile).
use Rattle.std.specs.Prelude.{ℕ}
use Rattle.request.specs.declared.plan_fault.PlanFault.{PlanFault}
use Rattle.request.specs.declared.plan_fault.PlanFault.TheVariants.{BadText, OutOfRange, ServiceTaken, PidTaken, NoProgram, NoSdtRow, CaFound, RateMissing, StreamUnknown, TooLarge, RoundTooLong, PeriodTooLong, Memory, SwitchUneven, VersionWrong, PidReused, SwitchSlot, SwitchTooLong}

abbrev pub number_of : PlanFault → ℕ
number_of BadText = 1
number_of OutOfRange = 2
number_of ServiceTaken = 3
number_of PidTaken = 4
number_of NoProgram = 5
number_of NoSdtRow = 6
number_of CaFound = 7
number_of RateMissing = 8
number_of StreamUnknown = 9
number_of TooLarge = 10
number_of RoundTooLong = 11
number_of PeriodTooLong = 12
number_of Memory = 13
number_of SwitchUneven = 14
number_of VersionWrong = 15
number_of PidReused = 16
number_of SwitchSlot = 17
number_of SwitchTooLong = 18
