-- The numbers of a service (profile).
use Rattle.request.specs.Request.{ServiceValue}
use Rattle.plan_causes.specs.declared.service_numbers.ServiceNumbers.{ServiceNumbers}

abbrev pub numbers_of : ServiceValue → ServiceNumbers
numbers_of s = record { number = s.service; input = s.input; program = s.program }
