-- A chosen service without where its parts lie in memory.
use Rattle.request.specs.Request.{service_value}
use Rattle.selection.specs.Chosen.{ChosenValue}
use Rattle.selection.specs.declared.chosen_service.ChosenService.{ChosenService}

abbrev pub chosen_value : ChosenService → ChosenValue
chosen_value c = record { service = service_value c.service.now; pmt = c.pmt.now; row = c.row.now; service_type = c.service_type }
