-- What the making of a request answers.
use Rattle.std.specs.Prelude.{◌≡◌, ◌⊎◌, ◌<◌, ◌^◌, ℕ, List, Option, Some, None}
use Rattle.request.specs.declared.plan_fault.PlanFault.{PlanFault}
use Rattle.request.specs.declared.plan_fault.PlanFault.TheVariants.{BadText, Memory}
use Rattle.request.specs.declared.service_parts.ServiceParts.{ServiceParts}
use Rattle.request.specs.declared.stream_row.StreamRow.{StreamRow}
use Rattle.request.specs.Parts.{PartsValue}
use Rattle.request.specs.Text.{text_parts}
use Rattle.request.specs.Request.{natural_of, request_fault_of}

-- the parts' fault, and want of memory only where they have none
abbrev pub IsFaultOf : PartsValue → PlanFault → Type 0
IsFaultOf p Memory = request_fault_of p ≡ None
IsFaultOf p fault = request_fault_of p ≡ Some fault

-- the fault of what a text writes
abbrev pub fault_of_parts : Option PartsValue → Option PlanFault
fault_of_parts None = Some BadText
fault_of_parts (Some p) = request_fault_of p

abbrev pub text_fault_of : List ℕ → Option PlanFault
text_fault_of text = fault_of_parts (text_parts text)

-- the text's fault, or want of memory
abbrev pub IsFaultOfText : List ℕ → PlanFault → Type 0
IsFaultOfText text e = (e ≡ Memory) ⊎ (text_fault_of text ≡ Some e)

-- numbers that fit 8 and 16 bits

pub record HasShortIds (p : PartsValue) : Type 0 where
  pub version : natural_of p.version < 2 ^ 8
  pub transport_stream_id : natural_of p.transport_stream_id < 2 ^ 16
  pub original_network_id : natural_of p.original_network_id < 2 ^ 16
  pub network_id : natural_of p.network_id < 2 ^ 16

pub record HasShortNumbers (s : ServiceParts) : Type 0 where
  pub program : natural_of s.program < 2 ^ 16
  pub service : natural_of s.service < 2 ^ 16
  pub pmt : natural_of s.pmt < 2 ^ 16

pub record HasShortPids (r : StreamRow) : Type 0 where
  pub pid : natural_of r.pid < 2 ^ 16
  pub out : natural_of r.out < 2 ^ 16
