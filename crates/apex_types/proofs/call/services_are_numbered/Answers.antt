use Rattle.apex_types.proofs.Numbers.{service_of_number, service_of_above}
use Rattle.apex_types.proofs.call.services_are_numbered.Goals as goal

pub returns : goal.returns
returns c = record { each = service_of_number; others = service_of_above }
