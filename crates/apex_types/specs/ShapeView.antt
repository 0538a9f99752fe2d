-- How the definitions see the row that the code has for a service.
use Rattle.apex_types.specs.ServiceShape.{Shape}
use Rattle.apex_types.specs.declared.shape.Shape as declared

abbrev pub seen : declared.Shape → Shape
seen s = record { number = s.number; word = s.word.now; arguments = s.arguments.now; outputs = s.outputs; creates = s.creates }
