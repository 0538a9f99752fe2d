-- What no line of a trace says.
use Rattle.std.specs.Prelude.{List}
use Rattle.std.specs.List.{AllByRecursion}
use Rattle.apex_types.specs.declared.event.Event.{Event}

-- no line says so
abbrev pub NoLine : (Event → Type 0) → List Event → Type 0
NoLine Says lines = AllByRecursion (λ line. Says line → ⊥) lines
