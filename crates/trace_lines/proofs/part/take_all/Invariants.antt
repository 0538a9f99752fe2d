use Rattle.std.proofs.Common.{◌≡◌, ◌++◌, List}
use Rattle.std.specs.VecDeque.{deque_len}
use Rattle.apex_types.specs.declared.event.Event.{Event}
use Rattle.trace_lines.specs.Parts.{IsRest}
use Rattle.trace_lines.proofs.part.take_all.Given as goal

-- these lines were taken so far
abbrev pub invariant-loop-line : goal.invariant-loop-line
invariant-loop-line l = (gone : List Event) × (l.initial.waiting.items ≡ gone ++ l.waiting.items) × ((lines : List Event) → IsRest l.initial.rest lines → IsRest l.rest (lines ++ gone))

abbrev pub decreases-loop-line : goal.decreases-loop-line
decreases-loop-line l = deque_len l.waiting
