use Rattle.std.proofs.Common.{◌≡◌, ◌≤◌, ◌+◌, drop}
use Rattle.trace_page.specs.States.{wrong_from}
use Rattle.trace_page.specs.declared.states.Place.TheVariants as place
use Rattle.trace_page.proofs.states.wrong_row.Given as goal

-- the rest from here is as the whole, and there are no more lines than bytes
abbrev pub invariant-loop-byte : goal.invariant-loop-byte
invariant-loop-byte l =
    (wrong_from l.place l.line (drop l.byte-index l.text) ≡ wrong_from place.Row 1 l.text) × (l.line ≤ l.byte-index + 1)
