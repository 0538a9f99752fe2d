use Rattle.std.proofs.Common.{◌≡◌, ◌++◌, drop}
use Rattle.trace_page.specs.Escaping.{escaped}
use Rattle.trace_page.proofs.escaping.push_escaped.Given as goal

-- the bytes so far, and those of the rest, are all
abbrev pub invariant-loop-byte : goal.invariant-loop-byte
invariant-loop-byte l = l.out.items ++ escaped (drop l.byte-index l.text) ≡ l.initial.out.items ++ escaped l.text
