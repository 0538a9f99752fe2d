-- The text that listings have written.
use Rattle.std.proofs.Common.{◌≡◌, ℕ, ◌+◌, List, true, length, Result, Ok, Err, ap, sym, subst, arith, ◌∙◌}
use Rattle.std.proofs.Math.Seq.{take-length}
use Rattle.std.specs.Prelude.{OnErr, OnOk}
use Rattle.std.specs.Io.KnownBytes.{Appends, Keeps}
use Rattle.std.proofs.KnownBytes.{Appends-kept}
use Rattle.apex_types.specs.declared.sink.SinkFault.{SinkFault}
use Rattle.streams.specs.States.{Seen}
use Rattle.command_line.specs.Listed.{IsShown}

-- a text that was written, and then flushed
pub shown_to_end : {X : Type 0} (text : List ℕ) (old mid new : Seen) (answer : Result X SinkFault) → Appends old.taken mid.taken text × (mid.failures ≡ old.failures) → Keeps mid.taken new.taken
    → OnOk answer (new.is_flushed ≡ true) → OnOk answer (new.failures ≡ mid.failures) → OnErr answer (new.failures ≡ mid.failures + 1) → IsShown text old new answer
shown_to_end text old mid new (Ok x) (written, none) kept flushed quiet failed = (Appends-kept old.taken mid.taken new.taken text written kept, (quiet ∙ none, flushed))
shown_to_end text old mid new (Err e) (written, none) kept flushed quiet failed =
    ((length text, omega arith, subst (Appends old.taken new.taken) (sym (take-length text)) (Appends-kept old.taken mid.taken new.taken text written kept)), failed ∙ ap (λ (n : ℕ). n + 1) none)
