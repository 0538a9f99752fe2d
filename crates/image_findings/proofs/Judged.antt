-- A test of how bytes are read is answered by their fault.
use Rattle.std.proofs.Common.{◌≡◌, Bool, Option, Some, None, Result, Ok, Err, sym, ap, ◌∙◌}
use Rattle.std.specs.Prelude.{IfOk, IfSome}
use Rattle.machine_meaning.specs.Image.{Image}
use Rattle.machine_meaning.specs.ImageReading.{Fault}
use Rattle.image_findings.specs.Seen.{IsAnswer}

pub by_fault : {E : Type 0} (test : Result Image Fault → Bool) (answer : Result Bool E) (fault : Option Fault) (read : Result Image Fault) → IfSome fault (λ f. read ≡ Err f) → IfOk answer (λ a. IsAnswer test fault a) → IfOk answer (λ a. a ≡ test read)
by_fault test (Err e) fault read is h = tt
by_fault test (Ok a) None read is h = absurd h
by_fault test (Ok a) (Some f) read is h = h ∙ ap test (sym is)
