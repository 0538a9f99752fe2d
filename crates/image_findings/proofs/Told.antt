-- Lines that report a fault at the place where it was seen.
use Rattle.std.proofs.Common.{◌≡◌, ℕ, ◌+◌, ◌-◌, ◌^◌, Bool, List, Option, Some, None, Result, Ok, Err}
use Rattle.std.specs.Prelude.{IfOk, IfSome, min}
use Rattle.machine_meaning.specs.ImageReading.{Fault, image_at}
use Rattle.finding_lines.specs.Lines.{IsAtByte}
use Rattle.finding_lines.specs.Reports.{Report}
use Rattle.image_findings.specs.Explained.{IsExplanation, IsOf, IsOfLimit, IsOfLimitIf, IsOfSeen, IsOfTrailing}
use Rattle.image_findings.specs.Seen.{IsSeenAt, has_all_fields}

pub of_fault : {A : Type 0} (view : A → List ℕ) (answer : Option A) (r : Report) (bytes : List ℕ) (fault : Fault) → image_at bytes ≡ Err fault → IfSome answer (λ a. IsOf r bytes (view a) fault) → IfSome answer (λ a. IsExplanation r bytes (view a))
of_fault view None r bytes fault is told = tt
of_fault view (Some a) r bytes fault is told = (fault, is, told)

pub of_limit : {A E : Type 0} (view : A → List ℕ) (answer : Result A E) (r : Report) (bytes : List ℕ) (all : Bool) → all ≡ has_all_fields bytes → IfOk answer (λ a. IsOfLimitIf all r bytes (view a)) → IfOk answer (λ a. IsOfLimit r bytes (view a))
of_limit view (Err e) r bytes all is told = tt
of_limit view (Ok a) r bytes all is told = (all, is, told)

pub of_seen : {A E : Type 0} (view : A → List ℕ) (answer : Result A E) (r : Report) (bytes : List ℕ) (place : ℕ) → IsSeenAt place bytes → IfOk answer (λ a. IsAtByte r place (view a)) → IfOk answer (λ a. IsOfSeen r bytes (view a))
of_seen view (Err e) r bytes place seen told = tt
of_seen view (Ok a) r bytes place seen told = (place, seen, told)

pub of_trailing : {A E : Type 0} (view : A → List ℕ) (answer : Result A E) (r : Report) (bytes : List ℕ) (place : ℕ) → IsSeenAt place bytes → IfOk answer (λ a. IsAtByte r (min (place + 1) (2 ^ 64 - 1)) (view a)) → IfOk answer (λ a. IsOfTrailing r bytes (view a))
of_trailing view (Err e) r bytes place seen told = tt
of_trailing view (Ok a) r bytes place seen told = (place, seen, told)
