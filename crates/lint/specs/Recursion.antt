-- Procedures that call themselves without an end.
use Rattle.std.specs.Prelude.{ℕ, Bool, true, false, not, ◌&&◌, ◌||◌, List, [], ◌∷◌, Some, flat_map}
use Rattle.std.specs.List.{list_any}
use Rattle.std.specs.Str.{bytes_eq}
use Rattle.pal_meaning.specs.Syntax as written
use Rattle.lint.specs.Mentions.{Mention, Apply, Write, Test, Ask, mentions_of}
use Rattle.lint.specs.Plain.{Plain, is_name, name_in}
use Rattle.lint.specs.Views.{Found, if_so}
use Rattle.lint.specs.declared.finding.FindingKind.TheVariants as finding

-- these names are the arguments, in their order
abbrev pub are_passed_on : List (List ℕ) → List Plain → Bool
are_passed_on [] [] = true
are_passed_on [] (a ∷ arguments) = false
are_passed_on (p ∷ ps) [] = false
are_passed_on (p ∷ ps) (a ∷ arguments) = is_name p (name_in (Some a)) && are_passed_on ps arguments

-- What a procedure of this name and these parameters may do: it calls itself; it does so with its parameters as they are; it tests
-- something; it writes a variable, asks for a service or calls another procedure.
pub data Doing : Type 0 where
  Calls : Doing
  Repeats : Doing
  Tests : Doing
  Changes : Doing

abbrev pub does : Doing → (name : List ℕ) → (parameters : List (List ℕ)) → Mention → Bool
does Calls name parameters (Apply other arguments) = bytes_eq other name
does Repeats name parameters (Apply other arguments) = bytes_eq other name && are_passed_on parameters arguments
does Changes name parameters (Apply other arguments) = not (bytes_eq other name)
does Changes name parameters (Write variable thing) = true
does Changes name parameters (Ask may_wait) = true
does Tests name parameters Test = true
does _ name parameters _ = false

-- It calls itself, and nothing is tested; or it calls itself with its parameters as they are, and nothing is changed.
abbrev pub is_endless : List ℕ → List (List ℕ) → List Mention → Bool
is_endless name parameters done =
    (list_any (does Calls name parameters) done && not (list_any (does Tests name parameters) done))
    || (list_any (does Repeats name parameters) done && not (list_any (does Changes name parameters) done))

abbrev pub endless_procedure : written.Kind → List ℕ → List Found
endless_procedure (written.Procedure parameters body) name = if_so (is_endless name parameters (mentions_of body)) (record { kind = finding.EndlessRecursion; subject = name })
endless_procedure _ name = []

abbrev pub endless_procedures : List written.Declaration → List Found
endless_procedures ds = flat_map (λ d. endless_procedure d.kind d.name) ds
