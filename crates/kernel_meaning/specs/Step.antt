-- The result of a step of the kernel, and how steps are combined. A service is a step over the part
-- of a partition's state that it reads and changes.
use Rattle.std.specs.Prelude.{◌-◌, ℤ, pos, negsuc, replicate, take, Bool, List, [], ◌∷◌, ◌++◌, if◌then◌else◌}
use Rattle.arrayvec.specs.ArrayVec.{ArrayVec}
use Rattle.apex_types.specs.declared.codes.ReturnCode.{ReturnCode}
use Rattle.apex_types.specs.declared.event.EventKind.{EventKind}
use Rattle.apex_types.specs.declared.event.EventKind.TheVariants as event
use Rattle.apex_types.specs.declared.event.Subject.{Subject}
use Rattle.apex_types.specs.declared.identity.Runner.{Runner}
use Rattle.apex_types.specs.Runners.{Action}
use Rattle.apex_types.specs.Runners as action
use Rattle.apex_types.specs.declared.service.Service.{Service}
use Rattle.apex_types.specs.CodeWords.{return_code_number}
use Rattle.apex_types.specs.ServiceShape.{answer_words}

-- The part after the step; what happened, in order; and the actions on the processor, the data and
-- the error queue, in order.
pub record Step (P : Type 0) : Type 0 where
  pub part : P
  pub lines : List EventKind
  pub actions : List Action

abbrev pub nothing : {P : Type 0} → P → Step P
nothing part = record { part = part; lines = []; actions = [] }

-- two steps in a row: the part after the second, the lines and actions of both
abbrev pub after : {P : Type 0} → Step P → Step P → Step P
after s rest = record { part = rest.part; lines = s.lines ++ rest.lines; actions = s.actions ++ rest.actions }

-- a step over a part, as a step over the whole
abbrev pub lifted : {P W : Type 0} → (P → W) → Step P → Step W
lifted put s = record { part = put s.part; lines = s.lines; actions = s.actions }

-- A service's checks with their codes, then its effect: the first check that holds decides.
abbrev pub row : {P : Type 0} → (ReturnCode → Step P) → List (Bool × ReturnCode) → Step P → Step P
row refused [] effect = effect
row refused (check ∷ checks) effect = if check.0 then refused check.1 else row refused checks effect

-- ---- answers

abbrev pub message : List ℤ → ArrayVec ℤ
message words = record { items = words }

-- the first n words; none for a negative number
abbrev pub first_words : ℤ → List ℤ → List ℤ
first_words (pos n) words = take n words
first_words (negsuc n) words = []

-- a service of p ends with a code and its outputs: its line, then the reply to the process
abbrev pub answered : {P : Type 0} → P → Runner → Subject → Service → ReturnCode → List ℤ → Step P
answered part p who service c outputs = record {
  part = part;
  lines = event.Return who service c ∷ [];
  actions = action.Reply p (message (pos (return_code_number c) ∷ outputs)) ∷ [];
}

-- the outputs of a refused service, which are 0
abbrev pub zeros : Service → List ℤ
zeros service = replicate (answer_words service - 1) (pos 0)
