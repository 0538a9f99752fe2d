-- The sizes, costs and frames of the bodies of a program, where these numbers have 64 bits.
use Rattle.std.specs.Prelude.{ℕ, ◌<◌, ◌^◌, List, [], ◌∷◌, Option, Some, None}
use Rattle.apex_types.specs.declared.cost.Costs.{Costs}
use Rattle.pal_meaning.specs.Program.{size_of_body, frame_of_body, size_of_procedure, frame_of_procedure}
use Rattle.pal_meaning.specs.BodyCosts.{cost_of_body, cost_of_procedure}
use Rattle.pal_meaning.specs.Program.{Program, Procedure, Body, Process}

-- a number of 64 bits
abbrev pub IsHeld : ℕ → Type 0
IsHeld n = n < 2 ^ 64

-- the instructions, the ticks and the words of stack of a body
abbrev pub IsBodyHeld : Costs → Body → Type 0
IsBodyHeld costs b = IsHeld (size_of_body b) × IsHeld (cost_of_body costs b) × IsHeld (frame_of_body b)

abbrev pub IsProcedureHeld : Costs → Procedure → Type 0
IsProcedureHeld costs p = IsHeld (size_of_procedure p) × IsHeld (cost_of_procedure costs p) × IsHeld (frame_of_procedure p)

abbrev pub IsHandlerHeld : Costs → Option Body → Type 0
IsHandlerHeld costs None = Unit {0}
IsHandlerHeld costs (Some b) = IsBodyHeld costs b

abbrev pub AreProcessesHeld : Costs → List Process → Type 0
AreProcessesHeld costs [] = Unit {0}
AreProcessesHeld costs (p ∷ ps) = IsBodyHeld costs p.body × AreProcessesHeld costs ps

abbrev pub AreProceduresHeld : Costs → List Procedure → Type 0
AreProceduresHeld costs [] = Unit {0}
AreProceduresHeld costs (p ∷ ps) = IsProcedureHeld costs p × AreProceduresHeld costs ps

-- all bodies of a program
abbrev pub AreCostsHeld : Costs → Program → Type 0
AreCostsHeld costs p = IsBodyHeld costs p.init × IsHandlerHeld costs p.handler × AreProcessesHeld costs p.processes × AreProceduresHeld costs p.procedures
