-- The costs of an accepted program have 64 bits, so the count is the sum.
use Rattle.std.proofs.Common.{◌≡◌, ℕ, ◌+◌, ◌<◌, List, [], ◌∷◌, length, map, drop, get_or, Option, Some, None, sym, ap, ◌∙◌, subst, arith}
use Rattle.std.specs.Prelude.{min}
use Rattle.std.specs.List.{sum}
use Rattle.std.proofs.Math.Logic.{∥∥₁_elim}
use Rattle.std.proofs.lemmas.List.{drop_more}
use Rattle.std.proofs.Props.{props}
use Rattle.apex_types.specs.declared.cost.Costs.{Costs}
use Rattle.compiling_laws.specs.Bounds.{IsHeld, IsBodyHeld, IsProcedureHeld, IsHandlerHeld, AreProcessesHeld, AreProceduresHeld, AreCostsHeld}
use Rattle.pal_meaning.specs.Program as program
use Rattle.pal_meaning.specs.BodyCosts as body_costs
use Rattle.compiling_laws.proofs.ProgramCosts.{accepted_costs}
use Rattle.pal_base.specs.Accepted.{IsAccepted}
use Rattle.pal_base.specs.Costs.{held, comes_to}
use Rattle.pal_base.specs.ProgramView.{body_of, procedure_of, process_of, program_of}
use Rattle.pal_base.specs.declared.cost.Cost.{Cost}
use Rattle.pal_base.specs.declared.program.Body.{Body}
use Rattle.pal_base.specs.declared.program.Procedure as code_procedure
use Rattle.pal_base.specs.declared.program.Process as code_process
use Rattle.pal_base.specs.declared.program.Program as code_program
use Rattle.pal.specs.Costs.{cost_of_body, cost_of_procedure_body}
use Rattle.pal.specs.declared.report.BodyCost.{BodyCost}
use Rattle.pal.specs.declared.report.BodyName.{BodyName}

-- ---- that costs have 64 bits is one fact

handler_prop : (costs : Costs) (o : Option program.Body) → IsProp (IsHandlerHeld costs o)
handler_prop costs None = hlevel props
handler_prop costs (Some b) = hlevel props

processes_prop : (costs : Costs) (ps : List program.Process) → IsProp (AreProcessesHeld costs ps)
processes_prop costs [] = hlevel props
processes_prop costs (p ∷ ps) = let rest = processes_prop costs ps in hlevel (props, rest)

procedures_prop : (costs : Costs) (ps : List program.Procedure) → IsProp (AreProceduresHeld costs ps)
procedures_prop costs [] = hlevel props
procedures_prop costs (p ∷ ps) = let rest = procedures_prop costs ps in hlevel (props, rest)

costs_prop : (costs : Costs) (p : program.Program) → IsProp (AreCostsHeld costs p)
costs_prop costs p = hlevel (props, handler_prop costs, processes_prop costs, procedures_prop costs)

pub checked_costs : (costs : Costs) (p : code_program.Program) → ∥ IsAccepted (program_of p) ∥₁ → AreCostsHeld costs (program_of p)
checked_costs costs p a = ∥∥₁_elim a (costs_prop costs (program_of p)) (λ h. accepted_costs costs h.ports h.period h.text h.tree (program_of p) h.written.1 h.written.0.1 h.judged)

-- ---- what is counted is the sum

held_is : (n : ℕ) → IsHeld n → held n ≡ n
held_is n h = omega arith

-- a row of the report, from what was counted
abbrev row : BodyName → ℕ → ℕ → ℕ → BodyCost
row name n f k = record { name = name; instructions = n; frame = f; cost = k }

same_row : (name : BodyName) (ticks : List ℕ) (c : Cost) (size n f frame : ℕ) → n ≡ min size 18446744073709551615 → f ≡ min frame 18446744073709551615 → c ≡ comes_to ticks → IsHeld size → IsHeld (sum ticks) → IsHeld frame
    → row name n f c.ticks ≡ row name size frame (sum ticks)
same_row name ticks c size n f frame n_is f_is c_is size_fits ticks_fit frame_fits =
    ap (λ i. row name i f c.ticks) (n_is ∙ held_is size size_fits)
    ∙ ap (λ j. row name size j c.ticks) (f_is ∙ held_is frame frame_fits)
    ∙ ap (row name size frame) (ap (λ (d : Cost). d.ticks) c_is ∙ held_is (sum ticks) ticks_fit)

pub body_is : (costs : Costs) (name : BodyName) (b : Body) (c : Cost) (n f : ℕ) → n ≡ min (program.size_of_body (body_of b)) 18446744073709551615 → f ≡ min (program.frame_of_body (body_of b)) 18446744073709551615 → c ≡ comes_to (body_costs.costs_of_body costs (body_of b)) → IsBodyHeld costs (body_of b)
    → record { name = name; instructions = n; frame = f; cost = c.ticks } ≡ cost_of_body costs name b
body_is costs name b c n f n_is f_is c_is h = same_row name (body_costs.costs_of_body costs (body_of b)) c (program.size_of_body (body_of b)) n f (program.frame_of_body (body_of b)) n_is f_is c_is h.0 h.1 h.2

pub procedure_is : (costs : Costs) (name : BodyName) (p : code_procedure.Procedure) (c : Cost) (n f : ℕ) → n ≡ min (program.size_of_procedure (procedure_of p)) 18446744073709551615 → f ≡ min (program.frame_of_procedure (procedure_of p)) 18446744073709551615 → c ≡ comes_to (body_costs.costs_of_procedure costs (procedure_of p)) → IsProcedureHeld costs (procedure_of p)
    → record { name = name; instructions = n; frame = f; cost = c.ticks } ≡ cost_of_procedure_body costs name p
procedure_is costs name p c n f n_is f_is c_is h = same_row name (body_costs.costs_of_procedure costs (procedure_of p)) c (program.size_of_procedure (procedure_of p)) n f (program.frame_of_procedure (procedure_of p)) n_is f_is c_is h.0 h.1 h.2

-- ---- one after the other

pub next_process : (costs : Costs) (ps : List code_process.Process) (i : ℕ) (p : code_process.Process) → i < length ps → p ≡ get_or ps i p → AreProcessesHeld costs (map process_of (drop i ps)) → IsBodyHeld costs (body_of p.body) × AreProcessesHeld costs (map process_of (drop (i + 1) ps))
next_process costs ps i p within is h = subst (λ qs. AreProcessesHeld costs (map process_of qs)) (drop_more ps i p within ∙ ap (λ q. q ∷ drop (i + 1) ps) (sym is)) h

pub next_procedure : (costs : Costs) (ps : List code_procedure.Procedure) (i : ℕ) (p : code_procedure.Procedure) → i < length ps → p ≡ get_or ps i p → AreProceduresHeld costs (map procedure_of (drop i ps)) → IsProcedureHeld costs (procedure_of p) × AreProceduresHeld costs (map procedure_of (drop (i + 1) ps))
next_procedure costs ps i p within is h = subst (λ qs. AreProceduresHeld costs (map procedure_of qs)) (drop_more ps i p within ∙ ap (λ q. q ∷ drop (i + 1) ps) (sym is)) h
