-- The costs of the bodies of a source, and their shares in the time capacities.
use Rattle.std.specs.Prelude.{ℕ, List, [], ◌∷◌, ◌++◌, map, Option, Some, None}
use Rattle.apex_types.specs.declared.cost.Costs.{Costs}
use Rattle.pal_meaning.specs.BodyCosts as cost
use Rattle.pal_base.specs.Costs.{comes_to}
use Rattle.pal_base.specs.ProgramView.{body_of, procedure_of}
use Rattle.pal_base.specs.declared.program.Body.{Body}
use Rattle.pal_base.specs.declared.program.Procedure as code_procedure
use Rattle.pal_base.specs.declared.program.Process as code_process
use Rattle.pal_base.specs.declared.program.Program.{Program}
use Rattle.pal.specs.declared.report.BodyName.{BodyName}
use Rattle.pal.specs.declared.report.BodyName.TheVariants as name
use Rattle.schedule_load.specs.Shares.{share_of}
use Rattle.schedule_load.specs.declared.bodies.BodyLoad.{BodyLoad}
use Rattle.schedule_load.specs.declared.share.Share.{Share}

-- what the constructs of a body cost, each counted once
abbrev pub ticks_of_body : Costs → Body → ℕ
ticks_of_body costs b = (comes_to (cost.costs_of_body costs (body_of b))).ticks

-- the share of a cost in the time capacity of a process, if it is periodic and has one
abbrev pub capacity_share : (cost : ℕ) (period capacity : Option ℕ) → Option Share
capacity_share cost (Some period) (Some capacity) = Some (share_of cost capacity)
capacity_share cost _ _ = None

-- a body that is no process's
abbrev pub plain_load : BodyName → ℕ → BodyLoad
plain_load n cost = record { name = n; cost = cost; period = None; capacity = None; share = None }

abbrev pub handler_load : Costs → Option Body → List BodyLoad
handler_load costs None = []
handler_load costs (Some b) = plain_load name.Handler (ticks_of_body costs b) ∷ []

abbrev pub process_load : Costs → code_process.Process → BodyLoad
process_load costs p = record {
  name = name.Process p.name;
  cost = ticks_of_body costs p.body;
  period = p.period;
  capacity = p.capacity;
  share = capacity_share (ticks_of_body costs p.body) p.period p.capacity;
}

abbrev pub procedure_load : Costs → code_procedure.Procedure → BodyLoad
procedure_load costs p = plain_load (name.Procedure p.name) (comes_to (cost.costs_of_procedure costs (procedure_of p))).ticks

-- the bodies of a source: INIT, the handler, the processes, the procedures
abbrev pub loads_of : Costs → Program → List BodyLoad
loads_of costs p =
    plain_load name.Init (ticks_of_body costs p.init) ∷ handler_load costs p.handler
    ++ map (process_load costs) p.processes.items ++ map (procedure_load costs) p.procedures.items
