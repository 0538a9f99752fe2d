-- Services that wait while preemption is locked.
use Rattle.std.specs.Prelude.{Bool, true, false, ◌&&◌, List, [], ◌++◌, flat_map}
use Rattle.apex_types.specs.ServiceShape.{service_word}
use Rattle.apex_types.specs.declared.service.Service.{Service}
use Rattle.apex_types.specs.declared.service.Service.TheVariants as service
use Rattle.pal_meaning.specs.Syntax as written
use Rattle.lint.specs.Lives.{found, may_wait}
use Rattle.lint.specs.Plain.{Plain, plains}
use Rattle.lint.specs.Views.{Found, if_so}
use Rattle.lint.specs.declared.finding.FindingKind.TheVariants as finding

-- whether preemption is locked after a service, if it was so before
abbrev pub locked_after_service : Bool → Service → Bool
locked_after_service locked service.LockPreemption = true
locked_after_service locked service.UnlockPreemption = false
locked_after_service locked _ = locked

-- the same after a statement; after one with a block it is not known
abbrev pub locked_after : Bool → written.Stmt → Bool
locked_after locked (written.CallService s arguments targets) = locked_after_service locked s
locked_after locked (written.If test block) = false
locked_after locked (written.IfElse test block other) = false
locked_after locked (written.While test block) = false
locked_after locked _ = locked

abbrev pub wait_while_locked : Bool → Service → List Plain → List Found
wait_while_locked locked s arguments = if_so (locked && may_wait s arguments) (found finding.WaitWhileLocked (service_word s))

-- The services that may wait although a call of LOCK_PREEMPTION is before them, in their block or in one around it, and no statement
-- between the two unlocks preemption or has a block that ends there.
abbrev mutual
  pub waits_while_locked : (locked : Bool) → written.Block → List Found
  waits_while_locked locked written.NoStmt = []
  waits_while_locked locked (written.MoreStmts s rest) = waits_while_locked_in locked s ++ waits_while_locked (locked_after locked s) rest

  pub waits_while_locked_in : (locked : Bool) → written.Stmt → List Found
  waits_while_locked_in locked (written.CallService s arguments targets) = wait_while_locked locked s (plains arguments)
  waits_while_locked_in locked (written.If test block) = waits_while_locked locked block
  waits_while_locked_in locked (written.IfElse test block other) = waits_while_locked locked block ++ waits_while_locked locked other
  waits_while_locked_in locked (written.While test block) = waits_while_locked locked block
  waits_while_locked_in locked _ = []

-- of processes, and of procedures: in INIT and in the handler nothing is locked
abbrev pub locked_in_body : written.Body → List Found
locked_in_body b = waits_while_locked false b.block

abbrev pub locked_in_kind : written.Kind → List Found
locked_in_kind (written.Procedure parameters body) = locked_in_body body
locked_in_kind _ = []

abbrev pub locked_in_processes : List written.Process → List Found
locked_in_processes ps = flat_map (λ p. locked_in_body p.body) ps

abbrev pub locked_in_procedures : List written.Declaration → List Found
locked_in_procedures ds = flat_map (λ d. locked_in_kind d.kind) ds

abbrev pub locked_waits : written.Program → List Found
locked_waits p = locked_in_processes p.processes ++ locked_in_procedures p.declarations
