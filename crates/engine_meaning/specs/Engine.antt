-- A process on an engine: its remaining work (a control), the effect of one tick on it, and the
-- effect of a reply. The kernel is the same over every engine.
use Rattle.std.specs.Prelude.{ℤ, List, Option, Some, None, get_or}
use Rattle.apex_types.specs.declared.codes.ErrorKind.{ErrorKind}
use Rattle.apex_types.specs.declared.identity.Runner.{Runner}
use Rattle.apex_types.specs.declared.service.Call.{Call}
use Rattle.apex_types.specs.declared.identity.Runner.TheVariants as runner

-- the request of a process's tick to the kernel: none, a service call, a fault, or the end of the
-- body
pub data Asks : Type 0 where
  Nothing : Asks
  Calls : (call : Call) → Asks
  Faults : (error : ErrorKind) → Asks
  Ends : Asks

-- after a tick: the control, the partition's data, and the request
pub record Ticked (Control : Type 0) : Type 0 where
  pub control : Control
  pub words : List ℤ
  pub asks : Asks

-- The start of a body; one tick of a control over the partition's data; and the reply to a call: a
-- list of words, the return code first.
pub record Engine (Control : Type 0) : Type 0 where
  pub start : Runner → Control
  pub tick : Control → List ℤ → Ticked Control
  pub reply : Control → List ℤ → Control

-- The given body of INIT, of the handler or of a process; INIT's body if there is no such body.
abbrev pub or_init : {B : Type 0} → B → Option B → B
or_init init None = init
or_init init (Some b) = b

abbrev pub body_at : {B : Type 0} → B → Option B → List B → Runner → B
body_at init handler bodies runner.Init = init
body_at init handler bodies runner.Handler = or_init init handler
body_at init handler bodies (runner.Process p) = get_or bodies p.0 init
