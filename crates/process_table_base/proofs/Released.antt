-- The first of a list is released first, and the processes that continue to wait keep their order.
use Rattle.std.proofs.Common.{◌≡◌, ℕ, true, false, [], ◌∷◌, Option, Some, None, refl, slice_get}
use Rattle.std.specs.Prelude.{IfSome, if◌then◌else◌}
use Rattle.apex_types.specs.declared.codes.Discipline.{Discipline}
use Rattle.apex_types.specs.declared.codes.ProcessState.TheVariants.{Ready}
use Rattle.apex_types.specs.declared.codes.ReturnCode.{ReturnCode}
use Rattle.apex_types.specs.declared.event.EventKind.TheVariants as event
use Rattle.apex_types.specs.declared.identity.ListKey.{ListKey}
use Rattle.apex_types.specs.declared.identity.Runner.{Runner}
use Rattle.apex_types.specs.declared.identity.Runner.TheVariants as runner
use Rattle.apex_types.specs.declared.process.Entry.{Entry}
use Rattle.apex_types.specs.declared.process.ProcessStatus.{ProcessStatus}
use Rattle.apex_types.specs.declared.process.Wait.TheVariants as wait
use Rattle.kernel_meaning.specs.Processes.{Processes, leaves_queues, no_longer_waits, numbered, put_ready, put_unready, released, wakes}
use Rattle.kernel_meaning.specs.Queues.{Queues, list_at}
use Rattle.kernel_meaning.specs.Step.{Step, nothing}
use Rattle.kernel_laws.specs.WaitingOrder.{AreQueues}
use Rattle.kernel_laws.proofs.WaitingOrder.{leaves, released_first}
use Rattle.process_table_base.specs.LeastNumber.{IsLeast}

pub first_is_least : (disciplines : ListKey → Discipline) (number : ℕ → ℕ) (next : ℕ) (k : ListKey) (queues : Queues) (e : Entry) (o : Option ProcessStatus) → slice_get (list_at queues k) 0 ≡ Some e → AreQueues disciplines number next queues → IfSome (numbered e.process o) (λ found. IsLeast (disciplines k) number (list_at queues k) found.0)
first_is_least disciplines number next k queues e None is h = tt
first_is_least disciplines number next k queues e (Some r) is h = (e, refl, (released_first disciplines number next k e queues h).0 is)

module _ (disciplines : ListKey → Discipline) (number : ℕ → ℕ) (next : ℕ) where
  abbrev Keeps : Processes → Step Processes → Type 0
  Keeps s t = AreQueues disciplines number next s.queues → AreQueues disciplines number next t.part.queues

  left : (p : Runner) (queues : Queues) → AreQueues disciplines number next queues → AreQueues disciplines number next (leaves_queues p queues)
  left runner.Init queues h = h
  left runner.Handler queues h = h
  left (runner.Process p) queues h = leaves disciplines number next p.0 queues h

  wakes_keeps : (s : Processes) (p : Runner) (r : ProcessStatus) → Keeps s (wakes s p r)
  wakes_keeps s p r h =
      let ready = record r { state = Ready; wait = wait.Nothing; due = None } in
      elim r.suspended as (λ b. AreQueues disciplines number next (if b then nothing (put_unready s p (record r { wait = wait.Nothing; due = None })) else record { part = put_ready s p ready; lines = event.State r.who Ready ∷ []; actions = [] }).part.queues) [ true ↦ h | false ↦ h ]

  pub release_keeps : (s : Processes) (p : Runner) (r : ProcessStatus) (c : ReturnCode) → Keeps s (released s p r c)
  release_keeps s p r c h = wakes_keeps (no_longer_waits s p) p r (left p s.queues h)
