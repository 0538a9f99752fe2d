-- Who holds the preemption lock of a partition, and at which level: by the lines of a trace, and by the kernel's state.
use Rattle.std.specs.Prelude.{ℕ, suc, ◌+◌, Bool, true, false, List, [], ◌∷◌, Option, Some, None, if◌then◌else◌, slice_get}
use Rattle.apex_types.specs.Runners.{place_of}
use Rattle.apex_types.specs.declared.codes.Mode.{Mode}
use Rattle.apex_types.specs.declared.codes.Mode.TheVariants as mode
use Rattle.apex_types.specs.declared.codes.ProcessState.{ProcessState}
use Rattle.apex_types.specs.declared.codes.ProcessState.TheVariants.{Dormant}
use Rattle.apex_types.specs.declared.codes.ReturnCode.{ReturnCode}
use Rattle.apex_types.specs.declared.codes.ReturnCode.TheVariants.{NoError}
use Rattle.apex_types.specs.declared.event.Event.{Event}
use Rattle.apex_types.specs.declared.event.EventKind.{EventKind}
use Rattle.apex_types.specs.declared.event.EventKind.TheVariants as event
use Rattle.apex_types.specs.declared.event.Subject.{Subject}
use Rattle.apex_types.specs.declared.identity.Runner.TheVariants as runner
use Rattle.apex_types.specs.declared.process.Lock.{Lock}
use Rattle.apex_types.specs.declared.process.Lock.TheVariants as lock
use Rattle.apex_types.specs.declared.process.ProcessStatus.{ProcessStatus}
use Rattle.apex_types.specs.declared.service.Service.{Service}
use Rattle.apex_types.specs.declared.service.Service.TheVariants as service
use Rattle.engine_meaning.specs.Digits.{same}
use Rattle.kernel_meaning.specs.Kernel.{Kernel}
use Rattle.kernel_meaning.specs.Processes.{who_of}
use Rattle.state_laws.specs.Told.{is_same}

-- a lock that is held: by whom, and at which level
pub record Held : Type 0 where
  pub holder : Subject
  pub level : ℕ

-- ---- by the lines

-- one level up; whoever locks a free lock is its holder
abbrev pub one_up : Subject → Option Held → Option Held
one_up who None = Some (record { holder = who; level = 1 })
one_up who (Some h) = Some (record h { level = h.level + 1 })

-- at level 0 the lock is free
abbrev pub below : Subject → ℕ → Option Held
below holder (suc (suc level)) = Some (record { holder = holder; level = suc level })
below holder _ = None

-- one level down
abbrev pub one_down : Option Held → Option Held
one_down None = None
one_down (Some h) = below h.holder h.level

-- free if it is this one that holds it
abbrev pub without : Subject → Option Held → Option Held
without who None = None
without who (Some h) = if is_same who h.holder then None else Some h

abbrev pub is_no_error : ReturnCode → Bool
is_no_error NoError = true
is_no_error _ = false

-- a service returns
abbrev pub returns : Subject → Service → ReturnCode → Option Held → Option Held
returns who service.LockPreemption c o = if is_no_error c then one_up who o else o
returns who service.UnlockPreemption c o = if is_no_error c then one_down o else o
returns who _ c o = o

-- a runner that is DORMANT holds no lock
abbrev pub becomes : Subject → ProcessState → Option Held → Option Held
becomes who Dormant o = without who o
becomes who _ o = o

-- at any mode but NORMAL the lock is free
abbrev pub enters : Mode → Option Held → Option Held
enters mode.Normal o = o
enters _ o = None

-- a line of the partition
abbrev pub locks : Option Held → EventKind → Option Held
locks o (event.Return who v c) = returns who v c o
locks o (event.State who state) = becomes who state o
locks o (event.Mode m) = enters m o
locks o _ = o

-- a line of the module says nothing of the lock
abbrev pub locked_by : List ℕ → Option Held → Option (List ℕ) → EventKind → Option Held
locked_by name o None kind = o
locked_by name o (Some other) kind = if same name other then locks o kind else o

-- after these lines, of which those of the partition with a name count
abbrev pub lock_from : List ℕ → Option Held → List Event → Option Held
lock_from name o [] = o
lock_from name o (l ∷ ls) = lock_from name (locked_by name o l.partition l.kind) ls

-- before the first line the lock is free
abbrev pub lock_by_lines : List ℕ → List Event → Option Held
lock_by_lines name lines = lock_from name None lines

-- ---- by the kernel

abbrev pub held_by : List ProcessStatus → Lock → Option Held
held_by rows lock.Free = None
held_by rows (lock.Held level holder) = Some (record { holder = who_of (slice_get rows (place_of (runner.Process holder))); level = level })

abbrev pub lock_in : Kernel → Option Held
lock_in k = held_by k.processes.rows k.processes.lock
