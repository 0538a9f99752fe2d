-- The calls of a program, as a table of them holds them.
use Rattle.std.specs.Prelude.{◌≡◌, ℕ, List}
use Rattle.std.specs.List.{list_any}
use Rattle.apex_types.specs.declared.denotation.ObjectKind.{ObjectKind}
use Rattle.apex_types.specs.declared.denotation.ObjectKind.TheVariants as object
use Rattle.pal_base.specs.View.{texts}
use Rattle.lint.specs.Calls.{Call}
use Rattle.lint.specs.Lives.{Creation, Start, meets}
use Rattle.lint.specs.Started.{is_started}
use Rattle.lint.specs.Unused.{is_used}
use Rattle.lint.specs.UsedNames.{used_names}
use Rattle.lint.specs.Views.{calls_seen}
use Rattle.lint.specs.declared.call_table.CallTable.TheInside.{Inside}
use Rattle.lint.specs.declared.used.Used.{Used}

abbrev pub calls_in : Inside → List Call
calls_in t = calls_seen (texts t.names.now.keys) t.calls.now

-- the names are those of what calls create of a kind
abbrev pub AreCreated : Used → ObjectKind → List Call → Type 0
AreCreated created kind calls = (name : List ℕ) → is_used (used_names created) name ≡ list_any (meets (Creation kind name)) calls

pub record IsCallTable (t : Inside) : Type 0 where
  pub semaphores : AreCreated t.semaphores object.Semaphore (calls_in t)
  pub events : AreCreated t.events object.Event (calls_in t)
  pub buffers : AreCreated t.buffers object.Buffer (calls_in t)
  pub blackboards : AreCreated t.blackboards object.Blackboard (calls_in t)
  pub ports : AreCreated t.ports object.Port (calls_in t)
  pub processes : AreCreated t.processes object.Process (calls_in t)
  pub starts : (number : ℕ) (name : List ℕ) → is_started t.starts number name ≡ list_any (meets (Start number name)) (calls_in t)
