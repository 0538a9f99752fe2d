-- What the counts after a line are: those of errors and of messages.
use Rattle.std.specs.Prelude.{◌≡◌, ℕ, Bool, true, false, List, Option, Some, None}
use Rattle.apex_types.specs.declared.event.EventKind.{EventKind}
use Rattle.apex_types.specs.declared.event.EventKind.TheVariants as event
use Rattle.trace_view.specs.Counting.{route_of}
use Rattle.trace_view.specs.Errors as errors
use Rattle.trace_view.specs.Traffic as traffic
use Rattle.trace_view.specs.declared.errors.Errors.{Errors}
use Rattle.trace_view.specs.declared.messages.Route.{Route}
use Rattle.trace_view.specs.declared.traffic.Traffic.{Traffic}

-- ---- errors

-- the line of an error is counted, any other changes nothing
abbrev pub HasError : Option (List ℕ) → EventKind → Errors → Errors → Type 0
HasError partition (event.Error e who response) old new = errors.IsCounted partition e response old.totals.items new.totals.items
HasError partition (event.State who state) old new = new ≡ old
HasError partition (event.Return who service code) old new = new ≡ old
HasError partition (event.Mode mode) old new = new ≡ old
HasError partition (event.Report who words) old new = new ≡ old
HasError partition (event.Move port words) old new = new ≡ old
HasError partition (event.Arrive port words) old new = new ≡ old
HasError partition (event.Lost port words) old new = new ≡ old
HasError partition (event.Out channel words) old new = new ≡ old

-- only in the window
abbrev pub HasErrorIf : Bool → Option (List ℕ) → EventKind → Errors → Errors → Type 0
HasErrorIf true partition kind old new = HasError partition kind old new
HasErrorIf false partition kind old new = new ≡ old

-- ---- messages

-- The message of a line is counted at its port or channel, of its partition. A line without a message changes nothing.
abbrev pub HasMessage : Option (List ℕ) → Option Route → EventKind → Traffic → Traffic → Type 0
HasMessage None route kind old new = new ≡ old
HasMessage (Some name) None kind old new = new ≡ old
HasMessage (Some name) (Some route) kind old new = traffic.IsCounted name route kind old.passages.items new.passages.items

abbrev pub HasMessageIf : Bool → Option (List ℕ) → EventKind → Traffic → Traffic → Type 0
HasMessageIf true partition kind old new = HasMessage partition (route_of kind) kind old new
HasMessageIf false partition kind old new = new ≡ old
