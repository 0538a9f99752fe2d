-- The dump that is made of the text of a trace, and why it ends before its end while the trace is read again.
use Rattle.std.specs.Prelude.{◌≡◌, ℕ, true, List, [], ◌∷◌, ◌++◌, Option, string_bytes}
use Rattle.apex_types.specs.declared.event.Event.{Event}
use Rattle.apex_types.specs.declared.identity.Ticks.{Ticks}
use Rattle.kernel_meaning.specs.Windows.{Schedule}
use Rattle.streams.specs.States.{HasFailed, Seen}
use Rattle.trace_lines.specs.Filters.{is_viewed}
use Rattle.trace_lines.specs.declared.filter.Filter.{Filter}
use Rattle.trace_picture.specs.Drawn.{shown_after}
use Rattle.trace_stays.specs.Shown.{shown_from, shown_ticks, with_read}
use Rattle.trace_text.specs.declared.stream.StreamFault.{StreamFault}
use Rattle.trace_text.specs.declared.stream.StreamFault.TheVariants as stream
use Rattle.trace_windows.specs.Whole.{AreWindowsIn, HaveClosed, HaveRead}
use Rattle.wave_dump.specs.declared.dump.Dump.{Dump}
use Rattle.wave_dump.specs.declared.fault.DumpFault.{DumpFault}
use Rattle.wave_dump.specs.declared.fault.DumpFault.TheVariants as dump
use Rattle.view_command.specs.Lines.{called}
use Rattle.view_command.specs.States.{State}
use Rattle.view_command.specs.Summed.{AreLinesIn}
use Rattle.view_command.specs.declared.dumping.Cut.{Cut}
use Rattle.view_command.specs.declared.dumping.Cut.TheVariants as cut
use Rattle.view_command.specs.declared.dumping.Found.{Found}
use Rattle.view_command.specs.declared.dumping.Unread.{Unread}
use Rattle.view_command.specs.declared.dumping.Unread.TheVariants as unread
use Rattle.view_command.specs.declared.refusal.Refusal.{Refusal}
use Rattle.view_command.specs.declared.refusal.Refusal.TheVariants.{Open, Read, Memory, Write}

-- ---- the dump

-- a line was read: all lines count for the windows, and those that the filter lets through for the ticks
pub record HasFound (kept : Filter) (e : Event) (old new : Found) : Type 0 where
  pub windows : HaveRead e old.windows new.windows
  pub shown : is_viewed kept e ≡ true → new.wires.shown ≡ with_read e.tick.0 old.wires.shown

-- no line follows
pub record IsMadeOf (f : Found) (d : Dump) : Type 0 where
  pub until : d.until ≡ (shown_ticks f.wires.shown).until
  pub windows : HaveClosed d.until.0 f.windows d.windows

-- The dump of these lines, in the ticks from one on and before the end, if one is given. Its windows, if they are known, are those that the lines lead to.
pub record IsDumpOf (from : Ticks) (to : Option Ticks) (known : Option (Schedule × List (List ℕ))) (events : List Event) (d : Dump) : Type 0 where
  pub until : d.until ≡ (shown_ticks (shown_after events (shown_from from to))).until
  pub windows : AreWindowsIn known from.0 d.until.0 events d.windows

-- it is the dump of the lines of a text, if the text is known and the filter lets all of them through
abbrev pub IsDumpIn : Option (List ℕ) → Filter → Ticks → Option Ticks → Option (Schedule × List (List ℕ)) → Dump → Type 0
IsDumpIn text kept from to known d = (lines : List Event) → AreLinesIn text kept lines → IsDumpOf from to known lines d

-- ---- why it ends before its end

-- the output failed, or it did not
abbrev pub IsCutBy : Seen → Seen → Cut → Type 0
IsCutBy old new cut.Write = HasFailed old new
IsCutBy old new (cut.Unread why) = new.failures ≡ old.failures

-- why a trace is not read again, of what its lines or its dump say
abbrev pub unread_of_stream : StreamFault → Unread
unread_of_stream (stream.Line fault) = unread.Read
unread_of_stream (stream.Read error) = unread.Read
unread_of_stream stream.Memory = unread.Memory

abbrev pub unread_of_dump : DumpFault → Unread
unread_of_dump dump.Changed = unread.Read
unread_of_dump dump.Memory = unread.Memory

-- the text of this name is told, if it was not read
abbrev pub IsCut : List ℕ → Seen → Seen → Refusal → Type 0
IsCut name old new Write = HasFailed old new
IsCut name old new (Read shown) = (string_bytes shown ≡ name) × (new.failures ≡ old.failures)
IsCut name old new Memory = new.failures ≡ old.failures
IsCut name old new _ = ⊥

-- The trace of this name was not read again, or not taken, or the output failed. Nothing is written before it is opened.
abbrev pub IsCutAgain : List ℕ → State → State → Refusal → Type 0
IsCutAgain name before after (Open shown) = (after.out ≡ before.out) × (string_bytes shown ≡ called name) × (after.unopened ≡ before.unopened ++ name ∷ [])
IsCutAgain name before after (Read shown) = (after.unopened ≡ before.unopened) × (after.out.failures ≡ before.out.failures) × (string_bytes shown ≡ called name)
IsCutAgain name before after Memory = (after.unopened ≡ before.unopened) × (after.out.failures ≡ before.out.failures)
IsCutAgain name before after Write = HasFailed before.out after.out × (after.unopened ≡ before.unopened)
IsCutAgain name before after _ = ⊥
