-- The refusal for each fault.
use Rattle.std.specs.Prelude.{◌≡◌, ℕ, List, [], ◌∷◌, ◌++◌, string_bytes}
use Rattle.std.specs.declared.string.String.{String}
use Rattle.std.specs.declared.alloc.Global.{Global}
use Rattle.trace_text.specs.declared.stream.StreamFault.{StreamFault}
use Rattle.trace_text.specs.declared.stream.StreamFault.TheVariants as stream
use Rattle.view_command.specs.Lines.{called}
use Rattle.view_command.specs.declared.refusal.Refusal.{Refusal}
use Rattle.view_command.specs.declared.refusal.Refusal.TheVariants.{Open, Read, Line, TooMany, Crowded, Foreign, Memory}
use Rattle.streams.specs.declared.names.NameFault.{NameFault}
use Rattle.streams.specs.declared.names.NameFault.TheVariants as source
use Rattle.trace_windows.specs.declared.shares_fault.SharesFault.{SharesFault}
use Rattle.trace_windows.specs.declared.shares_fault.SharesFault.TheVariants as shares
use Rattle.view_command.specs.declared.views.ViewFault.{ViewFault}
use Rattle.view_command.specs.declared.views.ViewFault.TheVariants as view

-- a text of this name was not opened
abbrev pub of_source : String Global → NameFault → Refusal
of_source called (source.Unavailable reason) = Open called
of_source called source.Memory = Memory

-- The text of this name was not opened, which is noted; running out of memory is no failure of the text.
abbrev pub IsUnopened : List ℕ → List (List ℕ) → List (List ℕ) → Refusal → Type 0
IsUnopened name old new (Open shown) = (string_bytes shown ≡ called name) × (new ≡ old ++ name ∷ [])
IsUnopened name old new Memory = new ≡ old
IsUnopened name old new _ = ⊥

-- a text of this name was not read on
abbrev pub of_stream : String Global → StreamFault → Refusal
of_stream called (stream.Line at) = Line at.line called
of_stream called (stream.Read error) = Read called
of_stream called stream.Memory = Memory

-- an event was not taken
abbrev pub of_view : ViewFault → Refusal
of_view view.Memory = Memory
of_view view.TooMany = TooMany
of_view (view.Crowded excess) = Crowded excess.shapes excess.from.0 excess.until.0 excess.elements
of_view (view.Foreign partition) = Foreign partition

-- a line is of a partition that the module table has not
abbrev pub of_shares : SharesFault → Refusal
of_shares shares.Memory = Memory
of_shares (shares.Unknown partition) = Foreign partition
