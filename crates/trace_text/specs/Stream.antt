-- A trace that is read from a reader.
use Rattle.std.specs.Prelude.{◌≡◌, ◌≢◌, ◌⊎◌, ℕ, ◌+◌, ◌-◌, ◌^◌, ◌<◌, ◌≤◌, min, List, [], length, slice_range, Option, Some, None}
use Rattle.std.specs.Io.KnownBytes.{IsAtEnd, prepend_known}
use Rattle.module_meaning.specs.DeviceText.{pieces_behind_marks}
use Rattle.apex_types.specs.declared.event.Event.{Event}
use Rattle.apex_types.specs.declared.limits.TheConstants.{MOST_LINE_BYTES}
use Rattle.trace_text.specs.Trace.{IsNext}
use Rattle.trace_text.specs.declared.ahead.Ahead.{Ahead}
use Rattle.trace_text.specs.declared.stream.StreamFault.{StreamFault}
use Rattle.trace_text.specs.declared.stream.StreamFault.TheVariants.{Line, Read, Memory}
use Rattle.trace_text.specs.declared.stream.TraceStream.{TraceStream}

-- the bytes that were read ahead
abbrev pub ahead_bytes : Ahead → List ℕ
ahead_bytes a = slice_range a.buffer.items a.start a.end

-- the text that is left: the bytes read ahead and those left in the reader, if these are known
abbrev pub left : {R : Type 0} → (R → Option (List ℕ)) → TraceStream R → Option (List ℕ)
left remaining s = prepend_known (ahead_bytes s.ahead) (remaining s.reader)

-- the number of the next line, after `lines` lines; numbers stop at the greatest
abbrev pub next_number : ℕ → ℕ
next_number lines = min (lines + 1) (2 ^ 64 - 1)

-- if the text that is left is known, the line of this event is at its front, and the rest is
-- left after it
abbrev pub NextIn : ℕ → Option (List ℕ) → Event → Option (List ℕ) → Type 0
NextIn before None e rest = Unit {0}
NextIn before (Some text) e None = ⊥
NextIn before (Some text) e (Some rest) = IsNext before text e rest

-- something is left, and no event can have its line at the front
abbrev pub NoneIn : ℕ → Option (List ℕ) → Type 0
NoneIn before None = Unit {0}
NoneIn before (Some text) = (0 < length text) × ((e : Event) (rest : List ℕ) → IsNext before text e rest → ⊥)

-- a refused line is the next one
abbrev pub IsStreamFault : ℕ → ℕ → Option (List ℕ) → StreamFault → Type 0
IsStreamFault before lines text (Line fault) = (fault.line ≡ next_number lines) × NoneIn before text
IsStreamFault before lines text (Read error) = Unit {0}
IsStreamFault before lines text Memory = Unit {0}

-- the first line of a text that begins with these bytes, if it is a line of a trace, ends within
-- them
abbrev pub SeesLine : List ℕ → Option (List ℕ) → Type 0
SeesLine bytes behind = (pieces_behind_marks 10 bytes ≢ []) ⊎ (MOST_LINE_BYTES ≤ length bytes) ⊎ IsAtEnd behind
