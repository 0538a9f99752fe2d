-- A finding: where a rule is broken, and what was found there.
use Rattle.std.specs.Prelude.{ℕ, ℤ, Bool, List, Option}
use Rattle.table_findings.specs.Subjects.{Subject}
use Rattle.table_findings.specs.declared.fields.Part.{Part}
use Rattle.table_findings.specs.declared.words.Words.{Words}

pub data What : Type 0 where
  -- the subject lacks this key of this part
  Missing : List ℕ → Part → What
  -- the key is none of this part
  Unknown : Part → What
  -- the value is of another type than the wanted one
  OtherType : (wanted found : List ℕ) → What
  -- the text is none of these words
  NoWord : List ℕ → Words → What
  -- a number is not between two limits, or below its limit
  Outside : (number low high : ℤ) → What
  Below : (number low : ℤ) → What
  -- there are too few or too many
  Count : (number low high : ℕ) → What
  -- the text is no name
  NoName : List ℕ → What
  -- the name is also that of the row at this place of the list
  SameName : List ℕ → ℕ → What
  -- the text is no partition of the table; the nearest name of one
  NoPartition : List ℕ → Option (List ℕ) → What
  -- the text is neither a port of the table nor `DEVICE`
  NoEnd : List ℕ → What
  -- the port that the text names is no source, or it is one where a destination is wanted
  WrongDirection : List ℕ → Bool → What
  -- its port is of another kind, or takes another number of words than that of this text
  OtherKind : List ℕ → What
  OtherWords : ℤ → List ℕ → ℤ → What
  -- a destination is in the partition of the source
  SamePartition : What
  -- the channel has `DEVICE` before
  DeviceTwice : What
  -- a channel of queuing ports has this number of destinations
  SplitQueue : ℕ → What
  -- the text is also that of an earlier end
  PortTwice : List ℕ → What
  -- a window begins before the end of the one before it, or ends past the frame
  Overlaps : (begin before : ℤ) → What
  PastFrame : (end frame : ℤ) → What
  -- the frame is no multiple of a period
  OddPeriod : (period frame : ℕ) → What
  -- in a period that begins at this tick of the frame, a partition's windows offer less than is wanted
  Short : (from offered wanted : ℕ) → What
  -- a partition has no release window
  NoRelease : What

-- what the finding is about, and the key there, if the place is one of a key
pub record Finding : Type 0 where
  pub subject : Subject
  pub key : Option (List ℕ)
  pub what : What
