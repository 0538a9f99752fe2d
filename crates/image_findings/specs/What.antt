-- What is wrong with a line of a text.
use Rattle.std.specs.Prelude.{ℕ, List}

pub data What : Type 0 where
  -- the last line has no line feed
  Unended : What
  -- the line ends with a carriage return, begins with `#`, or has no bytes
  Carriage : What
  Comment : What
  Empty : What
  -- a tab or a NUL is in the line
  Tab : What
  Nul : What
  -- a part of the line has no bytes
  NoPart : What
  -- the text is no tick, or nothing follows it
  NoTick : List ℕ → What
  NoEvent : What
  -- the text is none of the two words that may follow a tick
  NoKind : List ℕ → What
  -- a message has no channel or port, or the text is no name
  NoReceiver : What
  NoName : List ℕ → What
  -- a message has no word, or the text is no word
  NoWords : What
  NoWord : List ℕ → What
  -- the text follows the partition of a fault
  More : List ℕ → What
  -- the tick is below that of the line before
  Early : (tick before : ℕ) → What
  -- the text names no channel or port, or one to which the text may send nothing, or no partition
  UnknownReceiver : List ℕ → What
  Closed : List ℕ → What
  UnknownPartition : List ℕ → What
  -- no more lines may follow, or the message has more words than it may have
  TooManyLines : What
  TooManyWords : (words most : ℕ) → What

-- what is wrong, and how many bytes are left at the place where it is
pub record Wrong : Type 0 where
  pub left : ℕ
  pub what : What
