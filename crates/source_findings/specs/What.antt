-- What is wrong with a source, and the walk through its words.
use Rattle.std.specs.Prelude.{ℕ, Bool, nat_lt, if◌then◌else◌, List, [], ◌∷◌, ◌++◌, length, Option, Some, None}
use Rattle.apex_types.specs.declared.service.Service.{Service}
use Rattle.source_places.specs.Words.{next_word}
use Rattle.source_findings.specs.declared.finding.Many.{Many}
use Rattle.source_findings.specs.declared.finding.Thing.{Thing}
use Rattle.source_findings.specs.declared.roles.Role.{Role}

pub data What : Type 0 where
  -- a byte that is not ASCII
  NoAscii : (byte : ℕ) → What
  -- the bytes from here on are more than a source may have
  TooLong : What
  -- the name is not declared; the nearest one that is may be known
  Unknown : (name : List ℕ) (near : Option (List ℕ)) → What
  -- the name is declared before
  Again : (name : List ℕ) → What
  -- the name means something other than what is wanted
  Other : (name : List ℕ) (found wanted : Role) → What
  -- there is an expression where the name of this is wanted
  NoName : (wanted : Role) → What
  -- a service is given this many arguments or targets
  Arguments : (service : Service) (given : ℕ) → What
  Targets : (service : Service) (given : ℕ) → What
  -- a `return` outside a procedure
  Return : What
  -- the name is too long
  Long : (name : List ℕ) → What
  -- the number is above 2^63 - 1
  TooLarge : What
  -- the number is not between two limits
  Outside : (thing : Thing) (number low high : ℕ) → What
  -- the number is neither -1 nor a number of ticks
  NoTime : (thing : Thing) (negative : Bool) (number : ℕ) → What
  -- there are this many, and more than there may be
  TooMany : (thing : Many) (number most : ℕ) → What
  -- the frame of a body is larger than its stack
  Frame : (words stack : ℕ) → What
  -- the period of a process is no multiple of that of the partition
  Odd : (period partition : ℕ) → What
  -- the program has `number` instructions, and `here` of them are in this body
  Instructions : (number here : ℕ) → What

-- what is wrong, and how many bytes are left at the place where it is
pub record Wrong : Type 0 where
  pub left : ℕ
  pub what : What

-- the text from the next word on, and what was found before it
pub record State : Type 0 where
  pub text : List ℕ
  pub found : List Wrong

-- no more than these are shown
abbrev pub MOST_FINDINGS : ℕ
MOST_FINDINGS = 20

-- after the next word
abbrev pub step : State → State
step s = record { text = next_word s.text; found = s.found }

abbrev pub pushed : Option What → State → State
pushed None s = s
pushed (Some what) s = record { text = s.text; found = s.found ++ record { left = length s.text; what = what } ∷ [] }

-- what is wrong at the next word, unless enough was found before
abbrev pub noted : Option What → State → State
noted what s = if nat_lt (length s.found) MOST_FINDINGS then pushed what s else s

-- after the next word, at which something may be wrong
abbrev pub judged : Option What → State → State
judged what s = step (noted what s)
