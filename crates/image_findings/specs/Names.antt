-- The names that a text of inputs may use.
use Rattle.std.specs.Prelude.{ℕ, Bool, List, codes}
use Rattle.image_findings.specs.declared.names.TextKind.{TextKind}
use Rattle.image_findings.specs.declared.names.TextKind.TheVariants as kind

-- A channel or a port by its name; whether a text may send it a message, which is so if the source of the channel is the device,
-- or the port is a destination; and how many words the message may have.
pub record Receiver : Type 0 where
  pub name : List ℕ
  pub is_open : Bool
  pub most : ℕ

pub record Names : Type 0 where
  pub kind : TextKind
  pub receivers : List Receiver
  pub partitions : List (List ℕ)

-- the word before a message
abbrev pub mark_of : TextKind → List ℕ
mark_of kind.Devices = codes "MSG"
mark_of kind.Inputs = codes "ARRIVE"
