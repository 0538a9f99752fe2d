-- The kinds of errors that the library of command lines reports for words.
use Rattle.std.specs.Prelude.{◌≡◌, ◌≢◌, ◌⊎◌}
use Rattle.clap.specs.Kinds.{Kinds, IsAmong}
use Rattle.clap.specs.declared.error.kind.ErrorKind.{ErrorKind}
use Rattle.clap.specs.declared.error.kind.ErrorKind.TheVariants.{DisplayHelp, DisplayVersion}

abbrev pub IsHelp : ErrorKind → Type 0
IsHelp k = (k ≡ DisplayHelp) ⊎ (k ≡ DisplayVersion)

abbrev pub IsMistake : ErrorKind → Type 0
IsMistake k = (k ≢ DisplayHelp) × (k ≢ DisplayVersion)

-- the words ask for help
abbrev pub AskForHelp : Kinds → Type 0
AskForHelp kinds = (k : ErrorKind) × IsAmong k kinds × IsHelp k

-- the words are no command
abbrev pub AreMistaken : Kinds → Type 0
AreMistaken kinds = (k : ErrorKind) × IsAmong k kinds × IsMistake k
