-- Each kind of error means that memory ran out, or something else; and it asks for help, or is a
-- mistake.
use Rattle.std.proofs.Common.{◌≡◌, ◌≢◌, ◌⊎◌, inl, inr, refl}
use Rattle.clap.specs.declared.error.kind.ErrorKind.{ErrorKind}
use Rattle.clap.specs.declared.error.kind.ErrorKind.TheVariants as kind
use Rattle.command_words.specs.Kinds.{IsHelp, IsMistake}

pub memory_or : (k : ErrorKind) → (k ≡ kind.OutOfMemory) ⊎ (k ≢ kind.OutOfMemory)
memory_or kind.InvalidValue = inr (λ e. cc)
memory_or kind.UnknownArgument = inr (λ e. cc)
memory_or kind.InvalidSubcommand = inr (λ e. cc)
memory_or kind.NoEquals = inr (λ e. cc)
memory_or kind.ValueValidation = inr (λ e. cc)
memory_or kind.TooManyValues = inr (λ e. cc)
memory_or kind.TooFewValues = inr (λ e. cc)
memory_or kind.WrongNumberOfValues = inr (λ e. cc)
memory_or kind.ArgumentConflict = inr (λ e. cc)
memory_or kind.MissingRequiredArgument = inr (λ e. cc)
memory_or kind.MissingSubcommand = inr (λ e. cc)
memory_or kind.DisplayHelp = inr (λ e. cc)
memory_or kind.DisplayHelpOnMissingArgumentOrSubcommand = inr (λ e. cc)
memory_or kind.DisplayVersion = inr (λ e. cc)
memory_or kind.Io = inr (λ e. cc)
memory_or kind.Format = inr (λ e. cc)
memory_or kind.OutOfMemory = inl refl

pub help_or : (k : ErrorKind) → IsHelp k ⊎ IsMistake k
help_or kind.InvalidValue = inr ((λ e. cc), (λ e. cc))
help_or kind.UnknownArgument = inr ((λ e. cc), (λ e. cc))
help_or kind.InvalidSubcommand = inr ((λ e. cc), (λ e. cc))
help_or kind.NoEquals = inr ((λ e. cc), (λ e. cc))
help_or kind.ValueValidation = inr ((λ e. cc), (λ e. cc))
help_or kind.TooManyValues = inr ((λ e. cc), (λ e. cc))
help_or kind.TooFewValues = inr ((λ e. cc), (λ e. cc))
help_or kind.WrongNumberOfValues = inr ((λ e. cc), (λ e. cc))
help_or kind.ArgumentConflict = inr ((λ e. cc), (λ e. cc))
help_or kind.MissingRequiredArgument = inr ((λ e. cc), (λ e. cc))
help_or kind.MissingSubcommand = inr ((λ e. cc), (λ e. cc))
help_or kind.DisplayHelp = inl (inl refl)
help_or kind.DisplayHelpOnMissingArgumentOrSubcommand = inr ((λ e. cc), (λ e. cc))
help_or kind.DisplayVersion = inl (inr refl)
help_or kind.Io = inr ((λ e. cc), (λ e. cc))
help_or kind.Format = inr ((λ e. cc), (λ e. cc))
help_or kind.OutOfMemory = inr ((λ e. cc), (λ e. cc))

pub no_help : (k : ErrorKind) → IsMistake k → IsHelp k → ⊥
no_help k mistake (inl h) = mistake.0 h
no_help k mistake (inr h) = mistake.1 h
