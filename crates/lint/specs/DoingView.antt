-- What a procedure may do, as the definitions see what the code has.
use Rattle.lint.specs.Recursion as meant
use Rattle.lint.specs.declared.recursion.Doing.{Doing}
use Rattle.lint.specs.declared.recursion.Doing.TheVariants as doing

abbrev pub doing_of : Doing → meant.Doing
doing_of doing.Calls = meant.Calls
doing_of doing.Repeats = meant.Repeats
doing_of doing.Tests = meant.Tests
doing_of doing.Changes = meant.Changes
