-- The calls that are looked for, as the definitions see what the code has.
use Rattle.std.specs.Prelude.{ℕ, List}
use Rattle.pal_base.specs.View.{id_text}
use Rattle.lint.specs.Lives as lives
use Rattle.lint.specs.declared.wanted.Wanted.{Wanted}
use Rattle.lint.specs.declared.wanted.Wanted.TheVariants as code_wanted

abbrev pub wanted_of : List (List ℕ) → Wanted → lives.Wanted
wanted_of names code_wanted.HandlerCreation = lives.HandlerCreation
wanted_of names code_wanted.NormalMode = lives.NormalMode
wanted_of names code_wanted.PeriodicWait = lives.PeriodicWait
wanted_of names code_wanted.ErrorStatus = lives.ErrorStatus
wanted_of names (code_wanted.Wait kind number name) = lives.Wait kind number (id_text names name)
wanted_of names (code_wanted.Signal kind number name) = lives.Signal kind number (id_text names name)
