-- The bytes that a run of bytes may contain.
use Rattle.std.specs.Prelude.{ℕ, Bool}
use Rattle.engine_meaning.specs.Digits.{is_digit}
use Rattle.pal_meaning.specs.Grammar.{in_name, in_service}
use Rattle.pal_base.specs.declared.word.Run.{Run}
use Rattle.pal_base.specs.declared.word.Run.TheVariants as run

abbrev pub member : Run → ℕ → Bool
member run.Name b = in_name b
member run.Digits b = is_digit b
member run.Service b = in_service b
