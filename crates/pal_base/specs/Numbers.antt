-- The numbers of the refusals.
use Rattle.std.specs.Prelude.{ℕ}
use Rattle.pal_base.specs.declared.fault.Refusal.{Refusal}
use Rattle.pal_base.specs.declared.fault.Refusal.TheVariants.{Text, Grammar, Name, Kind, Limit, Period, Memory}

abbrev pub refusal_number : Refusal → ℕ
refusal_number Text = 1
refusal_number Grammar = 2
refusal_number Name = 3
refusal_number Kind = 4
refusal_number Limit = 5
refusal_number Period = 6
refusal_number Memory = 7
