-- The ticks of a module as the code holds them.
use Rattle.std.specs.Prelude.{Option, option_map, unwrap_or, ℕ}
use Rattle.apex_types.specs.declared.identity.At.{At}
use Rattle.apex_types.specs.declared.identity.Ticks.{Ticks}

abbrev pub ticks_of : Ticks → ℕ
ticks_of t = t.0

abbrev pub ticks_in : Option Ticks → Option ℕ
ticks_in o = option_map ticks_of o

abbrev pub origin_or_zero : Option Ticks → ℕ
origin_or_zero o = unwrap_or (ticks_in o) 0

-- the next tick with the current origin, if there is an origin
abbrev pub moment_of : Ticks → Option Ticks → Option At
moment_of now origin = option_map (λ o. record { now = now; origin = o }) origin
