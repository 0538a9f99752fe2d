-- The processes that calls may start, as a table of them holds them.
use Rattle.std.specs.Prelude.{ℕ, Bool, ◌==◌, ◌||◌, List}
use Rattle.std.specs.List.{list_any}
use Rattle.lint.specs.Unused.{is_used}
use Rattle.lint.specs.UsedNames.{used_names}
use Rattle.lint.specs.declared.starts.Starts.{Starts}

-- the process of this number and name may be started
abbrev pub is_started : Starts → ℕ → List ℕ → Bool
is_started s number name = s.any || is_used (used_names s.names) name || list_any (λ n. n == number) s.numbers.keys
