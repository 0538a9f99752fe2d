-- The names that were not available, in the order of the calls.
use Rattle.std.specs.Prelude.{◌≡◌, ℕ, List, [], ◌∷◌, ◌++◌, Result, Ok, Err}
use Rattle.streams.specs.declared.names.NameFault.{NameFault}
use Rattle.streams.specs.declared.names.NameFault.TheVariants.{Unavailable, Memory}

-- A call that fails notes its name; running out of memory is no failure of a file or text.
abbrev pub IsNotedFault : List ℕ → List (List ℕ) → List (List ℕ) → NameFault → Type 0
IsNotedFault name old new (Unavailable reason) = new ≡ old ++ name ∷ []
IsNotedFault name old new Memory = new ≡ old

abbrev pub IsNoted : {X : Type 0} → List ℕ → List (List ℕ) → List (List ℕ) → Result X NameFault → Type 0
IsNoted name old new (Ok x) = new ≡ old
IsNoted name old new (Err f) = IsNotedFault name old new f
