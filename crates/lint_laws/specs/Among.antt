-- A finding that is listed.
use Rattle.std.specs.Prelude.{◌≡◌, ◌⊎◌, List, [], ◌∷◌}
use Rattle.lint.specs.Views.{Found}

-- it is one of these
abbrev pub IsListed : Found → List Found → Type 0
IsListed f [] = ⊥
IsListed f (g ∷ gs) = (g ≡ f) ⊎ IsListed f gs
