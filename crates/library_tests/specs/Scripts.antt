-- A script as an engine: a control is the rest of the script.
use Rattle.std.specs.Prelude.{ℤ, List, [], ◌∷◌, get_or}
use Rattle.apex_types.specs.Runners.{place_of}
use Rattle.engine_meaning.specs.Engine.{Engine, Ticked, Asks, Nothing}

-- the next request; nothing after the last
abbrev pub plays : List Asks → List ℤ → Ticked (List Asks)
plays [] words = record { control = []; words = words; asks = Nothing }
plays (asks ∷ rest) words = record { control = rest; words = words; asks = asks }

-- the scripts of INIT, of the handler and of the processes
abbrev pub script_engine : List (List Asks) → Engine (List Asks)
script_engine scripts = record { start = λ runner. get_or scripts (place_of runner) []; tick = plays; reply = λ control answer. control }
