-- The parts of an executor that plays a script, as the definitions see them.
use Rattle.std.specs.Prelude.{ℕ, ℤ, List, [], ◌∷◌, Option, map, drop, length}
use Rattle.std.specs.Option.{option_map}
use Rattle.engine_meaning.specs.Engine.{Engine, Asks}
use Rattle.processor.specs.Views.{asks_of}
use Rattle.regions.specs.Space.{Space}
use Rattle.library_tests.specs.Scripts.{script_engine}
use Rattle.library_tests.specs.declared.part.Part.{Part}
use Rattle.library_tests.specs.declared.executor.Scripted.{Scripted}

abbrev pub script_of : Part → List Asks
script_of part = map asks_of part.outcomes.items

-- the rest of the script, if something is left to do
abbrev pub control_of : Part → Option (List Asks)
control_of part = option_map (λ place. map asks_of (drop place part.outcomes.items)) part.next

abbrev pub engine_of : Scripted → Engine (List Asks)
engine_of e = script_engine (map script_of e.parts.items)

abbrev pub controls_of : Scripted → Space → List (Option (List Asks))
controls_of e memory = map control_of e.parts.items

abbrev pub initial_of : Scripted → List ℤ
initial_of e = e.initial.items

-- the data are as many words as the initial data
abbrev pub layout_of : Scripted → List ℕ
layout_of e = length e.initial.items ∷ []

abbrev pub laid_of : Space → List ℕ
laid_of memory = length memory.words ∷ []
