use Rattle.std.proofs.Common.{◌≡◌, drop, map}
use Rattle.toml.specs.View.{items_view}
use Rattle.module_meaning.specs.TableRules.{texts_of}
use Rattle.window_table.proofs.Reading.{behind}
use Rattle.window_table.proofs.written.read_destinations.Given as goal

abbrev pub invariant-loop-value : goal.invariant-loop-value
invariant-loop-value l = texts_of (items_view l.values) ≡ behind (map (λ d. d.now) l.destinations.items) (texts_of (items_view (drop l.value-index l.values)))
