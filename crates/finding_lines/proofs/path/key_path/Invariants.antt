use Rattle.std.proofs.Common.{◌≡◌, ◌++◌, drop, map}
use Rattle.toml_parser.specs.Reading.{path_view}
use Rattle.finding_lines.specs.Entries.{key}
use Rattle.finding_lines.specs.Views.{owned_path}
use Rattle.finding_lines.proofs.path.key_path.Given as goal

abbrev pub invariant-loop-part : goal.invariant-loop-part
invariant-loop-part l =
    owned_path l.whole.items ++ map key (path_view (drop l.part-index l.key.path.items)) ≡ owned_path l.path ++ map key (path_view l.key.path.items)
