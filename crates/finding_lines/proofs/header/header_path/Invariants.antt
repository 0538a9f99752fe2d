use Rattle.std.proofs.Common.{◌≡◌, [], drop}
use Rattle.toml_parser.specs.Reading.{path_view}
use Rattle.finding_lines.specs.Entries.{header_path}
use Rattle.finding_lines.specs.Views.{owned_path}
use Rattle.finding_lines.proofs.header.header_path.Given as goal

abbrev pub invariant-loop-key : goal.invariant-loop-key
invariant-loop-key l =
    header_path l.found (owned_path l.path.items) (path_view (drop l.key-index l.keys)) ≡ header_path l.found [] (path_view l.keys)
