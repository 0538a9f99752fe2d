use Rattle.std.proofs.Common.{◌≡◌, map, drop}
use Rattle.std.specs.List.{list_any}
use Rattle.std.specs.Str.{bytes_eq}
use Rattle.pal_base.specs.View.{id_text, name_of, texts}
use Rattle.lint.proofs.names.has_name.Given as goal

abbrev pub invariant-loop-other : goal.invariant-loop-other
invariant-loop-other l = list_any (λ other. bytes_eq other (id_text (texts l.names.keys) l.name)) (map (name_of (texts l.names.keys)) l.list) ≡ list_any (λ other. bytes_eq other (id_text (texts l.names.keys) l.name)) (map (name_of (texts l.names.keys)) (drop l.other-index l.list))
