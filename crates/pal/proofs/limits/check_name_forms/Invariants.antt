use Rattle.std.proofs.Common.{◌≡◌, map, drop}
use Rattle.std.specs.List.{list_all}
use Rattle.pal_base.specs.View.{texts, name_of}
use Rattle.apex_types.specs.NameText.{is_name}
use Rattle.pal.proofs.limits.check_name_forms.Given as goal

abbrev pub invariant-loop-name : goal.invariant-loop-name
invariant-loop-name l = list_all is_name (map (name_of (texts l.names.keys)) (drop l.name-index l.identifiers)) ≡ list_all is_name (map (name_of (texts l.names.keys)) l.identifiers)
