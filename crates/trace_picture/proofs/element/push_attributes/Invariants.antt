use Rattle.std.proofs.Common.{◌≡◌, ◌++◌, string_bytes, take}
use Rattle.std.specs.Prelude.{flat_map}
use Rattle.trace_picture.specs.Element.{attribute_text}
use Rattle.trace_picture.proofs.element.push_attributes.Given as goal

-- the attributes so far are written
abbrev pub invariant-loop-attribute : goal.invariant-loop-attribute
invariant-loop-attribute l = string_bytes l.out ≡ string_bytes l.initial.out ++ flat_map attribute_text (take l.attribute-index l.attributes)
