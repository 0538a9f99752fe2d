use Rattle.std.proofs.Common.{◌≡◌, List, Some, ap, sym, ◌∙◌, subst}
use Rattle.std.proofs.lemmas.Option.{slice_get-get_or}
use Rattle.std.specs.Prelude.{slice_get}
use Rattle.trace_lines.specs.declared.part.Part.{Part}
use Rattle.trace_lines.proofs.comparison.Comparison.place_of.Goals as goal

pub returns-then-is_same_partition : goal.returns-then-is_same_partition
returns-then-is_same_partition c =
    let read = slice_get-get_or c.deref-part-items.result.now c.loop-place.place c.part-item.result c.loop-place-test.true ∙ ap Some (sym c.part-item.is) in
    let stands = subst (λ (ps : List Part). slice_get ps c.loop-place.place ≡ Some c.part-item.result) c.deref-part-items.ensures.value read in
    ((c.part-item.result, stands, sym c.is_same_partition.ensures.value ∙ c.if-is_same_partition.true), c.loop-place.invariant)
