use Rattle.std.proofs.Common.{◌∷◌, [], ◌++◌, List, sym, ap, ◌∙◌, append_assoc, subst}
use Rattle.apex_types.specs.declared.event.Event.{Event}
use Rattle.trace_lines.specs.Parts.{IsRest}
use Rattle.trace_lines.proofs.part.take_all.Goals as goal

pub loop-line-preserved : goal.loop-line-preserved
loop-line-preserved c =
    let gone = c.loop-line.invariant.0 in
    let one = c.in-Some.line ∷ [] in (
      gone ++ one,
      c.loop-line.invariant.1 ∙ ap (λ (t : List Event). gone ++ t) c.in-Some.ensures.items ∙ sym (append_assoc gone one c.pop_front.new.self.items),
      λ lines is. subst (IsRest c.add.new.self) (append_assoc lines gone one) (c.add.ensures.lines (lines ++ gone) (c.loop-line.invariant.2 lines is)),
    )
