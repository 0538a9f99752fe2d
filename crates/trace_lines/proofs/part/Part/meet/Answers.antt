use Rattle.std.proofs.Common.{◌∷◌, [], sym, subst}
use Rattle.trace_lines.specs.Parts.{IsFirst, first_with, other_side, second_with}
use Rattle.trace_lines.specs.declared.part.Apart.{Apart}
use Rattle.trace_lines.proofs.Parts.{apart_both}
use Rattle.trace_lines.proofs.part.Part.meet.Goals as goal

pub returns-clause-lines : goal.returns-clause-lines
returns-clause-lines c a b none level =
    let part = c.args.self.now in
    let rest = c.take_all.ensures.rest (c.args.line ∷ []) (c.add.ensures.lines [] c.none-rest.ensures) in
    let own = c.add-2.ensures.lines [] c.none-other.ensures in
    let first = apart_both part.ahead c.args.line c.args.event part.waiting.items part.before.items a b c.take_all.new.rest c.add-2.new.self
    (λ e. (let t = c.is_same.ensures.1 e in cc)) level rest own in
    subst (λ (d : Apart). IsFirst part.before.items d.first d.second (first_with (other_side part.ahead) c.args.event a) (second_with (other_side part.ahead) c.args.event b)) (sym c.of.ensures) first
