use Rattle.std.proofs.Common.{◌≡◌, List, Option, Some, true, ap, sym, ◌∙◌, subst}
use Rattle.trace_lines.specs.Comparisons.{AreParts}
use Rattle.trace_lines.specs.Parts.{IsSettled, first_with, second_with}
use Rattle.trace_lines.specs.declared.part.Apart.{Apart}
use Rattle.trace_lines.specs.declared.part.Part.{Part}
use Rattle.trace_lines.proofs.Comparisons.{on_ok, read_at, read_first, read_is}
use Rattle.trace_stays.specs.Same.{is_same_partition}
use Rattle.trace_lines.proofs.comparison.Comparison.add.Goals as goal

pub returns-in-Some : goal.returns-in-Some
returns-in-Some c =
    let parts = c.args.self.now.parts.items in
    let found = c.in-Some.ensures in
    let is : c.index_mut.result.now ≡ found.0.0 = read_is parts c.in-Some.place found.0.0 c.index_mut.result.now found.0.1 c.index_mut.ensures.value in
    on_ok c.add.result
    (λ step now a b h order. read_at parts c.in-Some.place now c.args.side c.args.event c.index_mut.result.now c.add.new.self a b
    (found.0.1 ∙ ap Some (sym is)) (subst (λ (q : Part). is_same_partition q.partition c.args.event.partition ≡ true) (sym is) found.0.2) found.1 step order h)
    c.add.ensures

pub returns-in_ok-push-in-None : goal.returns-in_ok-push-in-None
returns-in_ok-push-in-None c now a b h order =
    let settled : IsSettled c.new-part.result.apart now = subst (λ (o : Option Apart). IsSettled o now) (sym c.new-part.ensures.level) tt in
    let done = read_first c.args.self.now.parts.items now c.args.side c.args.event c.new-part.result c.add-in-None.new.self a b
    c.new-part.ensures.partition c.new-part.ensures.lines settled c.in-None.ensures c.in_ok-add-in-None.ensures order h in
    subst (λ (ps : List Part). AreParts ps c.args.event.tick.0 (first_with c.args.side c.args.event a) (second_with c.args.side c.args.event b)) (sym c.in_ok-push-in-None.ensures.items) done
