use Rattle.std.proofs.Common.{rules, ◌≡◌, ◌+◌, ◌++◌, [], ◌∷◌, ap, ◌∙◌, length, arith}
use Rattle.std.proofs.lemmas.List.{length-append}
use Rattle.apex_types.specs.Output.{Output, event_of}
use Rattle.apex_types.specs.declared.out.Line.{Line}
use Rattle.apex_types.proofs.Outs.{actions_wider, line_parts, line_told, lines_count, new_is_part, output}
use Rattle.apex_types.proofs.out.Out.tell.Goals as goal

-- The words come after the others, and so each line and each action keeps its own.
pub invariant_of-self : goal.invariant_of-self
invariant_of-self c =
    let old = c.self.inside in
    let more = c.args.words.now in
    let l : Line = record { kind = c.args.kind; part = c.add-part.result } in
    let told : c.keep.new.list.items ≡ old.lines.items ++ l ∷ [] = c.keep.ensures.items in
    let longer = ap length c.add-part.ensures.items ∙ length-append old.words.items more in
    let added = ap length told ∙ length-append old.lines.items (l ∷ []) in
    let n = length old.words.items in
    let m = length c.add-part.new.words.items in
    record {
      lines = line_parts n m old.lines.items c.keep.new.list.items l (omega (arith, longer)) told c.self.invariant.lines (new_is_part n m (length more) c.add-part.result c.add-part.ensures.part longer c.requires.few);
      actions = actions_wider n m old.actions.items (omega (arith, longer)) c.self.invariant.actions;
      few = omega (arith, longer, added, c.self.invariant.few, c.requires.few);
      line_room = omega (arith, c.self.invariant.line_room, c.keep.ensures.memory);
      action_room = c.self.invariant.action_room;
      word_room = c.add-part.ensures.memory;
    }

pub returns : goal.returns
returns c =
    let old = c.self.inside in
    let more = c.args.words.now in
    let l : Line = record { kind = c.args.kind; part = c.add-part.result } in
    let told : c.keep.new.list.items ≡ old.lines.items ++ l ∷ [] = c.keep.ensures.items in
    line_told old.words.items more c.add-part.new.words.items old.lines.items c.keep.new.list.items old.actions.items l
    c.self.invariant.lines c.self.invariant.actions c.add-part.ensures.items told
    (ap (λ p. p.from) c.add-part.ensures.part) (ap (λ p. p.count) c.add-part.ensures.part)
    ∙ ap (λ (o : Output). output (o.lines ++ event_of c.args.kind more ∷ []) o.actions) c.self.view_is
