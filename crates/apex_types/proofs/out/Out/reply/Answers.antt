use Rattle.std.proofs.Common.{rules, ◌≡◌, ◌+◌, ◌++◌, [], ◌∷◌, ap, ◌∙◌, append_assoc, length, arith, of_z, to_z, w64}
use Rattle.std.proofs.lemmas.List.{length-append}
use Rattle.apex_types.specs.Output.{Output, action_of}
use Rattle.apex_types.specs.declared.out.Act.{Act}
use Rattle.apex_types.specs.declared.process.ActionKind.TheVariants as kind
use Rattle.apex_types.proofs.Outs.{act_parts, action_asked, actions_count, lines_wider, output}
use Rattle.apex_types.proofs.out.Out.reply.Goals as goal

-- The code and the outputs come after the other words, and so each line and each action keeps its own.
pub invariant_of-self : goal.invariant_of-self
invariant_of-self c =
    let old = c.self.inside in
    let outputs = c.args.outputs.now in
    let a : Act = record { kind = kind.Reply c.args.runner; part = record { from = c.len-from.result; count = 1 + c.add-outputs.result.count } } in
    let pushed : c.push_reserved-2.new.self.items ≡ old.actions.items ++ a ∷ [] = c.push_reserved-2.ensures.items in
    let first = ap length c.push_reserved.ensures.items ∙ length-append old.words.items _ in
    let longer = ap length c.add-outputs.ensures.items ∙ length-append c.push_reserved.new.self.items outputs in
    let added = ap length pushed ∙ length-append old.actions.items (a ∷ []) in
    let from : c.len-from.result ≡ length old.words.items = search rules in
    let size = ap (λ p. p.count) c.add-outputs.ensures.part in
    let n = length old.words.items in
    let m = length c.add-outputs.new.words.items in
    record {
      lines = lines_wider n m old.lines.items (omega (arith, first, longer)) c.self.invariant.lines;
      actions = act_parts n m old.actions.items c.push_reserved-2.new.self.items a (omega (arith, first, longer)) pushed c.self.invariant.actions
          (record { within = omega (arith, from, size, first, longer); few = omega (arith, size, c.requires.few) });
      few = omega (arith, first, longer, added, c.self.invariant.few, c.requires.few);
      line_room = c.self.invariant.line_room;
      action_room = omega (arith, c.self.invariant.action_room, c.push_reserved-2.ensures.capacity);
      word_room = c.add-outputs.ensures.memory;
    }

pub returns : goal.returns
returns c =
    let old = c.self.inside in
    let outputs = c.args.outputs.now in
    let a : Act = record { kind = kind.Reply c.args.runner; part = record { from = c.len-from.result; count = 1 + c.add-outputs.result.count } } in
    let pushed : c.push_reserved-2.new.self.items ≡ old.actions.items ++ a ∷ [] = c.push_reserved-2.ensures.items in
    let same : to_z w64 (of_z w64 c.args.code) ≡ c.args.code = search rules in
    let joined = c.add-outputs.ensures.items ∙ ap (λ ws. ws ++ outputs) c.push_reserved.ensures.items ∙ ap (λ x. (old.words.items ++ x ∷ []) ++ outputs) same ∙ append_assoc old.words.items (c.args.code ∷ []) outputs in
    let size = ap (λ p. p.count) c.add-outputs.ensures.part in
    let from : c.len-from.result ≡ length old.words.items = search rules in
    action_asked old.words.items (c.args.code ∷ outputs) c.add-outputs.new.words.items old.lines.items old.actions.items c.push_reserved-2.new.self.items a
    c.self.invariant.lines c.self.invariant.actions joined pushed
    from (omega (arith, size))
    ∙ ap (λ (o : Output). output o.lines (o.actions ++ action_of (kind.Reply c.args.runner) (c.args.code ∷ outputs) ∷ [])) c.self.view_is
