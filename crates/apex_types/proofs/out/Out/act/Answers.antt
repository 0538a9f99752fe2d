use Rattle.std.proofs.Common.{◌≡◌, ◌++◌, [], ◌∷◌, ap, ◌∙◌}
use Rattle.apex_types.specs.Output.{Output, action_of}
use Rattle.apex_types.specs.OutView.{actions_of, part_of}
use Rattle.apex_types.specs.declared.out.Act.{Act}
use Rattle.apex_types.proofs.Outs.{action_asked, output}
use Rattle.apex_types.proofs.out.Out.act.Goals as goal

-- The words come after the others, and so each line and each action keeps its own.
pub returns : goal.returns
returns c =
    let old = c.self.inside in
    let more = c.args.words.now in
    let a : Act = record { kind = c.args.kind; part = c.add-part.result } in
    let pushed : c.push_reserved.new.self.items ≡ old.actions.items ++ a ∷ [] = c.push_reserved.ensures.items in
    action_asked old.words.items more c.add-part.new.words.items old.lines.items old.actions.items c.push_reserved.new.self.items a
    c.self.invariant.lines c.self.invariant.actions c.add-part.ensures.items pushed
    (ap (λ p. p.from) c.add-part.ensures.part) (ap (λ p. p.count) c.add-part.ensures.part)
    ∙ ap (λ (o : Output). output o.lines (o.actions ++ action_of c.args.kind more ∷ [])) c.self.view_is
