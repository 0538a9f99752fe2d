use Rattle.std.proofs.Common.{◌≡◌, ◌++◌, List, ap, flat_map, map, subst, ◌∙◌}
use Rattle.std.specs.Prelude.{OnOk}
use Rattle.pal_base.specs.View.{body_of, name_of, texts}
use Rattle.lint.specs.Unused.{names_of, unused}
use Rattle.lint.specs.UsedNames.{used_names}
use Rattle.lint.specs.Views.{Found, found_all}
use Rattle.lint.specs.declared.finding.FindingKind.TheVariants as finding
use Rattle.lint.proofs.Blocks.{both_add}
use Rattle.lint.proofs.UsedNames.{same_own}
use Rattle.lint.proofs.unused.add_in_body.Goals as goal

pub returns : goal.returns
returns c =
    let names = texts c.args.names.now.keys in
    let body = body_of names c.args.body.now in
    let us = used_names c.in_ok-used.used in
    let vs = names_of body in
    let old = found_all c.args.findings.now.items in
    let mid = found_all c.add_own.new.findings.items in
    let new = found_all c.add_own-2.new.findings.items in
    let first = same_own us vs c.in_ok-used.ensures finding.UnusedParameter (map (name_of names) c.args.parameters.now) in
    let second = same_own us vs c.in_ok-used.ensures finding.UnusedVariable body.locals in
    both_add c.add_own-2.result old mid new (flat_map (unused vs finding.UnusedParameter) (map (name_of names) c.args.parameters.now)) (flat_map (unused vs finding.UnusedVariable) body.locals)
    (c.in_ok-add_own.ensures ∙ ap (λ (l : List Found). old ++ l) first)
    (subst (λ (l : List Found). OnOk c.add_own-2.result (new ≡ mid ++ l)) second (rw c.deref.ensures.value at c.add_own-2.ensures))
