use Rattle.std.proofs.Common.{◌++◌, ◌∷◌, [], ℕ, List, map, ap, ◌∙◌}
use Rattle.pal_base.specs.View.{exprs_of, name_of}
use Rattle.source_places.proofs.Added.{on_ok, two_added}
use Rattle.source_places.specs.Places as spec
use Rattle.source_places.proofs.places.add_call.Goals as goal

pub returns : goal.returns
returns c names =
    let old = c.args.places.now.items in
    let p = c.args.place in
    let arguments = exprs_of names c.args.arguments.now in
    let targets = spec.targets_places p (map (name_of names) c.args.targets.now) in
    on_ok c.add_targets.result
    (λ e.
    two_added old (spec.arguments_places p c.arguments.result.now arguments) (p ∷ []) targets (c.in_ok-add_arguments.ensures names) c.in_ok-add.ensures e
    ∙ ap (λ kinds. old ++ (spec.arguments_places p kinds arguments ++ p ∷ targets)) c.arguments.ensures.kinds)
    (c.add_targets.ensures names)
