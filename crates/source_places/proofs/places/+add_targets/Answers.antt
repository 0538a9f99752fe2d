use Rattle.std.proofs.Common.{◌≡◌, ◌++◌, ◌∷◌, [], ℕ, List, map, ap, sym, ◌∙◌, append_assoc}
use Rattle.pal_base.specs.View.{name_of}
use Rattle.pal_base.specs.declared.syntax.Identifier.{Identifier}
use Rattle.source_places.proofs.Added.{on_ok}
use Rattle.source_places.specs.Places as spec
use Rattle.source_places.proofs.places.+add_targets.Goals as goal

pub returns-in_ok-add-in-Some : goal.returns-in_ok-add-in-Some
returns-in_ok-add-in-Some t c names =
    let old = c.args.places.now.items in
    let p = c.args.place in
    let rest = spec.targets_places p (map (name_of names) c.in-Some.targets.now) in
    let split : c.args.targets.now ≡ c.in-Some.field-0-0.now ∷ c.in-Some.targets.now = c.in-Some.ensures.cases.0 in
    on_ok c.add_targets.result
    (λ e.
    e
    ∙ ap (λ l. l ++ rest) c.in_ok-add-in-Some.ensures
    ∙ append_assoc old (p ∷ []) rest
    ∙ ap (λ (xs : List Identifier). old ++ spec.targets_places p (map (name_of names) xs)) (sym split))
    (c.add_targets.ensures names)
