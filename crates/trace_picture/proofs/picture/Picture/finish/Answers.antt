use Rattle.std.proofs.Common.{◌≤◌, length, refl, rules, subst}
use Rattle.trace_picture.proofs.Drawn.{finished}
use Rattle.trace_picture.proofs.picture.Picture.finish.Goals as goal

pub returns-clause-drawn : goal.returns-clause-drawn
returns-clause-drawn c =
    finished c.args.self c.end.new.self c.args.windows _ (length c.in_ok-begun.begun.items) c.in_ok-count.ensures.fits c.in_ok-count.ensures.rest
    (subst (λ xs. length xs ≤ length c.in_ok-begun.begun.items) c.as_slice.ensures.value c.in_ok-begun.ensures) (search rules) c.span-span.ensures.value c.in_ok-count.ensures.lanes refl refl
