use Rattle.std.proofs.Common.{[], ◌∷◌}
use Rattle.pal_base.proofs.cost.Cost.joined_by.Goals as goal

pub returns : goal.returns
returns c xs ys before behind = c.plus-2.ensures xs (c.args.ticks ∷ ys) before (c.plus.ensures (c.args.ticks ∷ []) ys c.one.ensures behind)
