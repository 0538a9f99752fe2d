use Rattle.std.proofs.Common.{◌≡◌, ◌++◌, drop}
use Rattle.trace_picture.specs.Marked.{IsLike, bars_of_stays}
use Rattle.trace_picture.proofs.picture.Picture.keep_stays.Given as goal
use Rattle.trace_stays.specs.Shown.{open_ticks}

-- the bars so far, and those of the rest, are all; the ticks, the lanes and the way stay
abbrev pub invariant-loop-one : goal.invariant-loop-one
invariant-loop-one l =
    (l.self.shapes.items ++ bars_of_stays (open_ticks l.initial.self.shown) (drop l.one-index l.ended) ≡ l.initial.self.shapes.items ++ bars_of_stays (open_ticks l.initial.self.shown) l.ended)
    × IsLike l.initial.self l.self
