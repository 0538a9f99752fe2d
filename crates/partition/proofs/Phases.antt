-- One phase of a partition, then another.
use Rattle.std.proofs.Common.{◌≡◌, ℕ, ◌+◌, List, ◌++◌, length, append_assoc, length-append, ap, sym, ◌∙◌, arith}
use Rattle.apex_types.specs.declared.event.Event.{Event}
use Rattle.apex_types.specs.declared.log.EventLog.{Ghosts as Log}
use Rattle.kernel_meaning.specs.Partition.{Member, Moved, followed_by, with_world}
use Rattle.partition.specs.Members.{IsMoved, IsRecorded, IsTold}

pub both_phases : {C L : Type 0} (g : Log L) (x y z : Member C) (m : Moved C) (rest : Member C → Moved C) (old mid new : L) → ((before after : List Event) → g.pieces (before ++ after) ≡ g.pieces before ++ g.pieces after)
    → IsMoved m x y (IsTold g old mid) → IsMoved (rest y) y z (IsTold g mid new) → IsMoved (followed_by m (λ w. rest (with_world x w))) x z (IsTold g old new)
both_phases {C} {L} g x y z m rest old mid new more first second =
    let n = rest (with_world x m.world) in (
      second.0 ∙ ap (λ (v : Member C). with_world v (rest v).world) first.0,
      second.1
          ∙ ap (λ (v : Member C). g.held mid ++ g.pieces (rest v).lines) first.0
          ∙ ap (λ ps. ps ++ g.pieces n.lines) first.1
          ∙ append_assoc (g.held old) (g.pieces m.lines) (g.pieces n.lines)
          ∙ ap (λ ps. g.held old ++ ps) (sym (more m.lines n.lines)),
    )

-- the same, with the lines counted
pub both_recorded : {C L : Type 0} (g : Log L) (x y z : Member C) (m : Moved C) (rest : Member C → Moved C) (old mid new : L) (before between after : ℕ) → ((before after : List Event) → g.pieces (before ++ after) ≡ g.pieces before ++ g.pieces after)
    → IsMoved m x y (IsRecorded g old mid before between) → IsMoved (rest y) y z (IsRecorded g mid new between after)
    → IsMoved (followed_by m (λ w. rest (with_world x w))) x z (IsRecorded g old new before after)
both_recorded g x y z m rest old mid new before between after more first second =
    let n = rest (with_world x m.world) in
    let both = both_phases g x y z m rest old mid new more (first.0, first.1.0) (second.0, second.1.0) in
    let same : length (rest y).lines ≡ length n.lines = ap (λ (v : Member _). length (rest v).lines) first.0 in
    let whole : length (m.lines ++ n.lines) ≡ length m.lines + length n.lines = length-append m.lines n.lines in
    (both.0, (both.1, omega (arith, first.1.1, second.1.1, same, whole), omega (arith, first.1.2, second.1.2, same, whole)))
