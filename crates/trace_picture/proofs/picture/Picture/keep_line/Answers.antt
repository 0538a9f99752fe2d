use Rattle.std.proofs.Common.{arith, rules, List, subst}
use Rattle.trace_picture.proofs.Drawn.{has_kept, longer}
use Rattle.trace_stays.specs.Following.{AreInPlace, AreKept, HasFollowed}
use Rattle.trace_stays.specs.declared.lanes.Ended.{Ended}
use Rattle.trace_stays.specs.declared.lanes.Lanes.{Lanes}
use Rattle.trace_picture.proofs.picture.Picture.keep_line.Goals as goal

pub returns-clause-kept : goal.returns-clause-kept
returns-clause-kept c =
    let old = c.args.self.now in
    let new = c.mark.new.self in
    let mid = c.follow.new.self in
    let over = c.follow.new.ended.items in
    let stays = c.keep_stays.ensures.others.1 in
    has_kept c.args.event.now old new mid over c.keep_stays.new.self.shapes.items (subst (λ (es : List Ended). HasFollowed c.args.event.now old.lanes mid es over) (search rules) c.in_ok-follow.ensures) (search rules)
    (subst (λ (l : Lanes). AreKept l new.lanes) stays c.in_ok-mark.ensures.kept) (subst (λ (l : Lanes). AreInPlace l new.lanes) stays c.in_ok-mark.ensures.places) c.in_ok-mark.ensures.bars

pub returns-clause-more : goal.returns-clause-more
returns-clause-more c =
    let stays = longer c.args.self.now.shapes.items c.keep_stays.new.self.shapes.items _ c.in_ok-keep_stays.ensures.kept in
    let marks = c.in_ok-mark.ensures.more in
    omega (arith, stays, marks)
