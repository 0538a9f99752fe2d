use Rattle.std.proofs.Common.{◌≡◌, ◌≤◌, ◌<◌, ◌+◌, ◌-◌, ◌++◌, [], length, ap, subst, rules, arith}
use Rattle.apex_types.specs.declared.limits.TheConstants.{MOST_EVENTS}
use Rattle.kernel_meaning.specs.Windows.{at_tick}
use Rattle.partition.specs.Members.{HasGone, member_of}
use Rattle.partition.specs.declared.rooms.TheConstants.{LINES_FOR_TICK}
use Rattle.partition.proofs.Gone.{gone_all, gone_more, gone_none}
use Rattle.partition.proofs.Told.{records_more, records_none}
use Rattle.partition.proofs.partition.Partition.advance.Goals as goal

pub loop-left-init : goal.loop-left-init
loop-left-init g c =
    let x = member_of g.E.Executor c.args.self.now c.args.mem.now in
    let at = c.args.moment.at in
    let log = c.args.log.now in
    let none : 0 ≡ c.args.k - c.args.k = omega arith in
    record {
      gone = ([], records_none g.L.EventLog log MOST_EVENTS g.met.L.EventLog.none, subst (HasGone at MOST_EVENTS x x []) none (gone_none at MOST_EVENTS x));
      within = omega arith;
      known = g.met.L.EventLog.empty log c.requires.empty;
      fits = c.requires.fits;
      idle = search rules;
    }

pub loop-left-preserved : goal.loop-left-preserved
loop-left-preserved g c =
    let i = c.loop-left.invariant in
    let at = c.args.moment.at in
    let x = member_of g.E.Executor c.args.self.now c.args.mem.now in
    let y = member_of g.E.Executor c.loop-left.self c.loop-left.mem in
    let z = member_of g.E.Executor c.phase-left.new.self c.phase-left.new.mem in
    let gone = c.phase-left.ensures.gone in
    let n = c.phase-left.result in
    let left = c.loop-left.left in
    let within = i.within in
    let few = c.phase-left.ensures.within in
    let known = i.known in
    let room = i.gone.1.2 in
    let least = gone.1.1 in
    let counted = gone.1.2 in
    let when : at.now.0 + c.from.result ≡ at.now.0 + (c.args.k - left) = ap (λ d. at.now.0 + d) c.from.ensures in
    let done : c.args.k - left + n ≡ c.args.k - (left - n) = omega (arith, within, few) in
    record {
      gone = (
        i.gone.0 ++ gone.0,
        records_more g.L.EventLog c.args.log.now c.loop-left.log c.phase-left.new.log MOST_EVENTS c.loop-left.self.room c.phase-left.new.self.room i.gone.0 gone.0 g.met.L.EventLog.more i.gone.1 gone.1,
        subst (HasGone at MOST_EVENTS x z (i.gone.0 ++ gone.0)) done
            (gone_more at MOST_EVENTS (c.args.k - left) n x y z i.gone.0 gone.0 i.gone.2
            (subst (λ u. HasGone (at_tick at u) (MOST_EVENTS - length i.gone.0) y z gone.0 n) when (subst (λ r. HasGone (at_tick at (at.now.0 + c.from.result)) r y z gone.0 n) room gone.2))),
      );
      within = omega (arith, within);
      known = omega (arith, known, least, counted);
      fits = c.phase-left.ensures.fits;
      idle = c.phase-left.ensures.idle;
    }

pub returns-clause-advanced : goal.returns-clause-advanced
returns-clause-advanced g c =
    let i = c.loop-left.invariant in
    let x = member_of g.E.Executor c.args.self.now c.args.mem.now in
    let y = member_of g.E.Executor c.loop-left.self c.loop-left.mem in
    let n = c.args.k - c.loop-left.left in
    let few : n ≤ c.args.k = omega arith in
    let full : n < c.args.k → MOST_EVENTS - length i.gone.0 < LINES_FOR_TICK = elim c.loop-left-test.branch [
      | goal.then-loop-left-test+else-has_room w ↦ λ some. subst (λ room. room < LINES_FOR_TICK) i.gone.1.2 (w.has_room.ensures.none w.if-has_room.false)
      | goal.else-loop-left-test w ↦ λ some. absurd (omega (arith, w.loop-left-test.false, some))
    ] in
    (i.gone.0, i.gone.1.0, gone_all c.args.moment.at n c.args.k x y i.gone.0 i.gone.2 few full)
