use Rattle.std.proofs.Common.{List, Option, Some, subst, sym, ℕ}
use Rattle.std.proofs.lemmas.Result.{on_ok_weaker}
use Rattle.apex_types.specs.declared.event.EventKind.{EventKind}
use Rattle.trace_stays.specs.Following.{HasRead}
use Rattle.trace_stays.proofs.lanes.Lanes.follow.Goals as goal

pub returns-in-Error : goal.returns-in-Error
returns-in-Error c =
    let event = c.args.event.now in
    let old = c.args.self.now in
    let new = c.fail.new.self in
    let before = c.args.ended.now.items in
    let after = c.fail.new.ended.items in
    on_ok_weaker c.fail.result
    (λ read. subst (λ (p : Option (List ℕ)). HasRead p event.kind event.tick.0 old new before after) (sym c.in-Some.is)
    (subst (λ (k : EventKind). HasRead (Some c.in-Some.name) k event.tick.0 old new before after) (sym c.in-Error.is) (read _))) c.fail.ensures
