use Rattle.lone_partition.proofs.Prelude.{◌≡◌, Bool, Option, Some, None, refl, sym, ap, ◌∙◌, is_some, option_map, PartitionId, owner, ended, then_goes, sends_ended, ticks_own, member_of, around}
use Rattle.lone_partition.proofs.Written.{then_made}
use Rattle.lone_partition.proofs.ticking.send_and_tick.Goals as goal

is_some_map : {A B : Type 0} (f : A → B) (o : Option A) → is_some o ≡ is_some (option_map f o)
is_some_map f None = refl
is_some_map f (Some x) = refl

pub returns-clause-written : goal.returns-clause-written
returns-clause-written g c =
    let s = around c.args.surroundings.now in
    let at = c.args.moment.at in
    let x = member_of g.E.Executor c.args.partition.now c.args.mem.now in
    let ends : c.is_some-ends.result ≡ is_some (ended s.schedule at) = c.is_some-ends.ensures ∙ is_some_map (λ (p : PartitionId). p.0) c.ended-ended.result ∙ ap is_some c.ended-ended.ensures in
    let owns : c.is_some.result ≡ is_some (owner s.schedule at) = c.is_some.ensures ∙ is_some_map (λ (p : PartitionId). p.0) c.owner-owner.result ∙ ap is_some c.owner-owner.ensures in
    let split =
    ap (λ (b : Bool). then_goes (sends_ended s at x b) (λ y. ticks_own at y (is_some (owner s.schedule at)))) (sym ends)
    ∙ ap (λ (b : Bool). then_goes (sends_ended s at x c.is_some-ends.result) (λ y. ticks_own at y b)) (sym owns) in
    then_made (λ y. ticks_own at y c.is_some.result) (member_of g.E.Executor c.send_ended.new.partition c.send_ended.new.mem) split c.send_ended.ensures.written c.tick_own.ensures.written
