use Rattle.std.proofs.Common.{◌≡◌, ◌≤◌, ◌+◌, ◌-◌, ◌<◌, ℕ, None, Some, suc, length, refl, ap, sym, subst, ◌∙◌, rules, arith}
use Rattle.kernel_meaning.specs.Kernel.{Kernel}
use Rattle.kernel_meaning.specs.Partition.{Member, Moved, chooses_with_handler, followed_by, prepares, with_world}
use Rattle.kernel_meaning.specs.Step.{nothing}
use Rattle.kernel_meaning.specs.Windows.{tick_from}
use Rattle.kernel_laws.specs.Quiet.{HasNothingDue}
use Rattle.kernel_laws.specs.Running.{burst_of, treated_at}
use Rattle.partition.specs.Members.{IsMoved, IsRecorded, member_of}
use Rattle.partition.specs.declared.rooms.TheConstants.{LINES_FOR_TICK}
use Rattle.partition.proofs.Gathering.{gathers_begun, gathers_nobody}
use Rattle.partition.proofs.Gone.{gone_to}
use Rattle.partition.proofs.Phases.{both_recorded}
use Rattle.partition.proofs.partition.Partition.phase.Goals as goal

pub returns-in-None-clause-gone : goal.returns-in-None-clause-gone
returns-in-None-clause-gone g c =
    let x = member_of g.E.Executor c.args.self.now c.args.mem.now in
    let y = member_of g.E.Executor c.prepare-stays.new.self c.prepare-stays.new.mem in
    let at = c.args.moment.at in
    let o = at.origin.0 in
    let t = at.now.0 in
    let q = c.own_ticks-own.result in
    let room = c.args.self.now.room in
    let m = prepares x.engine at x.world in
    let done = c.prepare-stays.ensures.moved in
    let kernel : y.world.kernel ≡ m.world.kernel = ap (λ (v : Member _). v.world.kernel) done.0 in
    let none : y.world.kernel.processes.running ≡ None = search (rules, c.running.ensures, c.in-None.is) in
    let left = done.1.2 in
    let more : 0 < q → LINES_FOR_TICK ≤ room - length m.lines = λ some. let here = c.own_ticks-own.ensures.room some in omega (arith, here, left) in
    let chosen : 0 < q → chooses_with_handler m.world.kernel ≡ nothing m.world.kernel = λ some. subst (λ (k : Kernel). chooses_with_handler k ≡ nothing k) kernel (c.own_ticks-own.ensures.choice some) in
    let due : (i : ℕ) → i < q → HasNothingDue (tick_from o (t + 1 + i)) m.world.kernel = λ i below. subst (λ (k : Kernel). HasNothingDue (tick_from o (t + 1 + i)) k) kernel (c.own_ticks-own.ensures.due i below) in
    let nobody : m.world.kernel.processes.running ≡ None = ap (λ (k : Kernel). k.processes.running) (sym kernel) ∙ none in (
      m.lines,
      done.1,
      gone_to at room (q + 1) x y m.world m.lines done.0 (gathers_nobody x.engine o room t q (q + 1) x.world c.requires.room more nobody chosen due refl),
    )

pub returns-in-Some-clause-gone : goal.returns-in-Some-clause-gone
returns-in-Some-clause-gone g c =
    let x = member_of g.E.Executor c.args.self.now c.args.mem.now in
    let y = member_of g.E.Executor c.prepare-stays.new.self c.prepare-stays.new.mem in
    let z = member_of g.E.Executor c.burst.new.self c.burst.new.mem in
    let at = c.args.moment.at in
    let o = at.origin.0 in
    let t = at.now.0 in
    let p = c.in-Some.runner in
    let q = c.own_ticks-own.result in
    let n = c.burst.result in
    let room = c.args.self.now.room in
    let m = prepares x.engine at x.world in
    let done = c.prepare-stays.ensures.moved in
    let one_more : q + 1 ≡ suc q = omega arith in
    let rest : Member _ → Moved _ = λ v. treated_at v.engine o p v.world (t + (n - 1)) (burst_of v.engine (suc q) p v.world) in
    let second = subst (λ j. IsMoved (treated_at y.engine o p y.world (t + (n - 1)) (burst_of y.engine j p y.world)) y z (IsRecorded g.L.EventLog c.prepare-stays.new.log c.burst.new.log c.prepare-stays.new.self.room c.burst.new.self.room)) one_more c.burst.ensures.treated in
    let both = both_recorded g.L.EventLog x y z m rest c.args.log.now c.prepare-stays.new.log c.burst.new.log room c.prepare-stays.new.self.room c.burst.new.self.room g.met.L.EventLog.more done second in
    let kernel : y.world.kernel ≡ m.world.kernel = ap (λ (v : Member _). v.world.kernel) done.0 in
    let run : y.world.kernel.processes.running ≡ Some p = search (rules, c.running.ensures, c.in-Some.is) in
    let runs : m.world.kernel.processes.running ≡ Some p = ap (λ (k : Kernel). k.processes.running) (sym kernel) ∙ run in
    let left = done.1.2 in
    let more : 0 < q → LINES_FOR_TICK ≤ room - length m.lines = λ some. let here = c.own_ticks-own.ensures.room some in omega (arith, here, left) in
    let chosen : 0 < q → chooses_with_handler m.world.kernel ≡ nothing m.world.kernel = λ some. subst (λ (k : Kernel). chooses_with_handler k ≡ nothing k) kernel (c.own_ticks-own.ensures.choice some) in
    let due : (i : ℕ) → i < q → HasNothingDue (tick_from o (t + 1 + i)) m.world.kernel = λ i below. subst (λ (k : Kernel). HasNothingDue (tick_from o (t + 1 + i)) k) kernel (c.own_ticks-own.ensures.due i below) in
    let count : n ≡ (burst_of x.engine (suc q) p m.world).ticks = c.burst.ensures.ticks ∙ ap (λ j. (burst_of y.engine j p y.world).ticks) one_more ∙ ap (λ (v : Member _). (burst_of v.engine (suc q) p v.world).ticks) done.0 in
    let whole = followed_by m (λ w. rest (with_world x w)) in (
      whole.lines,
      both.1,
      gone_to at room n x z whole.world whole.lines both.0 (gathers_begun x.engine o room t q n p x.world c.requires.room more runs chosen due count),
    )
