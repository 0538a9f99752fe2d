use Rattle.links.proofs.Prelude.{◌∙◌, sym, length-set}
use Rattle.links.proofs.Leaving.{once-at-home}
use Rattle.links.proofs.OneHome.{IsHomed-leaves, leaves-home, leaves-none}
use Rattle.links.proofs.links.Links.remove.Goals as goal

pub invariant_of-self : goal.invariant_of-self
invariant_of-self c =
    let left = leaves-home c.args.process.0 _ _ _ c.self.invariant.homed (sym c.home_of.ensures ∙ c.in-Some.is) in
    record {
      complete = rw c.put_home.ensures (rw length-set c.self.invariant.complete);
      homed = rw (c.leave_at.ensures, left, c.put_home.ensures) (IsHomed-leaves c.args.process.0 _ _ c.self.invariant.homed);
    }

pub leave_at-requires : goal.leave_at-requires
leave_at-requires c = once-at-home c.args.process.0 c.in-Some.list.0 _ _ c.self.invariant.homed

pub returns-in-Some : goal.returns-in-Some
returns-in-Some c = rw (← c.self.view_is) (c.leave_at.ensures ∙ leaves-home c.args.process.0 _ _ _ c.self.invariant.homed (sym c.home_of.ensures ∙ c.in-Some.is))

pub returns-in-None : goal.returns-in-None
returns-in-None c = rw (← c.self.view_is) (sym (leaves-none c.args.process.0 _ _ c.self.invariant.homed (sym c.home_of.ensures ∙ c.in-None.is)))
