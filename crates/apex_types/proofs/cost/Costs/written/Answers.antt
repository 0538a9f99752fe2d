use Rattle.std.proofs.Common.{refl}
use Rattle.std.proofs.lemmas.Option.{same_Some}
use Rattle.apex_types.specs.Costs.{cost_of_ticks, ticks}
use Rattle.apex_types.proofs.cost.Costs.written.Goals as goal

pub returns : goal.returns
unfolding cost_of_ticks
returns c =
    rw (same_Some c.known.result (ticks 1 refl) c.known.ensures, same_Some c.known-2.result (ticks 1 refl) c.known-2.ensures, same_Some c.known-3.result (ticks 2 refl) c.known-3.ensures, same_Some c.known-4.result (ticks 1 refl) c.known-4.ensures, same_Some c.known-5.result (ticks 2 refl) c.known-5.ensures, same_Some c.known-6.result (ticks 4 refl) c.known-6.ensures, same_Some c.known-7.result (ticks 1 refl) c.known-7.ensures, same_Some c.known-8.result (ticks 1 refl) c.known-8.ensures, same_Some c.known-9.result (ticks 1 refl) c.known-9.ensures, same_Some c.known-10.result (ticks 3 refl) c.known-10.ensures, same_Some c.known-11.result (ticks 2 refl) c.known-11.ensures, same_Some c.known-12.result (ticks 8 refl) c.known-12.ensures, same_Some c.known-13.result (ticks 6 refl) c.known-13.ensures, same_Some c.known-14.result (ticks 4 refl) c.known-14.ensures, same_Some c.known-15.result (ticks 4 refl) c.known-15.ensures)
    refl
