-- That the ticks of a record are not too great is one fact: it has at most one proof, so that a struct can carry it.
use Rattle.std.specs.Prelude.{ℕ, Option, Some, None}
use Rattle.std.specs.Coded.{Unit-prop}
use Rattle.std.proofs.Props.{props}
use Rattle.apex_types.specs.declared.identity.Ticks.{Ticks}
use Rattle.apex_types.specs.declared.process.ProcessStatus.{ProcessStatus}
use Rattle.apex_types.specs.declared.process.Wait.{Wait}
use Rattle.apex_types.specs.declared.process.Wait.TheVariants as wait
use Rattle.process_table_base.specs.Bounds.{IsAtMost, IsBounded, IsDelayed}

at_most_prop : (most : ℕ) (count : Option Ticks) → IsProp (IsAtMost most count)
at_most_prop most None = Unit-prop
at_most_prop most (Some n) = hlevel props

delayed_prop : (reason : Wait) → IsProp (IsDelayed reason)
delayed_prop wait.Nothing = Unit-prop
delayed_prop (wait.NormalStart delay) = hlevel props
delayed_prop wait.FirstRelease = Unit-prop
delayed_prop (wait.Service service) = Unit-prop
delayed_prop (wait.Object service array) = Unit-prop

pub bounded_prop : (r : ProcessStatus) → IsProp (IsBounded r)
bounded_prop r = hlevel (props, at_most_prop, delayed_prop)
