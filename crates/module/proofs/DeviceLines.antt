-- The device lines, in the order of their ticks.
use Rattle.module.proofs.Prelude.{◌≡◌, ℕ, zero, suc, ◌<◌, List, None, refl, ap, DeviceLine, At, Plan, then_runs, of_tick, inputs_all, moves_and_ticks, module_tick, trace_from, Member, AreFrom}
use Rattle.std.proofs.Common.{[]}
use Rattle.lone_partition.proofs.LinesOfTicks as of_any
use Rattle.module.specs.Written.{tick_of_line}

-- no line is of a tick before all of them
pub none_before : (t u : ℕ) (ls : List DeviceLine) → t < u → AreFrom u ls → of_tick t ls ≡ []
none_before t u ls below order = of_any.none_before tick_of_line t u ls below order

-- the lines of a tick are all of this tick
pub of_tick_again : (t : ℕ) (ls : List DeviceLine) → of_tick t (of_tick t ls) ≡ of_tick t ls
of_tick_again t ls = of_any.of_tick_again tick_of_line t ls

-- ---- a tick with other lines

-- only the lines of its tick count
pub same_tick : {C : Type 0} (plan : Plan) (at : At) (xs ys : List DeviceLine) (ms : List (Member C)) → of_tick at.now.0 xs ≡ of_tick at.now.0 ys → module_tick plan at xs ms ≡ module_tick plan at ys ms
same_tick plan at xs ys ms e = ap (λ (ls : List DeviceLine). then_runs (inputs_all plan at ls ms) (moves_and_ticks plan)) e

-- a module that is shut down has no lines
pub none_after : {C : Type 0} (plan : Plan) (lines : List DeviceLine) (n : ℕ) (ms : List (Member C)) → trace_from plan lines n None ms ≡ []
none_after plan lines zero ms = refl
none_after plan lines (suc n) ms = refl
