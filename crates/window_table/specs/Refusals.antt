-- When a refusal of a module table is right.
use Rattle.std.specs.Prelude.{◌≡◌, ℕ, List, Result, Err}
use Rattle.toml.specs.Data.{Members}
use Rattle.module_meaning.specs.Accepted.{IsDocument}
use Rattle.module_meaning.specs.TableRules.{Refusal, verdict}
use Rattle.module_meaning.specs.TableRules as rule
use Rattle.window_table.specs.declared.fault.TableFault.{TableFault}
use Rattle.window_table.specs.declared.fault.TableFault.TheVariants as fault

-- the rule that the verdict on a document names; a refusal for memory says nothing of the verdict
abbrev pub IsOf : {B : Type 0} → TableFault → Result B Refusal → Type 0
IsOf fault.Memory judged = Unit {0}
IsOf fault.Document judged = ⊥
IsOf fault.Shape judged = judged ≡ Err rule.Shape
IsOf fault.Limit judged = judged ≡ Err rule.Limit
IsOf fault.Name judged = judged ≡ Err rule.Name
IsOf fault.Overlap judged = judged ≡ Err rule.Overlap
IsOf fault.Period judged = judged ≡ Err rule.Period
IsOf fault.Duration judged = judged ≡ Err rule.Duration
IsOf fault.Release judged = judged ≡ Err rule.Release
IsOf fault.Ends judged = judged ≡ Err rule.Ends
IsOf fault.Health judged = judged ≡ Err rule.Health

-- The text is no document, or its document is refused by this rule.
abbrev pub IsRefused : List ℕ → TableFault → Type 0
IsRefused bytes fault.Memory = Unit {0}
IsRefused bytes fault.Document = (ms : Members) → IsDocument bytes ms → ⊥
IsRefused bytes f = (ms : Members) × IsDocument bytes ms × IsOf f (verdict ms)
