-- The relations between the results of the code and a text.
use Rattle.std.specs.Prelude.{◌≡◌, ℕ, Bool, true, List, Option, Some, None, Result, Ok, Err}
use Rattle.toml.specs.Data.{Members}
use Rattle.module_meaning.specs.TableRules.{Refusal, verdict}
use Rattle.window_table.specs.declared.fault.TableFault.{TableFault}
use Rattle.window_table.specs.declared.fault.TableFault.TheVariants as fault
use Rattle.window_table.specs.declared.table.ModuleTable.{ModuleTable}
use Rattle.window_table.specs.Refusals.{IsOf, IsRefused}
use Rattle.window_table.specs.Views.{table_of}
use Rattle.module_meaning.specs.Accepted.{IsDocument}

-- the result of reading a part of a document, which is refused if its shape is wrong; memory may
-- run out
abbrev pub Reads : {A B : Type 0} → (A → B) → Result A TableFault → Option B → Type 0
Reads view (Ok x) read = read ≡ Some (view x)
Reads view (Err fault.Memory) read = Unit {0}
Reads view (Err fault.Shape) read = read ≡ None
Reads view (Err _) read = ⊥

-- the verdict; memory may run out
abbrev pub Judges : {A B : Type 0} → (A → B) → Result A TableFault → Result B Refusal → Type 0
Judges view (Ok x) judged = judged ≡ Ok (view x)
Judges view (Err f) judged = IsOf f judged

-- refused by one rule, if the rule is broken; memory may run out
abbrev pub RefusesLimit : {A : Type 0} → Result A TableFault → Bool → Type 0
RefusesLimit (Ok x) broken = Unit {0}
RefusesLimit (Err fault.Memory) broken = Unit {0}
RefusesLimit (Err fault.Limit) broken = broken ≡ true
RefusesLimit (Err _) broken = ⊥

abbrev pub RefusesOverlap : {A : Type 0} → Result A TableFault → Bool → Type 0
RefusesOverlap (Ok x) broken = Unit {0}
RefusesOverlap (Err fault.Memory) broken = Unit {0}
RefusesOverlap (Err fault.Overlap) broken = broken ≡ true
RefusesOverlap (Err _) broken = ⊥

-- The result for a text: it is no document, the verdict on the document, or memory ran out.
abbrev pub AnswersText : List ℕ → Result ModuleTable TableFault → Type 0
AnswersText bytes (Err f) = IsRefused bytes f
AnswersText bytes (Ok table) = (ms : Members) × IsDocument bytes ms × (verdict ms ≡ Ok (table_of table))

-- the number of a refusal
abbrev pub number_of : TableFault → ℕ
number_of fault.Document = 1
number_of fault.Shape = 2
number_of fault.Limit = 3
number_of fault.Name = 4
number_of fault.Overlap = 5
number_of fault.Period = 6
number_of fault.Duration = 7
number_of fault.Release = 8
number_of fault.Ends = 9
number_of fault.Health = 10
number_of fault.Memory = 11
