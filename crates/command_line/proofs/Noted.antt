-- The note on a refused source, and on a program that is too long.
use Rattle.std.proofs.Common.{◌≡◌, ℕ, List, Option, Some, None, IfSome, string_bytes, subst, sym, ap, ◌∙◌}
use Rattle.finding_lines.specs.Reports.{Form, Report}
use Rattle.module_meaning.specs.Table.{Table}
use Rattle.module_meaning.specs.Accepted.{IsTable}
use Rattle.module.specs.declared.fault.BuildFault.{BuildFault}
use Rattle.module.specs.declared.fault.BuildFault.TheVariants as build
use Rattle.pal_base.specs.declared.fault.PalFault.{PalFault}
use Rattle.compiler.specs.declared.fault.CompileFault.{CompileFault}
use Rattle.command_line.specs.Explanation.{IsLengthExplanation, IsSourceExplanation}
use Rattle.module.specs.Costs.{AreCosts}
use Rattle.module.specs.declared.costing.PartitionCosts.{PartitionCosts}
use Rattle.command_line.specs.Explained.{Costed, IsExplained, IsExplainedWith, IsLengthExplained, IsLengthExplainedWith, IsNoteOf, IsNoted, IsNotedAs, IsNotedBy, Source, costed_of, form_in, report_on, source_of}
use Rattle.module.specs.Lines.{build_line}
use Rattle.command_line.specs.declared.explaining.Note.{Note}
use Rattle.command_line.specs.declared.explaining.Note.TheVariants.{Explained, Unwanted, Wanted}
use Rattle.command_line.specs.declared.explaining.Style.{Style}

-- with the table of the text
pub of_text : {A : Type 0} (view : A → List ℕ) (form : Form) (text : List ℕ) (files sources : List (List ℕ)) (name : List ℕ) (fault : PalFault) (t : Table) (answer : Option A)
    → IsTable text t → IfSome answer (λ a. IsExplainedWith form t files sources name fault (view a)) → IfSome answer (λ a. IsExplained form text files sources name fault (view a))
of_text view form text files sources name fault t (Some a) is told = (t, is, told)
of_text view form text files sources name fault t None is told = tt

-- with the source of the partition
pub with_source : {A : Type 0} (view : A → List ℕ) (form : Form) (t : Table) (files sources : List (List ℕ)) (name : List ℕ) (fault : PalFault) (source : Source) (r : Report) (answer : Option A)
    → r ≡ report_on form source.file → source_of t.partitions files sources name ≡ Some source → IfSome answer (λ a. IsSourceExplanation r source.period source.text fault.refusal (view a)) → IfSome answer (λ a. IsExplainedWith form t files sources name fault (view a))
with_source view form t files sources name fault source r (Some a) same is told = (source, is, subst (λ x. IsSourceExplanation x source.period source.text fault.refusal (view a)) same told)
with_source view form t files sources name fault source r None same is told = tt

-- of a refused source
pub of_source : {A : Type 0} (view : A → List ℕ) (style : Style) (file table : List ℕ) (files sources : List (List ℕ)) (fault : BuildFault) (name : List ℕ) (refused : PalFault) (form : Form) (answer : Option A)
    → fault ≡ build.Pal name refused → form ≡ form_in style (build_line fault) → IfSome answer (λ a. IsExplained form table files sources name refused (view a)) → IfSome answer (λ a. IsNoted style file table files sources fault (view a))
of_source view style file table files sources fault name refused form (Some a) is same told =
    rw (is) (subst (λ f. IsExplained f table files sources name refused (view a)) (same ∙ ap (λ d. form_in style (build_line d)) is) told)
of_source view style file table files sources fault name refused form None is same told = tt

-- ---- a program that is too long

-- with the costs of the table and the sources
pub of_costs : {A : Type 0} (view : A → List ℕ) (form : Form) (table : List ℕ) (files sources : List (List ℕ)) (name : List ℕ) (costs : List PartitionCosts) (answer : Option A)
    → AreCosts table sources costs → IfSome answer (λ a. IsLengthExplainedWith form costs files sources name (view a)) → IfSome answer (λ a. IsLengthExplained form table files sources name (view a))
of_costs view form table files sources name costs (Some a) are told = (costs, are, told)
of_costs view form table files sources name costs None are told = tt

-- with the source of the partition
pub with_costed : {A : Type 0} (view : A → List ℕ) (form : Form) (costs : List PartitionCosts) (files sources : List (List ℕ)) (name : List ℕ) (c : Costed) (r : Report) (answer : Option A)
    → r ≡ report_on form c.file → costed_of costs files sources name ≡ Some c → IfSome answer (λ a. IsLengthExplanation r c.text c.bodies (view a)) → IfSome answer (λ a. IsLengthExplainedWith form costs files sources name (view a))
with_costed view form costs files sources name c r (Some a) same is told = (c, is, subst (λ x. IsLengthExplanation x c.text c.bodies (view a)) same told)
with_costed view form costs files sources name c r None same is told = tt

-- of the program of a partition
pub of_length : {A : Type 0} {reason : CompileFault} (view : A → List ℕ) (style : Style) (file table : List ℕ) (files sources : List (List ℕ)) (fault : BuildFault) (name : List ℕ) (form : Form) (answer : Option A)
    → fault ≡ build.Compile name reason → form ≡ form_in style (build_line fault) → IfSome answer (λ a. IsLengthExplained form table files sources name (view a)) → IfSome answer (λ a. IsNoted style file table files sources fault (view a))
of_length view style file table files sources fault name form (Some a) is same told =
    rw (is) (subst (λ f. IsLengthExplained f table files sources name (view a)) (same ∙ ap (λ d. form_in style (build_line d)) is) told)
of_length view style file table files sources fault name form None is same told = tt

-- ---- what is noted of an explanation

pub noted_by : (is : Style → List ℕ → Type 0) (style : Style) (text : List ℕ) (note : Note) → IsNotedAs style text note → is style text → IsNotedBy is (Wanted style) note
noted_by is style text (Explained told more) same explained = subst (λ t. is style t) (sym same) explained
noted_by is style text (Wanted other) same explained = same
noted_by is style text Unwanted same explained = same

pub note_of : (file table : List ℕ) (files sources : List (List ℕ)) (fault : BuildFault) (style : Style) (text : List ℕ) (note : Note)
    → IsNotedAs style text note → IsNoted style file table files sources fault text → IsNoteOf file table files sources fault (Wanted style) note
note_of file table files sources fault style text (Explained told more) same explained = subst (λ t. IsNoted style file table files sources fault t) (sym same) explained
note_of file table files sources fault style text (Wanted other) same explained = same
note_of file table files sources fault style text Unwanted same explained = same
