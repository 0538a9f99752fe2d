-- What is found in the texts of the files that are named.
use Rattle.std.proofs.Common.{◌≡◌, ℕ, ◌+◌, Bool, true, false, List, [], ◌∷◌, ◌++◌, length, map, Option, Result, Ok, Err, IfErr, OnOk, refl, sym, ap, subst, ◌∙◌, append-nil, append_assoc, arith}
use Rattle.module_meaning.specs.Table.{Partition, Table}
use Rattle.pal_meaning.specs.Syntax as written
use Rattle.pal_base.specs.Answers.{IsRefused}
use Rattle.pal_base.specs.WrittenView.{program_of}
use Rattle.pal_base.specs.declared.fault.PalFault.{PalFault}
use Rattle.pal_base.specs.declared.fault.Refusal.{Refusal as Refused}
use Rattle.pal_base.specs.declared.fault.Refusal.TheVariants as refused
use Rattle.pal_base.specs.declared.checked.Checked.{Checked}
use Rattle.pal_base.specs.declared.syntax.Program as tree
use Rattle.lint.specs.Findings.{partition_findings}
use Rattle.lint.specs.Views.{found_all}
use Rattle.lint.specs.declared.report.PartitionFindings.{PartitionFindings}
use Rattle.window_table.specs.Views.{partition_view, table_of}
use Rattle.window_table.specs.declared.table.PartitionRow.{PartitionRow}
use Rattle.module.specs.Sources.{AreSources}
use Rattle.streams.specs.Contents.{Contents}
use Rattle.command_line.specs.Done.{AreFoundIn, IsLinted, IsModuleIn}
use Rattle.command_line.specs.Ends.{Ends}
use Rattle.command_line.specs.Linting.{AddsFound, AddsTrees, AreAllFound, AreFoundOf, AreFoundOfModule, AreShown, AreToldOf, AreTrees, HasTree, HaveTrees, IsFoundOf}
use Rattle.command_line.specs.Orders.{Lint}
use Rattle.command_line.specs.States.{State}
use Rattle.command_line.specs.declared.linting.ReadModule.{ReadModule}
use Rattle.command_line.specs.declared.outcome.Outcome.{Outcome}
use Rattle.command_line.specs.declared.outcome.Outcome.TheVariants.{Usual, Remarkable}
use Rattle.command_line.specs.declared.refusal.Refusal.{Refusal}
use Rattle.command_line.specs.declared.refusal.Refusal.TheVariants.{Build, Run, Replay, Inputs, File, LongTable, Memory, Write}

-- one more tree, and one more partition with what is found of it
pub more_trees : (text : List ℕ) (texts : List (List ℕ)) (p : tree.Program) (old mid new : List tree.Program) → mid ≡ old ++ p ∷ [] → AreTrees (text ∷ []) (program_of p ∷ []) → AddsTrees texts mid new → AddsTrees (text ∷ texts) old new
more_trees text texts p old mid new pushed own (trees, rest, are) =
    (p ∷ trees, rest ∙ subst (λ (m : List tree.Program). m ++ trees ≡ old ++ p ∷ trees) (sym pushed) (append_assoc old (p ∷ []) trees), (own.0, are))

pub more_found : (t : Table) (number : ℕ) (row : PartitionRow) (rows : List PartitionRow) (p : tree.Program) (trees : List tree.Program) (given : Checked) (accepted : List Checked) (f : PartitionFindings) (old mid new : List PartitionFindings)
    → mid ≡ old ++ f ∷ [] → IsFoundOf t number (partition_view row) (program_of p) given f → AddsFound t (number + 1) rows trees accepted mid new → AddsFound t number (row ∷ rows) (p ∷ trees) (given ∷ accepted) old new
more_found t number row rows p trees given accepted f old mid new pushed own (found, rest, are) =
    (f ∷ found, rest ∙ subst (λ (m : List PartitionFindings). m ++ found ≡ old ++ f ∷ found) (sym pushed) (append_assoc old (f ∷ []) found), (own, are))

pub more_found_by : {E : Type 0} (answer : Result (Unit {0}) E) (t : Table) (number : ℕ) (rows later : List PartitionRow) (row : PartitionRow) (trees more : List tree.Program) (p : tree.Program) (accepted others : List Checked) (given : Checked) (f : PartitionFindings) (old mid new : List PartitionFindings)
    → rows ≡ row ∷ later → trees ≡ p ∷ more → accepted ≡ given ∷ others → mid ≡ old ++ f ∷ [] → f.partition.now ≡ row.name
    → found_all f.findings.items ≡ partition_findings t number row.ports.items (program_of p) given.program
    → OnOk answer (AddsFound t (number + 1) later more others mid new) → OnOk answer (AddsFound t number rows trees accepted old new)
more_found_by (Err e) t number rows later row trees more p accepted others given f old mid new one two three pushed named found rest = tt
more_found_by (Ok x) t number rows later row trees more p accepted others given f old mid new one two three pushed named found rest =
    let own : IsFoundOf t number (partition_view row) (program_of p) given f = record { partition = named; findings = found } in
    subst (λ (rs : List PartitionRow). AddsFound t number rs trees accepted old new) (sym one)
    (subst (λ (ts : List tree.Program). AddsFound t number (row ∷ later) ts accepted old new) (sym two)
    (subst (λ (gs : List Checked). AddsFound t number (row ∷ later) (p ∷ more) gs old new) (sym three)
    (more_found t number row later p more given others f old mid new pushed own rest)))

-- a list has come to its end
pub no_rows : (t : Table) (number : ℕ) (rows : List PartitionRow) (trees : List tree.Program) (accepted : List Checked) (old : List PartitionFindings) → length rows ≡ 0 → AddsFound t number rows trees accepted old old
no_rows t number [] trees accepted old e = ([], sym (append-nil old), refl)
no_rows t number (r ∷ rows) trees accepted old e = absurd (omega (arith, e))

pub no_trees : (t : Table) (number : ℕ) (rows : List PartitionRow) (trees : List tree.Program) (accepted : List Checked) (old : List PartitionFindings) → length trees ≡ 0 → AddsFound t number rows trees accepted old old
no_trees t number [] trees accepted old e = ([], sym (append-nil old), refl)
no_trees t number (r ∷ rows) [] accepted old e = ([], sym (append-nil old), refl)
no_trees t number (r ∷ rows) (p ∷ trees) accepted old e = absurd (omega (arith, e))

pub no_sources : (t : Table) (number : ℕ) (rows : List PartitionRow) (trees : List tree.Program) (accepted : List Checked) (old : List PartitionFindings) → length accepted ≡ 0 → AddsFound t number rows trees accepted old old
no_sources t number [] trees accepted old e = ([], sym (append-nil old), refl)
no_sources t number (r ∷ rows) [] accepted old e = ([], sym (append-nil old), refl)
no_sources t number (r ∷ rows) (p ∷ trees) [] old e = ([], sym (append-nil old), refl)
no_sources t number (r ∷ rows) (p ∷ trees) (a ∷ accepted) old e = absurd (omega (arith, e))

-- the module whose findings these are
pub module_found : (m : ReadModule) (rows : List PartitionRow) (trees : List tree.Program) (accepted : List Checked) (old new : List PartitionFindings) → rows ≡ m.accepted.table.partitions.items → trees ≡ m.trees.items → accepted ≡ m.accepted.sources.items → old ≡ []
    → AddsFound (table_of m.accepted.table) 1 rows trees accepted old new → AreFoundOfModule m new
module_found m rows trees accepted old new one two three none h =
    let t = table_of m.accepted.table in
    subst (λ (rs : List PartitionRow). AddsFound t 1 rs m.trees.items m.accepted.sources.items [] new) one
    (subst (λ (ts : List tree.Program). AddsFound t 1 rows ts m.accepted.sources.items [] new) two
    (subst (λ (gs : List Checked). AddsFound t 1 rows trees gs [] new) three
    (subst (λ (o : List PartitionFindings). AddsFound t 1 rows trees accepted o new) none h)))

pub all_trees : (texts : List (List ℕ)) (old new : List tree.Program) → old ≡ [] → AddsTrees texts old new → AreTrees texts (map program_of new)
all_trees texts old new none (trees, same, are) =
    let whole : new ≡ trees = subst (λ (o : List tree.Program). new ≡ o ++ trees) none same in
    subst (λ (ps : List tree.Program). AreTrees texts (map program_of ps)) (sym whole) are

-- what is found of accepted sources is what is found of their texts
all_found : (t : Table) (number : ℕ) (rows : List Partition) (texts : List (List ℕ)) (trees : List written.Program) (givens : List Checked) (found : List PartitionFindings)
    → AreSources rows texts givens → AreTrees texts trees → AreFoundOf t number rows trees givens found → AreAllFound t number rows texts found
all_found t number [] [] trees [] found a b f = subst (AreAllFound t number [] []) (sym f) tt
all_found t number [] [] trees (g ∷ givens) found a b f = absurd a
all_found t number [] (text ∷ texts) trees givens found a b f = absurd a
all_found t number (row ∷ rows) [] trees givens found a b f = absurd a
all_found t number (row ∷ rows) (text ∷ texts) trees [] found a b f = absurd a
all_found t number (row ∷ rows) (text ∷ texts) [] (g ∷ givens) found a b f = absurd b
all_found t number (row ∷ rows) (text ∷ texts) (p ∷ trees) (g ∷ givens) [] a b f = absurd f
all_found t number (row ∷ rows) (text ∷ texts) (p ∷ trees) (g ∷ givens) (x ∷ found) a b f =
    (record { given = g; accepted = a.0; tree = p; written = b.0; of_tree = f.0 }, all_found t (number + 1) rows texts trees givens found a.1 b.1 f.1)

found_in : (files : Option Contents) (table : List ℕ) (sources : List (List ℕ)) (m : ReadModule) (new : List PartitionFindings) → IsModuleIn files table sources m → AreFoundOfModule m new → AreFoundIn files table sources new
found_in files table sources m new is (found, same, are) =
    let rows = table_of m.accepted.table in
    record {
      texts = is.texts;
      of_texts = record {
        rows = rows;
        accepted = is.read.accepted.accepted;
        of_rows = subst (AreAllFound rows 1 rows.partitions is.texts.source_texts) (sym same)
            (all_found rows 1 rows.partitions is.texts.source_texts (map program_of m.trees.items) m.accepted.sources.items found is.read.accepted.programs is.read.trees are);
      };
    }

linted : (any : Bool) (table : List ℕ) (sources : List (List ℕ)) (m : ReadModule) (before after : State) → after.files ≡ before.files → IsModuleIn before.files table sources m → AreShown any m before.out.taken after.out.taken → IsLinted any table sources before after
linted any table sources m before after same is (found, are, which, written) = (same, found, found_in before.files table sources m found is are, which, written)

-- the outcome says whether anything is found
pub lint_ends : (table : List ℕ) (sources : List (List ℕ)) (m : ReadModule) (before after : State) (answer : Result Outcome Refusal) → after.files ≡ before.files → after.failed ≡ before.failed → IsModuleIn before.files table sources m
    → AreToldOf m before.out after.out answer → Ends (Lint table sources) before after answer
lint_ends table sources m before after (Ok Usual) same unfailed is (shown, flushed) = (linted false table sources m before after same is shown, (flushed, unfailed))
lint_ends table sources m before after (Ok Remarkable) same unfailed is (shown, flushed) = (linted true table sources m before after same is shown, (flushed, unfailed))
lint_ends table sources m before after (Err Write) same unfailed is (failed, found, are, begun) = ((failed, same, found, found_in before.files table sources m found is are, begun), unfailed)
lint_ends table sources m before after (Err Memory) same unfailed is h = (((same, h), tt), unfailed)
lint_ends table sources m before after (Err (Build fault)) same unfailed is h = absurd h
lint_ends table sources m before after (Err (Run fault)) same unfailed is h = absurd h
lint_ends table sources m before after (Err (Replay fault)) same unfailed is h = absurd h
lint_ends table sources m before after (Err (Inputs fault)) same unfailed is h = absurd h
lint_ends table sources m before after (Err (File name reason)) same unfailed is h = absurd h
lint_ends table sources m before after (Err (LongTable name)) same unfailed is h = absurd h

-- ---- sources that are read a second time

-- the text of a program is refused only for lack of memory
pub only_memory : (r : Refused) (text : List ℕ) → HasTree text → IsRefused r text → r ≡ refused.Memory
only_memory refused.Text text (tree, is) h = absurd (h is.0)
only_memory refused.Grammar text (tree, is) h = absurd (h.1 tree is)
only_memory refused.Name text has h = absurd h
only_memory refused.Kind text has h = absurd h
only_memory refused.Limit text has h = absurd h
only_memory refused.Period text has h = absurd h
only_memory refused.Memory text has h = refl

pub memory_alone : {A : Type 0} (text : List ℕ) (answer : Result A PalFault) → HasTree text → IfErr answer (λ fault. IsRefused fault.refusal text) → IfErr answer (λ fault. fault.refusal ≡ refused.Memory)
memory_alone text (Ok x) has h = tt
memory_alone text (Err fault) has h = only_memory fault.refusal text has h

-- accepted sources have trees
pub accepted_have_trees : (rows : List Partition) (texts : List (List ℕ)) (given : List Checked) → AreSources rows texts given → HaveTrees texts
accepted_have_trees [] [] [] h = tt
accepted_have_trees (row ∷ rows) (text ∷ texts) (a ∷ given) h = ((h.0.tree, h.0.written), accepted_have_trees rows texts given h.1)
accepted_have_trees [] [] (a ∷ given) h = absurd h
accepted_have_trees [] (text ∷ texts) given h = absurd h
accepted_have_trees (row ∷ rows) [] given h = absurd h
accepted_have_trees (row ∷ rows) (text ∷ texts) [] h = absurd h
