-- Tables that were read whole, and sources of which a beginning was read: these are accepted or refused as the whole files.
use Rattle.std.proofs.Common.{◌≡◌, inl, inr, ℕ, ◌+◌, Bool, true, List, [], ◌∷◌, ◌++◌, length, map, take, drop, suc, Bor, false, ◌<◌, append_assoc, length-append, true≢false, arith, Option, Some, None, Result, Ok, Err, IfOk, IfErr, refl, sym, ap, subst, ◌∙◌, append-nil}
use Rattle.apex_types.specs.declared.cost.Costs.{Costs}
use Rattle.apex_types.specs.declared.limits.TheConstants.{MOST_SOURCE_BYTES}
use Rattle.std.specs.Prelude.{nat_lt}
use Rattle.std.proofs.lemmas.Bool.{lt-ltb, ltb-false, ltb-true}
use Rattle.std.proofs.lemmas.List.{length-take-le, take-append-drop, take_all}
use Rattle.module_meaning.specs.Accepted.{AreAccepted, IsAccepted}
use Rattle.module_meaning.specs.Table.{Partition, Table}
use Rattle.pal_base.specs.Answers.{IsRefused}
use Rattle.pal_base.specs.declared.fault.Refusal.{Refusal}
use Rattle.pal_base.specs.declared.fault.Refusal.TheVariants as source
use Rattle.pal_meaning.specs.Grammar.{IsProgramOf, IsText}
use Rattle.pal_meaning.specs.Program.{Program}
use Rattle.pal_meaning.specs.Syntax as written
use Rattle.pal_base.specs.WrittenView.{program_of}
use Rattle.pal_base.specs.declared.checked.Checked.{Checked}
use Rattle.window_table.specs.Views.{table_of}
use Rattle.module.specs.Sources.{AreSources, IsSource}
use Rattle.command_line.specs.Linting.{AreTrees, IsReadModule}
use Rattle.command_line.specs.Loading.{AreLoaded, Shown}
use Rattle.command_line.specs.declared.linting.ReadModule.{ReadModule}
use Rattle.module.specs.Building.{IsImageOf}
use Rattle.module.specs.Costs.{AreCosted, AreCosts, IsCosted, IsCostRefusal}
use Rattle.module.specs.Refusals.{IsFirstRefused, IsRefusal, IsRefusedWith, IsSourceRefused}
use Rattle.module.specs.declared.costing.PartitionCosts.{PartitionCosts}
use Rattle.module.specs.declared.fault.BuildFault.{BuildFault}
use Rattle.module.specs.declared.fault.BuildFault.TheVariants as fault
use Rattle.state_rows.specs.Named.{Source}
use Rattle.streams.specs.Beginnings.{HoldsFrom, IsBeginningOf}
use Rattle.streams.specs.Contents.{Contents, HoldAll}
use Rattle.text_beginnings.specs.Settled.{settles_source, settles_table}
use Rattle.text_beginnings.specs.declared.beginning.TheConstants.{MOST_TABLE_BYTES}
use Rattle.text_beginnings.proofs.Sources.{no_source}
use Rattle.command_line.proofs.Begun.{all_of, whole_of}
use Rattle.command_line.specs.Done.{IsBuilt, IsLongTable, IsTableIn, Texts}
use Rattle.command_line.specs.Done as done
use Rattle.command_line.specs.Reading.{HoldAllFrom, IsRefusedText, IsUncostedText}
use Rattle.command_line.specs.Refusals.{IsNotBuilt, IsNotCosted}
use Rattle.command_line.specs.declared.refusal.Refusal as refusal
use Rattle.command_line.specs.declared.refusal.Refusal.TheVariants as refusals

-- ---- a source

module _ (whole bytes : List ℕ) (begun : IsBeginningOf settles_source whole bytes) where
  exact_source : IsText bytes → whole ≡ bytes
  exact_source d = go begun
    where
      go : IsBeginningOf settles_source whole bytes → whole ≡ bytes
      go (rest, is, inl none) = all_of whole bytes rest is none
      go (rest, is, inr enough) = absurd (no_source bytes [] enough (subst IsText (sym (append-nil bytes)) d))

  no_whole_source : (IsText bytes → ⊥) → IsText whole → ⊥
  no_whole_source lacks d = go begun
    where
      go : IsBeginningOf settles_source whole bytes → ⊥
      go (rest, is, inl none) = lacks (subst IsText (all_of whole bytes rest is none) d)
      go (rest, is, inr enough) = no_source bytes rest enough (subst IsText is d)

  text_refused : (r : Refusal) → IsRefused r bytes → IsRefused r whole
  text_refused source.Text h = no_whole_source h
  text_refused source.Grammar h = subst (IsRefused source.Grammar) (sym (exact_source h.0)) h
  text_refused source.Memory h = subst IsText (sym (exact_source h)) h
  text_refused source.Name h = absurd h
  text_refused source.Kind h = absurd h
  text_refused source.Limit h = absurd h
  text_refused source.Period h = absurd h

  source_refused : (row : Partition) (r : Refusal) → IsSourceRefused row bytes r → IsSourceRefused row whole r
  source_refused row r (m, inl refused) = (m, inl (text_refused r refused))
  source_refused row r (m, inr (tree, of, refuses)) = (m, inr (tree, subst (λ w. IsProgramOf w tree) (sym (exact_source of.0)) of, refuses))

  source_accepted : (row : Partition) (p : Program) → IsAccepted row bytes p → IsAccepted row whole p
  source_accepted row p a = subst (λ w. IsAccepted row w p) (sym (exact_source a.written.0)) a

  program_whole : (p : written.Program) → IsProgramOf bytes p → IsProgramOf whole p
  program_whole p h = subst (λ w. IsProgramOf w p) (sym (exact_source h.0)) h

  source_whole : (row : Partition) (a : Checked) → IsSource row bytes a → IsSource row whole a
  source_whole row a h = subst (λ w. IsSource row w a) (sym (exact_source h.written.0)) h

  source_costed : (costs : Costs) (row : Partition) (c : PartitionCosts) → IsCosted costs row bytes c → IsCosted costs row whole c
  source_costed costs row c a = subst (λ w. IsCosted costs row w c) (sym (exact_source a.written.0)) a

-- ---- sources

abbrev pub AllBegun : List (List ℕ) → List (List ℕ) → Type 0
AllBegun [] [] = Unit {0}
AllBegun (whole ∷ wholes) (bytes ∷ texts) = IsBeginningOf settles_source whole bytes × AllBegun wholes texts
AllBegun _ _ = ⊥

same_length : (wholes texts : List (List ℕ)) → AllBegun wholes texts → length wholes ≡ length texts
same_length [] [] begun = refl
same_length (w ∷ ws) (b ∷ bs) begun = ap (λ n. suc n) (same_length ws bs begun.1)
same_length [] (b ∷ bs) begun = absurd begun
same_length (w ∷ ws) [] begun = absurd begun

first_refused : (rows : List Partition) (wholes texts : List (List ℕ)) (name : List ℕ) (r : Refusal) → AllBegun wholes texts → IsFirstRefused rows texts name r → IsFirstRefused rows wholes name r
first_refused (row ∷ rows) (w ∷ ws) (b ∷ bs) name r begun (inl (is, refused)) = inl (is, source_refused w b begun.0 row r refused)
first_refused (row ∷ rows) (w ∷ ws) (b ∷ bs) name r begun (inr (p, accepted, more)) = inr (p, source_accepted w b begun.0 row p accepted, first_refused rows ws bs name r begun.1 more)
first_refused (row ∷ rows) [] [] name r begun h = absurd h
first_refused (row ∷ rows) [] (b ∷ bs) name r begun h = absurd begun
first_refused (row ∷ rows) (w ∷ ws) [] name r begun h = absurd begun
first_refused [] wholes texts name r begun h = absurd h

all_accepted : (rows : List Partition) (wholes texts : List (List ℕ)) (ps : List Program) → AllBegun wholes texts → AreAccepted rows texts ps → AreAccepted rows wholes ps
all_accepted [] [] [] [] begun h = tt
all_accepted [] [] [] (p ∷ ps) begun h = absurd h
all_accepted (row ∷ rows) (w ∷ ws) (b ∷ bs) (p ∷ ps) begun h = (source_accepted w b begun.0 row p h.0, all_accepted rows ws bs ps begun.1 h.1)
all_accepted (row ∷ rows) (w ∷ ws) (b ∷ bs) [] begun h = absurd h
all_accepted [] (w ∷ ws) (b ∷ bs) ps begun h = absurd h
all_accepted (row ∷ rows) [] [] ps begun h = absurd h
all_accepted rows [] (b ∷ bs) ps begun h = absurd begun
all_accepted rows (w ∷ ws) [] ps begun h = absurd begun

all_costed : (costs : Costs) (rows : List Partition) (wholes texts : List (List ℕ)) (cs : List PartitionCosts) → AllBegun wholes texts → AreCosted costs rows texts cs → AreCosted costs rows wholes cs
all_costed costs [] [] [] [] begun h = tt
all_costed costs [] [] [] (p ∷ ps) begun h = absurd h
all_costed costs (row ∷ rows) (w ∷ ws) (b ∷ bs) (p ∷ ps) begun h = (source_costed w b begun.0 costs row p h.0, all_costed costs rows ws bs ps begun.1 h.1)
all_costed costs (row ∷ rows) (w ∷ ws) (b ∷ bs) [] begun h = absurd h
all_costed costs [] (w ∷ ws) (b ∷ bs) ps begun h = absurd h
all_costed costs (row ∷ rows) [] [] ps begun h = absurd h
all_costed costs rows [] (b ∷ bs) ps begun h = absurd begun
all_costed costs rows (w ∷ ws) [] ps begun h = absurd begun

all_sources : (rows : List Partition) (wholes texts : List (List ℕ)) (given : List Checked) → AllBegun wholes texts → AreSources rows texts given → AreSources rows wholes given
all_sources [] [] [] [] begun h = tt
all_sources [] [] [] (a ∷ given) begun h = absurd h
all_sources (row ∷ rows) (w ∷ ws) (b ∷ bs) (a ∷ given) begun h = (source_whole w b begun.0 row a h.0, all_sources rows ws bs given begun.1 h.1)
all_sources (row ∷ rows) (w ∷ ws) (b ∷ bs) [] begun h = absurd h
all_sources [] (w ∷ ws) (b ∷ bs) given begun h = absurd h
all_sources (row ∷ rows) [] [] given begun h = absurd h
all_sources rows [] (b ∷ bs) given begun h = absurd begun
all_sources rows (w ∷ ws) [] given begun h = absurd begun

all_trees : (wholes texts : List (List ℕ)) (ps : List written.Program) → AllBegun wholes texts → AreTrees texts ps → AreTrees wholes ps
all_trees [] [] [] begun h = tt
all_trees [] [] (p ∷ ps) begun h = absurd h
all_trees (w ∷ ws) (b ∷ bs) (p ∷ ps) begun h = (program_whole w b begun.0 p h.0, all_trees ws bs ps begun.1 h.1)
all_trees (w ∷ ws) (b ∷ bs) [] begun h = absurd h
all_trees [] (b ∷ bs) ps begun h = absurd begun
all_trees (w ∷ ws) [] ps begun h = absurd begun

-- sources that are programs were read to their end
all_same : (wholes texts : List (List ℕ)) (ps : List written.Program) → AllBegun wholes texts → AreTrees texts ps → wholes ≡ texts
all_same [] [] ps begun h = refl
all_same (w ∷ ws) (b ∷ bs) (p ∷ ps) begun h = ap (λ (x : List ℕ). x ∷ ws) (exact_source w b begun.0 h.0.0) ∙ ap (λ (xs : List (List ℕ)). b ∷ xs) (all_same ws bs ps begun.1 h.1)
all_same (w ∷ ws) (b ∷ bs) [] begun h = absurd h
all_same [] (b ∷ bs) ps begun h = absurd begun
all_same (w ∷ ws) [] ps begun h = absurd begun

-- ---- a module

module _ (table : List ℕ) (wholes texts : List (List ℕ)) (all : AllBegun wholes texts) where
  refused_with : (t : Table) (f : BuildFault) → IsRefusedWith t texts f → IsRefusedWith t wholes f
  refused_with t (fault.Table f) h = absurd h
  refused_with t fault.Sources h = λ e. h (sym (same_length wholes texts all) ∙ e)
  refused_with t (fault.Pal name f) h = (same_length wholes texts all ∙ h.0, first_refused t.partitions wholes texts name f.refusal all h.1)
  refused_with t (fault.Compile name f) h =
      (h.0, record { programs = h.1.programs; accepted = all_accepted t.partitions wholes texts h.1.programs all h.1.accepted; first = h.1.first })
  refused_with t fault.Memory h = h

  refusal_whole : (f : BuildFault) → IsRefusal table texts f → IsRefusal table wholes f
  refusal_whole (fault.Table f) h = h
  refusal_whole fault.Memory h = h
  refusal_whole fault.Sources (t, is, with) = (t, is, refused_with t fault.Sources with)
  refusal_whole (fault.Pal name f) (t, is, with) = (t, is, refused_with t (fault.Pal name f) with)
  refusal_whole (fault.Compile name f) (t, is, with) = (t, is, refused_with t (fault.Compile name f) with)

  cost_refusal_whole : (f : BuildFault) → IsCostRefusal table texts f → IsCostRefusal table wholes f
  cost_refusal_whole (fault.Compile name f) h = absurd h
  cost_refusal_whole (fault.Table f) h = h
  cost_refusal_whole fault.Sources h = refusal_whole fault.Sources h
  cost_refusal_whole (fault.Pal name f) h = refusal_whole (fault.Pal name f) h
  cost_refusal_whole fault.Memory h = h

  image_whole : (image : List ℕ) → IsImageOf table texts image → IsImageOf table wholes image
  image_whole image h = record {
    rows = h.rows;
    programs = h.programs;
    accepted = record { rows = h.accepted.rows; accepted = all_accepted h.rows.partitions wholes texts h.programs all h.accepted.accepted };
    short = h.short;
    spelled = h.spelled;
    loaded = h.loaded;
    items = h.items;
    meaning = h.meaning;
  }

  costs_whole : (costs : List PartitionCosts) → AreCosts table texts costs → AreCosts table wholes costs
  costs_whole costs h = record { rows = h.rows; accepted = h.accepted; costed = all_costed h.rows.costs h.rows.partitions wholes texts costs all h.costed }

  module_whole : (m : ReadModule) → IsReadModule table texts m → IsReadModule table wholes m
  module_whole m h = record {
    accepted = record { accepted = h.accepted.accepted; programs = all_sources (table_of m.accepted.table).partitions wholes texts m.accepted.sources.items all h.accepted.programs };
    trees = all_trees wholes texts (map program_of m.trees.items) all h.trees;
  }

  named_whole : (image : List ℕ) (made : List Source) → done.IsBuiltWith table texts image made → done.IsBuiltWith table wholes image made
  named_whole image made h = subst (λ (ts : List (List ℕ)). done.IsBuiltWith table ts image made) (sym (all_same wholes texts h.trees all h.are_trees)) h

  load_whole : (shown : Shown) → AreLoaded table texts shown → AreLoaded table wholes shown
  load_whole shown h = record { rows = h.rows; accepted = h.accepted; given = h.given; programs = all_sources h.rows.partitions wholes texts h.given all h.programs; loaded = h.loaded }

-- the whole files
pub wholes_of : (files : Option Contents) (names texts : List (List ℕ)) → HoldAllFrom settles_source files names texts → (wholes : List (List ℕ)) × HoldAll files names wholes × AllBegun wholes texts
wholes_of files [] [] held = ([], tt, tt)
wholes_of files (name ∷ names) (text ∷ texts) held =
    let whole = whole_of settles_source files name text held.0 in
    let more = wholes_of files names texts held.1 in
    (whole.0 ∷ more.0, (whole.1, more.1), (whole.2, more.2))
wholes_of files [] (text ∷ texts) held = absurd held
wholes_of files (name ∷ names) [] held = absurd held

-- ---- what is made of the files

module _ (files now : Option Contents) (table : List ℕ) (names : List (List ℕ)) (bytes given : List ℕ) (texts : List (List ℕ))
    (same : now ≡ files) (is : given ≡ bytes) (in_table : IsTableIn files table bytes) (in_sources : HoldAllFrom settles_source now names texts)
  where
    own_sources : (wholes : List (List ℕ)) × HoldAll files names wholes × AllBegun wholes texts
    own_sources = wholes_of files names texts (subst (λ f. HoldAllFrom settles_source f names texts) same in_sources)

    texts_of_files : Texts files table names
    texts_of_files = record { table_text = given; source_texts = own_sources.0; in_table = subst (IsTableIn files table) (sym is) in_table; in_sources = own_sources.1 }

    pub built_of_files : {A E : Type 0} (view : A → List ℕ) (answer : Result A E) → IfOk answer (λ image. IsImageOf given texts (view image)) → IfOk answer (λ image. IsBuilt files table names (view image))
    unfolding texts_of_files own_sources
    built_of_files view (Ok image) h = record { texts = texts_of_files; built = image_whole given own_sources.0 texts own_sources.2 (view image) h }
    built_of_files view (Err e) h = tt

    pub costed_of_files : {A E : Type 0} (view : A → List PartitionCosts) (answer : Result A E) → IfOk answer (λ costs. AreCosts given texts (view costs)) → IfOk answer (λ costs. done.AreCosted files table names (view costs))
    unfolding texts_of_files own_sources
    costed_of_files view (Ok costs) h = record { texts = texts_of_files; costed = costs_whole given own_sources.0 texts own_sources.2 (view costs) h }
    costed_of_files view (Err e) h = tt

    pub read_of_files : {E : Type 0} (answer : Result ReadModule E) → IfOk answer (λ m. IsReadModule given texts m) → IfOk answer (λ m. done.IsModuleIn files table names m)
    unfolding texts_of_files own_sources
    read_of_files (Ok m) h = record { texts = texts_of_files; read = module_whole given own_sources.0 texts own_sources.2 m h }
    read_of_files (Err e) h = tt

    pub named_of_files : {A E : Type 0} (image : A → List ℕ) (made : A → List Source) (answer : Result A E)
        → IfOk answer (λ m. done.IsBuiltWith given texts (image m) (made m)) → IfOk answer (λ m. done.IsBuiltIn files table names (image m) (made m))
    unfolding texts_of_files own_sources
    named_of_files image made (Ok m) h = record { texts = texts_of_files; of_texts = named_whole given own_sources.0 texts own_sources.2 (image m) (made m) h }
    named_of_files image made (Err e) h = tt

    pub loaded_of_files : (shown : Shown) → AreLoaded given texts shown → (whole : Texts files table names) × AreLoaded whole.table_text whole.source_texts shown
    unfolding texts_of_files own_sources
    loaded_of_files shown h = (texts_of_files, load_whole given own_sources.0 texts own_sources.2 shown h)

    pub refused_of_files : {A : Type 0} (answer : Result A refusal.Refusal) → IfErr answer (λ r. IsRefusedText given texts r) → IfErr answer (λ r. IsNotBuilt files table names r)
    unfolding texts_of_files own_sources
    refused_of_files (Ok image) h = tt
    refused_of_files (Err (refusals.Build fault)) h = (texts_of_files, refusal_whole given own_sources.0 texts own_sources.2 fault h)
    refused_of_files (Err (refusals.Run fault)) h = absurd h
    refused_of_files (Err (refusals.Replay fault)) h = absurd h
    refused_of_files (Err (refusals.Inputs fault)) h = absurd h
    refused_of_files (Err (refusals.File name reason)) h = absurd h
    refused_of_files (Err (refusals.LongTable name)) h = absurd h
    refused_of_files (Err refusals.Memory) h = tt
    refused_of_files (Err refusals.Write) h = absurd h

    pub uncosted_of_files : {A : Type 0} (answer : Result A refusal.Refusal) → IfErr answer (λ r. IsUncostedText given texts r) → IfErr answer (λ r. IsNotCosted files table names r)
    unfolding texts_of_files own_sources
    uncosted_of_files (Ok image) h = tt
    uncosted_of_files (Err (refusals.Build fault)) h = (texts_of_files, cost_refusal_whole given own_sources.0 texts own_sources.2 fault h)
    uncosted_of_files (Err (refusals.Run fault)) h = absurd h
    uncosted_of_files (Err (refusals.Replay fault)) h = absurd h
    uncosted_of_files (Err (refusals.Inputs fault)) h = absurd h
    uncosted_of_files (Err (refusals.File name reason)) h = absurd h
    uncosted_of_files (Err (refusals.LongTable name)) h = absurd h
    uncosted_of_files (Err refusals.Memory) h = tt
    uncosted_of_files (Err refusals.Write) h = absurd h

-- all files are begun
pub all_begun : (files : Option Contents) (names : List (Bor (List ℕ))) (i : ℕ) (texts : List (List ℕ)) → i ≡ length names
    → ((more : List (List ℕ)) → HoldAllFrom settles_source files (map (λ s. s.now) (drop i names)) more → HoldAllFrom settles_source files (map (λ s. s.now) names) (texts ++ more))
    → HoldAllFrom settles_source files (map (λ s. s.now) names) texts
all_begun files names i texts at before =
    let none : drop i names ≡ [] = ap (λ k. drop k names) at ∙ drop-all names in
    subst (HoldAllFrom settles_source files (map (λ s. s.now) names)) (append-nil texts)
    (before [] (subst (λ (ns : List (Bor (List ℕ))). HoldAllFrom settles_source files (map (λ s. s.now) ns) []) (sym none) tt))
  where
    drop-all : {X : Type 0} (xs : List X) → drop (length xs) xs ≡ []
    drop-all [] = refl
    drop-all (x ∷ xs) = drop-all xs

-- a text that is cut, where what is left of it settles what it settled
cut_at : (suffices : List ℕ → Bool) (n : ℕ) (text bytes : List ℕ) → (suffices bytes ≡ true → suffices (take n bytes) ≡ true) → (suffices bytes ≡ false → take n bytes ≡ bytes)
    → IsBeginningOf suffices text bytes → IsBeginningOf suffices text (take n bytes)
cut_at suffices n text bytes enough whole (rest, begun, why) = go (suffices bytes) refl
  where
    go : (t : Bool) → suffices bytes ≡ t → IsBeginningOf suffices text (take n bytes)
    go false open_end = subst (IsBeginningOf suffices text) (sym (whole open_end)) (rest, begun, why)
    go true settled =
        let split : text ≡ take n bytes ++ (drop n bytes ++ rest) =
        begun ∙ ap (λ b. b ++ rest) (sym (take-append-drop n bytes)) ∙ append_assoc (take n bytes) (drop n bytes) rest in
        (drop n bytes ++ rest, split, inr (enough settled))

-- a table that was read to its end
pub read_whole : (files : Option Contents) (name bytes : List ℕ) → settles_table bytes ≡ false → HoldsFrom settles_table files name bytes → IsTableIn files name bytes
read_whole None name bytes short held = (tt, omega (arith, ltb-false MOST_TABLE_BYTES (length bytes) short))
read_whole (Some files) name bytes short (text, is, (rest, begun, inl none)) = (is ∙ ap (λ t. Some t) (all_of text bytes rest begun none), omega (arith, ltb-false MOST_TABLE_BYTES (length bytes) short))
read_whole (Some files) name bytes short (text, is, (rest, begun, inr enough)) = absurd (true≢false (sym enough ∙ short))

-- a table that was not
pub read_too_much : (files : Option Contents) (name bytes : List ℕ) → settles_table bytes ≡ true → HoldsFrom settles_table files name bytes → IsLongTable files name
read_too_much files name bytes long held =
    let whole = whole_of settles_table files name bytes held in
    (whole.0, whole.1, longer whole.2)
  where
    longer : {text : List ℕ} → IsBeginningOf settles_table text bytes → MOST_TABLE_BYTES < length text
    longer (rest, is, why) = omega (arith, ap length is, length-append bytes rest, ltb-true MOST_TABLE_BYTES (length bytes) long)

-- a text that is cut after this many bytes and one more
cut_by : (most : ℕ) (text bytes : List ℕ) → IsBeginningOf (λ b. nat_lt most (length b)) text bytes → IsBeginningOf (λ b. nat_lt most (length b)) text (take (most + 1) bytes)
cut_by most text bytes =
    cut_at (λ b. nat_lt most (length b)) (most + 1) text bytes
    (λ long.
    let many : most < length bytes = ltb-true most (length bytes) long in
    let size : length (take (most + 1) bytes) ≡ most + 1 = length-take-le (most + 1) bytes (omega (arith, many)) in
    lt-ltb most (length (take (most + 1) bytes)) (omega (arith, size)))
    (λ short. take_all (most + 1) bytes (omega (arith, ltb-false most (length bytes) short)))

-- a source that is cut after the first byte that it may not have
pub cut : (files : Option Contents) (name bytes : List ℕ) → HoldsFrom settles_source files name bytes → HoldsFrom settles_source files name (take (MOST_SOURCE_BYTES + 1) bytes)
cut None name bytes held = tt
cut (Some files) name bytes (text, is, begun) = (text, is, cut_by MOST_SOURCE_BYTES text bytes begun)
