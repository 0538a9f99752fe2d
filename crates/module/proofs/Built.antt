-- Programs that are compiled one after the other.
use Rattle.module.proofs.Prelude.{◌≡◌, ℕ, zero, suc, ◌+◌, ◌≤◌, Bool, true, false, List, ◌∷◌, ◌++◌, length, map, take, Some, None, All, refl, sym, ap, ◌∙◌, arith, length-append, slice_get, nat_lt, list_any, ltb-false, map-append, none-some, same_Some, reading, PartitionItem, item_of, items_of, partition_of, PartitionRow, section_of, Partition, Item, Program, AreAccepted, is_too_long, first_too_long, built_item, built_items, IsCoded, AreCoded, AreCompiled}
use Rattle.std.proofs.Common.{[], FitsSigned, w64, subst}
use Rattle.std.specs.Prelude.{min, if◌then◌else◌, ◌||◌}
use Rattle.std.proofs.lemmas.Bool.{ltb-true, lt-ltb, le-ltb}
use Rattle.apex_types.specs.declared.limits.TheConstants.{MOST_INSTRUCTIONS}
use Rattle.apex_types.specs.declared.row.Section as code
use Rattle.pal_meaning.specs.Program.{size_of}
use Rattle.compiling_laws.proofs.WellFormedFits.{well_formed_fits}
use Rattle.image.specs.Items.{section_of as view}
use Rattle.compiling_laws.specs.CompiledCode.{code_of}
use Rattle.machine_meaning.specs.Section.{Section}

-- ---- lengths

pub short_enough : (p : Program) → is_too_long p ≡ false → size_of p ≤ MOST_INSTRUCTIONS
short_enough p h = ltb-false MOST_INSTRUCTIONS (size_of p) h

pub none_too_long : (rows : List Partition) (ps : List Program) → length ps ≡ length rows → first_too_long rows ps ≡ None → list_any is_too_long ps ≡ false
none_too_long rows [] count h = refl
none_too_long [] (p ∷ ps) count h = absurd (omega (arith, count))
none_too_long (row ∷ rows) (p ∷ ps) count h = by_case (is_too_long p) (none_too_long rows ps (omega (arith, count))) h
  where
    by_case : (b : Bool) → (first_too_long rows ps ≡ None → list_any is_too_long ps ≡ false) → (if b then Some row.name else first_too_long rows ps) ≡ None → (b || list_any is_too_long ps) ≡ false
    by_case true rest e = absurd cc
    by_case false rest e = rest e

pub one_is_short : (ps : List Program) (n : ℕ) (p : Program) → list_any is_too_long ps ≡ false → slice_get ps n ≡ Some p → is_too_long p ≡ false
one_is_short [] n p h got = absurd (none-some p got)
one_is_short (q ∷ ps) zero p h got = ap is_too_long (sym (same_Some q p got)) ∙ first (is_too_long q) (list_any is_too_long ps) h
  where
    first : (a b : Bool) → (a || b) ≡ false → a ≡ false
    first true b e = e
    first false b e = refl
one_is_short (q ∷ ps) (suc n) p h got = one_is_short ps n p (rest (is_too_long q) (list_any is_too_long ps) h) got
  where
    rest : (a b : Bool) → (a || b) ≡ false → b ≡ false
    rest true b e = absurd cc
    rest false b e = e

-- ---- what is compiled

pub coded_section : (p : Program) (s : code.Section) → view s ≡ section_of p → map reading s.code.items ≡ map Some (code_of p) → All (FitsSigned w64) s.initial.items → size_of p ≤ MOST_INSTRUCTIONS → IsCoded p
coded_section p s is reads words size = record {
  size = size;
  code = ap (λ (x : Section). map reading x.code) (sym is) ∙ reads;
  words = subst (All (FitsSigned w64)) (ap (λ (x : Section). x.initial) is) words;
}

-- accepted and compiled programs fit
pub are_compiled : (rows : List Partition) (sources : List (List ℕ)) (ps : List Program) → AreAccepted rows sources ps → AreCoded ps → AreCompiled ps
are_compiled [] [] [] a h = tt
are_compiled [] [] (p ∷ ps) a h = absurd a
are_compiled [] (s ∷ sources) ps a h = absurd a
are_compiled (r ∷ rows) [] ps a h = absurd a
are_compiled (r ∷ rows) (s ∷ sources) [] a h = absurd a
are_compiled (r ∷ rows) (s ∷ sources) (p ∷ ps) a h =
    (record { fits = well_formed_fits r.ports r.period a.0.tree p a.0.judged h.0.size; coded = h.0 }, are_compiled rows sources ps a.1 h.1)

-- ---- one more partition

one_more_built : (rows : List Partition) (ps : List Program) (row : Partition) (p : Program) → length rows ≡ length ps → built_items (rows ++ row ∷ []) (ps ++ p ∷ []) ≡ built_items rows ps ++ built_item row p ∷ []
one_more_built [] [] row p h = refl
one_more_built [] (q ∷ ps) row p h = absurd (omega (arith, h))
one_more_built (r ∷ rows) [] row p h = absurd (omega (arith, h))
one_more_built (r ∷ rows) (q ∷ ps) row p h = ap (λ l. built_item r q ∷ l) (one_more_built rows ps row p (omega (arith, h)))

one_more_coded : (ps : List Program) (p : Program) → AreCoded ps → IsCoded p → AreCoded (ps ++ p ∷ [])
one_more_coded [] p h one = (one, tt)
one_more_coded (q ∷ ps) p h one = (h.0, one_more_coded ps p h.1 one)

take_one : {A : Type 0} (xs : List A) (n : ℕ) (x : A) → slice_get xs n ≡ Some x → take (n + 1) xs ≡ take n xs ++ x ∷ []
take_one [] n x e = absurd (none-some x e)
take_one (y ∷ xs) zero x e = ap (λ z. z ∷ []) (same_Some y x e)
take_one (y ∷ xs) (suc n) x e =
    let at : suc n + 1 ≡ suc (n + 1) = omega arith in
    ap (λ k. take k (y ∷ xs)) at ∙ ap (λ l. y ∷ l) (take_one xs n x e)

take_length : {A : Type 0} (xs : List A) (n : ℕ) (x : A) → slice_get xs n ≡ Some x → length (take n xs) ≡ n
take_length [] n x e = absurd (none-some x e)
take_length (y ∷ xs) zero x e = refl
take_length (y ∷ xs) (suc n) x e = ap suc (take_length xs n x e)

pub one_longer : {A : Type 0} (xs : List A) (x : A) (n : ℕ) → n ≡ length xs → n + 1 ≡ length (xs ++ x ∷ [])
one_longer xs x n e = ap (λ k. k + 1) e ∙ sym (length-append xs (x ∷ []))

length_of : (rows : List PartitionRow) → length (map partition_of rows) ≡ length rows
length_of [] = refl
length_of (r ∷ rows) = ap suc (length_of rows)

pub one_more_item : (rows : List PartitionRow) (row : PartitionRow) (ps : List Program) (n : ℕ) (p : Program) (items next : List PartitionItem) (item : PartitionItem)
    → n ≡ length rows → items_of items ≡ built_items (map partition_of rows) (take n ps) → slice_get ps n ≡ Some p → next ≡ items ++ item ∷ []
    → item_of item ≡ built_item (partition_of row) p
    → items_of next ≡ built_items (map partition_of (rows ++ row ∷ [])) (take (n + 1) ps)
one_more_item rows row ps n p items next item at so_far got pushed one =
    let as_many : length (map partition_of rows) ≡ length (take n ps) = length_of rows ∙ sym at ∙ sym (take_length ps n p got) in
    ap items_of pushed
    ∙ map-append item_of items (item ∷ [])
    ∙ ap (λ l. l ++ item_of item ∷ []) so_far
    ∙ ap (λ (i : Item). built_items (map partition_of rows) (take n ps) ++ i ∷ []) one
    ∙ sym (one_more_built (map partition_of rows) (take n ps) (partition_of row) p as_many)
    ∙ ap (λ (l : List Partition). built_items l (take n ps ++ p ∷ [])) (sym (map-append partition_of rows (row ∷ [])))
    ∙ ap (built_items (map partition_of (rows ++ row ∷ []))) (sym (take_one ps n p got))

pub one_more_program : (ps : List Program) (n : ℕ) (p : Program) → AreCoded (take n ps) → slice_get ps n ≡ Some p → IsCoded p → AreCoded (take (n + 1) ps)
one_more_program ps n p so_far got one = subst AreCoded (sym (take_one ps n p got)) (one_more_coded (take n ps) p so_far one)
