-- The bits of the levels.
use Rattle.links.proofs.Prelude.{◌≡◌, ◌⊎◌, inl, inr, ℕ, zero, suc, ◌+◌, ◌*◌, ◌<◌, ◌≤◌, nat_eq, nat_lt, cond, Bool, true, false, List, [], ◌∷◌, ◌++◌, length, None, refl, sym, ap, subst, ◌∙◌, arith, slice_index, slice_get, bit_at, cases_lt, cases_eq, nat_tests, bit_at-zero, MARK_BITS, Entry, without, list_in, put_in, without_in_each, times_listed, IsLowest, in_order, one_if_any}
use Rattle.std.proofs.Common.{slice_set}
use Rattle.std.proofs.lemmas.List.{get_or-set_same, get_or-set_other}
use Rattle.links.specs.Levels.{AreMarked, IsFirstMark}
use Rattle.links.proofs.Levels.{at_put_other, at_put_same, at_without, in_order_first, in_order_none, times_append, without_absent}

-- one bit of one word changes
pub put_bits : (marks : List ℕ) (word bit level x v : ℕ) → word < length marks → level ≡ MARK_BITS * word + bit → bit < MARK_BITS → bit_at x bit ≡ v → ((i : ℕ) → i < MARK_BITS → (i ≡ bit → ⊥) → bit_at x i ≡ bit_at (slice_index marks word) i) → (w b : ℕ) → b < MARK_BITS → bit_at (slice_index (slice_set marks word x) w) b ≡ cond (nat_eq (MARK_BITS * w + b) level) v (bit_at (slice_index marks w) b)
put_bits marks word bit level x v within is below set others w b lt = by_word (cases_eq w word)
  where
    old : ℕ
    old = bit_at (slice_index marks w) b

    by_test : (t : Bool) → nat_eq (MARK_BITS * w + b) level ≡ t → bit_at (slice_index (slice_set marks word x) w) b ≡ cond t v old → bit_at (slice_index (slice_set marks word x) w) b ≡ cond (nat_eq (MARK_BITS * w + b) level) v old
    by_test t e h = subst (λ (q : Bool). bit_at (slice_index (slice_set marks word x) w) b ≡ cond q v old) (sym e) h

    by_bit : w ≡ word → (b ≡ bit) ⊎ (b ≡ bit → ⊥) → bit_at (slice_index (slice_set marks word x) w) b ≡ cond (nat_eq (MARK_BITS * w + b) level) v old
    by_bit same (inl here) =
        let test : nat_eq (MARK_BITS * w + b) level ≡ true = grind (arith, nat_tests) in
        by_test true test (ap (λ i. bit_at (slice_index (slice_set marks word x) i) b) same ∙ (ap (λ y. bit_at y b) (get_or-set_same marks word x 0 within) ∙ (ap (λ i. bit_at x i) here ∙ set)))
    by_bit same (inr other) =
        let test : nat_eq (MARK_BITS * w + b) level ≡ false = grind (arith, nat_tests) in
        by_test false test (ap (λ i. bit_at (slice_index (slice_set marks word x) i) b) same ∙ (ap (λ y. bit_at y b) (get_or-set_same marks word x 0 within) ∙ (others b lt other ∙ ap (λ i. bit_at (slice_index marks i) b) (sym same))))

    by_word : (w ≡ word) ⊎ (w ≡ word → ⊥) → bit_at (slice_index (slice_set marks word x) w) b ≡ cond (nat_eq (MARK_BITS * w + b) level) v old
    by_word (inl same) = by_bit same (cases_eq b bit)
    by_word (inr other) =
        let test : nat_eq (MARK_BITS * w + b) level ≡ false = grind (arith, nat_tests) in
        by_test false test (ap (λ y. bit_at y b) (get_or-set_other marks word w x 0 other))

-- ---- the marks of the lists
-- the law of `put`
abbrev pub PutsMark : List ℕ → List ℕ → ℕ → ℕ → Type 0
PutsMark old new level v = (w b : ℕ) → b < MARK_BITS → bit_at (slice_index new w) b ≡ cond (nat_eq (MARK_BITS * w + b) level) v (bit_at (slice_index old w) b)

-- one list changes, and its mark with it
pub marked_change : (old new : List ℕ) (lists next : List (List Entry)) (level v : ℕ) → AreMarked old lists → PutsMark old new level v → one_if_any (list_in next level) ≡ v → ((j : ℕ) → (j ≡ level → ⊥) → list_in next j ≡ list_in lists j) → AreMarked new next
marked_change old new lists next level v h put here others w b lt = by_level (cases_eq (MARK_BITS * w + b) level)
  where
    by_level : (MARK_BITS * w + b ≡ level) ⊎ (MARK_BITS * w + b ≡ level → ⊥) → bit_at (slice_index new w) b ≡ one_if_any (list_in next (MARK_BITS * w + b))
    by_level (inl same) =
        let test : nat_eq (MARK_BITS * w + b) level ≡ true = grind (arith, nat_tests) in
        put w b lt ∙ (ap (λ q. cond q v (bit_at (slice_index old w) b)) test ∙ (sym here ∙ ap (λ j. one_if_any (list_in next j)) (sym same)))
    by_level (inr other) =
        let test : nat_eq (MARK_BITS * w + b) level ≡ false = grind (arith, nat_tests) in
        put w b lt ∙ (ap (λ q. cond q v (bit_at (slice_index old w) b)) test ∙ (h w b lt ∙ ap one_if_any (sym (others (MARK_BITS * w + b) other))))

any_push : (xs : List Entry) (e : Entry) → one_if_any (xs ++ e ∷ []) ≡ 1
any_push [] e = refl
any_push (x ∷ xs) e = refl

pub marked_push : (old new : List ℕ) (lists : List (List Entry)) (level : ℕ) (e : Entry) → level < length lists → AreMarked old lists → PutsMark old new level 1 → AreMarked new (put_in lists level (list_in lists level ++ e ∷ []))
marked_push old new lists level e within h put =
    marked_change old new lists (put_in lists level (list_in lists level ++ e ∷ [])) level 1 h put (ap one_if_any (at_put_same lists level (list_in lists level ++ e ∷ []) within) ∙ any_push (list_in lists level) e) (λ j other. at_put_other lists level j (list_in lists level ++ e ∷ []) other)

pub marked_leave : (old new : List ℕ) (lists : List (List Entry)) (level v p : ℕ) → AreMarked old lists → PutsMark old new level v → one_if_any (list_in (without_in_each p lists) level) ≡ v → ((j : ℕ) → (j ≡ level → ⊥) → times_listed p (list_in lists j) ≡ 0) → AreMarked new (without_in_each p lists)
marked_leave old new lists level v p h put here absent =
    marked_change old new lists (without_in_each p lists) level v h put here (λ j other. at_without p lists j ∙ without_absent p (list_in lists j) (absent j other))

zeros : (w : ℕ) → slice_index (0 ∷ 0 ∷ 0 ∷ 0 ∷ []) w ≡ 0
zeros zero = refl
zeros (suc zero) = refl
zeros (suc (suc zero)) = refl
zeros (suc (suc (suc zero))) = refl
zeros (suc (suc (suc (suc w)))) = refl

pub marked_none : (lists : List (List Entry)) → ((k : ℕ) → list_in lists k ≡ []) → AreMarked (0 ∷ 0 ∷ 0 ∷ 0 ∷ []) lists
marked_none lists h w b lt = ap (λ x. bit_at x b) (zeros w) ∙ (bit_at-zero b ∙ ap one_if_any (sym (h (MARK_BITS * w + b))))

-- ---- the first
-- a level below another is a bit before it
split : (j : ℕ) → (w : ℕ) × (b : ℕ) × (b < MARK_BITS) × (j ≡ MARK_BITS * w + b)
split zero = (0, 0, omega arith, omega arith)
split (suc j) = more (split j)
  where
    more : ((w : ℕ) × (b : ℕ) × (b < MARK_BITS) × (j ≡ MARK_BITS * w + b)) → (w : ℕ) × (b : ℕ) × (b < MARK_BITS) × (suc j ≡ MARK_BITS * w + b)
    more (w, b, lt, is) = by_end (cases_lt (suc b) MARK_BITS)
      where
        by_end : (suc b < MARK_BITS) ⊎ (MARK_BITS ≤ suc b) → (v : ℕ) × (c : ℕ) × (c < MARK_BITS) × (suc j ≡ MARK_BITS * v + c)
        by_end (inl inside) = (w, suc b, inside, omega (arith, is))
        by_end (inr last) = (suc w, 0, omega arith, omega (arith, is, last, lt))

pub none_marked : (marks : List ℕ) (lists : List (List Entry)) → AreMarked marks lists → IsFirstMark marks None → (j : ℕ) → one_if_any (list_in lists j) ≡ 0
none_marked marks lists h none j = at (split j)
  where
    at : ((w : ℕ) × (b : ℕ) × (b < MARK_BITS) × (j ≡ MARK_BITS * w + b)) → one_if_any (list_in lists j) ≡ 0
    at (w, b, lt, is) = ap (λ k. one_if_any (list_in lists k)) is ∙ (sym (h w b lt) ∙ none w b lt)

pub first_none : (marks : List ℕ) (lists : List (List Entry)) → AreMarked marks lists → IsFirstMark marks None → None ≡ slice_get (in_order lists) 0
first_none marks lists h none = sym (ap (λ (xs : List Entry). slice_get xs 0) (in_order_none lists (none_marked marks lists h none)))

pub first_marked : (marks : List ℕ) (lists : List (List Entry)) (level : ℕ) → AreMarked marks lists → IsLowest marks level → slice_get (list_in lists level) 0 ≡ slice_get (in_order lists) 0
first_marked marks lists level h l = sym (in_order_first level lists here before)
  where
    here : one_if_any (list_in lists level) ≡ 1
    here = ap (λ k. one_if_any (list_in lists k)) l.is ∙ (sym (h l.word l.bit l.below) ∙ l.set)

    before : (j : ℕ) → j < level → one_if_any (list_in lists j) ≡ 0
    before j lt = at (split j)
      where
        at : ((w : ℕ) × (b : ℕ) × (b < MARK_BITS) × (j ≡ MARK_BITS * w + b)) → one_if_any (list_in lists j) ≡ 0
        at (w, b, below, is) = ap (λ k. one_if_any (list_in lists k)) is ∙ (sym (h w b below) ∙ l.lowest w b below (omega (arith, is, lt)))

-- ---- a process that leaves
times_of_lists : (p : ℕ) (lists : List (List Entry)) → ((k : ℕ) → times_listed p (list_in lists k) ≡ 0) → times_listed p (in_order lists) ≡ 0
times_of_lists p [] h = refl
times_of_lists p (l ∷ ls) h = omega (arith, times_append p l (in_order ls), h 0, times_of_lists p ls (λ k. h (suc k)))

pub nowhere_absent : (p : ℕ) (lists : List (List Entry)) → ((k : ℕ) → times_listed p (list_in lists k) ≡ 0) → without p (in_order lists) ≡ in_order lists
nowhere_absent p lists h = without_absent p (in_order lists) (times_of_lists p lists h)

pub elsewhere_absent : (p home : ℕ) (lists : List (List Entry)) → ((k : ℕ) → times_listed p (list_in lists k) ≡ cond (nat_eq home k) 1 0) → (j : ℕ) → (j ≡ home → ⊥) → times_listed p (list_in lists j) ≡ 0
elsewhere_absent p home lists h j other =
    let test : nat_eq home j ≡ false = grind (arith, nat_tests) in
    h j ∙ ap (λ b. cond b 1 0) test

-- the mark of a list by its length
pub marked_of : (l : List Entry) → cond (nat_lt 0 (length l)) 1 0 ≡ one_if_any l
marked_of [] = refl
marked_of (x ∷ xs) = grind (arith, nat_tests)
