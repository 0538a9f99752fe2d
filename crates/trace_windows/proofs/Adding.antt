-- The rows of the ticks that were counted.
use Rattle.std.proofs.Common.{◌≡◌, ℕ, zero, suc, ◌+◌, ◌-◌, ◌*◌, ◌^◌, ◌<◌, ◌≤◌, ◌⊎◌, inl, inr, Bool, true, false, ◌&&◌, List, [], ◌∷◌, ◌++◌, drop, length, Some, None, refl, sym, ap, ◌∙◌, arith, mul_comm, mul-add}
use Rattle.std.specs.Prelude.{◌==◌, if◌then◌else◌, slice_get, slice_set}
use Rattle.std.proofs.lemmas.Bool.{and_from, and_parts, eq-eqb, eqb-true, false≢true}
use Rattle.apex_types.specs.Line.{subject_text}
use Rattle.apex_types.specs.declared.event.Subject.{Subject}
use Rattle.apex_types.specs.declared.identity.PartitionId.{PartitionId}
use Rattle.engine_meaning.specs.Digits.{same}
use Rattle.trace_windows.specs.Counts.{HasMore, capped, if_same, row_from, ticks_for, with_more, with_more_at, with_ticks}
use Rattle.trace_windows.specs.Uses.{is_same}
use Rattle.trace_windows.specs.declared.counted.Row.{Row}
use Rattle.trace_windows.specs.declared.usage.Use.{Use}
use Rattle.trace_windows.specs.declared.usage.Use.TheVariants.{Process, Idle, Unowned, Down}

-- ---- numbers

capped_again : (x a b : ℕ) → capped (capped (x + a) + b) ≡ capped (x + (a + b))
capped_again x a b = omega arith

pub more_more : (a b x : ℕ) → with_more b (with_more a x) ≡ with_more (a + b) x
more_more zero b x = let e : b ≡ 0 + b = omega arith in ap (λ (n : ℕ). with_more n x) e
more_more (suc a) zero x = let e : suc a ≡ suc a + 0 = omega arith in ap (λ (n : ℕ). with_more n x) e
more_more (suc a) (suc b) x =
    let e : suc (a + suc b) ≡ suc a + suc b = omega arith in
    capped_again x (suc a) (suc b) ∙ (ap (λ (n : ℕ). capped (x + n)) (sym e) ∙ ap (λ (n : ℕ). with_more n x) e)

more_capped : (n x : ℕ) → with_more (capped n) x ≡ with_more n x
more_capped zero x = let e : capped 0 ≡ 0 = omega arith in ap (λ (n : ℕ). with_more n x) e
more_capped (suc n) x =
    let m = capped (suc n) - 1 in
    let e : capped (suc n) ≡ suc m = omega arith in
    let both : capped (x + suc m) ≡ capped (x + suc n) = omega arith in
    ap (λ (k : ℕ). with_more k x) e ∙ both

-- from no ticks on
pub more_than_none : (n : ℕ) → with_more n 0 ≡ capped n
more_than_none zero = omega arith
more_than_none (suc n) = let e : 0 + suc n ≡ suc n = omega arith in ap capped e

-- ticks that are counted this many times
pub counted_times : (b : Bool) (ticks times x : ℕ) → with_more (if_same b (capped (ticks * times))) x ≡ with_more (times * if_same b ticks) x
counted_times true ticks times x = more_capped (ticks * times) x ∙ ap (λ (n : ℕ). with_more n x) (mul_comm ticks times)
counted_times false ticks times x = let e : 0 ≡ times * 0 = omega arith in ap (λ (n : ℕ). with_more n x) e

pub more_times : (times a b x : ℕ) → with_more (times * b) (with_more (times * a) x) ≡ with_more (times * (a + b)) x
more_times times a b x = more_more (times * a) (times * b) x ∙ ap (λ (n : ℕ). with_more n x) (sym (mul-add times a b))

-- ---- uses that are the same

same_is : (a b : List ℕ) → same a b ≡ true → a ≡ b
same_is [] [] h = refl
same_is [] (y ∷ ys) h = cc
same_is (x ∷ xs) [] h = cc
same_is (x ∷ xs) (y ∷ ys) h =
    let both = and_parts (x == y) (same xs ys) h in
    ap (λ (n : ℕ). n ∷ xs) (eqb-true x y both.0) ∙ ap (λ (ns : List ℕ). y ∷ ns) (same_is xs ys both.1)

-- those that are the same as one are those that are the same as the other
pub same_use : (a b c : Use) → is_same a b ≡ true → is_same b c ≡ is_same a c
same_use (Process p who) (Process q whom) c h =
    let both = and_parts (p.0 == q.0) (same (subject_text who) (subject_text whom)) h in
    by_parts p q who whom c (eqb-true p.0 q.0 both.0) (same_is (subject_text who) (subject_text whom) both.1)
  where
    by_parts : (p q : PartitionId) (who whom : Subject) (c : Use) → p.0 ≡ q.0 → subject_text who ≡ subject_text whom → is_same (Process q whom) c ≡ is_same (Process p who) c
    by_parts p q who whom (Process r other) e f = ap (λ (n : ℕ). (n == r.0) && same (subject_text whom) (subject_text other)) (sym e) ∙ ap (λ (t : List ℕ). (p.0 == r.0) && same t (subject_text other)) (sym f)
    by_parts p q who whom (Idle r) e f = refl
    by_parts p q who whom Unowned e f = refl
    by_parts p q who whom Down e f = refl
same_use (Idle p) (Idle q) c h = by_number p q c (eqb-true p.0 q.0 h)
  where
    by_number : (p q : PartitionId) (c : Use) → p.0 ≡ q.0 → is_same (Idle q) c ≡ is_same (Idle p) c
    by_number p q (Process r other) e = refl
    by_number p q (Idle r) e = ap (λ (n : ℕ). n == r.0) (sym e)
    by_number p q Unowned e = refl
    by_number p q Down e = refl
same_use Unowned Unowned c h = refl
same_use Down Down c h = refl
same_use (Process p who) (Idle q) c h = absurd (false≢true h)
same_use (Process p who) Unowned c h = absurd (false≢true h)
same_use (Process p who) Down c h = absurd (false≢true h)
same_use (Idle p) (Process q whom) c h = absurd (false≢true h)
same_use (Idle p) Unowned c h = absurd (false≢true h)
same_use (Idle p) Down c h = absurd (false≢true h)
same_use Unowned (Process q whom) c h = absurd (false≢true h)
same_use Unowned (Idle q) c h = absurd (false≢true h)
same_use Unowned Down c h = absurd (false≢true h)
same_use Down (Process q whom) c h = absurd (false≢true h)
same_use Down (Idle q) c h = absurd (false≢true h)
same_use Down Unowned c h = absurd (false≢true h)

-- ---- the rows

more_here : (b : Bool) (n x other : ℕ) → (if b then capped (x + suc n) else other) ≡ with_more (if_same b (suc n)) (if b then x else other)
more_here true n x other = refl
more_here false n x other = refl

same_text : (t : List ℕ) → same t t ≡ true
same_text [] = refl
same_text (x ∷ xs) = and_from (x == x) (same xs xs) (eq-eqb x x refl) (same_text xs)

reflexive : (a : Use) → is_same a a ≡ true
reflexive (Process p who) = and_from (p.0 == p.0) (same (subject_text who) (subject_text who)) (eq-eqb p.0 p.0 refl) (same_text (subject_text who))
reflexive (Idle p) = eq-eqb p.0 p.0 refl
reflexive Unowned = refl
reflexive Down = refl

symmetric : (a c : Use) → is_same a c ≡ true → is_same c a ≡ true
symmetric a c f = same_use a c a f ∙ reflexive a

same_to_both : (a b c : Use) → is_same a c ≡ true → is_same b c ≡ true → is_same a b ≡ true
same_to_both a b c f g = sym (same_use a c b f) ∙ symmetric b c g

-- a row before the place has another use
apart_from : (c : Bool) (a b u : Use) (n x : ℕ) → is_same a b ≡ false → is_same a u ≡ true → is_same b u ≡ c → x ≡ with_more (if_same c n) x
apart_from true a b u n x apart is e = absurd (false≢true (sym apart ∙ same_to_both a b u is e))
apart_from false a b u n x apart is e = refl

other_row : (b : Bool) (used u : Use) (r : Row) (x y n : ℕ) → is_same r.used used ≡ false → is_same r.used u ≡ b → y ≡ with_more (if_same (is_same used u) n) x
    → (if b then r.ticks else y) ≡ with_more (if_same (is_same used u) n) (if b then r.ticks else x)
other_row true used u r x y n apart is more = apart_from (is_same used u) r.used used u n r.ticks apart is refl
other_row false used u r x y n apart is more = more

of_some : (q r : Row) → Some q ≡ Some r → q ≡ r
of_some q r is = cc

of_number : {j k : ℕ} → Some j ≡ Some k → j ≡ k
of_number e = cc

pub no_number : {k : ℕ} → None ≡ Some k → ⊥
no_number e = cc

none_row : (n : ℕ) (used : Use) (rows : List Row) (b : Bool) (r : Row) → is_same r.used used ≡ b → (if b then Some n else row_from (n + 1) used rows) ≡ None
    → (row_from (n + 1) used rows ≡ None) × (is_same r.used used ≡ false)
none_row n used rows true r e h = absurd (no_number (sym h))
none_row n used rows false r e h = (h, e)

-- what is found is the first row with the use
pub found_row : (n : ℕ) (used : Use) (rows : List Row) (k : ℕ) (b : Bool) (r : Row) → is_same r.used used ≡ b → (if b then Some n else row_from (n + 1) used rows) ≡ Some k
    → ((k ≡ n) × (is_same r.used used ≡ true)) ⊎ ((row_from (n + 1) used rows ≡ Some k) × (is_same r.used used ≡ false))
found_row n used rows k true r e h = inl (sym (of_number h), e)
found_row n used rows k false r e h = inr (h, e)

not_before : (n : ℕ) (used : Use) (rows : List Row) (k : ℕ) → row_from n used rows ≡ Some k → n ≤ k
unfolding row_from
not_before n used [] k h = absurd (no_number h)
not_before n used (r ∷ rows) k h = elim (found_row n used rows k (is_same r.used used) r refl h) [
  | inl here ↦ omega (arith, here.0)
  | inr later ↦ let more = not_before (n + 1) used rows k later.0 in omega (arith, more)
]

pub added_there : (n : ℕ) (rows : List Row) (place ticks : ℕ) (used : Use) → row_from n used rows ≡ Some (n + place) → HasMore used (suc ticks) rows (with_more_at place (suc ticks) rows)
unfolding row_from ticks_for
added_there n [] place ticks used h u = absurd (no_number h)
added_there n (q ∷ rows) zero ticks used h u = elim (found_row n used rows (n + 0) (is_same q.used used) q refl h) [
  | inl here ↦
      let turn : is_same used u ≡ is_same q.used u = same_use q.used used u here.1 in
      more_here (is_same q.used u) ticks q.ticks (ticks_for u rows)
      ∙ ap (λ (b : Bool). with_more (if_same b (suc ticks)) (if is_same q.used u then q.ticks else ticks_for u rows)) (sym turn)
  | inr later ↦ let past = not_before (n + 1) used rows (n + 0) later.0 in absurd (omega (arith, past))
]
added_there n (q ∷ rows) (suc place) ticks used h u = elim (found_row n used rows (n + suc place) (is_same q.used used) q refl h) [
  | inl here ↦ absurd (omega (arith, here.0))
  | inr later ↦
      let there : n + suc place ≡ n + 1 + place = omega arith in
      other_row (is_same q.used u) used u q (ticks_for u rows) (ticks_for u (with_more_at place (suc ticks) rows)) (suc ticks) later.1 refl
      (added_there (n + 1) rows place ticks used (later.0 ∙ ap Some there) u)
]

pub added_last : (n : ℕ) (rows : List Row) (ticks : ℕ) (used : Use) → suc ticks < 2 ^ 64 → row_from n used rows ≡ None → HasMore used (suc ticks) rows (rows ++ record { used = used; ticks = suc ticks } ∷ [])
unfolding row_from ticks_for
added_last n [] ticks used fits h u = first (is_same used u)
  where
    first : (b : Bool) → (if b then suc ticks else 0) ≡ with_more (if_same b (suc ticks)) 0
    first true = omega (arith, fits)
    first false = refl
added_last n (q ∷ rows) ticks used fits h u =
    let none = none_row n used rows (is_same q.used used) q refl h in
    other_row (is_same q.used u) used u q (ticks_for u rows) (ticks_for u (rows ++ record { used = used; ticks = suc ticks } ∷ [])) (suc ticks) none.1 refl
    (added_last (n + 1) rows ticks used fits none.0 u)

-- ---- as the code meets them

pub rows_there : (rows : List Row) (place ticks : ℕ) (used : Use) → 0 < ticks → row_from 0 used rows ≡ Some place → HasMore used ticks rows (with_more_at place ticks rows)
rows_there rows place zero used some h = absurd (omega (arith, some))
rows_there rows place (suc n) used some h = let here : place ≡ 0 + place = omega arith in added_there 0 rows place n used (h ∙ ap Some here)

pub rows_last : (rows : List Row) (ticks : ℕ) (used : Use) → 0 < ticks → ticks < 2 ^ 64 → row_from 0 used rows ≡ None → HasMore used ticks rows (rows ++ record { used = used; ticks = ticks } ∷ [])
rows_last rows zero used some fits none = absurd (omega (arith, some))
rows_last rows (suc n) used some fits none = added_last 0 rows n used fits none

pub none_more : (rows : List Row) (used : Use) → HasMore used 0 rows rows
none_more rows used u = at (is_same used u)
  where
    at : (b : Bool) → ticks_for u rows ≡ with_more (if_same b 0) (ticks_for u rows)
    at true = refl
    at false = refl

-- as the code changes a row
pub set_is_more : (rows : List Row) (k : ℕ) (r : Row) (n : ℕ) → slice_get rows k ≡ Some r → slice_set rows k (with_ticks n r) ≡ with_more_at k n rows
set_is_more [] k r n h = cc
set_is_more (x ∷ xs) zero r n h = ap (λ z. with_ticks n z ∷ xs) (sym (of_some x r h))
set_is_more (x ∷ xs) (suc k) r n h = ap (λ zs. x ∷ zs) (set_is_more xs k r n h)

pub none_is_more : (rows : List Row) (k n : ℕ) → slice_get rows k ≡ None → rows ≡ with_more_at k n rows
none_is_more [] k n h = refl
none_is_more (x ∷ xs) zero n h = cc
none_is_more (x ∷ xs) (suc k) n h = ap (λ zs. x ∷ zs) (none_is_more xs k n h)

-- a sum that is over
pub all_summed : (sum rest whole : ℕ) → rest ≡ 0 → sum < 2 ^ 64 → capped (sum + rest) ≡ capped whole → sum ≡ capped whole
all_summed sum rest whole none fits h = omega (arith, none, fits, h)

pub at_end : {A : Type 0} (xs : List A) (n : ℕ) → length xs ≤ n → drop n xs ≡ []
at_end [] zero h = refl
at_end [] (suc n) h = refl
at_end (x ∷ xs) zero h = absurd (omega (arith, h))
at_end (x ∷ xs) (suc n) h = at_end xs n (omega (arith, h))
