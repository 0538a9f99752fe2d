-- Times, with how often each was taken.
use Rattle.std.proofs.Common.{◌≡◌, ◌≢◌, ℕ, ◌+◌, ◌*◌, ◌-◌, ◌^◌, ◌<◌, ◌≤◌, min, Bool, true, false, ◌&&◌, if◌then◌else◌, cond, nat_le, nat_lt, List, [], ◌∷◌, length, filter, Option, Some, None, refl, sym, ap, subst, ◌∙◌, arith}
use Rattle.std.specs.Prelude.{unwrap_or}
use Rattle.std.specs.BTreeMap.{insert_entry, is_at}
use Rattle.std.specs.Map.{lookup}
use Rattle.std.specs.Ordering.{is_eq, match_ordering, nat_cmp}
use Rattle.std.specs.declared.cmp.Ordering.{Ordering}
use Rattle.std.specs.declared.cmp.Ordering.TheVariants.{Less, Equal, Greater}
use Rattle.std.proofs.lemmas.Bool.{leb-true, leb-false, ltb-true, ltb-false}
use Rattle.std.proofs.lemmas.Option.{same_Some}
use Rattle.std.proofs.lemmas.Cmp.{ranked}
use Rattle.trace_view.specs.Percentiles.{AreTimes, IsPercentile, all_of, are_rising, at_most, count_of, is_above, often, percent_of, reached}
use Rattle.trace_view.specs.declared.times.Percentile.{Percentile}
use Rattle.trace_view.specs.declared.times.Percentile.TheVariants as percentile

-- ---- rising times

abbrev IsAbove : ℕ → List (ℕ × ℕ) → Type 0
IsAbove t [] = Unit {0}
IsAbove t (e ∷ es) = t < e.0

abbrev AreRising : List (ℕ × ℕ) → Type 0
AreRising [] = Unit {0}
AreRising (e ∷ es) = IsAbove e.0 es × AreRising es

both : (a b : Bool) → (a && b) ≡ true → (a ≡ true) × (b ≡ true)
both true b h = (refl, h)
both false b h = absurd cc

above_is : (t : ℕ) (es : List (ℕ × ℕ)) → is_above t es ≡ true → IsAbove t es
above_is t [] h = tt
above_is t (e ∷ es) h = ltb-true t e.0 h

rising_is : (es : List (ℕ × ℕ)) → are_rising es ≡ true → AreRising es
rising_is [] h = tt
rising_is (e ∷ es) h = let g = both (is_above e.0 es) (are_rising es) h in (above_is e.0 es g.0, rising_is es g.1)

is_above_true : (t : ℕ) (es : List (ℕ × ℕ)) → IsAbove t es → is_above t es ≡ true
is_above_true t [] h = refl
is_above_true t (e ∷ es) h = go (nat_lt t e.0) refl
  where
    go : (b : Bool) → nat_lt t e.0 ≡ b → nat_lt t e.0 ≡ true
    go true is = is
    go false is = absurd (omega (arith, h, ltb-false t e.0 is))

rising_true : (es : List (ℕ × ℕ)) → AreRising es → are_rising es ≡ true
rising_true [] h = refl
rising_true (e ∷ es) h = rw (is_above_true e.0 es h.0, rising_true es h.1) refl

above_lower : (t k : ℕ) (es : List (ℕ × ℕ)) → t < k → IsAbove k es → IsAbove t es
above_lower t k [] less h = tt
above_lower t k (e ∷ es) less h = omega (arith, less, h)

above_insert : (t k v : ℕ) (es : List (ℕ × ℕ)) → t < k → IsAbove t es → IsAbove t (insert_entry nat_cmp es k v)
above_insert t k v [] below h = below
above_insert t k v (e ∷ es) below h = go (nat_cmp k e.0) refl
  where
    go : (r : Ordering) → r ≡ nat_cmp k e.0 → IsAbove t (match_ordering r ((k, v) ∷ e ∷ es) ((e.0, v) ∷ es) (e ∷ insert_entry nat_cmp es k v))
    go Less is = below
    go Equal is = h
    go Greater is = h

insert_rising : (k v : ℕ) (es : List (ℕ × ℕ)) → AreRising es → AreRising (insert_entry nat_cmp es k v)
insert_rising k v [] h = (tt, tt)
insert_rising k v (e ∷ es) h = go (insert_rising k v es h.1) (nat_cmp k e.0) refl
  where
    go : AreRising (insert_entry nat_cmp es k v) → (r : Ordering) → r ≡ nat_cmp k e.0 → AreRising (match_ordering r ((k, v) ∷ e ∷ es) ((e.0, v) ∷ es) (e ∷ insert_entry nat_cmp es k v))
    go rest Less is = (ranked k e.0 Less is, h)
    go rest Equal is = h
    go rest Greater is = (above_insert e.0 k v es (ranked k e.0 Greater is) h.0, rest)

pub rising_more : (k v : ℕ) (es : List (ℕ × ℕ)) → are_rising es ≡ true → are_rising (insert_entry nat_cmp es k v) ≡ true
rising_more k v es h = rising_true (insert_entry nat_cmp es k v) (insert_rising k v es (rising_is es h))

-- ---- one more time

none_below : (k : ℕ) (es : List (ℕ × ℕ)) → IsAbove k es → AreRising es → often k es ≡ 0
none_below k [] above h = refl
none_below k (e ∷ es) above h = go (none_below k es (above_lower k e.0 es above h.0) h.1) (nat_cmp k e.0) refl
  where
    go : often k es ≡ 0 → (r : Ordering) → r ≡ nat_cmp k e.0 → unwrap_or (cond (is_eq r) (Some e.1) (lookup (is_at (nat_cmp k)) es)) 0 ≡ 0
    go rest Less is = rest
    go rest Equal is = absurd (omega (arith, above, ranked k e.0 Equal is))
    go rest Greater is = absurd (omega (arith, above, ranked k e.0 Greater is))

-- a time that is taken once more
one_more : (b : Bool) (n more : ℕ) → (if b then n + 1 else 0) + more ≡ ((if b then n else 0) + more) + (if b then 1 else 0)
one_more true n more = omega arith
one_more false n more = omega arith

-- and one that is taken for the first time
first_one : (b : Bool) (n more : ℕ) → n ≡ 0 → (if b then n + 1 else 0) + more ≡ more + (if b then 1 else 0)
first_one true n more none = omega (arith, none)
first_one false n more none = omega arith

count_more : (kind : ℕ → Bool) (k : ℕ) (es : List (ℕ × ℕ)) → AreRising es → count_of kind (insert_entry nat_cmp es k (often k es + 1)) ≡ count_of kind es + (if kind k then 1 else 0)
count_more kind k [] h = first_one (kind k) 0 0 refl
count_more kind k (e ∷ es) h = go (count_more kind k es h.1) (nat_cmp k e.0) refl
  where
    go : count_of kind (insert_entry nat_cmp es k (often k es + 1)) ≡ count_of kind es + (if kind k then 1 else 0) → (r : Ordering) → r ≡ nat_cmp k e.0
        → count_of kind (match_ordering r ((k, unwrap_or (cond (is_eq r) (Some e.1) (lookup (is_at (nat_cmp k)) es)) 0 + 1) ∷ e ∷ es)
        ((e.0, unwrap_or (cond (is_eq r) (Some e.1) (lookup (is_at (nat_cmp k)) es)) 0 + 1) ∷ es)
        (e ∷ insert_entry nat_cmp es k (unwrap_or (cond (is_eq r) (Some e.1) (lookup (is_at (nat_cmp k)) es)) 0 + 1)))
        ≡ ((if kind e.0 then e.1 else 0) + count_of kind es) + (if kind k then 1 else 0)
    go rest Less is =
        first_one (kind k) (often k es) ((if kind e.0 then e.1 else 0) + count_of kind es) (none_below k es (above_lower k e.0 es (ranked k e.0 Less is) h.0) h.1)
    go rest Equal is =
        subst (λ (x : ℕ). (if kind e.0 then e.1 + 1 else 0) + count_of kind es ≡ ((if kind e.0 then e.1 else 0) + count_of kind es) + (if kind x then 1 else 0)) (sym (ranked k e.0 Equal is))
        (one_more (kind e.0) e.1 (count_of kind es))
    go rest Greater is = omega (arith, rest)

pub all_more : (k : ℕ) (es : List (ℕ × ℕ)) → are_rising es ≡ true → all_of (insert_entry nat_cmp es k (often k es + 1)) ≡ all_of es + 1
all_more k es h = count_more (λ (s : ℕ). true) k es (rising_is es h)

filter_more : (kind : ℕ → Bool) (t : ℕ) (times : List ℕ) → length (filter kind (t ∷ times)) ≡ length (filter kind times) + (if kind t then 1 else 0)
filter_more kind t times = go (kind t)
  where
    go : (b : Bool) → length (if b then t ∷ filter kind times else filter kind times) ≡ length (filter kind times) + (if b then 1 else 0)
    go true = omega arith
    go false = omega arith

pub times_more : (k : ℕ) (es : List (ℕ × ℕ)) (times : List ℕ) → are_rising es ≡ true → AreTimes times es → AreTimes (k ∷ times) (insert_entry nat_cmp es k (often k es + 1))
times_more k es times h are = λ kind.
    filter_more kind k times ∙ ap (λ n. n + (if kind k then 1 else 0)) (are kind) ∙ sym (count_more kind k es (rising_is es h))

-- ---- the time that is reached

abbrev below : ℕ → List (ℕ × ℕ) → ℕ
below t es = count_of (λ (s : ℕ). nat_le s t) es

none_under : (u : ℕ) (es : List (ℕ × ℕ)) → IsAbove u es → AreRising es → below u es ≡ 0
none_under u [] above h = refl
none_under u (e ∷ es) above h = go (none_under u es (above_lower u e.0 es above h.0) h.1) (nat_le e.0 u) refl
  where
    go : below u es ≡ 0 → (b : Bool) → nat_le e.0 u ≡ b → (if b then e.1 else 0) + below u es ≡ 0
    go rest true is = absurd (omega (arith, above, leb-true e.0 u is))
    go rest false is = omega (arith, rest)

at_head : (t : ℕ) (e : ℕ × ℕ) (es : List (ℕ × ℕ)) → e.0 ≤ t → below t (e ∷ es) ≡ e.1 + below t es
at_head t e es le = go (nat_le e.0 t) refl
  where
    go : (b : Bool) → nat_le e.0 t ≡ b → (if b then e.1 else 0) + below t es ≡ e.1 + below t es
    go true is = refl
    go false is = absurd (omega (arith, le, leb-false e.0 t is))

head_at_most : (u : ℕ) (e : ℕ × ℕ) (es : List (ℕ × ℕ)) → below u (e ∷ es) ≤ e.1 + below u es
head_at_most u e es = go (nat_le e.0 u)
  where
    go : (b : Bool) → (if b then e.1 else 0) + below u es ≤ e.1 + below u es
    go true = omega arith
    go false = omega arith

fits_next : (before n rest : ℕ) → before + (n + rest) ≤ 2 ^ 64 - 1 → min (before + n) (2 ^ 64 - 1) ≡ before + n
fits_next before n rest fits = omega (arith, fits)

reached_above : (w before : ℕ) (es : List (ℕ × ℕ)) (k t : ℕ) → IsAbove k es → AreRising es → reached w before es ≡ Some t → k < t
reached_above w before [] k t above h is = absurd cc
reached_above w before (e ∷ es) k t above h is =
    go (reached_above w (min (before + e.1) (2 ^ 64 - 1)) es k t (above_lower k e.0 es above h.0) h.1) (nat_le w (min (before + e.1) (2 ^ 64 - 1) * 100)) is
  where
    go : (reached w (min (before + e.1) (2 ^ 64 - 1)) es ≡ Some t → k < t) → (b : Bool) → (if b then Some e.0 else reached w (min (before + e.1) (2 ^ 64 - 1)) es) ≡ Some t → k < t
    go rest true found = let same = same_Some e.0 t found in omega (arith, above, same)
    go rest false found = rest found

-- enough times are at most the time that is reached, and too few are at most a smaller time
reached_some : (w before : ℕ) (es : List (ℕ × ℕ)) (t : ℕ) → AreRising es → before + all_of es ≤ 2 ^ 64 - 1 → before * 100 < w → reached w before es ≡ Some t
    → (w ≤ 100 * (before + below t es)) × ((u : ℕ) → u < t → 100 * (before + below u es) < w)
reached_some w before [] t h fits low is = absurd cc
reached_some w before (e ∷ es) t h fits low is =
    go (reached_some w (min (before + e.1) (2 ^ 64 - 1)) es t h.1) (nat_le w (min (before + e.1) (2 ^ 64 - 1) * 100)) refl is
  where
    go : (min (before + e.1) (2 ^ 64 - 1) + all_of es ≤ 2 ^ 64 - 1 → min (before + e.1) (2 ^ 64 - 1) * 100 < w → reached w (min (before + e.1) (2 ^ 64 - 1)) es ≡ Some t
        → (w ≤ 100 * (min (before + e.1) (2 ^ 64 - 1) + below t es)) × ((u : ℕ) → u < t → 100 * (min (before + e.1) (2 ^ 64 - 1) + below u es) < w))
        → (b : Bool) → nat_le w (min (before + e.1) (2 ^ 64 - 1) * 100) ≡ b → (if b then Some e.0 else reached w (min (before + e.1) (2 ^ 64 - 1)) es) ≡ Some t
        → (w ≤ 100 * (before + below t (e ∷ es))) × ((u : ℕ) → u < t → 100 * (before + below u (e ∷ es)) < w)
    go rest true enough found =
        let sum = fits_next before e.1 (all_of es) fits in
        let same = same_Some e.0 t found in
        let head = at_head t e es (omega (arith, same)) in (
          omega (arith, sum, head, leb-true w (min (before + e.1) (2 ^ 64 - 1) * 100) enough),
          λ u under. let none = none_under u (e ∷ es) (omega (arith, same, under)) h in omega (arith, none, low),
        )
    go rest false few found =
        let sum = fits_next before e.1 (all_of es) fits in
        let less = leb-false w (min (before + e.1) (2 ^ 64 - 1) * 100) few in
        let later = rest (omega (arith, sum, fits)) (omega (arith, less)) found in
        let above = reached_above w (min (before + e.1) (2 ^ 64 - 1)) es e.0 t h.0 h.1 found in
        let head = at_head t e es (omega (arith, above)) in (
          omega (arith, sum, head, later.0),
          λ u under. omega (arith, sum, head_at_most u e es, later.1 u under),
        )

reached_none : (w before : ℕ) (es : List (ℕ × ℕ)) → before + all_of es ≤ 2 ^ 64 - 1 → before * 100 < w → reached w before es ≡ None → 100 * (before + all_of es) < w
reached_none w before [] fits low is = omega (arith, low)
reached_none w before (e ∷ es) fits low is =
    go (reached_none w (min (before + e.1) (2 ^ 64 - 1)) es) (nat_le w (min (before + e.1) (2 ^ 64 - 1) * 100)) refl is
  where
    go : (min (before + e.1) (2 ^ 64 - 1) + all_of es ≤ 2 ^ 64 - 1 → min (before + e.1) (2 ^ 64 - 1) * 100 < w → reached w (min (before + e.1) (2 ^ 64 - 1)) es ≡ None
        → 100 * (min (before + e.1) (2 ^ 64 - 1) + all_of es) < w)
        → (b : Bool) → nat_le w (min (before + e.1) (2 ^ 64 - 1) * 100) ≡ b → (if b then Some e.0 else reached w (min (before + e.1) (2 ^ 64 - 1)) es) ≡ None → 100 * (before + (e.1 + all_of es)) < w
    go rest true enough found = absurd cc
    go rest false few found =
        let sum = fits_next before e.1 (all_of es) fits in
        let later = rest (omega (arith, sum, fits)) (omega (arith, leb-false w (min (before + e.1) (2 ^ 64 - 1) * 100) few)) found in
        omega (arith, sum, later)

-- the loop that goes through the entries
pub found_here : (w b k n m : ℕ) (items rest entries : List (ℕ × ℕ)) → items ≡ (k, n) ∷ rest → m ≡ min (b + n) (2 ^ 64 - 1) → w ≤ m * 100 → reached w b items ≡ reached w 0 entries → Some k ≡ reached w 0 entries
found_here w b k n m items rest entries is sum enough so_far = go (nat_le w (min (b + n) (2 ^ 64 - 1) * 100)) refl ∙ ap (reached w b) (sym is) ∙ so_far
  where
    go : (test : Bool) → nat_le w (min (b + n) (2 ^ 64 - 1) * 100) ≡ test → Some k ≡ (if test then Some k else reached w (min (b + n) (2 ^ 64 - 1)) rest)
    go true at = refl
    go false at = absurd (omega (arith, leb-false w (min (b + n) (2 ^ 64 - 1) * 100) at, sum, enough))

pub goes_on : (w b k n m : ℕ) (items rest entries : List (ℕ × ℕ)) → items ≡ (k, n) ∷ rest → m ≡ min (b + n) (2 ^ 64 - 1) → m * 100 < w → reached w b items ≡ reached w 0 entries → reached w m rest ≡ reached w 0 entries
goes_on w b k n m items rest entries is sum few so_far =
    ap (λ (x : ℕ). reached w x rest) sum ∙ go (nat_le w (min (b + n) (2 ^ 64 - 1) * 100)) refl ∙ ap (reached w b) (sym is) ∙ so_far
  where
    go : (test : Bool) → nat_le w (min (b + n) (2 ^ 64 - 1) * 100) ≡ test → reached w (min (b + n) (2 ^ 64 - 1)) rest ≡ (if test then Some k else reached w (min (b + n) (2 ^ 64 - 1)) rest)
    go true at = absurd (omega (arith, leb-true w (min (b + n) (2 ^ 64 - 1) * 100) at, sum, few))
    go false at = refl

pub none_left : (w b : ℕ) (items entries : List (ℕ × ℕ)) → items ≡ [] → reached w b items ≡ reached w 0 entries → None ≡ reached w 0 entries
none_left w b items entries none so_far = ap (reached w b) (sym none) ∙ so_far

-- ---- percentiles

all_kept : (times : List ℕ) → length (filter (λ (s : ℕ). true) times) ≡ length times
all_kept [] = refl
all_kept (t ∷ times) = let rest = all_kept times in omega (arith, rest)

not_none : (times : List ℕ) (n : ℕ) → length times ≡ n → (n ≡ 0 → ⊥) → times ≢ []
not_none [] n same some = λ none. some (sym same)
not_none (t ∷ times) n same some = λ none. absurd cc

no_times : (times : List ℕ) → length times ≡ 0 → times ≡ []
no_times [] same = refl
no_times (t ∷ times) same = absurd cc

answered : (q n : ℕ) (es : List (ℕ × ℕ)) (times : List ℕ) (r : Option ℕ) → AreRising es → n ≡ all_of es → n ≤ 2 ^ 64 - 1 → (n ≡ 0 → ⊥) → 0 < q * n → q * n ≤ 100 * n → AreTimes times es
    → reached (q * n) 0 es ≡ r → IsPercentile q times r
answered q n es times None h whole fits some low high are is =
    let less = reached_none (q * n) 0 es (omega (arith, whole, fits)) (omega (arith, low)) is in absurd (omega (arith, less, whole, high))
answered q n es times (Some t) h whole fits some low high are is =
    let long : length times ≡ n = sym (all_kept times) ∙ are (λ (s : ℕ). true) ∙ sym whole in
    let same : q * length times ≡ q * n = ap (λ (m : ℕ). q * m) long in
    let found = reached_some (q * n) 0 es t h (omega (arith, whole, fits)) (omega (arith, low)) is in (
      not_none times n long some,
      (let here : at_most t times ≡ below t es = are (λ (s : ℕ). nat_le s t) in omega (arith, same, here, found.0)),
      λ u under. let here : at_most u times ≡ below u es = are (λ (s : ℕ). nat_le s u) in omega (arith, same, here, found.1 u under),
    )

pub percentile_is : (which : Percentile) (n : ℕ) (es : List (ℕ × ℕ)) (times : List ℕ) → are_rising es ≡ true → n ≡ all_of es → n ≤ 2 ^ 64 - 1 → (n ≡ 0 → ⊥) → AreTimes times es
    → IsPercentile (percent_of which) times (reached (percent_of which * n) 0 es)
percentile_is percentile.Median n es times h whole fits some are =
    let low : 0 < 50 * n = by_some n some in answered 50 n es times (reached (50 * n) 0 es) (rising_is es h) whole fits some low (omega arith) are refl
  where
    by_some : (n : ℕ) → (n ≡ 0 → ⊥) → 0 < 50 * n
    by_some n some = omega (arith, some)
percentile_is percentile.NinetyFifth n es times h whole fits some are =
    answered 95 n es times (reached (95 * n) 0 es) (rising_is es h) whole fits some (omega (arith, some)) (omega arith) are refl

pub no_percentile : (q : ℕ) (n : ℕ) (es : List (ℕ × ℕ)) (times : List ℕ) → n ≡ all_of es → n ≡ 0 → AreTimes times es → IsPercentile q times None
no_percentile q n es times whole none are = no_times times (sym (all_kept times) ∙ are (λ (s : ℕ). true) ∙ sym whole ∙ none)
