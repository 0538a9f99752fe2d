-- Reading a list of tables one by one: the values that were read come before those still to be
-- read.
use Rattle.std.proofs.Common.{◌≡◌, ℕ, ℤ, false, cond, List, [], ◌∷◌, ◌++◌, length, map, Option, Some, None, Result, Ok, Err, is_ok, is_err, refl, sym, ap, ◌∙◌, append_assoc, ◌+◌, ◌≤◌, ◌<◌, drop, get_or, length-drop, arith}
use Rattle.std.proofs.lemmas.List.{map-append, append-nil, drop_more}
use Rattle.std.proofs.lemmas.Bool.{false≢true}
use Rattle.toml.specs.Data.{Members, as_table, as_str}
use Rattle.toml.specs.View.{view as value_view, items_view}
use Rattle.toml.specs.declared.value.Value.{Value}
use Rattle.module_meaning.specs.Table.{◌>>=◌}
use Rattle.module_meaning.specs.TableRules.{integer_at, integers_at, tables_of, texts_of}
use Rattle.window_table.specs.Answers.{Reads}
use Rattle.window_table.specs.declared.fault.TableFault.{TableFault}
use Rattle.window_table.specs.declared.fault.TableFault.TheVariants as fault

-- the values that were read before the rest
abbrev pub behind : {A : Type 0} → List A → Option (List A) → Option (List A)
behind xs rest = rest >>= λ ys. Some (xs ++ ys)

behind-one : {A : Type 0} (xs : List A) (x : A) (o : Option (List A)) → behind xs (o >>= λ ys. Some (x ∷ ys)) ≡ behind (xs ++ x ∷ []) o
behind-one xs x None = refl
behind-one xs x (Some ys) = ap Some (sym (append_assoc xs (x ∷ []) ys))

behind-none : {A : Type 0} (xs : List A) → behind xs None ≡ None
behind-none xs = refl

-- a `Vec` after a push that did not fail
pub pushed : {X E : Type 0} (r : Result (Unit {0}) E) (new old more : List X) → false ≡ is_err r → new ≡ cond (is_ok r) more old → new ≡ more
pushed (Ok u) new old more good items = items
pushed (Err e) new old more good items = absurd (false≢true good)

pub none-left : {X : Type 0} (xs : List X) → length xs ≡ 0 → xs ≡ []
none-left [] h = refl
none-left (x ∷ xs) h = absurd (omega arith)

-- the next of several values, and what is left after the last
pub next-value : (vs : List Value) (i : ℕ) (v : Value) → v ≡ get_or vs i v → i < length vs → drop i vs ≡ v ∷ drop (i + 1) vs
next-value vs i v is here = drop_more vs i v here ∙ ap (λ (x : Value). x ∷ drop (i + 1) vs) (sym is)

pub all-seen : (vs : List Value) (i : ℕ) → length vs ≤ i → length (drop i vs) ≡ 0
all-seen vs i h = omega (arith, length-drop i vs)

pub no-table : {R A : Type 0} (view : R → A) (read : Members → Option A) (all : Option (List A)) (rows : List R) (es : List Value) (v : Value) (vs : List Value) → all ≡ behind (map view rows) (tables_of read (items_view es)) → es ≡ v ∷ vs → None ≡ as_table (value_view v) → all ≡ None
unfolding tables_of
no-table view read all rows es v vs inv step wrong = rw (inv, step, ← wrong) refl

pub no-row : {R A : Type 0} (view : R → A) (read : Members → Option A) (all : Option (List A)) (rows : List R) (es : List Value) (v : Value) (vs : List Value) (ms : Members) → all ≡ behind (map view rows) (tables_of read (items_view es)) → es ≡ v ∷ vs → Some ms ≡ as_table (value_view v) → None ≡ read ms → all ≡ None
unfolding tables_of
no-row view read all rows es v vs ms inv step is wrong = rw (inv, step, ← is, ← wrong) refl

pub one-row : {R A E : Type 0} (view : R → A) (read : Members → Option A) (all : Option (List A)) (rows new : List R) (row : R) (es : List Value) (v : Value) (vs : List Value) (ms : Members) (r : Result (Unit {0}) E) → all ≡ behind (map view rows) (tables_of read (items_view es)) → es ≡ v ∷ vs → Some ms ≡ as_table (value_view v) → read ms ≡ Some (view row) → false ≡ is_err r → new ≡ cond (is_ok r) (rows ++ row ∷ []) rows → all ≡ behind (map view new) (tables_of read (items_view vs))
unfolding tables_of
one-row view read all rows new row es v vs ms r inv step is good fits items =
    rw (inv, step, ← is, good, pushed r new rows (rows ++ row ∷ []) fits items, map-append view rows (row ∷ [])) (behind-one (map view rows) (view row) (tables_of read (items_view vs)))

pub no-rows-left : {R A : Type 0} (view : R → A) (read : Members → Option A) (all : Option (List A)) (rows : List R) (es : List Value) → all ≡ behind (map view rows) (tables_of read (items_view es)) → length es ≡ 0 → all ≡ Some (map view rows)
unfolding tables_of
no-rows-left view read all rows es inv end = rw (inv, none-left es end) (ap Some (append-nil (map view rows)))

pub row-fault : {R S A : Type 0} (view : R → A) (views : S → List A) (read : Members → Option A) (all : Option (List A)) (rows : List R) (es : List Value) (v : Value) (vs : List Value) (ms : Members) (f : TableFault) → all ≡ behind (map view rows) (tables_of read (items_view es)) → es ≡ v ∷ vs → Some ms ≡ as_table (value_view v) → Reads view (Err f) (read ms) → Reads views (Err f) all
row-fault view views read all rows es v vs ms fault.Memory inv step is h = tt
row-fault view views read all rows es v vs ms fault.Shape inv step is h = no-row view read all rows es v vs ms inv step is (sym h)
row-fault view views read all rows es v vs ms fault.Document inv step is h = h
row-fault view views read all rows es v vs ms fault.Limit inv step is h = h
row-fault view views read all rows es v vs ms fault.Name inv step is h = h
row-fault view views read all rows es v vs ms fault.Overlap inv step is h = h
row-fault view views read all rows es v vs ms fault.Period inv step is h = h
row-fault view views read all rows es v vs ms fault.Duration inv step is h = h
row-fault view views read all rows es v vs ms fault.Release inv step is h = h
row-fault view views read all rows es v vs ms fault.Ends inv step is h = h
row-fault view views read all rows es v vs ms fault.Health inv step is h = h

pub no-text : {R : Type 0} (view : R → List ℕ) (all : Option (List (List ℕ))) (rows : List R) (es : List Value) (v : Value) (vs : List Value) → all ≡ behind (map view rows) (texts_of (items_view es)) → es ≡ v ∷ vs → None ≡ as_str (value_view v) → all ≡ None
unfolding texts_of
no-text view all rows es v vs inv step wrong = rw (inv, step, ← wrong) refl

pub one-text : {R E : Type 0} (view : R → List ℕ) (all : Option (List (List ℕ))) (rows new : List R) (row : R) (es : List Value) (v : Value) (vs : List Value) (r : Result (Unit {0}) E) → all ≡ behind (map view rows) (texts_of (items_view es)) → es ≡ v ∷ vs → Some (view row) ≡ as_str (value_view v) → false ≡ is_err r → new ≡ cond (is_ok r) (rows ++ row ∷ []) rows → all ≡ behind (map view new) (texts_of (items_view vs))
unfolding texts_of
one-text view all rows new row es v vs r inv step is fits items =
    rw (inv, step, ← is, pushed r new rows (rows ++ row ∷ []) fits items, map-append view rows (row ∷ [])) (behind-one (map view rows) (view row) (texts_of (items_view vs)))

pub no-texts-left : {R : Type 0} (view : R → List ℕ) (all : Option (List (List ℕ))) (rows : List R) (es : List Value) → all ≡ behind (map view rows) (texts_of (items_view es)) → length es ≡ 0 → all ≡ Some (map view rows)
unfolding texts_of
no-texts-left view all rows es inv end = rw (inv, none-left es end) (ap Some (append-nil (map view rows)))

-- ---- the integers at some keys

pub no-number : {K : Type 0} (name : K → List ℕ) (ms : Members) (all : Option (List ℤ)) (numbers : List ℤ) (keys : List K) (key : K) (rest : List K) → all ≡ behind numbers (integers_at (map name keys) ms) → keys ≡ key ∷ rest → None ≡ integer_at (name key) ms → all ≡ None
unfolding integers_at
no-number name ms all numbers keys key rest inv step wrong = rw (inv, step, ← wrong) refl

pub one-number : {K : Type 0} (name : K → List ℕ) (ms : Members) (all : Option (List ℤ)) (numbers new : List ℤ) (number : ℤ) (keys : List K) (key : K) (rest : List K) → all ≡ behind numbers (integers_at (map name keys) ms) → keys ≡ key ∷ rest → Some number ≡ integer_at (name key) ms → new ≡ numbers ++ number ∷ [] → all ≡ behind new (integers_at (map name rest) ms)
unfolding integers_at
one-number name ms all numbers new number keys key rest inv step is items =
    rw (inv, step, ← is, items) (behind-one numbers number (integers_at (map name rest) ms))

pub no-numbers-left : {K : Type 0} (name : K → List ℕ) (ms : Members) (all : Option (List ℤ)) (numbers : List ℤ) (keys : List K) → all ≡ behind numbers (integers_at (map name keys) ms) → length keys ≡ 0 → all ≡ Some numbers
unfolding integers_at
no-numbers-left name ms all numbers keys inv end = rw (inv, none-left keys end) (ap Some (append-nil numbers))

-- what is left of several keys after the last
pub all-asked : {K : Type 0} (keys : List K) (i : ℕ) → length keys ≤ i → length (drop i keys) ≡ 0
all-asked keys i h = omega (arith, length-drop i keys)
