-- A loop over a slice that adds a row for each item, or refuses the first that breaks a rule: what is said of the rest from here, said of the rest after one more item.
use Rattle.std.proofs.Common.{◌≡◌, ℕ, ◌+◌, ◌<◌, ◌≤◌, Bool, true, false, cond, List, [], ◌∷◌, ◌++◌, length, map, drop, get_or, Option, None, Some, Result, Err, is_ok, is_err, refl, sym, ap, ◌∙◌, append_assoc, arith, is_none}
use Rattle.std.proofs.lemmas.List.{at_drop_all, at_drop_more, append-nil, map-append}
use Rattle.std.specs.Prelude.{◌||◌, if◌then◌else◌, ℤ, int_lt, nat_abs, option_map, unwrap_or, ◌+ℤ◌}
use Rattle.apex_types.specs.declared.row.WindowRow.{WindowRow}
use Rattle.apex_types.specs.declared.identity.PartitionId.{PartitionId}
use Rattle.module_meaning.specs.TableRules.{PartitionText, WindowText, overlaps_after, partition_number, window_row}
use Rattle.window_table.specs.Answers.{RefusesLimit}
use Rattle.window_table.specs.declared.fault.TableFault.{TableFault}
use Rattle.window_table.specs.declared.fault.TableFault.TheVariants as fault
use Rattle.window_table.proofs.Reading.{pushed}
use Rattle.window_table.proofs.Rules.{or_first, or_second}
use Rattle.std.proofs.lemmas.Bool.{false≢true}

-- no item so far is one that `p` finds
pub still_any : {X : Type 0} (p : X → Bool) (f : List X → Bool) (xs : List X) (i : ℕ) (d : X) (whole : Bool) → ((x : X) (ys : List X) → f (x ∷ ys) ≡ (p x || f ys))
    → i < length xs → p (get_or xs i d) ≡ false → whole ≡ f (drop i xs) → whole ≡ f (drop (i + 1) xs)
still_any p f xs i d whole law some not before =
    before ∙ at_drop_more f xs i d some ∙ law (get_or xs i d) (drop (i + 1) xs) ∙ ap (λ (b : Bool). b || f (drop (i + 1) xs)) not

-- the row of one more item comes after those so far
pub one_more : {X Y : Type 0} (g : X → Y) (f : List X → List Y) (xs : List X) (i : ℕ) (d : X) (old new whole : List Y) → ((x : X) (ys : List X) → f (x ∷ ys) ≡ g x ∷ f ys)
    → i < length xs → new ≡ old ++ g (get_or xs i d) ∷ [] → whole ≡ old ++ f (drop i xs) → whole ≡ new ++ f (drop (i + 1) xs)
one_more g f xs i d old new whole law some is before =
    before ∙ ap (λ (ys : List _). old ++ ys) (at_drop_more f xs i d some ∙ law (get_or xs i d) (drop (i + 1) xs))
    ∙ sym (append_assoc old (g (get_or xs i d) ∷ []) (f (drop (i + 1) xs))) ∙ ap (λ (ys : List _). ys ++ f (drop (i + 1) xs)) (sym is)

-- what was pushed, as its view
pub pushed_view : {X Y E : Type 0} (view : X → Y) (r : Result (Unit {0}) E) (new old : List X) (x : X) (y : Y) → false ≡ is_err r → new ≡ cond (is_ok r) (old ++ x ∷ []) old → y ≡ view x
    → map view new ≡ map view old ++ y ∷ []
pushed_view view r new old x y good items is =
    ap (map view) (pushed r new old (old ++ x ∷ []) good items) ∙ map-append view old (x ∷ []) ∙ ap (λ (z : _). map view old ++ z ∷ []) (sym is)

pub pushed_row : {X E : Type 0} (r : Result (Unit {0}) E) (new old : List X) (x y : X) → false ≡ is_err r → new ≡ cond (is_ok r) (old ++ x ∷ []) old → y ≡ x → new ≡ old ++ y ∷ []
pushed_row r new old x y good items is = pushed r new old (old ++ x ∷ []) good items ∙ ap (λ (z : _). old ++ z ∷ []) (sym is)

-- what is there is kept within the limits, and is the row
pub unless_false : {Y : Type 0} (b : Bool) (o : Option Y) (y x : Y) → o ≡ (if b then None else Some y) → o ≡ Some x → b ≡ false
unless_false true o y x is some = let no : None ≡ Some x = sym is ∙ some in cc
unless_false false o y x is some = refl

pub unless_same : {Y : Type 0} (b : Bool) (o : Option Y) (y x : Y) → o ≡ (if b then None else Some y) → o ≡ Some x → y ≡ x
unless_same true o y x is some = let no : None ≡ Some x = sym is ∙ some in cc
unless_same false o y x is some = let same : Some y ≡ Some x = sym is ∙ some in cc

-- the same for an item that is passed as a separate value
pub still_any_item : {X : Type 0} (p : X → Bool) (f : List X → Bool) (xs : List X) (i : ℕ) (x : X) (whole : Bool) → ((y : X) (ys : List X) → f (y ∷ ys) ≡ (p y || f ys))
    → i < length xs → x ≡ get_or xs i x → p x ≡ false → whole ≡ f (drop i xs) → whole ≡ f (drop (i + 1) xs)
still_any_item p f xs i x whole law some read not before = still_any p f xs i x whole law some (ap p (sym read) ∙ not) before

pub one_more_item : {X Y : Type 0} (g : X → Y) (f : List X → List Y) (xs : List X) (i : ℕ) (x : X) (old new whole : List Y) → ((y : X) (ys : List X) → f (y ∷ ys) ≡ g y ∷ f ys)
    → i < length xs → x ≡ get_or xs i x → new ≡ old ++ g x ∷ [] → whole ≡ old ++ f (drop i xs) → whole ≡ new ++ f (drop (i + 1) xs)
one_more_item g f xs i x old new whole law some read is before = one_more g f xs i x old new whole law some (is ∙ ap (λ (y : _). old ++ g y ∷ []) read) before

-- after an item that `p` does not find either, none is found
pub none_behind : {X : Type 0} (p : X → Bool) (f : List X → Bool) (xs : List X) (i : ℕ) → ((x : X) (ys : List X) → f (x ∷ ys) ≡ (p x || f ys)) → i < length xs → f (drop i xs) ≡ false
    → f (drop (i + 1) xs) ≡ false
none_behind p f [] i law some before = absurd (omega (arith, some))
none_behind p f (x ∷ xs) i law some before =
    let split : (p (get_or (x ∷ xs) i x) || f (drop (i + 1) (x ∷ xs))) ≡ false = sym (at_drop_more f (x ∷ xs) i x some ∙ law (get_or (x ∷ xs) i x) (drop (i + 1) (x ∷ xs))) ∙ before in
    or_second (p (get_or (x ∷ xs) i x)) (f (drop (i + 1) (x ∷ xs))) split

-- the window of one more row ends at `next`
pub next_window : (frame end next : ℤ) (w : WindowText) (ws : List WindowText) → (int_lt w.offset end || int_lt frame (w.offset +ℤ w.length)) ≡ false → (w.offset +ℤ w.length) ≡ next
    → overlaps_after frame end (w ∷ ws) ≡ overlaps_after frame next ws
unfolding overlaps_after
next_window frame end next w ws not is =
    ap (λ (b : Bool). b || overlaps_after frame (w.offset +ℤ w.length) ws) not ∙ ap (λ (z : ℤ). overlaps_after frame z ws) is

abbrev row_in : ℕ → WindowText → WindowRow
row_in n w = record { partition = record { 0 = n }; offset = nat_abs w.offset; length = nat_abs w.length; release = w.release }

-- the row of a window whose partition is known
pub placed : (ps : List PartitionText) (w : WindowText) (r : WindowRow) (o : Option PartitionId) (p : PartitionId) → option_map (λ n. n.0) o ≡ partition_number ps w.partition → o ≡ Some p
    → r ≡ record { partition = p; offset = nat_abs w.offset; length = nat_abs w.length; release = w.release } → window_row ps w ≡ r
placed ps w r o p known some is =
    let number : partition_number ps w.partition ≡ Some p.0 = sym known ∙ ap (option_map (λ (n : PartitionId). n.0)) some in
    ap (λ (n : Option ℕ). row_in (unwrap_or n 0) w) number ∙ sym is

-- the item from here is none that `p` finds
pub none_here : {X : Type 0} (p : X → Bool) (f : List X → Bool) (xs : List X) (i : ℕ) (d : X) → ((x : X) (ys : List X) → f (x ∷ ys) ≡ (p x || f ys)) → i < length xs → f (drop i xs) ≡ false
    → p (get_or xs i d) ≡ false
none_here p f xs i d law some none =
    or_first (p (get_or xs i d)) (f (drop (i + 1) xs)) (sym (at_drop_more f xs i d some ∙ law (get_or xs i d) (drop (i + 1) xs)) ∙ none)

-- what is found is there
pub is_there : {X : Type 0} (found meant : Option X) → found ≡ meant → found ≡ None → is_none meant ≡ false → ⊥
is_there found meant same none there = false≢true (sym there ∙ ap is_none (sym same ∙ none))

-- what is not there is refused, and so is the whole
pub unless_true : {Y : Type 0} (b : Bool) (o : Option Y) (y : Y) → o ≡ (if b then None else Some y) → o ≡ None → b ≡ true
unless_true true o y is none = refl
unless_true false o y is none = let no : None ≡ Some y = sym none ∙ is in cc

pub overlap_here : (frame end : ℤ) (w : WindowText) (ws : List WindowText) → (int_lt w.offset end || int_lt frame (w.offset +ℤ w.length)) ≡ true → overlaps_after frame end (w ∷ ws) ≡ true
unfolding overlaps_after
overlap_here frame end w ws here = ap (λ (b : Bool). b || overlaps_after frame (w.offset +ℤ w.length) ws) here

pub item_here : {X : Type 0} (p : X → Bool) (f : List X → Bool) (xs : List X) (i : ℕ) (x : X) → ((y : X) (ys : List X) → f (y ∷ ys) ≡ (p y || f ys)) → i < length xs → x ≡ get_or xs i x
    → f (drop i xs) ≡ false → p x ≡ false
item_here p f xs i x law some read none = ap p read ∙ none_here p f xs i x law some none

-- an item that `p` finds is found in the whole
pub any_here : {X : Type 0} (p : X → Bool) (f : List X → Bool) (xs : List X) (i : ℕ) (d : X) (whole : Bool) → ((x : X) (ys : List X) → f (x ∷ ys) ≡ (p x || f ys))
    → i < length xs → p (get_or xs i d) ≡ true → whole ≡ f (drop i xs) → whole ≡ true
any_here p f xs i d whole law some here before =
    before ∙ at_drop_more f xs i d some ∙ law (get_or xs i d) (drop (i + 1) xs) ∙ ap (λ (b : Bool). b || f (drop (i + 1) xs)) here

-- after the last item none is found, and all rows are built
pub none_left : {X : Type 0} (f : List X → Bool) (xs : List X) (i : ℕ) (whole : Bool) → f [] ≡ false → length xs ≤ i → whole ≡ f (drop i xs) → whole ≡ false
none_left f xs i whole nil all before = before ∙ at_drop_all f xs i all ∙ nil

pub all_built : {X Y : Type 0} (f : List X → List Y) (xs : List X) (i : ℕ) (rows whole : List Y) → f [] ≡ [] → length xs ≤ i → whole ≡ rows ++ f (drop i xs) → whole ≡ rows
all_built f xs i rows whole nil all before = before ∙ ap (λ (ys : List _). rows ++ ys) (at_drop_all f xs i all ∙ nil) ∙ append-nil rows

-- a refusal of one item is one of the whole
pub limit_on : (A B : Type 0) (e : TableFault) (here whole : Bool) → RefusesLimit {A = A} (Err e) here → (here ≡ true → whole ≡ true) → RefusesLimit {A = B} (Err e) whole
limit_on A B fault.Memory here whole h on = tt
limit_on A B fault.Limit here whole h on = on h
limit_on A B fault.Shape here whole h on = h
limit_on A B fault.Document here whole h on = h
limit_on A B fault.Name here whole h on = h
limit_on A B fault.Overlap here whole h on = h
limit_on A B fault.Period here whole h on = h
limit_on A B fault.Duration here whole h on = h
limit_on A B fault.Release here whole h on = h
limit_on A B fault.Ends here whole h on = h
limit_on A B fault.Health here whole h on = h

pub any_here_item : {X : Type 0} (p : X → Bool) (f : List X → Bool) (xs : List X) (i : ℕ) (x : X) (whole : Bool) → ((y : X) (ys : List X) → f (y ∷ ys) ≡ (p y || f ys))
    → i < length xs → x ≡ get_or xs i x → p x ≡ true → whole ≡ f (drop i xs) → whole ≡ true
any_here_item p f xs i x whole law some read here before = any_here p f xs i x whole law some (ap p (sym read) ∙ here) before

-- the rows of one more item come after those so far
pub some_more_item : {X Y : Type 0} (own : X → List Y) (f : List X → List Y) (xs : List X) (i : ℕ) (x : X) (old new whole : List Y) → ((y : X) (ys : List X) → f (y ∷ ys) ≡ own y ++ f ys)
    → i < length xs → x ≡ get_or xs i x → new ≡ old ++ own x → whole ≡ old ++ f (drop i xs) → whole ≡ new ++ f (drop (i + 1) xs)
some_more_item own f xs i x old new whole law some read is before =
    before ∙ ap (λ (ys : List _). old ++ ys) (at_drop_more f xs i x some ∙ law (get_or xs i x) (drop (i + 1) xs))
    ∙ sym (append_assoc old (own (get_or xs i x)) (f (drop (i + 1) xs))) ∙ ap (λ (ys : List _). ys ++ f (drop (i + 1) xs)) (sym (is ∙ ap (λ (y : _). old ++ own y) read))

-- whether `p` has found an item so far
found_one : (old found rest : Bool) → (old || (found || rest)) ≡ ((found || old) || rest)
found_one true true rest = refl
found_one true false rest = refl
found_one false true rest = refl
found_one false false rest = refl

pub any_so_far : {X : Type 0} (p : X → Bool) (f : List X → Bool) (xs : List X) (i : ℕ) (x : X) (old new found whole : Bool) → ((y : X) (ys : List X) → f (y ∷ ys) ≡ (p y || f ys))
    → i < length xs → x ≡ get_or xs i x → p x ≡ found → new ≡ (found || old) → whole ≡ (old || f (drop i xs)) → whole ≡ (new || f (drop (i + 1) xs))
any_so_far p f xs i x old new found whole law some read is next before =
    before ∙ ap (λ (b : Bool). old || b) (at_drop_more f xs i x some ∙ law (get_or xs i x) (drop (i + 1) xs) ∙ ap (λ (b : Bool). b || f (drop (i + 1) xs)) (ap p (sym read) ∙ is))
    ∙ found_one old found (f (drop (i + 1) xs)) ∙ ap (λ (b : Bool). b || f (drop (i + 1) xs)) (sym next)

pub so_far_is_all : {X : Type 0} (f : List X → Bool) (xs : List X) (i : ℕ) (old whole : Bool) → f [] ≡ false → length xs ≤ i → whole ≡ (old || f (drop i xs)) → whole ≡ old
so_far_is_all f xs i true whole nil all before = before
so_far_is_all f xs i false whole nil all before = before ∙ at_drop_all f xs i all ∙ nil

-- the same where the rest is gone over with another state
pub still_any_then : {X : Type 0} (p : X → Bool) (f behind : List X → Bool) (xs : List X) (i : ℕ) (x : X) (whole : Bool) → ((y : X) (ys : List X) → f (y ∷ ys) ≡ (p y || behind ys))
    → i < length xs → x ≡ get_or xs i x → p x ≡ false → whole ≡ f (drop i xs) → whole ≡ behind (drop (i + 1) xs)
still_any_then p f behind xs i x whole law some read not before =
    before ∙ at_drop_more f xs i x some ∙ law (get_or xs i x) (drop (i + 1) xs) ∙ ap (λ (b : Bool). b || behind (drop (i + 1) xs)) (ap p (sym read) ∙ not)
