-- The effect of a step of the module on one partition: its own step, or nothing.
use Rattle.isolation.proofs.Prelude.{◌≡◌, ◌≢◌, ℕ, zero, suc, false, List, ◌∷◌, ◌++◌, map, Option, Some, None, sym, ◌∙◌, append-nil, arith, slice_get, slice_set, flat_map, option_map, slice_get-map, StartCondition, Event, At, same, Stepped, Course, still, then_goes, steps, goes_on, unless_down, starts_all, started_member, Member, Moved, cold_start, goes, then_runs, part}
use Rattle.std.proofs.Common.{[], refl, ap, subst}
use Rattle.module_meaning.specs.Module.{steps_member, then_runs, start_lines}
use Rattle.kernel_meaning.specs.Partition.{with_world}
use Rattle.isolation.proofs.Seen.{part-append}
use Rattle.isolation.proofs.Kept.{StepKeeps, cold_start_keeps}

-- ---- lists
some_of : {A : Type 0} → A → Option A → A
some_of x None = x
some_of x (Some y) = y

pub same_some : {A : Type 0} (x y : A) → Some x ≡ Some y → x ≡ y
unfolding some_of
same_some x y h = ap (some_of x) h

pub get_set_same : {A : Type 0} (xs : List A) (i : ℕ) (x y : A) → slice_get xs i ≡ Some x → slice_get (slice_set xs i y) i ≡ Some y
get_set_same [] i x y h = absurd (cc)
get_set_same (a ∷ xs) zero x y h = refl
get_set_same (a ∷ xs) (suc i) x y h = get_set_same xs i x y h

pub get_set_other : {A : Type 0} (xs : List A) (i j : ℕ) (y : A) → i ≢ j → slice_get (slice_set xs i y) j ≡ slice_get xs j
get_set_other [] i j y h = refl
get_set_other (a ∷ xs) zero zero y h = absurd (h refl)
get_set_other (a ∷ xs) zero (suc j) y h = refl
get_set_other (a ∷ xs) (suc i) zero y h = refl
get_set_other (a ∷ xs) (suc i) (suc j) y h = get_set_other xs i j y (λ e. h (ap suc e))

pub map_set_same : {A B : Type 0} (f : A → B) (xs : List A) (i : ℕ) (x y : A) → slice_get xs i ≡ Some x → f y ≡ f x → map f (slice_set xs i y) ≡ map f xs
map_set_same f [] i x y h e = refl
map_set_same f (a ∷ xs) zero x y h e = ap (λ b. b ∷ map f xs) (e ∙ sym (ap f (same_some a x h)))
map_set_same f (a ∷ xs) (suc i) x y h e = ap (λ bs. f a ∷ bs) (map_set_same f xs i x y h e)

map_map_same : {A B : Type 0} (f : A → B) (g : A → A) → ((x : A) → f (g x) ≡ f x) → (xs : List A) → map f (map g xs) ≡ map f xs
map_map_same f g h [] = refl
map_map_same f g h (x ∷ xs) = ap (λ b. b ∷ map f (map g xs)) (h x) ∙ ap (λ bs. f x ∷ bs) (map_map_same f g h xs)

abbrev pub name_of : {C : Type 0} → Member C → List ℕ
name_of x = x.world.kernel.fixed.name

pub joined : (name : List ℕ) (a b : List Event) (c d : List Event) → part name a ≡ c → part name b ≡ d → part name (a ++ b) ≡ c ++ d
joined name a b c d h k = part-append name a b ∙ ap (λ (es : List Event). es ++ part name b) h ∙ ap (λ (es : List Event). c ++ es) k

-- ---- one partition among the others
-- Names that distinguish the one at `place` from all others.
pub record IsApart (name : List ℕ) (place : ℕ) (names : List (List ℕ)) : Type 0 where
  pub here : slice_get names place ≡ Some name
  pub others : (q : ℕ) (other : List ℕ) → q ≢ place → slice_get names q ≡ Some other → same name other ≡ false

-- names of which each differs from all others
abbrev pub AreApart : List (List ℕ) → Type 0
AreApart names = (place : ℕ) (name : List ℕ) → slice_get names place ≡ Some name → IsApart name place names

module _ {C : Type 0} (name : List ℕ) (place : ℕ) (names : List (List ℕ)) (apart : IsApart name place names) where
  -- this is the partition at the place, and all have their names
  pub record Holds (ms : List (Member C)) (x : Member C) : Type 0 where
    pub own : slice_get ms place ≡ Some x
    pub named : map name_of ms ≡ names

  -- A step of the module is this step of the partition: it leads to the same record, and the lines
  -- are the part.
  pub record Same (a : Stepped (List (Member C))) (g : Stepped (Member C)) : Type 0 where
    pub state : Holds a.state g.state
    pub lines : part name a.lines ≡ g.lines

  pub record SamePath (c : Course (List (Member C))) (d : Course (Member C)) : Type 0 where
    pub at : c.at ≡ d.at
    pub state : Holds c.state d.state
    pub lines : part name c.lines ≡ d.lines

  name_at : (ms : List (Member C)) (x : Member C) → Holds ms x → (q : ℕ) (y : Member C) → slice_get ms q ≡ Some y → slice_get names q ≡ Some (name_of y)
  name_at ms x h q y e = ap (λ (ns : List (List ℕ)). slice_get ns q) (sym h.named) ∙ slice_get-map name_of ms q ∙ ap (option_map name_of) e

  own_name : (ms : List (Member C)) (x : Member C) → Holds ms x → name_of x ≡ name
  own_name ms x h = same_some (name_of x) name (sym (name_at ms x h place x h.own) ∙ apart.here)

  other_name : (ms : List (Member C)) (x : Member C) → Holds ms x → (q : ℕ) (y : Member C) → q ≢ place → slice_get ms q ≡ Some y → same name (name_of y) ≡ false
  other_name ms x h q y n e = apart.others q (name_of y) n (name_at ms x h q y e)

  pub still_same : (ms : List (Member C)) (x : Member C) → Holds ms x → Same (still ms) (still x)
  still_same ms x h = record { state = h; lines = refl }

  own_lines : (f : Member C → Moved C) → StepKeeps f → (ms : List (Member C)) (x : Member C) → Holds ms x → part name (f x).lines ≡ (f x).lines
  own_lines f k ms x h = subst (λ (n : List ℕ). part n (f x).lines ≡ (f x).lines) (own_name ms x h) (k x).own.seen

  own_step : (f : Member C → Moved C) → StepKeeps f → (ms : List (Member C)) (x : Member C) → Holds ms x → Same (steps_member f ms place (Some x)) (goes f x)
  own_step f k ms x h = record {
    state = record {
      own = get_set_same ms place x (with_world x (f x).world) h.own;
      named = map_set_same name_of ms place x (with_world x (f x).world) h.own (ap (λ f. f.name) (k x).fixed) ∙ h.named;
    };
    lines = own_lines f k ms x h;
  }

  -- a step of the partition itself
  pub steps_own : (f : Member C → Moved C) → StepKeeps f → (ms : List (Member C)) (x : Member C) → Holds ms x → Same (steps f ms (suc place)) (goes f x)
  steps_own f k ms x h = subst (λ (o : Option (Member C)). Same (steps_member f ms place o) (goes f x)) (sym h.own) (own_step f k ms x h)

  other_step : (f : Member C → Moved C) → StepKeeps f → (q : ℕ) → q ≢ place → (ms : List (Member C)) (x : Member C) → Holds ms x → (o : Option (Member C)) → slice_get ms q ≡ o → Same (steps_member f ms q o) (still x)
  other_step f k q n ms x h None e = still_same ms x h
  other_step f k q n ms x h (Some y) e = record {
    state = record {
      own = get_set_other ms q place (with_world y (f y).world) n ∙ h.own;
      named = map_set_same name_of ms q y (with_world y (f y).world) e (ap (λ f. f.name) (k y).fixed) ∙ h.named;
    };
    lines = (k y).own.unseen name (other_name ms x h q y n e);
  }

  -- a step of another partition
  pub steps_other : (f : Member C → Moved C) → StepKeeps f → (q : ℕ) → q ≢ suc place → (ms : List (Member C)) (x : Member C) → Holds ms x → Same (steps f ms q) (still x)
  steps_other f k zero n ms x h = still_same ms x h
  steps_other f k (suc q) n ms x h = other_step f k q (λ e. n (ap suc e)) ms x h (slice_get ms q) refl

  -- ---- one after another
  pub then_same : (a : Stepped (List (Member C))) (g : Stepped (Member C)) (p : List (Member C) → Stepped (List (Member C))) (q : Member C → Stepped (Member C))
      → Same a g → ((ms : List (Member C)) (x : Member C) → Holds ms x → Same (p ms) (q x)) → Same (then_goes a p) (then_goes g q)
  then_same a g p q h rest =
      let more = rest a.state g.state h.state in
      record { state = more.state; lines = joined name a.lines (p a.state).lines g.lines (q g.state).lines h.lines more.lines }

  -- a step that does nothing to the partition, followed by another
  pub nothing_then : (at : At) (a : Stepped (List (Member C))) (x : Member C) (p : List (Member C) → Stepped (List (Member C))) (d : Course (Member C))
      → Same a (still x) → ((ms : List (Member C)) → Holds ms x → SamePath (goes_on at (p ms)) d) → SamePath (goes_on at (then_goes a p)) d
  nothing_then at a x p d h rest =
      let more = rest a.state h.state in
      record { at = more.at; state = more.state; lines = joined name a.lines (p a.state).lines [] d.lines h.lines more.lines }

  pub nothing_then_same : (a : Stepped (List (Member C))) (x : Member C) (p : List (Member C) → Stepped (List (Member C))) (g : Stepped (Member C))
      → Same a (still x) → ((ms : List (Member C)) → Holds ms x → Same (p ms) g) → Same (then_goes a p) g
  nothing_then_same a x p g h rest =
      let more = rest a.state h.state in
      record { state = more.state; lines = joined name a.lines (p a.state).lines [] g.lines h.lines more.lines }

  pub then_nothing_same : (a : Stepped (List (Member C))) (g : Stepped (Member C)) (p : List (Member C) → Stepped (List (Member C)))
      → Same a g → ((ms : List (Member C)) (x : Member C) → Holds ms x → Same (p ms) (still x)) → Same (then_goes a p) g
  then_nothing_same a g p h rest =
      let more = rest a.state g.state h.state in
      record { state = more.state; lines = joined name a.lines (p a.state).lines g.lines [] h.lines more.lines ∙ append-nil g.lines }

  pub goes_on_same : (at : At) (a : Stepped (List (Member C))) (g : Stepped (Member C)) → Same a g → SamePath (goes_on at a) (goes_on at g)
  goes_on_same at a g h = record { at = refl; state = h.state; lines = h.lines }

  unless_same : (c : Course (List (Member C))) (d : Course (Member C)) (p : At → List (Member C) → Course (List (Member C))) (q : At → Member C → Course (Member C)) (o : Option At)
      → SamePath c d → c.at ≡ o → ((at : At) → c.at ≡ Some at → SamePath (p at c.state) (q at d.state))
      → SamePath (unless_down c p o) (unless_down d q o)
  unless_same c d p q None h e rest = h
  unless_same c d p q (Some at) h e rest =
      let more = rest at e in
      record { at = more.at; state = more.state; lines = joined name c.lines (p at c.state).lines d.lines (q at d.state).lines h.lines more.lines }

  pub runs_same : (c : Course (List (Member C))) (d : Course (Member C)) (p : At → List (Member C) → Course (List (Member C))) (q : At → Member C → Course (Member C))
      → SamePath c d → ((at : At) → c.at ≡ Some at → SamePath (p at c.state) (q at d.state))
      → SamePath (then_runs c p) (then_runs d q)
  runs_same c d p q h rest =
      subst (λ (o : Option At). SamePath (then_runs c p) (unless_down d q o)) h.at (unless_same c d p q c.at h refl rest)

  -- steps that continue, followed by steps that continue
  pub then_path_at : (at : At) (a : Stepped (List (Member C))) (d : Course (Member C)) (p : List (Member C) → Stepped (List (Member C))) (q : At → Member C → Course (Member C))
      → SamePath (goes_on at a) d → ((x : Member C) → Holds a.state x → SamePath (goes_on at (p a.state)) (q at x))
      → SamePath (goes_on at (then_goes a p)) (then_runs d q)
  then_path_at at a d p q h rest =
      let more = rest d.state h.state in
      subst (λ (o : Option At). SamePath (goes_on at (then_goes a p)) (unless_down d q o)) h.at
      (record { at = more.at; state = more.state; lines = joined name a.lines (p a.state).lines d.lines (q at d.state).lines h.lines more.lines })

  pub then_path : (at : At) (a : Stepped (List (Member C))) (d : Course (Member C)) (p : List (Member C) → Stepped (List (Member C))) (q : At → Member C → Course (Member C))
      → SamePath (goes_on at a) d → ((ms : List (Member C)) (x : Member C) → Holds ms x → SamePath (goes_on at (p ms)) (q at x))
      → SamePath (goes_on at (then_goes a p)) (then_runs d q)
  then_path at a d p q h rest = then_path_at at a d p q h (λ x k. rest a.state x k)

  -- a step, followed by one that does nothing to the partition
  pub then_nothing : (at : At) (a : Stepped (List (Member C))) (d : Course (Member C)) (p : List (Member C) → Stepped (List (Member C)))
      → SamePath (goes_on at a) d → ((ms : List (Member C)) (x : Member C) → Holds ms x → Same (p ms) (still x))
      → SamePath (goes_on at (then_goes a p)) d
  then_nothing at a d p h rest =
      let more = rest a.state d.state h.state in
      record { at = h.at; state = more.state; lines = joined name a.lines (p a.state).lines d.lines [] h.lines more.lines ∙ append-nil d.lines }

  -- ---- the start of all
  none_start : (at : At) (c : StartCondition) (ms : List (Member C)) → ((q : ℕ) (y : Member C) → slice_get ms q ≡ Some y → same name (name_of y) ≡ false) → part name (flat_map (start_lines at c) ms) ≡ []
  none_start at c [] h = refl
  none_start at c (y ∷ ms) h =
      joined name (start_lines at c y) (flat_map (start_lines at c) ms) [] [] ((cold_start_keeps at c y).own.unseen name (h 0 y refl)) (none_start at c ms (λ q z e. h (suc q) z e))

  one_starts : (at : At) (c : StartCondition) (ms : List (Member C)) (p : ℕ) (x : Member C) → slice_get ms p ≡ Some x → part name (start_lines at c x) ≡ start_lines at c x
      → ((q : ℕ) (y : Member C) → q ≢ p → slice_get ms q ≡ Some y → same name (name_of y) ≡ false) → part name (flat_map (start_lines at c) ms) ≡ start_lines at c x
  one_starts at c [] p x e own h = absurd (cc)
  one_starts at c (y ∷ ms) zero x e own h =
      let is : y ≡ x = same_some y x e in
      subst (λ (z : Member C). part name (start_lines at c z ++ flat_map (start_lines at c) ms) ≡ start_lines at c x) (sym is)
      (joined name (start_lines at c x) (flat_map (start_lines at c) ms) (start_lines at c x) [] own (none_start at c ms (λ q z f. h (suc q) z (λ g. absurd (omega arith)) f)) ∙ append-nil (start_lines at c x))
  one_starts at c (y ∷ ms) (suc p) x e own h =
      joined name (start_lines at c y) (flat_map (start_lines at c) ms) [] (start_lines at c x) ((cold_start_keeps at c y).own.unseen name (h 0 y (λ g. absurd (omega arith)) refl)) (one_starts at c ms p x e own (λ q z n f. h (suc q) z (λ g. n (omega arith)) f))

  pub starts_same : (at : At) (c : StartCondition) (ms : List (Member C)) (x : Member C) → Holds ms x → Same (starts_all at c ms) (goes (cold_start at c) x)
  starts_same at c ms x h = record {
    state = record {
      own = slice_get-map (started_member at c) ms place ∙ ap (option_map (started_member at c)) h.own;
      named = map_map_same name_of (started_member at c) (λ y. ap (λ f. f.name) (cold_start_keeps at c y).fixed) ms ∙ h.named;
    };
    lines = one_starts at c ms place x h.own (own_lines (cold_start at c) (cold_start_keeps at c) ms x h) (λ q y n e. other_name ms x h q y n e);
  }
