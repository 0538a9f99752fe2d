-- One input after another, for a partition on its own.
use Rattle.isolation.proofs.Prelude.{◌≡◌, List, ◌∷◌, ◌++◌, Option, Some, None, sym, ◌∙◌, append_assoc, append-nil, ModuleAction, Event, At, Member, Course, Input, still, goes_on, unless_down, then_runs, takes, takes_all}
use Rattle.std.proofs.Common.{[], refl, ap}

module _ {C : Type 0} where
  abbrev path : Option At → Member C → List Event → Course (Member C)
  path at x lines = record { at = at; state = x; lines = lines }

  two_then : (o : Option At) (x : Member C) (es fs : List Event) (q : At → Member C → Course (Member C))
      → then_runs (path o x (es ++ fs)) q ≡ record { at = (then_runs (path o x fs) q).at; state = (then_runs (path o x fs) q).state; lines = es ++ (then_runs (path o x fs) q).lines }
  two_then None x es fs q = refl
  two_then (Some a) x es fs q = ap (λ (ls : List Event). path (q a x).at (q a x).state ls) (append_assoc es fs (q a x).lines)

  assoc_of : (o : Option At) (x : Member C) (es : List Event) (p q : At → Member C → Course (Member C))
      → then_runs (then_runs (path o x es) p) q ≡ then_runs (path o x es) (λ a y. then_runs (p a y) q)
  assoc_of None x es p q = refl
  assoc_of (Some a) x es p q = two_then (p a x).at (p a x).state es (p a x).lines q

  pub runs_assoc : (c : Course (Member C)) (p q : At → Member C → Course (Member C)) → then_runs (then_runs c p) q ≡ then_runs c (λ a y. then_runs (p a y) q)
  runs_assoc c p q = assoc_of c.at c.state c.lines p q

  over_cong : (c : Course (Member C)) (p q : At → Member C → Course (Member C)) (o : Option At) → ((a : At) (y : Member C) → p a y ≡ q a y) → unless_down c p o ≡ unless_down c q o
  over_cong c p q None h = refl
  over_cong c p q (Some a) h = ap (λ (d : Course (Member C)). path d.at d.state (c.lines ++ d.lines)) (h a c.state)

  pub runs_cong : (c : Course (Member C)) (p q : At → Member C → Course (Member C)) → ((a : At) (y : Member C) → p a y ≡ q a y) → then_runs c p ≡ then_runs c q
  runs_cong c p q h = over_cong c p q c.at h

  -- inputs, then more inputs
  pub takes_append : (fault : ModuleAction) (xs ys : List Input) (at : At) (x : Member C)
      → takes_all fault at (xs ++ ys) x ≡ then_runs (takes_all fault at xs x) (λ a y. takes_all fault a ys y)
  takes_append fault [] ys at x = refl
  takes_append fault (i ∷ is) ys at x =
      runs_cong (takes fault at i x) (λ a y. takes_all fault a (is ++ ys) y) (λ a y. then_runs (takes_all fault a is y) (λ b z. takes_all fault b ys z)) (λ a y. takes_append fault is ys a y)
      ∙ sym (runs_assoc (takes fault at i x) (λ a y. takes_all fault a is y) (λ b z. takes_all fault b ys z))

  unit_of : (o : Option At) (x : Member C) (es : List Event) → then_runs (path o x es) (λ a y. goes_on a (still y)) ≡ path o x es
  unit_of None x es = refl
  unit_of (Some a) x es = ap (λ (ls : List Event). path (Some a) x ls) (append-nil es)

  -- a single input
  pub takes_one : (fault : ModuleAction) (i : Input) (at : At) (x : Member C) → takes_all fault at (i ∷ []) x ≡ takes fault at i x
  takes_one fault i at x = let c = takes fault at i x in unit_of c.at c.state c.lines
