-- Partitions with their parts of the memory, one after the other.
use Rattle.module.proofs.Prelude.{◌≡◌, ◌≢◌, ◌≤◌, ℕ, zero, suc, List, ◌∷◌, ◌++◌, length, Option, Some, None, map, refl, ap, sym, ◌∙◌, arith, slice_get, slice_set, option_map, length-map, map-append, none-some, same_Some, Kernel, of_member, ports_of, steps_member, Member, Moved, member_of, Ghosts, members_of, AreFitting, Sent, IsMade}
use Rattle.std.proofs.Common.{[], subst}
use Rattle.std.proofs.lemmas.List.{length-set, map-set}
use Rattle.apex_types.specs.declared.limits.TheConstants.{MOST_PARTITIONS}
use Rattle.isolation.specs.Alone.{goes}
use Rattle.partition.specs.declared.partition.Partition.{Partition}
use Rattle.module.specs.Members.{layout_in}

pub get_other : {A : Type 0} (xs : List A) (n q : ℕ) (x : A) → q ≢ n → slice_get (slice_set xs n x) q ≡ slice_get xs q
get_other [] zero q x h = refl
get_other [] (suc n) q x h = refl
get_other (a ∷ xs) zero zero x h = absurd (h refl)
get_other (a ∷ xs) zero (suc q) x h = refl
get_other (a ∷ xs) (suc n) zero x h = refl
get_other (a ∷ xs) (suc n) (suc q) x h = get_other xs n q x (λ e. h (ap suc e))

pub ruleset others = (get_other, length-set)

pub few_set : {A : Type 0} (xs : List A) (n : ℕ) (x : A) → length xs ≤ MOST_PARTITIONS → length (slice_set xs n x) ≤ MOST_PARTITIONS
few_set xs n x h = subst (λ (k : ℕ). k ≤ MOST_PARTITIONS) (sym (length-set xs n x)) h

-- the view of a partition's ports is part of the view of its kernel
pub ports_seen : {C : Type 0} (o : Option (Member C)) (k : Kernel) → Some k ≡ option_map (λ (x : Member C). x.world.kernel) o → of_member [] ports_of o ≡ k.ports.ports
ports_seen None k e = absurd (none-some k (sym e))
ports_seen (Some x) k e = ap (λ (k : Kernel). k.ports.ports) (sym (same_Some k x.world.kernel e))

pub none_seen : {C : Type 0} (o : Option (Member C)) → None ≡ option_map (λ (x : Member C). x.world.kernel) o → of_member [] ports_of o ≡ []
none_seen None e = refl
none_seen (Some x) e = absurd (none-some x.world.kernel e)

pub ruleset seen = (ports_seen, none_seen)

module _ {E X : Type 0} (g : Ghosts E X) where
  pub same_length : (ps : List (Partition E X)) (ss : List X) → AreFitting g ps ss → length ps ≡ length ss
  same_length ps ss h = sym (length-map ps (layout_in g)) ∙ ap length (sym h) ∙ length-map ss g.laid

  count : (ps : List (Partition E X)) (ss : List X) → length ps ≡ length ss → length (members_of g ps ss) ≡ length ps
  count [] ss h = refl
  count (p ∷ ps) [] h = absurd (omega (arith, h))
  count (p ∷ ps) (s ∷ ss) h = ap suc (count ps ss (omega (arith, h)))

  pub members_count : (ps : List (Partition E X)) (ss : List X) → AreFitting g ps ss → length (members_of g ps ss) ≡ length ps
  members_count ps ss h = count ps ss (same_length ps ss h)

  pub fit_at : (ps : List (Partition E X)) (ss : List X) (n : ℕ) (p : Partition E X) (s : X) → AreFitting g ps ss → slice_get ps n ≡ Some p → slice_get ss n ≡ Some s → g.laid s ≡ g.layout p.executor
  fit_at [] ss n p s h e f = absurd (none-some p e)
  fit_at (q ∷ ps) [] n p s h e f = absurd (none-some s f)
  fit_at (q ∷ ps) (t ∷ ss) zero p s h e f =
      let here : g.laid t ≡ layout_in g q = cc in
      ap g.laid (sym (same_Some t s f)) ∙ here ∙ ap (layout_in g) (same_Some q p e)
  fit_at (q ∷ ps) (t ∷ ss) (suc n) p s h e f =
      let rest : map g.laid ss ≡ map (layout_in g) ps = cc in
      fit_at ps ss n p s rest e f

  pub fit_set : (ps : List (Partition E X)) (ss : List X) (n : ℕ) (p : Partition E X) (s : X) → AreFitting g ps ss → g.laid s ≡ g.layout p.executor → AreFitting g (slice_set ps n p) (slice_set ss n s)
  fit_set ps ss n p s h e =
      map-set g.laid ss n s
      ∙ ap (λ l. slice_set l n (g.laid s)) h
      ∙ ap (λ k. slice_set (map (layout_in g) ps) n k) e
      ∙ sym (map-set (layout_in g) ps n p)

  pub get_member : (ps : List (Partition E X)) (ss : List X) (n : ℕ) (p : Partition E X) (s : X) → slice_get ps n ≡ Some p → slice_get ss n ≡ Some s → slice_get (members_of g ps ss) n ≡ Some (member_of g p s)
  get_member [] ss n p s e f = absurd (none-some p e)
  get_member (q ∷ ps) [] n p s e f = absurd (none-some s f)
  get_member (q ∷ ps) (t ∷ ss) zero p s e f = ap (λ (r : Partition E X). Some (member_of g r t)) (same_Some q p e) ∙ ap (λ (x : X). Some (member_of g p x)) (same_Some t s f)
  get_member (q ∷ ps) (t ∷ ss) (suc n) p s e f = get_member ps ss n p s e f

  pub set_member : (ps : List (Partition E X)) (ss : List X) (n : ℕ) (p : Partition E X) (s : X) → members_of g (slice_set ps n p) (slice_set ss n s) ≡ slice_set (members_of g ps ss) n (member_of g p s)
  set_member [] ss zero p s = refl
  set_member [] ss (suc n) p s = refl
  set_member (q ∷ ps) [] zero p s = refl
  set_member (q ∷ ps) [] (suc n) p s = refl
  set_member (q ∷ ps) (t ∷ ss) zero p s = refl
  set_member (q ∷ ps) (t ∷ ss) (suc n) p s = ap (λ l. member_of g q t ∷ l) (set_member ps ss n p s)

  -- a step of the partition at a place, on its own part of the memory, is one among the others
  pub made_at : (ps : List (Partition E X)) (ss : List X) (n : ℕ) (p q : Partition E X) (s t : X) (step : Member g.Control → Moved g.Control) (old new : Sent)
      → slice_get ps n ≡ Some p → slice_get ss n ≡ Some s → IsMade (goes step (member_of g p s)) (member_of g q t) old new
      → IsMade (steps_member step (members_of g ps ss) n (slice_get (members_of g ps ss) n)) (members_of g (slice_set ps n q) (slice_set ss n t)) old new
  made_at ps ss n p q s t step old new e f made =
      let ms = members_of g ps ss in
      subst (λ (o : Option (Member g.Control)). IsMade (steps_member step ms n o) (members_of g (slice_set ps n q) (slice_set ss n t)) old new) (sym (get_member ps ss n p s e f))
      (record { state = set_member ps ss n q t ∙ ap (λ x. slice_set ms n x) made.state; sent = made.sent })

  pub no_member : (ps : List (Partition E X)) (ss : List X) (n : ℕ) → length ps ≤ n → slice_get (members_of g ps ss) n ≡ None
  no_member [] ss n h = refl
  no_member (q ∷ ps) [] n h = refl
  no_member (q ∷ ps) (t ∷ ss) zero h = absurd (omega (arith, h))
  no_member (q ∷ ps) (t ∷ ss) (suc n) h = no_member ps ss n (omega (arith, h))

  kernel_at : (ps : List (Partition E X)) (ss : List X) (n : ℕ) → length ps ≡ length ss → option_map (λ (x : Member g.Control). x.world.kernel) (slice_get (members_of g ps ss) n) ≡ option_map (λ (p : Partition E X). p.kernel) (slice_get ps n)
  kernel_at [] ss n h = refl
  kernel_at (q ∷ ps) [] n h = absurd (omega (arith, h))
  kernel_at (q ∷ ps) (t ∷ ss) zero h = refl
  kernel_at (q ∷ ps) (t ∷ ss) (suc n) h = kernel_at ps ss n (omega (arith, h))

  pub kernel_there : (ps : List (Partition E X)) (ss : List X) (n : ℕ) (p : Partition E X) → AreFitting g ps ss → slice_get ps n ≡ Some p → Some p.kernel ≡ option_map (λ (x : Member g.Control). x.world.kernel) (slice_get (members_of g ps ss) n)
  kernel_there ps ss n p fit e = sym (kernel_at ps ss n (same_length ps ss fit) ∙ ap (λ (o : Option (Partition E X)). option_map (λ (p : Partition E X). p.kernel) o) e)

  behind_all : (ps : List (Partition E X)) (ss : List X) (p : Partition E X) (s : X) → length ps ≡ length ss → members_of g (ps ++ p ∷ []) (ss ++ s ∷ []) ≡ members_of g ps ss ++ member_of g p s ∷ []
  behind_all [] [] p s h = refl
  behind_all [] (t ∷ ss) p s h = absurd (omega (arith, h))
  behind_all (q ∷ ps) [] p s h = absurd (omega (arith, h))
  behind_all (q ∷ ps) (t ∷ ss) p s h = ap (λ l. member_of g q t ∷ l) (behind_all ps ss p s (omega (arith, h)))

  pub one_more_member : (ps : List (Partition E X)) (ss : List X) (p : Partition E X) (s : X) → AreFitting g ps ss → members_of g (ps ++ p ∷ []) (ss ++ s ∷ []) ≡ members_of g ps ss ++ member_of g p s ∷ []
  one_more_member ps ss p s h = behind_all ps ss p s (same_length ps ss h)

  pub one_more_fits : (ps : List (Partition E X)) (ss : List X) (p : Partition E X) (s : X) → AreFitting g ps ss → g.laid s ≡ g.layout p.executor → AreFitting g (ps ++ p ∷ []) (ss ++ s ∷ [])
  one_more_fits ps ss p s h e =
      map-append g.laid ss (s ∷ [])
      ∙ ap (λ l. l ++ g.laid s ∷ []) h
      ∙ ap (λ k. map (layout_in g) ps ++ k ∷ []) e
      ∙ sym (map-append (layout_in g) ps (p ∷ []))
