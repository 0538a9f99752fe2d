-- What an image has as one of its version: the costs of the second and the third.
use Rattle.std.proofs.Common.{◌≡◌, ℕ, ◌^◌, ◌<◌, Bool, true, false, cond, eqb, List, [], ◌∷◌, ◌++◌, Option, Some, Ok, refl, sym, ap, subst, ◌∙◌, arith}
use Rattle.std.specs.Prelude.{◌||◌, nat_le}
use Rattle.std.specs.Int.{w16}
use Rattle.std.specs.List.{flat_map}
use Rattle.std.proofs.lemmas.Bool.{and_parts, eqb-true, leb-true}
use Rattle.std.proofs.lemmas.Option.{none-some, same_Some}
use Rattle.apex_types.specs.Costs.{cost_if, cost_of_ticks, from_order, in_order, is_cost}
use Rattle.apex_types.specs.declared.cost.TheConstants.{COST_KEYS}
use Rattle.apex_types.specs.Versions.{number_of}
use Rattle.apex_types.proofs.TickCosts.{is_of_ticks}
use Rattle.apex_types.specs.declared.cost.TickCost.{TickCost}
use Rattle.apex_types.specs.declared.cost.Costs.{Costs}
use Rattle.apex_types.specs.declared.limits.TheConstants.{MOST_COST}
use Rattle.apex_types.specs.declared.version.TheConstants.{FIRST_VERSION, SECOND_VERSION, THIRD_VERSION}
use Rattle.apex_types.specs.declared.version.ImageVersion.{ImageVersion}
use Rattle.apex_types.specs.declared.version.ImageVersion.TheVariants.{First, Second, Third}
use Rattle.machine_meaning.specs.ImageSpelling.{u16, costs, own_fields}
use Rattle.machine_meaning.specs.ImageReading.{Read, ◌>>=◌, number_at, chosen, cost_at, costs_at, items_at, own_fields_at}
use Rattle.machine_meaning.specs.ImageLimits.{EachBeside}
use Rattle.machine_laws.proofs.ImageLists.{items_take, items_again}
use Rattle.machine_laws.proofs.ImageFields.{bind_ok, ok_is, Takes, Reads}
use Rattle.machine_laws.proofs.ImageNames.{chosen_ok}
use Rattle.machine_laws.proofs.ImageNumbers.{wide16, number_reads}

abbrev cost : TickCost → List ℕ
cost c = u16 c.ticks

-- a cost that was chosen has the ticks that were read
chosen_if : (rest : List ℕ) (n : ℕ) (is : Bool) (e : is_cost n ≡ is) (x : TickCost × List ℕ) → chosen rest (cost_if n is e) ≡ Ok x → (x.0.ticks ≡ n) × (x.1 ≡ rest)
chosen_if rest n true e x h =
    let i = ok_is (record { ticks = n; within = e }, rest) x h in
    (ap (λ (y : TickCost × List ℕ). y.0.ticks) (sym i), ap (λ (y : TickCost × List ℕ). y.1) (sym i))
chosen_if rest n false e x h = absurd cc

low : (c : TickCost) → c.ticks < 2 ^ 16
low c = omega (arith, leb-true c.ticks MOST_COST (and_parts (nat_le 1 c.ticks) (nat_le c.ticks MOST_COST) c.within).1)

pub cost_reads : Reads cost_at cost (λ _. Unit {0})
unfolding cost_at cost_of_ticks
cost_reads = record {
  takes = λ bytes x fits e.
      let a = bind_ok (number_at w16 bytes) (λ n. chosen n.1 (cost_of_ticks n.0)) x e in
      let p = (number_reads w16 (2 ^ 16) wide16).takes bytes a.0 fits a.1 in
      let is = chosen_if a.0.1 a.0.0 (is_cost a.0.0) refl x a.2 in
      let taken : Takes bytes (u16 x.0.ticks) a.0.1 = subst (λ (n : ℕ). Takes bytes (u16 n) a.0.1) (sym is.0) p.0 in
      (subst (λ (rest : List ℕ). Takes bytes (u16 x.0.ticks) rest) (sym is.1) taken, tt);
  again = λ c rest good.
      ap (λ (y : Read ℕ). y >>= λ n. chosen n.1 (cost_of_ticks n.0)) ((number_reads w16 (2 ^ 16) wide16).again c.ticks rest (low c))
      ∙ ap (λ (o : Option TickCost). chosen rest o) (sym (is_of_ticks c.ticks c.within));
}

-- costs in the order of a table's keys are those that they were taken from
ordered : (xs : List TickCost) (c : Costs) → from_order xs ≡ Some c → in_order c ≡ xs
ordered [] made is = absurd (none-some made is)
ordered (a ∷ []) made is = absurd (none-some made is)
ordered (a ∷ b ∷ []) made is = absurd (none-some made is)
ordered (a ∷ b ∷ c ∷ []) made is = absurd (none-some made is)
ordered (a ∷ b ∷ c ∷ d ∷ []) made is = absurd (none-some made is)
ordered (a ∷ b ∷ c ∷ d ∷ e ∷ []) made is = absurd (none-some made is)
ordered (a ∷ b ∷ c ∷ d ∷ e ∷ f ∷ []) made is = absurd (none-some made is)
ordered (a ∷ b ∷ c ∷ d ∷ e ∷ f ∷ g ∷ []) made is = absurd (none-some made is)
ordered (a ∷ b ∷ c ∷ d ∷ e ∷ f ∷ g ∷ h ∷ []) made is = absurd (none-some made is)
ordered (a ∷ b ∷ c ∷ d ∷ e ∷ f ∷ g ∷ h ∷ i ∷ []) made is = absurd (none-some made is)
ordered (a ∷ b ∷ c ∷ d ∷ e ∷ f ∷ g ∷ h ∷ i ∷ j ∷ []) made is = absurd (none-some made is)
ordered (a ∷ b ∷ c ∷ d ∷ e ∷ f ∷ g ∷ h ∷ i ∷ j ∷ k ∷ []) made is = absurd (none-some made is)
ordered (a ∷ b ∷ c ∷ d ∷ e ∷ f ∷ g ∷ h ∷ i ∷ j ∷ k ∷ l ∷ []) made is = absurd (none-some made is)
ordered (a ∷ b ∷ c ∷ d ∷ e ∷ f ∷ g ∷ h ∷ i ∷ j ∷ k ∷ l ∷ m ∷ []) made is = absurd (none-some made is)
ordered (a ∷ b ∷ c ∷ d ∷ e ∷ f ∷ g ∷ h ∷ i ∷ j ∷ k ∷ l ∷ m ∷ n ∷ []) made is = absurd (none-some made is)
ordered (a ∷ b ∷ c ∷ d ∷ e ∷ f ∷ g ∷ h ∷ i ∷ j ∷ k ∷ l ∷ m ∷ n ∷ o ∷ []) made is = ap in_order (sym (same_Some _ made is))
ordered (a ∷ b ∷ c ∷ d ∷ e ∷ f ∷ g ∷ h ∷ i ∷ j ∷ k ∷ l ∷ m ∷ n ∷ o ∷ p ∷ rest) made is = absurd (none-some made is)

each_there : (before xs : List TickCost) → EachBeside (λ _ _. Unit {0}) before xs
each_there before [] = tt
each_there before (x ∷ xs) = (tt, each_there (before ++ x ∷ []) xs)

pub costs_reads : Reads costs_at costs (λ _. Unit {0})
unfolding costs_at costs
costs_reads = record {
  takes = λ bytes x fits e.
      let a = bind_ok (items_at (λ _. cost_at) COST_KEYS [] bytes) (λ y. chosen y.1 (from_order y.0)) x e in
      let q = items_take (λ _. cost_at) cost (λ _ _. Unit {0}) (λ _. cost_reads) COST_KEYS [] bytes a.0 fits a.1 in
      let is = chosen_ok a.0.1 (from_order a.0.0) x a.2 in
      let same : q.new ≡ in_order x.0 = sym q.all_is ∙ sym (ordered a.0.0 x.0 is.0) in
      let taken : Takes bytes (flat_map cost (in_order x.0)) a.0.1 = subst (λ (y : List TickCost). Takes bytes (flat_map cost y) a.0.1) same q.taken in
      (subst (λ (rest : List ℕ). Takes bytes (flat_map cost (in_order x.0)) rest) is.1 taken, tt);
  again = λ c rest good.
      ap (λ (y : Read (List TickCost)). y >>= λ z. chosen z.1 (from_order z.0)) (items_again (λ _. cost_at) cost (λ _ _. Unit {0}) (λ _. cost_reads) (in_order c) [] rest (each_there [] (in_order c)));
}

-- what the version with a number has
abbrev IsNumbered : ℕ → ImageVersion → Type 0
IsNumbered number version = number_of version ≡ number

second_reads : Reads (λ bytes. costs_at bytes >>= λ c. Ok (Second c.0, c.1)) own_fields (IsNumbered SECOND_VERSION)
unfolding own_fields
second_reads = record {
  takes = λ bytes x fits e.
      let a = bind_ok (costs_at bytes) (λ c. Ok (Second c.0, c.1)) x e in
      let p = costs_reads.takes bytes a.0 fits a.1 in
      let i = ok_is (Second a.0.0, a.0.1) x a.2 in
      subst (λ (y : ImageVersion × List ℕ). Takes bytes (own_fields y.0) y.1 × IsNumbered SECOND_VERSION y.0) i (p.0, refl);
  again = elim [
    | First ↦ λ rest good. absurd (omega (arith, good))
    | Second c ↦ λ rest good. ap (λ (y : Read Costs). y >>= λ c. Ok (Second c.0, c.1)) (costs_reads.again c rest tt)
    | Third c ↦ λ rest good. absurd (omega (arith, good))
  ];
}

third_reads : Reads (λ bytes. costs_at bytes >>= λ c. Ok (Third c.0, c.1)) own_fields (IsNumbered THIRD_VERSION)
unfolding own_fields
third_reads = record {
  takes = λ bytes x fits e.
      let a = bind_ok (costs_at bytes) (λ c. Ok (Third c.0, c.1)) x e in
      let p = costs_reads.takes bytes a.0 fits a.1 in
      let i = ok_is (Third a.0.0, a.0.1) x a.2 in
      subst (λ (y : ImageVersion × List ℕ). Takes bytes (own_fields y.0) y.1 × IsNumbered THIRD_VERSION y.0) i (p.0, refl);
  again = elim [
    | First ↦ λ rest good. absurd (omega (arith, good))
    | Second c ↦ λ rest good. absurd (omega (arith, good))
    | Third c ↦ λ rest good. ap (λ (y : Read Costs). y >>= λ c. Ok (Third c.0, c.1)) (costs_reads.again c rest tt)
  ];
}

first_reads : Reads (λ bytes. Ok (First, bytes)) own_fields (IsNumbered FIRST_VERSION)
unfolding own_fields
first_reads = record {
  takes = λ bytes x fits e.
      let i = ok_is (First, bytes) x e in
      subst (λ (y : ImageVersion × List ℕ). Takes bytes (own_fields y.0) y.1 × IsNumbered FIRST_VERSION y.0) i (record { parts = refl; rest_fits = fits }, refl);
  again = elim [
    | First ↦ λ rest good. refl
    | Second c ↦ λ rest good. absurd (omega (arith, good))
    | Third c ↦ λ rest good. absurd (omega (arith, good))
  ];
}

abbrev pub is_version : ℕ → Bool
is_version n = eqb n FIRST_VERSION || eqb n SECOND_VERSION || eqb n THIRD_VERSION

at_first : (number : ℕ) → number ≡ FIRST_VERSION → Reads (own_fields_at number) own_fields (IsNumbered number)
unfolding own_fields_at
at_first number is = subst (λ (n : ℕ). Reads (own_fields_at n) own_fields (IsNumbered n)) (sym is) first_reads

at_second : (number : ℕ) → number ≡ SECOND_VERSION → Reads (own_fields_at number) own_fields (IsNumbered number)
unfolding own_fields_at
at_second number is = subst (λ (n : ℕ). Reads (own_fields_at n) own_fields (IsNumbered n)) (sym is) second_reads

at_third : (number : ℕ) → number ≡ THIRD_VERSION → Reads (own_fields_at number) own_fields (IsNumbered number)
unfolding own_fields_at
at_third number is = subst (λ (n : ℕ). Reads (own_fields_at n) own_fields (IsNumbered n)) (sym is) third_reads

pub own_fields_reads : (number : ℕ) → is_version number ≡ true → Reads (own_fields_at number) own_fields (IsNumbered number)
own_fields_reads number known = either (eqb number FIRST_VERSION) (eqb number SECOND_VERSION) (eqb number THIRD_VERSION) refl refl refl known
  where
    either : (a b c : Bool) → eqb number FIRST_VERSION ≡ a → eqb number SECOND_VERSION ≡ b → eqb number THIRD_VERSION ≡ c → (a || b || c) ≡ true → Reads (own_fields_at number) own_fields (IsNumbered number)
    either true b c e f g h = at_first number (eqb-true number FIRST_VERSION e)
    either false true c e f g h = at_second number (eqb-true number SECOND_VERSION f)
    either false false true e f g h = at_third number (eqb-true number THIRD_VERSION g)
    either false false false e f g h = absurd cc

pub numbered_known : (version : ImageVersion) → is_version (number_of version) ≡ true
numbered_known First = refl
numbered_known (Second c) = refl
numbered_known (Third c) = refl
