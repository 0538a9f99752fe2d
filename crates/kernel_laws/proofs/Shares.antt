-- Steps of the processes with what they share continue the numbers.
use Rattle.kernel_laws.proofs.Prelude.{Bool, List, None, Option, Some, false, refl, subst, suc, true, zero, ℕ, ℤ, ◌∷◌, ◌≡◌, none-some, same_Some, if◌then◌else◌, is_some, negsuc, not, pos, slice_get, slice_set, ArrayVec, Discipline, Mode, ReturnCode, ListKey, Runner, ArrayPlace, Service, numbered_in, Processes, is_normal, Sharing, becomes, refuses, has, Step, after, lifted, nothing, row, fills, writes, Goes, May}
use Rattle.std.proofs.Common.{[]}
use Rattle.std.specs.Prelude.{map}
use Rattle.apex_types.specs.declared.codes.ReturnCode.TheVariants as code
use Rattle.kernel_meaning.specs.Objects.{placed}
use Rattle.kernel_meaning.specs.Sharing.{of_processes, answers, on, create, get_id, get_status}
use Rattle.kernel_laws.specs.Numbers.{EachAt}
use Rattle.kernel_laws.proofs.NumberSteps.{Named, nothing_goes, after_goes, fills_goes, answer_goes, refuse_goes}

-- ---- lists of objects

each_set : {X : Type 0} (is : ℕ → X → Type 0) (xs : List X) (i : ℕ) (y : X) → EachAt is xs → is i y → EachAt is (slice_set xs i y)
each_set is [] zero y h k = h
each_set is [] (suc i) y h k = h
each_set {X = X} is (x ∷ xs) zero y h k = first
  where
    first : (place : ℕ) (z : X) → slice_get (y ∷ xs) place ≡ Some z → is place z
    first zero z e = subst (is 0) (same_Some y z e) k
    first (suc place) z e = h (suc place) z e
each_set {X = X} is (x ∷ xs) (suc i) y h k = later (each_set (λ j. is (suc j)) xs i y (λ j. h (suc j)) k)
  where
    later : EachAt (λ j. is (suc j)) (slice_set xs i y) → (place : ℕ) (z : X) → slice_get (x ∷ slice_set xs i y) place ≡ Some z → is place z
    later rest zero z e = h 0 z e
    later rest (suc place) z e = rest place z e

pub each_put : {X : Type 0} (is : ℕ → X → Type 0) (xs : List X) (i : ℕ) (y : X) → EachAt is xs → is i y → EachAt is (slice_set xs i y)
each_put is xs i y h k = each_set is xs i y h k

pub each_map : {X : Type 0} (is : ℕ → X → Type 0) (f : X → X) → ((place : ℕ) (x : X) → is place x → is place (f x)) → (xs : List X) → EachAt is xs → EachAt is (map f xs)
each_map is f keeps [] h = h
each_map {X = X} is f keeps (x ∷ xs) h = at (each_map (λ j. is (suc j)) f (λ j. keeps (suc j)) xs (λ j. h (suc j)))
  where
    at : EachAt (λ j. is (suc j)) (map f xs) → (place : ℕ) (z : X) → slice_get (map f (x ∷ xs)) place ≡ Some z → is place z
    at rest zero z e = subst (is 0) (same_Some (f x) z e) (keeps 0 x (h 0 x refl))
    at rest (suc place) z e = rest place z e

placed_is : {X : Type 0} (is : ℕ → X → Type 0) (place : ℕ) (o : Option X) (f : ℕ × X) → ((x : X) → o ≡ Some x → is place x) → placed place o ≡ Some f → is f.0 f.1
placed_is is place None f h e = absurd (none-some f e)
placed_is {X = X} is place (Some x) f h e = subst (λ (g : ℕ × X). is g.0 g.1) (same_Some (place, x) f e) (h x refl)

pub numbered_is : {X : Type 0} (is : ℕ → X → Type 0) (xs : List X) (id : ℤ) (f : ℕ × X) → EachAt is xs → numbered_in xs id ≡ Some f → is f.0 f.1
numbered_is is xs (pos zero) f h e = absurd (none-some f e)
numbered_is is xs (pos (suc n)) f h e = placed_is is n (slice_get xs n) f (h n) e
numbered_is is xs (negsuc n) f h e = absurd (none-some f e)

-- ---- steps

module _ (d : ListKey → Discipline) (names : List (List ℕ)) (O : Type 0) (Fit : O → Type 0) where
  pub record Shares (may : May) (b : Sharing O) (t : Step (Sharing O)) : Type 0 where
    pub goes : Goes d names may b.processes (lifted (λ (x : Sharing O). x.processes) t)
    pub fit : Fit t.part.shared

  -- the premises of a step
  pub record IsSet (b : Sharing O) : Type 0 where
    pub named : Named d names b.processes
    pub fit : Fit b.shared

  pub of_shares : (may : May) (b : Sharing O) (s : Step Processes) → IsSet b → Goes d names may b.processes s → Shares may b (of_processes b s)
  of_shares may b s h g = record { goes = g; fit = h.fit }

  pub becomes_shares : (may : May) (b : Sharing O) (o : O) → IsSet b → Fit o → Shares may b (becomes b o)
  becomes_shares may b o h k = record { goes = nothing_goes d names may b.processes h.named; fit = k }

  pub nothing_shares : (may : May) (b : Sharing O) → IsSet b → Shares may b (nothing b)
  nothing_shares may b h = record { goes = nothing_goes d names may b.processes h.named; fit = h.fit }

  pub fills_shares : (may : May) (b : Sharing O) (o : Option ArrayPlace) (m : ArrayVec ℤ) → IsSet b → Shares may b (fills b o m)
  fills_shares may b o m h = record { goes = fills_goes d names may b.processes (writes o m) h.named; fit = h.fit }

  pub answers_shares : (may : May) (b : Sharing O) (p : Runner) (v : Service) (c : ReturnCode) (outputs : List ℤ) → IsSet b → Shares may b (answers b p v c outputs)
  answers_shares may b p v c outputs h = record { goes = answer_goes d names may b.processes p v c outputs h.named; fit = h.fit }

  pub refuses_shares : (may : May) (b : Sharing O) (p : Runner) (v : Service) → IsSet b → (c : ReturnCode) → Shares may b (refuses b p v c)
  refuses_shares may b p v h c = record { goes = refuse_goes d names may b.processes p v h.named c; fit = h.fit }

  pub either_shares : (may : May) (b : Sharing O) (test : Bool) (t u : Step (Sharing O)) → Shares may b t → Shares may b u → Shares may b (if test then t else u)
  either_shares may b true t u h k = h
  either_shares may b false t u h k = k

  pub row_shares : (may : May) (b : Sharing O) (refused : ReturnCode → Step (Sharing O)) (checks : List (Bool × ReturnCode)) (effect : Step (Sharing O))
      → ((c : ReturnCode) → Shares may b (refused c)) → Shares may b effect → Shares may b (row refused checks effect)
  row_shares may b refused [] effect h k = k
  row_shares may b refused (check ∷ checks) effect h k = either_shares may b check.0 (refused check.1) (row refused checks effect) (h check.1) (row_shares may b refused checks effect h k)

  pub after_shares : (may : May) (b : Sharing O) (t u : Step (Sharing O)) → Shares may b t → (IsSet t.part → Shares may t.part u) → Shares may b (after t u)
  after_shares may b t u h k =
      let g = k (record { named = h.goes.named; fit = h.fit }) in
      record { goes = after_goes d names may b.processes (lifted (λ (x : Sharing O). x.processes) t) (lifted (λ (x : Sharing O). x.processes) u) h.goes (λ n. g.goes); fit = g.fit }

  pub on_shares : {X : Type 0} (may : May) (b : Sharing O) (o : Option (ℕ × X)) (step : ℕ → X → Step (Sharing O)) → IsSet b → ((f : ℕ × X) → o ≡ Some f → Shares may b (step f.0 f.1))
      → Shares may b (on o b step)
  on_shares may b None step h k = nothing_shares may b h
  on_shares may b (Some f) step h k = k f refl

  pub create_shares : {X : Type 0} (may : May) (m : Mode) (b : Sharing O) (p : Runner) (v : Service) (name : ℤ) (o : Option (ℕ × X)) (is_created : X → Bool) (creates : ℕ → X → Step (Sharing O)) → IsSet b → ((f : ℕ × X) → o ≡ Some f → Shares may b (creates f.0 f.1)) → Shares may b (create m b p v name o is_created creates)
  create_shares may m b p v name o is_created creates h k =
      row_shares may b (refuses b p v) ((is_normal m, code.InvalidMode) ∷ (not (is_some o), code.InvalidConfig) ∷ (has o is_created, code.NoAction) ∷ []) _ (refuses_shares may b p v h)
      (after_shares may b (answers b p v code.NoError (name ∷ [])) (on o b creates) (answers_shares may b p v code.NoError (name ∷ []) h) (λ g. on_shares may b o creates h k))

  pub get_id_shares : {X : Type 0} (may : May) (b : Sharing O) (p : Runner) (v : Service) (name : ℤ) (o : Option (ℕ × X)) (is_created : X → Bool) → IsSet b
      → Shares may b (get_id b p v name o is_created)
  get_id_shares may b p v name o is_created h =
      row_shares may b (refuses b p v) ((not (has o is_created), code.InvalidConfig) ∷ []) _ (refuses_shares may b p v h) (answers_shares may b p v code.NoError (name ∷ []) h)

  pub get_status_shares : {X : Type 0} (may : May) (b : Sharing O) (p : Runner) (v : Service) (o : Option (ℕ × X)) (is_created : X → Bool) (values : ℕ → X → List ℤ) → IsSet b
      → Shares may b (get_status b p v o is_created values)
  get_status_shares may b p v o is_created values h =
      row_shares may b (refuses b p v) ((not (has o is_created), code.InvalidParam) ∷ []) _ (refuses_shares may b p v h)
      (on_shares may b o (λ place x. answers b p v code.NoError (values place x)) h (λ f e. answers_shares may b p v code.NoError (values f.0 f.1) h))
