-- Where it is found that nothing creates a process, no call of the program creates it.
use Rattle.std.proofs.Common.{◌≡◌, ◌≢◌, ℕ, zero, suc, ◌+◌, ◌<◌, pos, Bool, true, false, nat_abs, nat_le, List, [], ◌∷◌, ◌++◌, map, Option, Some, None, refl, sym, ap, ◌∙◌, subst, arith, inl, inr}
use Rattle.std.specs.Prelude.{◌&&◌, bytes_eq, if◌then◌else◌, is_some, option_map, slice_get, unwrap_or}
use Rattle.std.specs.List.{list_all, list_any, AllByRecursion}
use Rattle.std.proofs.lemmas.Bool.{and_parts, cases_lt, false≢true}
use Rattle.std.proofs.lemmas.Option.{none-some, same_Some, slice_get-map}
use Rattle.std.proofs.lemmas.Slice.Eq.{bytes_eq-Decides}
use Rattle.apex_types.specs.ServiceShape.{arguments_of}
use Rattle.apex_types.specs.declared.denotation.Denotation.{Denotation}
use Rattle.apex_types.specs.declared.denotation.Denotation.TheVariants as denotation
use Rattle.apex_types.specs.declared.denotation.ObjectKind.TheVariants as object
use Rattle.apex_types.specs.declared.limits.TheConstants.{MOST_PROCESSES}
use Rattle.apex_types.specs.declared.row.PortRow.{PortRow}
use Rattle.apex_types.specs.declared.service.Service.TheVariants as service
use Rattle.module_meaning.specs.Table.{at_number}
use Rattle.pal_meaning.specs.Program as program
use Rattle.pal_meaning.specs.Resolve.{Counts, after, counted, next, Entry, declaration_entries, declared_entries, declared_meaning, find, no_counts, object_number_of, or_else, own_entries, process_entries, resolve, resolve_arguments, resolve_process, resolve_stack_body}
use Rattle.pal_meaning.specs.Syntax as written
use Rattle.pal_meaning.specs.WellFormed.{are_new, fits_arguments, holds_of_handler, holds_of_procedure, is_object, kinds_hold, kinds_hold_in_body, names_hold}
use Rattle.lint.specs.Calls.{Call, all_calls, calls_of, calls_of_handler, calls_of_init, calls_of_processes, calls_of_procedures, done_in}
use Rattle.lint.specs.Plain.{first_of, plains}
use Rattle.lint.specs.Uses.{Created, id_of}
use Rattle.lint.specs.Uses as uses
use Rattle.lint.specs.Lives.{Creation, meets}
use Rattle.lint_laws.specs.Creation.{HandlerFits, IsNot, IsProcess, NeverCreates, creates_process}
use Rattle.lint_laws.specs.Numbers.{BlockFits, IsNumber}
use Rattle.kernel_laws.proofs.Places.{mapped}
use Rattle.kernel_laws.proofs.SourceNames.{AreNew, new_behind, new_rest}
use Rattle.lint_laws.proofs.Sources.{AtCalls, scope_with, none_of_both, body_fits, procedures_fit}

-- ---- names

turned : (a b : List ℕ) → bytes_eq a b ≡ false → bytes_eq b a ≡ false
turned a b h = by_test (bytes_eq b a) refl
  where
    by_test : (t : Bool) → bytes_eq b a ≡ t → bytes_eq b a ≡ false
    by_test true e = absurd (false≢true (sym h ∙ (bytes_eq-Decides a b).1 (sym ((bytes_eq-Decides b a).0 e))))
    by_test false e = e

-- ---- the meaning of a name that is a process's

abbrev IsOfProcess : Option Denotation → Type 0
IsOfProcess o = is_object object.Process o ≡ true

-- it is no parameter and no local
not_scalar : (b : Bool) (m : Denotation) (rest other : Option Denotation) → is_object object.Process (Some m) ≡ false → (IsOfProcess (or_else rest other) → or_else rest other ≡ other)
    → IsOfProcess (or_else (if b then Some m else rest) other) → or_else (if b then Some m else rest) other ≡ other
not_scalar true m rest other none k h = absurd (false≢true (sym none ∙ h))
not_scalar false m rest other none k h = k h

not_own : (x : List ℕ) (other : Option Denotation) (place : ℕ) (names : List (List ℕ)) → IsOfProcess (or_else (find x (own_entries place names)) other) → or_else (find x (own_entries place names)) other ≡ other
not_own x other place [] h = refl
not_own x other place (n ∷ ns) h = not_scalar (bytes_eq n x) _ (find x (own_entries (place + 1) ns)) other refl (not_own x other (place + 1) ns) h

-- it is no declaration
not_first : (b : Bool) (m : Denotation) (rest other : Option Denotation) → is_object object.Process (Some m) ≡ false → (IsOfProcess rest → rest ≡ other) → IsOfProcess (if b then Some m else rest) → (if b then Some m else rest) ≡ other
not_first true m rest other none k h = absurd (false≢true (sym none ∙ h))
not_first false m rest other none k h = k h

declared_not : (ports : List PortRow) (c : Counts) (name : List ℕ) (k : written.Kind) → is_object object.Process (Some (declared_meaning ports c name k)) ≡ false
declared_not ports c name (written.Variable value) = refl
declared_not ports c name (written.Array size values) = refl
declared_not ports c name (written.Semaphore first maximum discipline) = refl
declared_not ports c name written.Event = refl
declared_not ports c name (written.Buffer words messages discipline) = refl
declared_not ports c name (written.Blackboard words) = refl
declared_not ports c name written.Port = refl
declared_not ports c name (written.Procedure parameters body) = refl

not_declared : (ports : List PortRow) (x : List ℕ) (es : List Entry) (c : Counts) (ds : List written.Declaration) → IsOfProcess (find x (declaration_entries ports c ds ++ es)) → find x (declaration_entries ports c ds ++ es) ≡ find x es
not_declared ports x es c [] h = refl
not_declared ports x es c (d ∷ ds) h =
    not_first (bytes_eq d.name x) _ (find x (declaration_entries ports (unwrap_or (after c d.kind) c) ds ++ es)) (find x es) (declared_not ports c d.name d.kind) (not_declared ports x es (unwrap_or (after c d.kind) c) ds) h

-- the number that a name means among entries
abbrev number_in : List ℕ → List Entry → ℕ
number_in x es = object_number_of (find x es)

is_either : (b : Bool) (k : ℕ) (rest : Option Denotation) (m : ℕ) → k ≡ m → object_number_of rest ≡ m → object_number_of (if b then Some (denotation.Object object.Process k) else rest) ≡ m
is_either true k rest m h l = h
is_either false k rest m h l = l

is_neither : (b : Bool) (k : ℕ) (rest : Option Denotation) (m : ℕ) → (b ≡ true → k ≢ m) → object_number_of rest ≢ m → object_number_of (if b then Some (denotation.Object object.Process k) else rest) ≢ m
is_neither true k rest m h l = h refl
is_neither false k rest m h l = l

-- beyond the greatest number of processes all numbers are 0
no_more : (x : List ℕ) (count : ℕ) → nat_le (1 + count) MOST_PROCESSES ≡ false → (ps : List written.Process) → number_in x (process_entries count ps) ≡ 0
no_more x count full [] = refl
no_more x count full (p ∷ ps) =
    let none : counted MOST_PROCESSES count 1 ≡ None = ap (λ (b : Bool). if b then Some (1 + count) else None) full in
    is_either (bytes_eq p.name x) (next MOST_PROCESSES count) _ 0 (ap (λ (o : Option ℕ). unwrap_or o 0) none)
    (subst (λ (o : Option ℕ). number_in x (process_entries (unwrap_or o count) ps) ≡ 0) (sym none) (no_more x count full ps))

-- of processes that are numbered after a count, the one with a number does not have this name
abbrev HasOther : List ℕ → ℕ → ℕ → List written.Process → Type 0
HasOther x m count ps = (i : ℕ) (p : written.Process) → slice_get ps i ≡ Some p → m ≡ suc (count + i) → bytes_eq p.name x ≡ false

-- so the name does not mean this number
other_number : (x : List ℕ) (m : ℕ) → m ≢ 0 → (count : ℕ) (ps : List written.Process) → HasOther x m count ps → number_in x (process_entries count ps) ≢ m
other_number x m some count [] h = λ e. some (sym e)
other_number x m some count (p ∷ ps) h = by_test (nat_le (1 + count) MOST_PROCESSES) refl (λ k. other_number x m some (1 + count) ps k)
  where
    later : HasOther x m (1 + count) ps
    later i r e k = h (suc i) r e (omega (arith, k))

    by_test : (b : Bool) → nat_le (1 + count) MOST_PROCESSES ≡ b → (HasOther x m (1 + count) ps → number_in x (process_entries (1 + count) ps) ≢ m) → number_in x (process_entries count (p ∷ ps)) ≢ m
    by_test false t rest = λ e. some (sym e ∙ no_more x count t (p ∷ ps))
    by_test true t rest =
        let one : counted MOST_PROCESSES count 1 ≡ Some (1 + count) = ap (λ (b : Bool). if b then Some (1 + count) else None) t in
        let number : next MOST_PROCESSES count ≡ 1 + count = ap (λ (o : Option ℕ). unwrap_or o 0) one in
        is_neither (bytes_eq p.name x) (next MOST_PROCESSES count) _ m (λ same e. false≢true (sym (h 0 p refl (let k : m ≡ 1 + count = sym e ∙ number in omega (arith, k))) ∙ same))
        (subst (λ (o : Option ℕ). number_in x (process_entries (unwrap_or o count) ps) ≢ m) (sym one) (rest later))

-- ---- names that differ

find_front : (x : List ℕ) (xs ys : List Entry) → is_some (find x (xs ++ ys)) ≡ false → is_some (find x xs) ≡ false
find_front x [] ys h = refl
find_front x (e ∷ xs) ys h = by_test (bytes_eq e.name x) h (find_front x xs ys)
  where
    by_test : (b : Bool) → is_some (if b then Some e.meaning else find x (xs ++ ys)) ≡ false → (is_some (find x (xs ++ ys)) ≡ false → is_some (find x xs) ≡ false) → is_some (if b then Some e.meaning else find x xs) ≡ false
    by_test true k rest = k
    by_test false k rest = rest k

find_last : (x : List ℕ) (xs : List Entry) (e : Entry) → is_some (find x (xs ++ e ∷ [])) ≡ false → bytes_eq e.name x ≡ false
find_last x [] e h = by_test (bytes_eq e.name x) h
  where
    by_test : (b : Bool) → is_some (if b then Some e.meaning else None) ≡ false → b ≡ false
    by_test true k = k
    by_test false k = refl
find_last x (d ∷ xs) e h = by_test (bytes_eq d.name x) h (find_last x xs e)
  where
    by_test : (b : Bool) → is_some (if b then Some d.meaning else find x (xs ++ e ∷ [])) ≡ false → (is_some (find x (xs ++ e ∷ [])) ≡ false → bytes_eq e.name x ≡ false) → bytes_eq e.name x ≡ false
    by_test true k rest = absurd (false≢true (sym k))
    by_test false k rest = rest k

new_at : (before es : List Entry) (i : ℕ) (e : Entry) → AreNew before es → slice_get es i ≡ Some e → is_some (find e.name before) ≡ false
new_at before [] i e h there = absurd (none-some e there)
new_at before (x ∷ xs) zero e h there = let r = new_rest before x xs h in subst (λ (y : Entry). is_some (find y.name before) ≡ false) (same_Some x e there) r.0
new_at before (x ∷ xs) (suc i) e h there = let r = new_rest before x xs h in find_front e.name before (x ∷ []) (new_at (before ++ x ∷ []) xs i e r.1 there)

differ : (before es : List Entry) (i j : ℕ) (a b : Entry) → i < j → AreNew before es → slice_get es i ≡ Some a → slice_get es j ≡ Some b → bytes_eq a.name b.name ≡ false
differ before [] i j a b l h e f = absurd (none-some a e)
differ before (x ∷ xs) i zero a b l h e f = absurd (omega (arith, l))
differ before (x ∷ xs) zero (suc j) a b l h e f =
    let r = new_rest before x xs h in
    subst (λ (y : Entry). bytes_eq y.name b.name ≡ false) (same_Some x a e) (find_last b.name before x (new_at (before ++ x ∷ []) xs j b r.1 f))
differ before (x ∷ xs) (suc i) (suc j) a b l h e f = let r = new_rest before x xs h in differ (before ++ x ∷ []) xs i j a b (omega (arith, l)) r.1 e f

entry_at : (ps : List written.Process) (count i : ℕ) (p : written.Process) → slice_get ps i ≡ Some p → (e : Entry) × (slice_get (process_entries count ps) i ≡ Some e) × (e.name ≡ p.name)
entry_at [] count i p e = absurd (none-some p e)
entry_at (x ∷ xs) count zero p e = (_, refl, ap (λ (y : written.Process). y.name) (same_Some x p e))
entry_at (x ∷ xs) count (suc i) p e = entry_at xs (unwrap_or (counted MOST_PROCESSES count 1) count) i p e

new_in_second : (before xs ys : List Entry) (j : ℕ) (b : Entry) → AreNew before (xs ++ ys) → slice_get ys j ≡ Some b → is_some (find b.name before) ≡ false
new_in_second before [] ys j b h e = new_at before ys j b h e
new_in_second before (x ∷ xs) ys j b h e = let r = new_rest before x (xs ++ ys) h in find_front b.name before (x ∷ []) (new_in_second (before ++ x ∷ []) xs ys j b r.1 e)

differ_across : (before xs ys : List Entry) (i j : ℕ) (a b : Entry) → AreNew before (xs ++ ys) → slice_get xs i ≡ Some a → slice_get ys j ≡ Some b → bytes_eq a.name b.name ≡ false
differ_across before [] ys i j a b h e f = absurd (none-some a e)
differ_across before (x ∷ xs) ys zero j a b h e f =
    let r = new_rest before x (xs ++ ys) h in
    subst (λ (y : Entry). bytes_eq y.name b.name ≡ false) (same_Some x a e) (find_last b.name before x (new_in_second (before ++ x ∷ []) xs ys j b r.1 f))
differ_across before (x ∷ xs) ys (suc i) j a b h e f = let r = new_rest before x (xs ++ ys) h in differ_across (before ++ x ∷ []) xs ys i j a b r.1 e f

declaration_at : (ds : List written.Declaration) (ports : List PortRow) (c : Counts) (i : ℕ) (d : written.Declaration) → slice_get ds i ≡ Some d → (e : Entry) × (slice_get (declaration_entries ports c ds) i ≡ Some e) × (e.name ≡ d.name)
declaration_at [] ports c i d e = absurd (none-some d e)
declaration_at (x ∷ xs) ports c zero d e = (_, refl, ap (λ (y : written.Declaration). y.name) (same_Some x d e))
declaration_at (x ∷ xs) ports c (suc i) d e = declaration_at xs ports (unwrap_or (after c x.kind) c) i d e

-- ---- the calls of a program

module _ (ports : List PortRow) (tree : written.Program) (q : ℕ) (process : written.Process) (there : slice_get tree.processes q ≡ Some process) where
  abbrev declared : List Entry
  declared = declared_entries ports tree

  -- a name with another text means another number
  name_other : (names : List (List ℕ)) (x : List ℕ) → is_object object.Process (scope_with declared names x) ≡ true → bytes_eq x process.name ≡ false → IsNot (suc q) (pos (object_number_of (scope_with declared names x)))
  name_other names x h other =
      let own : scope_with declared names x ≡ find x declared = not_own x (find x declared) 0 names h in
      let entry : find x declared ≡ find x (process_entries 0 tree.processes) = not_declared ports x (process_entries 0 tree.processes) no_counts tree.declarations (subst (λ (o : Option Denotation). IsOfProcess o) own h) in
      let has : HasOther x (suc q) 0 tree.processes = λ i p e k. turned x p.name (ap (bytes_eq x) (name_at i p e (omega (arith, k))) ∙ other) in
      let different = other_number x (suc q) (λ e. absurd (omega (arith, e))) 0 tree.processes has in
      λ e. different (sym (ap object_number_of (own ∙ entry)) ∙ ap nat_abs e)
    where
      name_at : (i : ℕ) (p : written.Process) → slice_get tree.processes i ≡ Some p → i ≡ q → p.name ≡ process.name
      name_at i p e k = ap (λ (y : written.Process). y.name) (same_Some p process (sym (subst (λ (j : ℕ). slice_get tree.processes j ≡ Some p) k e) ∙ there))

  argument_other : (names : List (List ℕ)) (own : uses.Scope) (created : Option Created) (es : written.Exprs) → fits_arguments (scope_with declared names) (arguments_of service.CreateProcess) es ≡ true
      → meets (Creation object.Process process.name) (record { service = service.CreateProcess; arguments = plains es; id = id_of own created (first_of (plains es)) }) ≡ false
      → IsNumber (IsNot (suc q)) (resolve_arguments (scope_with declared names) (arguments_of service.CreateProcess) es)
  argument_other names own created written.NoExpr k h = absurd (cc)
  argument_other names own created (written.MoreExprs (written.Name x) es) k h = name_other names x (and_parts (is_object object.Process (scope_with declared names x)) _ k).0 h
  argument_other names own created (written.MoreExprs (written.Number value) es) k h = absurd (cc)
  argument_other names own created (written.MoreExprs (written.Element array index) es) k h = absurd (cc)
  argument_other names own created (written.MoreExprs (written.Apply procedure arguments) es) k h = absurd (cc)
  argument_other names own created (written.MoreExprs (written.Parenthesis inside) es) k h = absurd (cc)
  argument_other names own created (written.MoreExprs (written.Unary operator operand) es) k h = absurd (cc)
  argument_other names own created (written.MoreExprs (written.Chain first rest) es) k h = absurd (cc)

  calls_other : AtCalls creates_process (IsNot (suc q)) (meets (Creation object.Process process.name)) declared
  calls_other names own created service.CreateProcess es k h = argument_other names own created es k h
  calls_other names own created s es k h = tt

  abbrev test : Bool → List (List ℕ) → written.Body → Bool
  test = kinds_hold_in_body declared

  abbrev wants : Call → Bool
  wants = meets (Creation object.Process process.name)

  handler_other : (o : Option written.StackBody) → holds_of_handler test o ≡ true → list_any wants (calls_of_handler (done_in tree) o) ≡ false → HandlerFits creates_process (IsNot (suc q)) (option_map (resolve_stack_body declared) o)
  handler_other None k h = tt
  handler_other (Some b) k h = body_fits creates_process (IsNot (suc q)) wants declared calls_other (done_in tree) false [] b.body k h

  processes_other : (ps : List written.Process) → list_all (λ r. test false [] r.body) ps ≡ true → list_any wants (calls_of_processes (done_in tree) ps) ≡ false
      → AllByRecursion (λ (r : program.Process). BlockFits creates_process (IsNot (suc q)) r.body.block) (map (resolve_process declared) ps)
  processes_other [] k h = tt
  processes_other (r ∷ rs) k h =
      let kinds = and_parts (test false [] r.body) _ k in
      let parts = none_of_both wants (calls_of (done_in tree) [] r.body) (calls_of_processes (done_in tree) rs) h in
      (body_fits creates_process (IsNot (suc q)) wants declared calls_other (done_in tree) false [] r.body kinds.0 parts.0, processes_other rs kinds.1 parts.1)

  pub never_creates : kinds_hold ports tree ≡ true → list_any wants (all_calls tree) ≡ false → NeverCreates (suc q) (resolve ports tree)
  never_creates kinds none =
      let three = none_of_both wants (calls_of_init tree ++ calls_of_handler (done_in tree) tree.handler ++ calls_of_processes (done_in tree) tree.processes) (calls_of_procedures (done_in tree) tree.declarations) none in
      let two = none_of_both wants (calls_of_init tree ++ calls_of_handler (done_in tree) tree.handler) (calls_of_processes (done_in tree) tree.processes) three.0 in
      let one = none_of_both wants (calls_of_init tree) (calls_of_handler (done_in tree) tree.handler) two.0 in
      let k1 = and_parts (test false [] tree.init.body && holds_of_handler test tree.handler && list_all (λ r. test false [] r.body) tree.processes) (list_all (λ d. holds_of_procedure test d.kind) tree.declarations) kinds in
      let k2 = and_parts (test false [] tree.init.body && holds_of_handler test tree.handler) (list_all (λ r. test false [] r.body) tree.processes) k1.0 in
      let k3 = and_parts (test false [] tree.init.body) (holds_of_handler test tree.handler) k2.0 in
      record {
        init = body_fits creates_process (IsNot (suc q)) wants declared calls_other (done_in tree) false [] tree.init.body k3.0 one.0;
        handler = handler_other tree.handler k3.1 one.1;
        processes = processes_other tree.processes k2.1 two.1;
        procedures = procedures_fit creates_process (IsNot (suc q)) wants declared calls_other (done_in tree) tree.declarations k1.1 three.1;
      }

  -- ---- the process with its name

  alone : AreNew [] declared → (i : ℕ) (other : written.Process) → slice_get tree.processes i ≡ Some other → other.name ≡ process.name → i ≡ q
  alone new i other e same =
      let those = new_behind [] (declaration_entries ports no_counts tree.declarations) (process_entries 0 tree.processes) new in
      let a = entry_at tree.processes 0 i other e in
      let b = entry_at tree.processes 0 q process there in
      let same_name : a.0.name ≡ b.0.name = a.2 ∙ same ∙ sym b.2 in
      let same_bytes : bytes_eq a.0.name b.0.name ≡ true = (bytes_eq-Decides a.0.name b.0.name).1 same_name in
      let back : bytes_eq b.0.name a.0.name ≡ true = (bytes_eq-Decides b.0.name a.0.name).1 (sym same_name) in
      elim (cases_lt i q) [
        | inl l ↦ absurd (false≢true (sym (differ those.0 (process_entries 0 tree.processes) i q a.0 b.0 l those.1 a.1 b.1) ∙ same_bytes))
        | inr g ↦ elim (cases_lt q i) [
          | inl l ↦ absurd (false≢true (sym (differ those.0 (process_entries 0 tree.processes) q i b.0 a.0 l those.1 b.1 a.1) ∙ back))
          | inr l ↦ omega (arith, g, l)
        ]
      ]

  pub no_declaration : names_hold ports tree ≡ true → (i : ℕ) (d : written.Declaration) → slice_get tree.declarations i ≡ Some d → d.name ≢ process.name
  no_declaration names i d e same =
      let new = (and_parts (are_new [] [] declared) _ names).0 in
      let a = declaration_at tree.declarations ports no_counts i d e in
      let b = entry_at tree.processes 0 q process there in
      let same_name : a.0.name ≡ b.0.name = a.2 ∙ same ∙ sym b.2 in
      false≢true (sym (differ_across [] (declaration_entries ports no_counts tree.declarations) (process_entries 0 tree.processes) i q a.0 b.0 new a.1 b.1) ∙ (bytes_eq-Decides a.0.name b.0.name).1 same_name)

  alone_resolved : AreNew [] declared → (i : ℕ) (other : program.Process) → at_number (map (resolve_process declared) tree.processes) i ≡ Some other → other.name ≡ process.name → i ≡ suc q
  alone_resolved new zero other e same = absurd (none-some other e)
  alone_resolved new (suc i) other e same = let m = mapped (resolve_process declared) tree.processes i other e in ap suc (alone new i m.0 m.1 (ap (λ (y : program.Process). y.name) m.2 ∙ same))

  pub is_process : names_hold ports tree ≡ true → IsProcess (suc q) process.name (resolve ports tree)
  is_process names = record {
    process = resolve_process declared process;
    here = slice_get-map (resolve_process declared) tree.processes q ∙ ap (option_map (resolve_process declared)) there;
    named = refl;
    alone = alone_resolved (and_parts (are_new [] [] declared) _ names).0;
  }
