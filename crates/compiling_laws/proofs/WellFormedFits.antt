-- A program that the verdict accepts fits the compiler.
use Rattle.compiling_laws.proofs.Prelude.{◌≡◌, ℕ, suc, ◌+◌, ◌≤◌, ◌<◌, Bool, true, false, cond, nat_eq, List, ◌∷◌, ◌++◌, length, map, Option, Some, None, Ok, refl, sym, ap, ◌∙◌, subst, append_assoc, length-append, slice_get, nat_le, nat_lt, filter_map, option_map, unwrap_or, bytes_eq, list_all, cons_option, sum_by, and_parts, leb-true, eqb-true, cond_both, cond-true, le-leb, length-map, sum_by-cons, LEAST_STACK_WORDS, MOST_INSTRUCTIONS, MOST_LOCALS, MOST_PARAMETERS, MOST_PROCEDURES, MOST_PROCESSES, MOST_STACK_WORDS, MOST_WORK_TICKS, Denotation, ArgumentKind, PortRow, size_of, arguments_of, answer_words, Counts, no_counts, counted, after, Entry, find, declaration_entries, process_entries, own_entries, Scope, scope_of, place_of, within, count_within, resolve_expr, resolve_links, resolve_exprs, resolve_argument, resolve_arguments, resolve_stmt, resolve_block, resolve_body_block, resolve_body, resolve_stack_body, resolve_process, procedure_of, resolve, verdict, names_hold, limits_hold, periods_hold, is_between, keeps_stack_body, keeps_kind, keeps_declaration, keeps_process, keeps_counts, keeps_handler, Fits, FitsBody, FitsHandler, FitsProcedure, FitsExpr, FitsLinks, FitsExprs, FitsStmt, FitsBlock, IsWork, IsPlaceWithin, ArePlacesWithin, HasParameters, count_of}
use Rattle.std.proofs.Common.{zero, not, [], Result, Err, arith}
use Rattle.apex_types.specs.declared.denotation.Denotation.TheVariants as denotation
use Rattle.apex_types.specs.declared.shape.ArgumentKind.TheVariants as argument
use Rattle.pal_meaning.specs.Program as program
use Rattle.pal_meaning.specs.Syntax as written
use Rattle.pal_meaning.specs.Program.{frame_of_body}
use Rattle.apex_types.specs.ServiceShape.{words_of_kind}
use Rattle.pal_meaning.specs.Resolve.{declared_meaning, declared_entries, slot, or_else, procedure_number_of}
use Rattle.pal_meaning.specs.WellFormed.{kinds_hold, holds_of_handler, holds_of_procedure, is_procedure, expr_count, fits_expr, fits_links, fits_exprs, fits_argument, fits_arguments, fits_stmt, fits_block, kinds_hold_in_body, keeps_stmt, keeps_block, keeps_body, fits_stack}
use Rattle.machine_meaning.proofs.Beside.{at_seam}

-- ---- the verdict

-- a test that did not refuse
test_held : {A B : Type 0} (b : Bool) (e : B) (x : Result A B) (r : A) → cond (not b) (Err e) x ≡ Ok r → (b ≡ true) × (x ≡ Ok r)
test_held true e x r h = (refl, h)
test_held false e x r h = absurd cc

-- the bounds that an accepted program keeps, and the program that it resolves to
pub record Accepted (ports : List PortRow) (period : ℕ) (p : written.Program) (r : program.Program) : Type 0 where
  pub names : names_hold ports p ≡ true
  pub kinds : kinds_hold ports p ≡ true
  pub limits : limits_hold ports p ≡ true
  pub periods : periods_hold period p ≡ true
  pub is : resolve ports p ≡ r

pub accepted : (ports : List PortRow) (period : ℕ) (p : written.Program) (r : program.Program) → verdict ports period p ≡ Ok r → Accepted ports period p r
accepted ports period p r h =
    let a = test_held (names_hold ports p) _ _ r h in
    let b = test_held (kinds_hold ports p) _ _ r a.1 in
    let c = test_held (limits_hold ports p) _ _ r b.1 in
    let d = test_held (periods_hold period p) _ _ r c.1 in
    record { names = a.0; kinds = b.0; limits = c.0; periods = d.0; is = cc }

-- ---- the meaning of a name

-- each entry's meaning
abbrev pub EachEntry : (Option Denotation → Type 0) → List Entry → Type 0
EachEntry P [] = Unit {0}
EachEntry P (e ∷ es) = P (Some e.meaning) × EachEntry P es

chosen : {A : Type 0} (P : A → Type 0) (b : Bool) (x y : A) → P x → P y → P (cond b x y)
chosen P true x y p q = p
chosen P false x y p q = q

pub found : (P : Option Denotation → Type 0) (name : List ℕ) (es : List Entry) → P None → EachEntry P es → P (find name es)
found P name [] n a = n
found P name (e ∷ es) n a = chosen P (bytes_eq e.name name) (Some e.meaning) (find name es) a.0 (found P name es n a.1)

either_meaning : (P : Option Denotation → Type 0) (a b : Option Denotation) → P a → P b → P (or_else a b)
either_meaning P None b p q = q
either_meaning P (Some m) b p q = p

pub in_scope : (P : Option Denotation → Type 0) (own declared : List Entry) → P None → EachEntry P own → EachEntry P declared → (name : List ℕ) → P (scope_of own declared name)
in_scope P own declared n a b name = either_meaning P (find name own) (find name declared) (found P name own n a) (found P name declared n b)

both_entries : (P : Option Denotation → Type 0) (xs ys : List Entry) → EachEntry P xs → EachEntry P ys → EachEntry P (xs ++ ys)
both_entries P [] ys a b = b
both_entries P (x ∷ xs) ys a b = (a.0, both_entries P xs ys a.1 b)

-- ---- slots

abbrev IsSlotWithin : ℕ → Option Denotation → Type 0
IsSlotWithin n m = IsPlaceWithin n (place_of m)

slot_within : (n place : ℕ) → place < n → slot place < n
slot_within n place h = cond_both (nat_lt place 72) place 0 (λ x. x < n) (λ e. h) (λ e. omega arith)

own_slots : (n place : ℕ) (xs : List (List ℕ)) → place + length xs ≤ n → EachEntry (IsSlotWithin n) (own_entries place xs)
own_slots n place [] h = tt
own_slots n place (x ∷ xs) h = (slot_within n place (omega arith), own_slots n (place + 1) xs (omega arith))

declared_slot : (n : ℕ) (ports : List PortRow) (c : Counts) (name : List ℕ) (k : written.Kind) → IsSlotWithin n (Some (declared_meaning ports c name k))
declared_slot n ports c name (written.Variable value) = tt
declared_slot n ports c name (written.Array size values) = tt
declared_slot n ports c name (written.Semaphore first maximum discipline) = tt
declared_slot n ports c name written.Event = tt
declared_slot n ports c name (written.Buffer words messages discipline) = tt
declared_slot n ports c name (written.Blackboard words) = tt
declared_slot n ports c name written.Port = tt
declared_slot n ports c name (written.Procedure parameters body) = tt

declaration_slots : (n : ℕ) (ports : List PortRow) (c : Counts) (ds : List written.Declaration) → EachEntry (IsSlotWithin n) (declaration_entries ports c ds)
declaration_slots n ports c [] = tt
declaration_slots n ports c (d ∷ ds) = (declared_slot n ports c d.name d.kind, declaration_slots n ports (unwrap_or (after c d.kind) c) ds)

process_slots : (n count : ℕ) (ps : List written.Process) → EachEntry (IsSlotWithin n) (process_entries count ps)
process_slots n count [] = tt
process_slots n count (p ∷ ps) = (tt, process_slots n (unwrap_or (counted MOST_PROCESSES count 1) count) ps)

-- a name that is a local is one of the body's slots
pub slots_in_scope : (ports : List PortRow) (p : written.Program) (n : ℕ) (own : List (List ℕ)) → length own ≤ n → (name : List ℕ) → IsSlotWithin n (scope_of (own_entries 0 own) (declared_entries ports p) name)
slots_in_scope ports p n own h = in_scope (IsSlotWithin n) (own_entries 0 own) (declared_entries ports p) tt (own_slots n 0 own (omega arith))
    (both_entries (IsSlotWithin n) (declaration_entries ports no_counts p.declarations) (process_entries 0 p.processes) (declaration_slots n ports no_counts p.declarations) (process_slots n 0 p.processes))

-- ---- procedures

abbrev one_or_none : {A : Type 0} → Option A → List A
one_or_none None = []
one_or_none (Some x) = x ∷ []

-- the number of a procedure is its place, and the procedure has `n` parameters
abbrev pub NamesProcedure : List program.Procedure → Option Denotation → Type 0
NamesProcedure procedures (Some (denotation.Procedure f n)) = HasParameters procedures f n
NamesProcedure procedures _ = Unit {0}

pub counts_next : (o : Option Counts) (ds : List written.Declaration) → elim o [ None ↦ false | Some next ↦ keeps_counts next ds ] ≡ true → (n : Counts) × (o ≡ Some n) × (keeps_counts n ds ≡ true)
counts_next None ds h = absurd cc
counts_next (Some n) ds h = (n, refl, h)

pub mapped_some : {A B : Type 0} (f : A → B) (o : Option A) (y : B) → option_map f o ≡ Some y → (x : A) × (o ≡ Some x) × (f x ≡ y)
mapped_some f None y h = absurd cc
mapped_some f (Some x) y h = (x, refl, cc)

pub counted_is : (limit count more n : ℕ) → counted limit count more ≡ Some n → n ≡ more + count
counted_is limit count more n h = test_some (nat_le (more + count) limit) (more + count) n h
  where
    test_some : (b : Bool) (x y : ℕ) → cond b (Some x) None ≡ Some y → y ≡ x
    test_some true x y h = cc
    test_some false x y h = absurd cc

same_procedures : (f : ℕ → Counts) (o : Option ℕ) (n : Counts) (k : ℕ) → ((x : ℕ) → (f x).procedures ≡ k) → option_map f o ≡ Some n → n.procedures ≡ k + 0
same_procedures f o n k same h = let m = mapped_some f o n h in let e : n.procedures ≡ k = sym (ap (λ (c : Counts). c.procedures) m.2) ∙ same m.0 in omega (arith, e)

procedures_after : (declared : List Entry) (c n : Counts) (k : written.Kind) → after c k ≡ Some n → n.procedures ≡ c.procedures + length (one_or_none (procedure_of declared k))
procedures_after declared c n (written.Variable value) h = same_procedures _ _ n c.procedures (λ x. refl) h
procedures_after declared c n (written.Array size values) h = same_procedures _ _ n c.procedures (λ x. refl) h
procedures_after declared c n (written.Semaphore first maximum discipline) h = same_procedures _ _ n c.procedures (λ x. refl) h
procedures_after declared c n written.Event h = same_procedures _ _ n c.procedures (λ x. refl) h
procedures_after declared c n (written.Buffer words messages discipline) h = same_procedures _ _ n c.procedures (λ x. refl) h
procedures_after declared c n (written.Blackboard words) h = same_procedures _ _ n c.procedures (λ x. refl) h
procedures_after declared c n written.Port h = same_procedures _ _ n c.procedures (λ x. refl) h
procedures_after declared c n (written.Procedure parameters body) h =
    let m = mapped_some _ (counted MOST_PROCEDURES c.procedures 1) n h in
    let e : n.procedures ≡ m.0 = sym (ap (λ (c : Counts). c.procedures) m.2) in
    let g : m.0 ≡ 1 + c.procedures = counted_is MOST_PROCEDURES c.procedures 1 m.0 m.1 in
    omega (arith, e, g)

pub count_is : (limit n : ℕ) → n ≤ limit → count_within limit n ≡ n
count_is limit n h = cond-true (nat_le n limit) n 0 (le-leb n limit h)

option_first : {A : Type 0} (before : List A) (o : Option A) (rest : List A) → (before ++ one_or_none o) ++ rest ≡ before ++ cons_option o rest
option_first before None rest = append_assoc before [] rest
option_first before (Some x) rest = append_assoc before (x ∷ []) rest

declared_procedure : (ports : List PortRow) (declared : List Entry) (c : Counts) (name : List ℕ) (k : written.Kind) (before rest : List program.Procedure) → length before ≡ c.procedures → keeps_kind declared k ≡ true
    → NamesProcedure (before ++ cons_option (procedure_of declared k) rest) (Some (declared_meaning ports c name k))
declared_procedure ports declared c name (written.Variable value) before rest at keeps = tt
declared_procedure ports declared c name (written.Array size values) before rest at keeps = tt
declared_procedure ports declared c name (written.Semaphore first maximum discipline) before rest at keeps = tt
declared_procedure ports declared c name written.Event before rest at keeps = tt
declared_procedure ports declared c name (written.Buffer words messages discipline) before rest at keeps = tt
declared_procedure ports declared c name (written.Blackboard words) before rest at keeps = tt
declared_procedure ports declared c name written.Port before rest at keeps = tt
declared_procedure ports declared c name (written.Procedure parameters b) before rest at keeps =
    let few = and_parts _ _ (and_parts _ _ (and_parts _ _ keeps).0).0 in
    ap (option_map (λ (q : program.Procedure). q.parameters)) (at_seam before _ rest c.procedures at) ∙ ap Some (count_is MOST_PARAMETERS (length parameters) (leb-true (length parameters) MOST_PARAMETERS few.0))

declaration_procedures : (ports : List PortRow) (declared : List Entry) (c : Counts) (before : List program.Procedure) (ds : List written.Declaration) → length before ≡ c.procedures → keeps_counts c ds ≡ true → list_all (keeps_declaration declared) ds ≡ true
    → EachEntry (NamesProcedure (before ++ filter_map (λ d. procedure_of declared d.kind) ds)) (declaration_entries ports c ds)
declaration_procedures ports declared c before [] at counts keeps = tt
declaration_procedures ports declared c before (d ∷ ds) at counts keeps =
    let next = counts_next (after c d.kind) ds counts in
    let kept = and_parts (keeps_declaration declared d) (list_all (keeps_declaration declared) ds) keeps in
    let own = procedure_of declared d.kind in
    let rest = filter_map (λ (e : written.Declaration). procedure_of declared e.kind) ds in
    let longer : length (before ++ one_or_none own) ≡ next.0.procedures = omega (arith, length-append before (one_or_none own), procedures_after declared c next.0 d.kind next.1) in
    let is : next.0 ≡ unwrap_or (after c d.kind) c = ap (λ (o : Option Counts). unwrap_or o c) (sym next.1) in
    let others = declaration_procedures ports declared next.0 (before ++ one_or_none own) ds longer next.2 kept.1 in
    let moved = subst (λ (ps : List program.Procedure). EachEntry (NamesProcedure ps) (declaration_entries ports next.0 ds)) (option_first before own rest) others in
    (declared_procedure ports declared c d.name d.kind before rest at (and_parts _ _ kept.0).1, subst (λ (n : Counts). EachEntry (NamesProcedure (before ++ cons_option own rest)) (declaration_entries ports n ds)) is moved)

own_no_procedures : (procedures : List program.Procedure) (place : ℕ) (xs : List (List ℕ)) → EachEntry (NamesProcedure procedures) (own_entries place xs)
own_no_procedures procedures place [] = tt
own_no_procedures procedures place (x ∷ xs) = (tt, own_no_procedures procedures (place + 1) xs)

processes_no_procedures : (procedures : List program.Procedure) (count : ℕ) (ps : List written.Process) → EachEntry (NamesProcedure procedures) (process_entries count ps)
processes_no_procedures procedures count [] = tt
processes_no_procedures procedures count (p ∷ ps) = (tt, processes_no_procedures procedures (unwrap_or (counted MOST_PROCESSES count 1) count) ps)

-- ---- expressions and statements

module _ (scope : Scope) (procedures : List program.Procedure) (n : ℕ) (slots : (name : List ℕ) → IsSlotWithin n (scope name)) (called : (name : List ℕ) → NamesProcedure procedures (scope name)) where
  expr_count_is : (es : written.Exprs) → count_of (resolve_exprs scope es) ≡ expr_count es
  expr_count_is written.NoExpr = refl
  expr_count_is (written.MoreExprs e es) = ap (λ k. k + 1) (expr_count_is es)

  takes_as_many : (m : Option Denotation) (k : ℕ) → NamesProcedure procedures m → is_procedure k m ≡ true → HasParameters procedures (procedure_number_of m) k
  takes_as_many None k names h = absurd cc
  takes_as_many (Some (denotation.Scalar place)) k names h = absurd cc
  takes_as_many (Some (denotation.Array place size)) k names h = absurd cc
  takes_as_many (Some (denotation.Object kind number)) k names h = absurd cc
  takes_as_many (Some (denotation.Procedure f parameters)) k names h = names ∙ ap Some (eqb-true parameters k h)

  mutual
    expr_fits : (e : written.Expr) → fits_expr scope e ≡ true → FitsExpr procedures n (resolve_expr scope e)
    expr_fits (written.Number value) h = tt
    expr_fits (written.Name name) h = slots name
    expr_fits (written.Element array index) h = expr_fits index (and_parts _ _ h).1
    expr_fits (written.Apply procedure arguments) h =
        let parts = and_parts _ _ h in
        let taken = takes_as_many (scope procedure) (expr_count arguments) (called procedure) parts.0 in
        (subst (HasParameters procedures (procedure_number_of (scope procedure))) (sym (expr_count_is arguments)) taken, exprs_fit arguments parts.1)
    expr_fits (written.Parenthesis inside) h = expr_fits inside h
    expr_fits (written.Unary operator operand) h = expr_fits operand h
    expr_fits (written.Chain first rest) h = let parts = and_parts _ _ h in (expr_fits first parts.0, links_fit rest parts.1)

    links_fit : (ls : written.Links) → fits_links scope ls ≡ true → FitsLinks procedures n (resolve_links scope ls)
    links_fit written.NoLink h = tt
    links_fit (written.MoreLinks operator operand rest) h = let parts = and_parts _ _ h in (expr_fits operand parts.0, links_fit rest parts.1)

    exprs_fit : (es : written.Exprs) → fits_exprs scope es ≡ true → FitsExprs procedures n (resolve_exprs scope es)
    exprs_fit written.NoExpr h = tt
    exprs_fit (written.MoreExprs first rest) h = let parts = and_parts _ _ h in (expr_fits first parts.0, exprs_fit rest parts.1)

  argument_fits : (k : ArgumentKind) (e : written.Expr) (rest : program.Exprs) → fits_argument scope k e ≡ true → FitsExprs procedures n rest → FitsExprs procedures n (resolve_argument scope k e rest)
  argument_fits argument.Word e rest h fits = (expr_fits e h, fits)
  argument_fits argument.Array e rest h fits = (tt, (tt, fits))
  argument_fits (argument.Object kind) e rest h fits = (tt, fits)

  arguments_fit : (ks : List ArgumentKind) (es : written.Exprs) → fits_arguments scope ks es ≡ true → FitsExprs procedures n (resolve_arguments scope ks es)
  arguments_fit [] es h = tt
  arguments_fit (k ∷ ks) written.NoExpr h = tt
  arguments_fit (k ∷ ks) (written.MoreExprs e es) h = let parts = and_parts _ _ h in argument_fits k e (resolve_arguments scope ks es) parts.0 (arguments_fit ks es parts.1)

  argument_counted : (k : ArgumentKind) (e : written.Expr) (rest : program.Exprs) → count_of (resolve_argument scope k e rest) ≡ words_of_kind k + count_of rest
  argument_counted argument.Word e rest = omega arith
  argument_counted argument.Array e rest = omega arith
  argument_counted (argument.Object kind) e rest = omega arith

  arguments_counted : (ks : List ArgumentKind) (es : written.Exprs) → fits_arguments scope ks es ≡ true → count_of (resolve_arguments scope ks es) ≡ sum_by words_of_kind ks
  arguments_counted [] es h = refl
  arguments_counted (k ∷ ks) written.NoExpr h = absurd cc
  arguments_counted (k ∷ ks) (written.MoreExprs e es) h =
      let parts = and_parts (fits_argument scope k e) (fits_arguments scope ks es) h in
      argument_counted k e (resolve_arguments scope ks es) ∙ ap (λ m. words_of_kind k + m) (arguments_counted ks es parts.1) ∙ sym (sum_by-cons words_of_kind k ks)

  targets_fit : (xs : List (List ℕ)) → ArePlacesWithin n (map (λ x. place_of (scope x)) xs)
  targets_fit [] = tt
  targets_fit (x ∷ xs) = (slots x, targets_fit xs)

  work_fits : (ticks : Option ℕ) → is_between 1 MOST_WORK_TICKS ticks ≡ true → IsWork (within MOST_WORK_TICKS ticks)
  work_fits None h = absurd cc
  work_fits (Some t) h =
      let parts = and_parts _ _ h in
      let most : t ≤ MOST_WORK_TICKS = leb-true t MOST_WORK_TICKS parts.1 in
      subst IsWork (sym (cond-true (nat_le t MOST_WORK_TICKS) t 0 parts.1)) (leb-true 1 t parts.0, most)

  mutual
    stmt_fits : (returns : Bool) (s : written.Stmt) → fits_stmt scope returns s ≡ true → keeps_stmt s ≡ true → FitsStmt procedures n returns (resolve_stmt scope s)
    stmt_fits returns (written.Assign target value) h k = (slots target, expr_fits value (and_parts _ _ h).1)
    stmt_fits returns (written.AssignElement array index value) h k = let parts = and_parts _ _ (and_parts _ _ h).1 in (expr_fits index parts.0, expr_fits value parts.1)
    stmt_fits returns (written.If test block) h k = let parts = and_parts _ _ h in (expr_fits test parts.0, block_fits returns block parts.1 (and_parts _ _ k).1)
    stmt_fits returns (written.IfElse test block other) h k =
        let parts = and_parts _ _ h in
        let blocks = and_parts _ _ parts.1 in
        let kept = and_parts _ _ (and_parts _ _ k).1 in
        (expr_fits test parts.0, block_fits returns block blocks.0 kept.0, block_fits returns other blocks.1 kept.1)
    stmt_fits returns (written.While test block) h k = let parts = and_parts _ _ h in (expr_fits test parts.0, block_fits returns block parts.1 (and_parts _ _ k).1)
    stmt_fits returns (written.Work ticks) h k = work_fits ticks k
    stmt_fits returns (written.Return value) h k = let parts = and_parts _ _ h in (parts.0, expr_fits value parts.1)
    stmt_fits returns (written.CallService s arguments targets) h k =
        let parts = and_parts (fits_arguments scope (arguments_of s) arguments) _ h in
        let answers = and_parts (nat_eq (length targets) (answer_words s)) _ parts.1 in
        (arguments_fit (arguments_of s) arguments parts.0, arguments_counted (arguments_of s) arguments parts.0, length-map targets _ ∙ eqb-true (length targets) (answer_words s) answers.0, targets_fit targets)

    block_fits : (returns : Bool) (b : written.Block) → fits_block scope returns b ≡ true → keeps_block b ≡ true → FitsBlock procedures n returns (resolve_block scope b)
    block_fits returns written.NoStmt h k = tt
    block_fits returns (written.MoreStmts first rest) h k = let parts = and_parts _ _ h in let kept = and_parts _ _ k in (stmt_fits returns first parts.0 kept.0, block_fits returns rest parts.1 kept.1)

-- ---- bodies

pub keeps_within : (low limit : ℕ) (o : Option ℕ) → is_between low limit o ≡ true → (x : ℕ) × (o ≡ Some x) × (low ≤ x) × (x ≤ limit) × (within limit o ≡ x)
keeps_within low limit None h = absurd cc
keeps_within low limit (Some x) h =
    let parts = and_parts (nat_le low x) (nat_le x limit) h in
    (x, refl, leb-true low x parts.0, leb-true x limit parts.1, cond-true (nat_le x limit) x 0 parts.1)

pub few_locals : (b : written.Body) → keeps_body b ≡ true → length b.locals ≤ MOST_LOCALS
few_locals b keeps = leb-true (length b.locals) MOST_LOCALS (and_parts _ _ (and_parts _ _ keeps).0).0

module _ (ports : List PortRow) (p : written.Program) (procedures : List program.Procedure) (called : (name : List ℕ) (own : List (List ℕ)) → NamesProcedure procedures (scope_of (own_entries 0 own) (declared_entries ports p) name)) where
  -- the statements of a body that has slots for its parameters and locals
  block_of_body : (returns : Bool) (parameters : List (List ℕ)) (b : written.Body) (n : ℕ) → length (parameters ++ b.locals) ≤ n → kinds_hold_in_body (declared_entries ports p) returns parameters b ≡ true → keeps_body b ≡ true
      → FitsBlock procedures n returns (resolve_body_block (declared_entries ports p) parameters b)
  block_of_body returns parameters b n room kinds keeps =
      let own = parameters ++ b.locals in
      block_fits (scope_of (own_entries 0 own) (declared_entries ports p)) procedures n (slots_in_scope ports p n own room) (λ name. called name own) returns b.block kinds (and_parts _ _ keeps).1

  stack_holds : (stack : Option ℕ) (b : written.Body) → is_between LEAST_STACK_WORDS MOST_STACK_WORDS stack ≡ true → fits_stack (declared_entries ports p) stack b ≡ true → frame_of_body (resolve_body (declared_entries ports p) stack b) ≤ within MOST_STACK_WORDS stack
  stack_holds None b h fits = absurd cc
  stack_holds (Some words) b h fits =
      let parts = and_parts (nat_le LEAST_STACK_WORDS words) (nat_le words MOST_STACK_WORDS) h in
      let is : within MOST_STACK_WORDS (Some words) ≡ words = cond-true (nat_le words MOST_STACK_WORDS) words 0 parts.1 in
      let room = leb-true (frame_of_body (resolve_body (declared_entries ports p) (Some words) b)) words fits in
      subst (λ n. frame_of_body (resolve_body (declared_entries ports p) (Some words) b) ≤ n) (sym is) room

  body_fits : (stack : Option ℕ) (b : written.Body) → kinds_hold_in_body (declared_entries ports p) false [] b ≡ true → keeps_stack_body (declared_entries ports p) stack b ≡ true
      → FitsBody procedures (resolve_body (declared_entries ports p) stack b)
  body_fits stack b kinds keeps =
      let kept = and_parts _ _ keeps in
      let held = and_parts _ _ kept.0 in
      let is = count_is MOST_LOCALS (length b.locals) (few_locals b kept.1) in
      record {
        block = block_of_body false [] b (count_within MOST_LOCALS (length b.locals)) (omega (arith, is)) kinds kept.1;
        frame = stack_holds stack b held.0 held.1;
      }

  handler_fits : (h : Option written.StackBody) → holds_of_handler (kinds_hold_in_body (declared_entries ports p)) h ≡ true → keeps_handler (declared_entries ports p) h ≡ true
      → FitsHandler procedures (option_map (resolve_stack_body (declared_entries ports p)) h)
  handler_fits None kinds keeps = tt
  handler_fits (Some b) kinds keeps = body_fits b.stack b.body kinds keeps

  processes_fit : (qs : List written.Process) → list_all (λ q. kinds_hold_in_body (declared_entries ports p) false [] q.body) qs ≡ true → list_all (keeps_process (declared_entries ports p)) qs ≡ true
      → (i : ℕ) (q : program.Process) → slice_get (map (resolve_process (declared_entries ports p)) qs) i ≡ Some q → FitsBody procedures q.body
  processes_fit [] kinds keeps i q h = absurd cc
  processes_fit (w ∷ ws) kinds keeps zero q h =
      let kind = and_parts (kinds_hold_in_body (declared_entries ports p) false [] w.body) (list_all (λ q. kinds_hold_in_body (declared_entries ports p) false [] q.body) ws) kinds in
      let kept = and_parts (keeps_process (declared_entries ports p) w) (list_all (keeps_process (declared_entries ports p)) ws) keeps in
      let is : resolve_process (declared_entries ports p) w ≡ q = cc in
      subst (λ (x : program.Process). FitsBody procedures x.body) is (body_fits w.stack w.body kind.0 (and_parts _ _ kept.0).1)
  processes_fit (w ∷ ws) kinds keeps (suc i) q h = processes_fit ws (and_parts _ _ kinds).1 (and_parts _ _ keeps).1 i q h

  procedure_fits : (parameters : List (List ℕ)) (b : written.Body) (r : program.Procedure) → procedure_of (declared_entries ports p) (written.Procedure parameters b) ≡ Some r
      → kinds_hold_in_body (declared_entries ports p) true parameters b ≡ true → keeps_kind (declared_entries ports p) (written.Procedure parameters b) ≡ true → FitsProcedure procedures r
  procedure_fits parameters b r h kinds keeps =
      let kept = and_parts _ _ keeps in
      let body = and_parts _ _ kept.0 in
      let few = and_parts _ _ body.0 in
      let at_most : length parameters ≤ MOST_PARAMETERS = leb-true (length parameters) MOST_PARAMETERS few.0 in
      let locals = count_is MOST_LOCALS (length b.locals) (few_locals b body.1) in
      let taken = count_is MOST_PARAMETERS (length parameters) at_most in
      let n = count_within MOST_PARAMETERS (length parameters) + count_within MOST_LOCALS (length b.locals) in
      let resolved : program.Procedure = record { parameters = count_within MOST_PARAMETERS (length parameters); locals = count_within MOST_LOCALS (length b.locals); block = resolve_body_block (declared_entries ports p) parameters b } in
      let is : resolved ≡ r = cc in
      let made : FitsProcedure procedures resolved = record {
        block = block_of_body true parameters b n (omega (arith, locals, taken, length-append parameters b.locals)) kinds body.1;
        frame = leb-true _ MOST_STACK_WORDS kept.1;
      } in
      subst (FitsProcedure procedures) is made

  -- a declaration that is a procedure, and the others
  procedures_go_on : (k : written.Kind) (rest : List program.Procedure) → holds_of_procedure (kinds_hold_in_body (declared_entries ports p)) k ≡ true → keeps_kind (declared_entries ports p) k ≡ true
      → ((f : ℕ) (r : program.Procedure) → slice_get rest f ≡ Some r → FitsProcedure procedures r)
      → (f : ℕ) (r : program.Procedure) → slice_get (cons_option (procedure_of (declared_entries ports p) k) rest) f ≡ Some r → FitsProcedure procedures r
  procedures_go_on (written.Procedure parameters b) rest kinds keeps others zero r h = procedure_fits parameters b r h kinds keeps
  procedures_go_on (written.Procedure parameters b) rest kinds keeps others (suc f) r h = others f r h
  procedures_go_on (written.Variable value) rest kinds keeps others f r h = others f r h
  procedures_go_on (written.Array size values) rest kinds keeps others f r h = others f r h
  procedures_go_on (written.Semaphore first maximum discipline) rest kinds keeps others f r h = others f r h
  procedures_go_on written.Event rest kinds keeps others f r h = others f r h
  procedures_go_on (written.Buffer words messages discipline) rest kinds keeps others f r h = others f r h
  procedures_go_on (written.Blackboard words) rest kinds keeps others f r h = others f r h
  procedures_go_on written.Port rest kinds keeps others f r h = others f r h

  procedures_fit : (ds : List written.Declaration) → list_all (λ d. holds_of_procedure (kinds_hold_in_body (declared_entries ports p)) d.kind) ds ≡ true → list_all (keeps_declaration (declared_entries ports p)) ds ≡ true
      → (f : ℕ) (r : program.Procedure) → slice_get (filter_map (λ (d : written.Declaration). procedure_of (declared_entries ports p) d.kind) ds) f ≡ Some r → FitsProcedure procedures r
  procedures_fit [] kinds keeps f r h = absurd cc
  procedures_fit (d ∷ ds) kinds keeps f r h =
      let kind = and_parts _ _ kinds in
      let kept = and_parts _ _ keeps in
      procedures_go_on d.kind _ kind.0 (and_parts _ _ kept.0).1 (procedures_fit ds kind.1 kept.1) f r h

-- ---- the program

procedures_in_scope : (ports : List PortRow) (p : written.Program) → keeps_counts no_counts p.declarations ≡ true → list_all (keeps_declaration (declared_entries ports p)) p.declarations ≡ true
    → (name : List ℕ) (own : List (List ℕ)) → NamesProcedure (resolve ports p).procedures (scope_of (own_entries 0 own) (declared_entries ports p) name)
procedures_in_scope ports p counts keeps name own =
    let procedures = (resolve ports p).procedures in
    let declarations = declaration_procedures ports (declared_entries ports p) no_counts [] p.declarations refl counts keeps in
    in_scope (NamesProcedure procedures) (own_entries 0 own) (declared_entries ports p) tt (own_no_procedures procedures 0 own)
    (both_entries (NamesProcedure procedures) (declaration_entries ports no_counts p.declarations) (process_entries 0 p.processes) declarations (processes_no_procedures procedures 0 p.processes)) name

resolved_fits : (ports : List PortRow) (p : written.Program) → kinds_hold ports p ≡ true → limits_hold ports p ≡ true → size_of (resolve ports p) ≤ MOST_INSTRUCTIONS → Fits (resolve ports p)
resolved_fits ports p kinds limits small =
    let k1 = and_parts _ _ kinds in
    let k2 = and_parts _ _ k1.0 in
    let k3 = and_parts _ _ k2.0 in
    let l1 = and_parts _ _ limits in
    let l2 = and_parts _ _ l1.0 in
    let l3 = and_parts _ _ l2.0 in
    let l4 = and_parts _ _ l3.0 in
    let l5 = and_parts _ _ l4.0 in
    let procedures = (resolve ports p).procedures in
    let called = procedures_in_scope ports p l5.0 l5.1 in
    record {
      init = body_fits ports p procedures called p.init.stack p.init.body k3.0 l4.1;
      handler = handler_fits ports p procedures called p.handler k3.1 l3.1;
      processes = processes_fit ports p procedures called p.processes k2.1 l2.1;
      procedures = procedures_fit ports p procedures called p.declarations k1.1 l5.1;
      size = small;
    }

-- A program that the verdict accepts fits the compiler, if its code is not too long.
pub well_formed_fits : (ports : List PortRow) (period : ℕ) (p : written.Program) (r : program.Program) → verdict ports period p ≡ Ok r → size_of r ≤ MOST_INSTRUCTIONS → Fits r
well_formed_fits ports period p r h small =
    let a = accepted ports period p r h in
    subst Fits a.is (resolved_fits ports p a.kinds a.limits (subst (λ (q : program.Program). size_of q ≤ MOST_INSTRUCTIONS) (sym a.is) small))
