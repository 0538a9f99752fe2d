-- The rule on limits: nothing is found if and only if it holds.
use Rattle.finding_laws.proofs.Prelude.{◌≡◌, inr, ℕ, ◌+◌, ◌≤◌, ◌<◌, max, Bool, cond, ◌&&◌, ◌∷◌, ◌++◌, Option, Some, is_some, option_map, ◌∙◌, le-leb, lt-leb, leb_tells, list_all, nat_eq, nat_le, is_name, answer_words, arguments_of, GREATEST_PRIORITY, LEAST_STACK_WORDS, MOST_DATA_WORDS, MOST_DEPTH, MOST_LOCALS, MOST_OBJECTS, MOST_PARAMETERS, MOST_PORTS, MOST_PROCEDURES, MOST_PROCESSES, MOST_SEMAPHORE_VALUE, MOST_STACK_WORDS, MOST_TICKS, MOST_WORDS, MOST_WORK_TICKS, PortRow, ArgumentKind, Counts, Scope, after, no_counts, own_entries, scope_of, expr_count, limits_hold, has_none, body_frame, held, procedure_frame, Judge, frame_wrong, many_wrong, no_time, number_wrong, outside_wrong, Entry, declaration_entry, own_entry, process_entry, Tally, counted, tally_wrong, Many, Thing, Role}
use Rattle.std.proofs.Common.{arith, inl, true, false, List, [], length, None, is_none, refl, sym, ap}
use Rattle.std.proofs.lemmas.Bool.{leb-true}
use Rattle.std.proofs.lemmas.Bool.Decides.{eqb_tells}
use Rattle.apex_types.specs.declared.shape.ArgumentKind.TheVariants as argument
use Rattle.pal_base.specs.declared.fault.Refusal.TheVariants as rule
use Rattle.pal_meaning.specs.Program as program
use Rattle.pal_meaning.specs.Resolve as meant
use Rattle.pal_meaning.specs.Resolve.{count_within, resolve_arguments, resolve_block, resolve_expr, resolve_exprs, resolve_links, resolve_stmt, value_or_zero}
use Rattle.pal_meaning.specs.Syntax as written
use Rattle.pal_meaning.specs.WellFormed.{fits_stack, is_between, is_time, is_word, keeps_block, keeps_body, keeps_counts, keeps_declaration, keeps_expr, keeps_exprs, keeps_handler, keeps_kind, keeps_links, keeps_process, keeps_stack_body, keeps_stmt, value_at_most}
use Rattle.source_findings.specs.Bodies as walk
use Rattle.source_findings.specs.Frames.{arguments_operands, block_operands, expr_operands, exprs_operands, links_operands, stmt_operands}
use Rattle.source_findings.specs.Roles.{declared_entries}
use Rattle.source_findings.specs.declared.finding.Many.TheVariants as many
use Rattle.source_findings.specs.declared.finding.Thing.TheVariants as thing
use Rattle.source_findings.specs.declared.roles.Role.TheVariants as role
use Rattle.finding_laws.proofs.Clean.{and_assoc, and_true, fine_all_given, fine_block, fine_declarations, fine_expr, fine_exprs, fine_given, fine_handler, fine_links, fine_name, fine_named, fine_new, fine_own, fine_process, fine_processes, fine_row, fine_stack, fine_stmt, fine_targets, fine_words, none_found}
use Rattle.finding_laws.proofs.OfNames.{and_false, both, found_unless}

-- ---- tests of numbers

same_test : (a b c d : ℕ) → (a ≤ b → c ≤ d) → (b < a → d < c) → nat_le a b ≡ nat_le c d
same_test a b c d inside beyond = elim (leb_tells a b) [ inl t ↦ t.0 ∙ sym (le-leb c d (inside t.1)) | inr f ↦ f.0 ∙ sym (lt-leb c d (beyond f.1)) ]

-- a number as 64 bits hold it passes the test of a limit that they hold if the number does
held_test : (n limit : ℕ) → limit < 18446744073709551615 → nat_le (held n) limit ≡ nat_le n limit
held_test n limit small = same_test (held n) limit n limit (λ h. omega (arith, h, small)) (λ h. omega (arith, h, small))

held_is : (n limit : ℕ) → limit < 18446744073709551615 → n ≤ limit → held n ≡ n
held_is n limit small within = omega (arith, small, within)

between_one : (n : ℕ) → nat_eq n 1 ≡ (nat_le 1 n && nat_le n 1)
between_one n = elim (eqb_tells n 1) [
  | inl t ↦ t.0 ∙ ap (λ m. nat_le 1 m && nat_le m 1) (sym t.1)
  | inr f ↦ f.0 ∙ elim (leb_tells 1 n) [
    | inr g ↦ ap (λ b. b && nat_le n 1) (sym g.0)
    | inl t ↦ elim (leb_tells n 1) [
      | inl u ↦ absurd (f.1 (omega (arith, t.1, u.1)))
      | inr g ↦ ap (λ b. b && false) (sym t.0) ∙ ap (λ b. nat_le 1 n && b) (sym g.0)
    ]
  ]
]

-- two tests that agree where a third one holds
where_true : (a b c : Bool) → (a ≡ true → b ≡ c) → (a && b) ≡ (a && c)
where_true true b c h = h refl
where_true false b c h = refl

and_comm : (a b : Bool) → (a && b) ≡ (b && a)
and_comm true b = sym (and_true b)
and_comm false b = sym (and_false b)

-- ---- what a frame needs

mutual
  expr_needs : (scope : Scope) (e : written.Expr) → program.operands_of_expr (resolve_expr scope e) ≡ expr_operands e
  expr_needs scope (written.Number value) = refl
  expr_needs scope (written.Name name) = refl
  expr_needs scope (written.Element array index) = expr_needs scope index
  expr_needs scope (written.Apply procedure arguments) = ap (λ n. max 1 n) (exprs_need scope arguments)
  expr_needs scope (written.Parenthesis inside) = expr_needs scope inside
  expr_needs scope (written.Unary operator operand) = expr_needs scope operand
  expr_needs scope (written.Chain first rest) = ap (λ n. max n (program.operands_of_links (resolve_links scope rest))) (expr_needs scope first) ∙ ap (λ n. max (expr_operands first) n) (links_need scope rest)

  links_need : (scope : Scope) (ls : written.Links) → program.operands_of_links (resolve_links scope ls) ≡ links_operands ls
  links_need scope written.NoLink = refl
  links_need scope (written.MoreLinks operator operand rest) =
      ap (λ n. max (1 + n) (program.operands_of_links (resolve_links scope rest))) (expr_needs scope operand) ∙ ap (λ n. max (1 + expr_operands operand) n) (links_need scope rest)

  exprs_need : (scope : Scope) (es : written.Exprs) → program.operands_of_exprs (resolve_exprs scope es) ≡ exprs_operands es
  exprs_need scope written.NoExpr = refl
  exprs_need scope (written.MoreExprs first rest) =
      ap (λ n. max n (1 + program.operands_of_exprs (resolve_exprs scope rest))) (expr_needs scope first) ∙ ap (λ n. max (expr_operands first) (1 + n)) (exprs_need scope rest)

arguments_need : (scope : Scope) (ks : List ArgumentKind) (es : written.Exprs) → program.operands_of_exprs (resolve_arguments scope ks es) ≡ arguments_operands ks es
arguments_need scope [] written.NoExpr = refl
arguments_need scope [] (written.MoreExprs e es) = refl
arguments_need scope (k ∷ ks) written.NoExpr = refl
arguments_need scope (argument.Word ∷ ks) (written.MoreExprs e es) =
    ap (λ n. max n (1 + program.operands_of_exprs (resolve_arguments scope ks es))) (expr_needs scope e) ∙ ap (λ n. max (expr_operands e) (1 + n)) (arguments_need scope ks es)
arguments_need scope (argument.Array ∷ ks) (written.MoreExprs e es) = ap (λ n. max 1 (1 + max 1 (1 + n))) (arguments_need scope ks es)
arguments_need scope (argument.Object kind ∷ ks) (written.MoreExprs e es) = ap (λ n. max 1 (1 + n)) (arguments_need scope ks es)

mutual
  stmt_needs : (scope : Scope) (t : written.Stmt) → program.operands_of_stmt (resolve_stmt scope t) ≡ stmt_operands t
  stmt_needs scope (written.Assign target value) = expr_needs scope value
  stmt_needs scope (written.AssignElement array index value) =
      ap (λ n. max n (1 + program.operands_of_expr (resolve_expr scope value))) (expr_needs scope index) ∙ ap (λ n. max (expr_operands index) (1 + n)) (expr_needs scope value)
  stmt_needs scope (written.If test inside) = ap (λ n. max n (program.operands_of_block (resolve_block scope inside))) (expr_needs scope test) ∙ ap (λ n. max (expr_operands test) n) (block_needs scope inside)
  stmt_needs scope (written.IfElse test inside other) =
      ap (λ n. max n (max (program.operands_of_block (resolve_block scope inside)) (program.operands_of_block (resolve_block scope other)))) (expr_needs scope test)
      ∙ ap (λ n. max (expr_operands test) (max n (program.operands_of_block (resolve_block scope other)))) (block_needs scope inside)
      ∙ ap (λ n. max (expr_operands test) (max (block_operands inside) n)) (block_needs scope other)
  stmt_needs scope (written.While test inside) = ap (λ n. max n (program.operands_of_block (resolve_block scope inside))) (expr_needs scope test) ∙ ap (λ n. max (expr_operands test) n) (block_needs scope inside)
  stmt_needs scope (written.Work ticks) = refl
  stmt_needs scope (written.Return value) = expr_needs scope value
  stmt_needs scope (written.CallService service es names) = ap (λ n. max (answer_words service) n) (arguments_need scope (arguments_of service) es)

  block_needs : (scope : Scope) (b : written.Block) → program.operands_of_block (resolve_block scope b) ≡ block_operands b
  block_needs scope written.NoStmt = refl
  block_needs scope (written.MoreStmts first rest) =
      ap (λ n. max n (program.operands_of_block (resolve_block scope rest))) (stmt_needs scope first) ∙ ap (λ n. max (stmt_operands first) n) (block_needs scope rest)

-- ---- numbers of the source

outside_is : (thing : Thing) (low high : ℕ) (n : Option ℕ) → is_none (outside_wrong rule.Limit thing low high n) ≡ is_between low high n
outside_is thing low high None = refl
outside_is thing low high (Some n) = found_unless (nat_le low n && nat_le n high) _

number_is : (n : Option ℕ) → is_none (number_wrong rule.Limit n) ≡ is_some n
number_is None = refl
number_is (Some n) = refl

many_is : (thing : Many) (n most : ℕ) → is_none (many_wrong rule.Limit thing n most) ≡ nat_le n most
many_is thing n most = found_unless (nat_le n most) _

time_is : (thing : Thing) (i : written.Integer) → is_none (no_time thing i.negative i.magnitude) ≡ is_time i
time_is thing i = by i.negative i.magnitude
  where
    by : (b : Bool) (n : Option ℕ) → is_none (no_time thing b n) ≡ cond b (is_between 1 1 n) (is_between 1 MOST_TICKS n)
    by true None = refl
    by false None = refl
    by true (Some n) = found_unless (nat_eq n 1) _ ∙ between_one n
    by false (Some n) = found_unless (nat_le 1 n && nat_le n MOST_TICKS) _

module _ (period : ℕ) (declared own : List Entry) where
  -- a judge by the rule on limits
  abbrev j : Judge
  j = record { rule = rule.Limit; period = period; declared = declared; own = own }

  name_is : (wanted : Role) (name : List ℕ) → fine_name j wanted name ≡ is_name name
  name_is wanted name = found_unless (is_name name) _

  mutual
    expr_is : (e : written.Expr) → fine_expr j e ≡ keeps_expr e
    expr_is (written.Number value) = number_is value
    expr_is (written.Name name) = name_is role.Variable name
    expr_is (written.Element array index) = both (name_is role.Array array) (expr_is index)
    expr_is (written.Apply procedure arguments) = both (name_is (role.Procedure (expr_count arguments)) procedure) (exprs_are arguments)
    expr_is (written.Parenthesis inside) = expr_is inside
    expr_is (written.Unary operator operand) = expr_is operand
    expr_is (written.Chain first rest) = both (expr_is first) (links_are rest)

    links_are : (ls : written.Links) → fine_links j ls ≡ keeps_links ls
    links_are written.NoLink = refl
    links_are (written.MoreLinks operator operand rest) = both (expr_is operand) (links_are rest)

    exprs_are : (es : written.Exprs) → fine_exprs j es ≡ keeps_exprs es
    exprs_are written.NoExpr = refl
    exprs_are (written.MoreExprs first rest) = both (expr_is first) (exprs_are rest)

  named_is : (wanted : Role) (e : written.Expr) → fine_named j wanted e ≡ keeps_expr e
  named_is wanted (written.Name name) = name_is wanted name
  named_is wanted (written.Number value) = expr_is (written.Number value)
  named_is wanted (written.Element array index) = expr_is (written.Element array index)
  named_is wanted (written.Apply procedure arguments) = expr_is (written.Apply procedure arguments)
  named_is wanted (written.Parenthesis inside) = expr_is inside
  named_is wanted (written.Unary operator operand) = expr_is operand
  named_is wanted (written.Chain first rest) = expr_is (written.Chain first rest)

  given_is : (k : ArgumentKind) (e : written.Expr) → fine_given j k e ≡ keeps_expr e
  given_is argument.Word e = expr_is e
  given_is argument.Array e = named_is role.Array e
  given_is (argument.Object kind) e = named_is (role.Object kind) e

  all_given_are : (ks : List ArgumentKind) (es : written.Exprs) → fine_all_given j ks es ≡ keeps_exprs es
  all_given_are ks written.NoExpr = refl
  all_given_are [] (written.MoreExprs e es) = both (expr_is e) (all_given_are [] es)
  all_given_are (k ∷ ks) (written.MoreExprs e es) = both (given_is k e) (all_given_are ks es)

  targets_are : (names : List (List ℕ)) → fine_targets j names ≡ list_all is_name names
  targets_are [] = refl
  targets_are (name ∷ names) = both (name_is role.Variable name) (targets_are names)

  mutual
    stmt_is : (returns : Bool) (t : written.Stmt) → fine_stmt j returns t ≡ keeps_stmt t
    stmt_is returns (written.Assign target value) = both (name_is role.Variable target) (expr_is value)
    stmt_is returns (written.AssignElement array index value) = both (name_is role.Array array) (both (expr_is index) (expr_is value))
    stmt_is returns (written.If test inside) = both (expr_is test) (block_is returns inside)
    stmt_is returns (written.IfElse test inside other) = both (expr_is test) (both (block_is returns inside) (block_is returns other))
    stmt_is returns (written.While test inside) = both (expr_is test) (block_is returns inside)
    stmt_is returns (written.Work ticks) = outside_is thing.Work 1 MOST_WORK_TICKS ticks
    stmt_is returns (written.Return value) = expr_is value
    stmt_is returns (written.CallService service es names) = both (all_given_are (arguments_of service) es) (targets_are names)

    block_is : (returns : Bool) (b : written.Block) → fine_block j returns b ≡ keeps_block b
    block_is returns written.NoStmt = refl
    block_is returns (written.MoreStmts first rest) = both (stmt_is returns first) (block_is returns rest)

  own_is : (before : List Entry) (names : List (List ℕ)) → fine_own j before names ≡ list_all is_name names
  own_is before [] = refl
  own_is before (x ∷ xs) = both (found_unless (is_name x) _) (own_is (before ++ own_entry x ∷ []) xs)

  words_are : (ns : List written.Integer) → fine_words j ns ≡ list_all is_word ns
  words_are [] = refl
  words_are (n ∷ ns) = both (number_is n.magnitude) (words_are ns)

module _ (period : ℕ) (declared : List Entry) where
  abbrev i : Judge
  i = record { rule = rule.Limit; period = period; declared = declared; own = [] }

  -- the locals and the statements of a body
  body_is : (returns : Bool) (before : List Entry) (b : written.Body)
      → (is_none (many_wrong rule.Limit many.Locals (length b.locals) MOST_LOCALS) && (fine_own i before b.locals && fine_block (walk.within i (walk.with_own before b.locals)) returns b.block)) ≡ keeps_body b
  body_is returns before b =
      both (many_is many.Locals (length b.locals) MOST_LOCALS) (both (own_is period declared [] before b.locals) (block_is period declared (walk.with_own before b.locals) returns b.block))
      ∙ sym (and_assoc (nat_le (length b.locals) MOST_LOCALS) (list_all is_name b.locals) (keeps_block b.block))

  frame_is : (entries : List meant.Entry) (words : ℕ) (b : written.Body) → is_between LEAST_STACK_WORDS MOST_STACK_WORDS (Some words) ≡ true
      → is_none (frame_wrong rule.Limit (body_frame b) (Some words)) ≡ fits_stack entries (Some words) b
  frame_is entries words b h =
      let needs : ℕ = count_within MOST_LOCALS (length b.locals) + block_operands b.block + 2 in
      let small : words < 18446744073709551615 = omega (arith, leb-true words MOST_STACK_WORDS (second (nat_le LEAST_STACK_WORDS words) (nat_le words MOST_STACK_WORDS) h)) in
      found_unless (nat_le (body_frame b) words) _
      ∙ held_test needs words small
      ∙ ap (λ n. nat_le (count_within MOST_LOCALS (length b.locals) + n + 2) words) (sym (block_needs (scope_of (own_entries 0 ([] ++ b.locals)) entries) b.block))
    where
      second : (a b : Bool) → (a && b) ≡ true → b ≡ true
      second true b h = h
      second false b h = let k : false ≡ true = h in cc

  stack_is : (entries : List meant.Entry) (stack : Option ℕ) (b : written.Body) → fine_stack i stack b ≡ keeps_stack_body entries stack b
  stack_is entries None b = refl
  stack_is entries (Some words) b =
      let a : Bool = is_between LEAST_STACK_WORDS MOST_STACK_WORDS (Some words) in
      let f : Bool = is_none (frame_wrong rule.Limit (body_frame b) (Some words)) in
      both (outside_is thing.Stack LEAST_STACK_WORDS MOST_STACK_WORDS (Some words)) (ap (λ x. f && x) (body_is false [] b))
      ∙ sym (and_assoc a f (keeps_body b))
      ∙ ap (λ x. x && keeps_body b) (where_true a f (fits_stack entries (Some words) b) (frame_is entries words b))

  handler_is : (entries : List meant.Entry) (h : Option written.StackBody) → fine_handler i h ≡ keeps_handler entries h
  handler_is entries None = refl
  handler_is entries (Some b) = stack_is entries b.stack b.body

  -- ---- declarations

  size_is : (values : ℕ) (size : Option ℕ) → is_none (walk.size_wrong values size) ≡ value_at_most (Some values) size
  size_is values None = refl
  size_is values (Some size) = found_unless (nat_le values size) _

  semaphore_is : (first maximum : Option ℕ) → (is_none (walk.first_wrong first maximum) && is_none (outside_wrong rule.Limit thing.Maximum 1 MOST_SEMAPHORE_VALUE maximum)) ≡ (is_between 1 MOST_SEMAPHORE_VALUE maximum && value_at_most first maximum)
  semaphore_is None maximum = sym (and_false (is_between 1 MOST_SEMAPHORE_VALUE maximum))
  semaphore_is (Some first) None = refl
  semaphore_is (Some first) (Some maximum) =
      both (found_unless (nat_le first maximum) _) (outside_is thing.Maximum 1 MOST_SEMAPHORE_VALUE (Some maximum)) ∙ and_comm (nat_le first maximum) (is_between 1 MOST_SEMAPHORE_VALUE (Some maximum))

  shuffled : (p n f k : Bool) → (p && (n && (f && k))) ≡ (((p && n) && k) && f)
  shuffled true true f k = and_comm f k
  shuffled true false f k = refl
  shuffled false n f k = refl

  procedure_is : (entries : List meant.Entry) (names : List (List ℕ)) (b : written.Body) → fine_row i (written.Procedure names b) ≡ keeps_kind entries (written.Procedure names b)
  procedure_is entries names b =
      let needs : ℕ = count_within MOST_PARAMETERS (length names) + count_within MOST_LOCALS (length b.locals) + max 1 (block_operands b.block) + 2 in
      let frame : Bool = is_none (many_wrong rule.Limit many.FrameWords (procedure_frame names b) MOST_STACK_WORDS) in
      both (many_is many.Parameters (length names) MOST_PARAMETERS) (both (own_is period declared [] [] names) (ap (λ x. frame && x) (body_is true (walk.with_own [] names) b)))
      ∙ shuffled (nat_le (length names) MOST_PARAMETERS) (list_all is_name names) frame (keeps_body b)
      ∙ ap (λ x. ((nat_le (length names) MOST_PARAMETERS && list_all is_name names) && keeps_body b) && x)
      (many_is many.FrameWords (procedure_frame names b) MOST_STACK_WORDS
      ∙ held_test needs MOST_STACK_WORDS (omega arith)
      ∙ ap (λ n. nat_le (count_within MOST_PARAMETERS (length names) + count_within MOST_LOCALS (length b.locals) + max 1 n + 2) MOST_STACK_WORDS) (sym (block_needs (scope_of (own_entries 0 (names ++ b.locals)) entries) b.block)))

  row_is : (entries : List meant.Entry) (k : written.Kind) → fine_row i k ≡ keeps_kind entries k
  row_is entries (written.Variable None) = refl
  row_is entries (written.Variable (Some n)) = number_is n.magnitude
  row_is entries (written.Array size values) = both (size_is (length values) size) (words_are period declared [] values)
  row_is entries (written.Semaphore first maximum discipline) = semaphore_is first maximum
  row_is entries written.Event = refl
  row_is entries (written.Buffer words messages discipline) = both (outside_is thing.Words 1 MOST_WORDS words) (outside_is thing.Messages 1 MOST_DEPTH messages)
  row_is entries (written.Blackboard words) = outside_is thing.Words 1 MOST_WORDS words
  row_is entries written.Port = refl
  row_is entries (written.Procedure names b) = procedure_is entries names b

-- ---- how many there are

-- the counts up to a declaration, all of which are within their limits
abbrev tally_at : Counts → Tally
tally_at c = record { words = c.words; semaphores = c.semaphores; events = c.events; buffers = c.buffers; blackboards = c.blackboards; ports = c.ports; procedures = c.procedures }

-- the next count is within its limit, and is that of the definitions, or it is not
abbrev IsCounted : Many → ℕ → ℕ → ℕ → Option ℕ → Type 0
IsCounted thing count more limit None = is_none (many_wrong rule.Limit thing (held (count + more)) limit) ≡ false
IsCounted thing count more limit (Some next) = (is_none (many_wrong rule.Limit thing (held (count + more)) limit) ≡ true) × (held (count + more) ≡ next)

counted_is : (thing : Many) (count more limit : ℕ) → limit < 18446744073709551615 → IsCounted thing count more limit (meant.counted limit count more)
counted_is thing count more limit small = elim (leb_tells (more + count) limit) [
  | inl t ↦ rw t.0 (
    many_is thing (held (count + more)) limit ∙ held_test (count + more) limit small ∙ le-leb (count + more) limit (omega (arith, t.1)),
    (let within : count + more ≤ limit = omega (arith, t.1) in let e : count + more ≡ more + count = omega arith in held_is (count + more) limit small within ∙ e),
  )
  | inr f ↦ rw f.0 (many_is thing (held (count + more)) limit ∙ held_test (count + more) limit small ∙ lt-leb (count + more) limit (omega (arith, f.1)))
]

-- after a declaration
abbrev IsTallied : Counts → written.Kind → Option Counts → Type 0
IsTallied c k None = is_none (tally_wrong rule.Limit (counted (tally_at c) k) k) ≡ false
IsTallied c k (Some next) = (is_none (tally_wrong rule.Limit (counted (tally_at c) k) k) ≡ true) × (counted (tally_at c) k ≡ tally_at next)

tallied : (c : Counts) (k : written.Kind) → IsTallied c k (after c k)
tallied c (written.Variable value) = by (meant.counted MOST_DATA_WORDS c.words 1) (counted_is many.Words c.words 1 MOST_DATA_WORDS (omega arith))
  where
    by : (o : Option ℕ) → IsCounted many.Words c.words 1 MOST_DATA_WORDS o → IsTallied c (written.Variable value) (option_map (λ n. record c { words = n }) o)
    by None h = h
    by (Some n) h = (h.0, ap (λ m. record (tally_at c) { words = m }) h.1)
tallied c (written.Array size values) = by (meant.counted MOST_DATA_WORDS c.words (value_or_zero size)) (counted_is many.Words c.words (value_or_zero size) MOST_DATA_WORDS (omega arith))
  where
    by : (o : Option ℕ) → IsCounted many.Words c.words (value_or_zero size) MOST_DATA_WORDS o → IsTallied c (written.Array size values) (option_map (λ n. record c { words = n }) o)
    by None h = h
    by (Some n) h = (h.0, ap (λ m. record (tally_at c) { words = m }) h.1)
tallied c (written.Semaphore first maximum discipline) = by (meant.counted MOST_OBJECTS c.semaphores 1) (counted_is many.Semaphores c.semaphores 1 MOST_OBJECTS (omega arith))
  where
    by : (o : Option ℕ) → IsCounted many.Semaphores c.semaphores 1 MOST_OBJECTS o → IsTallied c (written.Semaphore first maximum discipline) (option_map (λ n. record c { semaphores = n }) o)
    by None h = h
    by (Some n) h = (h.0, ap (λ m. record (tally_at c) { semaphores = m }) h.1)
tallied c written.Event = by (meant.counted MOST_OBJECTS c.events 1) (counted_is many.Events c.events 1 MOST_OBJECTS (omega arith))
  where
    by : (o : Option ℕ) → IsCounted many.Events c.events 1 MOST_OBJECTS o → IsTallied c written.Event (option_map (λ n. record c { events = n }) o)
    by None h = h
    by (Some n) h = (h.0, ap (λ m. record (tally_at c) { events = m }) h.1)
tallied c (written.Buffer words messages discipline) = by (meant.counted MOST_OBJECTS c.buffers 1) (counted_is many.Buffers c.buffers 1 MOST_OBJECTS (omega arith))
  where
    by : (o : Option ℕ) → IsCounted many.Buffers c.buffers 1 MOST_OBJECTS o → IsTallied c (written.Buffer words messages discipline) (option_map (λ n. record c { buffers = n }) o)
    by None h = h
    by (Some n) h = (h.0, ap (λ m. record (tally_at c) { buffers = m }) h.1)
tallied c (written.Blackboard words) = by (meant.counted MOST_OBJECTS c.blackboards 1) (counted_is many.Blackboards c.blackboards 1 MOST_OBJECTS (omega arith))
  where
    by : (o : Option ℕ) → IsCounted many.Blackboards c.blackboards 1 MOST_OBJECTS o → IsTallied c (written.Blackboard words) (option_map (λ n. record c { blackboards = n }) o)
    by None h = h
    by (Some n) h = (h.0, ap (λ m. record (tally_at c) { blackboards = m }) h.1)
tallied c written.Port = by (meant.counted MOST_PORTS c.ports 1) (counted_is many.Ports c.ports 1 MOST_PORTS (omega arith))
  where
    by : (o : Option ℕ) → IsCounted many.Ports c.ports 1 MOST_PORTS o → IsTallied c written.Port (option_map (λ n. record c { ports = n }) o)
    by None h = h
    by (Some n) h = (h.0, ap (λ m. record (tally_at c) { ports = m }) h.1)
tallied c (written.Procedure names b) = by (meant.counted MOST_PROCEDURES c.procedures 1) (counted_is many.Procedures c.procedures 1 MOST_PROCEDURES (omega arith))
  where
    by : (o : Option ℕ) → IsCounted many.Procedures c.procedures 1 MOST_PROCEDURES o → IsTallied c (written.Procedure names b) (option_map (λ n. record c { procedures = n }) o)
    by None h = h
    by (Some n) h = (h.0, ap (λ m. record (tally_at c) { procedures = m }) h.1)

rest_out : (a b c d : Bool) → ((a && b) && (c && d)) ≡ ((a && c) && (b && d))
rest_out true true c d = refl
rest_out true false true d = refl
rest_out true false false d = refl
rest_out false b c d = refl

module _ (period : ℕ) (declared : List Entry) (entries : List meant.Entry) where
  abbrev k : Judge
  k = record { rule = rule.Limit; period = period; declared = declared; own = [] }

  -- the declarations after some whose counts are within their limits
  declarations_hold : (before : List Entry) (c : Counts) (ds : List written.Declaration) → fine_declarations k before (tally_at c) ds ≡ (keeps_counts c ds && list_all (keeps_declaration entries) ds)
  declarations_hold before c [] = refl
  declarations_hold before c (d ∷ ds) = by (after c d.kind) (tallied c d.kind) (λ next. declarations_hold (before ++ declaration_entry d ∷ []) next ds)
    where
      kept : fine_new (walk.among k before) d.name && fine_row k d.kind ≡ keeps_declaration entries d
      kept = both (found_unless (is_name d.name) _) (row_is period declared entries d.kind)

      by : (o : Option Counts) → IsTallied c d.kind o → ((next : Counts) → fine_declarations k (before ++ declaration_entry d ∷ []) (tally_at next) ds ≡ (keeps_counts next ds && list_all (keeps_declaration entries) ds))
          → fine_declarations k before (tally_at c) (d ∷ ds) ≡ ((elim o [ None ↦ false | Some next ↦ keeps_counts next ds ]) && (keeps_declaration entries d && list_all (keeps_declaration entries) ds))
      by None h behind = ap (λ b. (b && (fine_new (walk.among k before) d.name && fine_row k d.kind)) && fine_declarations k (before ++ declaration_entry d ∷ []) (counted (tally_at c) d.kind) ds) h
      by (Some next) h behind =
          both (ap (λ b. b && (fine_new (walk.among k before) d.name && fine_row k d.kind)) h.0 ∙ kept)
          (ap (λ t. fine_declarations k (before ++ declaration_entry d ∷ []) t ds) h.1 ∙ behind next)
          ∙ rest_out true (keeps_declaration entries d) (keeps_counts next ds) (list_all (keeps_declaration entries) ds)

  -- ---- processes

  regrouped : (n p t c s : Bool) → (n && (p && (t && (c && s)))) ≡ ((((n && p) && t) && c) && s)
  regrouped true true true c s = refl
  regrouped true true false c s = refl
  regrouped true false t c s = refl
  regrouped false p t c s = refl

  process_is : (before : List Entry) (number : ℕ) (p : written.Process) → fine_process k before number p ≡ (nat_le number MOST_PROCESSES && keeps_process entries p)
  process_is before number p =
      both (many_is many.Processes number MOST_PROCESSES)
      (both (found_unless (is_name p.name) _) (both (outside_is thing.Priority 1 GREATEST_PRIORITY p.priority) (both (time_is thing.Period p.period) (both (time_is thing.Capacity p.capacity) (stack_is period declared entries p.stack p.body))))
      ∙ regrouped (is_name p.name) (is_between 1 GREATEST_PRIORITY p.priority) (is_time p.period) (is_time p.capacity) (keeps_stack_body entries p.stack p.body))

  processes_hold : (before : List Entry) (count : ℕ) (ps : List written.Process) → count ≤ MOST_PROCESSES
      → fine_processes k before count ps ≡ (list_all (keeps_process entries) ps && nat_le (count + length ps) MOST_PROCESSES)
  processes_hold before count [] few = sym (le-leb (count + 0) MOST_PROCESSES (omega (arith, few)))
  processes_hold before count (p ∷ ps) few = elim (leb_tells (count + 1) MOST_PROCESSES) [
    | inl t ↦
        let next : held (count + 1) ≡ count + 1 = held_is (count + 1) MOST_PROCESSES (omega arith) t.1 in
        let sum : count + 1 + length ps ≡ count + length (p ∷ ps) = omega arith in
        ap (λ n. fine_process k before n p && fine_processes k (before ++ process_entry p ∷ []) n ps) next
        ∙ both (process_is before (count + 1) p ∙ ap (λ b. b && keeps_process entries p) t.0) (processes_hold (before ++ process_entry p ∷ []) (count + 1) ps t.1)
        ∙ sym (and_assoc (keeps_process entries p) (list_all (keeps_process entries) ps) (nat_le (count + 1 + length ps) MOST_PROCESSES))
        ∙ ap (λ n. (keeps_process entries p && list_all (keeps_process entries) ps) && nat_le n MOST_PROCESSES) sum
    | inr f ↦
        let over : nat_le (held (count + 1)) MOST_PROCESSES ≡ false = held_test (count + 1) MOST_PROCESSES (omega arith) ∙ f.0 in
        let many_more : MOST_PROCESSES < count + length (p ∷ ps) = omega (arith, f.1) in
        ap (λ b. b && fine_processes k (before ++ process_entry p ∷ []) (held (count + 1)) ps) (process_is before (held (count + 1)) p ∙ ap (λ b. b && keeps_process entries p) over)
        ∙ sym (ap (λ b. (keeps_process entries p && list_all (keeps_process entries) ps) && b) (lt-leb (count + length (p ∷ ps)) MOST_PROCESSES many_more) ∙ and_false (keeps_process entries p && list_all (keeps_process entries) ps))
  ]

leftwards : (a b i h c d : Bool) → ((a && b) && (i && (h && (c && d)))) ≡ (((((a && b) && i) && h) && c) && d)
leftwards true true true true c d = refl
leftwards true true true false c d = refl
leftwards true true false h c d = refl
leftwards true false i h c d = refl
leftwards false b i h c d = refl

pub limits_found : (ports : List PortRow) (period : ℕ) (text : List ℕ) (p : written.Program) → limits_hold ports p ≡ has_none (walk.wrongs rule.Limit period text p)
limits_found ports period text p =
    let entries : List meant.Entry = meant.declared_entries ports p in
    let declared : List Entry = declared_entries p in
    let all : 0 + length p.processes ≡ length p.processes = omega arith in
    sym (none_found rule.Limit period text p
    ∙ both (declarations_hold period declared entries [] no_counts p.declarations)
    (both (stack_is period declared entries p.init.stack p.init.body) (both (handler_is period declared entries p.handler) (processes_hold period declared entries (walk.all_before [] p.declarations) 0 p.processes (omega arith)
    ∙ ap (λ n. list_all (keeps_process entries) p.processes && nat_le n MOST_PROCESSES) all)))
    ∙ leftwards (keeps_counts no_counts p.declarations) (list_all (keeps_declaration entries) p.declarations) (keeps_stack_body entries p.init.stack p.init.body) (keeps_handler entries p.handler)
    (list_all (keeps_process entries) p.processes) (nat_le (length p.processes) MOST_PROCESSES))
