-- A program has at most twice as many constructs as it has words: an array passed to a service is
-- one word and two constructs.
use Rattle.compiling_laws.proofs.Prelude.{◌≡◌, ℕ, suc, ◌+◌, ◌*◌, ◌≤◌, ◌<◌, Bool, true, false, cond, List, ◌∷◌, ◌++◌, length, map, pos, Option, Some, None, ap, filter_map, option_map, cons_option, sum_by, length-map, sum_by-cons, MOST_LOCALS, MOST_PARAMETERS, ArgumentKind, PortRow, arguments_of, size_of_expr, size_of_links, size_of_exprs, size_of_stmt, size_of_block, size_of_procedure, size_of_body, size_of_handler, size_of_process, size_of, words_of, Entry, Scope, place_of, count_within, resolve_expr, resolve_links, resolve_exprs, resolve_argument, resolve_arguments, resolve_stmt, resolve_block, resolve_body_block, scope_of, own_entries, resolve_body, resolve_stack_body, resolve_process, procedure_of, resolve}
use Rattle.std.proofs.Common.{zero, [], arith}
use Rattle.std.specs.Prelude.{codes}
use Rattle.apex_types.specs.declared.shape.ArgumentKind.TheVariants as argument
use Rattle.pal_meaning.specs.Program as program
use Rattle.pal_meaning.specs.Syntax as written
use Rattle.pal_meaning.specs.Grammar.{integer_words, all_words, next_name, names_words, targets_words, comma, expr_words, links_words, arguments_words, stmt_words, block_words, local_words, body_words, kind_words, declaration_words, stack_body_words, handler_words, process_words, program_words}
use Rattle.pal_meaning.specs.Grammar.{Word, Number, Mark, behind_blanks, word_at, words_within, words_from}
use Rattle.pal_meaning.specs.Resolve.{array_place_of, array_size_of, named, declared_entries}
use Rattle.pal_laws.proofs.WordsOf.{blanks_shorter}

-- ---- words before others

comma_long : (first : Bool) (rest : List Word) → length rest ≤ length (comma first rest)
comma_long true rest = omega arith
comma_long false rest = omega arith

either_long : (b : Bool) (xs ys : List Word) (n : ℕ) → n ≤ length xs → n ≤ length ys → n ≤ length (cond b xs ys)
either_long true xs ys n h k = h
either_long false xs ys n h k = k

integer_long : (n : written.Integer) (rest : List Word) → length rest ≤ length (integer_words n rest)
integer_long n rest = either_long n.negative _ _ (length rest) (omega arith) (omega arith)

all_long : {X : Type 0} (words : X → List Word → List Word) → ((x : X) (rest : List Word) → length rest ≤ length (words x rest)) → (xs : List X) (rest : List Word) → length rest ≤ length (all_words words xs rest)
all_long words one [] rest = omega arith
all_long words one (x ∷ xs) rest = omega (arith, one x (all_words words xs rest), all_long words one xs rest)

names_many : (xs : List (List ℕ)) (rest : List Word) → length xs + length rest ≤ length (all_words next_name xs rest)
names_many [] rest = omega arith
names_many (x ∷ xs) rest = omega (arith, names_many xs rest)

names_long : (xs : List (List ℕ)) (rest : List Word) → length rest ≤ length (names_words xs rest)
names_long [] rest = omega arith
names_long (x ∷ xs) rest = omega (arith, names_many xs rest)

targets_many : (xs : List (List ℕ)) (rest : List Word) → length xs + length rest ≤ length (targets_words xs rest)
targets_many [] rest = omega arith
targets_many (x ∷ xs) rest = omega (arith, names_many xs rest)

-- ---- expressions and statements

module _ (scope : Scope) where
  mutual
    expr_few : (e : written.Expr) (rest : List Word) → size_of_expr (resolve_expr scope e) + 2 * length rest ≤ 2 * length (expr_words e rest)
    expr_few (written.Number value) rest = omega arith
    expr_few (written.Name name) rest = omega arith
    expr_few (written.Element array index) rest = omega (arith, expr_few index (Mark (codes "]") ∷ rest))
    expr_few (written.Apply procedure arguments) rest = omega (arith, exprs_few arguments true (Mark (codes ")") ∷ rest))
    expr_few (written.Parenthesis inside) rest = omega (arith, expr_few inside (Mark (codes ")") ∷ rest))
    expr_few (written.Unary operator operand) rest = omega (arith, expr_few operand rest)
    expr_few (written.Chain first links) rest = omega (arith, expr_few first (links_words links rest), links_few links rest)

    links_few : (ls : written.Links) (rest : List Word) → size_of_links (resolve_links scope ls) + 2 * length rest ≤ 2 * length (links_words ls rest)
    links_few written.NoLink rest = omega arith
    links_few (written.MoreLinks operator operand links) rest = omega (arith, expr_few operand (links_words links rest), links_few links rest)

    exprs_few : (es : written.Exprs) (first : Bool) (rest : List Word) → size_of_exprs (resolve_exprs scope es) + 2 * length rest ≤ 2 * length (arguments_words es first rest)
    exprs_few written.NoExpr first rest = omega arith
    exprs_few (written.MoreExprs e es) first rest =
        let words = expr_words e (arguments_words es false rest) in
        omega (arith, comma_long first words, expr_few e (arguments_words es false rest), exprs_few es false rest)

  -- each expression has a word
  expr_some : (e : written.Expr) (rest : List Word) → length rest < length (expr_words e rest)
  expr_some (written.Number value) rest = omega arith
  expr_some (written.Name name) rest = omega arith
  expr_some (written.Element array index) rest = omega (arith, expr_few index (Mark (codes "]") ∷ rest))
  expr_some (written.Apply procedure arguments) rest = omega (arith, exprs_few arguments true (Mark (codes ")") ∷ rest))
  expr_some (written.Parenthesis inside) rest = omega (arith, expr_few inside (Mark (codes ")") ∷ rest))
  expr_some (written.Unary operator operand) rest = omega (arith, expr_few operand rest)
  expr_some (written.Chain first links) rest = omega (arith, expr_some first (links_words links rest), links_few links rest)

  argument_few : (k : ArgumentKind) (e : written.Expr) (es : program.Exprs) (words : List Word) → size_of_exprs (resolve_argument scope k e es) + 2 * length words ≤ size_of_exprs es + 2 * length (expr_words e words)
  argument_few argument.Word e es words = omega (arith, expr_few e words)
  argument_few argument.Array e es words =
      let place = program.Literal (pos (array_place_of (named scope e))) in
      let size = program.Literal (array_size_of (named scope e)) in
      omega (arith, expr_some e words)
  argument_few (argument.Object kind) e es words = omega (arith, expr_some e words)

  arguments_few : (ks : List ArgumentKind) (es : written.Exprs) (first : Bool) (rest : List Word) → size_of_exprs (resolve_arguments scope ks es) + 2 * length rest ≤ 2 * length (arguments_words es first rest)
  arguments_few [] written.NoExpr first rest = omega arith
  arguments_few [] (written.MoreExprs e es) first rest = omega (arith, exprs_few (written.MoreExprs e es) first rest)
  arguments_few (k ∷ ks) written.NoExpr first rest = omega arith
  arguments_few (k ∷ ks) (written.MoreExprs e es) first rest =
      let words = arguments_words es false rest in
      omega (arith, argument_few k e (resolve_arguments scope ks es) words, arguments_few ks es false rest, comma_long first (expr_words e words))

  mutual
    stmt_few : (s : written.Stmt) (rest : List Word) → size_of_stmt (resolve_stmt scope s) + 2 * length rest ≤ 2 * length (stmt_words s rest)
    stmt_few (written.Assign target value) rest = omega (arith, expr_few value (Mark (codes ";") ∷ rest))
    stmt_few (written.AssignElement array index value) rest =
        let behind = Mark (codes "]") ∷ Mark (codes ":=") ∷ expr_words value (Mark (codes ";") ∷ rest) in
        omega (arith, expr_few index behind, expr_few value (Mark (codes ";") ∷ rest))
    stmt_few (written.If test block) rest =
        let inside = Mark (codes "{") ∷ block_words block (Mark (codes "}") ∷ rest) in
        omega (arith, expr_few test inside, block_few block (Mark (codes "}") ∷ rest))
    stmt_few (written.IfElse test block other) rest =
        let behind = Mark (codes "}") ∷ Mark (codes "else") ∷ Mark (codes "{") ∷ block_words other (Mark (codes "}") ∷ rest) in
        omega (arith, expr_few test (Mark (codes "{") ∷ block_words block behind), block_few block behind, block_few other (Mark (codes "}") ∷ rest))
    stmt_few (written.While test block) rest =
        let inside = Mark (codes "{") ∷ block_words block (Mark (codes "}") ∷ rest) in
        omega (arith, expr_few test inside, block_few block (Mark (codes "}") ∷ rest))
    stmt_few (written.Work ticks) rest = omega arith
    stmt_few (written.Return value) rest = omega (arith, expr_few value (Mark (codes ";") ∷ rest))
    stmt_few (written.CallService service arguments targets) rest =
        let places = map (λ x. place_of (scope x)) targets in
        let behind = Mark (codes ")") ∷ targets_words targets (Mark (codes ";") ∷ rest) in
        omega (arith, length-map targets (λ x. place_of (scope x)), arguments_few (arguments_of service) arguments true behind, targets_many targets (Mark (codes ";") ∷ rest))

    block_few : (b : written.Block) (rest : List Word) → size_of_block (resolve_block scope b) + 2 * length rest ≤ 2 * length (block_words b rest)
    block_few written.NoStmt rest = omega arith
    block_few (written.MoreStmts first block) rest = omega (arith, stmt_few first (block_words block rest), block_few block rest)

-- ---- bodies and declarations

local_long : (x : List ℕ) (rest : List Word) → length rest ≤ length (local_words x rest)
local_long x rest = omega arith

module _ (declared : List Entry) where
  -- the statements of a body, and its braces
  inside_few : (parameters : List (List ℕ)) (b : written.Body) (rest : List Word) → size_of_block (resolve_body_block declared parameters b) + 4 + 2 * length rest ≤ 2 * length (body_words b rest)
  inside_few parameters b rest =
      let closed = Mark (codes "}") ∷ rest in
      omega (arith, block_few (scope_of (own_entries 0 (parameters ++ b.locals)) declared) b.block closed, all_long local_words local_long b.locals (block_words b.block closed))

  body_few : (stack : Option ℕ) (b : written.Body) (rest : List Word) → size_of_body (resolve_body declared stack b) + 2 * length rest ≤ 2 * length (body_words b rest)
  body_few stack b rest = omega (arith, inside_few [] b rest)

  stack_body_few : (mark : List ℕ) (b : written.StackBody) (rest : List Word) → size_of_body (resolve_stack_body declared b) + 2 * length rest ≤ 2 * length (stack_body_words mark b rest)
  stack_body_few mark b rest = omega (arith, body_few b.stack b.body rest)

  handler_few : (h : Option written.StackBody) (rest : List Word) → size_of_handler (option_map (resolve_stack_body declared) h) + 2 * length rest ≤ 2 * length (handler_words h rest)
  handler_few None rest = omega arith
  handler_few (Some b) rest = omega (arith, stack_body_few (codes "handler") b rest)

  process_few : (p : written.Process) (rest : List Word) → size_of_process (resolve_process declared p) + 2 * length rest ≤ 2 * length (process_words p rest)
  process_few p rest =
      let behind = Mark (codes "stack") ∷ Number p.stack ∷ body_words p.body rest in
      omega (arith, body_few p.stack p.body rest, integer_long p.capacity behind, integer_long p.period (Mark (codes "capacity") ∷ integer_words p.capacity behind))

  processes_few : (ps : List written.Process) (rest : List Word) → sum_by size_of_process (map (resolve_process declared) ps) + 2 * length rest ≤ 2 * length (all_words process_words ps rest)
  processes_few [] rest = omega arith
  processes_few (p ∷ ps) rest = omega (arith, sum_by-cons size_of_process (resolve_process declared p) (map (resolve_process declared) ps), process_few p (all_words process_words ps rest), processes_few ps rest)

  kind_few : (x : List ℕ) (k : written.Kind) (ps : List program.Procedure) (rest : List Word) → sum_by size_of_procedure (cons_option (procedure_of declared k) ps) + 2 * length rest ≤ sum_by size_of_procedure ps + 2 * length (kind_words x k rest)
  kind_few x (written.Variable None) ps rest = omega arith
  kind_few x (written.Variable (Some n)) ps rest = omega (arith, integer_long n (Mark (codes ";") ∷ rest))
  kind_few x (written.Array size []) ps rest = omega arith
  kind_few x (written.Array size (n ∷ ns)) ps rest = omega (arith, all_long integer_words integer_long (n ∷ ns) (Mark (codes ";") ∷ rest))
  kind_few x (written.Semaphore first maximum d) ps rest = omega arith
  kind_few x written.Event ps rest = omega arith
  kind_few x (written.Buffer words messages d) ps rest = omega arith
  kind_few x (written.Blackboard words) ps rest = omega arith
  kind_few x written.Port ps rest = omega arith
  kind_few x (written.Procedure parameters b) ps rest =
      let made : program.Procedure = record { parameters = count_within MOST_PARAMETERS (length parameters); locals = count_within MOST_LOCALS (length b.locals); block = resolve_body_block declared parameters b } in
      omega (arith, sum_by-cons size_of_procedure made ps, inside_few parameters b rest, names_long parameters (Mark (codes ")") ∷ body_words b rest))

  declarations_few : (ds : List written.Declaration) (rest : List Word) → sum_by size_of_procedure (filter_map (λ (d : written.Declaration). procedure_of declared d.kind) ds) + 2 * length rest ≤ 2 * length (all_words declaration_words ds rest)
  declarations_few [] rest = omega arith
  declarations_few (d ∷ ds) rest =
      let others = filter_map (λ (e : written.Declaration). procedure_of declared e.kind) ds in
      omega (arith, kind_few d.name d.kind others (all_words declaration_words ds rest), declarations_few ds rest)

-- ---- the program and its text

program_few : (ports : List PortRow) (p : written.Program) → size_of (resolve ports p) ≤ 2 * length (program_words p)
unfolding program_words
program_few ports p =
    let declared = declared_entries ports p in
    let processes = all_words process_words p.processes [] in
    let handler = handler_words p.handler processes in
    let init = stack_body_words (codes "init") p.init handler in
    omega (arith, declarations_few declared p.declarations init, stack_body_few declared (codes "init") p.init handler, handler_few declared p.handler processes, processes_few declared p.processes [])

within_few : (n : ℕ) (bytes : List ℕ) → length (words_within n bytes) ≤ n
unfolding words_within
within_few zero bytes = omega arith
within_few (suc n) [] = omega arith
within_few (suc n) (b ∷ bs) = omega (arith, within_few n (behind_blanks false (word_at (b ∷ bs)).1))

words_few : (text : List ℕ) → length (words_of text) ≤ length text
unfolding words_from
words_few text = omega (arith, blanks_shorter false text, within_few (length (behind_blanks false text)) (behind_blanks false text))

-- A program has at most twice as many constructs as a text of it has bytes.
pub text_few : (ports : List PortRow) (p : written.Program) (text : List ℕ) → words_of text ≡ program_words p → size_of (resolve ports p) ≤ 2 * length text
text_few ports p text is = let same : length (words_of text) ≡ length (program_words p) = ap length is in omega (arith, program_few ports p, words_few text)
