-- A walk finds nothing if and only if nothing was found before it and each of its words is fine.
use Rattle.finding_laws.proofs.Prelude.{◌≡◌, ℕ, ◌+◌, Bool, cond, ◌&&◌, ◌∷◌, ◌++◌, Option, Some, ◌∙◌, nat_lt, arguments_of, GREATEST_PRIORITY, LEAST_STACK_WORDS, MOST_DEPTH, MOST_LOCALS, MOST_PARAMETERS, MOST_PROCESSES, MOST_SEMAPHORE_VALUE, MOST_STACK_WORDS, MOST_WORDS, MOST_WORK_TICKS, ArgumentKind, Service, Refusal, expr_count, has_none, body_frame, held, procedure_frame, Judge, arguments_wrong, by_limit, capacity_wrong, frame_wrong, many_wrong, name_wrong, new_wrong, no_name_wrong, number_wrong, outside_wrong, period_wrong, return_wrong, targets_wrong, Entry, declaration_entry, own_entry, process_entry, Tally, counted, no_tally, tally_wrong, all_given, block, comma, expr, exprs, given, links, service_call, stmt, targets, used, State, What, Wrong, noted, pushed, step, Role}
use Rattle.std.proofs.Common.{true, false, List, [], length, None, is_none, refl, sym, ap}
use Rattle.apex_types.specs.declared.shape.ArgumentKind.TheVariants as argument
use Rattle.pal_meaning.specs.Lines.{from_word}
use Rattle.pal_meaning.specs.Syntax as written
use Rattle.source_findings.specs.Bodies as walk
use Rattle.source_findings.specs.Walk.{element, named}
use Rattle.source_findings.specs.What.{judged}
use Rattle.source_findings.specs.declared.finding.Many.TheVariants as many
use Rattle.source_findings.specs.declared.finding.Thing.TheVariants as thing
use Rattle.source_findings.specs.declared.roles.Role.TheVariants as role

abbrev pub clean : State → Bool
clean s = has_none s.found

pub and_assoc : (a b c : Bool) → ((a && b) && c) ≡ (a && (b && c))
and_assoc true b c = refl
and_assoc false b c = refl

pub and_true : (a : Bool) → (a && true) ≡ a
and_true true = refl
and_true false = refl

-- two parts of a walk, from `s` to `t` and on
pub then_ : (s t : State) (b c : Bool) {x : Bool} → x ≡ (clean t && c) → clean t ≡ (clean s && b) → x ≡ (clean s && (b && c))
then_ s t b c p q = p ∙ ap (λ z. z && c) q ∙ and_assoc (clean s) b c

some_before : (t : Bool) (what : Option What) (text : List ℕ) (w : Wrong) (ws : List Wrong)
    → has_none (cond t (pushed what (record { text = text; found = w ∷ ws })) (record { text = text; found = w ∷ ws })).found ≡ false
some_before true None text w ws = refl
some_before true (Some what) text w ws = refl
some_before false what text w ws = refl

noted_with : (what : Option What) (text : List ℕ) (found : List Wrong) → has_none (noted what (record { text = text; found = found })).found ≡ (has_none found && is_none what)
noted_with None text [] = refl
noted_with (Some what) text [] = refl
noted_with what text (w ∷ ws) = some_before (nat_lt (length (w ∷ ws)) 20) what text w ws

pub clean_noted : (what : Option What) (s : State) → clean (noted what s) ≡ (clean s && is_none what)
clean_noted what s = noted_with what s.text s.found

pub clean_comma : (first : Bool) (s : State) → clean (comma first s) ≡ clean s
clean_comma true s = refl
clean_comma false s = refl

-- ---- expressions

abbrev pub fine_name : Judge → Role → List ℕ → Bool
fine_name j wanted name = is_none (name_wrong j name wanted)

abbrev mutual
  pub fine_expr : Judge → written.Expr → Bool
  fine_expr j (written.Number value) = is_none (number_wrong j.rule value)
  fine_expr j (written.Name name) = fine_name j role.Variable name
  fine_expr j (written.Element array index) = fine_name j role.Array array && fine_expr j index
  fine_expr j (written.Apply procedure arguments) = fine_name j (role.Procedure (expr_count arguments)) procedure && fine_exprs j arguments
  fine_expr j (written.Parenthesis inside) = fine_expr j inside
  fine_expr j (written.Unary operator operand) = fine_expr j operand
  fine_expr j (written.Chain first rest) = fine_expr j first && fine_links j rest

  pub fine_links : Judge → written.Links → Bool
  fine_links j written.NoLink = true
  fine_links j (written.MoreLinks operator operand rest) = fine_expr j operand && fine_links j rest

  pub fine_exprs : Judge → written.Exprs → Bool
  fine_exprs j written.NoExpr = true
  fine_exprs j (written.MoreExprs e es) = fine_expr j e && fine_exprs j es

clean_used : (j : Judge) (wanted : Role) (name : List ℕ) (s : State) → clean (used j wanted name s) ≡ (clean s && fine_name j wanted name)
clean_used j wanted name s = clean_noted (name_wrong j name wanted) s

mutual
  pub clean_expr : (j : Judge) (e : written.Expr) (s : State) → clean (expr j e s) ≡ (clean s && fine_expr j e)
  clean_expr j (written.Number value) s = clean_noted (number_wrong j.rule value) s
  clean_expr j (written.Name name) s = clean_used j role.Variable name s
  clean_expr j (written.Element array index) s = then_ s (used j role.Array array s) (fine_name j role.Array array) (fine_expr j index) (clean_expr j index (step (used j role.Array array s))) (clean_used j role.Array array s)
  clean_expr j (written.Apply procedure arguments) s =
      let wanted : Role = role.Procedure (expr_count arguments) in then_ s (used j wanted procedure s) (fine_name j wanted procedure) (fine_exprs j arguments) (clean_exprs j arguments true (step (used j wanted procedure s))) (clean_used j wanted procedure s)
  clean_expr j (written.Parenthesis inside) s = clean_expr j inside (step s)
  clean_expr j (written.Unary operator operand) s = clean_expr j operand (step s)
  clean_expr j (written.Chain first rest) s = then_ s (expr j first s) (fine_expr j first) (fine_links j rest) (clean_links j rest (expr j first s)) (clean_expr j first s)

  pub clean_links : (j : Judge) (ls : written.Links) (s : State) → clean (links j ls s) ≡ (clean s && fine_links j ls)
  clean_links j written.NoLink s = sym (and_true (clean s))
  clean_links j (written.MoreLinks operator operand rest) s = then_ s (expr j operand (step s)) (fine_expr j operand) (fine_links j rest) (clean_links j rest (expr j operand (step s))) (clean_expr j operand (step s))

  pub clean_exprs : (j : Judge) (es : written.Exprs) (first : Bool) (s : State) → clean (exprs j es first s) ≡ (clean s && fine_exprs j es)
  clean_exprs j written.NoExpr first s = sym (and_true (clean s))
  clean_exprs j (written.MoreExprs e es) first s =
      then_ s (expr j e (comma first s)) (fine_expr j e) (fine_exprs j es) (clean_exprs j es false (expr j e (comma first s))) (clean_expr j e (comma first s) ∙ ap (λ b. b && fine_expr j e) (clean_comma first s))

-- ---- services

abbrev pub fine_named : Judge → Role → written.Expr → Bool
fine_named j wanted (written.Name name) = fine_name j wanted name
fine_named j wanted e = is_none (no_name_wrong j.rule wanted) && fine_expr j e

abbrev pub fine_given : Judge → ArgumentKind → written.Expr → Bool
fine_given j argument.Word e = fine_expr j e
fine_given j argument.Array e = fine_named j role.Array e
fine_given j (argument.Object kind) e = fine_named j (role.Object kind) e

abbrev pub fine_all_given : Judge → List ArgumentKind → written.Exprs → Bool
fine_all_given j ks written.NoExpr = true
fine_all_given j [] (written.MoreExprs e es) = fine_expr j e && fine_all_given j [] es
fine_all_given j (k ∷ ks) (written.MoreExprs e es) = fine_given j k e && fine_all_given j ks es

clean_no_name : (j : Judge) (wanted : Role) (e : written.Expr) (s : State) → clean (expr j e (noted (no_name_wrong j.rule wanted) s)) ≡ (clean s && (is_none (no_name_wrong j.rule wanted) && fine_expr j e))
clean_no_name j wanted e s = then_ s (noted (no_name_wrong j.rule wanted) s) (is_none (no_name_wrong j.rule wanted)) (fine_expr j e) (clean_expr j e (noted (no_name_wrong j.rule wanted) s)) (clean_noted (no_name_wrong j.rule wanted) s)

clean_named : (j : Judge) (wanted : Role) (e : written.Expr) (s : State) → clean (named j wanted e s) ≡ (clean s && fine_named j wanted e)
clean_named j wanted (written.Name name) s = clean_used j wanted name s
clean_named j wanted (written.Number value) s = clean_no_name j wanted (written.Number value) s
clean_named j wanted (written.Element array index) s = clean_no_name j wanted (written.Element array index) s
clean_named j wanted (written.Apply procedure arguments) s = clean_no_name j wanted (written.Apply procedure arguments) s
clean_named j wanted (written.Parenthesis inside) s = clean_no_name j wanted (written.Parenthesis inside) s
clean_named j wanted (written.Unary operator operand) s = clean_no_name j wanted (written.Unary operator operand) s
clean_named j wanted (written.Chain first rest) s = clean_no_name j wanted (written.Chain first rest) s

clean_given : (j : Judge) (k : ArgumentKind) (e : written.Expr) (s : State) → clean (given j k e s) ≡ (clean s && fine_given j k e)
clean_given j argument.Word e s = clean_expr j e s
clean_given j argument.Array e s = clean_named j role.Array e s
clean_given j (argument.Object kind) e s = clean_named j (role.Object kind) e s

clean_all_given : (j : Judge) (ks : List ArgumentKind) (es : written.Exprs) (first : Bool) (s : State) → clean (all_given j ks es first s) ≡ (clean s && fine_all_given j ks es)
clean_all_given j ks written.NoExpr first s = sym (and_true (clean s))
clean_all_given j [] (written.MoreExprs e es) first s =
    then_ s (expr j e (comma first s)) (fine_expr j e) (fine_all_given j [] es) (clean_all_given j [] es false (expr j e (comma first s))) (clean_expr j e (comma first s) ∙ ap (λ b. b && fine_expr j e) (clean_comma first s))
clean_all_given j (k ∷ ks) (written.MoreExprs e es) first s =
    then_ s (given j k e (comma first s)) (fine_given j k e) (fine_all_given j ks es) (clean_all_given j ks es false (given j k e (comma first s))) (clean_given j k e (comma first s) ∙ ap (λ b. b && fine_given j k e) (clean_comma first s))

abbrev pub fine_targets : Judge → List (List ℕ) → Bool
fine_targets j [] = true
fine_targets j (name ∷ names) = fine_name j role.Variable name && fine_targets j names

clean_targets : (j : Judge) (names : List (List ℕ)) (s : State) → clean (targets j names s) ≡ (clean s && fine_targets j names)
clean_targets j [] s = sym (and_true (clean s))
clean_targets j (name ∷ names) s = then_ s (used j role.Variable name (step s)) (fine_name j role.Variable name) (fine_targets j names) (clean_targets j names (used j role.Variable name (step s))) (clean_used j role.Variable name (step s))

abbrev pub fine_call : Judge → Service → written.Exprs → List (List ℕ) → Bool
fine_call j service es names =
    is_none (arguments_wrong j.rule service (expr_count es)) && (is_none (targets_wrong j.rule service (length names)) && (fine_all_given j (arguments_of service) es && fine_targets j names))

clean_call : (j : Judge) (service : Service) (es : written.Exprs) (names : List (List ℕ)) (s : State) → clean (service_call j service es names s) ≡ (clean s && fine_call j service es names)
clean_call j service es names s =
    let one : State = noted (arguments_wrong j.rule service (expr_count es)) s in
    let two : State = judged (targets_wrong j.rule service (length names)) one in
    let three : State = all_given j (arguments_of service) es true (step two) in
    let b : Bool = is_none (targets_wrong j.rule service (length names)) in
    let c : Bool = fine_all_given j (arguments_of service) es in
    let d : Bool = fine_targets j names in
    then_ s one (is_none (arguments_wrong j.rule service (expr_count es))) (b && (c && d))
    (then_ one two b (c && d) (then_ two three c d (clean_targets j names (step three)) (clean_all_given j (arguments_of service) es true (step two))) (clean_noted (targets_wrong j.rule service (length names)) one))
    (clean_noted (arguments_wrong j.rule service (expr_count es)) s)

-- ---- statements

abbrev mutual
  pub fine_stmt : Judge → Bool → written.Stmt → Bool
  fine_stmt j returns (written.Assign target value) = fine_name j role.Variable target && fine_expr j value
  fine_stmt j returns (written.AssignElement array index value) = fine_name j role.Array array && (fine_expr j index && fine_expr j value)
  fine_stmt j returns (written.If test inside) = fine_expr j test && fine_block j returns inside
  fine_stmt j returns (written.IfElse test inside other) = fine_expr j test && (fine_block j returns inside && fine_block j returns other)
  fine_stmt j returns (written.While test inside) = fine_expr j test && fine_block j returns inside
  fine_stmt j returns (written.Work ticks) = is_none (outside_wrong j.rule thing.Work 1 MOST_WORK_TICKS ticks)
  fine_stmt j returns (written.Return value) = is_none (return_wrong j.rule returns) && fine_expr j value
  fine_stmt j returns (written.CallService service es names) = fine_call j service es names

  pub fine_block : Judge → Bool → written.Block → Bool
  fine_block j returns written.NoStmt = true
  fine_block j returns (written.MoreStmts first rest) = fine_stmt j returns first && fine_block j returns rest

mutual
  pub clean_stmt : (j : Judge) (returns : Bool) (t : written.Stmt) (s : State) → clean (stmt j returns t s) ≡ (clean s && fine_stmt j returns t)
  clean_stmt j returns (written.Assign target value) s = then_ s (used j role.Variable target s) (fine_name j role.Variable target) (fine_expr j value) (clean_expr j value (step (used j role.Variable target s))) (clean_used j role.Variable target s)
  clean_stmt j returns (written.AssignElement array index value) s =
      then_ s (used j role.Array array s) (fine_name j role.Array array) (fine_expr j index && fine_expr j value)
      (then_ (used j role.Array array s) (element j array index s) (fine_expr j index) (fine_expr j value) (clean_expr j value (step (element j array index s))) (clean_expr j index (step (used j role.Array array s)))) (clean_used j role.Array array s)
  clean_stmt j returns (written.If test inside) s = then_ s (expr j test (step s)) (fine_expr j test) (fine_block j returns inside) (clean_block j returns inside (step (expr j test (step s)))) (clean_expr j test (step s))
  clean_stmt j returns (written.IfElse test inside other) s =
      let one : State = expr j test (step s) in
      let two : State = block j returns inside (step one) in
      then_ s one (fine_expr j test) (fine_block j returns inside && fine_block j returns other)
      (then_ one two (fine_block j returns inside) (fine_block j returns other) (clean_block j returns other (step (step (step two)))) (clean_block j returns inside (step one))) (clean_expr j test (step s))
  clean_stmt j returns (written.While test inside) s = then_ s (expr j test (step s)) (fine_expr j test) (fine_block j returns inside) (clean_block j returns inside (step (expr j test (step s)))) (clean_expr j test (step s))
  clean_stmt j returns (written.Work ticks) s = clean_noted (outside_wrong j.rule thing.Work 1 MOST_WORK_TICKS ticks) (step s)
  clean_stmt j returns (written.Return value) s = then_ s (judged (return_wrong j.rule returns) s) (is_none (return_wrong j.rule returns)) (fine_expr j value) (clean_expr j value (judged (return_wrong j.rule returns) s)) (clean_noted (return_wrong j.rule returns) s)
  clean_stmt j returns (written.CallService service es names) s = clean_call j service es names s

  pub clean_block : (j : Judge) (returns : Bool) (b : written.Block) (s : State) → clean (block j returns b s) ≡ (clean s && fine_block j returns b)
  clean_block j returns written.NoStmt s = sym (and_true (clean s))
  clean_block j returns (written.MoreStmts first rest) s = then_ s (stmt j returns first s) (fine_stmt j returns first) (fine_block j returns rest) (clean_block j returns rest (step (stmt j returns first s))) (clean_stmt j returns first s)

-- ---- bodies

abbrev pub fine_new : Judge → List ℕ → Bool
fine_new j name = is_none (new_wrong j name)

abbrev pub fine_own : Judge → List Entry → List (List ℕ) → Bool
fine_own j before [] = true
fine_own j before (name ∷ names) = fine_new (walk.within j before) name && fine_own j (before ++ own_entry name ∷ []) names

clean_parameters : (j : Judge) (before : List Entry) (names : List (List ℕ)) (first : Bool) (s : State) → clean (walk.parameters j before names first s) ≡ (clean s && fine_own j before names)
clean_parameters j before [] first s = sym (and_true (clean s))
clean_parameters j before (name ∷ names) first s =
    then_ s (walk.own_name j before name (comma first s)) (fine_new (walk.within j before) name) (fine_own j (before ++ own_entry name ∷ []) names) (clean_parameters j (before ++ own_entry name ∷ []) names false (walk.own_name j before name (comma first s)))
    (clean_noted (new_wrong (walk.within j before) name) (comma first s) ∙ ap (λ b. b && fine_new (walk.within j before) name) (clean_comma first s))

clean_locals : (j : Judge) (before : List Entry) (names : List (List ℕ)) (s : State) → clean (walk.locals j before names s) ≡ (clean s && fine_own j before names)
clean_locals j before [] s = sym (and_true (clean s))
clean_locals j before (name ∷ names) s =
    then_ s (walk.own_name j before name (step s)) (fine_new (walk.within j before) name) (fine_own j (before ++ own_entry name ∷ []) names) (clean_locals j (before ++ own_entry name ∷ []) names (step (walk.own_name j before name (step s)))) (clean_noted (new_wrong (walk.within j before) name) (step s))

abbrev pub fine_body : Judge → Bool → List Entry → Option What → written.Body → Bool
fine_body j returns before frame b =
    is_none frame && (is_none (many_wrong j.rule many.Locals (length b.locals) MOST_LOCALS) && (fine_own j before b.locals && fine_block (walk.within j (walk.with_own before b.locals)) returns b.block))

clean_body : (j : Judge) (returns : Bool) (before : List Entry) (frame : Option What) (b : written.Body) (s : State) → clean (walk.body j returns before frame b s) ≡ (clean s && fine_body j returns before frame b)
clean_body j returns before frame b s =
    let inner : Judge = walk.within j (walk.with_own before b.locals) in
    let one : State = noted frame s in
    let two : State = judged (many_wrong j.rule many.Locals (length b.locals) MOST_LOCALS) one in
    let f : Bool = is_none (many_wrong j.rule many.Locals (length b.locals) MOST_LOCALS) in
    let g : Bool = fine_own j before b.locals in
    let h : Bool = fine_block inner returns b.block in
    then_ s one (is_none frame) (f && (g && h))
    (then_ one two f (g && h) (then_ two (walk.locals j before b.locals two) g h (clean_block inner returns b.block (walk.locals j before b.locals two)) (clean_locals j before b.locals two))
    (clean_noted (many_wrong j.rule many.Locals (length b.locals) MOST_LOCALS) one)) (clean_noted frame s)

abbrev pub fine_stack : Judge → Option ℕ → written.Body → Bool
fine_stack j stack b = is_none (outside_wrong j.rule thing.Stack LEAST_STACK_WORDS MOST_STACK_WORDS stack) && fine_body j false [] (frame_wrong j.rule (body_frame b) stack) b

clean_stack : (j : Judge) (stack : Option ℕ) (b : written.Body) (s : State) → clean (walk.stack_and_body j stack b s) ≡ (clean s && fine_stack j stack b)
clean_stack j stack b s =
    let wrong : Option What = outside_wrong j.rule thing.Stack LEAST_STACK_WORDS MOST_STACK_WORDS stack in
    then_ (step s) (judged wrong (step s)) (is_none wrong) (fine_body j false [] (frame_wrong j.rule (body_frame b) stack) b) (clean_body j false [] (frame_wrong j.rule (body_frame b) stack) b (judged wrong (step s))) (clean_noted wrong (step s))

abbrev pub fine_handler : Judge → Option written.StackBody → Bool
fine_handler j None = true
fine_handler j (Some b) = fine_stack j b.stack b.body

clean_handler : (j : Judge) (h : Option written.StackBody) (s : State) → clean (walk.handler j h s) ≡ (clean s && fine_handler j h)
clean_handler j None s = sym (and_true (clean s))
clean_handler j (Some b) s = clean_stack j b.stack b.body (step s)

-- ---- declarations

clean_signed : (what : Option What) (n : written.Integer) (s : State) → clean (walk.signed what n s) ≡ (clean s && is_none what)
clean_signed what n s = by n.negative
  where
    by : (b : Bool) → clean (cond b (step (judged what s)) (judged what s)) ≡ (clean s && is_none what)
    by true = clean_noted what s
    by false = clean_noted what s

abbrev pub fine_words : Judge → List written.Integer → Bool
fine_words j [] = true
fine_words j (n ∷ ns) = is_none (number_wrong j.rule n.magnitude) && fine_words j ns

clean_words : (j : Judge) (ns : List written.Integer) (s : State) → clean (walk.words j ns s) ≡ (clean s && fine_words j ns)
clean_words j [] s = sym (and_true (clean s))
clean_words j (n ∷ ns) s = then_ s (walk.word j n s) (is_none (number_wrong j.rule n.magnitude)) (fine_words j ns) (clean_words j ns (walk.word j n s)) (clean_signed (number_wrong j.rule n.magnitude) n s)

clean_first_values : (j : Judge) (ns : List written.Integer) (s : State) → clean (walk.first_values j ns s) ≡ (clean s && fine_words j ns)
clean_first_values j [] s = sym (and_true (clean s))
clean_first_values j (n ∷ ns) s = clean_words j (n ∷ ns) (step s)

abbrev pub fine_row : Judge → written.Kind → Bool
fine_row j (written.Variable None) = true
fine_row j (written.Variable (Some n)) = is_none (number_wrong j.rule n.magnitude)
fine_row j (written.Array size values) = is_none (by_limit j.rule (walk.size_wrong (length values) size)) && fine_words j values
fine_row j (written.Semaphore first maximum discipline) = is_none (by_limit j.rule (walk.first_wrong first maximum)) && is_none (outside_wrong j.rule thing.Maximum 1 MOST_SEMAPHORE_VALUE maximum)
fine_row j written.Event = true
fine_row j (written.Buffer size messages discipline) = is_none (outside_wrong j.rule thing.Words 1 MOST_WORDS size) && is_none (outside_wrong j.rule thing.Messages 1 MOST_DEPTH messages)
fine_row j (written.Blackboard size) = is_none (outside_wrong j.rule thing.Words 1 MOST_WORDS size)
fine_row j written.Port = true
fine_row j (written.Procedure names b) =
    is_none (many_wrong j.rule many.Parameters (length names) MOST_PARAMETERS)
    && (fine_own j [] names && fine_body j true (walk.with_own [] names) (many_wrong j.rule many.FrameWords (procedure_frame names b) MOST_STACK_WORDS) b)

clean_kind : (j : Judge) (k : written.Kind) (s : State) → clean (walk.kind j k s) ≡ (clean s && fine_row j k)
clean_kind j (written.Variable None) s = sym (and_true (clean s))
clean_kind j (written.Variable (Some n)) s = clean_signed (number_wrong j.rule n.magnitude) n (step s)
clean_kind j (written.Array size values) s =
    let wrong : Option What = by_limit j.rule (walk.size_wrong (length values) size) in
    then_ (step s) (judged wrong (step s)) (is_none wrong) (fine_words j values) (clean_first_values j values (step (judged wrong (step s)))) (clean_noted wrong (step s))
clean_kind j (written.Semaphore first maximum discipline) s =
    let wrong : Option What = by_limit j.rule (walk.first_wrong first maximum) in
    then_ s (judged wrong s) (is_none wrong) (is_none (outside_wrong j.rule thing.Maximum 1 MOST_SEMAPHORE_VALUE maximum)) (clean_noted (outside_wrong j.rule thing.Maximum 1 MOST_SEMAPHORE_VALUE maximum) (judged wrong s)) (clean_noted wrong s)
clean_kind j written.Event s = sym (and_true (clean s))
clean_kind j (written.Buffer size messages discipline) s =
    let wrong : Option What = outside_wrong j.rule thing.Words 1 MOST_WORDS size in
    then_ s (judged wrong s) (is_none wrong) (is_none (outside_wrong j.rule thing.Messages 1 MOST_DEPTH messages)) (clean_noted (outside_wrong j.rule thing.Messages 1 MOST_DEPTH messages) (judged wrong s)) (clean_noted wrong s)
clean_kind j (written.Blackboard size) s = clean_noted (outside_wrong j.rule thing.Words 1 MOST_WORDS size) s
clean_kind j written.Port s = sym (and_true (clean s))
clean_kind j (written.Procedure names b) s =
    let wrong : Option What = many_wrong j.rule many.Parameters (length names) MOST_PARAMETERS in
    let one : State = judged wrong s in
    let two : State = walk.parameters j [] names true one in
    let frame : Option What = many_wrong j.rule many.FrameWords (procedure_frame names b) MOST_STACK_WORDS in
    let f : Bool = fine_own j [] names in
    let g : Bool = fine_body j true (walk.with_own [] names) frame b in
    then_ s one (is_none wrong) (f && g) (then_ one two f g (clean_body j true (walk.with_own [] names) frame b (step two)) (clean_parameters j [] names true one)) (clean_noted wrong s)

abbrev pub fine_declaration : Judge → List Entry → Tally → written.Declaration → Bool
fine_declaration j before tally d = is_none (tally_wrong j.rule tally d.kind) && (fine_new (walk.among j before) d.name && fine_row j d.kind)

clean_declaration : (j : Judge) (before : List Entry) (tally : Tally) (d : written.Declaration) (s : State) → clean (walk.declaration j before tally d s) ≡ (clean s && fine_declaration j before tally d)
clean_declaration j before tally d s =
    let one : State = judged (tally_wrong j.rule tally d.kind) s in
    let two : State = walk.declared_name j before d.name one in
    let f : Bool = fine_new (walk.among j before) d.name in
    then_ s one (is_none (tally_wrong j.rule tally d.kind)) (f && fine_row j d.kind)
    (then_ one two f (fine_row j d.kind) (clean_kind j d.kind two) (clean_noted (new_wrong (walk.among j before) d.name) one)) (clean_noted (tally_wrong j.rule tally d.kind) s)

abbrev pub fine_declarations : Judge → List Entry → Tally → List written.Declaration → Bool
fine_declarations j before tally [] = true
fine_declarations j before tally (d ∷ ds) = fine_declaration j before (counted tally d.kind) d && fine_declarations j (before ++ declaration_entry d ∷ []) (counted tally d.kind) ds

clean_declarations : (j : Judge) (before : List Entry) (tally : Tally) (ds : List written.Declaration) (s : State) → clean (walk.declarations j before tally ds s) ≡ (clean s && fine_declarations j before tally ds)
clean_declarations j before tally [] s = sym (and_true (clean s))
clean_declarations j before tally (d ∷ ds) s =
    then_ s (walk.declaration j before (counted tally d.kind) d s) (fine_declaration j before (counted tally d.kind) d) (fine_declarations j (before ++ declaration_entry d ∷ []) (counted tally d.kind) ds) (clean_declarations j (before ++ declaration_entry d ∷ []) (counted tally d.kind) ds (walk.declaration j before (counted tally d.kind) d s)) (clean_declaration j before (counted tally d.kind) d s)

-- ---- processes

abbrev pub fine_process : Judge → List Entry → ℕ → written.Process → Bool
fine_process j before number p =
    is_none (many_wrong j.rule many.Processes number MOST_PROCESSES) && (fine_new (walk.among j before) p.name
    && (is_none (outside_wrong j.rule thing.Priority 1 GREATEST_PRIORITY p.priority) && (is_none (period_wrong j.rule j.period p.period)
    && (is_none (capacity_wrong j.rule p.capacity) && fine_stack j p.stack p.body))))

clean_process : (j : Judge) (before : List Entry) (number : ℕ) (p : written.Process) (s : State) → clean (walk.process j before number p s) ≡ (clean s && fine_process j before number p)
clean_process j before number p s =
    let one : State = judged (many_wrong j.rule many.Processes number MOST_PROCESSES) s in
    let two : State = walk.declared_name j before p.name one in
    let three : State = judged (outside_wrong j.rule thing.Priority 1 GREATEST_PRIORITY p.priority) (step two) in
    let four : State = walk.signed (period_wrong j.rule j.period p.period) p.period (step three) in
    let five : State = walk.signed (capacity_wrong j.rule p.capacity) p.capacity (step four) in
    let a : Bool = is_none (many_wrong j.rule many.Processes number MOST_PROCESSES) in
    let b : Bool = fine_new (walk.among j before) p.name in
    let c : Bool = is_none (outside_wrong j.rule thing.Priority 1 GREATEST_PRIORITY p.priority) in
    let d : Bool = is_none (period_wrong j.rule j.period p.period) in
    let e : Bool = is_none (capacity_wrong j.rule p.capacity) in
    let f : Bool = fine_stack j p.stack p.body in
    then_ s one a (b && (c && (d && (e && f))))
    (then_ one two b (c && (d && (e && f)))
    (then_ two three c (d && (e && f))
    (then_ three four d (e && f)
    (then_ four five e f (clean_stack j p.stack p.body five)
    (clean_signed (capacity_wrong j.rule p.capacity) p.capacity (step four)))
    (clean_signed (period_wrong j.rule j.period p.period) p.period (step three)))
    (clean_noted (outside_wrong j.rule thing.Priority 1 GREATEST_PRIORITY p.priority) (step two)))
    (clean_noted (new_wrong (walk.among j before) p.name) one))
    (clean_noted (many_wrong j.rule many.Processes number MOST_PROCESSES) s)

abbrev pub fine_processes : Judge → List Entry → ℕ → List written.Process → Bool
fine_processes j before count [] = true
fine_processes j before count (p ∷ ps) = fine_process j before (held (count + 1)) p && fine_processes j (before ++ process_entry p ∷ []) (held (count + 1)) ps

clean_processes : (j : Judge) (before : List Entry) (count : ℕ) (ps : List written.Process) (s : State) → clean (walk.processes j before count ps s) ≡ (clean s && fine_processes j before count ps)
clean_processes j before count [] s = sym (and_true (clean s))
clean_processes j before count (p ∷ ps) s =
    then_ s (walk.process j before (held (count + 1)) p s) (fine_process j before (held (count + 1)) p) (fine_processes j (before ++ process_entry p ∷ []) (held (count + 1)) ps) (clean_processes j (before ++ process_entry p ∷ []) (held (count + 1)) ps (walk.process j before (held (count + 1)) p s)) (clean_process j before (held (count + 1)) p s)

-- ---- the program

abbrev pub fine_program : Judge → written.Program → Bool
fine_program j p =
    fine_declarations j [] no_tally p.declarations && (fine_stack j p.init.stack p.init.body && (fine_handler j p.handler && fine_processes j (walk.all_before [] p.declarations) 0 p.processes))

pub clean_program : (j : Judge) (p : written.Program) (s : State) → clean (walk.program j p s) ≡ (clean s && fine_program j p)
clean_program j p s =
    let one : State = walk.declarations j [] no_tally p.declarations s in
    let two : State = walk.stack_body j p.init one in
    let three : State = walk.handler j p.handler two in
    let a : Bool = fine_declarations j [] no_tally p.declarations in
    let b : Bool = fine_stack j p.init.stack p.init.body in
    let c : Bool = fine_handler j p.handler in
    let d : Bool = fine_processes j (walk.all_before [] p.declarations) 0 p.processes in
    then_ s one a (b && (c && d))
    (then_ one two b (c && d) (then_ two three c d (clean_processes j (walk.all_before [] p.declarations) 0 p.processes three) (clean_handler j p.handler two)) (clean_stack j p.init.stack p.init.body (step one)))
    (clean_declarations j [] no_tally p.declarations s)

pub none_found : (rule : Refusal) (period : ℕ) (text : List ℕ) (p : written.Program) → has_none (walk.wrongs rule period text p) ≡ fine_program (walk.judge_of rule period p) p
none_found rule period text p = clean_program (walk.judge_of rule period p) p (record { text = from_word 0 text; found = [] })
