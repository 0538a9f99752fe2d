-- More words after those that follow a thing also come after its own words.
use Rattle.std.proofs.Common.{◌≡◌, ℕ, Bool, true, false, List, [], ◌∷◌, ◌++◌, Option, Some, None, refl, ap, ◌∙◌}
use Rattle.std.specs.Prelude.{codes}
use Rattle.pal_meaning.specs.Grammar.{Word, Name, Number, ServiceWord, Mark}
use Rattle.pal_meaning.specs.Grammar.{integer_words, all_words, next_name, names_words, targets_words, comma, sign_of, operator_mark, expr_words, links_words, arguments_words, stmt_words, block_words, local_words, body_words, first_words, values_words, kind_words, declaration_words, stack_body_words, handler_words, process_words}
use Rattle.pal_meaning.specs.Syntax as tree

abbrev pub Extends : {X : Type 0} → (X → List Word → List Word) → Type 0
Extends {X} words = (x : X) (rest more : List Word) → words x (rest ++ more) ≡ words x rest ++ more

pub all_extend : {X : Type 0} (words : X → List Word → List Word) → Extends words → Extends (all_words words)
all_extend words extends [] rest more = refl
all_extend words extends (x ∷ xs) rest more = ap (words x) (all_extend words extends xs rest more) ∙ extends x (all_words words xs rest) more

pub next_name_extends : Extends next_name
next_name_extends x rest more = refl

pub names_extend : Extends names_words
names_extend [] rest more = refl
names_extend (x ∷ xs) rest more = ap (λ (ws : List Word). Name x ∷ ws) (all_extend next_name next_name_extends xs rest more)

pub targets_extend : Extends targets_words
targets_extend [] rest more = refl
targets_extend (x ∷ xs) rest more = ap (λ (ws : List Word). Mark (codes "->") ∷ ws) (names_extend (x ∷ xs) rest more)

signed_extends : (negative : Bool) (magnitude : Option ℕ) (rest more : List Word) →
    integer_words (record { negative = negative; magnitude = magnitude }) (rest ++ more) ≡ integer_words (record { negative = negative; magnitude = magnitude }) rest ++ more
signed_extends true magnitude rest more = refl
signed_extends false magnitude rest more = refl

pub integer_extends : Extends integer_words
integer_extends n rest more = signed_extends n.negative n.magnitude rest more

-- expressions
comma_extends : (first : Bool) (ws vs more : List Word) → ws ≡ vs ++ more → comma first ws ≡ comma first vs ++ more
comma_extends true ws vs more h = h
comma_extends false ws vs more h = ap (λ (us : List Word). Mark (codes ",") ∷ us) h

mutual
  pub expr_extends : (e : tree.Expr) (rest more : List Word) → expr_words e (rest ++ more) ≡ expr_words e rest ++ more
  expr_extends (tree.Number value) rest more = refl
  expr_extends (tree.Name x) rest more = refl
  expr_extends (tree.Element x i) rest more = ap (λ (ws : List Word). Name x ∷ Mark (codes "[") ∷ ws) (expr_extends i (Mark (codes "]") ∷ rest) more)
  expr_extends (tree.Apply x es) rest more = ap (λ (ws : List Word). Name x ∷ Mark (codes "(") ∷ ws) (arguments_extend es true (Mark (codes ")") ∷ rest) more)
  expr_extends (tree.Parenthesis e) rest more = ap (λ (ws : List Word). Mark (codes "(") ∷ ws) (expr_extends e (Mark (codes ")") ∷ rest) more)
  expr_extends (tree.Unary op e) rest more = ap (λ (ws : List Word). Mark (sign_of op) ∷ ws) (expr_extends e rest more)
  expr_extends (tree.Chain e ls) rest more = ap (expr_words e) (links_extend ls rest more) ∙ expr_extends e (links_words ls rest) more

  pub links_extend : (ls : tree.Links) (rest more : List Word) → links_words ls (rest ++ more) ≡ links_words ls rest ++ more
  links_extend tree.NoLink rest more = refl
  links_extend (tree.MoreLinks op e ls) rest more = ap (λ (ws : List Word). Mark (operator_mark op) ∷ ws) (ap (expr_words e) (links_extend ls rest more) ∙ expr_extends e (links_words ls rest) more)

  arguments_extend : (es : tree.Exprs) (first : Bool) (rest more : List Word) → arguments_words es first (rest ++ more) ≡ arguments_words es first rest ++ more
  arguments_extend tree.NoExpr first rest more = refl
  arguments_extend (tree.MoreExprs e es) first rest more =
      comma_extends first (expr_words e (arguments_words es false (rest ++ more))) (expr_words e (arguments_words es false rest)) more (ap (expr_words e) (arguments_extend es false rest more) ∙ expr_extends e (arguments_words es false rest) more)

pub closed_extends : (es : tree.Exprs) (rest more : List Word) → arguments_words es true (Mark (codes ")") ∷ rest ++ more) ≡ arguments_words es true (Mark (codes ")") ∷ rest) ++ more
closed_extends es rest more = arguments_extend es true (Mark (codes ")") ∷ rest) more

-- statements
abbrev closed : tree.Block → List Word → List Word
closed b rest = block_words b (Mark (codes "}") ∷ rest)

mutual
  pub stmt_extends : (s : tree.Stmt) (rest more : List Word) → stmt_words s (rest ++ more) ≡ stmt_words s rest ++ more
  stmt_extends (tree.Assign x e) rest more = ap (λ (ws : List Word). Name x ∷ Mark (codes ":=") ∷ ws) (expr_extends e (Mark (codes ";") ∷ rest) more)
  stmt_extends (tree.AssignElement x i e) rest more =
      let value = expr_words e (Mark (codes ";") ∷ rest) in
      ap (λ (ws : List Word). Name x ∷ Mark (codes "[") ∷ ws)
      (ap (λ (ws : List Word). expr_words i (Mark (codes "]") ∷ Mark (codes ":=") ∷ ws)) (expr_extends e (Mark (codes ";") ∷ rest) more) ∙ expr_extends i (Mark (codes "]") ∷ Mark (codes ":=") ∷ value) more)
  stmt_extends (tree.If e b) rest more =
      ap (λ (ws : List Word). Mark (codes "if") ∷ ws) (ap (λ (ws : List Word). expr_words e (Mark (codes "{") ∷ ws)) (block_extends b (Mark (codes "}") ∷ rest) more) ∙ expr_extends e (Mark (codes "{") ∷ closed b rest) more)
  stmt_extends (tree.IfElse e b other) rest more =
      let after = Mark (codes "else") ∷ Mark (codes "{") ∷ closed other rest in
      ap (λ (ws : List Word). Mark (codes "if") ∷ ws)
      (ap (λ (ws : List Word). expr_words e (Mark (codes "{") ∷ closed b (Mark (codes "else") ∷ Mark (codes "{") ∷ ws))) (block_extends other (Mark (codes "}") ∷ rest) more)
      ∙ ap (λ (ws : List Word). expr_words e (Mark (codes "{") ∷ ws)) (block_extends b (Mark (codes "}") ∷ after) more) ∙ expr_extends e (Mark (codes "{") ∷ closed b after) more)
  stmt_extends (tree.While e b) rest more =
      ap (λ (ws : List Word). Mark (codes "while") ∷ ws) (ap (λ (ws : List Word). expr_words e (Mark (codes "{") ∷ ws)) (block_extends b (Mark (codes "}") ∷ rest) more) ∙ expr_extends e (Mark (codes "{") ∷ closed b rest) more)
  stmt_extends (tree.Work ticks) rest more = refl
  stmt_extends (tree.Return e) rest more = ap (λ (ws : List Word). Mark (codes "return") ∷ ws) (expr_extends e (Mark (codes ";") ∷ rest) more)
  stmt_extends (tree.CallService service es xs) rest more =
      ap (λ (ws : List Word). ServiceWord service ∷ Mark (codes "(") ∷ ws)
      (ap (λ (ws : List Word). arguments_words es true (Mark (codes ")") ∷ ws)) (targets_extend xs (Mark (codes ";") ∷ rest) more) ∙ closed_extends es (targets_words xs (Mark (codes ";") ∷ rest)) more)

  block_extends : (b : tree.Block) (rest more : List Word) → block_words b (rest ++ more) ≡ block_words b rest ++ more
  block_extends tree.NoStmt rest more = refl
  block_extends (tree.MoreStmts s ss) rest more = ap (stmt_words s) (block_extends ss rest more) ∙ stmt_extends s (block_words ss rest) more

pub braced_extends : (b : tree.Block) (rest more : List Word) → block_words b (Mark (codes "}") ∷ rest ++ more) ≡ block_words b (Mark (codes "}") ∷ rest) ++ more
braced_extends b rest more = block_extends b (Mark (codes "}") ∷ rest) more

pub local_extends : Extends local_words
local_extends x rest more = refl

pub locals_extend : Extends (all_words local_words)
locals_extend xs rest more = all_extend local_words local_extends xs rest more

pub body_extends : Extends body_words
body_extends b rest more =
    ap (λ (ws : List Word). Mark (codes "{") ∷ ws) (ap (all_words local_words b.locals) (braced_extends b.block rest more) ∙ locals_extend b.locals (closed b.block rest) more)

-- declarations and processes
pub first_extends : (value : Option tree.Integer) (rest more : List Word) → first_words value (rest ++ more) ≡ first_words value rest ++ more
first_extends None rest more = refl
first_extends (Some n) rest more = ap (λ (ws : List Word). Mark (codes "=") ∷ ws) (integer_extends n rest more)

values_extend : (values : List tree.Integer) (rest more : List Word) → values_words values (rest ++ more) ≡ values_words values rest ++ more
values_extend [] rest more = refl
values_extend (n ∷ ns) rest more = ap (λ (ws : List Word). Mark (codes "=") ∷ ws) (all_extend integer_words integer_extends (n ∷ ns) rest more)

kind_extends : (x : List ℕ) (kind : tree.Kind) (rest more : List Word) → kind_words x kind (rest ++ more) ≡ kind_words x kind rest ++ more
kind_extends x (tree.Variable value) rest more = ap (λ (ws : List Word). Mark (codes "var") ∷ Name x ∷ ws) (first_extends value (Mark (codes ";") ∷ rest) more)
kind_extends x (tree.Array size values) rest more = ap (λ (ws : List Word). Mark (codes "array") ∷ Name x ∷ Mark (codes "[") ∷ Number size ∷ Mark (codes "]") ∷ ws) (values_extend values (Mark (codes ";") ∷ rest) more)
kind_extends x (tree.Semaphore first maximum d) rest more = refl
kind_extends x tree.Event rest more = refl
kind_extends x (tree.Buffer words messages d) rest more = refl
kind_extends x (tree.Blackboard words) rest more = refl
kind_extends x tree.Port rest more = refl
kind_extends x (tree.Procedure xs b) rest more =
    ap (λ (ws : List Word). Mark (codes "proc") ∷ Name x ∷ Mark (codes "(") ∷ ws)
    (ap (λ (ws : List Word). names_words xs (Mark (codes ")") ∷ ws)) (body_extends b rest more) ∙ names_extend xs (Mark (codes ")") ∷ body_words b rest) more)

pub declaration_extends : Extends declaration_words
declaration_extends d rest more = kind_extends d.name d.kind rest more

pub stack_body_extends : (mark : List ℕ) → Extends (stack_body_words mark)
stack_body_extends mark b rest more = ap (λ (ws : List Word). Mark mark ∷ Mark (codes "stack") ∷ Number b.stack ∷ ws) (body_extends b.body rest more)

pub handler_extends : Extends handler_words
handler_extends None rest more = refl
handler_extends (Some b) rest more = stack_body_extends (codes "handler") b rest more

pub process_extends : Extends process_words
process_extends p rest more =
    let last = Mark (codes "stack") ∷ Number p.stack ∷ body_words p.body rest in
    let capacity = integer_words p.capacity last in
    ap (λ (ws : List Word). Mark (codes "process") ∷ Name p.name ∷ Mark (codes "priority") ∷ Number p.priority ∷ Mark (codes "period") ∷ ws)
    (ap (λ (ws : List Word). integer_words p.period (Mark (codes "capacity") ∷ integer_words p.capacity (Mark (codes "stack") ∷ Number p.stack ∷ ws))) (body_extends p.body rest more)
    ∙ ap (λ (ws : List Word). integer_words p.period (Mark (codes "capacity") ∷ ws)) (integer_extends p.capacity last more)
    ∙ integer_extends p.period (Mark (codes "capacity") ∷ capacity) more)
