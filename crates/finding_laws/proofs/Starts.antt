-- Where the bodies of a program begin among its words: no other part of a program has the words that they begin with.
use Rattle.finding_laws.proofs.Prelude.{◌≡◌, ℕ, Bool, cond, ◌||◌, ◌∷◌, Option, Some, ◌∙◌, Number, ServiceWord, all_words, arguments_words, block_words, body_words, expr_words, first_words, integer_words, kind_words, links_words, local_words, names_words, next_name, process_words, stack_body_words, stmt_words, targets_words, values_words}
use Rattle.std.proofs.Common.{true, false, List, [], None, refl, ap}
use Rattle.std.specs.Prelude.{codes}
use Rattle.apex_types.specs.declared.codes.Discipline.{Discipline}
use Rattle.apex_types.specs.declared.codes.Discipline.TheVariants as discipline
use Rattle.apex_types.specs.declared.instruction.BinaryOperator.{BinaryOperator}
use Rattle.apex_types.specs.declared.instruction.BinaryOperator.TheVariants as binary
use Rattle.apex_types.specs.declared.instruction.UnaryOperator.{UnaryOperator}
use Rattle.apex_types.specs.declared.instruction.UnaryOperator.TheVariants as unary
use Rattle.engine_meaning.specs.Digits.{same}
use Rattle.pal_meaning.specs.Grammar.{Word, Mark, Name, Stray, discipline_word, operator_mark, sign_of}
use Rattle.pal_meaning.specs.Syntax as tree

-- the first word of a body
abbrev pub opens : Word → Bool
opens (Mark text) = same text (codes "init") || same text (codes "handler") || same text (codes "process") || same text (codes "proc")
opens (Name text) = false
opens (Number value) = false
opens (ServiceWord service) = false
opens Stray = false

-- the words from each such word on
abbrev pub starts : List Word → List (List Word)
starts [] = []
starts (w ∷ ws) = cond (opens w) ((w ∷ ws) ∷ starts ws) (starts ws)

skip : (w : Word) (ws : List Word) → opens w ≡ false → starts (w ∷ ws) ≡ starts ws
skip w ws is = ap (λ t. cond t ((w ∷ ws) ∷ starts ws) (starts ws)) is

all_pass : {X : Type 0} (words : X → List Word → List Word) → ((x : X) (rest : List Word) → starts (words x rest) ≡ starts rest) → (xs : List X) (rest : List Word) → starts (all_words words xs rest) ≡ starts rest
all_pass words pass [] rest = refl
all_pass words pass (x ∷ xs) rest = pass x (all_words words xs rest) ∙ all_pass words pass xs rest

names_pass : (xs : List (List ℕ)) (rest : List Word) → starts (names_words xs rest) ≡ starts rest
names_pass [] rest = refl
names_pass (x ∷ xs) rest = all_pass next_name (λ y others. refl) xs rest

targets_pass : (xs : List (List ℕ)) (rest : List Word) → starts (targets_words xs rest) ≡ starts rest
targets_pass [] rest = refl
targets_pass (x ∷ xs) rest = names_pass (x ∷ xs) rest

integer_pass : (n : tree.Integer) (rest : List Word) → starts (integer_words n rest) ≡ starts rest
integer_pass n rest = by n.negative
  where
    by : (negative : Bool) → starts (cond negative (Mark (codes "-") ∷ Number n.magnitude ∷ rest) (Number n.magnitude ∷ rest)) ≡ starts rest
    by true = refl
    by false = refl

sign_plain : (op : UnaryOperator) → opens (Mark (sign_of op)) ≡ false
sign_plain unary.Negate = refl
sign_plain unary.Not = refl

operator_plain : (op : BinaryOperator) → opens (Mark (operator_mark op)) ≡ false
operator_plain binary.Add = refl
operator_plain binary.Subtract = refl
operator_plain binary.Multiply = refl
operator_plain binary.Divide = refl
operator_plain binary.Remainder = refl
operator_plain binary.Equal = refl
operator_plain binary.NotEqual = refl
operator_plain binary.Less = refl
operator_plain binary.LessOrEqual = refl
operator_plain binary.Greater = refl
operator_plain binary.GreaterOrEqual = refl
operator_plain binary.And = refl
operator_plain binary.Or = refl

discipline_pass : (d : Discipline) (rest : List Word) → starts (Mark (discipline_word d) ∷ rest) ≡ starts rest
discipline_pass discipline.Fifo rest = refl
discipline_pass discipline.Priority rest = refl

-- ---- expressions and statements

mutual
  expr_pass : (e : tree.Expr) (rest : List Word) → starts (expr_words e rest) ≡ starts rest
  expr_pass (tree.Number value) rest = refl
  expr_pass (tree.Name x) rest = refl
  expr_pass (tree.Element x index) rest = expr_pass index (Mark (codes "]") ∷ rest)
  expr_pass (tree.Apply x arguments) rest = arguments_pass arguments true (Mark (codes ")") ∷ rest)
  expr_pass (tree.Parenthesis inside) rest = expr_pass inside (Mark (codes ")") ∷ rest)
  expr_pass (tree.Unary op operand) rest = skip (Mark (sign_of op)) (expr_words operand rest) (sign_plain op) ∙ expr_pass operand rest
  expr_pass (tree.Chain first links) rest = expr_pass first (links_words links rest) ∙ links_pass links rest

  links_pass : (ls : tree.Links) (rest : List Word) → starts (links_words ls rest) ≡ starts rest
  links_pass tree.NoLink rest = refl
  links_pass (tree.MoreLinks op operand links) rest =
      skip (Mark (operator_mark op)) (expr_words operand (links_words links rest)) (operator_plain op) ∙ expr_pass operand (links_words links rest) ∙ links_pass links rest

  arguments_pass : (es : tree.Exprs) (first : Bool) (rest : List Word) → starts (arguments_words es first rest) ≡ starts rest
  arguments_pass tree.NoExpr first rest = refl
  arguments_pass (tree.MoreExprs e es) true rest = expr_pass e (arguments_words es false rest) ∙ arguments_pass es false rest
  arguments_pass (tree.MoreExprs e es) false rest = expr_pass e (arguments_words es false rest) ∙ arguments_pass es false rest

abbrev closed : tree.Block → List Word → List Word
closed b rest = block_words b (Mark (codes "}") ∷ rest)

mutual
  stmt_pass : (s : tree.Stmt) (rest : List Word) → starts (stmt_words s rest) ≡ starts rest
  stmt_pass (tree.Assign x e) rest = expr_pass e (Mark (codes ";") ∷ rest)
  stmt_pass (tree.AssignElement x i e) rest = expr_pass i (Mark (codes "]") ∷ Mark (codes ":=") ∷ expr_words e (Mark (codes ";") ∷ rest)) ∙ expr_pass e (Mark (codes ";") ∷ rest)
  stmt_pass (tree.If e b) rest = expr_pass e (Mark (codes "{") ∷ closed b rest) ∙ block_pass b (Mark (codes "}") ∷ rest)
  stmt_pass (tree.IfElse e b other) rest =
      let after : List Word = Mark (codes "else") ∷ Mark (codes "{") ∷ closed other rest in
      expr_pass e (Mark (codes "{") ∷ closed b after) ∙ block_pass b (Mark (codes "}") ∷ after) ∙ block_pass other (Mark (codes "}") ∷ rest)
  stmt_pass (tree.While e b) rest = expr_pass e (Mark (codes "{") ∷ closed b rest) ∙ block_pass b (Mark (codes "}") ∷ rest)
  stmt_pass (tree.Work ticks) rest = refl
  stmt_pass (tree.Return e) rest = expr_pass e (Mark (codes ";") ∷ rest)
  stmt_pass (tree.CallService service es xs) rest = arguments_pass es true (Mark (codes ")") ∷ targets_words xs (Mark (codes ";") ∷ rest)) ∙ targets_pass xs (Mark (codes ";") ∷ rest)

  block_pass : (b : tree.Block) (rest : List Word) → starts (block_words b rest) ≡ starts rest
  block_pass tree.NoStmt rest = refl
  block_pass (tree.MoreStmts s ss) rest = stmt_pass s (block_words ss rest) ∙ block_pass ss rest

body_passes : (b : tree.Body) (rest : List Word) → starts (body_words b rest) ≡ starts rest
body_passes b rest = all_pass local_words (λ x others. refl) b.locals (closed b.block rest) ∙ block_pass b.block (Mark (codes "}") ∷ rest)

-- ---- declarations and bodies

first_pass : (value : Option tree.Integer) (rest : List Word) → starts (first_words value rest) ≡ starts rest
first_pass None rest = refl
first_pass (Some n) rest = integer_pass n rest

values_pass : (values : List tree.Integer) (rest : List Word) → starts (values_words values rest) ≡ starts rest
values_pass [] rest = refl
values_pass (n ∷ ns) rest = all_pass integer_words integer_pass (n ∷ ns) rest

-- a procedure is a body, and no other declaration has one
abbrev pub start_of : List ℕ → tree.Kind → List Word → List (List Word) → List (List Word)
start_of x (tree.Procedure xs b) rest others = kind_words x (tree.Procedure xs b) rest ∷ others
start_of x (tree.Variable value) rest others = others
start_of x (tree.Array size values) rest others = others
start_of x (tree.Semaphore first maximum d) rest others = others
start_of x tree.Event rest others = others
start_of x (tree.Buffer words messages d) rest others = others
start_of x (tree.Blackboard words) rest others = others
start_of x tree.Port rest others = others

pub kind_starts : (x : List ℕ) (kind : tree.Kind) (rest : List Word) → starts (kind_words x kind rest) ≡ start_of x kind rest (starts rest)
kind_starts x (tree.Variable value) rest = first_pass value (Mark (codes ";") ∷ rest)
kind_starts x (tree.Array size values) rest = values_pass values (Mark (codes ";") ∷ rest)
kind_starts x (tree.Semaphore first maximum d) rest = discipline_pass d (Mark (codes ";") ∷ rest)
kind_starts x tree.Event rest = refl
kind_starts x (tree.Buffer words messages d) rest = discipline_pass d (Mark (codes ";") ∷ rest)
kind_starts x (tree.Blackboard words) rest = refl
kind_starts x tree.Port rest = refl
kind_starts x (tree.Procedure xs b) rest = ap (λ (others : List (List Word)). kind_words x (tree.Procedure xs b) rest ∷ others) (names_pass xs (Mark (codes ")") ∷ body_words b rest) ∙ body_passes b rest)

pub stack_body_starts : (mark : List ℕ) (b : tree.StackBody) (rest : List Word) → opens (Mark mark) ≡ true → starts (stack_body_words mark b rest) ≡ stack_body_words mark b rest ∷ starts rest
stack_body_starts mark b rest is =
    ap (λ t. cond t (stack_body_words mark b rest ∷ starts (body_words b.body rest)) (starts (body_words b.body rest))) is ∙ ap (λ (others : List (List Word)). stack_body_words mark b rest ∷ others) (body_passes b.body rest)

pub process_starts : (p : tree.Process) (rest : List Word) → starts (process_words p rest) ≡ process_words p rest ∷ starts rest
process_starts p rest =
    let last : List Word = Mark (codes "stack") ∷ Number p.stack ∷ body_words p.body rest in
    let capacity : List Word = integer_words p.capacity last in
    ap (λ (others : List (List Word)). process_words p rest ∷ others) (integer_pass p.period (Mark (codes "capacity") ∷ capacity) ∙ integer_pass p.capacity last ∙ body_passes p.body rest)
