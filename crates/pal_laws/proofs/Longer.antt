-- A thing is written with at least one word, before those that follow it.
use Rattle.std.proofs.Common.{ℕ, ◌<◌, ◌≤◌, Bool, true, false, List, [], ◌∷◌, length, Option, Some, None, arith}
use Rattle.std.specs.Prelude.{codes}
use Rattle.pal_meaning.specs.Grammar.{Word, Number, Mark}
use Rattle.pal_meaning.specs.Grammar.{integer_words, all_words, next_name, names_words, targets_words, comma, expr_words, links_words, arguments_words, stmt_words, block_words, local_words, body_words, first_words, values_words, kind_words, declaration_words, process_words}
use Rattle.pal_meaning.specs.Syntax as tree

abbrev pub Longer : {X : Type 0} → (X → List Word → List Word) → Type 0
Longer {X} words = (x : X) (rest : List Word) → length rest < length (words x rest)

pub all_longer : {X : Type 0} (words : X → List Word → List Word) → Longer words → (xs : List X) (rest : List Word) → length rest ≤ length (all_words words xs rest)
all_longer words longer [] rest = omega arith
all_longer words longer (x ∷ xs) rest = omega (arith, longer x (all_words words xs rest), all_longer words longer xs rest)

pub next_name_longer : Longer next_name
next_name_longer x rest = omega arith

names_longer : (xs : List (List ℕ)) (rest : List Word) → length rest ≤ length (names_words xs rest)
names_longer [] rest = omega arith
names_longer (x ∷ xs) rest = omega (arith, all_longer next_name next_name_longer xs rest)

targets_longer : (xs : List (List ℕ)) (rest : List Word) → length rest ≤ length (targets_words xs rest)
targets_longer [] rest = omega arith
targets_longer (x ∷ xs) rest = omega (arith, names_longer (x ∷ xs) rest)

signed_longer : (negative : Bool) (magnitude : Option ℕ) (rest : List Word) → length rest < length (integer_words (record { negative = negative; magnitude = magnitude }) rest)
signed_longer true magnitude rest = omega arith
signed_longer false magnitude rest = omega arith

pub integer_longer : Longer integer_words
integer_longer n rest = signed_longer n.negative n.magnitude rest

-- expressions
comma_longer : (first : Bool) (n : ℕ) (ws : List Word) → n ≤ length ws → n ≤ length (comma first ws)
comma_longer true n ws h = h
comma_longer false n ws h = omega arith

mutual
  pub expr_longer : (e : tree.Expr) (rest : List Word) → length rest < length (expr_words e rest)
  expr_longer (tree.Number value) rest = omega arith
  expr_longer (tree.Name x) rest = omega arith
  expr_longer (tree.Element x i) rest = omega (arith, expr_longer i (Mark (codes "]") ∷ rest))
  expr_longer (tree.Apply x es) rest = omega (arith, arguments_longer es true (Mark (codes ")") ∷ rest))
  expr_longer (tree.Parenthesis e) rest = omega (arith, expr_longer e (Mark (codes ")") ∷ rest))
  expr_longer (tree.Unary op e) rest = omega (arith, expr_longer e rest)
  expr_longer (tree.Chain e ls) rest = omega (arith, expr_longer e (links_words ls rest), links_longer ls rest)

  links_longer : (ls : tree.Links) (rest : List Word) → length rest ≤ length (links_words ls rest)
  links_longer tree.NoLink rest = omega arith
  links_longer (tree.MoreLinks op e ls) rest = omega (arith, expr_longer e (links_words ls rest), links_longer ls rest)

  arguments_longer : (es : tree.Exprs) (first : Bool) (rest : List Word) → length rest ≤ length (arguments_words es first rest)
  arguments_longer tree.NoExpr first rest = omega arith
  arguments_longer (tree.MoreExprs e es) first rest = comma_longer first (length rest) (expr_words e (arguments_words es false rest)) (omega (arith, expr_longer e (arguments_words es false rest), arguments_longer es false rest))

-- statements
abbrev closed : tree.Block → List Word → List Word
closed b rest = block_words b (Mark (codes "}") ∷ rest)

mutual
  pub stmt_longer : (s : tree.Stmt) (rest : List Word) → length rest < length (stmt_words s rest)
  stmt_longer (tree.Assign x e) rest = omega (arith, expr_longer e (Mark (codes ";") ∷ rest))
  stmt_longer (tree.AssignElement x i e) rest =
      let value = expr_words e (Mark (codes ";") ∷ rest) in
      omega (arith, expr_longer i (Mark (codes "]") ∷ Mark (codes ":=") ∷ value), expr_longer e (Mark (codes ";") ∷ rest))
  stmt_longer (tree.If e b) rest = omega (arith, expr_longer e (Mark (codes "{") ∷ closed b rest), block_longer b (Mark (codes "}") ∷ rest))
  stmt_longer (tree.IfElse e b other) rest =
      let after = Mark (codes "else") ∷ Mark (codes "{") ∷ closed other rest in
      omega (arith, expr_longer e (Mark (codes "{") ∷ closed b after), block_longer b (Mark (codes "}") ∷ after), block_longer other (Mark (codes "}") ∷ rest))
  stmt_longer (tree.While e b) rest = omega (arith, expr_longer e (Mark (codes "{") ∷ closed b rest), block_longer b (Mark (codes "}") ∷ rest))
  stmt_longer (tree.Work ticks) rest = omega arith
  stmt_longer (tree.Return e) rest = omega (arith, expr_longer e (Mark (codes ";") ∷ rest))
  stmt_longer (tree.CallService service es xs) rest =
      let after = targets_words xs (Mark (codes ";") ∷ rest) in
      omega (arith, arguments_longer es true (Mark (codes ")") ∷ after), targets_longer xs (Mark (codes ";") ∷ rest))

  block_longer : (b : tree.Block) (rest : List Word) → length rest ≤ length (block_words b rest)
  block_longer tree.NoStmt rest = omega arith
  block_longer (tree.MoreStmts s ss) rest = omega (arith, stmt_longer s (block_words ss rest), block_longer ss rest)

pub local_longer : Longer local_words
local_longer x rest = omega arith

body_longer : Longer body_words
body_longer b rest = omega (arith, all_longer local_words local_longer b.locals (closed b.block rest), block_longer b.block (Mark (codes "}") ∷ rest))

-- declarations and processes
first_longer : (value : Option tree.Integer) (rest : List Word) → length rest ≤ length (first_words value rest)
first_longer None rest = omega arith
first_longer (Some n) rest = omega (arith, integer_longer n rest)

values_longer : (values : List tree.Integer) (rest : List Word) → length rest ≤ length (values_words values rest)
values_longer [] rest = omega arith
values_longer (n ∷ ns) rest = omega (arith, all_longer integer_words integer_longer (n ∷ ns) rest)

kind_longer : (x : List ℕ) (kind : tree.Kind) (rest : List Word) → length rest < length (kind_words x kind rest)
kind_longer x (tree.Variable value) rest = omega (arith, first_longer value (Mark (codes ";") ∷ rest))
kind_longer x (tree.Array size values) rest = omega (arith, values_longer values (Mark (codes ";") ∷ rest))
kind_longer x (tree.Semaphore first maximum d) rest = omega arith
kind_longer x tree.Event rest = omega arith
kind_longer x (tree.Buffer words messages d) rest = omega arith
kind_longer x (tree.Blackboard words) rest = omega arith
kind_longer x tree.Port rest = omega arith
kind_longer x (tree.Procedure xs b) rest = omega (arith, names_longer xs (Mark (codes ")") ∷ body_words b rest), body_longer b rest)

pub declaration_longer : Longer declaration_words
declaration_longer d rest = kind_longer d.name d.kind rest

pub process_longer : Longer process_words
process_longer p rest =
    let last = Mark (codes "stack") ∷ Number p.stack ∷ body_words p.body rest in
    let capacity = integer_words p.capacity last in
    omega (arith, integer_longer p.period (Mark (codes "capacity") ∷ capacity), integer_longer p.capacity last, body_longer p.body rest)
