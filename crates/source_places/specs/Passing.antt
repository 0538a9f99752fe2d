-- The text after each thing that a source is made of, of a text that begins with it: a word less for each word that the grammar
-- writes the thing with.
use Rattle.std.specs.Prelude.{ℕ, Bool, true, false, List, [], ◌∷◌}
use Rattle.pal_meaning.specs.Syntax as tree
use Rattle.source_places.specs.Words.{next_word}

-- a comma, but none before the first argument
abbrev pub after_comma : Bool → List ℕ → List ℕ
after_comma true text = text
after_comma false text = next_word text

-- an arrow or a comma, and a name
abbrev pub after_targets : List (List ℕ) → List ℕ → List ℕ
after_targets [] text = text
after_targets (x ∷ xs) text = after_targets xs (next_word (next_word text))

abbrev mutual
  pub after_expr : tree.Expr → List ℕ → List ℕ
  after_expr (tree.Number value) text = next_word text
  after_expr (tree.Name x) text = next_word text
  after_expr (tree.Element x index) text = next_word (after_expr index (next_word (next_word text)))
  after_expr (tree.Apply x arguments) text = next_word (after_arguments arguments true (next_word (next_word text)))
  after_expr (tree.Parenthesis inside) text = next_word (after_expr inside (next_word text))
  after_expr (tree.Unary operator operand) text = after_expr operand (next_word text)
  after_expr (tree.Chain first links) text = after_links links (after_expr first text)

  pub after_links : tree.Links → List ℕ → List ℕ
  after_links tree.NoLink text = text
  after_links (tree.MoreLinks operator operand links) text = after_links links (after_expr operand (next_word text))

  pub after_arguments : tree.Exprs → Bool → List ℕ → List ℕ
  after_arguments tree.NoExpr first text = text
  after_arguments (tree.MoreExprs e es) first text = after_arguments es false (after_expr e (after_comma first text))

-- the word of an `if` or a `while`, its test and the brace of its block
abbrev pub after_test : tree.Expr → List ℕ → List ℕ
after_test test text = next_word (after_expr test (next_word text))

-- the brace of a block, `else` and the brace of the other block
abbrev pub after_else : List ℕ → List ℕ
after_else text = next_word (next_word (next_word text))

-- the name of a service, its arguments and its targets
abbrev pub after_call : tree.Exprs → List (List ℕ) → List ℕ → List ℕ
after_call arguments targets text = next_word (after_targets targets (next_word (after_arguments arguments true (next_word (next_word text)))))

abbrev mutual
  pub after_stmt : tree.Stmt → List ℕ → List ℕ
  after_stmt (tree.Assign x value) text = next_word (after_expr value (next_word (next_word text)))
  after_stmt (tree.AssignElement x index value) text =
      next_word (after_expr value (next_word (next_word (after_expr index (next_word (next_word text))))))
  after_stmt (tree.If test block) text = next_word (after_block block (after_test test text))
  after_stmt (tree.IfElse test block other) text = next_word (after_block other (after_else (after_block block (after_test test text))))
  after_stmt (tree.While test block) text = next_word (after_block block (after_test test text))
  after_stmt (tree.Work ticks) text = next_word (next_word (next_word text))
  after_stmt (tree.Return value) text = next_word (after_expr value (next_word text))
  after_stmt (tree.CallService service arguments targets) text = after_call arguments targets text

  pub after_block : tree.Block → List ℕ → List ℕ
  after_block tree.NoStmt text = text
  after_block (tree.MoreStmts s ss) text = after_block ss (after_stmt s text)

-- `local`, a name and a semicolon
abbrev pub after_locals : List (List ℕ) → List ℕ → List ℕ
after_locals [] text = text
after_locals (x ∷ xs) text = after_locals xs (next_word (next_word (next_word text)))

-- the brace of a body and its locals
abbrev pub inside_body : tree.Body → List ℕ → List ℕ
inside_body b text = after_locals b.locals (next_word text)

-- a body up to the brace that closes it
abbrev pub to_end : tree.Body → List ℕ → List ℕ
to_end b text = after_block b.block (inside_body b text)

abbrev pub after_body : tree.Body → List ℕ → List ℕ
after_body b text = next_word (to_end b text)
