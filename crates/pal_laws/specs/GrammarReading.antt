-- Reading a program from its words, from left to right and without backtracking. Laws say that this finds the one
-- program that the grammar writes with these words, and otherwise where they leave the grammar.
use Rattle.std.specs.Prelude.{ℕ, zero, suc, ◌-◌, ◌==◌, nat_lt, true, false, if◌then◌else◌, List, [], ◌∷◌, length, Option, Some, None, Result, Ok, Err, codes}
use Rattle.apex_types.specs.Limits.{MOST_LEVELS}
use Rattle.apex_types.specs.declared.instruction.BinaryOperator.{BinaryOperator}
use Rattle.apex_types.specs.declared.instruction.BinaryOperator.TheVariants as binary
use Rattle.apex_types.specs.declared.instruction.UnaryOperator.{UnaryOperator}
use Rattle.apex_types.specs.declared.instruction.UnaryOperator.TheVariants as unary
use Rattle.apex_types.specs.declared.codes.Discipline.{Discipline}
use Rattle.apex_types.specs.declared.codes.Discipline.TheVariants as discipline
use Rattle.apex_types.specs.declared.service.Service.{Service}
use Rattle.pal_meaning.specs.Grammar.{Word, Name, Number, ServiceWord, Mark, Stray}
use Rattle.engine_meaning.specs.Digits.{same}
use Rattle.pal_meaning.specs.Syntax as tree
pub use Rattle.pal_meaning.specs.Grammar.{operator_mark, Rank, Disjunction, Conjunction, Comparison, Sum, Product}

-- A result, or the number of words that are left where the words leave the grammar: the word there,
-- and those after it.
abbrev pub Answer : Type 0 → Type 0
Answer X = Result X ℕ

-- the result of reading at the front of the words, and the words after it
abbrev pub Reading : Type 0 → Type 0
Reading X = List Word → Answer (X × List Word)

infixl 10 ◌>>=◌
abbrev pub ◌>>=◌ : {A B : Type 0} → Answer A → (A → Answer B) → Answer B
(Ok x) >>= f = f x
(Err left) >>= f = Err left

-- one way if something was found, the other if not
abbrev pub either : {A B : Type 0} → Answer A → (A → B) → B → B
either (Ok x) found none = found x
either (Err left) found none = none

-- the words after a mark
unfoldable pub expect : List ℕ → List Word → Answer (List Word)
expect mark [] = Err 0
expect mark (Mark text ∷ ws) = if same text mark then Ok ws else Err (suc (length ws))
expect mark (Name text ∷ ws) = Err (suc (length ws))
expect mark (Number value ∷ ws) = Err (suc (length ws))
expect mark (ServiceWord service ∷ ws) = Err (suc (length ws))
expect mark (Stray ∷ ws) = Err (suc (length ws))

unfoldable pub name_at : Reading (List ℕ)
name_at [] = Err 0
name_at (Name text ∷ ws) = Ok (text, ws)
name_at (Mark text ∷ ws) = Err (suc (length ws))
name_at (Number value ∷ ws) = Err (suc (length ws))
name_at (ServiceWord service ∷ ws) = Err (suc (length ws))
name_at (Stray ∷ ws) = Err (suc (length ws))

unfoldable pub number_at : Reading (Option ℕ)
number_at [] = Err 0
number_at (Number value ∷ ws) = Ok (value, ws)
number_at (Name text ∷ ws) = Err (suc (length ws))
number_at (Mark text ∷ ws) = Err (suc (length ws))
number_at (ServiceWord service ∷ ws) = Err (suc (length ws))
number_at (Stray ∷ ws) = Err (suc (length ws))

unfoldable pub service_at : Reading Service
service_at [] = Err 0
service_at (ServiceWord service ∷ ws) = Ok (service, ws)
service_at (Name text ∷ ws) = Err (suc (length ws))
service_at (Mark text ∷ ws) = Err (suc (length ws))
service_at (Number value ∷ ws) = Err (suc (length ws))
service_at (Stray ∷ ws) = Err (suc (length ws))

unfoldable pub integer_at : Reading tree.Integer
integer_at ws = either (expect (codes "-") ws)
    (λ rest. number_at rest >>= λ n. Ok (record { negative = true; magnitude = n.0 }, n.1))
    (number_at ws >>= λ n. Ok (record { negative = false; magnitude = n.0 }, n.1))

unfoldable pub discipline_at : Reading Discipline
discipline_at ws = either (expect (codes "fifo") ws)
    (λ rest. Ok (discipline.Fifo, rest))
    (expect (codes "priority") ws >>= λ rest. Ok (discipline.Priority, rest))

-- Things one after another, as long as a turn finds one. A turn finds one thing, with fewer words
-- after it, or finds no more; if it fails, there is no reading.
abbrev pub Turn : Type 0 → Type 0
Turn X = List Word → Answer (Option (X × List Word))

abbrev pub turned : {X : Type 0} → Reading (List X) → List Word → Answer (Option (X × List Word)) → Answer (List X × List Word)
turned go ws (Err left) = Err left
turned go ws (Ok None) = Ok ([], ws)
turned go ws (Ok (Some x)) = if nat_lt (length x.1) (length ws) then (go x.1 >>= λ xs. Ok (x.0 ∷ xs.0, xs.1)) else Err (length ws)

unfoldable pub repeat_within : {X : Type 0} → ℕ → Turn X → Reading (List X)
repeat_within zero turn ws = Err (length ws)
repeat_within (suc n) turn ws = turned (repeat_within n turn) ws (turn ws)

unfoldable pub repeat : {X : Type 0} → Turn X → Reading (List X)
repeat turn ws = repeat_within (suc (length ws)) turn ws

-- a turn: one thing if its beginning was found, no more if not
abbrev pub each : {A X : Type 0} → Answer A → (A → Answer (X × List Word)) → Answer (Option (X × List Word))
each (Ok a) read = read a >>= λ x. Ok (Some x)
each (Err left) read = Ok None

-- a turn: no more if the end was found, one thing if not
abbrev pub until : {A X : Type 0} → Answer A → Answer (X × List Word) → Answer (Option (X × List Word))
until (Ok a) read = Ok None
until (Err left) read = read >>= λ x. Ok (Some x)

abbrev pub operators_of : Rank → List BinaryOperator
operators_of Disjunction = binary.Or ∷ []
operators_of Conjunction = binary.And ∷ []
operators_of Comparison = binary.Equal ∷ binary.NotEqual ∷ binary.Less ∷ binary.LessOrEqual ∷ binary.Greater ∷ binary.GreaterOrEqual ∷ []
operators_of Sum = binary.Add ∷ binary.Subtract ∷ []
operators_of Product = binary.Multiply ∷ binary.Divide ∷ binary.Remainder ∷ []

-- the first of these operators that is at the front
unfoldable pub one_of : List BinaryOperator → Reading BinaryOperator
one_of [] ws = Err (length ws)
one_of (op ∷ ops) ws = either (expect (operator_mark op) ws) (λ rest. Ok (op, rest)) (one_of ops ws)

abbrev pub operator_at : Rank → Reading BinaryOperator
operator_at rank ws = one_of (operators_of rank) ws

abbrev pub links_of : List (BinaryOperator × tree.Expr) → tree.Links
links_of [] = tree.NoLink
links_of (l ∷ ls) = tree.MoreLinks l.0 l.1 (links_of ls)

abbrev pub chain_of : tree.Expr → tree.Links → tree.Expr
chain_of first tree.NoLink = first
chain_of first (tree.MoreLinks op e ls) = tree.Chain first (tree.MoreLinks op e ls)

abbrev pub exprs_of : List tree.Expr → tree.Exprs
exprs_of [] = tree.NoExpr
exprs_of (e ∷ es) = tree.MoreExprs e (exprs_of es)

abbrev pub block_of : List tree.Stmt → tree.Block
block_of [] = tree.NoStmt
block_of (s ∷ ss) = tree.MoreStmts s (block_of ss)

-- an operator of the rank with its right operand
unfoldable pub link_at : Reading tree.Expr → Rank → Turn (BinaryOperator × tree.Expr)
link_at operand rank ws = each (operator_at rank ws) (λ op. operand op.1 >>= λ e. Ok ((op.0, e.0), e.1))

-- all of them; of comparisons at most one
abbrev pub one_or_none : {X : Type 0} → List Word → Option (X × List Word) → List X × List Word
one_or_none ws (Some x) = (x.0 ∷ [], x.1)
one_or_none ws None = ([], ws)

unfoldable pub links_at : Reading tree.Expr → Rank → Reading tree.Links
links_at operand Comparison ws = link_at operand Comparison ws >>= λ l. Ok (links_of (one_or_none ws l).0, (one_or_none ws l).1)
links_at operand rank ws = repeat (link_at operand rank) ws >>= λ ls. Ok (links_of ls.0, ls.1)

-- operands of a rank with its operators between them
unfoldable pub chain_with : Reading tree.Expr → Rank → Reading tree.Expr
chain_with operand rank ws =
    operand ws >>= λ first. links_at operand rank first.1 >>= λ ls. Ok (chain_of first.0 ls.0, ls.1)

-- the same for each rank, where u reads an operand that is not a chain
unfoldable pub products_with : Reading tree.Expr → Reading tree.Expr
products_with u ws = chain_with u Product ws

unfoldable pub sums_with : Reading tree.Expr → Reading tree.Expr
sums_with u ws = chain_with (products_with u) Sum ws

unfoldable pub comparisons_with : Reading tree.Expr → Reading tree.Expr
comparisons_with u ws = chain_with (sums_with u) Comparison ws

unfoldable pub conjunctions_with : Reading tree.Expr → Reading tree.Expr
conjunctions_with u ws = chain_with (comparisons_with u) Conjunction ws

-- an operand of a rank's operators
unfoldable pub operand_with : Reading tree.Expr → Rank → Reading tree.Expr
operand_with u Product ws = u ws
operand_with u Sum ws = products_with u ws
operand_with u Comparison ws = sums_with u ws
operand_with u Conjunction ws = comparisons_with u ws
operand_with u Disjunction ws = conjunctions_with u ws

unfoldable pub ranked : Reading tree.Expr → Rank → Reading tree.Expr
ranked u rank ws = chain_with (operand_with u rank) rank ws

-- arguments after an opening parenthesis, and the parenthesis that closes
unfoldable pub arguments_with : Reading tree.Expr → Reading tree.Exprs
arguments_with inside ws = either (expect (codes ")") ws)
    (λ rest. Ok (tree.NoExpr, rest))
    (inside ws >>= λ first. repeat (λ ws. each (expect (codes ",") ws) inside) first.1 >>= λ more.
    expect (codes ")") more.1 >>= λ rest. Ok (tree.MoreExprs first.0 (exprs_of more.0), rest))

-- an expression that begins with a name; inside is an expression one level further in
unfoldable pub named_with : Reading tree.Expr → Reading tree.Exprs → List ℕ → Reading tree.Expr
named_with inside arguments x ws = either (expect (codes "[") ws)
    (λ rest. inside rest >>= λ e. expect (codes "]") e.1 >>= λ rest. Ok (tree.Element x e.0, rest))
    (either (expect (codes "(") ws)
    (λ rest. arguments rest >>= λ es. Ok (tree.Apply x es.0, es.1))
    (Ok (tree.Name x, ws)))

-- an operand that is not a chain
unfoldable pub unary_with : Reading tree.Expr → Reading tree.Expr → Reading tree.Exprs → Reading tree.Expr
unary_with deeper inside arguments ws = either (expect (codes "-") ws)
    (λ rest. deeper rest >>= λ e. Ok (tree.Unary unary.Negate e.0, e.1))
    (either (expect (codes "not") ws)
    (λ rest. deeper rest >>= λ e. Ok (tree.Unary unary.Not e.0, e.1))
    (either (number_at ws)
    (λ n. Ok (tree.Number n.0, n.1))
    (either (name_at ws)
    (λ x. named_with inside arguments x.0 x.1)
    (expect (codes "(") ws >>= λ rest. inside rest >>= λ e. expect (codes ")") e.1 >>= λ rest. Ok (tree.Parenthesis e.0, rest)))))

-- the word before these opens a level too many
abbrev pub no_level : {X : Type 0} → List Word → Answer X
no_level ws = Err (suc (length ws))

-- an operand that is not a chain, where this many levels may still be opened
unfoldable pub unary_at : ℕ → Reading tree.Expr
unary_at zero ws = unary_with no_level no_level no_level ws
unary_at (suc k) ws = unary_with (unary_at k) (ranked (unary_at k) Disjunction) (arguments_with (ranked (unary_at k) Disjunction)) ws

unfoldable pub expr_at : ℕ → Reading tree.Expr
expr_at k ws = ranked (unary_at k) Disjunction ws

-- the same one level further in, where a level may still be opened
unfoldable pub deeper_at : ℕ → Reading tree.Expr
deeper_at k ws = if k == 0 then no_level ws else unary_at (k - 1) ws

unfoldable pub nested_at : ℕ → Reading tree.Expr
nested_at k ws = if k == 0 then no_level ws else expr_at (k - 1) ws

unfoldable pub arguments_at : ℕ → Reading tree.Exprs
arguments_at k ws = if k == 0 then no_level ws else arguments_with (expr_at (k - 1)) ws

unfoldable pub operated_at : UnaryOperator → ℕ → Reading tree.Expr
operated_at op k ws = deeper_at k ws >>= λ e. Ok (tree.Unary op e.0, e.1)

unfoldable pub unary_read : ℕ → Reading tree.Expr
unary_read k ws = unary_with (deeper_at k) (nested_at k) (arguments_at k) ws

unfoldable pub names_at : Reading (List (List ℕ))
names_at ws = name_at ws >>= λ first. repeat (λ ws. each (expect (codes ",") ws) name_at) first.1 >>= λ more.
    Ok (first.0 ∷ more.0, more.1)

unfoldable pub targets_at : Reading (List (List ℕ))
targets_at ws = either (expect (codes "->") ws) names_at (Ok ([], ws))

unfoldable pub service_call_at : ℕ → Service → Reading tree.Stmt
service_call_at k service ws = if k == 0 then no_level ws else (expect (codes "(") ws >>= λ rest. arguments_at k rest >>= λ es. targets_at es.1 >>= λ xs.
    expect (codes ";") xs.1 >>= λ rest. Ok (tree.CallService service es.0 xs.0, rest))

unfoldable pub assignment_at : ℕ → List ℕ → Reading tree.Stmt
assignment_at k x ws = either (expect (codes "[") ws)
    (λ rest. nested_at k rest >>= λ i. expect (codes "]") i.1 >>= λ rest. expect (codes ":=") rest >>= λ rest.
    expr_at k rest >>= λ e. expect (codes ";") e.1 >>= λ rest. Ok (tree.AssignElement x i.0 e.0, rest))
    (expect (codes ":=") ws >>= λ rest. expr_at k rest >>= λ e. expect (codes ";") e.1 >>= λ rest. Ok (tree.Assign x e.0, rest))

unfoldable pub work_at : Reading tree.Stmt
work_at ws = number_at ws >>= λ n. expect (codes ";") n.1 >>= λ rest. Ok (tree.Work n.0, rest)

unfoldable pub return_at : ℕ → Reading tree.Stmt
return_at k ws = expr_at k ws >>= λ e. expect (codes ";") e.1 >>= λ rest. Ok (tree.Return e.0, rest)

unfoldable pub branch_with : Reading tree.Block → ℕ → Reading tree.Stmt
branch_with block k ws = expr_at k ws >>= λ e. block e.1 >>= λ b. either (expect (codes "else") b.1)
    (λ rest. block rest >>= λ other. Ok (tree.IfElse e.0 b.0 other.0, other.1))
    (Ok (tree.If e.0 b.0, b.1))

unfoldable pub while_with : Reading tree.Block → ℕ → Reading tree.Stmt
while_with block k ws = expr_at k ws >>= λ e. block e.1 >>= λ b. Ok (tree.While e.0 b.0, b.1)

-- a statement, with this reading of blocks
unfoldable pub stmt_with : Reading tree.Block → ℕ → Reading tree.Stmt
stmt_with block k ws = either (name_at ws) (λ x. assignment_at k x.0 x.1)
    (either (service_at ws) (λ s. service_call_at k s.0 s.1)
    (either (expect (codes "work") ws) work_at
    (either (expect (codes "return") ws) (return_at k)
    (if k == 0 then Err (length ws) else (either (expect (codes "if") ws) (branch_with block k)
    (expect (codes "while") ws >>= while_with block k))))))

-- statements up to the closing brace, and that brace
unfoldable pub statements_with : Reading tree.Stmt → Reading tree.Block
statements_with stmt ws = repeat (λ ws. until (expect (codes "}") ws) (stmt ws)) ws >>= λ ss.
    expect (codes "}") ss.1 >>= λ rest. Ok (block_of ss.0, rest)

unfoldable pub block_at : ℕ → Reading tree.Block
block_at zero ws = Err (length ws)
block_at (suc k) ws = expect (codes "{") ws >>= statements_with (stmt_with (block_at k) k)

unfoldable pub stmt_at : ℕ → Reading tree.Stmt
stmt_at k ws = stmt_with (block_at k) k ws

unfoldable pub statements_at : ℕ → Reading tree.Block
statements_at k ws = statements_with (stmt_at k) ws

unfoldable pub block_read : ℕ → Reading tree.Block
block_read k ws = if k == 0 then Err (length ws) else (expect (codes "{") ws >>= statements_at (k - 1))

unfoldable pub local_at : Reading (List ℕ)
local_at ws = name_at ws >>= λ x. expect (codes ";") x.1 >>= λ rest. Ok (x.0, rest)

unfoldable pub locals_at : Reading (List (List ℕ))
locals_at ws = repeat (λ ws. each (expect (codes "local") ws) local_at) ws

unfoldable pub body_at : Reading tree.Body
body_at ws = expect (codes "{") ws >>= λ rest. locals_at rest >>= λ xs. statements_at (MOST_LEVELS - 1) xs.1 >>= λ b.
    Ok (record { locals = xs.0; block = b.0 }, b.1)

abbrev pub declared : List ℕ → tree.Kind → tree.Declaration
declared x kind = record { name = x; kind = kind }

unfoldable pub first_value_at : Reading (Option tree.Integer)
first_value_at ws = either (expect (codes "=") ws) (λ rest. integer_at rest >>= λ n. Ok (Some n.0, n.1)) (Ok (None, ws))

unfoldable pub variable_at : Reading tree.Declaration
variable_at ws = name_at ws >>= λ x. first_value_at x.1 >>= λ n. expect (codes ";") n.1 >>= λ rest.
    Ok (declared x.0 (tree.Variable n.0), rest)

unfoldable pub integers_at : Reading (List tree.Integer)
integers_at ws = integer_at ws >>= λ first. repeat (λ ws. until (expect (codes ";") ws) (integer_at ws)) first.1 >>= λ more.
    expect (codes ";") more.1 >>= λ rest. Ok (first.0 ∷ more.0, rest)

unfoldable pub first_values_at : Reading (List tree.Integer)
first_values_at ws = either (expect (codes "=") ws) integers_at (expect (codes ";") ws >>= λ rest. Ok ([], rest))

unfoldable pub array_at : Reading tree.Declaration
array_at ws = name_at ws >>= λ x. expect (codes "[") x.1 >>= λ rest. number_at rest >>= λ n. expect (codes "]") n.1 >>= λ rest.
    first_values_at rest >>= λ vs. Ok (declared x.0 (tree.Array n.0 vs.0), vs.1)

unfoldable pub semaphore_at : Reading tree.Declaration
semaphore_at ws = name_at ws >>= λ x. number_at x.1 >>= λ a. number_at a.1 >>= λ b. discipline_at b.1 >>= λ d.
    expect (codes ";") d.1 >>= λ rest. Ok (declared x.0 (tree.Semaphore a.0 b.0 d.0), rest)

unfoldable pub event_at : Reading tree.Declaration
event_at ws = name_at ws >>= λ x. expect (codes ";") x.1 >>= λ rest. Ok (declared x.0 tree.Event, rest)

unfoldable pub buffer_at : Reading tree.Declaration
buffer_at ws = name_at ws >>= λ x. number_at x.1 >>= λ a. number_at a.1 >>= λ b. discipline_at b.1 >>= λ d.
    expect (codes ";") d.1 >>= λ rest. Ok (declared x.0 (tree.Buffer a.0 b.0 d.0), rest)

unfoldable pub blackboard_at : Reading tree.Declaration
blackboard_at ws = name_at ws >>= λ x. number_at x.1 >>= λ a. expect (codes ";") a.1 >>= λ rest.
    Ok (declared x.0 (tree.Blackboard a.0), rest)

unfoldable pub port_at : Reading tree.Declaration
port_at ws = name_at ws >>= λ x. expect (codes ";") x.1 >>= λ rest. Ok (declared x.0 tree.Port, rest)

unfoldable pub parameters_at : Reading (List (List ℕ))
parameters_at ws = either (expect (codes ")") ws) (λ rest. Ok ([], rest))
    (names_at ws >>= λ xs. expect (codes ")") xs.1 >>= λ rest. Ok (xs.0, rest))

unfoldable pub procedure_at : Reading tree.Declaration
procedure_at ws = name_at ws >>= λ x. expect (codes "(") x.1 >>= λ rest. parameters_at rest >>= λ xs. body_at xs.1 >>= λ b.
    Ok (declared x.0 (tree.Procedure xs.0 b.0), b.1)

unfoldable pub declaration_at : Reading tree.Declaration
declaration_at ws = either (expect (codes "var") ws) variable_at
    (either (expect (codes "array") ws) array_at
    (either (expect (codes "semaphore") ws) semaphore_at
    (either (expect (codes "event") ws) event_at
    (either (expect (codes "buffer") ws) buffer_at
    (either (expect (codes "blackboard") ws) blackboard_at
    (either (expect (codes "port") ws) port_at
    (expect (codes "proc") ws >>= procedure_at)))))))

unfoldable pub declarations_at : Reading (List tree.Declaration)
declarations_at ws = repeat (λ ws. until (expect (codes "init") ws) (declaration_at ws)) ws

unfoldable pub stack_body_at : List ℕ → Reading tree.StackBody
stack_body_at mark ws = expect mark ws >>= λ rest. expect (codes "stack") rest >>= λ rest. number_at rest >>= λ n.
    body_at n.1 >>= λ b. Ok (record { stack = n.0; body = b.0 }, b.1)

unfoldable pub handler_at : Reading (Option tree.StackBody)
handler_at ws = either (expect (codes "handler") ws)
    (λ rest. stack_body_at (codes "handler") ws >>= λ b. Ok (Some b.0, b.1))
    (Ok (None, ws))

unfoldable pub process_at : Reading tree.Process
process_at ws = name_at ws >>= λ x. expect (codes "priority") x.1 >>= λ rest. number_at rest >>= λ priority.
    expect (codes "period") priority.1 >>= λ rest. integer_at rest >>= λ period.
    expect (codes "capacity") period.1 >>= λ rest. integer_at rest >>= λ capacity.
    expect (codes "stack") capacity.1 >>= λ rest. number_at rest >>= λ stack. body_at stack.1 >>= λ b.
    Ok (record { name = x.0; priority = priority.0; period = period.0; capacity = capacity.0; stack = stack.0; body = b.0 }, b.1)

unfoldable pub processes_at : Reading (List tree.Process)
processes_at ws = repeat (λ ws. each (expect (codes "process") ws) process_at) ws

abbrev pub all_read : {X : Type 0} → X → List Word → Answer X
all_read x [] = Ok x
all_read x (w ∷ ws) = Err (suc (length ws))

-- the program that these words spell, all of them
unfoldable pub program_at : List Word → Answer tree.Program
program_at ws = declarations_at ws >>= λ ds. stack_body_at (codes "init") ds.1 >>= λ i. handler_at i.1 >>= λ h.
    processes_at h.1 >>= λ ps. all_read (record { declarations = ds.0; init = i.0; handler = h.0; processes = ps.0 }) ps.1
