-- The words of a source text, and the grammar: the words that each tree is written with. Blanks and comments come between words; each
-- word is the longest that begins at its place. Each line of the grammar is one way to write a thing; rest are the words that follow it.
use Rattle.std.specs.Prelude.{ℕ, zero, suc, ◌^◌, ◌==◌, ◌&&◌, ◌||◌, nat_eq, nat_lt, nat_le, Bool, true, false, if◌then◌else◌, List, [], ◌∷◌, length, drop, Option, Some, None, codes, find, ◌≡◌, ◌≤◌, ◌-◌}
use Rattle.std.specs.List.{prefix_len, starts_with}
use Rattle.apex_types.specs.Limits.{MOST_LEVELS, MOST_SOURCE_BYTES}
use Rattle.apex_types.specs.declared.service.Service.{Service}
use Rattle.apex_types.specs.ServiceShape.{service_word, services}
use Rattle.engine_meaning.specs.Digits.{decimal_value, front, is_digit, same}
use Rattle.apex_types.specs.declared.instruction.BinaryOperator.{BinaryOperator}
use Rattle.apex_types.specs.declared.instruction.BinaryOperator.TheVariants as binary
use Rattle.apex_types.specs.declared.instruction.UnaryOperator.{UnaryOperator}
use Rattle.apex_types.specs.declared.instruction.UnaryOperator.TheVariants as unary
use Rattle.apex_types.specs.declared.codes.Discipline.{Discipline}
use Rattle.apex_types.specs.declared.codes.Discipline.TheVariants as discipline
use Rattle.pal_meaning.specs.Syntax as tree
use Rattle.std.specs.Str.{IsAscii}

-- The words of a source text. Blanks and comments come between words; each word is the longest that
-- begins at its place.

-- A word: a name, a number (none above 2^63 - 1), the name of a service, a mark (one of the
-- grammar's own words and signs), or a byte or a run of bytes that is no word of the grammar.
pub data Word : Type 0 where
  Name : (text : List ℕ) → Word
  Number : (value : Option ℕ) → Word
  ServiceWord : (service : Service) → Word
  Mark : (text : List ℕ) → Word
  Stray : Word

-- the grammar's own lower-case words, which are no names
abbrev pub grammar_words : List (List ℕ)
grammar_words =
    codes "var" ∷ codes "array" ∷ codes "semaphore" ∷ codes "event" ∷ codes "buffer" ∷
    codes "blackboard" ∷ codes "port" ∷ codes "proc" ∷ codes "fifo" ∷ codes "priority" ∷
    codes "init" ∷ codes "stack" ∷ codes "handler" ∷ codes "process" ∷ codes "period" ∷
    codes "capacity" ∷ codes "local" ∷ codes "if" ∷ codes "else" ∷ codes "while" ∷
    codes "work" ∷ codes "return" ∷ codes "and" ∷ codes "or" ∷ codes "not" ∷ []

-- the signs, each before those that begin it
abbrev pub signs : List (List ℕ)
signs =
    codes ":=" ∷ codes "->" ∷ codes "<>" ∷ codes "<=" ∷ codes ">=" ∷ codes "+" ∷ codes "-" ∷
    codes "*" ∷ codes "/" ∷ codes "%" ∷ codes "=" ∷ codes "<" ∷ codes ">" ∷ codes ";" ∷
    codes "," ∷ codes "(" ∷ codes ")" ∷ codes "{" ∷ codes "}" ∷ codes "[" ∷ codes "]" ∷ []

-- a space, a tab or a line feed
abbrev pub is_blank : ℕ → Bool
is_blank b = (b == 32) || (b == 9) || (b == 10)

abbrev pub is_lower : ℕ → Bool
is_lower b = nat_le 97 b && nat_le b 122

abbrev pub is_upper : ℕ → Bool
is_upper b = nat_le 65 b && nat_le b 90

-- the bytes of a name, and of the name of a service
abbrev pub in_name : ℕ → Bool
in_name b = is_lower b || is_digit b || (b == 95)

abbrev pub in_service : ℕ → Bool
in_service b = is_upper b || (b == 95)

-- The text after the blanks and comments at the front; the flag is true within a comment, which
-- goes from # to the end of the line.
unfoldable pub behind_blanks : Bool → List ℕ → List ℕ
behind_blanks comment [] = []
behind_blanks comment (b ∷ bs) =
    if b == 10 then behind_blanks false bs else
    if b == 35 then behind_blanks true bs else
    if comment || is_blank b then behind_blanks comment bs else b ∷ bs

abbrev pub behind : (ℕ → Bool) → List ℕ → List ℕ
behind p bs = drop (prefix_len p bs) bs

abbrev pub within : ℕ → Option ℕ
within n = if nat_lt n (2 ^ 63) then Some n else None

abbrev pub mark_or_name : Option (List ℕ) → List ℕ → Word
mark_or_name (Some mark) text = Mark mark
mark_or_name None text = Name text

abbrev pub service_or_stray : Option Service → Word
service_or_stray (Some s) = ServiceWord s
service_or_stray None = Stray

abbrev pub sign_or_stray : Option (List ℕ) → ℕ → List ℕ → Word × List ℕ
sign_or_stray (Some sign) b bs = (Mark sign, drop (length sign) (b ∷ bs))
sign_or_stray None b bs = (Stray, bs)

-- the word of these lower-case letters, digits and underscores, and of these upper-case ones
unfoldable pub lower_word : List ℕ → Word
lower_word text = mark_or_name (find (λ mark. same mark text) grammar_words) text

unfoldable pub upper_word : List ℕ → Word
upper_word text = service_or_stray (find (λ s. same (service_word s) text) services)

unfoldable pub sign_word : ℕ → List ℕ → Word × List ℕ
sign_word b bs = sign_or_stray (find (λ sign. starts_with nat_eq (b ∷ bs) sign) signs) b bs

-- the word at the front, and the text after it
unfoldable pub word_at : List ℕ → Word × List ℕ
word_at [] = (Stray, [])
word_at (b ∷ bs) =
    if is_lower b then (lower_word (front in_name (b ∷ bs)), behind in_name (b ∷ bs)) else
    if is_digit b then (Number (within (decimal_value (front is_digit (b ∷ bs)))), behind is_digit (b ∷ bs)) else
    if is_upper b then (upper_word (front in_service (b ∷ bs)), behind in_service (b ∷ bs)) else
    sign_word b bs

-- the words of a text, of which the number bounds how many are looked for
unfoldable pub words_within : ℕ → List ℕ → List Word
words_within zero bytes = []
words_within (suc n) [] = []
words_within (suc n) (b ∷ bs) = (word_at (b ∷ bs)).0 ∷ words_within n (behind_blanks false (word_at (b ∷ bs)).1)

unfoldable pub words_from : List ℕ → List Word
words_from bytes = words_within (length bytes) bytes

-- the words of a text
abbrev pub words_of : List ℕ → List Word
words_of bytes = words_from (behind_blanks false bytes)

-- the ranks of operators, the weakest first
pub data Rank : Type 0 where
  Disjunction : Rank
  Conjunction : Rank
  Comparison : Rank
  Sum : Rank
  Product : Rank

abbrev pub operator_mark : BinaryOperator → List ℕ
operator_mark binary.Add = codes "+"
operator_mark binary.Subtract = codes "-"
operator_mark binary.Multiply = codes "*"
operator_mark binary.Divide = codes "/"
operator_mark binary.Remainder = codes "%"
operator_mark binary.Equal = codes "="
operator_mark binary.NotEqual = codes "<>"
operator_mark binary.Less = codes "<"
operator_mark binary.LessOrEqual = codes "<="
operator_mark binary.Greater = codes ">"
operator_mark binary.GreaterOrEqual = codes ">="
operator_mark binary.And = codes "and"
operator_mark binary.Or = codes "or"

-- The grammar of programs: the words that each tree is written with. Each line is one way to write a
-- thing; rest are the words that follow it.

-- a number that may have a minus sign before it
abbrev pub integer_words : tree.Integer → List Word → List Word
integer_words n rest = if n.negative then Mark (codes "-") ∷ Number n.magnitude ∷ rest else Number n.magnitude ∷ rest

-- several things, one after another, each written in this way
abbrev pub all_words : {X : Type 0} → (X → List Word → List Word) → List X → List Word → List Word
all_words words [] rest = rest
all_words words (x ∷ xs) rest = words x (all_words words xs rest)

-- names with commas between them
abbrev pub next_name : List ℕ → List Word → List Word
next_name x rest = Mark (codes ",") ∷ Name x ∷ rest

abbrev pub names_words : List (List ℕ) → List Word → List Word
names_words [] rest = rest
names_words (x ∷ xs) rest = Name x ∷ all_words next_name xs rest

abbrev pub targets_words : List (List ℕ) → List Word → List Word
targets_words [] rest = rest
targets_words (x ∷ xs) rest = Mark (codes "->") ∷ names_words (x ∷ xs) rest

-- the spelling of a unary operator
abbrev pub sign_of : UnaryOperator → List ℕ
sign_of unary.Negate = codes "-"
sign_of unary.Not = codes "not"

-- a comma, but none before the first argument
abbrev pub comma : Bool → List Word → List Word
comma true rest = rest
comma false rest = Mark (codes ",") ∷ rest

-- expressions
abbrev mutual
  pub expr_words : tree.Expr → List Word → List Word
  expr_words (tree.Number value) rest = Number value ∷ rest
  expr_words (tree.Name x) rest = Name x ∷ rest
  expr_words (tree.Element x index) rest = Name x ∷ Mark (codes "[") ∷ expr_words index (Mark (codes "]") ∷ rest)
  expr_words (tree.Apply x arguments) rest = Name x ∷ Mark (codes "(") ∷ arguments_words arguments true (Mark (codes ")") ∷ rest)
  expr_words (tree.Parenthesis inside) rest = Mark (codes "(") ∷ expr_words inside (Mark (codes ")") ∷ rest)
  expr_words (tree.Unary operator operand) rest = Mark (sign_of operator) ∷ expr_words operand rest
  expr_words (tree.Chain first links) rest = expr_words first (links_words links rest)

  pub links_words : tree.Links → List Word → List Word
  links_words tree.NoLink rest = rest
  links_words (tree.MoreLinks operator operand links) rest = Mark (operator_mark operator) ∷ expr_words operand (links_words links rest)

  pub arguments_words : tree.Exprs → Bool → List Word → List Word
  arguments_words tree.NoExpr first rest = rest
  arguments_words (tree.MoreExprs e es) first rest = comma first (expr_words e (arguments_words es false rest))

-- statements and blocks
abbrev mutual
  pub stmt_words : tree.Stmt → List Word → List Word
  stmt_words (tree.Assign x e) rest = Name x ∷ Mark (codes ":=") ∷ expr_words e (Mark (codes ";") ∷ rest)
  stmt_words (tree.AssignElement x i e) rest = Name x ∷ Mark (codes "[") ∷ expr_words i (Mark (codes "]") ∷ Mark (codes ":=") ∷ expr_words e (Mark (codes ";") ∷ rest))
  stmt_words (tree.If e b) rest = Mark (codes "if") ∷ expr_words e (Mark (codes "{") ∷ block_words b (Mark (codes "}") ∷ rest))
  stmt_words (tree.IfElse e b other) rest = Mark (codes "if") ∷ expr_words e (Mark (codes "{") ∷ block_words b (Mark (codes "}") ∷ Mark (codes "else") ∷ Mark (codes "{") ∷ block_words other (Mark (codes "}") ∷ rest)))
  stmt_words (tree.While e b) rest = Mark (codes "while") ∷ expr_words e (Mark (codes "{") ∷ block_words b (Mark (codes "}") ∷ rest))
  stmt_words (tree.Work ticks) rest = Mark (codes "work") ∷ Number ticks ∷ Mark (codes ";") ∷ rest
  stmt_words (tree.Return e) rest = Mark (codes "return") ∷ expr_words e (Mark (codes ";") ∷ rest)
  stmt_words (tree.CallService service es xs) rest = ServiceWord service ∷ Mark (codes "(") ∷ arguments_words es true (Mark (codes ")") ∷ targets_words xs (Mark (codes ";") ∷ rest))

  pub block_words : tree.Block → List Word → List Word
  block_words tree.NoStmt rest = rest
  block_words (tree.MoreStmts s ss) rest = stmt_words s (block_words ss rest)

abbrev pub local_words : List ℕ → List Word → List Word
local_words x rest = Mark (codes "local") ∷ Name x ∷ Mark (codes ";") ∷ rest

abbrev pub body_words : tree.Body → List Word → List Word
body_words b rest = Mark (codes "{") ∷ all_words local_words b.locals (block_words b.block (Mark (codes "}") ∷ rest))

-- declarations
abbrev pub discipline_word : Discipline → List ℕ
discipline_word discipline.Fifo = codes "fifo"
discipline_word discipline.Priority = codes "priority"

abbrev pub first_words : Option tree.Integer → List Word → List Word
first_words None rest = rest
first_words (Some n) rest = Mark (codes "=") ∷ integer_words n rest

abbrev pub values_words : List tree.Integer → List Word → List Word
values_words [] rest = rest
values_words (n ∷ ns) rest = Mark (codes "=") ∷ all_words integer_words (n ∷ ns) rest

abbrev pub kind_words : List ℕ → tree.Kind → List Word → List Word
kind_words x (tree.Variable value) rest = Mark (codes "var") ∷ Name x ∷ first_words value (Mark (codes ";") ∷ rest)
kind_words x (tree.Array size values) rest = Mark (codes "array") ∷ Name x ∷ Mark (codes "[") ∷ Number size ∷ Mark (codes "]") ∷ values_words values (Mark (codes ";") ∷ rest)
kind_words x (tree.Semaphore first maximum d) rest = Mark (codes "semaphore") ∷ Name x ∷ Number first ∷ Number maximum ∷ Mark (discipline_word d) ∷ Mark (codes ";") ∷ rest
kind_words x tree.Event rest = Mark (codes "event") ∷ Name x ∷ Mark (codes ";") ∷ rest
kind_words x (tree.Buffer words messages d) rest = Mark (codes "buffer") ∷ Name x ∷ Number words ∷ Number messages ∷ Mark (discipline_word d) ∷ Mark (codes ";") ∷ rest
kind_words x (tree.Blackboard words) rest = Mark (codes "blackboard") ∷ Name x ∷ Number words ∷ Mark (codes ";") ∷ rest
kind_words x tree.Port rest = Mark (codes "port") ∷ Name x ∷ Mark (codes ";") ∷ rest
kind_words x (tree.Procedure xs b) rest = Mark (codes "proc") ∷ Name x ∷ Mark (codes "(") ∷ names_words xs (Mark (codes ")") ∷ body_words b rest)

abbrev pub declaration_words : tree.Declaration → List Word → List Word
declaration_words d rest = kind_words d.name d.kind rest

-- INIT, the handler, the processes, and the program that they make
abbrev pub stack_body_words : List ℕ → tree.StackBody → List Word → List Word
stack_body_words mark b rest = Mark mark ∷ Mark (codes "stack") ∷ Number b.stack ∷ body_words b.body rest

abbrev pub handler_words : Option tree.StackBody → List Word → List Word
handler_words None rest = rest
handler_words (Some b) rest = stack_body_words (codes "handler") b rest

abbrev pub process_words : tree.Process → List Word → List Word
process_words p rest =
    Mark (codes "process") ∷ Name p.name ∷ Mark (codes "priority") ∷ Number p.priority ∷
    Mark (codes "period") ∷ integer_words p.period (Mark (codes "capacity") ∷ integer_words p.capacity
    (Mark (codes "stack") ∷ Number p.stack ∷ body_words p.body rest))

unfoldable pub program_words : tree.Program → List Word
program_words p = all_words declaration_words p.declarations (stack_body_words (codes "init") p.init (handler_words p.handler (all_words process_words p.processes [])))

-- the rank of each operator: the others compare
abbrev pub rank_of : BinaryOperator → Rank
rank_of binary.Or = Disjunction
rank_of binary.And = Conjunction
rank_of binary.Add = Sum
rank_of binary.Subtract = Sum
rank_of binary.Multiply = Product
rank_of binary.Divide = Product
rank_of binary.Remainder = Product
rank_of _ = Comparison

-- how loosely a rank binds
abbrev pub looseness : Rank → ℕ
looseness Disjunction = 5
looseness Conjunction = 4
looseness Comparison = 3
looseness Sum = 2
looseness Product = 1

-- there is an operator; comparisons have no second one
abbrev pub HasLink : tree.Links → Type 0
HasLink tree.NoLink = ⊥
HasLink (tree.MoreLinks operator operand links) = Unit {0}

abbrev pub IsSingle : tree.Links → Type 0
IsSingle (tree.MoreLinks operator operand (tree.MoreLinks second third links)) = ⊥
IsSingle _ = Unit {0}

abbrev pub IsFew : Rank → tree.Links → Type 0
IsFew Comparison links = IsSingle links
IsFew _ links = Unit {0}

-- An expression in which this many levels may still be opened, and whose operators outside parentheses
-- bind no more loosely than `loosest`. The operators of a chain have one rank, and its operands bind
-- more tightly.
abbrev mutual
  pub IsExpr : tree.Expr → ℕ → ℕ → Type 0
  IsExpr (tree.Number value) levels loosest = Unit {0}
  IsExpr (tree.Name x) levels loosest = Unit {0}
  IsExpr (tree.Element x index) levels loosest = (1 ≤ levels) × IsExpr index (levels - 1) 5
  IsExpr (tree.Apply x arguments) levels loosest = (1 ≤ levels) × AreArguments arguments (levels - 1)
  IsExpr (tree.Parenthesis inside) levels loosest = (1 ≤ levels) × IsExpr inside (levels - 1) 5
  IsExpr (tree.Unary operator operand) levels loosest = (1 ≤ levels) × IsExpr operand (levels - 1) 0
  IsExpr (tree.Chain first links) levels loosest =
      (rank : Rank) × (looseness rank ≤ loosest) × IsExpr first levels (looseness rank - 1) × AreLinks links levels rank × HasLink links × IsFew rank links

  pub AreLinks : tree.Links → ℕ → Rank → Type 0
  AreLinks tree.NoLink levels rank = Unit {0}
  AreLinks (tree.MoreLinks operator operand links) levels rank = (rank_of operator ≡ rank) × IsExpr operand levels (looseness rank - 1) × AreLinks links levels rank

  pub AreArguments : tree.Exprs → ℕ → Type 0
  AreArguments tree.NoExpr levels = Unit {0}
  AreArguments (tree.MoreExprs e es) levels = IsExpr e levels 5 × AreArguments es levels

-- statements and blocks in which this many levels may still be opened
abbrev mutual
  pub IsStmt : tree.Stmt → ℕ → Type 0
  IsStmt (tree.Assign x e) levels = IsExpr e levels 5
  IsStmt (tree.AssignElement x i e) levels = (1 ≤ levels) × IsExpr i (levels - 1) 5 × IsExpr e levels 5
  IsStmt (tree.If e b) levels = IsExpr e levels 5 × (1 ≤ levels) × IsBlock b (levels - 1)
  IsStmt (tree.IfElse e b other) levels = IsExpr e levels 5 × (1 ≤ levels) × IsBlock b (levels - 1) × IsBlock other (levels - 1)
  IsStmt (tree.While e b) levels = IsExpr e levels 5 × (1 ≤ levels) × IsBlock b (levels - 1)
  IsStmt (tree.Work ticks) levels = Unit {0}
  IsStmt (tree.Return e) levels = IsExpr e levels 5
  IsStmt (tree.CallService service es xs) levels = (1 ≤ levels) × AreArguments es (levels - 1)

  pub IsBlock : tree.Block → ℕ → Type 0
  IsBlock tree.NoStmt levels = Unit {0}
  IsBlock (tree.MoreStmts s ss) levels = IsStmt s levels × IsBlock ss levels

-- a body opens the first of 64 levels
abbrev pub IsBody : tree.Body → Type 0
IsBody b = IsBlock b.block (MOST_LEVELS - 1)

abbrev pub IsKind : tree.Kind → Type 0
IsKind (tree.Procedure xs b) = IsBody b
IsKind _ = Unit {0}

-- P holds for each of these
abbrev pub Each : {X : Type 0} → (X → Type 0) → List X → Type 0
Each P [] = Unit {0}
Each P (x ∷ xs) = P x × Each P xs

abbrev pub IsHandler : Option tree.StackBody → Type 0
IsHandler None = Unit {0}
IsHandler (Some b) = IsBody b.body

abbrev pub IsProgram : tree.Program → Type 0
IsProgram p = Each (λ d. IsKind d.kind) p.declarations × IsBody p.init.body × IsHandler p.handler × Each (λ q. IsBody q.body) p.processes

-- the grammar: it writes this program with these words
abbrev pub IsWritten : List Word → tree.Program → Type 0
IsWritten words program = IsProgram program × (words ≡ program_words program)

-- a source text is ASCII, and no longer than 1,048,576 bytes
abbrev pub IsText : List ℕ → Type 0
IsText text = IsAscii text × (length text ≤ MOST_SOURCE_BYTES)

-- the text of a program: its words are those that the grammar writes the program with
abbrev pub IsProgramOf : List ℕ → tree.Program → Type 0
IsProgramOf text program = IsText text × IsWritten (words_of text) program
