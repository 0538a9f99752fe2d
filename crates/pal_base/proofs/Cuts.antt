-- The code that is cut in another way than the definitions reads the same.
use Rattle.std.proofs.Common.{◌≡◌, ℕ, zero, suc, ◌-◌, Bool, true, false, cond, nat_eq, List, [], ◌∷◌, length, map, Option, Some, None, Ok, Err, refl, sym, ◌∙◌, ap, arith}
use Rattle.std.specs.Prelude.{codes, if◌then◌else◌, ◌==◌}
use Rattle.std.proofs.lemmas.Bool.{eqb-true}
use Rattle.pal_meaning.specs.Grammar.{Word}
use Rattle.pal_laws.specs.GrammarReading.{Answer, Reading, no_level, repeat, either, expect, name_at, service_at, integer_at, integers_at, first_values_at, declarations_at, stack_body_at, handler_at, processes_at, program_at, all_read, expr_at, exprs_of, ranked, unary_with, unary_at, unary_read, deeper_at, nested_at, arguments_at, arguments_with, links_at, link_at, links_of, operator_at, chain_with, chain_of, named_with, operated_at, block_at, block_read, statements_at, statements_with, stmt_at, stmt_with, branch_with, while_with, service_call_at, assignment_at, work_at, return_at, targets_at, block_of, ◌>>=◌}
use Rattle.pal_meaning.specs.Grammar.{Rank, Disjunction}
use Rattle.pal_meaning.specs.Syntax as tree
use Rattle.apex_types.specs.declared.instruction.BinaryOperator.{BinaryOperator}
use Rattle.apex_types.specs.declared.instruction.UnaryOperator.{UnaryOperator}
use Rattle.pal_base.specs.declared.source.Rank as declared
use Rattle.pal_base.specs.declared.source.Rank.TheVariants as code
use Rattle.pal_base.specs.Seen.{rank_of}
use Rattle.pal_base.proofs.Turns.{each_finds, each_ends, each_fails}
use Rattle.pal_base.specs.Reads.{listed, up_to, and_more, integers_read, arguments_read, arguments_within, service_call_read, stmt_read}
use Rattle.apex_types.specs.declared.service.Service.{Service}

and_more_goes_on : {X B : Type 0} (x : X) (r : Answer (List X × List Word)) (g : List X → List Word → Answer B) → (and_more x r >>= λ all. g all.0 all.1) ≡ (r >>= λ more. g (x ∷ more.0) more.1)
and_more_goes_on x (Err n) g = refl
and_more_goes_on x (Ok xs) g = refl

pub integers_are : (ws : List Word) → integers_read ws ≡ integers_at ws
unfolding integers_read integers_at
integers_are ws = λ i. integer_at ws >>= λ first. and_more_goes_on first.0 (up_to (codes ";") integer_at first.1) (λ all vs. expect (codes ";") vs >>= λ rest. Ok (all, rest)) i

pub first_values_are : (ws vs : List Word) → expect (codes "=") ws ≡ Ok vs → integers_read vs ≡ first_values_at ws
unfolding first_values_at
first_values_are ws vs stands = integers_are vs ∙ sym (ap (λ r. either r integers_at (expect (codes ";") ws >>= λ rest. Ok ([], rest))) stands)

arguments_within_are : (k : ℕ) (ws : List Word) → arguments_within k ws ≡ arguments_with (expr_at k) ws
unfolding arguments_within arguments_with
arguments_within_are k ws = λ i. either (expect (codes ")") ws)
    (λ rest. Ok (tree.NoExpr, rest))
    (expr_at k ws >>= λ first. and_more_goes_on first.0 (listed (codes ",") (expr_at k) first.1) (λ all vs. expect (codes ")") vs >>= λ rest. Ok (exprs_of all, rest)) i)

pub arguments_are : (k : ℕ) (ws : List Word) → arguments_read k ws ≡ arguments_at k ws
unfolding arguments_read arguments_at
arguments_are k ws = ap (λ r. if k == 0 then no_level ws else r) (arguments_within_are (k - 1) ws)

-- one level further in, where a level may still be opened
refuted : (t : Bool) → (t ≡ true → ⊥) → t ≡ false
refuted true h = absurd (h refl)
refuted false h = refl

not_none : (k : ℕ) → nat_eq (suc k) 0 ≡ false
not_none k = refuted (nat_eq (suc k) 0) (λ h. omega (arith, eqb-true (suc k) 0 h))

less : (k : ℕ) → suc k - 1 ≡ k
less k = omega arith

pub unary_is : (k : ℕ) (ws : List Word) → unary_read k ws ≡ unary_at k ws
unfolding unary_read unary_at deeper_at nested_at arguments_at expr_at
unary_is zero ws = refl
unary_is (suc k) ws = λ i. unary_with
    (λ vs. cond (not_none k i) (no_level vs) (unary_at (less k i) vs))
    (λ vs. cond (not_none k i) (no_level vs) (ranked (unary_at (less k i)) Disjunction vs))
    (λ vs. cond (not_none k i) (no_level vs) (arguments_with (λ us. ranked (unary_at (less k i)) Disjunction us) vs)) ws

pub block_is : (k : ℕ) (ws : List Word) → block_read k ws ≡ block_at k ws
unfolding block_read block_at statements_at stmt_at
block_is zero ws = refl
block_is (suc k) ws = λ i. cond (not_none k i) (Err (length ws)) (expect (codes "{") ws >>= λ vs. statements_with (λ us. stmt_with (block_at (less k i)) (less k i) us) vs)

service_calls_are : (k : ℕ) (service : Service) (ws : List Word) → service_call_read k service ws ≡ service_call_at k service ws
unfolding service_call_read service_call_at
service_calls_are k service ws = λ i. if k == 0 then no_level ws else (expect (codes "(") ws >>= λ rest. arguments_are k rest i >>= λ es. targets_at es.1 >>= λ xs.
    expect (codes ";") xs.1 >>= λ rest. Ok (tree.CallService service es.0 xs.0, rest))

pub stmt_is : (k : ℕ) (ws : List Word) → stmt_read k ws ≡ stmt_at k ws
unfolding stmt_read stmt_at stmt_with
stmt_is k ws = λ i. either (name_at ws) (λ x. assignment_at k x.0 x.1)
    (either (service_at ws) (λ s. service_calls_are k s.0 s.1 i)
    (either (expect (codes "work") ws) work_at
    (either (expect (codes "return") ws) (return_at k)
    (if k == 0 then Err (length ws) else (either (expect (codes "if") ws) (λ vs. branch_with (λ us. block_is k us i) k vs)
    (expect (codes "while") ws >>= λ vs. while_with (λ us. block_is k us i) k vs))))))

-- statements with blocks
pub if_reads : (block : Reading tree.Block) (k : ℕ) (ws vs us : List Word) (e : tree.Expr) (b : tree.Block) → expr_at k ws ≡ Ok (e, vs) → block vs ≡ Ok (b, us) → expect (codes "else") us ≡ Err (length us) →
    branch_with block k ws ≡ Ok (tree.If e b, us)
unfolding branch_with
if_reads block k ws vs us e b test inside other =
    ap (λ r. r >>= λ e. block e.1 >>= λ b. either (expect (codes "else") b.1) (λ rest. block rest >>= λ other. Ok (tree.IfElse e.0 b.0 other.0, other.1)) (Ok (tree.If e.0 b.0, b.1))) test
    ∙ ap (λ r. r >>= λ b. either (expect (codes "else") b.1) (λ rest. block rest >>= λ other. Ok (tree.IfElse e b.0 other.0, other.1)) (Ok (tree.If e b.0, b.1))) inside
    ∙ ap (λ r. either r (λ rest. block rest >>= λ other. Ok (tree.IfElse e b other.0, other.1)) (Ok (tree.If e b, us))) other

pub if_else_reads : (block : Reading tree.Block) (k : ℕ) (ws vs us xs ys : List Word) (e : tree.Expr) (b other : tree.Block) → expr_at k ws ≡ Ok (e, vs) → block vs ≡ Ok (b, us) → expect (codes "else") us ≡ Ok xs → block xs ≡ Ok (other, ys) →
    branch_with block k ws ≡ Ok (tree.IfElse e b other, ys)
unfolding branch_with
if_else_reads block k ws vs us xs ys e b other test inside mark behind =
    ap (λ r. r >>= λ e. block e.1 >>= λ b. either (expect (codes "else") b.1) (λ rest. block rest >>= λ other. Ok (tree.IfElse e.0 b.0 other.0, other.1)) (Ok (tree.If e.0 b.0, b.1))) test
    ∙ ap (λ r. r >>= λ b. either (expect (codes "else") b.1) (λ rest. block rest >>= λ other. Ok (tree.IfElse e b.0 other.0, other.1)) (Ok (tree.If e b.0, b.1))) inside
    ∙ ap (λ r. either r (λ rest. block rest >>= λ other. Ok (tree.IfElse e b other.0, other.1)) (Ok (tree.If e b, us))) mark
    ∙ ap (λ r. r >>= λ other. Ok (tree.IfElse e b other.0, other.1)) behind

pub while_reads : (block : Reading tree.Block) (k : ℕ) (ws vs us : List Word) (e : tree.Expr) (b : tree.Block) → expr_at k ws ≡ Ok (e, vs) → block vs ≡ Ok (b, us) → while_with block k ws ≡ Ok (tree.While e b, us)
unfolding while_with
while_reads block k ws vs us e b test inside =
    ap (λ r. r >>= λ e. block e.1 >>= λ b. Ok (tree.While e.0 b.0, b.1)) test ∙ ap (λ r. r >>= λ b. Ok (tree.While e b.0, b.1)) inside

-- statements up to the closing brace
pub statements_read : (k : ℕ) (ws vs us : List Word) (ss : List tree.Stmt) → up_to (codes "}") (stmt_at k) ws ≡ Ok (ss, vs) → expect (codes "}") vs ≡ Ok us → statements_at k ws ≡ Ok (block_of ss, us)
unfolding statements_at statements_with
statements_read k ws vs us ss inside brace =
    ap (λ r. r >>= λ ss. expect (codes "}") ss.1 >>= λ rest. Ok (block_of ss.0, rest)) inside ∙ ap (λ r. r >>= λ rest. Ok (block_of ss, rest)) brace

pub no_statements : (k : ℕ) (ws : List Word) (left : ℕ) → up_to (codes "}") (stmt_at k) ws ≡ Err left → statements_at k ws ≡ Err left
unfolding statements_at statements_with
no_statements k ws left inside = ap (λ r. r >>= λ ss. expect (codes "}") ss.1 >>= λ rest. Ok (block_of ss.0, rest)) inside

-- all operators of a rank other than that of comparisons
pub all_links_are : (rank : declared.Rank) (operand : Reading tree.Expr) (ws : List Word) → (rank ≡ code.Comparison → ⊥) → links_at operand (rank_of rank) ws ≡ (repeat (link_at operand (rank_of rank)) ws >>= λ ls. Ok (links_of ls.0, ls.1))
unfolding links_at
all_links_are code.Disjunction operand ws h = refl
all_links_are code.Conjunction operand ws h = refl
all_links_are code.Comparison operand ws h = absurd (h refl)
all_links_are code.Sum operand ws h = refl
all_links_are code.Product operand ws h = refl

-- an operator of a rank with its right operand
pub link_finds : (operand : Reading tree.Expr) (rank : Rank) (ws vs us : List Word) (op : BinaryOperator) (e : tree.Expr) → operator_at rank ws ≡ Ok (op, vs) → operand vs ≡ Ok (e, us) → link_at operand rank ws ≡ Ok (Some ((op, e), us))
unfolding link_at
link_finds operand rank ws vs us op e stands found =
    each_finds (operator_at rank ws) (op, vs) (λ o. operand o.1 >>= λ e. Ok ((o.0, e.0), e.1)) ((op, e), us) stands (ap (λ r. r >>= λ e. Ok ((op, e.0), e.1)) found)

pub link_ends : (operand : Reading tree.Expr) (rank : Rank) (ws : List Word) → operator_at rank ws ≡ Err (length ws) → link_at operand rank ws ≡ Ok None
unfolding link_at
link_ends operand rank ws stands = each_ends (operator_at rank ws) (λ o. operand o.1 >>= λ e. Ok ((o.0, e.0), e.1)) (length ws) stands

pub link_fails : (operand : Reading tree.Expr) (rank : Rank) (ws vs : List Word) (op : BinaryOperator) (left : ℕ) → operator_at rank ws ≡ Ok (op, vs) → operand vs ≡ Err left → link_at operand rank ws ≡ Err left
unfolding link_at
link_fails operand rank ws vs op left stands failed =
    each_fails (operator_at rank ws) (op, vs) (λ o. operand o.1 >>= λ e. Ok ((o.0, e.0), e.1)) left stands (ap (λ r. r >>= λ e. Ok ((op, e.0), e.1)) failed)

-- an operand and its operators
pub chain_reads : (operand : Reading tree.Expr) (rank : Rank) (ws vs us : List Word) (e : tree.Expr) (ls : tree.Links) → operand ws ≡ Ok (e, vs) → links_at operand rank vs ≡ Ok (ls, us) → chain_with operand rank ws ≡ Ok (chain_of e ls, us)
unfolding chain_with
chain_reads operand rank ws vs us e ls first links =
    ap (λ r. r >>= λ f. links_at operand rank f.1 >>= λ l. Ok (chain_of f.0 l.0, l.1)) first ∙ ap (λ r. r >>= λ l. Ok (chain_of e l.0, l.1)) links

-- a call
pub call_reads : (inside : Reading tree.Expr) (arguments : Reading tree.Exprs) (x : List ℕ) (ws vs : List Word) → expect (codes "[") ws ≡ Err (length ws) → expect (codes "(") ws ≡ Ok vs → named_with inside arguments x ws ≡ (arguments vs >>= λ es. Ok (tree.Apply x es.0, es.1))
unfolding named_with
call_reads inside arguments x ws vs bracket parenthesis =
    ap (λ r. either r (λ rest. inside rest >>= λ e. expect (codes "]") e.1 >>= λ rest. Ok (tree.Element x e.0, rest)) (either (expect (codes "(") ws) (λ rest. arguments rest >>= λ es. Ok (tree.Apply x es.0, es.1)) (Ok (tree.Name x, ws)))) bracket
    ∙ ap (λ r. either r (λ rest. arguments rest >>= λ es. Ok (tree.Apply x es.0, es.1)) (Ok (tree.Name x, ws))) parenthesis

-- the operand of a unary operator
pub operated_reads : (op : UnaryOperator) (k : ℕ) (ws : List Word) → (k ≡ 0 → ⊥) → operated_at op k ws ≡ (unary_read (k - 1) ws >>= λ e. Ok (tree.Unary op e.0, e.1))
unfolding operated_at deeper_at
operated_reads op zero ws h = absurd (h refl)
operated_reads op (suc k) ws h =
    ap (λ b. cond b (no_level ws) (unary_at (suc k - 1) ws) >>= λ e. Ok (tree.Unary op e.0, e.1)) (not_none k)
    ∙ ap (λ r. r >>= λ e. Ok (tree.Unary op e.0, e.1)) (sym (unary_is (suc k - 1) ws))

-- the parts of a program, and the words after them
pub program_reads : (ws xs bs cs ds : List Word) (declarations : List tree.Declaration) (init : tree.StackBody) (handler : Option tree.StackBody) (processes : List tree.Process) →
    declarations_at ws ≡ Ok (declarations, xs) → stack_body_at (codes "init") xs ≡ Ok (init, bs) → handler_at bs ≡ Ok (handler, cs) → processes_at cs ≡ Ok (processes, ds) →
    program_at ws ≡ all_read (record { declarations = declarations; init = init; handler = handler; processes = processes }) ds
unfolding program_at
program_reads ws xs bs cs ds declarations init handler processes first second third fourth =
    ap (λ r. r >>= λ ds. stack_body_at (codes "init") ds.1 >>= λ i. handler_at i.1 >>= λ h. processes_at h.1 >>= λ ps. all_read (record { declarations = ds.0; init = i.0; handler = h.0; processes = ps.0 }) ps.1) first
    ∙ ap (λ r. r >>= λ i. handler_at i.1 >>= λ h. processes_at h.1 >>= λ ps. all_read (record { declarations = declarations; init = i.0; handler = h.0; processes = ps.0 }) ps.1) second
    ∙ ap (λ r. r >>= λ h. processes_at h.1 >>= λ ps. all_read (record { declarations = declarations; init = init; handler = h.0; processes = ps.0 }) ps.1) third
    ∙ ap (λ r. r >>= λ ps. all_read (record { declarations = declarations; init = init; handler = handler; processes = ps.0 }) ps.1) fourth

pub words_left : {A X : Type 0} (x : X) (view : A → Word) (ts : List A) → (length ts ≡ 0 → ⊥) → all_read x (map view ts) ≡ Err (length (map view ts))
words_left x view [] h = absurd (h refl)
words_left x view (t ∷ ts) h = refl
