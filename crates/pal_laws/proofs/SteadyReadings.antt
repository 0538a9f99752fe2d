-- Each part of a program is read without looking at a word after the one where the reading stops.
use Rattle.std.proofs.Common.{◌≡◌, ℕ, zero, suc, ◌-◌, nat_eq, List, [], ◌∷◌, ◌++◌, length, Option, Some, None, Ok, Err, refl, sym, ap, ◌∙◌, ◌+◌, ◌<◌, ◌≤◌, arith}
use Rattle.std.specs.Prelude.{codes}
use Rattle.apex_types.specs.declared.limits.TheConstants.{MOST_LEVELS}
use Rattle.apex_types.specs.declared.service.Service.{Service}
use Rattle.pal_meaning.specs.Grammar.{Word, Rank, Disjunction, Conjunction, Comparison, Sum, Product}
use Rattle.pal_meaning.specs.Syntax as tree
use Rattle.pal_laws.specs.GrammarReading.{Answer, Reading, no_level, ◌>>=◌, either, expect, name_at, number_at, service_at, integer_at, discipline_at, repeat, operator_at, link_at, one_or_none, links_of, links_at, chain_with, products_with, sums_with, comparisons_with, conjunctions_with, operand_with, ranked, arguments_with, named_with, unary_with, unary_at, expr_at, nested_at, arguments_at, names_at, targets_at, service_call_at, assignment_at, work_at, return_at, branch_with, while_with, stmt_with, statements_with, block_at, stmt_at, statements_at, local_at, locals_at, body_at, first_value_at, variable_at, integers_at, first_values_at, array_at, semaphore_at, event_at, buffer_at, blackboard_at, port_at, parameters_at, procedure_at, declaration_at, declarations_at, stack_body_at, handler_at, process_at, processes_at, all_read, program_at}
use Rattle.apex_types.specs.declared.instruction.BinaryOperator.{BinaryOperator}
use Rattle.pal_laws.proofs.Begun.{left_is}
use Rattle.pal_laws.proofs.BegunStatements.{called_at}
use Rattle.pal_laws.proofs.Steady.{Steady, SteadyBehind, TurnSteady, steady_more, then_steady, ok_steady, mark_or, mark_then, one_or, one_steady, name_peeks, number_peeks, service_peeks, operator_peeks, level_steady, left_steady, blocked_steady, steady_same, viewed, Within, StaysFound, StaysRefused, Stays, statement_steady, each_steady, one_each_steady, until_steady, repeat_steady}

abbrev same : ℕ → ℕ
same n = n

name_steady : Steady name_at
name_steady ws more = one_steady name_at name_peeks ws more

number_steady : Steady number_at
number_steady ws more = one_steady number_at number_peeks ws more

ok_behind : {X : Type 0} (x : X) → SteadyBehind (λ ws. Ok (x, ws))
ok_behind x = steady_more (λ ws. Ok (x, ws)) (ok_steady x)

-- a mark, and what follows it
mark_next : {X : Type 0} (mark : List ℕ) (F : Reading X) → Steady F → Steady (λ ws. expect mark ws >>= F)
mark_next mark F f = mark_then mark F (steady_more F f)

mark_either : {X : Type 0} (mark : List ℕ) (F G : Reading X) → Steady F → Steady G → Steady (λ ws. either (expect mark ws) F (G ws))
mark_either mark F G f g = mark_or mark F G (steady_more F f) g

mark_ends : {X : Type 0} (mark : List ℕ) (x : X) → Steady (λ ws. expect mark ws >>= λ rest. Ok (x, rest))
mark_ends mark x = mark_then mark (λ rest. Ok (x, rest)) (ok_behind x)

integer_steady : Steady integer_at
unfolding integer_at
integer_steady ws more = mark_either (codes "-") _ _ (then_steady same number_at _ number_steady (λ n. ok_steady _)) (then_steady same number_at _ number_steady (λ n. ok_steady _)) ws more

discipline_steady : Steady discipline_at
unfolding discipline_at
discipline_steady ws more = mark_or (codes "fifo") _ _ (ok_behind _) (mark_ends (codes "priority") _) ws more

names_steady : Steady names_at
unfolding names_at
names_steady ws more = then_steady same name_at _ name_steady (λ x. then_steady same _ _ (repeat_steady _ (each_steady (codes ",") name_at (steady_more name_at name_steady))) (λ xs. ok_steady _)) ws more

targets_steady : Steady targets_at
unfolding targets_at
targets_steady ws more = mark_either (codes "->") names_at (λ us. Ok ([], us)) names_steady (ok_steady []) ws more

-- chains
link_steady : (operand : Reading tree.Expr) (rank : Rank) → Steady operand → TurnSteady (link_at operand rank)
unfolding link_at
link_steady operand rank s ws more =
    one_each_steady (operator_at rank) (operator_peeks rank) (λ op. operand op.1 >>= λ e. Ok ((op.0, e.0), e.1)) (λ op. steady_more (λ us. operand us >>= λ e. Ok ((op, e.0), e.1)) (then_steady same operand _ s (λ e. ok_steady _))) ws more

all_links_steady : (operand : Reading tree.Expr) (rank : Rank) → Steady operand → Steady (λ ws. repeat (link_at operand rank) ws >>= λ ls. Ok (links_of ls.0, ls.1))
all_links_steady operand rank s = then_steady same (repeat (link_at operand rank)) _ (repeat_steady (link_at operand rank) (link_steady operand rank s)) (λ ls. ok_steady _)

abbrev link_or_none : Option (BinaryOperator × tree.Expr) → tree.Links
link_or_none None = tree.NoLink
link_or_none (Some l) = links_of (l ∷ [])

abbrev as_links : Option (BinaryOperator × tree.Expr) × List Word → Answer (tree.Links × List Word)
as_links x = Ok (link_or_none x.0, x.1)

abbrev one_link : List Word → Option ((BinaryOperator × tree.Expr) × List Word) → Answer (tree.Links × List Word)
one_link ws l = Ok (links_of (one_or_none ws l).0, (one_or_none ws l).1)

one_link_is : (ws : List Word) (r : Answer (Option ((BinaryOperator × tree.Expr) × List Word))) → (viewed ws r >>= as_links) ≡ (r >>= one_link ws)
one_link_is ws (Ok None) = refl
one_link_is ws (Ok (Some l)) = refl
one_link_is ws (Err n) = refl

one_link_steady : (operand : Reading tree.Expr) → Steady operand → Steady (λ ws. link_at operand Comparison ws >>= one_link ws)
one_link_steady operand s = steady_same same (λ ws. viewed ws (link_at operand Comparison ws) >>= as_links) (λ ws. link_at operand Comparison ws >>= one_link ws) (λ ws. one_link_is ws (link_at operand Comparison ws))
    (then_steady same (λ ws. viewed ws (link_at operand Comparison ws)) as_links (link_steady operand Comparison s) (λ x. ok_steady (link_or_none x)))

links_steady : (operand : Reading tree.Expr) (rank : Rank) → Steady operand → Steady (links_at operand rank)
unfolding links_at
links_steady operand Comparison s ws more = one_link_steady operand s ws more
links_steady operand Disjunction s ws more = all_links_steady operand Disjunction s ws more
links_steady operand Conjunction s ws more = all_links_steady operand Conjunction s ws more
links_steady operand Sum s ws more = all_links_steady operand Sum s ws more
links_steady operand Product s ws more = all_links_steady operand Product s ws more

chain_steady : (operand : Reading tree.Expr) (rank : Rank) → Steady operand → Steady (chain_with operand rank)
unfolding chain_with
chain_steady operand rank s ws more = then_steady same operand _ s (λ first. then_steady same (links_at operand rank) _ (links_steady operand rank s) (λ ls. ok_steady _)) ws more

products_steady : (u : Reading tree.Expr) → Steady u → Steady (products_with u)
unfolding products_with
products_steady u s ws more = chain_steady u Product s ws more

sums_steady : (u : Reading tree.Expr) → Steady u → Steady (sums_with u)
unfolding sums_with
sums_steady u s ws more = chain_steady (products_with u) Sum (products_steady u s) ws more

comparisons_steady : (u : Reading tree.Expr) → Steady u → Steady (comparisons_with u)
unfolding comparisons_with
comparisons_steady u s ws more = chain_steady (sums_with u) Comparison (sums_steady u s) ws more

conjunctions_steady : (u : Reading tree.Expr) → Steady u → Steady (conjunctions_with u)
unfolding conjunctions_with
conjunctions_steady u s ws more = chain_steady (comparisons_with u) Conjunction (comparisons_steady u s) ws more

whole_steady : (u : Reading tree.Expr) → Steady u → Steady (ranked u Disjunction)
unfolding ranked operand_with
whole_steady u s ws more = chain_steady (λ vs. conjunctions_with u vs) Disjunction (conjunctions_steady u s) ws more

-- operands that are no chains
arguments_steady : (read : Reading tree.Expr) → Steady read → Steady (arguments_with read)
unfolding arguments_with
arguments_steady read s ws more = mark_or (codes ")") _ _ (ok_behind _)
    (then_steady same read _ s (λ first. then_steady same _ _ (repeat_steady _ (each_steady (codes ",") read (steady_more read s))) (λ xs. mark_ends (codes ")") _))) ws more

named_steady : (read : Reading tree.Expr) (arguments : Reading tree.Exprs) → SteadyBehind read → SteadyBehind arguments → (x : List ℕ) → Steady (named_with read arguments x)
unfolding named_with
named_steady read arguments s t x ws more = mark_or (codes "[") _ _ (then_steady suc read _ s (λ i. mark_ends (codes "]") _))
    (mark_or (codes "(") _ (λ us. Ok (tree.Name x, us)) (then_steady suc arguments _ t (λ es. ok_steady _)) (ok_steady (tree.Name x))) ws more

unary_steady : (deeper read : Reading tree.Expr) (arguments : Reading tree.Exprs) → SteadyBehind deeper → SteadyBehind read → SteadyBehind arguments → Steady (unary_with deeper read arguments)
unfolding unary_with
unary_steady deeper read arguments d s t ws more = mark_or (codes "-") _ _ (then_steady suc deeper _ d (λ e. ok_steady _))
    (mark_or (codes "not") _ _ (then_steady suc deeper _ d (λ e. ok_steady _))
    (one_or number_at number_peeks _ _ (λ n. ok_behind _)
    (one_or name_at name_peeks _ _ (λ x. steady_more (named_with read arguments x) (named_steady read arguments s t x))
    (mark_then (codes "(") _ (then_steady suc read _ s (λ i. mark_ends (codes ")") _)))))) ws more

unary_at_steady : (k : ℕ) → Steady (unary_at k)
unfolding unary_at
unary_at_steady zero ws more = unary_steady no_level no_level no_level (blocked_steady tree.Expr) (blocked_steady tree.Expr) (blocked_steady tree.Exprs) ws more
unary_at_steady (suc k) ws more =
    let inner = whole_steady (unary_at k) (unary_at_steady k) in
    unary_steady (unary_at k) (ranked (unary_at k) Disjunction) (arguments_with (ranked (unary_at k) Disjunction)) (steady_more (unary_at k) (unary_at_steady k)) (steady_more (ranked (unary_at k) Disjunction) inner)
    (steady_more (arguments_with (ranked (unary_at k) Disjunction)) (arguments_steady (ranked (unary_at k) Disjunction) inner)) ws more

expr_steady : (k : ℕ) → Steady (expr_at k)
unfolding expr_at
expr_steady k ws more = whole_steady (unary_at k) (unary_at_steady k) ws more

nested_steady : (k : ℕ) → SteadyBehind (nested_at k)
unfolding nested_at
nested_steady k ws more = level_steady (nat_eq k 0) (expr_at (k - 1)) (steady_more (expr_at (k - 1)) (expr_steady (k - 1))) ws more

arguments_at_steady : (k : ℕ) → SteadyBehind (arguments_at k)
unfolding arguments_at
arguments_at_steady k ws more = level_steady (nat_eq k 0) (arguments_with (expr_at (k - 1))) (steady_more (arguments_with (expr_at (k - 1))) (arguments_steady (expr_at (k - 1)) (expr_steady (k - 1)))) ws more

-- statements
called_steady : (k : ℕ) (service : Service) → Steady (called_at k service)
called_steady k service = mark_then (codes "(") _ (then_steady suc (arguments_at k) _ (arguments_at_steady k) (λ es. then_steady same targets_at _ targets_steady (λ xs. mark_ends (codes ";") _)))

service_call_steady : (k : ℕ) (service : Service) → SteadyBehind (service_call_at k service)
unfolding service_call_at
service_call_steady k service ws more = level_steady (nat_eq k 0) (called_at k service) (steady_more (called_at k service) (called_steady k service)) ws more

assignment_steady : (k : ℕ) (x : List ℕ) → Steady (assignment_at k x)
unfolding assignment_at
assignment_steady k x ws more = mark_or (codes "[") _ _
    (then_steady suc (nested_at k) _ (nested_steady k) (λ i. mark_next (codes "]") _ (mark_next (codes ":=") _ (then_steady same (expr_at k) _ (expr_steady k) (λ e. mark_ends (codes ";") _)))))
    (mark_next (codes ":=") _ (then_steady same (expr_at k) _ (expr_steady k) (λ e. mark_ends (codes ";") _))) ws more

work_steady : Steady work_at
unfolding work_at
work_steady ws more = then_steady same number_at _ number_steady (λ n. mark_ends (codes ";") _) ws more

return_steady : (k : ℕ) → Steady (return_at k)
unfolding return_at
return_steady k ws more = then_steady same (expr_at k) _ (expr_steady k) (λ e. mark_ends (codes ";") _) ws more

branch_steady : (block : Reading tree.Block) (k : ℕ) → Steady block → Steady (branch_with block k)
unfolding branch_with
branch_steady block k s ws more = then_steady same (expr_at k) _ (expr_steady k) (λ e. then_steady same block _ s (λ b. mark_either (codes "else") _ (λ us. Ok (tree.If e b, us)) (then_steady same block _ s (λ c. ok_steady _)) (ok_steady (tree.If e b)))) ws more

while_steady : (block : Reading tree.Block) (k : ℕ) → Steady block → Steady (while_with block k)
unfolding while_with
while_steady block k s ws more = then_steady same (expr_at k) _ (expr_steady k) (λ e. then_steady same block _ s (λ b. ok_steady _)) ws more

stmt_steady : (block : Reading tree.Block) (k : ℕ) → Steady block → Steady (stmt_with block k)
unfolding stmt_with
stmt_steady block k s ws more = one_or name_at name_peeks _ _ (λ x. steady_more (assignment_at k x) (assignment_steady k x))
    (one_or service_at service_peeks _ _ (λ service. service_call_steady k service)
    (mark_either (codes "work") work_at _ work_steady
    (mark_either (codes "return") (return_at k) _ (return_steady k)
    (statement_steady (nat_eq k 0) (λ vs. either (expect (codes "if") vs) (branch_with block k) (expect (codes "while") vs >>= while_with block k))
    (mark_either (codes "if") (branch_with block k) _ (branch_steady block k s) (mark_next (codes "while") (while_with block k) (while_steady block k s))))))) ws more

statements_steady : (stmt : Reading tree.Stmt) → Steady stmt → Steady (statements_with stmt)
unfolding statements_with
statements_steady stmt s ws more = then_steady same _ _ (repeat_steady _ (until_steady (codes "}") stmt s)) (λ ss. mark_ends (codes "}") _) ws more

block_steady : (k : ℕ) → Steady (block_at k)
unfolding block_at
block_steady zero ws more = left_steady tree.Block ws more
block_steady (suc k) ws more = mark_next (codes "{") (statements_with (stmt_with (block_at k) k)) (statements_steady (stmt_with (block_at k) k) (stmt_steady (block_at k) k (block_steady k))) ws more

statements_at_steady : (k : ℕ) → Steady (statements_at k)
unfolding statements_at stmt_at
statements_at_steady k ws more = statements_steady (λ vs. stmt_with (block_at k) k vs) (stmt_steady (block_at k) k (block_steady k)) ws more

-- bodies
local_steady : Steady local_at
unfolding local_at
local_steady ws more = then_steady same name_at _ name_steady (λ x. mark_ends (codes ";") _) ws more

locals_steady : Steady locals_at
unfolding locals_at
locals_steady ws more = repeat_steady _ (each_steady (codes "local") local_at (steady_more local_at local_steady)) ws more

body_steady : Steady body_at
unfolding body_at
body_steady ws more = mark_next (codes "{") _ (then_steady same locals_at _ locals_steady (λ xs. then_steady same (statements_at (MOST_LEVELS - 1)) _ (statements_at_steady (MOST_LEVELS - 1)) (λ b. ok_steady _))) ws more

-- declarations
first_value_steady : Steady first_value_at
unfolding first_value_at
first_value_steady ws more = mark_either (codes "=") _ (λ us. Ok (None, us)) (then_steady same integer_at _ integer_steady (λ n. ok_steady _)) (ok_steady None) ws more

variable_steady : Steady variable_at
unfolding variable_at
variable_steady ws more = then_steady same name_at _ name_steady (λ x. then_steady same first_value_at _ first_value_steady (λ n. mark_ends (codes ";") _)) ws more

integers_steady : Steady integers_at
unfolding integers_at
integers_steady ws more = then_steady same integer_at _ integer_steady (λ first. then_steady same _ _ (repeat_steady _ (until_steady (codes ";") integer_at integer_steady)) (λ ns. mark_ends (codes ";") _)) ws more

first_values_steady : Steady first_values_at
unfolding first_values_at
first_values_steady ws more = mark_either (codes "=") integers_at _ integers_steady (mark_ends (codes ";") _) ws more

array_steady : Steady array_at
unfolding array_at
array_steady ws more = then_steady same name_at _ name_steady (λ x. mark_next (codes "[") _ (then_steady same number_at _ number_steady (λ n. mark_next (codes "]") _ (then_steady same first_values_at _ first_values_steady (λ vs. ok_steady _))))) ws more

semaphore_steady : Steady semaphore_at
unfolding semaphore_at
semaphore_steady ws more = then_steady same name_at _ name_steady (λ x. then_steady same number_at _ number_steady (λ a. then_steady same number_at _ number_steady (λ b. then_steady same discipline_at _ discipline_steady (λ d. mark_ends (codes ";") _)))) ws more

event_steady : Steady event_at
unfolding event_at
event_steady ws more = then_steady same name_at _ name_steady (λ x. mark_ends (codes ";") _) ws more

buffer_steady : Steady buffer_at
unfolding buffer_at
buffer_steady ws more = then_steady same name_at _ name_steady (λ x. then_steady same number_at _ number_steady (λ a. then_steady same number_at _ number_steady (λ b. then_steady same discipline_at _ discipline_steady (λ d. mark_ends (codes ";") _)))) ws more

blackboard_steady : Steady blackboard_at
unfolding blackboard_at
blackboard_steady ws more = then_steady same name_at _ name_steady (λ x. then_steady same number_at _ number_steady (λ a. mark_ends (codes ";") _)) ws more

port_steady : Steady port_at
unfolding port_at
port_steady ws more = then_steady same name_at _ name_steady (λ x. mark_ends (codes ";") _) ws more

parameters_steady : Steady parameters_at
unfolding parameters_at
parameters_steady ws more = mark_or (codes ")") _ _ (ok_behind _) (then_steady same names_at _ names_steady (λ xs. mark_ends (codes ")") _)) ws more

procedure_steady : Steady procedure_at
unfolding procedure_at
procedure_steady ws more = then_steady same name_at _ name_steady (λ x. mark_next (codes "(") _ (then_steady same parameters_at _ parameters_steady (λ xs. then_steady same body_at _ body_steady (λ b. ok_steady _)))) ws more

declaration_steady : Steady declaration_at
unfolding declaration_at
declaration_steady ws more = mark_either (codes "var") variable_at _ variable_steady
    (mark_either (codes "array") array_at _ array_steady
    (mark_either (codes "semaphore") semaphore_at _ semaphore_steady
    (mark_either (codes "event") event_at _ event_steady
    (mark_either (codes "buffer") buffer_at _ buffer_steady
    (mark_either (codes "blackboard") blackboard_at _ blackboard_steady
    (mark_either (codes "port") port_at _ port_steady
    (mark_next (codes "proc") procedure_at procedure_steady))))))) ws more

declarations_steady : Steady declarations_at
unfolding declarations_at
declarations_steady ws more = repeat_steady _ (until_steady (codes "init") declaration_at declaration_steady) ws more

-- INIT, the handler and the processes
stack_body_steady : (mark : List ℕ) → Steady (stack_body_at mark)
unfolding stack_body_at
stack_body_steady mark ws more = mark_next mark _ (mark_next (codes "stack") _ (then_steady same number_at _ number_steady (λ n. then_steady same body_at _ body_steady (λ b. ok_steady _)))) ws more

process_steady : Steady process_at
unfolding process_at
process_steady ws more = then_steady same name_at _ name_steady (λ x. mark_next (codes "priority") _ (then_steady same number_at _ number_steady (λ p. mark_next (codes "period") _ (then_steady same integer_at _ integer_steady (λ q.
    mark_next (codes "capacity") _ (then_steady same integer_at _ integer_steady (λ r. mark_next (codes "stack") _ (then_steady same number_at _ number_steady (λ t. then_steady same body_at _ body_steady (λ b. ok_steady _)))))))))) ws more

processes_steady : Steady processes_at
unfolding processes_at
processes_steady ws more = repeat_steady _ (each_steady (codes "process") process_at (steady_more process_at process_steady)) ws more

unfoldable pub stack_behind : Reading tree.StackBody
stack_behind ws = expect (codes "stack") ws >>= λ rest. number_at rest >>= λ n. body_at n.1 >>= λ b. Ok (record { stack = n.0; body = b.0 }, b.1)

stack_behind_steady : Steady stack_behind
unfolding stack_behind
stack_behind_steady ws more = mark_next (codes "stack") _ (then_steady same number_at _ number_steady (λ n. then_steady same body_at _ body_steady (λ b. ok_steady _))) ws more

twice : {A B D : Type 0} (o : Answer A) (f : A → Answer B) (g : B → Answer D) (none : Answer D) → either o (λ a. f a >>= g) none ≡ either o (λ a. (o >>= f) >>= g) none
twice (Ok a) f g none = refl
twice (Err n) f g none = refl

pub handler_is : (ws : List Word) → either (expect (codes "handler") ws) (λ rest. stack_behind rest >>= λ b. Ok (Some b.0, b.1)) (Ok (None, ws)) ≡ handler_at ws
unfolding handler_at stack_body_at stack_behind
handler_is ws = twice (expect (codes "handler") ws) stack_behind (λ b. Ok (Some b.0, b.1)) (Ok (None, ws))

handler_steady : Steady handler_at
handler_steady ws more = steady_same same (λ vs. either (expect (codes "handler") vs) (λ rest. stack_behind rest >>= λ b. Ok (Some b.0, b.1)) (Ok (None, vs))) handler_at handler_is
    (mark_either (codes "handler") (λ rest. stack_behind rest >>= λ b. Ok (Some b.0, b.1)) (λ vs. Ok (None, vs)) (then_steady same stack_behind _ stack_behind_steady (λ b. ok_steady _)) (ok_steady None)) ws more

-- programs, and the words after them
abbrev pub parts_at : Reading tree.Program
parts_at ws = declarations_at ws >>= λ ds. stack_body_at (codes "init") ds.1 >>= λ i. handler_at i.1 >>= λ h. processes_at h.1 >>= λ ps.
    Ok (record { declarations = ds.0; init = i.0; handler = h.0; processes = ps.0 }, ps.1)

parts_steady : Steady parts_at
parts_steady = then_steady same declarations_at _ declarations_steady (λ ds. then_steady same (stack_body_at (codes "init")) _ (stack_body_steady (codes "init")) (λ i.
    then_steady same handler_at _ handler_steady (λ h. then_steady same processes_at _ processes_steady (λ ps. ok_steady _))))

abbrev pub all_of : tree.Program × List Word → Answer tree.Program
all_of x = all_read x.0 x.1

regroup : {A B D : Type 0} (o : Answer A) (f : A → Answer B) (g : B → Answer D) → ((o >>= f) >>= g) ≡ (o >>= λ a. f a >>= g)
regroup (Ok a) f g = refl
regroup (Err n) f g = refl

deeper : {A B : Type 0} (o : Answer A) (f g : A → Answer B) → ((a : A) → f a ≡ g a) → (o >>= f) ≡ (o >>= g)
deeper (Ok a) f g h = h a
deeper (Err n) f g h = refl

pub program_is : (ws : List Word) → (parts_at ws >>= all_of) ≡ program_at ws
unfolding program_at
program_is ws =
    regroup (declarations_at ws) _ all_of ∙ deeper (declarations_at ws) _ _ (λ ds. regroup (stack_body_at (codes "init") ds.1) _ all_of ∙ deeper (stack_body_at (codes "init") ds.1) _ _ (λ i.
    regroup (handler_at i.1) _ all_of ∙ deeper (handler_at i.1) _ _ (λ h. regroup (processes_at h.1) _ all_of)))

-- If more words are left than follow these, no program begins with these.
all_too_few : (x : tree.Program) (us : List Word) (n m : ℕ) → length us ≤ m → m < n → all_read x us ≡ Err n → ⊥
all_too_few x [] n m l k h = let e : ⊥ = cc in e
all_too_few x (u ∷ us) n m l k h = omega (arith, l, k, left_is (suc (length us)) n h)

too_few : (r : Answer (tree.Program × List Word)) (n m : ℕ) → Within r m → m < n → (r >>= all_of) ≡ Err n → ⊥
too_few (Ok x) n m w k h = all_too_few x.0 x.1 n m w k h
too_few (Err left) n m w k h = omega (arith, w, k, left_is left n h)

found_dead : (more us : List Word) (x : tree.Program) (q : tree.Program) (a b : Answer (tree.Program × List Word)) (n : ℕ) (back : List Word) → StaysFound back x us a → StaysFound more x us b → (a >>= all_of) ≡ Err n → length back < n → (b >>= all_of) ≡ Ok q → ⊥
found_dead more [] x q a b n back s t h l g = too_few a n (length back) s l h
found_dead more (u ∷ us) x q a b n back s t h l g = let e : Err (suc (length (us ++ more))) ≡ Ok q = sym (ap (λ o. o >>= all_of) t) ∙ g in absurd (let f : ⊥ = cc in f)

refused_dead : (more : List Word) (k : ℕ) (q : tree.Program) (a b : Answer (tree.Program × List Word)) (n : ℕ) (back : List Word) → StaysRefused back k a → StaysRefused more k b → (a >>= all_of) ≡ Err n → length back < n → (b >>= all_of) ≡ Ok q → ⊥
refused_dead more zero q a b n back s t h l g = too_few a n (length back) s l h
refused_dead more (suc k) q a b n back s t h l g = let e : Err (suc (k + length more)) ≡ Ok q = sym (ap (λ o. o >>= all_of) t) ∙ g in absurd (let f : ⊥ = cc in f)

stays_dead : (more : List Word) (r : Answer (tree.Program × List Word)) (q : tree.Program) (a b : Answer (tree.Program × List Word)) (n : ℕ) (back : List Word) → Stays back r a → Stays more r b → (a >>= all_of) ≡ Err n → length back < n → (b >>= all_of) ≡ Ok q → ⊥
stays_dead more (Ok x) q a b n back s t h l g = found_dead more x.1 x.0 q a b n back s t h l g
stays_dead more (Err k) q a b n back s t h l g = refused_dead more k q a b n back s t h l g

pub no_program : (front back more : List Word) (n : ℕ) (q : tree.Program) → program_at (front ++ back) ≡ Err n → length back < n → program_at (front ++ more) ≡ Ok q → ⊥
no_program front back more n q h l g =
    stays_dead more (parts_at front) q (parts_at (front ++ back)) (parts_at (front ++ more)) n back (parts_steady front back).1 (parts_steady front more).1 (program_is (front ++ back) ∙ h) l (program_is (front ++ more) ∙ g)
