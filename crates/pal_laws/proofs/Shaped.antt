-- An expression that is read has its operators in the order of their ranks, and opens no more
-- levels than it may.
use Rattle.std.proofs.Common.{◌≡◌, ◌≤◌, ℕ, zero, suc, ◌-◌, Bool, true, false, cond, nat_eq, List, [], ◌∷◌, length, Option, Some, None, Ok, Err, refl, arith, subst}
use Rattle.std.specs.Prelude.{codes, nat_lt}
use Rattle.apex_types.specs.declared.limits.TheConstants.{MOST_LEVELS}
use Rattle.apex_types.specs.declared.instruction.BinaryOperator.{BinaryOperator}
use Rattle.apex_types.specs.declared.instruction.UnaryOperator.TheVariants as unary
use Rattle.apex_types.specs.declared.service.Service.{Service}
use Rattle.pal_meaning.specs.Grammar.{Word}
use Rattle.pal_laws.specs.GrammarReading.{Answer, Reading, Turn, no_level, ◌>>=◌, each, until, expect, name_at, number_at, service_at, discipline_at, targets_at, locals_at, first_value_at, first_values_at, parameters_at, declared, integer_at, turned, repeat_within, repeat, operators_of, one_of, links_of, chain_of, exprs_of, block_of, link_at, one_or_none, links_at, chain_with, products_with, sums_with, comparisons_with, conjunctions_with, operand_with, ranked, arguments_with, named_with, unary_with, unary_at, expr_at, nested_at, arguments_at, service_call_at, assignment_at, work_at, return_at, branch_with, while_with, stmt_with, statements_with, block_at, stmt_at, statements_at, body_at, variable_at, array_at, semaphore_at, event_at, buffer_at, blackboard_at, port_at, procedure_at, declaration_at, declarations_at, stack_body_at, handler_at, process_at, processes_at, all_read, program_at}
use Rattle.pal_meaning.specs.Grammar.{Rank, Disjunction, Conjunction, Comparison, Sum, Product}
use Rattle.pal_meaning.specs.Grammar.{rank_of, looseness, IsFew, IsExpr, AreLinks, AreArguments, IsStmt, IsBlock, IsBody, IsKind, Each, IsHandler, IsProgram, IsWritten}
use Rattle.pal_meaning.specs.Syntax as tree
use Rattle.pal_laws.proofs.Spelled.{found, nothing, and_then, one_way, each_some, until_some, passed, allowed, program_spells}

abbrev pub Shapes : (X : Type 0) → (X → Type 0) → Reading X → Type 0
Shapes X P read = (ws us : List Word) (x : X) → read ws ≡ Ok (x, us) → P x

abbrev kept : {X : Type 0} → (X → Type 0) → Answer (X × List Word) → Type 0
kept P (Ok r) = P r.0
kept P (Err left) = Unit {0}

so : {X : Type 0} (P : X → Type 0) (vs us : List Word) (y x : X) → P y → found y vs ≡ found x us → P x
so P vs us y x h e = subst (kept P) e h

abbrev pub TurnShapes : (X : Type 0) → (X → Type 0) → Turn X → Type 0
TurnShapes X P turn = (ws us : List Word) (x : X) → turn ws ≡ Ok (Some (x, us)) → P x

turned_shapes : {X : Type 0} (P : X → Type 0) (turn : Turn X) (go : Reading (List X)) → TurnShapes X P turn → Shapes (List X) (Each P) go →
    (ws us : List Word) (xs : List X) (r : Answer (Option (X × List Word))) → turn ws ≡ r → turned go ws r ≡ Ok (xs, us) → Each P xs
turned_shapes P turn go s t ws us xs (Err left) e h = nothing left (xs, us) h
turned_shapes P turn go s t ws us xs (Ok None) e h = so (Each P) ws us [] xs tt h
turned_shapes P turn go s t ws us xs (Ok (Some x)) e h =
    and_then (go x.1) (λ ys. Ok (x.0 ∷ ys.0, ys.1)) (xs, us) (passed (nat_lt (length x.1) (length ws)) (go x.1 >>= λ ys. Ok (x.0 ∷ ys.0, ys.1)) (length ws) (xs, us) h)
    (λ ys f h. so (Each P) ys.1 us (x.0 ∷ ys.0) xs (s ws x.1 x.0 e, t x.1 ys.1 ys.0 f) h)

within_shapes : {X : Type 0} (P : X → Type 0) (turn : Turn X) → TurnShapes X P turn → (n : ℕ) → Shapes (List X) (Each P) (repeat_within n turn)
unfolding repeat_within
within_shapes P turn s zero ws us xs h = nothing (length ws) (xs, us) h
within_shapes P turn s (suc n) ws us xs h = turned_shapes P turn (repeat_within n turn) s (within_shapes P turn s n) ws us xs (turn ws) refl h

pub repeat_shapes : {X : Type 0} (P : X → Type 0) (turn : Turn X) → TurnShapes X P turn → Shapes (List X) (Each P) (repeat turn)
unfolding repeat
repeat_shapes P turn s ws us xs h = within_shapes P turn s (suc (length ws)) ws us xs h

-- operators
pub one_of_shapes : (P : BinaryOperator → Type 0) (ops : List BinaryOperator) → Each P ops → Shapes BinaryOperator P (one_of ops)
unfolding one_of
one_of_shapes P [] all ws us op h = nothing (length ws) (op, us) h
one_of_shapes P (o ∷ ops) all ws us op h = one_way _ _ _ _ h (λ vs e h. so P vs us o op all.0 h) (λ h. one_of_shapes P ops all.1 ws us op h)

pub all_ranked : (rank : Rank) → Each (λ op. rank_of op ≡ rank) (operators_of rank)
all_ranked Disjunction = (refl, tt)
all_ranked Conjunction = (refl, tt)
all_ranked Comparison = (refl, (refl, (refl, (refl, (refl, (refl, tt))))))
all_ranked Sum = (refl, (refl, tt))
all_ranked Product = (refl, (refl, (refl, tt)))

-- chains
abbrev pub Fits : ℕ → ℕ → tree.Expr → Type 0
Fits k n e = IsExpr e k n

abbrev pub IsLink : ℕ → Rank → BinaryOperator × tree.Expr → Type 0
IsLink k rank l = (rank_of l.0 ≡ rank) × IsExpr l.1 k (looseness rank - 1)

abbrev pub AreFit : ℕ → Rank → tree.Links → Type 0
AreFit k rank ls = AreLinks ls k rank × IsFew rank ls

pub link_shapes : (k : ℕ) (rank : Rank) (operand : Reading tree.Expr) → Shapes tree.Expr (Fits k (looseness rank - 1)) operand → TurnShapes (BinaryOperator × tree.Expr) (IsLink k rank) (link_at operand rank)
unfolding link_at
link_shapes k rank operand s ws us l h = each_some _ _ _ h (λ op e f. and_then _ _ _ f (λ x g h. so (IsLink k rank) x.1 us (op.0, x.0) l
    (one_of_shapes (λ o. rank_of o ≡ rank) (operators_of rank) (all_ranked rank) ws op.1 op.0 e, s op.1 x.1 x.0 g) h))

pub links_list : (k : ℕ) (rank : Rank) (ls : List (BinaryOperator × tree.Expr)) → Each (IsLink k rank) ls → AreLinks (links_of ls) k rank
links_list k rank [] h = tt
links_list k rank (l ∷ ls) h = (h.0.0, h.0.1, links_list k rank ls h.1)

all_links_shape : (k : ℕ) (rank : Rank) (operand : Reading tree.Expr) → Shapes tree.Expr (Fits k (looseness rank - 1)) operand → ((ls : tree.Links) → IsFew rank ls) →
    Shapes tree.Links (AreFit k rank) (λ ws. repeat (link_at operand rank) ws >>= λ ls. Ok (links_of ls.0, ls.1))
all_links_shape k rank operand s few ws us ls h = and_then _ _ _ h (λ r e h. so (AreFit k rank) r.1 us (links_of r.0) ls
    (links_list k rank r.0 (repeat_shapes (IsLink k rank) (link_at operand rank) (link_shapes k rank operand s) ws r.1 r.0 e), few (links_of r.0)) h)

one_shapes : (k : ℕ) (operand : Reading tree.Expr) → Shapes tree.Expr (Fits k (looseness Comparison - 1)) operand → (ws : List Word) (l : Option ((BinaryOperator × tree.Expr) × List Word)) → link_at operand Comparison ws ≡ Ok l →
    AreFit k Comparison (links_of (one_or_none ws l).0)
one_shapes k operand s ws (Some x) e = let h = link_shapes k Comparison operand s ws x.1 x.0 e in ((h.0, h.1, tt), tt)
one_shapes k operand s ws None e = (tt, tt)

pub links_shape : (k : ℕ) (rank : Rank) (operand : Reading tree.Expr) → Shapes tree.Expr (Fits k (looseness rank - 1)) operand → Shapes tree.Links (AreFit k rank) (links_at operand rank)
unfolding links_at
links_shape k Comparison operand s ws us ls h = and_then _ _ _ h (λ l e h. so (AreFit k Comparison) (one_or_none ws l).1 us (links_of (one_or_none ws l).0) ls (one_shapes k operand s ws l e) h)
links_shape k Disjunction operand s ws us ls h = all_links_shape k Disjunction operand s (λ _. tt) ws us ls h
links_shape k Conjunction operand s ws us ls h = all_links_shape k Conjunction operand s (λ _. tt) ws us ls h
links_shape k Sum operand s ws us ls h = all_links_shape k Sum operand s (λ _. tt) ws us ls h
links_shape k Product operand s ws us ls h = all_links_shape k Product operand s (λ _. tt) ws us ls h

pub looser : (e : tree.Expr) (k n m : ℕ) → n ≤ m → IsExpr e k n → IsExpr e k m
looser (tree.Number value) k n m le h = tt
looser (tree.Name x) k n m le h = tt
looser (tree.Element x i) k n m le h = h
looser (tree.Apply x es) k n m le h = h
looser (tree.Parenthesis e) k n m le h = h
looser (tree.Unary op e) k n m le h = h
looser (tree.Chain e ls) k n m le h = let b : looseness h.0 ≤ n = h.1 in (h.0, omega arith, h.2, h.3, h.4, h.5)

pub chain_list : (k : ℕ) (rank : Rank) (e : tree.Expr) (ls : tree.Links) → IsExpr e k (looseness rank - 1) → AreFit k rank ls → IsExpr (chain_of e ls) k (looseness rank)
chain_list k rank e tree.NoLink h l = looser e k (looseness rank - 1) (looseness rank) (omega arith) h
chain_list k rank e (tree.MoreLinks op x ls) h l = (rank, omega arith, h, l.0, tt, l.1)

chain_shapes : (k : ℕ) (rank : Rank) (operand : Reading tree.Expr) → Shapes tree.Expr (Fits k (looseness rank - 1)) operand → Shapes tree.Expr (Fits k (looseness rank)) (chain_with operand rank)
unfolding chain_with
chain_shapes k rank operand s ws us x h = and_then _ _ _ h (λ first e h. and_then _ _ _ h (λ ls f h. so (Fits k (looseness rank)) ls.1 us (chain_of first.0 ls.0) x
    (chain_list k rank first.0 ls.0 (s ws first.1 first.0 e) (links_shape k rank operand s first.1 ls.1 ls.0 f)) h))

pub products_shape : (k : ℕ) (u : Reading tree.Expr) → Shapes tree.Expr (Fits k 0) u → Shapes tree.Expr (Fits k 1) (products_with u)
unfolding products_with
products_shape k u s ws us x h = chain_shapes k Product u s ws us x h

pub sums_shape : (k : ℕ) (u : Reading tree.Expr) → Shapes tree.Expr (Fits k 0) u → Shapes tree.Expr (Fits k 2) (sums_with u)
unfolding sums_with
sums_shape k u s ws us x h = chain_shapes k Sum (products_with u) (products_shape k u s) ws us x h

pub comparisons_shape : (k : ℕ) (u : Reading tree.Expr) → Shapes tree.Expr (Fits k 0) u → Shapes tree.Expr (Fits k 3) (comparisons_with u)
unfolding comparisons_with
comparisons_shape k u s ws us x h = chain_shapes k Comparison (sums_with u) (sums_shape k u s) ws us x h

pub conjunctions_shape : (k : ℕ) (u : Reading tree.Expr) → Shapes tree.Expr (Fits k 0) u → Shapes tree.Expr (Fits k 4) (conjunctions_with u)
unfolding conjunctions_with
conjunctions_shape k u s ws us x h = chain_shapes k Conjunction (comparisons_with u) (comparisons_shape k u s) ws us x h

-- an expression of any rank
pub whole_shapes : (k : ℕ) (u : Reading tree.Expr) → Shapes tree.Expr (Fits k 0) u → Shapes tree.Expr (Fits k 5) (ranked u Disjunction)
unfolding ranked operand_with
whole_shapes k u s ws us x h = chain_shapes k Disjunction (λ vs. conjunctions_with u vs) (conjunctions_shape k u s) ws us x h

-- operands that are no chains, where those inside have these levels
abbrev pub AreGiven : ℕ → tree.Exprs → Type 0
AreGiven k es = AreArguments es k

abbrev argument_turn : Reading tree.Expr → Turn tree.Expr
argument_turn inside ws = each (expect (codes ",") ws) inside

pub argument_shapes : (k : ℕ) (inside : Reading tree.Expr) → Shapes tree.Expr (Fits k 5) inside → TurnShapes tree.Expr (Fits k 5) (argument_turn inside)
argument_shapes k inside s ws us x h = each_some (expect (codes ",") ws) inside (x, us) h (λ vs e f. s vs us x f)

pub arguments_list : (k : ℕ) (es : List tree.Expr) → Each (Fits k 5) es → AreArguments (exprs_of es) k
arguments_list k [] h = tt
arguments_list k (e ∷ es) h = (h.0, arguments_list k es h.1)

arguments_shape : (k : ℕ) (inside : Reading tree.Expr) → Shapes tree.Expr (Fits k 5) inside → Shapes tree.Exprs (AreGiven k) (arguments_with inside)
unfolding arguments_with
arguments_shape k inside s ws us es h = one_way (expect _ ws) _ _ _ h
    (λ vs e h. so (AreGiven k) vs us tree.NoExpr es tt h)
    (λ h. and_then (inside ws) _ _ h (λ first e h. and_then (repeat (argument_turn inside) first.1) _ _ h (λ more f h. and_then (expect _ more.1) _ _ h (λ vs g h. so (AreGiven k) vs us (tree.MoreExprs first.0 (exprs_of more.0)) es
    (s ws first.1 first.0 e, arguments_list k more.0 (repeat_shapes (Fits k 5) (argument_turn inside) (argument_shapes k inside s) first.1 more.1 more.0 f)) h))))

-- one level further in
abbrev pub Inner : ℕ → ℕ → tree.Expr → Type 0
Inner k n e = (1 ≤ k) × IsExpr e (k - 1) n

abbrev pub InnerArguments : ℕ → tree.Exprs → Type 0
InnerArguments k es = (1 ≤ k) × AreArguments es (k - 1)

named_shapes : (k : ℕ) (inside : Reading tree.Expr) (arguments : Reading tree.Exprs) → Shapes tree.Expr (Inner k 5) inside → Shapes tree.Exprs (InnerArguments k) arguments → (x : List ℕ) → Shapes tree.Expr (Fits k 0) (named_with inside arguments x)
unfolding named_with
named_shapes k inside arguments s t x ws us y h = one_way (expect _ ws) _ _ _ h
    (λ vs e h. and_then (inside vs) _ _ h (λ i f h. and_then (expect _ i.1) _ _ h (λ zs g h. so (Fits k 0) zs us (tree.Element x i.0) y (s vs i.1 i.0 f) h)))
    (λ h. one_way (expect _ ws) _ _ _ h
    (λ vs e h. and_then (arguments vs) _ _ h (λ es f h. so (Fits k 0) es.1 us (tree.Apply x es.0) y (t vs es.1 es.0 f) h))
    (λ h. so (Fits k 0) ws us (tree.Name x) y tt h))

unary_shapes : (k : ℕ) (deeper inside : Reading tree.Expr) (arguments : Reading tree.Exprs) → Shapes tree.Expr (Inner k 0) deeper → Shapes tree.Expr (Inner k 5) inside → Shapes tree.Exprs (InnerArguments k) arguments →
    Shapes tree.Expr (Fits k 0) (unary_with deeper inside arguments)
unfolding unary_with
unary_shapes k deeper inside arguments d s t ws us x h = one_way (expect _ ws) _ _ _ h
    (λ vs e h. and_then (deeper vs) _ _ h (λ y f h. so (Fits k 0) y.1 us (tree.Unary unary.Negate y.0) x (d vs y.1 y.0 f) h))
    (λ h. one_way (expect _ ws) _ _ _ h
    (λ vs e h. and_then (deeper vs) _ _ h (λ y f h. so (Fits k 0) y.1 us (tree.Unary unary.Not y.0) x (d vs y.1 y.0 f) h))
    (λ h. one_way (number_at ws) _ _ _ h
    (λ n e h. so (Fits k 0) n.1 us (tree.Number n.0) x tt h)
    (λ h. one_way (name_at ws) _ _ _ h
    (λ n e h. named_shapes k inside arguments s t n.0 n.1 us x h)
    (λ h. and_then (expect _ ws) _ _ h (λ vs e h. and_then (inside vs) _ _ h (λ i f h. and_then (expect _ i.1) _ _ h (λ zs g h. so (Fits k 0) zs us (tree.Parenthesis i.0) x (s vs i.1 i.0 f) h)))))))

pub down : (k : ℕ) (P : ℕ → Type 0) → P k → P (suc k - 1)
down k P h = let e : k ≡ suc k - 1 = omega arith in subst P e h

pub more : (k : ℕ) → 1 ≤ suc k
more k = omega arith

pub unary_at_shapes : (k : ℕ) → Shapes tree.Expr (Fits k 0) (unary_at k)
unfolding unary_at
unary_at_shapes zero ws us x h = unary_shapes zero no_level no_level no_level (λ ws us x h. nothing (suc (length ws)) (x, us) h) (λ ws us x h. nothing (suc (length ws)) (x, us) h) (λ ws us x h. nothing (suc (length ws)) (x, us) h) ws us x h
unary_at_shapes (suc k) ws us x h =
    unary_shapes (suc k) (unary_at k) (ranked (unary_at k) Disjunction) (arguments_with (ranked (unary_at k) Disjunction))
    (λ ws us x h. (more k, down k (λ m. IsExpr x m 0) (unary_at_shapes k ws us x h)))
    (λ ws us x h. (more k, down k (λ m. IsExpr x m 5) (whole_shapes k (unary_at k) (unary_at_shapes k) ws us x h)))
    (λ ws us es h. (more k, down k (λ m. AreArguments es m) (arguments_shape k (ranked (unary_at k) Disjunction) (whole_shapes k (unary_at k) (unary_at_shapes k)) ws us es h))) ws us x h

pub expr_shapes : (k : ℕ) → Shapes tree.Expr (Fits k 5) (expr_at k)
unfolding expr_at
expr_shapes k ws us x h = whole_shapes k (unary_at k) (unary_at_shapes k) ws us x h

-- a level is left where one is opened
opened : {B P : Type 0} (k : ℕ) (t : Bool) (left : ℕ) (o : Answer B) (y : B) → (t ≡ false → 1 ≤ k) → cond t (Err left) o ≡ Ok y → (1 ≤ k → o ≡ Ok y → P) → P
opened k true left o y le h go = nothing left y h
opened k false left o y le h go = go (le refl) h

pub positive : (k : ℕ) → nat_eq k 0 ≡ false → 1 ≤ k
positive zero h = absurd (let e : ⊥ = cc in e)
positive (suc k) h = more k

pub nested_shapes : (k : ℕ) → Shapes tree.Expr (Inner k 5) (nested_at k)
unfolding nested_at
nested_shapes k ws us x h = opened k (nat_eq k 0) (suc (length ws)) (expr_at (k - 1) ws) (x, us) (positive k) h (λ le h. (le, expr_shapes (k - 1) ws us x h))

pub arguments_at_shape : (k : ℕ) → Shapes tree.Exprs (InnerArguments k) (arguments_at k)
unfolding arguments_at
arguments_at_shape k ws us es h = opened k (nat_eq k 0) (suc (length ws)) (arguments_with (expr_at (k - 1)) ws) (es, us) (positive k) h (λ le h. (le, arguments_shape (k - 1) (expr_at (k - 1)) (expr_shapes (k - 1)) ws us es h))

-- statements
abbrev pub Stands : ℕ → tree.Stmt → Type 0
Stands k s = IsStmt s k

abbrev pub Holds : ℕ → tree.Block → Type 0
Holds k b = IsBlock b k

abbrev pub InnerBlock : ℕ → tree.Block → Type 0
InnerBlock k b = (1 ≤ k) × IsBlock b (k - 1)

service_call_shapes : (k : ℕ) (service : Service) → Shapes tree.Stmt (Stands k) (service_call_at k service)
unfolding service_call_at
service_call_shapes k service ws us y h = and_then (expect _ ws) _ _ (allowed (nat_eq k 0) (suc (length ws)) _ (y, us) h) (λ vs e h. and_then (arguments_at k vs) _ _ h (λ es f h. and_then (targets_at es.1) _ _ h (λ xs g h. and_then (expect _ xs.1) _ _ h (λ zs i h.
    so (Stands k) zs us (tree.CallService service es.0 xs.0) y (arguments_at_shape k vs es.1 es.0 f) h))))

assignment_shapes : (k : ℕ) (x : List ℕ) → Shapes tree.Stmt (Stands k) (assignment_at k x)
unfolding assignment_at
assignment_shapes k x ws us y h = one_way (expect _ ws) _ _ _ h
    (λ vs e h. and_then (nested_at k vs) _ _ h (λ i f h. and_then (expect _ i.1) _ _ h (λ zs g h. and_then (expect _ zs) _ _ h (λ ps j h. and_then (expr_at k ps) _ _ h (λ v l h. and_then (expect _ v.1) _ _ h (λ qs m h.
    let n = nested_shapes k vs i.1 i.0 f in so (Stands k) qs us (tree.AssignElement x i.0 v.0) y (n.0, n.1, expr_shapes k ps v.1 v.0 l) h))))))
    (λ h. and_then (expect _ ws) _ _ h (λ vs e h. and_then (expr_at k vs) _ _ h (λ v f h. and_then (expect _ v.1) _ _ h (λ zs g h. so (Stands k) zs us (tree.Assign x v.0) y (expr_shapes k vs v.1 v.0 f) h))))

work_shapes : (k : ℕ) → Shapes tree.Stmt (Stands k) work_at
unfolding work_at
work_shapes k ws us y h = and_then (number_at ws) _ _ h (λ n e h. and_then (expect _ n.1) _ _ h (λ vs f h. so (Stands k) vs us (tree.Work n.0) y tt h))

return_shapes : (k : ℕ) → Shapes tree.Stmt (Stands k) (return_at k)
unfolding return_at
return_shapes k ws us y h = and_then (expr_at k ws) _ _ h (λ v e h. and_then (expect _ v.1) _ _ h (λ vs f h. so (Stands k) vs us (tree.Return v.0) y (expr_shapes k ws v.1 v.0 e) h))

branch_shapes : (k : ℕ) (block : Reading tree.Block) → Shapes tree.Block (InnerBlock k) block → Shapes tree.Stmt (Stands k) (branch_with block k)
unfolding branch_with
branch_shapes k block s ws us y h = and_then (expr_at k ws) _ _ h (λ t e h. and_then (block t.1) _ _ h (λ b f h. let inside = s t.1 b.1 b.0 f in one_way (expect _ b.1) _ _ _ h
    (λ vs g h. and_then (block vs) _ _ h (λ c i h. so (Stands k) c.1 us (tree.IfElse t.0 b.0 c.0) y (expr_shapes k ws t.1 t.0 e, inside.0, inside.1, (s vs c.1 c.0 i).1) h))
    (λ h. so (Stands k) b.1 us (tree.If t.0 b.0) y (expr_shapes k ws t.1 t.0 e, inside.0, inside.1) h)))

while_shapes : (k : ℕ) (block : Reading tree.Block) → Shapes tree.Block (InnerBlock k) block → Shapes tree.Stmt (Stands k) (while_with block k)
unfolding while_with
while_shapes k block s ws us y h = and_then (expr_at k ws) _ _ h (λ t e h. and_then (block t.1) _ _ h (λ b f h. let inside = s t.1 b.1 b.0 f in so (Stands k) b.1 us (tree.While t.0 b.0) y (expr_shapes k ws t.1 t.0 e, inside.0, inside.1) h))

pub stmt_shapes : (k : ℕ) (block : Reading tree.Block) → Shapes tree.Block (InnerBlock k) block → Shapes tree.Stmt (Stands k) (stmt_with block k)
unfolding stmt_with
stmt_shapes k block s ws us y h = one_way (name_at ws) _ _ _ h (λ x e h. assignment_shapes k x.0 x.1 us y h)
    (λ h. one_way (service_at ws) _ _ _ h (λ x e h. service_call_shapes k x.0 x.1 us y h)
    (λ h. one_way (expect _ ws) _ _ _ h (λ vs e h. work_shapes k vs us y h)
    (λ h. one_way (expect _ ws) _ _ _ h (λ vs e h. return_shapes k vs us y h)
    (λ h. one_way (expect _ ws) _ _ _ (allowed (nat_eq k 0) (length ws) _ (y, us) h) (λ vs e h. branch_shapes k block s vs us y h)
    (λ h. and_then (expect _ ws) _ _ h (λ vs e h. while_shapes k block s vs us y h))))))

abbrev stmt_turn : Reading tree.Stmt → Turn tree.Stmt
stmt_turn stmt ws = until (expect (codes "}") ws) (stmt ws)

pub stmt_turn_shapes : (k : ℕ) (stmt : Reading tree.Stmt) → Shapes tree.Stmt (Stands k) stmt → TurnShapes tree.Stmt (Stands k) (stmt_turn stmt)
stmt_turn_shapes k stmt s ws us y h = s ws us y (until_some (expect (codes "}") ws) (stmt ws) (y, us) h)

pub block_list : (k : ℕ) (ss : List tree.Stmt) → Each (Stands k) ss → IsBlock (block_of ss) k
block_list k [] h = tt
block_list k (s ∷ ss) h = (h.0, block_list k ss h.1)

statements_shape : (k : ℕ) (stmt : Reading tree.Stmt) → Shapes tree.Stmt (Stands k) stmt → Shapes tree.Block (Holds k) (statements_with stmt)
unfolding statements_with
statements_shape k stmt s ws us b h = and_then (repeat (stmt_turn stmt) ws) _ _ h (λ ss e h. and_then (expect _ ss.1) _ _ h (λ vs f h. so (Holds k) vs us (block_of ss.0) b
    (block_list k ss.0 (repeat_shapes (Stands k) (stmt_turn stmt) (stmt_turn_shapes k stmt s) ws ss.1 ss.0 e)) h))

pub block_shapes : (k : ℕ) → Shapes tree.Block (InnerBlock k) (block_at k)
unfolding block_at
block_shapes zero ws us b h = nothing (length ws) (b, us) h
block_shapes (suc k) ws us b h = and_then _ _ _ h (λ vs e h. (more k, down k (λ m. IsBlock b m) (statements_shape k (stmt_with (block_at k) k) (stmt_shapes k (block_at k) (block_shapes k)) vs us b h)))

pub statements_at_shape : (k : ℕ) → Shapes tree.Block (Holds k) (statements_at k)
unfolding statements_at stmt_at
statements_at_shape k ws us b h = statements_shape k (λ vs. stmt_with (block_at k) k vs) (stmt_shapes k (block_at k) (block_shapes k)) ws us b h

-- bodies and what holds them
pub body_shapes : Shapes tree.Body IsBody body_at
unfolding body_at
body_shapes ws us b h = and_then (expect _ ws) _ _ h (λ vs e h. and_then (locals_at vs) _ _ h (λ xs f h. and_then (statements_at (MOST_LEVELS - 1) xs.1) _ _ h (λ c g h. so IsBody c.1 us (record { locals = xs.0; block = c.0 }) b (statements_at_shape (MOST_LEVELS - 1) xs.1 c.1 c.0 g) h)))

abbrev pub IsDeclared : tree.Declaration → Type 0
IsDeclared d = IsKind d.kind

abbrev Declares : Reading tree.Declaration → Type 0
Declares read = Shapes tree.Declaration IsDeclared read

variable_shapes : Declares variable_at
unfolding variable_at
variable_shapes ws us d h = and_then (name_at ws) _ _ h (λ x e h. and_then (first_value_at x.1) _ _ h (λ n f h. and_then (expect _ n.1) _ _ h (λ vs g h. so IsDeclared vs us (declared x.0 (tree.Variable n.0)) d tt h)))

array_shapes : Declares array_at
unfolding array_at
array_shapes ws us d h = and_then (name_at ws) _ _ h (λ x e h. and_then (expect _ x.1) _ _ h (λ vs f h. and_then (number_at vs) _ _ h (λ n g h. and_then (expect _ n.1) _ _ h (λ zs i h. and_then (first_values_at zs) _ _ h (λ ns j h. so IsDeclared ns.1 us (declared x.0 (tree.Array n.0 ns.0)) d tt h)))))

semaphore_shapes : Declares semaphore_at
unfolding semaphore_at
semaphore_shapes ws us d h = and_then (name_at ws) _ _ h (λ x e h. and_then (number_at x.1) _ _ h (λ a f h. and_then (number_at a.1) _ _ h (λ b g h. and_then (discipline_at b.1) _ _ h (λ c i h. and_then (expect _ c.1) _ _ h (λ vs j h. so IsDeclared vs us (declared x.0 (tree.Semaphore a.0 b.0 c.0)) d tt h)))))

event_shapes : Declares event_at
unfolding event_at
event_shapes ws us d h = and_then (name_at ws) _ _ h (λ x e h. and_then (expect _ x.1) _ _ h (λ vs f h. so IsDeclared vs us (declared x.0 tree.Event) d tt h))

buffer_shapes : Declares buffer_at
unfolding buffer_at
buffer_shapes ws us d h = and_then (name_at ws) _ _ h (λ x e h. and_then (number_at x.1) _ _ h (λ a f h. and_then (number_at a.1) _ _ h (λ b g h. and_then (discipline_at b.1) _ _ h (λ c i h. and_then (expect _ c.1) _ _ h (λ vs j h. so IsDeclared vs us (declared x.0 (tree.Buffer a.0 b.0 c.0)) d tt h)))))

blackboard_shapes : Declares blackboard_at
unfolding blackboard_at
blackboard_shapes ws us d h = and_then (name_at ws) _ _ h (λ x e h. and_then (number_at x.1) _ _ h (λ a f h. and_then (expect _ a.1) _ _ h (λ vs g h. so IsDeclared vs us (declared x.0 (tree.Blackboard a.0)) d tt h)))

port_shapes : Declares port_at
unfolding port_at
port_shapes ws us d h = and_then (name_at ws) _ _ h (λ x e h. and_then (expect _ x.1) _ _ h (λ vs f h. so IsDeclared vs us (declared x.0 tree.Port) d tt h))

procedure_shapes : Declares procedure_at
unfolding procedure_at
procedure_shapes ws us d h = and_then (name_at ws) _ _ h (λ x e h. and_then (expect _ x.1) _ _ h (λ vs f h. and_then (parameters_at vs) _ _ h (λ xs g h. and_then (body_at xs.1) _ _ h (λ b i h. so IsDeclared b.1 us (declared x.0 (tree.Procedure xs.0 b.0)) d (body_shapes xs.1 b.1 b.0 i) h))))

declaration_shapes : Declares declaration_at
unfolding declaration_at
declaration_shapes ws us d h = one_way (expect _ ws) _ _ _ h (λ vs e h. variable_shapes vs us d h)
    (λ h. one_way (expect _ ws) _ _ _ h (λ vs e h. array_shapes vs us d h)
    (λ h. one_way (expect _ ws) _ _ _ h (λ vs e h. semaphore_shapes vs us d h)
    (λ h. one_way (expect _ ws) _ _ _ h (λ vs e h. event_shapes vs us d h)
    (λ h. one_way (expect _ ws) _ _ _ h (λ vs e h. buffer_shapes vs us d h)
    (λ h. one_way (expect _ ws) _ _ _ h (λ vs e h. blackboard_shapes vs us d h)
    (λ h. one_way (expect _ ws) _ _ _ h (λ vs e h. port_shapes vs us d h)
    (λ h. and_then (expect _ ws) _ _ h (λ vs e h. procedure_shapes vs us d h))))))))

abbrev declaration_turn : Turn tree.Declaration
declaration_turn ws = until (expect (codes "init") ws) (declaration_at ws)

pub declaration_turn_shapes : TurnShapes tree.Declaration IsDeclared declaration_turn
declaration_turn_shapes ws us d h = declaration_shapes ws us d (until_some (expect (codes "init") ws) (declaration_at ws) (d, us) h)

pub declarations_shape : Shapes (List tree.Declaration) (Each IsDeclared) declarations_at
unfolding declarations_at
declarations_shape ws us ds h = repeat_shapes IsDeclared declaration_turn declaration_turn_shapes ws us ds h

abbrev pub IsStackBody : tree.StackBody → Type 0
IsStackBody b = IsBody b.body

pub stack_body_shapes : (mark : List ℕ) → Shapes tree.StackBody IsStackBody (stack_body_at mark)
unfolding stack_body_at
stack_body_shapes mark ws us s h = and_then (expect mark ws) _ _ h (λ vs e h. and_then (expect _ vs) _ _ h (λ zs f h. and_then (number_at zs) _ _ h (λ n g h. and_then (body_at n.1) _ _ h (λ b i h.
    so IsStackBody b.1 us (record { stack = n.0; body = b.0 }) s (body_shapes n.1 b.1 b.0 i) h))))

pub handler_shapes : Shapes (Option tree.StackBody) IsHandler handler_at
unfolding handler_at
handler_shapes ws us x h = one_way (expect _ ws) _ _ _ h
    (λ vs e h. and_then (stack_body_at (codes "handler") ws) _ _ h (λ b f h. so IsHandler b.1 us (Some b.0) x (stack_body_shapes (codes "handler") ws b.1 b.0 f) h))
    (λ h. so IsHandler ws us None x tt h)

abbrev process_turn : Turn tree.Process
process_turn ws = each (expect (codes "process") ws) process_at

abbrev pub IsProcess : tree.Process → Type 0
IsProcess p = IsBody p.body

pub process_shapes : TurnShapes tree.Process IsProcess process_turn
unfolding process_at
process_shapes ws us p h = each_some (expect _ ws) process_at _ h (λ vs e f. and_then (name_at vs) _ _ f (λ x g h. and_then (expect _ x.1) _ _ h (λ xs i h. and_then (number_at xs) _ _ h (λ n j h. and_then (expect _ n.1) _ _ h (λ bs k h. and_then (integer_at bs) _ _ h (λ q l h.
    and_then (expect _ q.1) _ _ h (λ cs m h. and_then (integer_at cs) _ _ h (λ r o h. and_then (expect _ r.1) _ _ h (λ ds s h. and_then (number_at ds) _ _ h (λ t u h. and_then (body_at t.1) _ _ h (λ b w h.
    so IsProcess b.1 us (record { name = x.0; priority = n.0; period = q.0; capacity = r.0; stack = t.0; body = b.0 }) p (body_shapes t.1 b.1 b.0 w) h)))))))))))

pub processes_shape : Shapes (List tree.Process) (Each IsProcess) processes_at
unfolding processes_at
processes_shape ws us ps h = repeat_shapes IsProcess process_turn process_shapes ws us ps h

all_of : {X : Type 0} (P : X → Type 0) (x y : X) (us : List Word) → P x → all_read x us ≡ Ok y → P y
all_of P x y [] h e = let same : x ≡ y = cc in subst P same h
all_of P x y (u ∷ us) h e = nothing (suc (length us)) y e

program_shapes : (ws : List Word) (p : tree.Program) → program_at ws ≡ Ok p → IsProgram p
unfolding program_at
program_shapes ws p h = and_then (declarations_at ws) _ _ h (λ ds e h. and_then (stack_body_at (codes "init") ds.1) _ _ h (λ i f h. and_then (handler_at i.1) _ _ h (λ x g h. and_then (processes_at x.1) _ _ h (λ ps j h.
    all_of IsProgram (record { declarations = ds.0; init = i.0; handler = x.0; processes = ps.0 }) p ps.1
    (declarations_shape ws ds.1 ds.0 e, stack_body_shapes (codes "init") ds.1 i.1 i.0 f, handler_shapes i.1 x.1 x.0 g, processes_shape x.1 ps.1 ps.0 j) h))))

pub program_is_written : (ws : List Word) (p : tree.Program) → program_at ws ≡ Ok p → IsWritten ws p
program_is_written ws p h = (program_shapes ws p h, program_spells ws p h)
