-- Words that are read are the words of the tree that is found, followed by the words that are left.
use Rattle.std.proofs.Common.{◌≡◌, ℕ, zero, suc, ◌-◌, Bool, true, false, cond, nat_eq, List, [], ◌∷◌, length, Option, Some, None, Ok, Err, refl, sym, ◌∙◌, ap}
use Rattle.std.specs.Prelude.{codes, nat_lt}
use Rattle.std.specs.Cmp.Lexicographic.{same_text}
use Rattle.apex_types.specs.declared.limits.TheConstants.{MOST_LEVELS}
use Rattle.apex_types.specs.declared.instruction.BinaryOperator.{BinaryOperator}
use Rattle.apex_types.specs.declared.instruction.UnaryOperator.TheVariants as unary
use Rattle.apex_types.specs.declared.codes.Discipline.{Discipline}
use Rattle.apex_types.specs.declared.codes.Discipline.TheVariants as discipline
use Rattle.apex_types.specs.declared.service.Service.{Service}
use Rattle.pal_meaning.specs.Grammar.{Word, Name, Number, ServiceWord, Mark, Stray}
use Rattle.engine_meaning.specs.Digits.{same}
use Rattle.pal_laws.specs.GrammarReading.{Answer, Reading, Turn, no_level, ◌>>=◌, either, each, until, expect, name_at, number_at, service_at, integer_at, discipline_at, turned, repeat_within, repeat, one_of, links_of, chain_of, exprs_of, block_of, link_at, one_or_none, links_at, chain_with, products_with, sums_with, comparisons_with, conjunctions_with, operand_with, ranked, arguments_with, named_with, unary_with, unary_at, expr_at, nested_at, arguments_at, names_at, targets_at, service_call_at, assignment_at, work_at, return_at, branch_with, while_with, stmt_with, statements_with, block_at, stmt_at, statements_at, local_at, locals_at, body_at, declared, first_value_at, variable_at, integers_at, first_values_at, array_at, semaphore_at, event_at, buffer_at, blackboard_at, port_at, parameters_at, procedure_at, declaration_at, declarations_at, stack_body_at, handler_at, process_at, processes_at, all_read, program_at}
use Rattle.pal_meaning.specs.Grammar.{Rank, Disjunction, Conjunction, Comparison, Sum, Product, operator_mark}
use Rattle.pal_meaning.specs.Grammar.{integer_words, all_words, next_name, names_words, targets_words, expr_words, links_words, arguments_words, stmt_words, block_words, local_words, body_words, discipline_word, first_words, values_words, declaration_words, stack_body_words, handler_words, process_words, program_words}
use Rattle.pal_meaning.specs.Syntax as tree

abbrev pub Spells : (X : Type 0) → (X → List Word → List Word) → Reading X → Type 0
Spells X words read = (ws us : List Word) (x : X) → read ws ≡ Ok (x, us) → ws ≡ words x us

abbrev shown : {X : Type 0} → (X → List Word → List Word) → Answer (X × List Word) → List Word
shown words (Ok r) = words r.0 r.1
shown words (Err left) = []

abbrev pub found : {X : Type 0} → X → List Word → Answer (X × List Word)
found x rest = Ok (x, rest)

ends : {X : Type 0} (words : X → List Word → List Word) (ws vs us : List Word) (y x : X) → ws ≡ words y vs → found y vs ≡ found x us → ws ≡ words x us
ends words ws vs us y x h e = h ∙ ap (shown words) e

pub nothing : {A P : Type 0} (left : ℕ) (a : A) → Err left ≡ Ok a → P
nothing left a h = absurd (let e : ⊥ = cc in e)

pub and_then : {A B P : Type 0} (o : Answer A) (f : A → Answer B) (y : B) → (o >>= f) ≡ Ok y → ((a : A) → o ≡ Ok a → f a ≡ Ok y → P) → P
and_then (Ok a) f y h k = k a refl h
and_then (Err left) f y h k = nothing left y h

pub one_way : {A B P : Type 0} (o : Answer A) (f : A → Answer B) (other y : Answer B) → either o f other ≡ y → ((a : A) → o ≡ Ok a → f a ≡ y → P) → (other ≡ y → P) → P
one_way (Ok a) f other y h k l = k a refl h
one_way (Err left) f other y h k l = l h

pub each_some : {A X P : Type 0} (o : Answer A) (read : A → Answer (X × List Word)) (x : X × List Word) → each o read ≡ Ok (Some x) → ((a : A) → o ≡ Ok a → read a ≡ Ok x → P) → P
each_some (Ok a) read x h k = and_then (read a) (λ y. Ok (Some y)) (Some x) h (λ y e f. k a refl (e ∙ cc))
each_some (Err left) read x h k = absurd (let e : ⊥ = cc in e)

pub until_some : {A X : Type 0} (o : Answer A) (read : Answer (X × List Word)) (x : X × List Word) → until o read ≡ Ok (Some x) → read ≡ Ok x
until_some (Ok a) read x h = absurd (let e : ⊥ = cc in e)
until_some (Err left) read x h = and_then read (λ y. Ok (Some y)) (Some x) h (λ y e f. e ∙ cc)

pub passed : {B : Type 0} (t : Bool) (o : Answer B) (left : ℕ) (y : B) → cond t o (Err left) ≡ Ok y → o ≡ Ok y
passed true o left y h = h
passed false o left y h = nothing left y h

pub allowed : {B : Type 0} (t : Bool) (left : ℕ) (o : Answer B) (y : B) → cond t (Err left) o ≡ Ok y → o ≡ Ok y
allowed true left o y h = nothing left y h
allowed false left o y h = h

chosen : (t : Bool) (text mark : List ℕ) (ws us : List Word) → (t ≡ true → text ≡ mark) → cond t (Ok ws) (Err (suc (length ws))) ≡ Ok us → Mark text ∷ ws ≡ Mark mark ∷ us
chosen true text mark ws us h e = cc (h refl)
chosen false text mark ws us h e = nothing (suc (length ws)) us e

pub expect_spells : (mark : List ℕ) (ws us : List Word) → expect mark ws ≡ Ok us → ws ≡ Mark mark ∷ us
unfolding expect
expect_spells mark [] us h = nothing 0 us h
expect_spells mark (Mark text ∷ ws) us h = chosen (same text mark) text mark ws us (λ e. same_text text mark (sym e)) h
expect_spells mark (Name text ∷ ws) us h = nothing (suc (length ws)) us h
expect_spells mark (Number value ∷ ws) us h = nothing (suc (length ws)) us h
expect_spells mark (ServiceWord service ∷ ws) us h = nothing (suc (length ws)) us h
expect_spells mark (Stray ∷ ws) us h = nothing (suc (length ws)) us h

pub name_spells : (ws us : List Word) (x : List ℕ) → name_at ws ≡ Ok (x, us) → ws ≡ Name x ∷ us
unfolding name_at
name_spells [] us x h = nothing 0 (x, us) h
name_spells (Name text ∷ ws) us x h = ends (λ n rest. Name n ∷ rest) (Name text ∷ ws) ws us text x refl h
name_spells (Mark text ∷ ws) us x h = nothing (suc (length ws)) (x, us) h
name_spells (Number value ∷ ws) us x h = nothing (suc (length ws)) (x, us) h
name_spells (ServiceWord service ∷ ws) us x h = nothing (suc (length ws)) (x, us) h
name_spells (Stray ∷ ws) us x h = nothing (suc (length ws)) (x, us) h

pub number_spells : (ws us : List Word) (n : Option ℕ) → number_at ws ≡ Ok (n, us) → ws ≡ Number n ∷ us
unfolding number_at
number_spells [] us n h = nothing 0 (n, us) h
number_spells (Number value ∷ ws) us n h = ends (λ m rest. Number m ∷ rest) (Number value ∷ ws) ws us value n refl h
number_spells (Name text ∷ ws) us n h = nothing (suc (length ws)) (n, us) h
number_spells (Mark text ∷ ws) us n h = nothing (suc (length ws)) (n, us) h
number_spells (ServiceWord service ∷ ws) us n h = nothing (suc (length ws)) (n, us) h
number_spells (Stray ∷ ws) us n h = nothing (suc (length ws)) (n, us) h

pub service_spells : (ws us : List Word) (s : Service) → service_at ws ≡ Ok (s, us) → ws ≡ ServiceWord s ∷ us
unfolding service_at
service_spells [] us s h = nothing 0 (s, us) h
service_spells (ServiceWord service ∷ ws) us s h = ends (λ t rest. ServiceWord t ∷ rest) (ServiceWord service ∷ ws) ws us service s refl h
service_spells (Name text ∷ ws) us s h = nothing (suc (length ws)) (s, us) h
service_spells (Mark text ∷ ws) us s h = nothing (suc (length ws)) (s, us) h
service_spells (Number value ∷ ws) us s h = nothing (suc (length ws)) (s, us) h
service_spells (Stray ∷ ws) us s h = nothing (suc (length ws)) (s, us) h

pub integer_spells : Spells tree.Integer integer_words integer_at
unfolding integer_at
integer_spells ws us x h = one_way _ _ _ _ h
    (λ vs e h. and_then _ _ _ h (λ n f h. ends integer_words ws n.1 us (record { negative = true; magnitude = n.0 }) x (expect_spells _ ws vs e ∙ ap (λ v. Mark (codes "-") ∷ v) (number_spells vs n.1 n.0 f)) h))
    (λ h. and_then _ _ _ h (λ n f h. ends integer_words ws n.1 us (record { negative = false; magnitude = n.0 }) x (number_spells ws n.1 n.0 f) h))

abbrev pub discipline_words : Discipline → List Word → List Word
discipline_words d rest = Mark (discipline_word d) ∷ rest

pub discipline_spells : Spells Discipline discipline_words discipline_at
unfolding discipline_at
discipline_spells ws us x h = one_way _ _ _ _ h
    (λ vs e h. ends discipline_words ws vs us discipline.Fifo x (expect_spells _ ws vs e) h)
    (λ h. and_then _ _ _ h (λ vs e h. ends discipline_words ws vs us discipline.Priority x (expect_spells _ ws vs e) h))

abbrev pub TurnSpells : (X : Type 0) → (X → List Word → List Word) → Turn X → Type 0
TurnSpells X words turn = (ws us : List Word) (x : X) → turn ws ≡ Ok (Some (x, us)) → ws ≡ words x us

turned_spells : {X : Type 0} (words : X → List Word → List Word) (turn : Turn X) (go : Reading (List X)) → TurnSpells X words turn → Spells (List X) (all_words words) go →
    (ws us : List Word) (xs : List X) (r : Answer (Option (X × List Word))) → turn ws ≡ r → turned go ws r ≡ Ok (xs, us) → ws ≡ all_words words xs us
turned_spells words turn go s t ws us xs (Err left) e h = nothing left (xs, us) h
turned_spells words turn go s t ws us xs (Ok None) e h = ends (all_words words) ws ws us [] xs refl h
turned_spells words turn go s t ws us xs (Ok (Some x)) e h =
    and_then (go x.1) (λ ys. Ok (x.0 ∷ ys.0, ys.1)) (xs, us) (passed (nat_lt (length x.1) (length ws)) (go x.1 >>= λ ys. Ok (x.0 ∷ ys.0, ys.1)) (length ws) (xs, us) h)
    (λ ys f h. ends (all_words words) ws ys.1 us (x.0 ∷ ys.0) xs (s ws x.1 x.0 e ∙ ap (words x.0) (t x.1 ys.1 ys.0 f)) h)

within_spells : {X : Type 0} (words : X → List Word → List Word) (turn : Turn X) → TurnSpells X words turn → (n : ℕ) → Spells (List X) (all_words words) (repeat_within n turn)
unfolding repeat_within
within_spells words turn s zero ws us xs h = nothing (length ws) (xs, us) h
within_spells words turn s (suc n) ws us xs h = turned_spells words turn (repeat_within n turn) s (within_spells words turn s n) ws us xs (turn ws) refl h

pub repeat_spells : {X : Type 0} (words : X → List Word → List Word) (turn : Turn X) → TurnSpells X words turn → Spells (List X) (all_words words) (repeat turn)
unfolding repeat
repeat_spells words turn s ws us xs h = within_spells words turn s (suc (length ws)) ws us xs h

-- names
abbrev pub name_turn : Turn (List ℕ)
name_turn ws = each (expect (codes ",") ws) name_at

pub next_name_spells : TurnSpells (List ℕ) next_name name_turn
next_name_spells ws us x h = each_some (expect (codes ",") ws) name_at (x, us) h (λ vs e f. cc (expect_spells _ ws vs e, name_spells vs us x f))

pub names_spells : Spells (List (List ℕ)) names_words names_at
unfolding names_at
names_spells ws us xs h = and_then _ _ _ h (λ first e h. and_then _ _ _ h (λ more f h. ends names_words ws more.1 us (first.0 ∷ more.0) xs
    (name_spells ws first.1 first.0 e ∙ ap (λ v. Name first.0 ∷ v) (repeat_spells next_name name_turn next_name_spells first.1 more.1 more.0 f)) h))

arrow_spells : (ws us : List Word) (xs : List (List ℕ)) → names_at ws ≡ Ok (xs, us) → Mark (codes "->") ∷ ws ≡ targets_words xs us
unfolding names_at
arrow_spells ws us xs h = and_then _ _ _ h (λ first e h. and_then _ _ _ h (λ more f h. ends targets_words (Mark (codes "->") ∷ ws) more.1 us (first.0 ∷ more.0) xs
    (ap (λ v. Mark (codes "->") ∷ v) (name_spells ws first.1 first.0 e ∙ ap (λ v. Name first.0 ∷ v) (repeat_spells next_name name_turn next_name_spells first.1 more.1 more.0 f))) h))

pub targets_spell : Spells (List (List ℕ)) targets_words targets_at
unfolding targets_at
targets_spell ws us xs h = one_way _ _ _ _ h
    (λ vs e h. expect_spells _ ws vs e ∙ arrow_spells vs us xs h)
    (λ h. ends targets_words ws ws us [] xs refl h)

-- chains
abbrev pub operator_words : BinaryOperator → List Word → List Word
operator_words op rest = Mark (operator_mark op) ∷ rest

abbrev pub link_words : BinaryOperator × tree.Expr → List Word → List Word
link_words l rest = Mark (operator_mark l.0) ∷ expr_words l.1 rest

pub one_of_spells : (ops : List BinaryOperator) → Spells BinaryOperator operator_words (one_of ops)
unfolding one_of
one_of_spells [] ws us op h = nothing (length ws) (op, us) h
one_of_spells (o ∷ ops) ws us op h = one_way _ _ _ _ h
    (λ vs e h. ends operator_words ws vs us o op (expect_spells _ ws vs e) h)
    (λ h. one_of_spells ops ws us op h)

pub link_spells : (operand : Reading tree.Expr) (rank : Rank) → Spells tree.Expr expr_words operand → TurnSpells (BinaryOperator × tree.Expr) link_words (link_at operand rank)
unfolding link_at
link_spells operand rank s ws us l h = each_some _ _ _ h (λ op e f. and_then _ _ _ f (λ x g h. ends link_words ws x.1 us (op.0, x.0) l
    (one_of_spells _ ws op.1 op.0 e ∙ ap (operator_words op.0) (s op.1 x.1 x.0 g)) h))

pub links_list : (ls : List (BinaryOperator × tree.Expr)) (rest : List Word) → links_words (links_of ls) rest ≡ all_words link_words ls rest
links_list [] rest = refl
links_list (l ∷ ls) rest = ap (link_words l) (links_list ls rest)

all_links_spell : (operand : Reading tree.Expr) (rank : Rank) → Spells tree.Expr expr_words operand → Spells tree.Links links_words (λ ws. repeat (link_at operand rank) ws >>= λ ls. Ok (links_of ls.0, ls.1))
all_links_spell operand rank s ws us ls h = and_then _ _ _ h (λ r e h. ends links_words ws r.1 us (links_of r.0) ls
    (repeat_spells link_words (link_at operand rank) (link_spells operand rank s) ws r.1 r.0 e ∙ sym (links_list r.0 r.1)) h)

one_spells : (operand : Reading tree.Expr) → Spells tree.Expr expr_words operand → (ws : List Word) (l : Option ((BinaryOperator × tree.Expr) × List Word)) → link_at operand Comparison ws ≡ Ok l →
    ws ≡ links_words (links_of (one_or_none ws l).0) (one_or_none ws l).1
one_spells operand s ws (Some x) e = link_spells operand Comparison s ws x.1 x.0 e
one_spells operand s ws None e = refl

pub links_spell : (operand : Reading tree.Expr) (rank : Rank) → Spells tree.Expr expr_words operand → Spells tree.Links links_words (links_at operand rank)
unfolding links_at
links_spell operand Comparison s ws us ls h = and_then _ _ _ h (λ l e h. ends links_words ws (one_or_none ws l).1 us (links_of (one_or_none ws l).0) ls (one_spells operand s ws l e) h)
links_spell operand Disjunction s ws us ls h = all_links_spell operand Disjunction s ws us ls h
links_spell operand Conjunction s ws us ls h = all_links_spell operand Conjunction s ws us ls h
links_spell operand Sum s ws us ls h = all_links_spell operand Sum s ws us ls h
links_spell operand Product s ws us ls h = all_links_spell operand Product s ws us ls h

pub chain_list : (e : tree.Expr) (ls : tree.Links) (rest : List Word) → expr_words (chain_of e ls) rest ≡ expr_words e (links_words ls rest)
chain_list e tree.NoLink rest = refl
chain_list e (tree.MoreLinks op x ls) rest = refl

pub chain_spells : (operand : Reading tree.Expr) (rank : Rank) → Spells tree.Expr expr_words operand → Spells tree.Expr expr_words (chain_with operand rank)
unfolding chain_with
chain_spells operand rank s ws us x h = and_then _ _ _ h (λ first e h. and_then _ _ _ h (λ ls f h. ends expr_words ws ls.1 us (chain_of first.0 ls.0) x
    (s ws first.1 first.0 e ∙ ap (expr_words first.0) (links_spell operand rank s first.1 ls.1 ls.0 f) ∙ sym (chain_list first.0 ls.0 ls.1)) h))

pub products_spell : (u : Reading tree.Expr) → Spells tree.Expr expr_words u → Spells tree.Expr expr_words (products_with u)
unfolding products_with
products_spell u s ws us x h = chain_spells u Product s ws us x h

pub sums_spell : (u : Reading tree.Expr) → Spells tree.Expr expr_words u → Spells tree.Expr expr_words (sums_with u)
unfolding sums_with
sums_spell u s ws us x h = chain_spells (products_with u) Sum (products_spell u s) ws us x h

pub comparisons_spell : (u : Reading tree.Expr) → Spells tree.Expr expr_words u → Spells tree.Expr expr_words (comparisons_with u)
unfolding comparisons_with
comparisons_spell u s ws us x h = chain_spells (sums_with u) Comparison (sums_spell u s) ws us x h

pub conjunctions_spell : (u : Reading tree.Expr) → Spells tree.Expr expr_words u → Spells tree.Expr expr_words (conjunctions_with u)
unfolding conjunctions_with
conjunctions_spell u s ws us x h = chain_spells (comparisons_with u) Conjunction (comparisons_spell u s) ws us x h

pub operand_spells : (u : Reading tree.Expr) (rank : Rank) → Spells tree.Expr expr_words u → Spells tree.Expr expr_words (operand_with u rank)
unfolding operand_with
operand_spells u Product s ws us x h = s ws us x h
operand_spells u Sum s ws us x h = products_spell u s ws us x h
operand_spells u Comparison s ws us x h = sums_spell u s ws us x h
operand_spells u Conjunction s ws us x h = comparisons_spell u s ws us x h
operand_spells u Disjunction s ws us x h = conjunctions_spell u s ws us x h

pub ranked_spells : (u : Reading tree.Expr) (rank : Rank) → Spells tree.Expr expr_words u → Spells tree.Expr expr_words (ranked u rank)
unfolding ranked
ranked_spells u rank s ws us x h = chain_spells (operand_with u rank) rank (operand_spells u rank s) ws us x h

-- operands that are no chains
abbrev pub closed_words : tree.Exprs → List Word → List Word
closed_words es rest = arguments_words es true (Mark (codes ")") ∷ rest)

abbrev pub next_argument : tree.Expr → List Word → List Word
next_argument e rest = Mark (codes ",") ∷ expr_words e rest

abbrev pub argument_turn : Reading tree.Expr → Turn tree.Expr
argument_turn inside ws = each (expect (codes ",") ws) inside

pub next_argument_spells : (inside : Reading tree.Expr) → Spells tree.Expr expr_words inside → TurnSpells tree.Expr next_argument (argument_turn inside)
next_argument_spells inside s ws us x h = each_some (expect (codes ",") ws) inside (x, us) h (λ vs e f. expect_spells _ ws vs e ∙ ap (λ zs. Mark (codes ",") ∷ zs) (s vs us x f))

pub arguments_list : (es : List tree.Expr) (rest : List Word) → arguments_words (exprs_of es) false rest ≡ all_words next_argument es rest
arguments_list [] rest = refl
arguments_list (e ∷ es) rest = ap (next_argument e) (arguments_list es rest)

pub arguments_spell : (inside : Reading tree.Expr) → Spells tree.Expr expr_words inside → Spells tree.Exprs closed_words (arguments_with inside)
unfolding arguments_with
arguments_spell inside s ws us es h = one_way _ _ _ _ h
    (λ vs e h. ends closed_words ws vs us tree.NoExpr es (expect_spells _ ws vs e) h)
    (λ h. and_then _ _ _ h (λ first e h. and_then _ _ _ h (λ more f h. and_then _ _ _ h (λ vs g h. ends closed_words ws vs us (tree.MoreExprs first.0 (exprs_of more.0)) es
    (s ws first.1 first.0 e ∙ ap (expr_words first.0) (repeat_spells next_argument (argument_turn inside) (next_argument_spells inside s) first.1 more.1 more.0 f
    ∙ ap (all_words next_argument more.0) (expect_spells _ more.1 vs g) ∙ sym (arguments_list more.0 (Mark (codes ")") ∷ vs)))) h))))

named_spells : (inside : Reading tree.Expr) (arguments : Reading tree.Exprs) → Spells tree.Expr expr_words inside → Spells tree.Exprs closed_words arguments → (x : List ℕ) (ws us : List Word) (y : tree.Expr) →
    named_with inside arguments x ws ≡ Ok (y, us) → Name x ∷ ws ≡ expr_words y us
unfolding named_with
named_spells inside arguments s t x ws us y h = one_way _ _ _ _ h
    (λ vs e h. and_then _ _ _ h (λ i f h. and_then _ _ _ h (λ zs g h. ends expr_words (Name x ∷ ws) zs us (tree.Element x i.0) y
    (ap (λ v. Name x ∷ v) (expect_spells _ ws vs e ∙ ap (λ v. Mark (codes "[") ∷ v) (s vs i.1 i.0 f ∙ ap (expr_words i.0) (expect_spells _ i.1 zs g)))) h)))
    (λ h. one_way _ _ _ _ h
    (λ vs e h. and_then _ _ _ h (λ es f h. ends expr_words (Name x ∷ ws) es.1 us (tree.Apply x es.0) y
    (ap (λ v. Name x ∷ v) (expect_spells _ ws vs e ∙ ap (λ v. Mark (codes "(") ∷ v) (t vs es.1 es.0 f))) h))
    (λ h. ends expr_words (Name x ∷ ws) ws us (tree.Name x) y refl h))

unary_spells : (deeper inside : Reading tree.Expr) (arguments : Reading tree.Exprs) → Spells tree.Expr expr_words deeper → Spells tree.Expr expr_words inside → Spells tree.Exprs closed_words arguments →
    Spells tree.Expr expr_words (unary_with deeper inside arguments)
unfolding unary_with
unary_spells deeper inside arguments d s t ws us x h = one_way _ _ _ _ h
    (λ vs e h. and_then _ _ _ h (λ y f h. ends expr_words ws y.1 us (tree.Unary unary.Negate y.0) x (expect_spells _ ws vs e ∙ ap (λ v. Mark (codes "-") ∷ v) (d vs y.1 y.0 f)) h))
    (λ h. one_way _ _ _ _ h
    (λ vs e h. and_then _ _ _ h (λ y f h. ends expr_words ws y.1 us (tree.Unary unary.Not y.0) x (expect_spells _ ws vs e ∙ ap (λ v. Mark (codes "not") ∷ v) (d vs y.1 y.0 f)) h))
    (λ h. one_way _ _ _ _ h
    (λ n e h. ends expr_words ws n.1 us (tree.Number n.0) x (number_spells ws n.1 n.0 e) h)
    (λ h. one_way _ _ _ _ h
    (λ n e h. name_spells ws n.1 n.0 e ∙ named_spells inside arguments s t n.0 n.1 us x h)
    (λ h. and_then _ _ _ h (λ vs e h. and_then _ _ _ h (λ i f h. and_then _ _ _ h (λ zs g h. ends expr_words ws zs us (tree.Parenthesis i.0) x
    (expect_spells _ ws vs e ∙ ap (λ v. Mark (codes "(") ∷ v) (s vs i.1 i.0 f ∙ ap (expr_words i.0) (expect_spells _ i.1 zs g))) h)))))))

pub unary_at_spells : (k : ℕ) → Spells tree.Expr expr_words (unary_at k)
unfolding unary_at
unary_at_spells zero ws us x h = unary_spells no_level no_level no_level (λ ws us x h. nothing (suc (length ws)) (x, us) h) (λ ws us x h. nothing (suc (length ws)) (x, us) h) (λ ws us x h. nothing (suc (length ws)) (x, us) h) ws us x h
unary_at_spells (suc k) ws us x h =
    unary_spells (unary_at k) (ranked (unary_at k) Disjunction) (arguments_with (ranked (unary_at k) Disjunction)) (unary_at_spells k) (ranked_spells (unary_at k) Disjunction (unary_at_spells k))
    (arguments_spell (ranked (unary_at k) Disjunction) (ranked_spells (unary_at k) Disjunction (unary_at_spells k))) ws us x h

pub expr_spells : (k : ℕ) → Spells tree.Expr expr_words (expr_at k)
unfolding expr_at
expr_spells k ws us x h = ranked_spells (unary_at k) Disjunction (unary_at_spells k) ws us x h

pub nested_spells : (k : ℕ) → Spells tree.Expr expr_words (nested_at k)
unfolding nested_at
nested_spells k ws us x h = expr_spells (k - 1) ws us x (allowed (nat_eq k 0) (suc (length ws)) (expr_at (k - 1) ws) (x, us) h)

pub arguments_at_spell : (k : ℕ) → Spells tree.Exprs closed_words (arguments_at k)
unfolding arguments_at
arguments_at_spell k ws us x h = arguments_spell (expr_at (k - 1)) (expr_spells (k - 1)) ws us x (allowed (nat_eq k 0) (suc (length ws)) (arguments_with (expr_at (k - 1)) ws) (x, us) h)

-- statements
abbrev pub opened_words : tree.Block → List Word → List Word
opened_words b rest = Mark (codes "{") ∷ block_words b (Mark (codes "}") ∷ rest)

abbrev pub braced_words : tree.Block → List Word → List Word
braced_words b rest = block_words b (Mark (codes "}") ∷ rest)

service_call_spells : (k : ℕ) (service : Service) (ws us : List Word) (y : tree.Stmt) → service_call_at k service ws ≡ Ok (y, us) → ServiceWord service ∷ ws ≡ stmt_words y us
unfolding service_call_at
service_call_spells k service ws us y h = and_then _ _ _ (allowed (nat_eq k 0) (suc (length ws)) _ (y, us) h) (λ vs e h. and_then _ _ _ h (λ es f h. and_then _ _ _ h (λ xs g h. and_then _ _ _ h (λ zs i h.
    ends stmt_words (ServiceWord service ∷ ws) zs us (tree.CallService service es.0 xs.0) y
    (ap (λ v. ServiceWord service ∷ v) (expect_spells _ ws vs e ∙ ap (λ v. Mark (codes "(") ∷ v) (arguments_at_spell k vs es.1 es.0 f
    ∙ ap (closed_words es.0) (targets_spell es.1 xs.1 xs.0 g ∙ ap (targets_words xs.0) (expect_spells _ xs.1 zs i))))) h))))

assignment_spells : (k : ℕ) (x : List ℕ) (ws us : List Word) (y : tree.Stmt) → assignment_at k x ws ≡ Ok (y, us) → Name x ∷ ws ≡ stmt_words y us
unfolding assignment_at
assignment_spells k x ws us y h = one_way _ _ _ _ h
    (λ vs e h. and_then _ _ _ h (λ i f h. and_then _ _ _ h (λ zs g h. and_then _ _ _ h (λ ps j h. and_then _ _ _ h (λ v l h. and_then _ _ _ h (λ qs m h.
    ends stmt_words (Name x ∷ ws) qs us (tree.AssignElement x i.0 v.0) y
    (ap (λ v. Name x ∷ v) (expect_spells _ ws vs e ∙ ap (λ v. Mark (codes "[") ∷ v) (nested_spells k vs i.1 i.0 f
    ∙ ap (expr_words i.0) (expect_spells _ i.1 zs g ∙ ap (λ v. Mark (codes "]") ∷ v) (expect_spells _ zs ps j ∙ ap (λ v. Mark (codes ":=") ∷ v) (expr_spells k ps v.1 v.0 l
    ∙ ap (expr_words v.0) (expect_spells _ v.1 qs m))))))) h))))))
    (λ h. and_then _ _ _ h (λ vs e h. and_then _ _ _ h (λ v f h. and_then _ _ _ h (λ zs g h.
    ends stmt_words (Name x ∷ ws) zs us (tree.Assign x v.0) y
    (ap (λ v. Name x ∷ v) (expect_spells _ ws vs e ∙ ap (λ v. Mark (codes ":=") ∷ v) (expr_spells k vs v.1 v.0 f ∙ ap (expr_words v.0) (expect_spells _ v.1 zs g)))) h))))

work_spells : (ws us : List Word) (y : tree.Stmt) → work_at ws ≡ Ok (y, us) → Mark (codes "work") ∷ ws ≡ stmt_words y us
unfolding work_at
work_spells ws us y h = and_then _ _ _ h (λ n e h. and_then _ _ _ h (λ vs f h. ends stmt_words (Mark (codes "work") ∷ ws) vs us (tree.Work n.0) y
    (ap (λ v. Mark (codes "work") ∷ v) (number_spells ws n.1 n.0 e ∙ ap (λ v. Number n.0 ∷ v) (expect_spells _ n.1 vs f))) h))

return_spells : (k : ℕ) (ws us : List Word) (y : tree.Stmt) → return_at k ws ≡ Ok (y, us) → Mark (codes "return") ∷ ws ≡ stmt_words y us
unfolding return_at
return_spells k ws us y h = and_then _ _ _ h (λ v e h. and_then _ _ _ h (λ vs f h. ends stmt_words (Mark (codes "return") ∷ ws) vs us (tree.Return v.0) y
    (ap (λ v. Mark (codes "return") ∷ v) (expr_spells k ws v.1 v.0 e ∙ ap (expr_words v.0) (expect_spells _ v.1 vs f))) h))

branch_spells : (block : Reading tree.Block) (k : ℕ) → Spells tree.Block opened_words block → (ws us : List Word) (y : tree.Stmt) → branch_with block k ws ≡ Ok (y, us) → Mark (codes "if") ∷ ws ≡ stmt_words y us
unfolding branch_with
branch_spells block k s ws us y h = and_then _ _ _ h (λ t e h. and_then _ _ _ h (λ b f h. one_way _ _ _ _ h
    (λ vs g h. and_then _ _ _ h (λ c i h. ends stmt_words (Mark (codes "if") ∷ ws) c.1 us (tree.IfElse t.0 b.0 c.0) y
    (ap (λ v. Mark (codes "if") ∷ v) (expr_spells k ws t.1 t.0 e ∙ ap (expr_words t.0) (s t.1 b.1 b.0 f ∙ ap (opened_words b.0) (expect_spells _ b.1 vs g ∙ ap (λ v. Mark (codes "else") ∷ v) (s vs c.1 c.0 i))))) h))
    (λ h. ends stmt_words (Mark (codes "if") ∷ ws) b.1 us (tree.If t.0 b.0) y
    (ap (λ v. Mark (codes "if") ∷ v) (expr_spells k ws t.1 t.0 e ∙ ap (expr_words t.0) (s t.1 b.1 b.0 f))) h)))

while_spells : (block : Reading tree.Block) (k : ℕ) → Spells tree.Block opened_words block → (ws us : List Word) (y : tree.Stmt) → while_with block k ws ≡ Ok (y, us) → Mark (codes "while") ∷ ws ≡ stmt_words y us
unfolding while_with
while_spells block k s ws us y h = and_then _ _ _ h (λ t e h. and_then _ _ _ h (λ b f h. ends stmt_words (Mark (codes "while") ∷ ws) b.1 us (tree.While t.0 b.0) y
    (ap (λ v. Mark (codes "while") ∷ v) (expr_spells k ws t.1 t.0 e ∙ ap (expr_words t.0) (s t.1 b.1 b.0 f))) h))

pub stmt_spells : (block : Reading tree.Block) (k : ℕ) → Spells tree.Block opened_words block → Spells tree.Stmt stmt_words (stmt_with block k)
unfolding stmt_with
stmt_spells block k s ws us y h = one_way _ _ _ _ h
    (λ x e h. name_spells ws x.1 x.0 e ∙ assignment_spells k x.0 x.1 us y h)
    (λ h. one_way _ _ _ _ h
    (λ x e h. service_spells ws x.1 x.0 e ∙ service_call_spells k x.0 x.1 us y h)
    (λ h. one_way _ _ _ _ h
    (λ vs e h. expect_spells _ ws vs e ∙ work_spells vs us y h)
    (λ h. one_way _ _ _ _ h
    (λ vs e h. expect_spells _ ws vs e ∙ return_spells k vs us y h)
    (λ h. one_way _ _ _ _ (allowed (nat_eq k 0) (length ws) _ (y, us) h)
    (λ vs e h. expect_spells _ ws vs e ∙ branch_spells block k s vs us y h)
    (λ h. and_then _ _ _ h (λ vs e h. expect_spells _ ws vs e ∙ while_spells block k s vs us y h))))))

abbrev pub stmt_turn : Reading tree.Stmt → Turn tree.Stmt
stmt_turn stmt ws = until (expect (codes "}") ws) (stmt ws)

pub stmt_turn_spells : (stmt : Reading tree.Stmt) → Spells tree.Stmt stmt_words stmt → TurnSpells tree.Stmt stmt_words (stmt_turn stmt)
stmt_turn_spells stmt s ws us y h = s ws us y (until_some (expect (codes "}") ws) (stmt ws) (y, us) h)

pub block_list : (ss : List tree.Stmt) (rest : List Word) → block_words (block_of ss) rest ≡ all_words stmt_words ss rest
block_list [] rest = refl
block_list (s ∷ ss) rest = ap (stmt_words s) (block_list ss rest)

pub statements_spell : (stmt : Reading tree.Stmt) → Spells tree.Stmt stmt_words stmt → Spells tree.Block braced_words (statements_with stmt)
unfolding statements_with
statements_spell stmt s ws us b h = and_then _ _ _ h (λ ss e h. and_then _ _ _ h (λ vs f h. ends braced_words ws vs us (block_of ss.0) b
    (repeat_spells stmt_words (stmt_turn stmt) (stmt_turn_spells stmt s) ws ss.1 ss.0 e ∙ ap (all_words stmt_words ss.0) (expect_spells _ ss.1 vs f) ∙ sym (block_list ss.0 (Mark (codes "}") ∷ vs))) h))

pub block_spells : (k : ℕ) → Spells tree.Block opened_words (block_at k)
unfolding block_at
block_spells zero ws us b h = nothing (length ws) (b, us) h
block_spells (suc k) ws us b h = and_then _ _ _ h (λ vs e h. expect_spells _ ws vs e ∙ ap (λ v. Mark (codes "{") ∷ v) (statements_spell (stmt_with (block_at k) k) (stmt_spells (block_at k) k (block_spells k)) vs us b h))

pub statements_at_spell : (k : ℕ) → Spells tree.Block braced_words (statements_at k)
unfolding statements_at stmt_at
statements_at_spell k ws us b h = statements_spell (λ vs. stmt_with (block_at k) k vs) (stmt_spells (block_at k) k (block_spells k)) ws us b h

-- bodies
abbrev pub local_turn : Turn (List ℕ)
local_turn ws = each (expect (codes "local") ws) local_at

pub local_spells : TurnSpells (List ℕ) local_words local_turn
unfolding local_at
local_spells ws us x h = each_some _ _ _ h (λ vs e f. and_then _ _ _ f (λ n g h. and_then _ _ _ h (λ zs i h. ends local_words ws zs us n.0 x
    (expect_spells _ ws vs e ∙ ap (λ v. Mark (codes "local") ∷ v) (name_spells vs n.1 n.0 g ∙ ap (λ v. Name n.0 ∷ v) (expect_spells _ n.1 zs i))) h)))

pub locals_spell : Spells (List (List ℕ)) (all_words local_words) locals_at
unfolding locals_at
locals_spell ws us xs h = repeat_spells local_words local_turn local_spells ws us xs h

pub body_spells : Spells tree.Body body_words body_at
unfolding body_at
body_spells ws us b h = and_then _ _ _ h (λ vs e h. and_then _ _ _ h (λ xs f h. and_then _ _ _ h (λ c g h. ends body_words ws c.1 us (record { locals = xs.0; block = c.0 }) b
    (expect_spells _ ws vs e ∙ ap (λ v. Mark (codes "{") ∷ v) (locals_spell vs xs.1 xs.0 f ∙ ap (all_words local_words xs.0) (statements_at_spell (MOST_LEVELS - 1) xs.1 c.1 c.0 g))) h)))

-- declarations, after the word of their kind
pub first_spells : Spells (Option tree.Integer) first_words first_value_at
unfolding first_value_at
first_spells ws us x h = one_way _ _ _ _ h
    (λ vs e h. and_then _ _ _ h (λ n f h. ends first_words ws n.1 us (Some n.0) x (expect_spells _ ws vs e ∙ ap (λ v. Mark (codes "=") ∷ v) (integer_spells vs n.1 n.0 f)) h))
    (λ h. ends first_words ws ws us None x refl h)

abbrev pub integer_turn : Turn tree.Integer
integer_turn ws = until (expect (codes ";") ws) (integer_at ws)

pub integer_turn_spells : TurnSpells tree.Integer integer_words integer_turn
integer_turn_spells ws us n h = integer_spells ws us n (until_some (expect (codes ";") ws) (integer_at ws) (n, us) h)

abbrev pub ended_values : List tree.Integer → List Word → List Word
ended_values ns rest = values_words ns (Mark (codes ";") ∷ rest)

integers_spell : (ws us : List Word) (ns : List tree.Integer) → integers_at ws ≡ Ok (ns, us) → Mark (codes "=") ∷ ws ≡ ended_values ns us
unfolding integers_at
integers_spell ws us ns h = and_then _ _ _ h (λ first e h. and_then _ _ _ h (λ more f h. and_then _ _ _ h (λ vs g h. ends ended_values (Mark (codes "=") ∷ ws) vs us (first.0 ∷ more.0) ns
    (ap (λ v. Mark (codes "=") ∷ v) (integer_spells ws first.1 first.0 e ∙ ap (integer_words first.0) (repeat_spells integer_words integer_turn integer_turn_spells first.1 more.1 more.0 f
    ∙ ap (all_words integer_words more.0) (expect_spells _ more.1 vs g)))) h)))

pub first_values_spell : Spells (List tree.Integer) ended_values first_values_at
unfolding first_values_at
first_values_spell ws us ns h = one_way _ _ _ _ h
    (λ vs e h. expect_spells _ ws vs e ∙ integers_spell vs us ns h)
    (λ h. and_then _ _ _ h (λ vs e h. ends ended_values ws vs us [] ns (expect_spells _ ws vs e) h))

abbrev Declares : List ℕ → Reading tree.Declaration → Type 0
Declares mark read = (ws us : List Word) (d : tree.Declaration) → read ws ≡ Ok (d, us) → Mark mark ∷ ws ≡ declaration_words d us

variable_spells : Declares (codes "var") variable_at
unfolding variable_at
variable_spells ws us d h = and_then _ _ _ h (λ x e h. and_then _ _ _ h (λ n f h. and_then _ _ _ h (λ vs g h. ends declaration_words (Mark (codes "var") ∷ ws) vs us (declared x.0 (tree.Variable n.0)) d
    (ap (λ v. Mark (codes "var") ∷ v) (name_spells ws x.1 x.0 e ∙ ap (λ v. Name x.0 ∷ v) (first_spells x.1 n.1 n.0 f ∙ ap (first_words n.0) (expect_spells _ n.1 vs g)))) h)))

array_spells : Declares (codes "array") array_at
unfolding array_at
array_spells ws us d h = and_then _ _ _ h (λ x e h. and_then _ _ _ h (λ vs f h. and_then _ _ _ h (λ n g h. and_then _ _ _ h (λ zs i h. and_then _ _ _ h (λ ns j h.
    ends declaration_words (Mark (codes "array") ∷ ws) ns.1 us (declared x.0 (tree.Array n.0 ns.0)) d
    (ap (λ v. Mark (codes "array") ∷ v) (name_spells ws x.1 x.0 e ∙ ap (λ v. Name x.0 ∷ v) (expect_spells _ x.1 vs f ∙ ap (λ v. Mark (codes "[") ∷ v) (number_spells vs n.1 n.0 g
    ∙ ap (λ v. Number n.0 ∷ v) (expect_spells _ n.1 zs i ∙ ap (λ v. Mark (codes "]") ∷ v) (first_values_spell zs ns.1 ns.0 j)))))) h)))))

semaphore_spells : Declares (codes "semaphore") semaphore_at
unfolding semaphore_at
semaphore_spells ws us d h = and_then _ _ _ h (λ x e h. and_then _ _ _ h (λ a f h. and_then _ _ _ h (λ b g h. and_then _ _ _ h (λ c i h. and_then _ _ _ h (λ vs j h.
    ends declaration_words (Mark (codes "semaphore") ∷ ws) vs us (declared x.0 (tree.Semaphore a.0 b.0 c.0)) d
    (ap (λ v. Mark (codes "semaphore") ∷ v) (name_spells ws x.1 x.0 e ∙ ap (λ v. Name x.0 ∷ v) (number_spells x.1 a.1 a.0 f ∙ ap (λ v. Number a.0 ∷ v) (number_spells a.1 b.1 b.0 g
    ∙ ap (λ v. Number b.0 ∷ v) (discipline_spells b.1 c.1 c.0 i ∙ ap (discipline_words c.0) (expect_spells _ c.1 vs j)))))) h)))))

event_spells : Declares (codes "event") event_at
unfolding event_at
event_spells ws us d h = and_then _ _ _ h (λ x e h. and_then _ _ _ h (λ vs f h. ends declaration_words (Mark (codes "event") ∷ ws) vs us (declared x.0 tree.Event) d
    (ap (λ v. Mark (codes "event") ∷ v) (name_spells ws x.1 x.0 e ∙ ap (λ v. Name x.0 ∷ v) (expect_spells _ x.1 vs f))) h))

buffer_spells : Declares (codes "buffer") buffer_at
unfolding buffer_at
buffer_spells ws us d h = and_then _ _ _ h (λ x e h. and_then _ _ _ h (λ a f h. and_then _ _ _ h (λ b g h. and_then _ _ _ h (λ c i h. and_then _ _ _ h (λ vs j h.
    ends declaration_words (Mark (codes "buffer") ∷ ws) vs us (declared x.0 (tree.Buffer a.0 b.0 c.0)) d
    (ap (λ v. Mark (codes "buffer") ∷ v) (name_spells ws x.1 x.0 e ∙ ap (λ v. Name x.0 ∷ v) (number_spells x.1 a.1 a.0 f ∙ ap (λ v. Number a.0 ∷ v) (number_spells a.1 b.1 b.0 g
    ∙ ap (λ v. Number b.0 ∷ v) (discipline_spells b.1 c.1 c.0 i ∙ ap (discipline_words c.0) (expect_spells _ c.1 vs j)))))) h)))))

blackboard_spells : Declares (codes "blackboard") blackboard_at
unfolding blackboard_at
blackboard_spells ws us d h = and_then _ _ _ h (λ x e h. and_then _ _ _ h (λ a f h. and_then _ _ _ h (λ vs g h. ends declaration_words (Mark (codes "blackboard") ∷ ws) vs us (declared x.0 (tree.Blackboard a.0)) d
    (ap (λ v. Mark (codes "blackboard") ∷ v) (name_spells ws x.1 x.0 e ∙ ap (λ v. Name x.0 ∷ v) (number_spells x.1 a.1 a.0 f ∙ ap (λ v. Number a.0 ∷ v) (expect_spells _ a.1 vs g)))) h)))

port_spells : Declares (codes "port") port_at
unfolding port_at
port_spells ws us d h = and_then _ _ _ h (λ x e h. and_then _ _ _ h (λ vs f h. ends declaration_words (Mark (codes "port") ∷ ws) vs us (declared x.0 tree.Port) d
    (ap (λ v. Mark (codes "port") ∷ v) (name_spells ws x.1 x.0 e ∙ ap (λ v. Name x.0 ∷ v) (expect_spells _ x.1 vs f))) h))

abbrev pub closed_names : List (List ℕ) → List Word → List Word
closed_names xs rest = names_words xs (Mark (codes ")") ∷ rest)

pub parameters_spell : Spells (List (List ℕ)) closed_names parameters_at
unfolding parameters_at
parameters_spell ws us xs h = one_way _ _ _ _ h
    (λ vs e h. ends closed_names ws vs us [] xs (expect_spells _ ws vs e) h)
    (λ h. and_then _ _ _ h (λ ys e h. and_then _ _ _ h (λ vs f h. ends closed_names ws vs us ys.0 xs (names_spells ws ys.1 ys.0 e ∙ ap (names_words ys.0) (expect_spells _ ys.1 vs f)) h)))

procedure_spells : Declares (codes "proc") procedure_at
unfolding procedure_at
procedure_spells ws us d h = and_then _ _ _ h (λ x e h. and_then _ _ _ h (λ vs f h. and_then _ _ _ h (λ xs g h. and_then _ _ _ h (λ b i h.
    ends declaration_words (Mark (codes "proc") ∷ ws) b.1 us (declared x.0 (tree.Procedure xs.0 b.0)) d
    (ap (λ v. Mark (codes "proc") ∷ v) (name_spells ws x.1 x.0 e ∙ ap (λ v. Name x.0 ∷ v) (expect_spells _ x.1 vs f ∙ ap (λ v. Mark (codes "(") ∷ v) (parameters_spell vs xs.1 xs.0 g
    ∙ ap (closed_names xs.0) (body_spells xs.1 b.1 b.0 i))))) h))))

declaration_spells : Spells tree.Declaration declaration_words declaration_at
unfolding declaration_at
declaration_spells ws us d h = one_way _ _ _ _ h (λ vs e h. expect_spells _ ws vs e ∙ variable_spells vs us d h)
    (λ h. one_way _ _ _ _ h (λ vs e h. expect_spells _ ws vs e ∙ array_spells vs us d h)
    (λ h. one_way _ _ _ _ h (λ vs e h. expect_spells _ ws vs e ∙ semaphore_spells vs us d h)
    (λ h. one_way _ _ _ _ h (λ vs e h. expect_spells _ ws vs e ∙ event_spells vs us d h)
    (λ h. one_way _ _ _ _ h (λ vs e h. expect_spells _ ws vs e ∙ buffer_spells vs us d h)
    (λ h. one_way _ _ _ _ h (λ vs e h. expect_spells _ ws vs e ∙ blackboard_spells vs us d h)
    (λ h. one_way _ _ _ _ h (λ vs e h. expect_spells _ ws vs e ∙ port_spells vs us d h)
    (λ h. and_then _ _ _ h (λ vs e h. expect_spells _ ws vs e ∙ procedure_spells vs us d h))))))))

abbrev pub declaration_turn : Turn tree.Declaration
declaration_turn ws = until (expect (codes "init") ws) (declaration_at ws)

pub declaration_turn_spells : TurnSpells tree.Declaration declaration_words declaration_turn
declaration_turn_spells ws us d h = declaration_spells ws us d (until_some (expect (codes "init") ws) (declaration_at ws) (d, us) h)

pub declarations_spell : Spells (List tree.Declaration) (all_words declaration_words) declarations_at
unfolding declarations_at
declarations_spell ws us ds h = repeat_spells declaration_words declaration_turn declaration_turn_spells ws us ds h

-- programs
pub stack_body_spells : (mark : List ℕ) → Spells tree.StackBody (stack_body_words mark) (stack_body_at mark)
unfolding stack_body_at
stack_body_spells mark ws us s h = and_then _ _ _ h (λ vs e h. and_then _ _ _ h (λ zs f h. and_then _ _ _ h (λ n g h. and_then _ _ _ h (λ b i h.
    ends (stack_body_words mark) ws b.1 us (record { stack = n.0; body = b.0 }) s
    (expect_spells _ ws vs e ∙ ap (λ v. Mark mark ∷ v) (expect_spells _ vs zs f ∙ ap (λ v. Mark (codes "stack") ∷ v) (number_spells zs n.1 n.0 g ∙ ap (λ v. Number n.0 ∷ v) (body_spells n.1 b.1 b.0 i)))) h))))

pub handler_spells : Spells (Option tree.StackBody) handler_words handler_at
unfolding handler_at
handler_spells ws us x h = one_way _ _ _ _ h
    (λ vs e h. and_then _ _ _ h (λ b f h. ends handler_words ws b.1 us (Some b.0) x (stack_body_spells (codes "handler") ws b.1 b.0 f) h))
    (λ h. ends handler_words ws ws us None x refl h)

abbrev pub process_turn : Turn tree.Process
process_turn ws = each (expect (codes "process") ws) process_at

pub process_spells : TurnSpells tree.Process process_words process_turn
unfolding process_at
process_spells ws us p h = each_some _ _ _ h (λ vs e f. and_then _ _ _ f (λ x g h. and_then _ _ _ h (λ xs i h. and_then _ _ _ h (λ n j h. and_then _ _ _ h (λ bs k h. and_then _ _ _ h (λ q l h.
    and_then _ _ _ h (λ cs m h. and_then _ _ _ h (λ r o h. and_then _ _ _ h (λ ds s h. and_then _ _ _ h (λ t u h. and_then _ _ _ h (λ b w h.
    ends process_words ws b.1 us (record { name = x.0; priority = n.0; period = q.0; capacity = r.0; stack = t.0; body = b.0 }) p
    (expect_spells _ ws vs e ∙ ap (λ v. Mark (codes "process") ∷ v) (name_spells vs x.1 x.0 g ∙ ap (λ v. Name x.0 ∷ v) (expect_spells _ x.1 xs i ∙ ap (λ v. Mark (codes "priority") ∷ v)
    (number_spells xs n.1 n.0 j ∙ ap (λ v. Number n.0 ∷ v) (expect_spells _ n.1 bs k ∙ ap (λ v. Mark (codes "period") ∷ v) (integer_spells bs q.1 q.0 l ∙ ap (integer_words q.0)
    (expect_spells _ q.1 cs m ∙ ap (λ v. Mark (codes "capacity") ∷ v) (integer_spells cs r.1 r.0 o ∙ ap (integer_words r.0) (expect_spells _ r.1 ds s ∙ ap (λ v. Mark (codes "stack") ∷ v)
    (number_spells ds t.1 t.0 u ∙ ap (λ v. Number t.0 ∷ v) (body_spells t.1 b.1 b.0 w))))))))))) h)))))))))))

pub processes_spell : Spells (List tree.Process) (all_words process_words) processes_at
unfolding processes_at
processes_spell ws us ps h = repeat_spells process_words process_turn process_spells ws us ps h

all_of : {X : Type 0} (x y : X) (front : List Word → List Word) (ws us : List Word) → ws ≡ front us → all_read x us ≡ Ok y → (x ≡ y) × (ws ≡ front [])
all_of x y front ws [] h e = (cc, h)
all_of x y front ws (u ∷ us) h e = nothing (suc (length us)) y e

pub program_spells : (ws : List Word) (p : tree.Program) → program_at ws ≡ Ok p → ws ≡ program_words p
unfolding program_at program_words
program_spells ws p h = and_then _ _ _ h (λ ds e h. and_then _ _ _ h (λ i f h. and_then _ _ _ h (λ x g h. and_then _ _ _ h (λ ps j h.
    let q : tree.Program = record { declarations = ds.0; init = i.0; handler = x.0; processes = ps.0 } in
    let front : List Word → List Word = λ us. all_words declaration_words ds.0 (stack_body_words (codes "init") i.0 (handler_words x.0 (all_words process_words ps.0 us))) in
    let all = all_of q p front ws ps.1 (declarations_spell ws ds.1 ds.0 e ∙ ap (all_words declaration_words ds.0) (stack_body_spells (codes "init") ds.1 i.1 i.0 f
    ∙ ap (stack_body_words (codes "init") i.0) (handler_spells i.1 x.1 x.0 g ∙ ap (handler_words x.0) (processes_spell x.1 ps.1 ps.0 j)))) h in
    all.1 ∙ ap program_words all.0))))
