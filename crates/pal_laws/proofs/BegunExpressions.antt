-- If the words of an expression are refused, those before that place begin one.
use Rattle.std.proofs.Common.{◌≡◌, ℕ, zero, suc, ◌-◌, ◌≤◌, Bool, true, false, cond, nat_eq, inl, inr, List, [], ◌∷◌, ◌++◌, length, Some, Ok, Err, refl, sym, ap, ◌∙◌, subst, arith}
use Rattle.std.specs.Prelude.{codes, ◌⊎◌}
use Rattle.apex_types.specs.declared.instruction.BinaryOperator.{BinaryOperator}
use Rattle.apex_types.specs.declared.instruction.UnaryOperator.TheVariants as unary
use Rattle.pal_meaning.specs.Grammar.{Word, Name, Number, Mark, Rank, Disjunction, Conjunction, Comparison, Sum, Product}
use Rattle.pal_meaning.specs.Grammar.{all_words, operator_mark, expr_words, links_words, rank_of, looseness, IsExpr, IsFew, AreArguments, Each}
use Rattle.pal_meaning.specs.Syntax as tree
use Rattle.pal_laws.specs.GrammarReading.{Answer, Reading, no_level, ◌>>=◌, expect, name_at, number_at, repeat, operator_at, operators_of, links_of, chain_of, exprs_of, link_at, links_at, chain_with, products_with, sums_with, comparisons_with, conjunctions_with, operand_with, ranked, arguments_with, named_with, unary_with, unary_at, expr_at, nested_at, arguments_at}
use Rattle.pal_laws.proofs.Extended.{all_extend, expr_extends}
use Rattle.pal_laws.proofs.Longer.{expr_longer}
use Rattle.pal_laws.proofs.Spelled.{one_way, Spells, link_words, one_of_spells, link_spells, links_list, chain_list, expect_spells, name_spells, closed_words, next_argument, argument_turn, next_argument_spells, arguments_list, repeat_spells, products_spell, sums_spell, comparisons_spell, conjunctions_spell, unary_at_spells, ranked_spells, expr_spells}
use Rattle.pal_laws.proofs.Shaped as shaped
use Rattle.pal_laws.proofs.Spelled as spelled
use Rattle.pal_laws.proofs.Shaped.{Shapes, one_of_shapes, all_ranked, Fits, IsLink, AreFit, link_shapes, looser, AreGiven, argument_shapes, Inner, InnerArguments, down, more, positive, products_shape, sums_shape, comparisons_shape, conjunctions_shape, unary_at_shapes, whole_shapes, expr_shapes}
use Rattle.pal_laws.proofs.Begun.{Begun, Begins, TurnBegins, Front, fitting, stopped, inside, something, refused, each_refused, left_is, expect_left, repeat_begins}

-- links
link_front : (op : BinaryOperator) (e : tree.Expr) (rest more : List Word) → link_words (op, e) (rest ++ more) ≡ link_words (op, e) rest ++ more
link_front op e rest more = ap (λ (ws : List Word). Mark (operator_mark op) ∷ ws) (expr_extends e rest more)

link_longer : (l : BinaryOperator × tree.Expr) (rest : List Word) → suc (length rest) ≤ length (link_words l rest)
link_longer l rest = omega (arith, expr_longer l.1 rest)

link_begins : (k : ℕ) (rank : Rank) (operand : Reading tree.Expr) → Begins tree.Expr expr_words (Fits k (looseness rank - 1)) operand → TurnBegins (BinaryOperator × tree.Expr) link_words (IsLink k rank) (link_at operand rank)
unfolding link_at
link_begins k rank operand b ws n h = each_refused (operator_at rank ws) _ n h (λ op e h. refused (operand op.1) _ n h
    (λ f. inside expr_words (Fits k (looseness rank - 1)) link_words (IsLink k rank) ws op.1 n (λ vs. Mark (operator_mark op.0) ∷ vs) (λ x. (op.0, x)) [] (λ rest more. refl) (one_of_spells _ ws op.1 op.0 e)
    (λ x p. (one_of_shapes (λ o. rank_of o ≡ rank) (operators_of rank) (all_ranked rank) ws op.1 op.0 e, p)) (λ x rest. refl) (b op.1 n f))
    (λ x f g. something n _ g))

all_links_begin : (k : ℕ) (rank : Rank) (operand : Reading tree.Expr) → Spells tree.Expr expr_words operand → Shapes tree.Expr (Fits k (looseness rank - 1)) operand → Begins tree.Expr expr_words (Fits k (looseness rank - 1)) operand →
    ((ls : List (BinaryOperator × tree.Expr)) → Each (IsLink k rank) ls → AreFit k rank (links_of ls)) →
    Begins tree.Links links_words (AreFit k rank) (λ ws. repeat (link_at operand rank) ws >>= λ ls. Ok (links_of ls.0, ls.1))
all_links_begin k rank operand s p b fits ws n h = refused (repeat (link_at operand rank) ws) _ n h
    (λ f. inside (all_words link_words) (Each (IsLink k rank)) links_words (AreFit k rank) ws ws n (λ vs. vs) links_of [] (λ rest more. refl) refl fits links_list
    (repeat_begins link_words (IsLink k rank) (link_at operand rank) (link_spells operand rank s) (link_shapes k rank operand p) link_longer (λ l rest more. link_front l.0 l.1 rest more) (link_begins k rank operand b) ws n f))
    (λ x f g. something n _ g)

some_links : (k : ℕ) (rank : Rank) (ls : List (BinaryOperator × tree.Expr)) → ((ls : tree.Links) → IsFew rank ls) → Each (IsLink k rank) ls → AreFit k rank (links_of ls)
some_links k rank ls few h = (shaped.links_list k rank ls h, few (links_of ls))

links_begin : (k : ℕ) (rank : Rank) (operand : Reading tree.Expr) → Spells tree.Expr expr_words operand → Shapes tree.Expr (Fits k (looseness rank - 1)) operand → Begins tree.Expr expr_words (Fits k (looseness rank - 1)) operand →
    Begins tree.Links links_words (AreFit k rank) (links_at operand rank)
unfolding links_at
links_begin k Comparison operand s p b ws n h = refused (link_at operand Comparison ws) _ n h
    (λ f. inside link_words (IsLink k Comparison) links_words (AreFit k Comparison) ws ws n (λ vs. vs) (λ l. links_of (l ∷ [])) [] (λ rest more. refl) refl (λ l p. ((p.0, p.1, tt), tt)) (λ l rest. refl) (link_begins k Comparison operand b ws n f))
    (λ x f g. something n _ g)
links_begin k Disjunction operand s p b ws n h = all_links_begin k Disjunction operand s p b (λ ls. some_links k Disjunction ls (λ _. tt)) ws n h
links_begin k Conjunction operand s p b ws n h = all_links_begin k Conjunction operand s p b (λ ls. some_links k Conjunction ls (λ _. tt)) ws n h
links_begin k Sum operand s p b ws n h = all_links_begin k Sum operand s p b (λ ls. some_links k Sum ls (λ _. tt)) ws n h
links_begin k Product operand s p b ws n h = all_links_begin k Product operand s p b (λ ls. some_links k Product ls (λ _. tt)) ws n h

-- chains
chain_begins : (k : ℕ) (rank : Rank) (operand : Reading tree.Expr) → Spells tree.Expr expr_words operand → Shapes tree.Expr (Fits k (looseness rank - 1)) operand → Begins tree.Expr expr_words (Fits k (looseness rank - 1)) operand →
    Begins tree.Expr expr_words (Fits k (looseness rank)) (chain_with operand rank)
unfolding chain_with
chain_begins k rank operand s p b ws n h = refused (operand ws) _ n h
    (λ e. fitting expr_words (Fits k (looseness rank - 1)) (Fits k (looseness rank)) ws n (λ x q. looser x k (looseness rank - 1) (looseness rank) (omega arith) q) (b ws n e))
    (λ first e h. refused (links_at operand rank first.1) _ n h
    (λ f. inside links_words (AreFit k rank) expr_words (Fits k (looseness rank)) ws first.1 n (expr_words first.0) (λ ls. chain_of first.0 ls) [] (expr_extends first.0) (s ws first.1 first.0 e)
    (λ ls q. shaped.chain_list k rank first.0 ls (p ws first.1 first.0 e) q) (chain_list first.0) (links_begin k rank operand s p b first.1 n f))
    (λ ls f g. something n _ g))

-- expressions of any rank, where operands that are no chains are read so
module _ (k : ℕ) (u : Reading tree.Expr) (s : Spells tree.Expr expr_words u) (p : Shapes tree.Expr (Fits k 0) u) (b : Begins tree.Expr expr_words (Fits k 0) u) where
  products_begin : Begins tree.Expr expr_words (Fits k 1) (products_with u)
  unfolding products_with
  products_begin ws n h = chain_begins k Product u s p b ws n h

  sums_begin : Begins tree.Expr expr_words (Fits k 2) (sums_with u)
  unfolding sums_with
  sums_begin ws n h = chain_begins k Sum (products_with u) (products_spell u s) (products_shape k u p) products_begin ws n h

  comparisons_begin : Begins tree.Expr expr_words (Fits k 3) (comparisons_with u)
  unfolding comparisons_with
  comparisons_begin ws n h = chain_begins k Comparison (sums_with u) (sums_spell u s) (sums_shape k u p) sums_begin ws n h

  conjunctions_begin : Begins tree.Expr expr_words (Fits k 4) (conjunctions_with u)
  unfolding conjunctions_with
  conjunctions_begin ws n h = chain_begins k Conjunction (comparisons_with u) (comparisons_spell u s) (comparisons_shape k u p) comparisons_begin ws n h

  whole_begins : Begins tree.Expr expr_words (Fits k 5) (ranked u Disjunction)
  unfolding ranked operand_with
  whole_begins ws n h = chain_begins k Disjunction (λ vs. conjunctions_with u vs) (conjunctions_spell u s) (conjunctions_shape k u p) conjunctions_begin ws n h

-- arguments
next_longer : (e : tree.Expr) (rest : List Word) → suc (length rest) ≤ length (next_argument e rest)
next_longer e rest = omega (arith, expr_longer e rest)

next_front : (e : tree.Expr) (rest more : List Word) → next_argument e (rest ++ more) ≡ next_argument e rest ++ more
next_front e rest more = ap (λ (ws : List Word). Mark (codes ",") ∷ ws) (expr_extends e rest more)

next_begins : (k : ℕ) (read : Reading tree.Expr) → Begins tree.Expr expr_words (Fits k 5) read → TurnBegins tree.Expr next_argument (Fits k 5) (argument_turn read)
next_begins k read b ws n h = each_refused (expect (codes ",") ws) read n h (λ vs e f.
    inside expr_words (Fits k 5) next_argument (Fits k 5) ws vs n (λ us. Mark (codes ",") ∷ us) (λ x. x) [] (λ rest more. refl) (expect_spells _ ws vs e) (λ x p. p) (λ x rest. refl) (b vs n f))

arguments_begin : (k : ℕ) (read : Reading tree.Expr) → Spells tree.Expr expr_words read → Shapes tree.Expr (Fits k 5) read → Begins tree.Expr expr_words (Fits k 5) read → Begins tree.Exprs closed_words (AreGiven k) (arguments_with read)
unfolding arguments_with
arguments_begin k read s p b ws n h = one_way (expect _ ws) _ _ _ h
    (λ vs e g. something n _ g)
    (λ h. refused (read ws) _ n h
    (λ e. inside expr_words (Fits k 5) closed_words (AreGiven k) ws ws n (λ vs. vs) (λ x. tree.MoreExprs x tree.NoExpr) (Mark (codes ")") ∷ []) (λ rest more. refl) refl (λ x q. (q, tt)) (λ x rest. refl) (b ws n e))
    (λ first e h. let fits = p ws first.1 first.0 e in refused (repeat (argument_turn read) first.1) _ n h
    (λ f. inside (all_words next_argument) (Each (Fits k 5)) closed_words (AreGiven k) ws first.1 n (expr_words first.0) (λ xs. tree.MoreExprs first.0 (exprs_of xs)) (Mark (codes ")") ∷ []) (expr_extends first.0) (s ws first.1 first.0 e)
    (λ xs q. (fits, shaped.arguments_list k xs q)) (λ xs rest. ap (expr_words first.0) (arguments_list xs (Mark (codes ")") ∷ rest)))
    (repeat_begins next_argument (Fits k 5) (argument_turn read) (next_argument_spells read s) (argument_shapes k read p) next_longer next_front (next_begins k read b) first.1 n f))
    (λ xs f h. refused (expect (codes ")") xs.1) _ n h
    (λ g. stopped closed_words (AreGiven k) ws xs.1 n (λ vs. expr_words first.0 (all_words next_argument xs.0 vs)) (tree.MoreExprs first.0 (exprs_of xs.0)) (Mark (codes ")") ∷ [])
    (λ rest more. ap (expr_words first.0) (all_extend next_argument next_front xs.0 rest more) ∙ expr_extends first.0 (all_words next_argument xs.0 rest) more)
    (s ws first.1 first.0 e ∙ ap (expr_words first.0) (repeat_spells next_argument (argument_turn read) (next_argument_spells read s) first.1 xs.1 xs.0 f))
    (expect_left _ xs.1 n g) (fits, shaped.arguments_list k xs.0 (shaped.repeat_shapes (Fits k 5) (argument_turn read) (argument_shapes k read p) first.1 xs.1 xs.0 f))
    (λ rest. ap (expr_words first.0) (arguments_list xs.0 (Mark (codes ")") ∷ rest))))
    (λ vs g i. something n _ i))))

-- one level further in: the word before opens a level too many, or the words after it begin such a thing
abbrev pub DeepBegins : (X : Type 0) → (X → List Word → List Word) → (X → Type 0) → Reading X → Type 0
DeepBegins X words P read = (ws : List Word) (n : ℕ) → read ws ≡ Err n → (suc (length ws) ≡ n) ⊎ Begun words P ws n

-- the words before the word that opens the level are complete by themselves, or with these words
pub opened : {X Y : Type 0} (words : X → List Word → List Word) (P : X → Type 0) (whole : Y → List Word → List Word) (Q : Y → Type 0) (ws vs : List Word) (n : ℕ) (front : List Word → List Word) (opening : Word) (make : X → Y) (end : List Word) (y : Y) (short : List Word) →
    Front front → ws ≡ front (opening ∷ vs) → ((x : X) → P x → Q (make x)) → ((x : X) (rest : List Word) → whole (make x) rest ≡ front (opening ∷ words x (end ++ rest))) →
    Q y → ((rest : List Word) → whole y rest ≡ front (short ++ rest)) → (suc (length vs) ≡ n) ⊎ Begun words P vs n → Begun whole Q ws n
opened words P whole Q ws vs n front opening make end y short f e p w q v (inl l) = stopped whole Q ws (opening ∷ vs) n front y short f e l q v
opened words P whole Q ws vs n front opening make end y short f e p w q v (inr b) = inside words P whole Q ws vs n (λ us. front (opening ∷ us)) make end (λ rest more. f (opening ∷ rest) more) e p w b

abbrev pub zero_words : List Word
zero_words = Number (Some 0) ∷ []

named_begins : (k : ℕ) (read : Reading tree.Expr) (arguments : Reading tree.Exprs) → Spells tree.Expr expr_words read → Shapes tree.Expr (Inner k 5) read → DeepBegins tree.Expr expr_words (Inner k 5) read → DeepBegins tree.Exprs closed_words (InnerArguments k) arguments →
    (x : List ℕ) (ws : List Word) (n : ℕ) → named_with read arguments x ws ≡ Err n → Begun expr_words (Fits k 0) (Name x ∷ ws) n
unfolding named_with
named_begins k read arguments s p b c x ws n h = one_way (expect _ ws) _ _ _ h
    (λ vs e h. let is : Name x ∷ ws ≡ Name x ∷ Mark (codes "[") ∷ vs = ap (λ (us : List Word). Name x ∷ us) (expect_spells _ ws vs e) in refused (read vs) _ n h
    (λ f. opened expr_words (Inner k 5) expr_words (Fits k 0) (Name x ∷ ws) vs n (λ us. Name x ∷ us) (Mark (codes "[")) (λ i. tree.Element x i) (Mark (codes "]") ∷ []) (tree.Name x) [] (λ rest more. refl) is (λ i q. q) (λ i rest. refl) tt (λ rest. refl) (b vs n f))
    (λ i f h. refused (expect (codes "]") i.1) _ n h
    (λ g. stopped expr_words (Fits k 0) (Name x ∷ ws) i.1 n (λ us. Name x ∷ Mark (codes "[") ∷ expr_words i.0 us) (tree.Element x i.0) (Mark (codes "]") ∷ [])
    (λ rest more. ap (λ (us : List Word). Name x ∷ Mark (codes "[") ∷ us) (expr_extends i.0 rest more)) (is ∙ ap (λ (us : List Word). Name x ∷ Mark (codes "[") ∷ us) (s vs i.1 i.0 f)) (expect_left _ i.1 n g) (p vs i.1 i.0 f) (λ rest. refl))
    (λ us g i. something n _ i)))
    (λ h. one_way (expect _ ws) _ _ _ h
    (λ vs e h. refused (arguments vs) _ n h
    (λ f. opened closed_words (InnerArguments k) expr_words (Fits k 0) (Name x ∷ ws) vs n (λ us. Name x ∷ us) (Mark (codes "(")) (λ es. tree.Apply x es) [] (tree.Name x) [] (λ rest more. refl)
    (ap (λ (us : List Word). Name x ∷ us) (expect_spells _ ws vs e)) (λ es q. q) (λ es rest. refl) tt (λ rest. refl) (c vs n f))
    (λ es f g. something n _ g))
    (λ g. something n _ g))

unary_begins : (k : ℕ) (deeper read : Reading tree.Expr) (arguments : Reading tree.Exprs) → Spells tree.Expr expr_words read → Shapes tree.Expr (Inner k 5) read →
    DeepBegins tree.Expr expr_words (Inner k 0) deeper → DeepBegins tree.Expr expr_words (Inner k 5) read → DeepBegins tree.Exprs closed_words (InnerArguments k) arguments → Begins tree.Expr expr_words (Fits k 0) (unary_with deeper read arguments)
unfolding unary_with
unary_begins k deeper read arguments s p d b c ws n h = one_way (expect _ ws) _ _ _ h
    (λ vs e h. refused (deeper vs) _ n h
    (λ f. opened expr_words (Inner k 0) expr_words (Fits k 0) ws vs n (λ us. us) (Mark (codes "-")) (λ x. tree.Unary unary.Negate x) [] (tree.Number (Some 0)) zero_words (λ rest more. refl) (expect_spells _ ws vs e) (λ x q. q) (λ x rest. refl) tt (λ rest. refl) (d vs n f))
    (λ x f g. something n _ g))
    (λ h. one_way (expect _ ws) _ _ _ h
    (λ vs e h. refused (deeper vs) _ n h
    (λ f. opened expr_words (Inner k 0) expr_words (Fits k 0) ws vs n (λ us. us) (Mark (codes "not")) (λ x. tree.Unary unary.Not x) [] (tree.Number (Some 0)) zero_words (λ rest more. refl) (expect_spells _ ws vs e) (λ x q. q) (λ x rest. refl) tt (λ rest. refl) (d vs n f))
    (λ x f g. something n _ g))
    (λ h. one_way (number_at ws) _ _ _ h
    (λ x e g. something n _ g)
    (λ h. one_way (name_at ws) _ _ _ h
    (λ x e h. let b : Begun expr_words (Fits k 0) (Name x.0 ∷ x.1) n = named_begins k read arguments s p b c x.0 x.1 n h in subst (λ us. Begun expr_words (Fits k 0) us n) (sym (name_spells ws x.1 x.0 e)) b)
    (λ h. refused (expect (codes "(") ws) _ n h
    (λ e. stopped expr_words (Fits k 0) ws ws n (λ us. us) (tree.Number (Some 0)) zero_words (λ rest more. refl) refl (expect_left _ ws n e) tt (λ rest. refl))
    (λ vs e h. refused (read vs) _ n h
    (λ f. opened expr_words (Inner k 5) expr_words (Fits k 0) ws vs n (λ us. us) (Mark (codes "(")) (λ x. tree.Parenthesis x) (Mark (codes ")") ∷ []) (tree.Number (Some 0)) zero_words (λ rest more. refl) (expect_spells _ ws vs e) (λ x q. q) (λ x rest. refl) tt (λ rest. refl) (b vs n f))
    (λ i f h. refused (expect (codes ")") i.1) _ n h
    (λ g. stopped expr_words (Fits k 0) ws i.1 n (λ us. Mark (codes "(") ∷ expr_words i.0 us) (tree.Parenthesis i.0) (Mark (codes ")") ∷ [])
    (λ rest more. ap (λ (us : List Word). Mark (codes "(") ∷ us) (expr_extends i.0 rest more)) (expect_spells _ ws vs e ∙ ap (λ (us : List Word). Mark (codes "(") ∷ us) (s vs i.1 i.0 f)) (expect_left _ i.1 n g) (p vs i.1 i.0 f) (λ rest. refl))
    (λ us g i. something n _ i)))))))

deep : {X : Type 0} (words : X → List Word → List Word) (P Q : X → Type 0) (read : Reading X) → ((x : X) → P x → Q x) → Begins X words P read → DeepBegins X words Q read
deep words P Q read q b ws n h = inr (fitting words P Q ws n q (b ws n h))

too_deep : {X : Type 0} (words : X → List Word → List Word) (P : X → Type 0) → DeepBegins X words P no_level
too_deep words P ws n h = inl (left_is (suc (length ws)) n h)

pub unary_at_begins : (k : ℕ) → Begins tree.Expr expr_words (Fits k 0) (unary_at k)
unfolding unary_at
unary_at_begins zero ws n h =
    unary_begins zero no_level no_level no_level (λ vs us x e. spelled.nothing (suc (length vs)) (x, us) e) (λ vs us x e. spelled.nothing (suc (length vs)) (x, us) e)
    (too_deep expr_words (Inner zero 0)) (too_deep expr_words (Inner zero 5)) (too_deep closed_words (InnerArguments zero)) ws n h
unary_at_begins (suc k) ws n h =
    let u = unary_at k in
    let b = whole_begins k u (unary_at_spells k) (unary_at_shapes k) (unary_at_begins k) in
    let p = whole_shapes k u (unary_at_shapes k) in
    unary_begins (suc k) u (ranked u Disjunction) (arguments_with (ranked u Disjunction)) (ranked_spells u Disjunction (unary_at_spells k)) (λ vs us x e. (more k, down k (λ m. IsExpr x m 5) (p vs us x e)))
    (deep expr_words (Fits k 0) (Inner (suc k) 0) u (λ x q. (more k, down k (λ m. IsExpr x m 0) q)) (unary_at_begins k))
    (deep expr_words (Fits k 5) (Inner (suc k) 5) (ranked u Disjunction) (λ x q. (more k, down k (λ m. IsExpr x m 5) q)) b)
    (deep closed_words (AreGiven k) (InnerArguments (suc k)) (arguments_with (ranked u Disjunction)) (λ es q. (more k, down k (λ m. AreArguments es m) q))
    (arguments_begin k (ranked u Disjunction) (ranked_spells u Disjunction (unary_at_spells k)) p b)) ws n h

pub expr_begins : (k : ℕ) → Begins tree.Expr expr_words (Fits k 5) (expr_at k)
unfolding expr_at
expr_begins k ws n h = whole_begins k (unary_at k) (unary_at_spells k) (unary_at_shapes k) (unary_at_begins k) ws n h

-- if a level is opened, one is left, or the word that opens it is refused
pub level : {B : Type 0} (k left n : ℕ) (t : Bool) (o : Answer B) → (t ≡ false → 1 ≤ k) → cond t (Err left) o ≡ Err n → (left ≡ n) ⊎ ((1 ≤ k) × (o ≡ Err n))
level k left n true o le h = inl (left_is left n h)
level k left n false o le h = inr (le refl, h)

nested_from : (k : ℕ) (ws : List Word) (n : ℕ) → (suc (length ws) ≡ n) ⊎ ((1 ≤ k) × (expr_at (k - 1) ws ≡ Err n)) → (suc (length ws) ≡ n) ⊎ Begun expr_words (Inner k 5) ws n
nested_from k ws n (inl l) = inl l
nested_from k ws n (inr h) = inr (fitting expr_words (Fits (k - 1) 5) (Inner k 5) ws n (λ x q. (h.0, q)) (expr_begins (k - 1) ws n h.1))

pub nested_begins : (k : ℕ) → DeepBegins tree.Expr expr_words (Inner k 5) (nested_at k)
unfolding nested_at
nested_begins k ws n h = nested_from k ws n (level k (suc (length ws)) n (nat_eq k 0) (expr_at (k - 1) ws) (positive k) h)

arguments_from : (k : ℕ) (ws : List Word) (n : ℕ) → (suc (length ws) ≡ n) ⊎ ((1 ≤ k) × (arguments_with (expr_at (k - 1)) ws ≡ Err n)) → (suc (length ws) ≡ n) ⊎ Begun closed_words (InnerArguments k) ws n
arguments_from k ws n (inl l) = inl l
arguments_from k ws n (inr h) = inr (fitting closed_words (AreGiven (k - 1)) (InnerArguments k) ws n (λ es q. (h.0, q)) (arguments_begin (k - 1) (expr_at (k - 1)) (expr_spells (k - 1)) (expr_shapes (k - 1)) (expr_begins (k - 1)) ws n h.1))

pub arguments_at_begins : (k : ℕ) → DeepBegins tree.Exprs closed_words (InnerArguments k) (arguments_at k)
unfolding arguments_at
arguments_at_begins k ws n h = arguments_from k ws n (level k (suc (length ws)) n (nat_eq k 0) (arguments_with (expr_at (k - 1)) ws) (positive k) h)
