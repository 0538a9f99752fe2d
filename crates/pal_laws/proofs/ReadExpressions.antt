-- A written expression is read, if it would not continue with the words that follow.
use Rattle.std.proofs.Common.{◌≡◌, ℕ, zero, suc, ◌-◌, ◌≤◌, inl, inr, true, false, cond, List, [], ◌∷◌, length, Option, Some, None, Ok, Err, refl, arith, subst, ap, ◌∙◌}
use Rattle.std.specs.Prelude.{codes, ◌==◌}
use Rattle.std.proofs.Math.Nat.{eq-or-lt_of_le}
use Rattle.std.proofs.Math.Dec.{eqb-suc-zero}
use Rattle.apex_types.specs.declared.instruction.BinaryOperator.{BinaryOperator}
use Rattle.apex_types.specs.declared.instruction.UnaryOperator.{UnaryOperator}
use Rattle.apex_types.specs.declared.instruction.UnaryOperator.TheVariants as unary
use Rattle.pal_meaning.specs.Grammar.{Word, Name, Number, Mark}
use Rattle.pal_laws.specs.GrammarReading.{Answer, Reading, Turn, no_level, ◌>>=◌, each, expect, name_at, number_at, repeat, operator_at, links_of, chain_of, exprs_of, link_at, links_at, chain_with, products_with, sums_with, comparisons_with, conjunctions_with, operand_with, ranked, arguments_with, named_with, unary_with, unary_at, expr_at, deeper_at, nested_at, arguments_at, unary_read}
use Rattle.pal_meaning.specs.Grammar.{Rank, Disjunction, Conjunction, Comparison, Sum, Product, operator_mark}
use Rattle.pal_meaning.specs.Grammar.{sign_of, expr_words, links_words, arguments_words, rank_of, looseness, HasLink, IsFew, IsExpr, AreLinks, AreArguments}
use Rattle.pal_meaning.specs.Syntax as tree
use Rattle.pal_laws.proofs.Repeats.{repeat_ends}
use Rattle.pal_laws.proofs.Levels.{unary_is}
use Rattle.pal_laws.proofs.Longer.{expr_longer}
use Rattle.pal_laws.proofs.ReadSteps.{then_reads, other_way, repeat_reads_on}
use Rattle.pal_laws.proofs.Followed.{Ends, parenthesis_ends, bracket_ends, comma_ends, operator_found, ends_tighter, links_end}

-- operands of each looseness with their operators, where operands that are no chains are read so
abbrev rank_at : ℕ → Rank
rank_at zero = Product
rank_at (suc zero) = Sum
rank_at (suc (suc zero)) = Comparison
rank_at (suc (suc (suc zero))) = Conjunction
rank_at (suc (suc (suc (suc n)))) = Disjunction

unfoldable pub loose_with : Reading tree.Expr → ℕ → Reading tree.Expr
loose_with u zero ws = u ws
loose_with u (suc n) ws = chain_with (loose_with u n) (rank_at n) ws

rank_low : (n : ℕ) → looseness (rank_at n) ≤ suc n
rank_low zero = omega arith
rank_low (suc zero) = omega arith
rank_low (suc (suc zero)) = omega arith
rank_low (suc (suc (suc zero))) = omega arith
rank_low (suc (suc (suc (suc n)))) = omega arith

loose_is : (u : Reading tree.Expr) (rank : Rank) (ws : List Word) → loose_with u (looseness rank) ws ≡ chain_with (loose_with u (looseness rank - 1)) rank ws
unfolding loose_with
loose_is u Disjunction ws = refl
loose_is u Conjunction ws = refl
loose_is u Comparison ws = refl
loose_is u Sum ws = refl
loose_is u Product ws = refl

ranked_is : (u : Reading tree.Expr) (ws : List Word) → ranked u Disjunction ws ≡ loose_with u 5 ws
unfolding ranked operand_with conjunctions_with comparisons_with sums_with products_with loose_with
ranked_is u ws = refl

-- a chain
chain_reads : (operand : Reading tree.Expr) (rank : Rank) (ws vs us : List Word) (first : tree.Expr) (ls : tree.Links) → operand ws ≡ Ok (first, vs) → links_at operand rank vs ≡ Ok (ls, us) → chain_with operand rank ws ≡ Ok (chain_of first ls, us)
unfolding chain_with
chain_reads operand rank ws vs us first ls e f = then_reads (operand ws) _ (first, vs) _ e (then_reads (links_at operand rank vs) _ (ls, us) _ f refl)

no_link : (operand : Reading tree.Expr) (rank : Rank) (rest : List Word) → operator_at rank rest ≡ Err (length rest) → link_at operand rank rest ≡ Ok None
unfolding link_at
no_link operand rank rest e = ap (λ o. each o (λ op. operand op.1 >>= λ e. Ok ((op.0, e.0), e.1))) e

no_links : (operand : Reading tree.Expr) (rank : Rank) (rest : List Word) → operator_at rank rest ≡ Err (length rest) → links_at operand rank rest ≡ Ok (tree.NoLink, rest)
unfolding links_at
no_links operand Disjunction rest e = then_reads (repeat (link_at operand Disjunction) rest) _ _ _ (repeat_ends (link_at operand Disjunction) rest (no_link operand Disjunction rest e)) refl
no_links operand Conjunction rest e = then_reads (repeat (link_at operand Conjunction) rest) _ _ _ (repeat_ends (link_at operand Conjunction) rest (no_link operand Conjunction rest e)) refl
no_links operand Comparison rest e = then_reads (link_at operand Comparison rest) _ _ _ (no_link operand Comparison rest e) refl
no_links operand Sum rest e = then_reads (repeat (link_at operand Sum) rest) _ _ _ (repeat_ends (link_at operand Sum) rest (no_link operand Sum rest e)) refl
no_links operand Product rest e = then_reads (repeat (link_at operand Product) rest) _ _ _ (repeat_ends (link_at operand Product) rest (no_link operand Product rest e)) refl

-- an operand that is read is also read where looser operators may appear, if none does
raised : (u : Reading tree.Expr) (n : ℕ) (e : tree.Expr) (ws rest : List Word) → Ends (suc n) rest → loose_with u n ws ≡ Ok (e, rest) → loose_with u (suc n) ws ≡ Ok (e, rest)
unfolding loose_with
raised u n e ws rest ends h = chain_reads (loose_with u n) (rank_at n) ws rest rest e tree.NoLink h (no_links (loose_with u n) (rank_at n) rest (ends.no_operator (rank_at n) (rank_low n)))

lifted : (n : ℕ) (u : Reading tree.Expr) (m : ℕ) (e : tree.Expr) (ws rest : List Word) → m ≤ n → Ends n rest → loose_with u m ws ≡ Ok (e, rest) → loose_with u n ws ≡ Ok (e, rest)
lifted zero u m e ws rest le ends h = let same : m ≡ zero = omega arith in subst (λ i. loose_with u i ws ≡ Ok (e, rest)) same h
lifted (suc n) u m e ws rest le ends h = elim (eq-or-lt_of_le le) [ inl same ↦ subst (λ i. loose_with u i ws ≡ Ok (e, rest)) same h | inr less ↦ raised u n e ws rest ends (lifted n u m e ws rest (omega arith) (ends_tighter n (suc n) rest (omega arith) ends) h) ]

alone : (u : Reading tree.Expr) (n : ℕ) (e : tree.Expr) (ws rest : List Word) → Ends n rest → u ws ≡ Ok (e, rest) → loose_with u n ws ≡ Ok (e, rest)
unfolding loose_with
alone u n e ws rest ends h = lifted n u 0 e ws rest (omega arith) ends h

-- operators with their operands, where each operand is read
abbrev OperandsRead : tree.Links → Reading tree.Expr → List Word → Type 0
OperandsRead tree.NoLink operand rest = Unit {0}
OperandsRead (tree.MoreLinks op e ls) operand rest = (operand (expr_words e (links_words ls rest)) ≡ Ok (e, links_words ls rest)) × OperandsRead ls operand rest

abbrev links_list : tree.Links → List (BinaryOperator × tree.Expr)
links_list tree.NoLink = []
links_list (tree.MoreLinks op e ls) = (op, e) ∷ links_list ls

links_back : (ls : tree.Links) → links_of (links_list ls) ≡ ls
links_back tree.NoLink = refl
links_back (tree.MoreLinks op e ls) = ap (λ r. tree.MoreLinks op e r) (links_back ls)

link_reads : (operand : Reading tree.Expr) (rank : Rank) (op : BinaryOperator) (e : tree.Expr) (ws vs : List Word) → rank_of op ≡ rank → operand ws ≡ Ok (e, vs) → link_at operand rank (Mark (operator_mark op) ∷ ws) ≡ Ok (Some ((op, e), vs))
unfolding link_at
link_reads operand rank op e ws vs same h =
    ap (λ o. each o (λ op. operand op.1 >>= λ e. Ok ((op.0, e.0), e.1))) (operator_found op rank ws same)
    ∙ ap (λ o. (o >>= λ x. Ok ((op, x.0), x.1)) >>= λ x. Ok (Some x)) h

all_links : (ls : tree.Links) (operand : Reading tree.Expr) (k : ℕ) (rank : Rank) (rest : List Word) → AreLinks ls k rank → OperandsRead ls operand rest → operator_at rank rest ≡ Err (length rest) → repeat (link_at operand rank) (links_words ls rest) ≡ Ok (links_list ls, rest)
all_links tree.NoLink operand k rank rest are reads none = repeat_ends (link_at operand rank) rest (no_link operand rank rest none)
all_links (tree.MoreLinks op e ls) operand k rank rest are reads none =
    let vs = links_words ls rest in
    repeat_reads_on (link_at operand rank) (Mark (operator_mark op) ∷ expr_words e vs) vs rest (op, e) (links_list ls)
    (link_reads operand rank op e (expr_words e vs) vs are.0 reads.0) (omega (arith, expr_longer e vs)) (all_links ls operand k rank rest are.2 reads.1 none)

abbrev as_links : List (BinaryOperator × tree.Expr) × List Word → Answer (tree.Links × List Word)
as_links xs = Ok (links_of xs.0, xs.1)

links_of_all : (ls : tree.Links) (rest : List Word) (o : Answer (List (BinaryOperator × tree.Expr) × List Word)) → o ≡ Ok (links_list ls, rest) → (o >>= as_links) ≡ Ok (ls, rest)
links_of_all ls rest o h = then_reads o as_links _ _ h (ap (λ r. Ok (r, rest)) (links_back ls))

links_read : (ls : tree.Links) (operand : Reading tree.Expr) (k : ℕ) (rank : Rank) (rest : List Word) → AreLinks ls k rank → IsFew rank ls → OperandsRead ls operand rest → operator_at rank rest ≡ Err (length rest) → links_at operand rank (links_words ls rest) ≡ Ok (ls, rest)
unfolding links_at
links_read ls operand k Disjunction rest are few reads none = links_of_all ls rest _ (all_links ls operand k Disjunction rest are reads none)
links_read ls operand k Conjunction rest are few reads none = links_of_all ls rest _ (all_links ls operand k Conjunction rest are reads none)
links_read ls operand k Sum rest are few reads none = links_of_all ls rest _ (all_links ls operand k Sum rest are reads none)
links_read ls operand k Product rest are few reads none = links_of_all ls rest _ (all_links ls operand k Product rest are reads none)
links_read tree.NoLink operand k Comparison rest are few reads none = then_reads (link_at operand Comparison rest) _ _ _ (no_link operand Comparison rest none) refl
links_read (tree.MoreLinks op e tree.NoLink) operand k Comparison rest are few reads none = then_reads (link_at operand Comparison (Mark (operator_mark op) ∷ expr_words e rest)) _ _ _ (link_reads operand Comparison op e (expr_words e rest) rest are.0 reads.0) refl
links_read (tree.MoreLinks op e (tree.MoreLinks second third ls)) operand k Comparison rest are few reads none = absurd few

chain_has : (first : tree.Expr) (ls : tree.Links) → HasLink ls → chain_of first ls ≡ tree.Chain first ls
chain_has first tree.NoLink has = absurd has
chain_has first (tree.MoreLinks op e ls) has = refl

-- operands that are no chains
abbrev ArgumentsRead : tree.Exprs → Reading tree.Expr → List Word → Type 0
ArgumentsRead tree.NoExpr inside rest = Unit {0}
ArgumentsRead (tree.MoreExprs e es) inside rest = (inside (expr_words e (arguments_words es false rest)) ≡ Ok (e, arguments_words es false rest)) × ArgumentsRead es inside rest

abbrev exprs_list : tree.Exprs → List tree.Expr
exprs_list tree.NoExpr = []
exprs_list (tree.MoreExprs e es) = e ∷ exprs_list es

exprs_back : (es : tree.Exprs) → exprs_of (exprs_list es) ≡ es
exprs_back tree.NoExpr = refl
exprs_back (tree.MoreExprs e es) = ap (λ r. tree.MoreExprs e r) (exprs_back es)

no_parenthesis : (e : tree.Expr) (rest : List Word) → expect (codes ")") (expr_words e rest) ≡ Err (length (expr_words e rest))
unfolding expect
no_parenthesis (tree.Number value) rest = refl
no_parenthesis (tree.Name x) rest = refl
no_parenthesis (tree.Element x i) rest = refl
no_parenthesis (tree.Apply x es) rest = refl
no_parenthesis (tree.Parenthesis e) rest = refl
no_parenthesis (tree.Unary unary.Negate e) rest = refl
no_parenthesis (tree.Unary unary.Not e) rest = refl
no_parenthesis (tree.Chain e ls) rest = no_parenthesis e (links_words ls rest)

abbrev argument_turn : Reading tree.Expr → Turn tree.Expr
argument_turn inside ws = each (expect (codes ",") ws) inside

argument_turn_reads : (inside : Reading tree.Expr) (e : tree.Expr) (ws vs : List Word) → inside ws ≡ Ok (e, vs) → argument_turn inside (Mark (codes ",") ∷ ws) ≡ Ok (Some (e, vs))
unfolding expect
argument_turn_reads inside e ws vs h = ap (λ o. o >>= λ x. Ok (Some x)) h

argument_turn_ends : (inside : Reading tree.Expr) (rest : List Word) → argument_turn inside (Mark (codes ")") ∷ rest) ≡ Ok None
unfolding expect
argument_turn_ends inside rest = refl

more_arguments : (es : tree.Exprs) (inside : Reading tree.Expr) (rest : List Word) → ArgumentsRead es inside (Mark (codes ")") ∷ rest) → repeat (argument_turn inside) (arguments_words es false (Mark (codes ")") ∷ rest)) ≡ Ok (exprs_list es, Mark (codes ")") ∷ rest)
more_arguments tree.NoExpr inside rest reads = repeat_ends (argument_turn inside) (Mark (codes ")") ∷ rest) (argument_turn_ends inside rest)
more_arguments (tree.MoreExprs e es) inside rest reads =
    let vs = arguments_words es false (Mark (codes ")") ∷ rest) in
    repeat_reads_on (argument_turn inside) (Mark (codes ",") ∷ expr_words e vs) vs (Mark (codes ")") ∷ rest) e (exprs_list es)
    (argument_turn_reads inside e (expr_words e vs) vs reads.0) (omega (arith, expr_longer e vs)) (more_arguments es inside rest reads.1)

pub arguments_with_read : (es : tree.Exprs) (inside : Reading tree.Expr) (rest : List Word) → ArgumentsRead es inside (Mark (codes ")") ∷ rest) → arguments_with inside (arguments_words es true (Mark (codes ")") ∷ rest)) ≡ Ok (es, rest)
unfolding arguments_with expect
arguments_with_read tree.NoExpr inside rest reads = refl
arguments_with_read (tree.MoreExprs e es) inside rest reads =
    let vs = arguments_words es false (Mark (codes ")") ∷ rest) in
    other_way (expect (codes ")") (expr_words e vs)) _ _ _ _ (no_parenthesis e vs)
    (then_reads (inside (expr_words e vs)) _ _ _ reads.0
    (then_reads (repeat (argument_turn inside) vs) _ _ _ (more_arguments es inside rest reads.1)
    (ap (λ r. Ok (tree.MoreExprs e r, rest)) (exprs_back es))))

-- one level further in
pub not_none : (k : ℕ) → 1 ≤ k → (k == 0) ≡ false
not_none zero h = absurd (omega arith)
not_none (suc k) h = eqb-suc-zero k

deeper_reads : (k : ℕ) (e : tree.Expr) (ws vs : List Word) → 1 ≤ k → loose_with (unary_at (k - 1)) 0 ws ≡ Ok (e, vs) → deeper_at k ws ≡ Ok (e, vs)
unfolding deeper_at loose_with
deeper_reads k e ws vs le h = ap (λ b. cond b (no_level ws) (unary_at (k - 1) ws)) (not_none k le) ∙ h

pub expr_at_is : (k : ℕ) (ws : List Word) → expr_at k ws ≡ loose_with (unary_at k) 5 ws
unfolding expr_at
expr_at_is k ws = ranked_is (unary_at k) ws

pub nested_reads : (k : ℕ) (e : tree.Expr) (ws vs : List Word) → 1 ≤ k → loose_with (unary_at (k - 1)) 5 ws ≡ Ok (e, vs) → nested_at k ws ≡ Ok (e, vs)
unfolding nested_at
nested_reads k e ws vs le h = ap (λ b. cond b (no_level ws) (expr_at (k - 1) ws)) (not_none k le) ∙ expr_at_is (k - 1) ws ∙ h

same_arguments : (es : tree.Exprs) (f g : Reading tree.Expr) (rest : List Word) → ((ws : List Word) → f ws ≡ g ws) → ArgumentsRead es g rest → ArgumentsRead es f rest
same_arguments tree.NoExpr f g rest same reads = tt
same_arguments (tree.MoreExprs e es) f g rest same reads = (same (expr_words e (arguments_words es false rest)) ∙ reads.0, same_arguments es f g rest same reads.1)

pub arguments_at_read : (k : ℕ) (es : tree.Exprs) (rest : List Word) → 1 ≤ k → ArgumentsRead es (loose_with (unary_at (k - 1)) 5) (Mark (codes ")") ∷ rest) → arguments_at k (arguments_words es true (Mark (codes ")") ∷ rest)) ≡ Ok (es, rest)
unfolding arguments_at
arguments_at_read k es rest le reads =
    let ws = arguments_words es true (Mark (codes ")") ∷ rest) in
    ap (λ b. cond b (no_level ws) (arguments_with (expr_at (k - 1)) ws)) (not_none k le)
    ∙ arguments_with_read es (expr_at (k - 1)) rest (same_arguments es (expr_at (k - 1)) (loose_with (unary_at (k - 1)) 5) (Mark (codes ")") ∷ rest) (expr_at_is (k - 1)) reads)

module _ (deeper inside : Reading tree.Expr) (arguments : Reading tree.Exprs) where
  number_with : (n : Option ℕ) (rest : List Word) → unary_with deeper inside arguments (Number n ∷ rest) ≡ Ok (tree.Number n, rest)
  unfolding unary_with expect number_at
  number_with n rest = refl

  name_with : (x : List ℕ) (rest : List Word) → expect (codes "[") rest ≡ Err (length rest) → expect (codes "(") rest ≡ Err (length rest) → unary_with deeper inside arguments (Name x ∷ rest) ≡ Ok (tree.Name x, rest)
  unfolding unary_with named_with expect number_at name_at
  name_with x rest e f = other_way (expect (codes "[") rest) _ _ _ _ e (other_way (expect (codes "(") rest) _ _ _ _ f refl)

  element_with : (x : List ℕ) (i : tree.Expr) (ws rest : List Word) → inside ws ≡ Ok (i, Mark (codes "]") ∷ rest) → unary_with deeper inside arguments (Name x ∷ Mark (codes "[") ∷ ws) ≡ Ok (tree.Element x i, rest)
  unfolding unary_with named_with expect number_at name_at
  element_with x i ws rest h = then_reads (inside ws) _ _ _ h refl

  apply_with : (x : List ℕ) (es : tree.Exprs) (ws rest : List Word) → arguments ws ≡ Ok (es, rest) → unary_with deeper inside arguments (Name x ∷ Mark (codes "(") ∷ ws) ≡ Ok (tree.Apply x es, rest)
  unfolding unary_with named_with expect number_at name_at
  apply_with x es ws rest h = then_reads (arguments ws) _ _ _ h refl

  parenthesis_with : (e : tree.Expr) (ws rest : List Word) → inside ws ≡ Ok (e, Mark (codes ")") ∷ rest) → unary_with deeper inside arguments (Mark (codes "(") ∷ ws) ≡ Ok (tree.Parenthesis e, rest)
  unfolding unary_with expect number_at name_at
  parenthesis_with e ws rest h = then_reads (inside ws) _ _ _ h refl

  sign_with : (op : UnaryOperator) (e : tree.Expr) (ws rest : List Word) → deeper ws ≡ Ok (e, rest) → unary_with deeper inside arguments (Mark (sign_of op) ∷ ws) ≡ Ok (tree.Unary op e, rest)
  unfolding unary_with expect
  sign_with unary.Negate e ws rest h = then_reads (deeper ws) _ _ _ h refl
  sign_with unary.Not e ws rest h = then_reads (deeper ws) _ _ _ h refl

-- an operand without operators is read where `k` levels may be opened
reads_alone : (k n : ℕ) (e : tree.Expr) (ws rest : List Word) → Ends n rest → unary_with (deeper_at k) (nested_at k) (arguments_at k) ws ≡ Ok (e, rest) → loose_with (unary_at k) n ws ≡ Ok (e, rest)
unfolding unary_read
reads_alone k n e ws rest ends h = alone (unary_at k) n e ws rest ends (unary_is k ws ∙ h)

arguments_end : (es : tree.Exprs) (n : ℕ) (rest : List Word) → Ends n (arguments_words es false (Mark (codes ")") ∷ rest))
arguments_end tree.NoExpr n rest = parenthesis_ends n rest
arguments_end (tree.MoreExprs e es) n rest = comma_ends n (expr_words e (arguments_words es false (Mark (codes ")") ∷ rest)))

mutual
  pub expr_reads : (e : tree.Expr) (k n : ℕ) (rest : List Word) → IsExpr e k n → Ends n rest → loose_with (unary_at k) n (expr_words e rest) ≡ Ok (e, rest)
  expr_reads (tree.Number value) k n rest is ends = reads_alone k n (tree.Number value) (Number value ∷ rest) rest ends (number_with (deeper_at k) (nested_at k) (arguments_at k) value rest)
  expr_reads (tree.Name x) k n rest is ends = reads_alone k n (tree.Name x) (Name x ∷ rest) rest ends (name_with (deeper_at k) (nested_at k) (arguments_at k) x rest ends.no_index ends.no_arguments)
  expr_reads (tree.Element x i) k n rest is ends =
      let ws = expr_words i (Mark (codes "]") ∷ rest) in
      reads_alone k n (tree.Element x i) (Name x ∷ Mark (codes "[") ∷ ws) rest ends (element_with (deeper_at k) (nested_at k) (arguments_at k) x i ws rest
      (nested_reads k i ws (Mark (codes "]") ∷ rest) is.0 (expr_reads i (k - 1) 5 (Mark (codes "]") ∷ rest) is.1 (bracket_ends 5 rest))))
  expr_reads (tree.Apply x es) k n rest is ends =
      let ws = arguments_words es true (Mark (codes ")") ∷ rest) in
      reads_alone k n (tree.Apply x es) (Name x ∷ Mark (codes "(") ∷ ws) rest ends (apply_with (deeper_at k) (nested_at k) (arguments_at k) x es ws rest
      (arguments_at_read k es rest is.0 (arguments_read es (k - 1) rest is.1)))
  expr_reads (tree.Parenthesis e) k n rest is ends =
      let ws = expr_words e (Mark (codes ")") ∷ rest) in
      reads_alone k n (tree.Parenthesis e) (Mark (codes "(") ∷ ws) rest ends (parenthesis_with (deeper_at k) (nested_at k) (arguments_at k) e ws rest
      (nested_reads k e ws (Mark (codes ")") ∷ rest) is.0 (expr_reads e (k - 1) 5 (Mark (codes ")") ∷ rest) is.1 (parenthesis_ends 5 rest))))
  expr_reads (tree.Unary op e) k n rest is ends =
      let ws = expr_words e rest in
      reads_alone k n (tree.Unary op e) (Mark (sign_of op) ∷ ws) rest ends (sign_with (deeper_at k) (nested_at k) (arguments_at k) op e ws rest
      (deeper_reads k e ws rest is.0 (expr_reads e (k - 1) 0 rest is.1 (ends_tighter 0 n rest (omega arith) ends))))
  expr_reads (tree.Chain e ls) k n rest is ends =
      let rank = is.0 in
      let u = unary_at k in
      let vs = links_words ls rest in
      let here = ends_tighter (looseness rank) n rest is.1 ends in
      let first = expr_reads e k (looseness rank - 1) vs is.2 (links_end ls k rank rest is.3 here) in
      let none = ends.no_operator rank is.1 in
      let links = links_read ls (loose_with u (looseness rank - 1)) k rank rest is.3 is.5 (operands_read ls k rank rest is.3 here) none in
      lifted n u (looseness rank) (tree.Chain e ls) (expr_words e vs) rest is.1 ends
      (loose_is u rank (expr_words e vs) ∙ chain_reads (loose_with u (looseness rank - 1)) rank (expr_words e vs) vs rest e ls first links ∙ ap (λ r. Ok (r, rest)) (chain_has e ls is.4))

  operands_read : (ls : tree.Links) (k : ℕ) (rank : Rank) (rest : List Word) → AreLinks ls k rank → Ends (looseness rank) rest → OperandsRead ls (loose_with (unary_at k) (looseness rank - 1)) rest
  operands_read tree.NoLink k rank rest are ends = tt
  operands_read (tree.MoreLinks op e ls) k rank rest are ends =
      (expr_reads e k (looseness rank - 1) (links_words ls rest) are.1 (links_end ls k rank rest are.2 ends), operands_read ls k rank rest are.2 ends)

  pub arguments_read : (es : tree.Exprs) (k : ℕ) (rest : List Word) → AreArguments es k → ArgumentsRead es (loose_with (unary_at k) 5) (Mark (codes ")") ∷ rest)
  arguments_read tree.NoExpr k rest are = tt
  arguments_read (tree.MoreExprs e es) k rest are =
      (expr_reads e k 5 (arguments_words es false (Mark (codes ")") ∷ rest)) are.0 (arguments_end es 5 rest), arguments_read es k rest are.1)
