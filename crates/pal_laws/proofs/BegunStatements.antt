-- If the words of a statement or of a block are refused, those before that place begin one.
use Rattle.std.proofs.Common.{◌≡◌, ℕ, zero, suc, ◌≤◌, nat_eq, inl, inr, List, [], ◌∷◌, length, Some, Ok, Err, refl, sym, ap, ◌∙◌, subst, arith}
use Rattle.std.specs.Prelude.{codes, ◌⊎◌}
use Rattle.apex_types.specs.declared.service.Service.{Service}
use Rattle.pal_meaning.specs.Grammar.{Word, Name, Number, ServiceWord, Mark}
use Rattle.pal_meaning.specs.Grammar.{all_words, next_name, targets_words, expr_words, stmt_words, IsBlock, Each}
use Rattle.pal_meaning.specs.Syntax as tree
use Rattle.pal_laws.specs.GrammarReading.{Reading, ◌>>=◌, either, expect, name_at, number_at, service_at, repeat, block_of, expr_at, nested_at, arguments_at, names_at, targets_at, service_call_at, assignment_at, work_at, return_at, branch_with, while_with, stmt_with, statements_with, block_at, stmt_at, statements_at}
use Rattle.pal_laws.proofs.Extended.{all_extend, next_name_extends, targets_extend, expr_extends, closed_extends, stmt_extends, braced_extends}
use Rattle.pal_laws.proofs.Longer.{next_name_longer, stmt_longer}
use Rattle.pal_laws.proofs.ReadSteps.{Any}
use Rattle.pal_laws.proofs.Spelled.{one_way, Spells, expect_spells, name_spells, number_spells, service_spells, name_turn, next_name_spells, targets_spell, closed_words, opened_words, braced_words, repeat_spells, expr_spells, nested_spells, arguments_at_spell, stmt_turn, stmt_turn_spells, stmt_spells, block_list, block_spells}
use Rattle.pal_laws.proofs.Shaped as shaped
use Rattle.pal_laws.proofs.Shaped.{Shapes, Fits, Inner, InnerArguments, Stands, Holds, InnerBlock, down, more, positive, expr_shapes, nested_shapes, arguments_at_shape, stmt_turn_shapes, stmt_shapes, block_shapes, repeat_shapes}
use Rattle.pal_laws.proofs.Begun.{Begun, Begins, TurnBegins, Front, stopped, inside, something, refused, each_refused, until_refused, expect_left, name_left, number_left, repeat_begins}
use Rattle.pal_laws.proofs.BegunExpressions.{expr_begins, nested_begins, arguments_at_begins, opened, level}

-- one or more names
abbrev pub some_names : List ℕ × List (List ℕ) → List Word → List Word
some_names xs rest = Name xs.0 ∷ all_words next_name xs.1 rest

abbrev pub a_name : List ℕ
a_name = codes "a"

next_name_begins : TurnBegins (List ℕ) next_name Any name_turn
next_name_begins ws n h = each_refused (expect (codes ",") ws) name_at n h (λ vs e f.
    stopped next_name Any ws vs n (λ us. Mark (codes ",") ∷ us) a_name (Name a_name ∷ []) (λ rest more. refl) (expect_spells _ ws vs e) (name_left vs n f) tt (λ rest. refl))

pub names_begin : (ws : List Word) (n : ℕ) → names_at ws ≡ Err n → Begun some_names (λ xs. Unit {0}) ws n
unfolding names_at
names_begin ws n h = refused (name_at ws) _ n h
    (λ e. stopped some_names (λ xs. Unit {0}) ws ws n (λ us. us) (a_name, []) (Name a_name ∷ []) (λ rest more. refl) refl (name_left ws n e) tt (λ rest. refl))
    (λ first e h. refused (repeat name_turn first.1) _ n h
    (λ f. inside (all_words next_name) (Each Any) some_names (λ xs. Unit {0}) ws first.1 n (λ vs. Name first.0 ∷ vs) (λ xs. (first.0, xs)) [] (λ rest more. refl) (name_spells ws first.1 first.0 e) (λ xs p. tt) (λ xs rest. refl)
    (repeat_begins next_name Any name_turn next_name_spells (λ vs us x g. tt) next_name_longer next_name_extends next_name_begins first.1 n f))
    (λ xs f g. something n _ g))

targets_begin : (ws : List Word) (n : ℕ) → targets_at ws ≡ Err n → Begun targets_words (λ xs. Unit {0}) ws n
unfolding targets_at
targets_begin ws n h = one_way (expect _ ws) _ _ _ h
    (λ vs e h. inside some_names (λ xs. Unit {0}) targets_words (λ xs. Unit {0}) ws vs n (λ us. Mark (codes "->") ∷ us) (λ xs. xs.0 ∷ xs.1) [] (λ rest more. refl) (expect_spells _ ws vs e) (λ xs p. tt) (λ xs rest. refl) (names_begin vs n h))
    (λ g. something n _ g)

-- statements
abbrev zero_number : tree.Expr
zero_number = tree.Number (Some 0)

abbrev pub end_words : List Word
end_words = Mark (codes ";") ∷ []

abbrev value_words : List Word
value_words = Mark (codes ":=") ∷ Number (Some 0) ∷ end_words

abbrev work_words : List Word
work_words = Mark (codes "work") ∷ Number (Some 0) ∷ end_words

abbrev called_words : List Word
called_words = Mark (codes "(") ∷ Mark (codes ")") ∷ end_words

abbrev pub block_end : List Word
block_end = Mark (codes "}") ∷ []

-- a statement is refused at its first word
no_statement : (k : ℕ) (ws : List Word) (n : ℕ) → length ws ≡ n → Begun stmt_words (Stands k) ws n
no_statement k ws n l = stopped stmt_words (Stands k) ws ws n (λ us. us) (tree.Work (Some 0)) work_words (λ rest more. refl) refl l tt (λ rest. refl)

abbrev pub called_at : ℕ → Service → Reading tree.Stmt
called_at k service ws = expect (codes "(") ws >>= λ rest. arguments_at k rest >>= λ es. targets_at es.1 >>= λ xs. expect (codes ";") xs.1 >>= λ rest. Ok (tree.CallService service es.0 xs.0, rest)

service_call_from : (k : ℕ) (service : Service) (ws : List Word) (n : ℕ) →
    (suc (length ws) ≡ n) ⊎ ((1 ≤ k) × (called_at k service ws ≡ Err n)) →
    Begun stmt_words (Stands k) (ServiceWord service ∷ ws) n
service_call_from k service ws n (inl l) = no_statement k (ServiceWord service ∷ ws) n l
service_call_from k service ws n (inr h) = refused (expect (codes "(") ws) _ n h.1
    (λ e. stopped stmt_words (Stands k) (ServiceWord service ∷ ws) ws n (λ us. ServiceWord service ∷ us) (tree.CallService service tree.NoExpr []) called_words (λ rest more. refl) refl (expect_left _ ws n e) (h.0, tt) (λ rest. refl))
    (λ vs e g. let is : ServiceWord service ∷ ws ≡ ServiceWord service ∷ Mark (codes "(") ∷ vs = ap (λ (us : List Word). ServiceWord service ∷ us) (expect_spells _ ws vs e) in refused (arguments_at k vs) _ n g
    (λ f. opened closed_words (InnerArguments k) stmt_words (Stands k) (ServiceWord service ∷ ws) vs n (λ us. ServiceWord service ∷ us) (Mark (codes "(")) (λ es. tree.CallService service es []) end_words (tree.CallService service tree.NoExpr []) called_words
    (λ rest more. refl) is (λ es q. q) (λ es rest. refl) (h.0, tt) (λ rest. refl) (arguments_at_begins k vs n f))
    (λ es f g. let fits = arguments_at_shape k vs es.1 es.0 f in let upto = is ∙ ap (λ (us : List Word). ServiceWord service ∷ Mark (codes "(") ∷ us) (arguments_at_spell k vs es.1 es.0 f) in refused (targets_at es.1) _ n g
    (λ i. inside targets_words (λ xs. Unit {0}) stmt_words (Stands k) (ServiceWord service ∷ ws) es.1 n (λ us. ServiceWord service ∷ Mark (codes "(") ∷ closed_words es.0 us) (λ xs. tree.CallService service es.0 xs) end_words
    (λ rest more. ap (λ (us : List Word). ServiceWord service ∷ Mark (codes "(") ∷ us) (closed_extends es.0 rest more)) upto (λ xs q. fits) (λ xs rest. refl) (targets_begin es.1 n i))
    (λ xs i g. refused (expect (codes ";") xs.1) _ n g
    (λ j. stopped stmt_words (Stands k) (ServiceWord service ∷ ws) xs.1 n (λ us. ServiceWord service ∷ Mark (codes "(") ∷ closed_words es.0 (targets_words xs.0 us)) (tree.CallService service es.0 xs.0) end_words
    (λ rest more. ap (λ (us : List Word). ServiceWord service ∷ Mark (codes "(") ∷ us) (ap (closed_words es.0) (targets_extend xs.0 rest more) ∙ closed_extends es.0 (targets_words xs.0 rest) more))
    (upto ∙ ap (λ (us : List Word). ServiceWord service ∷ Mark (codes "(") ∷ closed_words es.0 us) (targets_spell es.1 xs.1 xs.0 i)) (expect_left _ xs.1 n j) fits (λ rest. refl))
    (λ us j g. something n _ g))))

service_call_begins : (k : ℕ) (service : Service) (ws : List Word) (n : ℕ) → service_call_at k service ws ≡ Err n → Begun stmt_words (Stands k) (ServiceWord service ∷ ws) n
unfolding service_call_at
service_call_begins k service ws n h = service_call_from k service ws n (level k (suc (length ws)) n (nat_eq k 0) _ (positive k) h)

assignment_begins : (k : ℕ) (x : List ℕ) (ws : List Word) (n : ℕ) → assignment_at k x ws ≡ Err n → Begun stmt_words (Stands k) (Name x ∷ ws) n
unfolding assignment_at
assignment_begins k x ws n h = one_way (expect _ ws) _ _ _ h
    (λ vs e h. let is : Name x ∷ ws ≡ Name x ∷ Mark (codes "[") ∷ vs = ap (λ (us : List Word). Name x ∷ us) (expect_spells _ ws vs e) in refused (nested_at k vs) _ n h
    (λ f. opened expr_words (Inner k 5) stmt_words (Stands k) (Name x ∷ ws) vs n (λ us. Name x ∷ us) (Mark (codes "[")) (λ i. tree.AssignElement x i zero_number) (Mark (codes "]") ∷ value_words) (tree.Assign x zero_number) value_words
    (λ rest more. refl) is (λ i q. (q.0, q.1, tt)) (λ i rest. refl) tt (λ rest. refl) (nested_begins k vs n f))
    (λ i f h.
    let fits = nested_shapes k vs i.1 i.0 f in
    let upto : Name x ∷ ws ≡ Name x ∷ Mark (codes "[") ∷ expr_words i.0 i.1 = is ∙ ap (λ (us : List Word). Name x ∷ Mark (codes "[") ∷ us) (nested_spells k vs i.1 i.0 f) in
    let front : Front (λ us. Name x ∷ Mark (codes "[") ∷ expr_words i.0 us) = λ rest more. ap (λ (us : List Word). Name x ∷ Mark (codes "[") ∷ us) (expr_extends i.0 rest more) in
    refused (expect (codes "]") i.1) _ n h
    (λ g. stopped stmt_words (Stands k) (Name x ∷ ws) i.1 n (λ us. Name x ∷ Mark (codes "[") ∷ expr_words i.0 us) (tree.AssignElement x i.0 zero_number) (Mark (codes "]") ∷ value_words) front upto (expect_left _ i.1 n g) (fits.0, fits.1, tt) (λ rest. refl))
    (λ zs g h. let upto = upto ∙ ap (λ (us : List Word). Name x ∷ Mark (codes "[") ∷ expr_words i.0 us) (expect_spells _ i.1 zs g) in refused (expect (codes ":=") zs) _ n h
    (λ j. stopped stmt_words (Stands k) (Name x ∷ ws) zs n (λ us. Name x ∷ Mark (codes "[") ∷ expr_words i.0 (Mark (codes "]") ∷ us)) (tree.AssignElement x i.0 zero_number) value_words (λ rest more. front (Mark (codes "]") ∷ rest) more) upto (expect_left _ zs n j) (fits.0, fits.1, tt) (λ rest. refl))
    (λ ps j h.
    let upto = upto ∙ ap (λ (us : List Word). Name x ∷ Mark (codes "[") ∷ expr_words i.0 (Mark (codes "]") ∷ us)) (expect_spells _ zs ps j) in
    refused (expr_at k ps) _ n h
    (λ l. inside expr_words (Fits k 5) stmt_words (Stands k) (Name x ∷ ws) ps n (λ us. Name x ∷ Mark (codes "[") ∷ expr_words i.0 (Mark (codes "]") ∷ Mark (codes ":=") ∷ us)) (λ v. tree.AssignElement x i.0 v) end_words
    (λ rest more. front (Mark (codes "]") ∷ Mark (codes ":=") ∷ rest) more) upto (λ v q. (fits.0, fits.1, q)) (λ v rest. refl) (expr_begins k ps n l))
    (λ v l h. refused (expect (codes ";") v.1) _ n h
    (λ m. stopped stmt_words (Stands k) (Name x ∷ ws) v.1 n (λ us. Name x ∷ Mark (codes "[") ∷ expr_words i.0 (Mark (codes "]") ∷ Mark (codes ":=") ∷ expr_words v.0 us)) (tree.AssignElement x i.0 v.0) end_words
    (λ rest more. ap (λ (us : List Word). Name x ∷ Mark (codes "[") ∷ expr_words i.0 (Mark (codes "]") ∷ Mark (codes ":=") ∷ us)) (expr_extends v.0 rest more) ∙ front (Mark (codes "]") ∷ Mark (codes ":=") ∷ expr_words v.0 rest) more)
    (upto ∙ ap (λ (us : List Word). Name x ∷ Mark (codes "[") ∷ expr_words i.0 (Mark (codes "]") ∷ Mark (codes ":=") ∷ us)) (expr_spells k ps v.1 v.0 l)) (expect_left _ v.1 n m) (fits.0, fits.1, expr_shapes k ps v.1 v.0 l) (λ rest. refl))
    (λ us m g. something n _ g))))))
    (λ h. refused (expect (codes ":=") ws) _ n h
    (λ e. stopped stmt_words (Stands k) (Name x ∷ ws) ws n (λ us. Name x ∷ us) (tree.Assign x zero_number) value_words (λ rest more. refl) refl (expect_left _ ws n e) tt (λ rest. refl))
    (λ vs e h. let is : Name x ∷ ws ≡ Name x ∷ Mark (codes ":=") ∷ vs = ap (λ (us : List Word). Name x ∷ us) (expect_spells _ ws vs e) in refused (expr_at k vs) _ n h
    (λ f. inside expr_words (Fits k 5) stmt_words (Stands k) (Name x ∷ ws) vs n (λ us. Name x ∷ Mark (codes ":=") ∷ us) (λ v. tree.Assign x v) end_words (λ rest more. refl) is (λ v q. q) (λ v rest. refl) (expr_begins k vs n f))
    (λ v f h. refused (expect (codes ";") v.1) _ n h
    (λ g. stopped stmt_words (Stands k) (Name x ∷ ws) v.1 n (λ us. Name x ∷ Mark (codes ":=") ∷ expr_words v.0 us) (tree.Assign x v.0) end_words (λ rest more. ap (λ (us : List Word). Name x ∷ Mark (codes ":=") ∷ us) (expr_extends v.0 rest more))
    (is ∙ ap (λ (us : List Word). Name x ∷ Mark (codes ":=") ∷ us) (expr_spells k vs v.1 v.0 f)) (expect_left _ v.1 n g) (expr_shapes k vs v.1 v.0 f) (λ rest. refl))
    (λ us g i. something n _ i))))

work_begins : (k : ℕ) (ws : List Word) (n : ℕ) → work_at ws ≡ Err n → Begun stmt_words (Stands k) (Mark (codes "work") ∷ ws) n
unfolding work_at
work_begins k ws n h = refused (number_at ws) _ n h
    (λ e. stopped stmt_words (Stands k) (Mark (codes "work") ∷ ws) ws n (λ us. Mark (codes "work") ∷ us) (tree.Work (Some 0)) (Number (Some 0) ∷ end_words) (λ rest more. refl) refl (number_left ws n e) tt (λ rest. refl))
    (λ x e h. refused (expect (codes ";") x.1) _ n h
    (λ f. stopped stmt_words (Stands k) (Mark (codes "work") ∷ ws) x.1 n (λ us. Mark (codes "work") ∷ Number x.0 ∷ us) (tree.Work x.0) end_words (λ rest more. refl) (ap (λ (us : List Word). Mark (codes "work") ∷ us) (number_spells ws x.1 x.0 e)) (expect_left _ x.1 n f) tt (λ rest. refl))
    (λ us f g. something n _ g))

return_begins : (k : ℕ) (ws : List Word) (n : ℕ) → return_at k ws ≡ Err n → Begun stmt_words (Stands k) (Mark (codes "return") ∷ ws) n
unfolding return_at
return_begins k ws n h = refused (expr_at k ws) _ n h
    (λ e. inside expr_words (Fits k 5) stmt_words (Stands k) (Mark (codes "return") ∷ ws) ws n (λ us. Mark (codes "return") ∷ us) (λ v. tree.Return v) end_words (λ rest more. refl) refl (λ v q. q) (λ v rest. refl) (expr_begins k ws n e))
    (λ v e h. refused (expect (codes ";") v.1) _ n h
    (λ f. stopped stmt_words (Stands k) (Mark (codes "return") ∷ ws) v.1 n (λ us. Mark (codes "return") ∷ expr_words v.0 us) (tree.Return v.0) end_words (λ rest more. ap (λ (us : List Word). Mark (codes "return") ∷ us) (expr_extends v.0 rest more))
    (ap (λ (us : List Word). Mark (codes "return") ∷ us) (expr_spells k ws v.1 v.0 e)) (expect_left _ v.1 n f) (expr_shapes k ws v.1 v.0 e) (λ rest. refl))
    (λ us f g. something n _ g))

-- statements with blocks, where a level may be opened
module _ (k : ℕ) (block : Reading tree.Block) (le : 1 ≤ k) (s : Spells tree.Block opened_words block) (p : Shapes tree.Block (InnerBlock k) block) (b : Begins tree.Block opened_words (InnerBlock k) block) where
  branch_begins : (ws : List Word) (n : ℕ) → branch_with block k ws ≡ Err n → Begun stmt_words (Stands k) (Mark (codes "if") ∷ ws) n
  unfolding branch_with
  branch_begins ws n h = refused (expr_at k ws) _ n h
      (λ e. inside expr_words (Fits k 5) stmt_words (Stands k) (Mark (codes "if") ∷ ws) ws n (λ us. Mark (codes "if") ∷ us) (λ t. tree.If t tree.NoStmt) (Mark (codes "{") ∷ block_end) (λ rest more. refl) refl (λ t q. (q, le, tt)) (λ t rest. refl) (expr_begins k ws n e))
      (λ t e h.
      let fits = expr_shapes k ws t.1 t.0 e in
      let front : Front (λ us. Mark (codes "if") ∷ expr_words t.0 us) = λ rest more. ap (λ (us : List Word). Mark (codes "if") ∷ us) (expr_extends t.0 rest more) in
      let is : Mark (codes "if") ∷ ws ≡ Mark (codes "if") ∷ expr_words t.0 t.1 = ap (λ (us : List Word). Mark (codes "if") ∷ us) (expr_spells k ws t.1 t.0 e) in
      refused (block t.1) _ n h
      (λ f. inside opened_words (InnerBlock k) stmt_words (Stands k) (Mark (codes "if") ∷ ws) t.1 n (λ us. Mark (codes "if") ∷ expr_words t.0 us) (λ c. tree.If t.0 c) [] front is (λ c q. (fits, q.0, q.1)) (λ c rest. refl) (b t.1 n f))
      (λ c f h. one_way (expect _ c.1) _ _ _ h
      (λ vs g h. refused (block vs) _ n h
      (λ i. inside opened_words (InnerBlock k) stmt_words (Stands k) (Mark (codes "if") ∷ ws) vs n (λ us. Mark (codes "if") ∷ expr_words t.0 (opened_words c.0 (Mark (codes "else") ∷ us))) (λ other. tree.IfElse t.0 c.0 other) []
      (λ rest more. ap (λ (us : List Word). Mark (codes "if") ∷ expr_words t.0 (Mark (codes "{") ∷ us)) (braced_extends c.0 (Mark (codes "else") ∷ rest) more) ∙ front (opened_words c.0 (Mark (codes "else") ∷ rest)) more)
      (is ∙ ap (λ (us : List Word). Mark (codes "if") ∷ expr_words t.0 us) (s t.1 c.1 c.0 f ∙ ap (opened_words c.0) (expect_spells _ c.1 vs g)))
      (λ other q. (fits, le, (p t.1 c.1 c.0 f).1, q.1)) (λ other rest. refl) (b vs n i))
      (λ other i g. something n _ g))
      (λ g. something n _ g)))

  while_begins : (ws : List Word) (n : ℕ) → while_with block k ws ≡ Err n → Begun stmt_words (Stands k) (Mark (codes "while") ∷ ws) n
  unfolding while_with
  while_begins ws n h = refused (expr_at k ws) _ n h
      (λ e. inside expr_words (Fits k 5) stmt_words (Stands k) (Mark (codes "while") ∷ ws) ws n (λ us. Mark (codes "while") ∷ us) (λ t. tree.While t tree.NoStmt) (Mark (codes "{") ∷ block_end) (λ rest more. refl) refl (λ t q. (q, le, tt)) (λ t rest. refl) (expr_begins k ws n e))
      (λ t e h. refused (block t.1) _ n h
      (λ f. inside opened_words (InnerBlock k) stmt_words (Stands k) (Mark (codes "while") ∷ ws) t.1 n (λ us. Mark (codes "while") ∷ expr_words t.0 us) (λ c. tree.While t.0 c) [] (λ rest more. ap (λ (us : List Word). Mark (codes "while") ∷ us) (expr_extends t.0 rest more))
      (ap (λ (us : List Word). Mark (codes "while") ∷ us) (expr_spells k ws t.1 t.0 e)) (λ c q. (expr_shapes k ws t.1 t.0 e, q.0, q.1)) (λ c rest. refl) (b t.1 n f))
      (λ c f g. something n _ g))

behind_word : (k : ℕ) (ws vs : List Word) (n : ℕ) → ws ≡ vs → Begun stmt_words (Stands k) vs n → Begun stmt_words (Stands k) ws n
behind_word k ws vs n e b = subst (λ us. Begun stmt_words (Stands k) us n) (sym e) b

blocks_from : (k : ℕ) (block : Reading tree.Block) → Spells tree.Block opened_words block → Shapes tree.Block (InnerBlock k) block → (1 ≤ k → Begins tree.Block opened_words (InnerBlock k) block) → (ws : List Word) (n : ℕ) →
    (length ws ≡ n) ⊎ ((1 ≤ k) × (either (expect (codes "if") ws) (branch_with block k) (expect (codes "while") ws >>= while_with block k) ≡ Err n)) → Begun stmt_words (Stands k) ws n
blocks_from k block s p b ws n (inl l) = no_statement k ws n l
blocks_from k block s p b ws n (inr h) = one_way (expect _ ws) _ _ _ h.1
    (λ vs e g. behind_word k ws (Mark (codes "if") ∷ vs) n (expect_spells _ ws vs e) (branch_begins k block h.0 s p (b h.0) vs n g))
    (λ g. refused (expect (codes "while") ws) _ n g
    (λ e. no_statement k ws n (expect_left _ ws n e))
    (λ vs e i. behind_word k ws (Mark (codes "while") ∷ vs) n (expect_spells _ ws vs e) (while_begins k block h.0 s p (b h.0) vs n i)))

stmt_begins : (k : ℕ) (block : Reading tree.Block) → Spells tree.Block opened_words block → Shapes tree.Block (InnerBlock k) block → (1 ≤ k → Begins tree.Block opened_words (InnerBlock k) block) → Begins tree.Stmt stmt_words (Stands k) (stmt_with block k)
unfolding stmt_with
stmt_begins k block s p b ws n h = one_way (name_at ws) _ _ _ h (λ x e h. behind_word k ws (Name x.0 ∷ x.1) n (name_spells ws x.1 x.0 e) (assignment_begins k x.0 x.1 n h))
    (λ h. one_way (service_at ws) _ _ _ h (λ x e h. behind_word k ws (ServiceWord x.0 ∷ x.1) n (service_spells ws x.1 x.0 e) (service_call_begins k x.0 x.1 n h))
    (λ h. one_way (expect _ ws) _ _ _ h (λ vs e h. behind_word k ws (Mark (codes "work") ∷ vs) n (expect_spells _ ws vs e) (work_begins k vs n h))
    (λ h. one_way (expect _ ws) _ _ _ h (λ vs e h. behind_word k ws (Mark (codes "return") ∷ vs) n (expect_spells _ ws vs e) (return_begins k vs n h))
    (λ h. blocks_from k block s p b ws n (level k (length ws) n (nat_eq k 0) _ (positive k) h)))))

-- blocks
turn_begins : (k : ℕ) (stmt : Reading tree.Stmt) → Begins tree.Stmt stmt_words (Stands k) stmt → TurnBegins tree.Stmt stmt_words (Stands k) (stmt_turn stmt)
turn_begins k stmt b ws n h = b ws n (until_refused (expect (codes "}") ws) (stmt ws) n h)

statements_begin : (k : ℕ) (stmt : Reading tree.Stmt) → Spells tree.Stmt stmt_words stmt → Shapes tree.Stmt (Stands k) stmt → Begins tree.Stmt stmt_words (Stands k) stmt → Begins tree.Block braced_words (Holds k) (statements_with stmt)
unfolding statements_with
statements_begin k stmt s p b ws n h = refused (repeat (stmt_turn stmt) ws) _ n h
    (λ e. inside (all_words stmt_words) (Each (Stands k)) braced_words (Holds k) ws ws n (λ us. us) block_of block_end (λ rest more. refl) refl (shaped.block_list k) (λ ss rest. block_list ss (Mark (codes "}") ∷ rest))
    (repeat_begins stmt_words (Stands k) (stmt_turn stmt) (stmt_turn_spells stmt s) (stmt_turn_shapes k stmt p) stmt_longer stmt_extends (turn_begins k stmt b) ws n e))
    (λ ss e h. refused (expect (codes "}") ss.1) _ n h
    (λ f. stopped braced_words (Holds k) ws ss.1 n (all_words stmt_words ss.0) (block_of ss.0) block_end (all_extend stmt_words stmt_extends ss.0) (repeat_spells stmt_words (stmt_turn stmt) (stmt_turn_spells stmt s) ws ss.1 ss.0 e) (expect_left _ ss.1 n f)
    (shaped.block_list k ss.0 (repeat_shapes (Stands k) (stmt_turn stmt) (stmt_turn_shapes k stmt p) ws ss.1 ss.0 e)) (λ rest. block_list ss.0 (Mark (codes "}") ∷ rest)))
    (λ us f g. something n _ g))

block_begins : (k : ℕ) → 1 ≤ k → Begins tree.Block opened_words (InnerBlock k) (block_at k)
unfolding block_at
block_begins zero le ws n h = absurd (omega (arith, le))
block_begins (suc k) le ws n h = refused (expect (codes "{") ws) _ n h
    (λ e. stopped opened_words (InnerBlock (suc k)) ws ws n (λ us. us) tree.NoStmt (Mark (codes "{") ∷ block_end) (λ rest more. refl) refl (expect_left _ ws n e) (more k, tt) (λ rest. refl))
    (λ vs e h. inside braced_words (Holds k) opened_words (InnerBlock (suc k)) ws vs n (λ us. Mark (codes "{") ∷ us) (λ b. b) [] (λ rest more. refl) (expect_spells _ ws vs e) (λ b q. (more k, down k (λ m. IsBlock b m) q)) (λ b rest. refl)
    (statements_begin k (stmt_with (block_at k) k) (stmt_spells (block_at k) k (block_spells k)) (stmt_shapes k (block_at k) (block_shapes k)) (stmt_begins k (block_at k) (block_spells k) (block_shapes k) (block_begins k)) vs n h))

pub statements_at_begin : (k : ℕ) → Begins tree.Block braced_words (Holds k) (statements_at k)
unfolding statements_at stmt_at
statements_at_begin k ws n h =
    statements_begin k (λ vs. stmt_with (block_at k) k vs) (stmt_spells (block_at k) k (block_spells k)) (stmt_shapes k (block_at k) (block_shapes k)) (stmt_begins k (block_at k) (block_spells k) (block_shapes k) (block_begins k)) ws n h
