-- If the words of a program are refused, those before that place begin one.
use Rattle.std.proofs.Common.{◌-◌, ◌≡◌, ℕ, true, false, List, [], ◌∷◌, ◌++◌, length, Option, Some, None, Err, refl, sym, ap, ◌∙◌, subst}
use Rattle.std.specs.Prelude.{codes}
use Rattle.apex_types.specs.declared.limits.TheConstants.{MOST_LEVELS}
use Rattle.apex_types.specs.declared.codes.Discipline.TheVariants as discipline
use Rattle.pal_meaning.specs.Grammar.{Word, Name, Number, Mark}
use Rattle.pal_meaning.specs.Grammar.{integer_words, all_words, names_words, local_words, body_words, discipline_word, first_words, declaration_words, stack_body_words, handler_words, process_words, IsBody, Each, IsHandler, IsProgram}
use Rattle.pal_meaning.specs.Syntax as tree
use Rattle.pal_laws.specs.GrammarReading.{Answer, expect, name_at, number_at, integer_at, discipline_at, repeat, statements_at, names_at, local_at, locals_at, body_at, declared, first_value_at, variable_at, integers_at, first_values_at, array_at, semaphore_at, event_at, buffer_at, blackboard_at, port_at, parameters_at, procedure_at, declaration_at, declarations_at, stack_body_at, handler_at, process_at, processes_at, all_read, program_at}
use Rattle.pal_laws.proofs.Extended.{all_extend, names_extend, integer_extends, local_extends, locals_extend, first_extends, declaration_extends, stack_body_extends, handler_extends, process_extends}
use Rattle.pal_laws.proofs.Longer.{integer_longer, local_longer, declaration_longer, process_longer}
use Rattle.pal_laws.proofs.Spelled.{one_way, expect_spells, name_spells, number_spells, integer_spells, discipline_spells, names_spells, braced_words, repeat_spells, local_turn, local_spells, locals_spell, first_spells, integer_turn, integer_turn_spells, ended_values, closed_names, parameters_spell, declaration_turn, declaration_turn_spells, declarations_spell, stack_body_spells, handler_spells, process_turn, process_spells, processes_spell}
use Rattle.pal_laws.proofs.Shaped.{Holds, IsDeclared, declaration_turn_shapes, declarations_shape, IsStackBody, stack_body_shapes, handler_shapes, IsProcess, process_shapes, processes_shape}
use Rattle.pal_laws.proofs.Begun.{Begun, Begins, TurnBegins, Front, stopped, inside, something, refused, each_refused, until_refused, expect_left, name_left, number_left, repeat_begins}
use Rattle.pal_laws.proofs.BegunStatements.{some_names, a_name, names_begin, statements_at_begin, end_words, block_end}

-- the condition that is always true
abbrev No : {X : Type 0} → X → Type 0
No x = Unit {0}

-- numbers
abbrev zero_words : List Word
zero_words = Number (Some 0) ∷ []

integer_begins : Begins tree.Integer integer_words No integer_at
unfolding integer_at
integer_begins ws n h = one_way (expect _ ws) _ _ _ h
    (λ vs e h. refused (number_at vs) _ n h
    (λ f. stopped integer_words No ws vs n (λ us. Mark (codes "-") ∷ us) (record { negative = true; magnitude = Some 0 }) zero_words (λ rest more. refl) (expect_spells _ ws vs e) (number_left vs n f) tt (λ rest. refl))
    (λ x f g. something n _ g))
    (λ h. refused (number_at ws) _ n h
    (λ f. stopped integer_words No ws ws n (λ us. us) (record { negative = false; magnitude = Some 0 }) zero_words (λ rest more. refl) refl (number_left ws n f) tt (λ rest. refl))
    (λ x f g. something n _ g))

integer_turn_begins : TurnBegins tree.Integer integer_words No integer_turn
integer_turn_begins ws n h = integer_begins ws n (until_refused (expect (codes ";") ws) (integer_at ws) n h)

integers_begin : (ws : List Word) (n : ℕ) → integers_at ws ≡ Err n → Begun ended_values No (Mark (codes "=") ∷ ws) n
unfolding integers_at
integers_begin ws n h = refused (integer_at ws) _ n h
    (λ e. inside integer_words No ended_values No (Mark (codes "=") ∷ ws) ws n (λ us. Mark (codes "=") ∷ us) (λ m. m ∷ []) end_words (λ rest more. refl) refl (λ m q. tt) (λ m rest. refl) (integer_begins ws n e))
    (λ first e h.
    let is : Mark (codes "=") ∷ ws ≡ Mark (codes "=") ∷ integer_words first.0 first.1 = ap (λ (us : List Word). Mark (codes "=") ∷ us) (integer_spells ws first.1 first.0 e) in
    let front : Front (λ us. Mark (codes "=") ∷ integer_words first.0 us) = λ rest more. ap (λ (us : List Word). Mark (codes "=") ∷ us) (integer_extends first.0 rest more) in
    refused (repeat integer_turn first.1) _ n h
    (λ f. inside (all_words integer_words) (Each No) ended_values No (Mark (codes "=") ∷ ws) first.1 n (λ us. Mark (codes "=") ∷ integer_words first.0 us) (λ ms. first.0 ∷ ms) end_words front is (λ ms q. tt) (λ ms rest. refl)
    (repeat_begins integer_words No integer_turn integer_turn_spells (λ vs us x g. tt) integer_longer integer_extends integer_turn_begins first.1 n f))
    (λ ms f h. refused (expect (codes ";") ms.1) _ n h
    (λ g. stopped ended_values No (Mark (codes "=") ∷ ws) ms.1 n (λ us. Mark (codes "=") ∷ integer_words first.0 (all_words integer_words ms.0 us)) (first.0 ∷ ms.0) end_words
    (λ rest more. ap (λ (us : List Word). Mark (codes "=") ∷ integer_words first.0 us) (all_extend integer_words integer_extends ms.0 rest more) ∙ front (all_words integer_words ms.0 rest) more)
    (is ∙ ap (λ (us : List Word). Mark (codes "=") ∷ integer_words first.0 us) (repeat_spells integer_words integer_turn integer_turn_spells first.1 ms.1 ms.0 f)) (expect_left _ ms.1 n g) tt (λ rest. refl))
    (λ us g i. something n _ i)))

first_values_begin : Begins (List tree.Integer) ended_values No first_values_at
unfolding first_values_at
first_values_begin ws n h = one_way (expect _ ws) _ _ _ h
    (λ vs e h. subst (λ us. Begun ended_values No us n) (sym (expect_spells _ ws vs e)) (integers_begin vs n h))
    (λ h. refused (expect (codes ";") ws) _ n h
    (λ e. stopped ended_values No ws ws n (λ us. us) [] end_words (λ rest more. refl) refl (expect_left _ ws n e) tt (λ rest. refl))
    (λ vs e g. something n _ g))

first_begins : Begins (Option tree.Integer) first_words No first_value_at
unfolding first_value_at
first_begins ws n h = one_way (expect _ ws) _ _ _ h
    (λ vs e h. refused (integer_at vs) _ n h
    (λ f. inside integer_words No first_words No ws vs n (λ us. Mark (codes "=") ∷ us) (λ m. Some m) [] (λ rest more. refl) (expect_spells _ ws vs e) (λ m q. tt) (λ m rest. refl) (integer_begins vs n f))
    (λ x f g. something n _ g))
    (λ g. something n _ g)

discipline_begins : (ws : List Word) (n : ℕ) → discipline_at ws ≡ Err n → length ws ≡ n
unfolding discipline_at
discipline_begins ws n h = one_way (expect (codes "fifo") ws) _ _ _ h
    (λ vs e g. something n _ g)
    (λ h. refused (expect (codes "priority") ws) _ n h (λ e. expect_left _ ws n e) (λ vs e g. something n _ g))

-- bodies
abbrev a_body : tree.Body
a_body = record { locals = []; block = tree.NoStmt }

abbrev body_end : List Word
body_end = Mark (codes "{") ∷ block_end

local_begins : TurnBegins (List ℕ) local_words No local_turn
unfolding local_at
local_begins ws n h = each_refused (expect (codes "local") ws) local_at n h (λ vs e f. refused (name_at vs) _ n f
    (λ g. stopped local_words No ws vs n (λ us. Mark (codes "local") ∷ us) a_name (Name a_name ∷ end_words) (λ rest more. refl) (expect_spells _ ws vs e) (name_left vs n g) tt (λ rest. refl))
    (λ x g h. refused (expect (codes ";") x.1) _ n h
    (λ i. stopped local_words No ws x.1 n (λ us. Mark (codes "local") ∷ Name x.0 ∷ us) x.0 end_words (λ rest more. refl) (expect_spells _ ws vs e ∙ ap (λ (us : List Word). Mark (codes "local") ∷ us) (name_spells vs x.1 x.0 g)) (expect_left _ x.1 n i) tt (λ rest. refl))
    (λ us i g. something n _ g)))

locals_begin : Begins (List (List ℕ)) (all_words local_words) (Each No) locals_at
unfolding locals_at
locals_begin ws n h = repeat_begins local_words No local_turn local_spells (λ vs us x g. tt) local_longer local_extends local_begins ws n h

body_begins : Begins tree.Body body_words IsBody body_at
unfolding body_at
body_begins ws n h = refused (expect (codes "{") ws) _ n h
    (λ e. stopped body_words IsBody ws ws n (λ us. us) a_body body_end (λ rest more. refl) refl (expect_left _ ws n e) tt (λ rest. refl))
    (λ vs e h. refused (locals_at vs) _ n h
    (λ f. inside (all_words local_words) (Each No) body_words IsBody ws vs n (λ us. Mark (codes "{") ∷ us) (λ xs. record { locals = xs; block = tree.NoStmt }) block_end (λ rest more. refl) (expect_spells _ ws vs e) (λ xs q. tt) (λ xs rest. refl) (locals_begin vs n f))
    (λ xs f h. refused (statements_at (MOST_LEVELS - 1) xs.1) _ n h
    (λ g. inside braced_words (Holds (MOST_LEVELS - 1)) body_words IsBody ws xs.1 n (λ us. Mark (codes "{") ∷ all_words local_words xs.0 us) (λ b. record { locals = xs.0; block = b }) []
    (λ rest more. ap (λ (us : List Word). Mark (codes "{") ∷ us) (locals_extend xs.0 rest more)) (expect_spells _ ws vs e ∙ ap (λ (us : List Word). Mark (codes "{") ∷ us) (locals_spell vs xs.1 xs.0 f)) (λ b q. q) (λ b rest. refl) (statements_at_begin (MOST_LEVELS - 1) xs.1 n g))
    (λ b g i. something n _ i)))

-- declarations, after the word of their kind
abbrev Declares : List ℕ → (List Word → Answer (tree.Declaration × List Word)) → Type 0
Declares mark read = (ws : List Word) (n : ℕ) → read ws ≡ Err n → Begun declaration_words IsDeclared (Mark mark ∷ ws) n

-- where only marks, names and numbers come before the place, and nothing is asked of the kind
plain : (ws us : List Word) (n : ℕ) (front : List Word → List Word) (x : List ℕ) (kind : tree.Kind) (end : List Word) → Front front → ws ≡ front us → length us ≡ n → IsDeclared (declared x kind) →
    ((rest : List Word) → declaration_words (declared x kind) rest ≡ front (end ++ rest)) → Begun declaration_words IsDeclared ws n
plain ws us n front x kind end f e l p w = stopped declaration_words IsDeclared ws us n front (declared x kind) end f e l p w

variable_begins : Declares (codes "var") variable_at
unfolding variable_at
variable_begins ws n h = refused (name_at ws) _ n h
    (λ e. plain (Mark (codes "var") ∷ ws) ws n (λ us. Mark (codes "var") ∷ us) a_name (tree.Variable None) (Name a_name ∷ end_words) (λ rest more. refl) refl (name_left ws n e) tt (λ rest. refl))
    (λ x e h. let is : Mark (codes "var") ∷ ws ≡ Mark (codes "var") ∷ Name x.0 ∷ x.1 = ap (λ (us : List Word). Mark (codes "var") ∷ us) (name_spells ws x.1 x.0 e) in refused (first_value_at x.1) _ n h
    (λ f. inside first_words No declaration_words IsDeclared (Mark (codes "var") ∷ ws) x.1 n (λ us. Mark (codes "var") ∷ Name x.0 ∷ us) (λ v. declared x.0 (tree.Variable v)) end_words (λ rest more. refl) is (λ v q. tt) (λ v rest. refl) (first_begins x.1 n f))
    (λ v f h. refused (expect (codes ";") v.1) _ n h
    (λ g. plain (Mark (codes "var") ∷ ws) v.1 n (λ us. Mark (codes "var") ∷ Name x.0 ∷ first_words v.0 us) x.0 (tree.Variable v.0) end_words
    (λ rest more. ap (λ (us : List Word). Mark (codes "var") ∷ Name x.0 ∷ us) (first_extends v.0 rest more)) (is ∙ ap (λ (us : List Word). Mark (codes "var") ∷ Name x.0 ∷ us) (first_spells x.1 v.1 v.0 f)) (expect_left _ v.1 n g) tt (λ rest. refl))
    (λ us g i. something n _ i)))

array_begins : Declares (codes "array") array_at
unfolding array_at
array_begins ws n h = refused (name_at ws) _ n h
    (λ e. plain (Mark (codes "array") ∷ ws) ws n (λ us. Mark (codes "array") ∷ us) a_name (tree.Array (Some 0) []) (Name a_name ∷ Mark (codes "[") ∷ Number (Some 0) ∷ Mark (codes "]") ∷ end_words) (λ rest more. refl) refl (name_left ws n e) tt (λ rest. refl))
    (λ x e h. let is = ap (λ (us : List Word). Mark (codes "array") ∷ us) (name_spells ws x.1 x.0 e) in refused (expect (codes "[") x.1) _ n h
    (λ f. plain (Mark (codes "array") ∷ ws) x.1 n (λ us. Mark (codes "array") ∷ Name x.0 ∷ us) x.0 (tree.Array (Some 0) []) (Mark (codes "[") ∷ Number (Some 0) ∷ Mark (codes "]") ∷ end_words) (λ rest more. refl) is (expect_left _ x.1 n f) tt (λ rest. refl))
    (λ vs f h. let is = is ∙ ap (λ (us : List Word). Mark (codes "array") ∷ Name x.0 ∷ us) (expect_spells _ x.1 vs f) in refused (number_at vs) _ n h
    (λ g. plain (Mark (codes "array") ∷ ws) vs n (λ us. Mark (codes "array") ∷ Name x.0 ∷ Mark (codes "[") ∷ us) x.0 (tree.Array (Some 0) []) (Number (Some 0) ∷ Mark (codes "]") ∷ end_words) (λ rest more. refl) is (number_left vs n g) tt (λ rest. refl))
    (λ m g h. let is = is ∙ ap (λ (us : List Word). Mark (codes "array") ∷ Name x.0 ∷ Mark (codes "[") ∷ us) (number_spells vs m.1 m.0 g) in refused (expect (codes "]") m.1) _ n h
    (λ i. plain (Mark (codes "array") ∷ ws) m.1 n (λ us. Mark (codes "array") ∷ Name x.0 ∷ Mark (codes "[") ∷ Number m.0 ∷ us) x.0 (tree.Array m.0 []) (Mark (codes "]") ∷ end_words) (λ rest more. refl) is (expect_left _ m.1 n i) tt (λ rest. refl))
    (λ zs i h. let is = is ∙ ap (λ (us : List Word). Mark (codes "array") ∷ Name x.0 ∷ Mark (codes "[") ∷ Number m.0 ∷ us) (expect_spells _ m.1 zs i) in refused (first_values_at zs) _ n h
    (λ j. inside ended_values No declaration_words IsDeclared (Mark (codes "array") ∷ ws) zs n (λ us. Mark (codes "array") ∷ Name x.0 ∷ Mark (codes "[") ∷ Number m.0 ∷ Mark (codes "]") ∷ us) (λ ns. declared x.0 (tree.Array m.0 ns)) []
    (λ rest more. refl) is (λ ns q. tt) (λ ns rest. refl) (first_values_begin zs n j))
    (λ ns j g. something n _ g)))))

semaphore_begins : Declares (codes "semaphore") semaphore_at
unfolding semaphore_at
semaphore_begins ws n h = refused (name_at ws) _ n h
    (λ e. plain (Mark (codes "semaphore") ∷ ws) ws n (λ us. Mark (codes "semaphore") ∷ us) a_name (tree.Semaphore (Some 0) (Some 0) discipline.Fifo) (Name a_name ∷ Number (Some 0) ∷ Number (Some 0) ∷ Mark (codes "fifo") ∷ end_words) (λ rest more. refl) refl (name_left ws n e) tt (λ rest. refl))
    (λ x e h. let is = ap (λ (us : List Word). Mark (codes "semaphore") ∷ us) (name_spells ws x.1 x.0 e) in refused (number_at x.1) _ n h
    (λ f. plain (Mark (codes "semaphore") ∷ ws) x.1 n (λ us. Mark (codes "semaphore") ∷ Name x.0 ∷ us) x.0 (tree.Semaphore (Some 0) (Some 0) discipline.Fifo) (Number (Some 0) ∷ Number (Some 0) ∷ Mark (codes "fifo") ∷ end_words) (λ rest more. refl) is (number_left x.1 n f) tt (λ rest. refl))
    (λ a f h. let is = is ∙ ap (λ (us : List Word). Mark (codes "semaphore") ∷ Name x.0 ∷ us) (number_spells x.1 a.1 a.0 f) in refused (number_at a.1) _ n h
    (λ g. plain (Mark (codes "semaphore") ∷ ws) a.1 n (λ us. Mark (codes "semaphore") ∷ Name x.0 ∷ Number a.0 ∷ us) x.0 (tree.Semaphore a.0 (Some 0) discipline.Fifo) (Number (Some 0) ∷ Mark (codes "fifo") ∷ end_words) (λ rest more. refl) is (number_left a.1 n g) tt (λ rest. refl))
    (λ b g h. let is = is ∙ ap (λ (us : List Word). Mark (codes "semaphore") ∷ Name x.0 ∷ Number a.0 ∷ us) (number_spells a.1 b.1 b.0 g) in refused (discipline_at b.1) _ n h
    (λ i. plain (Mark (codes "semaphore") ∷ ws) b.1 n (λ us. Mark (codes "semaphore") ∷ Name x.0 ∷ Number a.0 ∷ Number b.0 ∷ us) x.0 (tree.Semaphore a.0 b.0 discipline.Fifo) (Mark (codes "fifo") ∷ end_words) (λ rest more. refl) is (discipline_begins b.1 n i) tt (λ rest. refl))
    (λ c i h. let is = is ∙ ap (λ (us : List Word). Mark (codes "semaphore") ∷ Name x.0 ∷ Number a.0 ∷ Number b.0 ∷ us) (discipline_spells b.1 c.1 c.0 i) in refused (expect (codes ";") c.1) _ n h
    (λ j. plain (Mark (codes "semaphore") ∷ ws) c.1 n (λ us. Mark (codes "semaphore") ∷ Name x.0 ∷ Number a.0 ∷ Number b.0 ∷ Mark (discipline_word c.0) ∷ us) x.0 (tree.Semaphore a.0 b.0 c.0) end_words (λ rest more. refl) is (expect_left _ c.1 n j) tt (λ rest. refl))
    (λ us j g. something n _ g)))))

event_begins : Declares (codes "event") event_at
unfolding event_at
event_begins ws n h = refused (name_at ws) _ n h
    (λ e. plain (Mark (codes "event") ∷ ws) ws n (λ us. Mark (codes "event") ∷ us) a_name tree.Event (Name a_name ∷ end_words) (λ rest more. refl) refl (name_left ws n e) tt (λ rest. refl))
    (λ x e h. refused (expect (codes ";") x.1) _ n h
    (λ f. plain (Mark (codes "event") ∷ ws) x.1 n (λ us. Mark (codes "event") ∷ Name x.0 ∷ us) x.0 tree.Event end_words (λ rest more. refl) (ap (λ (us : List Word). Mark (codes "event") ∷ us) (name_spells ws x.1 x.0 e)) (expect_left _ x.1 n f) tt (λ rest. refl))
    (λ us f g. something n _ g))

buffer_begins : Declares (codes "buffer") buffer_at
unfolding buffer_at
buffer_begins ws n h = refused (name_at ws) _ n h
    (λ e. plain (Mark (codes "buffer") ∷ ws) ws n (λ us. Mark (codes "buffer") ∷ us) a_name (tree.Buffer (Some 0) (Some 0) discipline.Fifo) (Name a_name ∷ Number (Some 0) ∷ Number (Some 0) ∷ Mark (codes "fifo") ∷ end_words) (λ rest more. refl) refl (name_left ws n e) tt (λ rest. refl))
    (λ x e h. let is = ap (λ (us : List Word). Mark (codes "buffer") ∷ us) (name_spells ws x.1 x.0 e) in refused (number_at x.1) _ n h
    (λ f. plain (Mark (codes "buffer") ∷ ws) x.1 n (λ us. Mark (codes "buffer") ∷ Name x.0 ∷ us) x.0 (tree.Buffer (Some 0) (Some 0) discipline.Fifo) (Number (Some 0) ∷ Number (Some 0) ∷ Mark (codes "fifo") ∷ end_words) (λ rest more. refl) is (number_left x.1 n f) tt (λ rest. refl))
    (λ a f h. let is = is ∙ ap (λ (us : List Word). Mark (codes "buffer") ∷ Name x.0 ∷ us) (number_spells x.1 a.1 a.0 f) in refused (number_at a.1) _ n h
    (λ g. plain (Mark (codes "buffer") ∷ ws) a.1 n (λ us. Mark (codes "buffer") ∷ Name x.0 ∷ Number a.0 ∷ us) x.0 (tree.Buffer a.0 (Some 0) discipline.Fifo) (Number (Some 0) ∷ Mark (codes "fifo") ∷ end_words) (λ rest more. refl) is (number_left a.1 n g) tt (λ rest. refl))
    (λ b g h. let is = is ∙ ap (λ (us : List Word). Mark (codes "buffer") ∷ Name x.0 ∷ Number a.0 ∷ us) (number_spells a.1 b.1 b.0 g) in refused (discipline_at b.1) _ n h
    (λ i. plain (Mark (codes "buffer") ∷ ws) b.1 n (λ us. Mark (codes "buffer") ∷ Name x.0 ∷ Number a.0 ∷ Number b.0 ∷ us) x.0 (tree.Buffer a.0 b.0 discipline.Fifo) (Mark (codes "fifo") ∷ end_words) (λ rest more. refl) is (discipline_begins b.1 n i) tt (λ rest. refl))
    (λ c i h. let is = is ∙ ap (λ (us : List Word). Mark (codes "buffer") ∷ Name x.0 ∷ Number a.0 ∷ Number b.0 ∷ us) (discipline_spells b.1 c.1 c.0 i) in refused (expect (codes ";") c.1) _ n h
    (λ j. plain (Mark (codes "buffer") ∷ ws) c.1 n (λ us. Mark (codes "buffer") ∷ Name x.0 ∷ Number a.0 ∷ Number b.0 ∷ Mark (discipline_word c.0) ∷ us) x.0 (tree.Buffer a.0 b.0 c.0) end_words (λ rest more. refl) is (expect_left _ c.1 n j) tt (λ rest. refl))
    (λ us j g. something n _ g)))))

blackboard_begins : Declares (codes "blackboard") blackboard_at
unfolding blackboard_at
blackboard_begins ws n h = refused (name_at ws) _ n h
    (λ e. plain (Mark (codes "blackboard") ∷ ws) ws n (λ us. Mark (codes "blackboard") ∷ us) a_name (tree.Blackboard (Some 0)) (Name a_name ∷ Number (Some 0) ∷ end_words) (λ rest more. refl) refl (name_left ws n e) tt (λ rest. refl))
    (λ x e h. let is = ap (λ (us : List Word). Mark (codes "blackboard") ∷ us) (name_spells ws x.1 x.0 e) in refused (number_at x.1) _ n h
    (λ f. plain (Mark (codes "blackboard") ∷ ws) x.1 n (λ us. Mark (codes "blackboard") ∷ Name x.0 ∷ us) x.0 (tree.Blackboard (Some 0)) (Number (Some 0) ∷ end_words) (λ rest more. refl) is (number_left x.1 n f) tt (λ rest. refl))
    (λ a f h. refused (expect (codes ";") a.1) _ n h
    (λ g. plain (Mark (codes "blackboard") ∷ ws) a.1 n (λ us. Mark (codes "blackboard") ∷ Name x.0 ∷ Number a.0 ∷ us) x.0 (tree.Blackboard a.0) end_words (λ rest more. refl)
    (is ∙ ap (λ (us : List Word). Mark (codes "blackboard") ∷ Name x.0 ∷ us) (number_spells x.1 a.1 a.0 f)) (expect_left _ a.1 n g) tt (λ rest. refl))
    (λ us g i. something n _ i)))

port_begins : Declares (codes "port") port_at
unfolding port_at
port_begins ws n h = refused (name_at ws) _ n h
    (λ e. plain (Mark (codes "port") ∷ ws) ws n (λ us. Mark (codes "port") ∷ us) a_name tree.Port (Name a_name ∷ end_words) (λ rest more. refl) refl (name_left ws n e) tt (λ rest. refl))
    (λ x e h. refused (expect (codes ";") x.1) _ n h
    (λ f. plain (Mark (codes "port") ∷ ws) x.1 n (λ us. Mark (codes "port") ∷ Name x.0 ∷ us) x.0 tree.Port end_words (λ rest more. refl) (ap (λ (us : List Word). Mark (codes "port") ∷ us) (name_spells ws x.1 x.0 e)) (expect_left _ x.1 n f) tt (λ rest. refl))
    (λ us f g. something n _ g))

parameters_begin : Begins (List (List ℕ)) closed_names No parameters_at
unfolding parameters_at
parameters_begin ws n h = one_way (expect (codes ")") ws) _ _ _ h
    (λ vs e g. something n _ g)
    (λ h. refused (names_at ws) _ n h
    (λ e. inside some_names No closed_names No ws ws n (λ us. us) (λ xs. xs.0 ∷ xs.1) (Mark (codes ")") ∷ []) (λ rest more. refl) refl (λ xs q. tt) (λ xs rest. refl) (names_begin ws n e))
    (λ xs e h. refused (expect (codes ")") xs.1) _ n h
    (λ f. stopped closed_names No ws xs.1 n (names_words xs.0) xs.0 (Mark (codes ")") ∷ []) (names_extend xs.0) (names_spells ws xs.1 xs.0 e) (expect_left _ xs.1 n f) tt (λ rest. refl))
    (λ us f g. something n _ g)))

procedure_begins : Declares (codes "proc") procedure_at
unfolding procedure_at
procedure_begins ws n h = refused (name_at ws) _ n h
    (λ e. plain (Mark (codes "proc") ∷ ws) ws n (λ us. Mark (codes "proc") ∷ us) a_name (tree.Procedure [] a_body) (Name a_name ∷ Mark (codes "(") ∷ Mark (codes ")") ∷ body_end) (λ rest more. refl) refl (name_left ws n e) tt (λ rest. refl))
    (λ x e h. let is = ap (λ (us : List Word). Mark (codes "proc") ∷ us) (name_spells ws x.1 x.0 e) in refused (expect (codes "(") x.1) _ n h
    (λ f. plain (Mark (codes "proc") ∷ ws) x.1 n (λ us. Mark (codes "proc") ∷ Name x.0 ∷ us) x.0 (tree.Procedure [] a_body) (Mark (codes "(") ∷ Mark (codes ")") ∷ body_end) (λ rest more. refl) is (expect_left _ x.1 n f) tt (λ rest. refl))
    (λ vs f h. let is = is ∙ ap (λ (us : List Word). Mark (codes "proc") ∷ Name x.0 ∷ us) (expect_spells _ x.1 vs f) in refused (parameters_at vs) _ n h
    (λ g. inside closed_names No declaration_words IsDeclared (Mark (codes "proc") ∷ ws) vs n (λ us. Mark (codes "proc") ∷ Name x.0 ∷ Mark (codes "(") ∷ us) (λ xs. declared x.0 (tree.Procedure xs a_body)) body_end (λ rest more. refl) is (λ xs q. tt) (λ xs rest. refl) (parameters_begin vs n g))
    (λ xs g h. refused (body_at xs.1) _ n h
    (λ i. inside body_words IsBody declaration_words IsDeclared (Mark (codes "proc") ∷ ws) xs.1 n (λ us. Mark (codes "proc") ∷ Name x.0 ∷ Mark (codes "(") ∷ closed_names xs.0 us) (λ b. declared x.0 (tree.Procedure xs.0 b)) []
    (λ rest more. ap (λ (us : List Word). Mark (codes "proc") ∷ Name x.0 ∷ Mark (codes "(") ∷ us) (names_extend xs.0 (Mark (codes ")") ∷ rest) more))
    (is ∙ ap (λ (us : List Word). Mark (codes "proc") ∷ Name x.0 ∷ Mark (codes "(") ∷ us) (parameters_spell vs xs.1 xs.0 g)) (λ b q. q) (λ b rest. refl) (body_begins xs.1 n i))
    (λ b i g. something n _ g))))

behind_word : (ws vs : List Word) (n : ℕ) → ws ≡ vs → Begun declaration_words IsDeclared vs n → Begun declaration_words IsDeclared ws n
behind_word ws vs n e b = subst (λ us. Begun declaration_words IsDeclared us n) (sym e) b

abbrev event_words : List Word
event_words = Mark (codes "event") ∷ Name a_name ∷ end_words

declaration_begins : Begins tree.Declaration declaration_words IsDeclared declaration_at
unfolding declaration_at
declaration_begins ws n h = one_way (expect _ ws) _ _ _ h (λ vs e h. behind_word ws (Mark (codes "var") ∷ vs) n (expect_spells _ ws vs e) (variable_begins vs n h))
    (λ h. one_way (expect _ ws) _ _ _ h (λ vs e h. behind_word ws (Mark (codes "array") ∷ vs) n (expect_spells _ ws vs e) (array_begins vs n h))
    (λ h. one_way (expect _ ws) _ _ _ h (λ vs e h. behind_word ws (Mark (codes "semaphore") ∷ vs) n (expect_spells _ ws vs e) (semaphore_begins vs n h))
    (λ h. one_way (expect _ ws) _ _ _ h (λ vs e h. behind_word ws (Mark (codes "event") ∷ vs) n (expect_spells _ ws vs e) (event_begins vs n h))
    (λ h. one_way (expect _ ws) _ _ _ h (λ vs e h. behind_word ws (Mark (codes "buffer") ∷ vs) n (expect_spells _ ws vs e) (buffer_begins vs n h))
    (λ h. one_way (expect _ ws) _ _ _ h (λ vs e h. behind_word ws (Mark (codes "blackboard") ∷ vs) n (expect_spells _ ws vs e) (blackboard_begins vs n h))
    (λ h. one_way (expect _ ws) _ _ _ h (λ vs e h. behind_word ws (Mark (codes "port") ∷ vs) n (expect_spells _ ws vs e) (port_begins vs n h))
    (λ h. refused (expect (codes "proc") ws) _ n h
    (λ e. plain ws ws n (λ us. us) a_name tree.Event event_words (λ rest more. refl) refl (expect_left _ ws n e) tt (λ rest. refl))
    (λ vs e h. behind_word ws (Mark (codes "proc") ∷ vs) n (expect_spells _ ws vs e) (procedure_begins vs n h)))))))))

declaration_turn_begins : TurnBegins tree.Declaration declaration_words IsDeclared declaration_turn
declaration_turn_begins ws n h = declaration_begins ws n (until_refused (expect (codes "init") ws) (declaration_at ws) n h)

declarations_begin : Begins (List tree.Declaration) (all_words declaration_words) (Each IsDeclared) declarations_at
unfolding declarations_at
declarations_begin ws n h = repeat_begins declaration_words IsDeclared declaration_turn declaration_turn_spells declaration_turn_shapes declaration_longer declaration_extends declaration_turn_begins ws n h

-- INIT, the handler and the processes
abbrev a_stack_body : tree.StackBody
a_stack_body = record { stack = Some 0; body = a_body }

abbrev stack_words : List Word
stack_words = Mark (codes "stack") ∷ Number (Some 0) ∷ body_end

stack_body_begins : (mark : List ℕ) → Begins tree.StackBody (stack_body_words mark) IsStackBody (stack_body_at mark)
unfolding stack_body_at
stack_body_begins mark ws n h = refused (expect mark ws) _ n h
    (λ e. stopped (stack_body_words mark) IsStackBody ws ws n (λ us. us) a_stack_body (Mark mark ∷ stack_words) (λ rest more. refl) refl (expect_left _ ws n e) tt (λ rest. refl))
    (λ vs e h. let is = expect_spells _ ws vs e in refused (expect (codes "stack") vs) _ n h
    (λ f. stopped (stack_body_words mark) IsStackBody ws vs n (λ us. Mark mark ∷ us) a_stack_body stack_words (λ rest more. refl) is (expect_left _ vs n f) tt (λ rest. refl))
    (λ zs f h. let is = is ∙ ap (λ (us : List Word). Mark mark ∷ us) (expect_spells _ vs zs f) in refused (number_at zs) _ n h
    (λ g. stopped (stack_body_words mark) IsStackBody ws zs n (λ us. Mark mark ∷ Mark (codes "stack") ∷ us) a_stack_body (Number (Some 0) ∷ body_end) (λ rest more. refl) is (number_left zs n g) tt (λ rest. refl))
    (λ m g h. refused (body_at m.1) _ n h
    (λ i. inside body_words IsBody (stack_body_words mark) IsStackBody ws m.1 n (λ us. Mark mark ∷ Mark (codes "stack") ∷ Number m.0 ∷ us) (λ b. record { stack = m.0; body = b }) [] (λ rest more. refl)
    (is ∙ ap (λ (us : List Word). Mark mark ∷ Mark (codes "stack") ∷ us) (number_spells zs m.1 m.0 g)) (λ b q. q) (λ b rest. refl) (body_begins m.1 n i))
    (λ b i g. something n _ g))))

handler_begins : Begins (Option tree.StackBody) handler_words IsHandler handler_at
unfolding handler_at
handler_begins ws n h = one_way (expect (codes "handler") ws) _ _ _ h
    (λ vs e h. refused (stack_body_at (codes "handler") ws) _ n h
    (λ f. inside (stack_body_words (codes "handler")) IsStackBody handler_words IsHandler ws ws n (λ us. us) (λ b. Some b) [] (λ rest more. refl) refl (λ b q. q) (λ b rest. refl) (stack_body_begins (codes "handler") ws n f))
    (λ b f g. something n _ g))
    (λ g. something n _ g)

abbrev zero_integer : tree.Integer
zero_integer = record { negative = false; magnitude = Some 0 }

abbrev last_words : List Word
last_words = Mark (codes "stack") ∷ Number (Some 0) ∷ body_end

abbrev capacity_end : List Word
capacity_end = Mark (codes "capacity") ∷ Number (Some 0) ∷ last_words

abbrev period_end : List Word
period_end = Mark (codes "period") ∷ Number (Some 0) ∷ capacity_end

abbrev a_process : List ℕ → Option ℕ → tree.Integer → tree.Integer → Option ℕ → tree.Body → tree.Process
a_process x priority period capacity stack body = record { name = x; priority = priority; period = period; capacity = capacity; stack = stack; body = body }

process_begins : TurnBegins tree.Process process_words IsProcess process_turn
unfolding process_at
process_begins ws n h = each_refused (expect (codes "process") ws) process_at n h (λ vs e h. let is = expect_spells _ ws vs e in refused (name_at vs) _ n h
    (λ f. stopped process_words IsProcess ws vs n (λ us. Mark (codes "process") ∷ us) (a_process a_name (Some 0) zero_integer zero_integer (Some 0) a_body) (Name a_name ∷ Mark (codes "priority") ∷ Number (Some 0) ∷ period_end)
    (λ rest more. refl) is (name_left vs n f) tt (λ rest. refl))
    (λ x f h. let is = is ∙ ap (λ (us : List Word). Mark (codes "process") ∷ us) (name_spells vs x.1 x.0 f) in refused (expect (codes "priority") x.1) _ n h
    (λ g. stopped process_words IsProcess ws x.1 n (λ us. Mark (codes "process") ∷ Name x.0 ∷ us) (a_process x.0 (Some 0) zero_integer zero_integer (Some 0) a_body) (Mark (codes "priority") ∷ Number (Some 0) ∷ period_end)
    (λ rest more. refl) is (expect_left _ x.1 n g) tt (λ rest. refl))
    (λ ys g h. let is = is ∙ ap (λ (us : List Word). Mark (codes "process") ∷ Name x.0 ∷ us) (expect_spells _ x.1 ys g) in refused (number_at ys) _ n h
    (λ i. stopped process_words IsProcess ws ys n (λ us. Mark (codes "process") ∷ Name x.0 ∷ Mark (codes "priority") ∷ us) (a_process x.0 (Some 0) zero_integer zero_integer (Some 0) a_body) (Number (Some 0) ∷ period_end)
    (λ rest more. refl) is (number_left ys n i) tt (λ rest. refl))
    (λ p i h. let is = is ∙ ap (λ (us : List Word). Mark (codes "process") ∷ Name x.0 ∷ Mark (codes "priority") ∷ us) (number_spells ys p.1 p.0 i) in refused (expect (codes "period") p.1) _ n h
    (λ j. stopped process_words IsProcess ws p.1 n (λ us. Mark (codes "process") ∷ Name x.0 ∷ Mark (codes "priority") ∷ Number p.0 ∷ us) (a_process x.0 p.0 zero_integer zero_integer (Some 0) a_body) period_end
    (λ rest more. refl) is (expect_left _ p.1 n j) tt (λ rest. refl))
    (λ bs j h.
    let is = is ∙ ap (λ (us : List Word). Mark (codes "process") ∷ Name x.0 ∷ Mark (codes "priority") ∷ Number p.0 ∷ us) (expect_spells _ p.1 bs j) in
    refused (integer_at bs) _ n h
    (λ k. inside integer_words No process_words IsProcess ws bs n (λ us. Mark (codes "process") ∷ Name x.0 ∷ Mark (codes "priority") ∷ Number p.0 ∷ Mark (codes "period") ∷ us) (λ q. a_process x.0 p.0 q zero_integer (Some 0) a_body) capacity_end
    (λ rest more. refl) is (λ q r. tt) (λ q rest. refl) (integer_begins bs n k))
    (λ q k h.
    let front : List Word → List Word = λ us. Mark (codes "process") ∷ Name x.0 ∷ Mark (codes "priority") ∷ Number p.0 ∷ Mark (codes "period") ∷ integer_words q.0 us in
    let passes : Front front = λ rest more. ap (λ (us : List Word). Mark (codes "process") ∷ Name x.0 ∷ Mark (codes "priority") ∷ Number p.0 ∷ Mark (codes "period") ∷ us) (integer_extends q.0 rest more) in
    let is : ws ≡ front q.1 = is ∙ ap (λ (us : List Word). Mark (codes "process") ∷ Name x.0 ∷ Mark (codes "priority") ∷ Number p.0 ∷ Mark (codes "period") ∷ us) (integer_spells bs q.1 q.0 k) in
    refused (expect (codes "capacity") q.1) _ n h
    (λ l. stopped process_words IsProcess ws q.1 n front (a_process x.0 p.0 q.0 zero_integer (Some 0) a_body) capacity_end passes is (expect_left _ q.1 n l) tt (λ rest. refl))
    (λ cs l h.
    let is : ws ≡ front (Mark (codes "capacity") ∷ cs) = is ∙ ap front (expect_spells _ q.1 cs l) in
    refused (integer_at cs) _ n h
    (λ m. inside integer_words No process_words IsProcess ws cs n (λ us. front (Mark (codes "capacity") ∷ us)) (λ r. a_process x.0 p.0 q.0 r (Some 0) a_body) last_words
    (λ rest more. passes (Mark (codes "capacity") ∷ rest) more) is (λ r s. tt) (λ r rest. refl) (integer_begins cs n m))
    (λ r m h.
    let behind : List Word → List Word = λ us. front (Mark (codes "capacity") ∷ integer_words r.0 us) in
    let passes : Front behind = λ rest more. ap (λ (us : List Word). front (Mark (codes "capacity") ∷ us)) (integer_extends r.0 rest more) ∙ passes (Mark (codes "capacity") ∷ integer_words r.0 rest) more in
    let is : ws ≡ behind r.1 = is ∙ ap (λ (us : List Word). front (Mark (codes "capacity") ∷ us)) (integer_spells cs r.1 r.0 m) in
    refused (expect (codes "stack") r.1) _ n h
    (λ o. stopped process_words IsProcess ws r.1 n behind (a_process x.0 p.0 q.0 r.0 (Some 0) a_body) last_words passes is (expect_left _ r.1 n o) tt (λ rest. refl))
    (λ ds o h. let is : ws ≡ behind (Mark (codes "stack") ∷ ds) = is ∙ ap behind (expect_spells _ r.1 ds o) in refused (number_at ds) _ n h
    (λ s. stopped process_words IsProcess ws ds n (λ us. behind (Mark (codes "stack") ∷ us)) (a_process x.0 p.0 q.0 r.0 (Some 0) a_body) (Number (Some 0) ∷ body_end)
    (λ rest more. passes (Mark (codes "stack") ∷ rest) more) is (number_left ds n s) tt (λ rest. refl))
    (λ t s h. refused (body_at t.1) _ n h
    (λ u. inside body_words IsBody process_words IsProcess ws t.1 n (λ us. behind (Mark (codes "stack") ∷ Number t.0 ∷ us)) (λ b. a_process x.0 p.0 q.0 r.0 t.0 b) []
    (λ rest more. passes (Mark (codes "stack") ∷ Number t.0 ∷ rest) more) (is ∙ ap (λ (us : List Word). behind (Mark (codes "stack") ∷ us)) (number_spells ds t.1 t.0 s)) (λ b v. v) (λ b rest. refl) (body_begins t.1 n u))
    (λ b u g. something n _ g)))))))))))

processes_begin : Begins (List tree.Process) (all_words process_words) (Each IsProcess) processes_at
unfolding processes_at
processes_begin ws n h = repeat_begins process_words IsProcess process_turn process_spells process_shapes process_longer process_extends process_begins ws n h

-- programs
abbrev pub whole_words : tree.Program → List Word → List Word
whole_words p rest = all_words declaration_words p.declarations (stack_body_words (codes "init") p.init (handler_words p.handler (all_words process_words p.processes rest)))

abbrev a_program : List tree.Declaration → tree.StackBody → Option tree.StackBody → List tree.Process → tree.Program
a_program ds init handler ps = record { declarations = ds; init = init; handler = handler; processes = ps }

all_left : {X : Type 0} (x : X) (us : List Word) (n : ℕ) → all_read x us ≡ Err n → length us ≡ n
all_left x [] n h = something n x h
all_left x (u ∷ us) n h = cc

pub program_begins : (ws : List Word) (n : ℕ) → program_at ws ≡ Err n → Begun whole_words IsProgram ws n
unfolding program_at
program_begins ws n h = refused (declarations_at ws) _ n h
    (λ e. inside (all_words declaration_words) (Each IsDeclared) whole_words IsProgram ws ws n (λ us. us) (λ ds. a_program ds a_stack_body None []) (Mark (codes "init") ∷ stack_words) (λ rest more. refl) refl (λ ds q. (q, tt, tt, tt)) (λ ds rest. refl) (declarations_begin ws n e))
    (λ ds e h.
    let first : List Word → List Word = all_words declaration_words ds.0 in
    let passes : Front first = all_extend declaration_words declaration_extends ds.0 in
    let is : ws ≡ first ds.1 = declarations_spell ws ds.1 ds.0 e in
    let are = declarations_shape ws ds.1 ds.0 e in
    refused (stack_body_at (codes "init") ds.1) _ n h
    (λ f. inside (stack_body_words (codes "init")) IsStackBody whole_words IsProgram ws ds.1 n first (λ i. a_program ds.0 i None []) [] passes is (λ i q. (are, q, tt, tt)) (λ i rest. refl) (stack_body_begins (codes "init") ds.1 n f))
    (λ i f h.
    let second : List Word → List Word = λ us. first (stack_body_words (codes "init") i.0 us) in
    let passes : Front second = λ rest more. ap first (stack_body_extends (codes "init") i.0 rest more) ∙ passes (stack_body_words (codes "init") i.0 rest) more in
    let is : ws ≡ second i.1 = is ∙ ap first (stack_body_spells (codes "init") ds.1 i.1 i.0 f) in
    let init = stack_body_shapes (codes "init") ds.1 i.1 i.0 f in
    refused (handler_at i.1) _ n h
    (λ g. inside handler_words IsHandler whole_words IsProgram ws i.1 n second (λ x. a_program ds.0 i.0 x []) [] passes is (λ x q. (are, init, q, tt)) (λ x rest. refl) (handler_begins i.1 n g))
    (λ x g h.
    let third : List Word → List Word = λ us. second (handler_words x.0 us) in
    let passes : Front third = λ rest more. ap second (handler_extends x.0 rest more) ∙ passes (handler_words x.0 rest) more in
    let is : ws ≡ third x.1 = is ∙ ap second (handler_spells i.1 x.1 x.0 g) in
    let handler = handler_shapes i.1 x.1 x.0 g in
    refused (processes_at x.1) _ n h
    (λ j. inside (all_words process_words) (Each IsProcess) whole_words IsProgram ws x.1 n third (λ ps. a_program ds.0 i.0 x.0 ps) [] passes is (λ ps q. (are, init, handler, q)) (λ ps rest. refl) (processes_begin x.1 n j))
    (λ ps j h.
    stopped whole_words IsProgram ws ps.1 n (λ us. third (all_words process_words ps.0 us)) (a_program ds.0 i.0 x.0 ps.0) []
    (λ rest more. ap third (all_extend process_words process_extends ps.0 rest more) ∙ passes (all_words process_words ps.0 rest) more)
    (is ∙ ap third (processes_spell x.1 ps.1 ps.0 j)) (all_left _ ps.1 n h) (are, init, handler, processes_shape x.1 ps.1 ps.0 j) (λ rest. refl)))))
