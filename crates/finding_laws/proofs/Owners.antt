-- Where the words of a program begin as a body of it does, they are those of this body.
use Rattle.finding_laws.proofs.Prelude.{◌≡◌, ℕ, suc, Bool, cond, ◌∷◌, ◌++◌, Option, Some, ◌∙◌, subst, Contains, Contains-append_left, Contains-append_right, Contains-push, BodyName, words_from_more, Number, ServiceWord, all_words, declaration_words, kind_words, process_words, stack_body_words, words_of, next_word}
use Rattle.std.proofs.Common.{zero, true, false, List, [], None, refl, sym, ap}
use Rattle.std.specs.Prelude.{codes}
use Rattle.std.proofs.lemmas.List.{append_assoc}
use Rattle.engine_meaning.specs.Digits.{same}
use Rattle.pal.specs.declared.report.BodyName.TheVariants as body
use Rattle.pal_meaning.specs.Grammar.{Word, Mark, Name, Stray, behind_blanks, handler_words, program_words, word_at, words_from}
use Rattle.pal_meaning.specs.Lines.{from_word}
use Rattle.pal_meaning.specs.Syntax as tree
use Rattle.finding_laws.proofs.OfBodies.{beginning_of}
use Rattle.finding_laws.proofs.Starts.{kind_starts, opens, process_starts, stack_body_starts, start_of, starts}
use Rattle.finding_laws.proofs.Words.{next_from}
use Rattle.finding_laws.specs.Passed.{IsBodyOf}

-- ---- the first two of some words

abbrev is_mark : List ℕ → Word → Bool
is_mark mark (Mark text) = same text mark
is_mark mark (Name text) = false
is_mark mark (Number value) = false
is_mark mark (ServiceWord service) = false
is_mark mark Stray = false

abbrev first_is : List ℕ → List Word → Bool
first_is mark [] = false
first_is mark (w ∷ ws) = is_mark mark w

abbrev name_in : Word → List ℕ
name_in (Name text) = text
name_in (Mark text) = []
name_in (Number value) = []
name_in (ServiceWord service) = []
name_in Stray = []

abbrev second_name : List Word → List ℕ
second_name [] = []
second_name (w ∷ []) = []
second_name (w ∷ v ∷ ws) = name_in v

-- ---- the bodies of a program

module _ (p : tree.Program) where
  -- whichever body such words begin, they are its
  abbrev IsOwn : List Word → Type 0
  IsOwn ws = (name : BodyName) (rest : List Word) → ws ≡ beginning_of name ++ rest → IsBodyOf p name ws

  abbrev AreOwn : List (List Word) → Type 0
  AreOwn [] = Unit {0}
  AreOwn (ws ∷ others) = IsOwn ws × AreOwn others

  init_own : (rest : List Word) → IsOwn (stack_body_words (codes "init") p.init rest)
  init_own rest body.Init more is = (rest, refl)
  init_own rest body.Handler more is = let k : false ≡ true = ap (first_is (codes "handler")) is in cc
  init_own rest (body.Process name) more is = let k : false ≡ true = ap (first_is (codes "process")) is in cc
  init_own rest (body.Procedure name) more is = let k : false ≡ true = ap (first_is (codes "proc")) is in cc

  handler_own : (b : tree.StackBody) → p.handler ≡ Some b → (rest : List Word) → IsOwn (stack_body_words (codes "handler") b rest)
  handler_own b has rest body.Init more is = let k : false ≡ true = ap (first_is (codes "init")) is in cc
  handler_own b has rest body.Handler more is = (b, has, rest, refl)
  handler_own b has rest (body.Process name) more is = let k : false ≡ true = ap (first_is (codes "process")) is in cc
  handler_own b has rest (body.Procedure name) more is = let k : false ≡ true = ap (first_is (codes "proc")) is in cc

  process_own : (q : tree.Process) → Contains p.processes q → (rest : List Word) → IsOwn (process_words q rest)
  process_own q has rest body.Init more is = let k : false ≡ true = ap (first_is (codes "init")) is in cc
  process_own q has rest body.Handler more is = let k : false ≡ true = ap (first_is (codes "handler")) is in cc
  process_own q has rest (body.Process name) more is = (q, has, ap second_name is, rest, refl)
  process_own q has rest (body.Procedure name) more is = let k : false ≡ true = ap (first_is (codes "proc")) is in cc

  procedure_own : (x : List ℕ) (xs : List (List ℕ)) (b : tree.Body) → Contains p.declarations (record { name = x; kind = tree.Procedure xs b }) → (rest : List Word) → IsOwn (kind_words x (tree.Procedure xs b) rest)
  procedure_own x xs b has rest body.Init more is = let k : false ≡ true = ap (first_is (codes "init")) is in cc
  procedure_own x xs b has rest body.Handler more is = let k : false ≡ true = ap (first_is (codes "handler")) is in cc
  procedure_own x xs b has rest (body.Process name) more is = let k : false ≡ true = ap (first_is (codes "process")) is in cc
  procedure_own x xs b has rest (body.Procedure name) more is =
      let same_name : x ≡ name = ap second_name is in
      (xs, b, subst (λ n. Contains p.declarations (record { name = n; kind = tree.Procedure xs b })) same_name has, rest, ap (λ n. kind_words n (tree.Procedure xs b) rest) same_name)

  processes_own : (qs : List tree.Process) → ((q : tree.Process) → Contains qs q → Contains p.processes q) → AreOwn (starts (all_words process_words qs []))
  processes_own [] all = tt
  processes_own (q ∷ qs) all =
      subst AreOwn (sym (process_starts q (all_words process_words qs [])))
      (process_own q (all q (Contains-append_left (q ∷ []) qs q (Contains-push [] q))) (all_words process_words qs []), processes_own qs (λ r has. all r (Contains-append_right (q ∷ []) qs r has)))

  handlers_own : (handler : Option tree.StackBody) → p.handler ≡ handler → (rest : List Word) → AreOwn (starts rest) → AreOwn (starts (handler_words handler rest))
  handlers_own None has rest others = others
  handlers_own (Some b) has rest others = subst AreOwn (sym (stack_body_starts (codes "handler") b rest refl)) (handler_own b has rest, others)

  kind_own : (x : List ℕ) (kind : tree.Kind) → Contains p.declarations (record { name = x; kind = kind }) → (rest : List Word) → AreOwn (starts rest) → AreOwn (start_of x kind rest (starts rest))
  kind_own x (tree.Procedure xs b) has rest others = (procedure_own x xs b has rest, others)
  kind_own x (tree.Variable value) has rest others = others
  kind_own x (tree.Array size values) has rest others = others
  kind_own x (tree.Semaphore first maximum d) has rest others = others
  kind_own x tree.Event has rest others = others
  kind_own x (tree.Buffer words messages d) has rest others = others
  kind_own x (tree.Blackboard words) has rest others = others
  kind_own x tree.Port has rest others = others

  declarations_own : (ds : List tree.Declaration) → ((d : tree.Declaration) → Contains ds d → Contains p.declarations d) → (rest : List Word) → AreOwn (starts rest) → AreOwn (starts (all_words declaration_words ds rest))
  declarations_own [] all rest others = others
  declarations_own (d ∷ ds) all rest others =
      let behind : List Word = all_words declaration_words ds rest in
      subst AreOwn (sym (kind_starts d.name d.kind behind))
      (kind_own d.name d.kind (all d (Contains-append_left (d ∷ []) ds d (Contains-push [] d))) behind (declarations_own ds (λ e has. all e (Contains-append_right (d ∷ []) ds e has)) rest others))

  program_own : AreOwn (starts (program_words p))
  unfolding program_words
  program_own =
      let behind_init : List Word = handler_words p.handler (all_words process_words p.processes []) in
      declarations_own p.declarations (λ d has. has) (stack_body_words (codes "init") p.init behind_init)
      (subst AreOwn (sym (stack_body_starts (codes "init") p.init behind_init refl)) (init_own behind_init, handlers_own p.handler refl (all_words process_words p.processes []) (processes_own p.processes (λ q has. has))))

  -- ---- words among those of the program

  own_among : (front ws : List Word) (w : Word) → opens w ≡ true → AreOwn (starts (front ++ w ∷ ws)) → IsOwn (w ∷ ws)
  own_among [] ws w is all = (subst AreOwn (ap (λ t. cond t ((w ∷ ws) ∷ starts ws) (starts ws)) is) all).0
  own_among (v ∷ front) ws w is all = own_among front ws w is (by (opens v) all)
    where
      by : (t : Bool) → AreOwn (cond t ((v ∷ front ++ w ∷ ws) ∷ starts (front ++ w ∷ ws)) (starts (front ++ w ∷ ws))) → AreOwn (starts (front ++ w ∷ ws))
      by true all = all.1
      by false all = all

  own_beginning : (name : BodyName) (front rest : List Word) → AreOwn (starts (front ++ (beginning_of name ++ rest))) → IsBodyOf p name (beginning_of name ++ rest)
  own_beginning body.Init front rest all = own_among front rest (Mark (codes "init")) refl all body.Init rest refl
  own_beginning body.Handler front rest all = own_among front rest (Mark (codes "handler")) refl all body.Handler rest refl
  own_beginning (body.Process name) front rest all = own_among front (Name name ∷ rest) (Mark (codes "process")) refl all (body.Process name) rest refl
  own_beginning (body.Procedure name) front rest all = own_among front (Name name ∷ rest) (Mark (codes "proc")) refl all (body.Procedure name) rest refl

-- the words of a text from one of them on follow the words before it
words_behind : (n : ℕ) (text : List ℕ) → (front : List Word) × (words_of text ≡ front ++ words_from (from_word n text))
unfolding from_word behind_blanks word_at
words_behind zero text = ([], refl)
words_behind (suc n) text = let before = words_behind n text in subst (λ t. (front : List Word) × (words_of text ≡ front ++ words_from t)) (next_from n text) (by (from_word n text) before.0 before.1)
  where
    by : (t : List ℕ) (front : List Word) → words_of text ≡ front ++ words_from t → (front : List Word) × (words_of text ≡ front ++ words_from (next_word t))
    by [] front is = (front, is)
    by (b ∷ bs) front is = (front ++ (word_at (b ∷ bs)).0 ∷ [], is ∙ ap (λ (ws : List Word). front ++ ws) (words_from_more b bs) ∙ sym (append_assoc front ((word_at (b ∷ bs)).0 ∷ []) _))

pub body_there : (text : List ℕ) (p : tree.Program) (n : ℕ) (name : BodyName) (rest : List Word) → words_of text ≡ program_words p → words_from (from_word n text) ≡ beginning_of name ++ rest
    → IsBodyOf p name (words_from (from_word n text))
body_there text p n name rest whole is =
    let before = words_behind n text in
    let parts : program_words p ≡ before.0 ++ (beginning_of name ++ rest) = sym whole ∙ before.1 ∙ ap (λ (ws : List Word). before.0 ++ ws) is in
    subst (IsBodyOf p name) (sym is) (own_beginning p name before.0 rest (subst (λ (ws : List Word). AreOwn p (starts ws)) parts (program_own p)))
