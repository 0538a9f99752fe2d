-- A walk keeps to the words of the text, and what it finds is said of the word where it is.
use Rattle.finding_laws.proofs.Prelude.{◌≡◌, ℕ, suc, ◌+◌, Bool, cond, ◌∷◌, ◌++◌, codes, Option, Some, ◌∙◌, nat_lt, arguments_of, GREATEST_PRIORITY, LEAST_STACK_WORDS, MOST_DEPTH, MOST_LOCALS, MOST_PARAMETERS, MOST_PROCESSES, MOST_SEMAPHORE_VALUE, MOST_STACK_WORDS, MOST_WORDS, MOST_WORK_TICKS, Service, ArgumentKind, Refusal, words_from_more, all_words, arguments_words, block_words, body_words, expr_words, first_words, integer_words, kind_words, links_words, local_words, names_words, next_name, process_words, stack_body_words, stmt_words, targets_words, values_words, words_of, declaration_words, expr_count, body_frame, held, procedure_frame, Judge, arguments_wrong, by_limit, capacity_wrong, frame_wrong, many_wrong, name_wrong, new_wrong, no_name_wrong, no_time, number_wrong, odd, outside_wrong, period_wrong, return_wrong, targets_wrong, Entry, declaration_entry, own_entry, process_entry, Tally, counted, no_tally, tally_wrong, all_given, block, comma, expr, exprs, given, links, service_call, stmt, targets, used, State, What, Wrong, noted, pushed, step, Many, Thing, Role, next_word}
use Rattle.std.proofs.Common.{zero, true, false, List, [], length, None, IfSome, refl, sym, ap}
use Rattle.apex_types.specs.declared.shape.ArgumentKind.TheVariants as argument
use Rattle.pal_base.specs.declared.fault.Refusal.TheVariants as rule
use Rattle.pal_laws.proofs.WordsOf.{words_from_none}
use Rattle.pal_meaning.specs.Grammar.{Word, behind_blanks, comma as comma_words, handler_words, program_words, word_at, words_from}
use Rattle.pal_meaning.specs.Grammar as grammar
use Rattle.pal_meaning.specs.Lines.{from_word}
use Rattle.pal_meaning.specs.Syntax as written
use Rattle.finding_laws.specs.Placed.{ArePlaced, IsPlaced, IsSaidOf}
use Rattle.source_findings.specs.Bodies as walk
use Rattle.source_findings.specs.Judged.{by_kind, by_rule, long, other, outside, small, too_large, unknown, unless}
use Rattle.source_findings.specs.Walk.{named}
use Rattle.source_findings.specs.What.{judged}
use Rattle.source_findings.specs.declared.finding.Many.TheVariants as many
use Rattle.source_findings.specs.declared.finding.Thing.TheVariants as thing
use Rattle.source_findings.specs.declared.roles.Role.TheVariants as role

-- ---- the words of a text, one after another

abbrev first_of : Word → List Word → Word
first_of other [] = other
first_of other (w ∷ ws) = w

abbrev rest_of : List Word → List Word
rest_of [] = []
rest_of (w ∷ ws) = ws

pub word_here : (t : List ℕ) (w : Word) (ws : List Word) → words_from t ≡ w ∷ ws → ((word_at t).0 ≡ w) × (words_from (next_word t) ≡ ws)
word_here [] w ws h = let k : [] ≡ w ∷ ws = sym words_from_none ∙ h in cc
word_here (b ∷ bs) w ws h =
    let k : (word_at (b ∷ bs)).0 ∷ words_from (next_word (b ∷ bs)) ≡ w ∷ ws = sym (words_from_more b bs) ∙ h in
    (ap (first_of w) k, ap rest_of k)

pub next_from : (n : ℕ) (text : List ℕ) → next_word (from_word n text) ≡ from_word (suc n) text
unfolding from_word
next_from zero text = refl
next_from (suc n) text = next_from n (word_at (behind_blanks false text)).1

placed_more : (text : List ℕ) (ws : List Wrong) (w : Wrong) → ArePlaced text ws → IsPlaced text w → ArePlaced text (ws ++ w ∷ [])
placed_more text [] w h k = (k, tt)
placed_more text (v ∷ ws) w h k = (h.0, placed_more text ws w h.1 k)

module _ (source : List ℕ) where
  -- The walk is at a word of the source, these are the words from that word on, and what was found has its place.
  abbrev pub IsAt : State → List Word → Type 0
  IsAt s ws = ((n : ℕ) × (s.text ≡ from_word n source)) × (words_from s.text ≡ ws) × ArePlaced source s.found

  stepped : (s : State) (w : Word) (ws : List Word) → IsAt s (w ∷ ws) → IsAt (step s) ws
  stepped s w ws h =
      ((suc h.0.0, ap next_word h.0.1 ∙ next_from h.0.0 source), (word_here s.text w ws h.1).1, h.2)

  -- what is said of a word, if anything is
  abbrev Says : Option What → Word → Type 0
  Says what w = IfSome what (λ x. IsSaidOf x w)

  pushed_at : (what : Option What) (s : State) (w : Word) (ws : List Word) → IsAt s (w ∷ ws) → Says what w → IsAt (pushed what s) (w ∷ ws)
  pushed_at None s w ws h k = h
  pushed_at (Some x) s w ws h k =
      let here : IsPlaced source (record { left = length s.text; what = x }) =
      (w, (h.0.0, ap length h.0.1, ap (λ t. (word_at t).0) (sym h.0.1) ∙ (word_here s.text w ws h.1).0), k) in
      (h.0, h.1, placed_more source s.found (record { left = length s.text; what = x }) h.2 here)

  noted_at : (what : Option What) (s : State) (w : Word) (ws : List Word) → IsAt s (w ∷ ws) → Says what w → IsAt (noted what s) (w ∷ ws)
  noted_at what s w ws h k = by (nat_lt (length s.found) 20)
    where
      by : (b : Bool) → IsAt (cond b (pushed what s) s) (w ∷ ws)
      by true = pushed_at what s w ws h k
      by false = h

  judged_at : (what : Option What) (s : State) (w : Word) (ws : List Word) → IsAt s (w ∷ ws) → Says what w → IsAt (judged what s) ws
  judged_at what s w ws h k = stepped (noted what s) w ws (noted_at what s w ws h k)

-- ---- what is said of which word

says_unless : (b : Bool) (x : What) (w : Word) → IsSaidOf x w → IfSome (unless b x) (λ y. IsSaidOf y w)
says_unless true x w h = tt
says_unless false x w h = h

says_cond : (b : Bool) (x : What) (w : Word) → IsSaidOf x w → IfSome (cond {A = Option What} b None (Some x)) (λ y. IsSaidOf y w)
says_cond true x w h = tt
says_cond false x w h = h

by_rule_says : (r : Refusal) (a b c : Option What) (w : Word) → IfSome a (λ y. IsSaidOf y w) → IfSome b (λ y. IsSaidOf y w) → IfSome c (λ y. IsSaidOf y w) → IfSome (by_rule r a b c) (λ y. IsSaidOf y w)
by_rule_says rule.Name a b c w p q r = p
by_rule_says rule.Kind a b c w p q r = q
by_rule_says rule.Limit a b c w p q r = r
by_rule_says rule.Text a b c w p q r = tt
by_rule_says rule.Grammar a b c w p q r = tt
by_rule_says rule.Period a b c w p q r = tt
by_rule_says rule.Memory a b c w p q r = tt

by_kind_says : (r : Refusal) (a : Option What) (w : Word) → IfSome a (λ y. IsSaidOf y w) → IfSome (by_kind r a) (λ y. IsSaidOf y w)
by_kind_says rule.Kind a w p = p
by_kind_says rule.Name a w p = tt
by_kind_says rule.Limit a w p = tt
by_kind_says rule.Text a w p = tt
by_kind_says rule.Grammar a w p = tt
by_kind_says rule.Period a w p = tt
by_kind_says rule.Memory a w p = tt

by_limit_says : (r : Refusal) (a : Option What) (w : Word) → IfSome a (λ y. IsSaidOf y w) → IfSome (by_limit r a) (λ y. IsSaidOf y w)
by_limit_says rule.Limit a w p = p
by_limit_says rule.Name a w p = tt
by_limit_says rule.Kind a w p = tt
by_limit_says rule.Text a w p = tt
by_limit_says rule.Grammar a w p = tt
by_limit_says rule.Period a w p = tt
by_limit_says rule.Memory a w p = tt

name_says : (j : Judge) (name : List ℕ) (wanted : Role) → IfSome (name_wrong j name wanted) (λ y. IsSaidOf y (grammar.Name name))
name_says j name wanted =
    by_rule_says j.rule (unknown j name) (other j name wanted) (long name) (grammar.Name name) (says_cond _ _ (grammar.Name name) refl) (says_unless _ _ (grammar.Name name) refl) (says_unless _ _ (grammar.Name name) refl)

new_says : (j : Judge) (name : List ℕ) → IfSome (new_wrong j name) (λ y. IsSaidOf y (grammar.Name name))
new_says j name = by_rule_says j.rule _ None (long name) (grammar.Name name) (says_unless _ _ (grammar.Name name) refl) tt (says_unless _ _ (grammar.Name name) refl)

large_says : (n : Option ℕ) (w : Word) → IfSome (too_large n) (λ y. IsSaidOf y w)
large_says None w = tt
large_says (Some n) w = tt

number_says : (r : Refusal) (n : Option ℕ) (w : Word) → IfSome (number_wrong r n) (λ y. IsSaidOf y w)
number_says r n w = by_limit_says r (too_large n) w (large_says n w)

within_says : (t : Thing) (low high : ℕ) (n : Option ℕ) → IfSome (outside t low high n) (λ y. IsSaidOf y (grammar.Number n))
within_says t low high None = tt
within_says t low high (Some n) = says_unless _ _ (grammar.Number (Some n)) refl

outside_says : (r : Refusal) (t : Thing) (low high : ℕ) (n : Option ℕ) → IfSome (outside_wrong r t low high n) (λ y. IsSaidOf y (grammar.Number n))
outside_says r t low high n = by_limit_says r (outside t low high n) (grammar.Number n) (within_says t low high n)

many_says : (r : Refusal) (t : Many) (n most : ℕ) (w : Word) → IfSome (many_wrong r t n most) (λ y. IsSaidOf y w)
many_says r t n most w = by_limit_says r _ w (says_unless _ _ w tt)

frame_says : (r : Refusal) (words : ℕ) (stack : Option ℕ) (w : Word) → IfSome (frame_wrong r words stack) (λ y. IsSaidOf y w)
frame_says r words None w = tt
frame_says r words (Some stack) w = by_limit_says r (small words stack) w (says_unless _ _ w tt)

tally_says : (r : Refusal) (t : Tally) (k : written.Kind) (w : Word) → IfSome (tally_wrong r t k) (λ y. IsSaidOf y w)
tally_says r t (written.Variable value) w = many_says r _ _ _ w
tally_says r t (written.Array size values) w = many_says r _ _ _ w
tally_says r t (written.Semaphore first maximum discipline) w = many_says r _ _ _ w
tally_says r t written.Event w = many_says r _ _ _ w
tally_says r t (written.Buffer words messages discipline) w = many_says r _ _ _ w
tally_says r t (written.Blackboard words) w = many_says r _ _ _ w
tally_says r t written.Port w = many_says r _ _ _ w
tally_says r t (written.Procedure names b) w = many_says r _ _ _ w

time_says : (t : Thing) (b : Bool) (n : Option ℕ) (w : Word) → IfSome (no_time t b n) (λ y. IsSaidOf y w)
time_says t b None w = tt
time_says t true (Some n) w = says_unless _ _ w tt
time_says t false (Some n) w = says_unless _ _ w tt

-- the first word of a number with its sign
abbrev sign_of : written.Integer → Word
sign_of n = cond n.negative (grammar.Mark (codes "-")) (grammar.Number n.magnitude)

odd_says : (partition : ℕ) (b : Bool) (n : Option ℕ) → IfSome (odd partition b n) (λ y. IsSaidOf y (cond b (grammar.Mark (codes "-")) (grammar.Number n)))
odd_says partition true n = tt
odd_says partition false None = tt
odd_says partition false (Some n) = says_unless _ _ (grammar.Number (Some n)) refl

period_says : (r : Refusal) (partition : ℕ) (n : written.Integer) → IfSome (period_wrong r partition n) (λ y. IsSaidOf y (sign_of n))
period_says rule.Limit partition n = time_says thing.Period n.negative n.magnitude (sign_of n)
period_says rule.Period partition n = odd_says partition n.negative n.magnitude
period_says rule.Name partition n = tt
period_says rule.Kind partition n = tt
period_says rule.Text partition n = tt
period_says rule.Grammar partition n = tt
period_says rule.Memory partition n = tt

capacity_says : (r : Refusal) (n : written.Integer) → IfSome (capacity_wrong r n) (λ y. IsSaidOf y (sign_of n))
capacity_says r n = by_limit_says r (no_time thing.Capacity n.negative n.magnitude) (sign_of n) (time_says thing.Capacity n.negative n.magnitude (sign_of n))

-- ---- expressions

-- an expression begins with a word
begins : (e : written.Expr) (rest : List Word) → (w : Word) × (ws : List Word) × (expr_words e rest ≡ w ∷ ws)
begins (written.Number value) rest = (_, _, refl)
begins (written.Name name) rest = (_, _, refl)
begins (written.Element array index) rest = (_, _, refl)
begins (written.Apply procedure arguments) rest = (_, _, refl)
begins (written.Parenthesis inside) rest = (_, _, refl)
begins (written.Unary operator operand) rest = (_, _, refl)
begins (written.Chain first ls) rest = begins first (links_words ls rest)

module _ (source : List ℕ) (j : Judge) where
  used_at : (wanted : Role) (name : List ℕ) (s : State) (ws : List Word) → IsAt source s (grammar.Name name ∷ ws) → IsAt source (used j wanted name s) ws
  used_at wanted name s ws h = judged_at source (name_wrong j name wanted) s (grammar.Name name) ws h (name_says j name wanted)

  comma_at : (first : Bool) (s : State) (ws : List Word) → IsAt source s (comma_words first ws) → IsAt source (comma first s) ws
  comma_at true s ws h = h
  comma_at false s ws h = stepped source s (grammar.Mark (codes ",")) ws h

  mutual
    expr_at : (e : written.Expr) (s : State) (rest : List Word) → IsAt source s (expr_words e rest) → IsAt source (expr j e s) rest
    expr_at (written.Number value) s rest h = judged_at source (number_wrong j.rule value) s (grammar.Number value) rest h (number_says j.rule value (grammar.Number value))
    expr_at (written.Name name) s rest h = used_at role.Variable name s rest h
    expr_at (written.Element array index) s rest h =
        stepped source _ _ rest (expr_at index _ _ (stepped source _ _ _ (used_at role.Array array s _ h)))
    expr_at (written.Apply procedure arguments) s rest h =
        stepped source _ _ rest (exprs_at arguments true _ _ (stepped source _ _ _ (used_at (role.Procedure (expr_count arguments)) procedure s _ h)))
    expr_at (written.Parenthesis inside) s rest h = stepped source _ _ rest (expr_at inside _ _ (stepped source s _ _ h))
    expr_at (written.Unary operator operand) s rest h = expr_at operand _ rest (stepped source s _ _ h)
    expr_at (written.Chain first ls) s rest h = links_at ls _ rest (expr_at first s (links_words ls rest) h)

    links_at : (ls : written.Links) (s : State) (rest : List Word) → IsAt source s (links_words ls rest) → IsAt source (links j ls s) rest
    links_at written.NoLink s rest h = h
    links_at (written.MoreLinks operator operand ls) s rest h = links_at ls _ rest (expr_at operand _ (links_words ls rest) (stepped source s _ _ h))

    exprs_at : (es : written.Exprs) (first : Bool) (s : State) (rest : List Word) → IsAt source s (arguments_words es first rest) → IsAt source (exprs j es first s) rest
    exprs_at written.NoExpr first s rest h = h
    exprs_at (written.MoreExprs e es) first s rest h = exprs_at es false _ rest (expr_at e _ (arguments_words es false rest) (comma_at first s _ h))

  -- ---- services

  -- nothing is said of a word before an expression
  no_name_at : (wanted : Role) (e : written.Expr) (s : State) (rest : List Word) → IsAt source s (expr_words e rest) → IsAt source (expr j e (noted (no_name_wrong j.rule wanted) s)) rest
  no_name_at wanted e s rest h =
      let first = begins e rest in
      let at : IsAt source s (first.0 ∷ first.1) = (h.0, h.1 ∙ first.2, h.2) in
      let noted_there = noted_at source (no_name_wrong j.rule wanted) s first.0 first.1 at (by_kind_says j.rule _ first.0 tt) in
      expr_at e (noted (no_name_wrong j.rule wanted) s) rest (noted_there.0, noted_there.1 ∙ sym first.2, noted_there.2)

  named_at : (wanted : Role) (e : written.Expr) (s : State) (rest : List Word) → IsAt source s (expr_words e rest) → IsAt source (named j wanted e s) rest
  named_at wanted (written.Name name) s rest h = used_at wanted name s rest h
  named_at wanted (written.Number value) s rest h = no_name_at wanted (written.Number value) s rest h
  named_at wanted (written.Element array index) s rest h = no_name_at wanted (written.Element array index) s rest h
  named_at wanted (written.Apply procedure arguments) s rest h = no_name_at wanted (written.Apply procedure arguments) s rest h
  named_at wanted (written.Parenthesis inside) s rest h = no_name_at wanted (written.Parenthesis inside) s rest h
  named_at wanted (written.Unary operator operand) s rest h = no_name_at wanted (written.Unary operator operand) s rest h
  named_at wanted (written.Chain first ls) s rest h = no_name_at wanted (written.Chain first ls) s rest h

  given_at : (k : ArgumentKind) (e : written.Expr) (s : State) (rest : List Word) → IsAt source s (expr_words e rest) → IsAt source (given j k e s) rest
  given_at argument.Word e s rest h = expr_at e s rest h
  given_at argument.Array e s rest h = named_at role.Array e s rest h
  given_at (argument.Object kind) e s rest h = named_at (role.Object kind) e s rest h

  all_given_at : (ks : List ArgumentKind) (es : written.Exprs) (first : Bool) (s : State) (rest : List Word) → IsAt source s (arguments_words es first rest) → IsAt source (all_given j ks es first s) rest
  all_given_at ks written.NoExpr first s rest h = h
  all_given_at [] (written.MoreExprs e es) first s rest h = all_given_at [] es false _ rest (expr_at e _ (arguments_words es false rest) (comma_at first s _ h))
  all_given_at (k ∷ ks) (written.MoreExprs e es) first s rest h = all_given_at ks es false _ rest (given_at k e _ (arguments_words es false rest) (comma_at first s _ h))

  more_targets_at : (names : List (List ℕ)) (s : State) (rest : List Word) → IsAt source s (all_words next_name names rest) → IsAt source (targets j names s) rest
  more_targets_at [] s rest h = h
  more_targets_at (name ∷ names) s rest h = more_targets_at names _ rest (used_at role.Variable name _ (all_words next_name names rest) (stepped source s _ _ h))

  targets_at : (names : List (List ℕ)) (s : State) (rest : List Word) → IsAt source s (targets_words names rest) → IsAt source (targets j names s) rest
  targets_at [] s rest h = h
  targets_at (name ∷ names) s rest h = more_targets_at names _ rest (used_at role.Variable name _ (all_words next_name names rest) (stepped source s _ _ h))

  call_at : (service : Service) (es : written.Exprs) (names : List (List ℕ)) (s : State) (rest : List Word)
      → IsAt source s (stmt_words (written.CallService service es names) rest) → IsAt source (service_call j service es names s) (grammar.Mark (codes ";") ∷ rest)
  call_at service es names s rest h =
      let word : Word = grammar.ServiceWord service in
      let one = noted_at source (arguments_wrong j.rule service (expr_count es)) s word _ h (by_kind_says j.rule _ word (says_unless _ _ word refl)) in
      let two = judged_at source (targets_wrong j.rule service (length names)) _ word _ one (by_kind_says j.rule _ word (says_unless _ _ word refl)) in
      targets_at names _ (grammar.Mark (codes ";") ∷ rest) (stepped source _ _ _ (all_given_at (arguments_of service) es true _ _ (stepped source _ _ _ two)))

  -- ---- statements

  mutual
    -- but for the semicolon or the brace that ends it
    stmt_at : (returns : Bool) (t : written.Stmt) (s : State) (rest : List Word) → IsAt source s (stmt_words t rest) → IsAt source (step (stmt j returns t s)) rest
    stmt_at returns (written.Assign target value) s rest h = stepped source _ _ rest (expr_at value _ _ (stepped source _ _ _ (used_at role.Variable target s _ h)))
    stmt_at returns (written.AssignElement array index value) s rest h =
        stepped source _ _ rest (expr_at value _ _ (stepped source _ _ _ (stepped source _ _ _ (expr_at index _ _ (stepped source _ _ _ (used_at role.Array array s _ h))))))
    stmt_at returns (written.If test inside) s rest h = stepped source _ _ rest (block_at returns inside _ _ (stepped source _ _ _ (expr_at test _ _ (stepped source s _ _ h))))
    stmt_at returns (written.IfElse test inside other) s rest h =
        stepped source _ _ rest (block_at returns other _ _ (stepped source _ _ _ (stepped source _ _ _ (stepped source _ _ _ (block_at returns inside _ _ (stepped source _ _ _ (expr_at test _ _ (stepped source s _ _ h))))))))
    stmt_at returns (written.While test inside) s rest h = stepped source _ _ rest (block_at returns inside _ _ (stepped source _ _ _ (expr_at test _ _ (stepped source s _ _ h))))
    stmt_at returns (written.Work ticks) s rest h =
        stepped source _ _ rest (judged_at source (outside_wrong j.rule thing.Work 1 MOST_WORK_TICKS ticks) _ (grammar.Number ticks) _ (stepped source s _ _ h) (outside_says j.rule thing.Work 1 MOST_WORK_TICKS ticks))
    stmt_at returns (written.Return value) s rest h =
        stepped source _ _ rest (expr_at value _ _ (judged_at source (return_wrong j.rule returns) s (grammar.Mark (codes "return")) _ h (by_kind_says j.rule _ (grammar.Mark (codes "return")) (says_unless _ _ (grammar.Mark (codes "return")) refl))))
    stmt_at returns (written.CallService service es names) s rest h = stepped source _ _ rest (call_at service es names s rest h)

    block_at : (returns : Bool) (b : written.Block) (s : State) (rest : List Word) → IsAt source s (block_words b rest) → IsAt source (block j returns b s) rest
    block_at returns written.NoStmt s rest h = h
    block_at returns (written.MoreStmts first more) s rest h = block_at returns more _ rest (stmt_at returns first s (block_words more rest) h)

-- ---- bodies

module _ (source : List ℕ) where
  new_at : (j : Judge) (name : List ℕ) (s : State) (ws : List Word) → IsAt source s (grammar.Name name ∷ ws) → IsAt source (judged (new_wrong j name) s) ws
  new_at j name s ws h = judged_at source (new_wrong j name) s (grammar.Name name) ws h (new_says j name)

  more_parameters_at : (j : Judge) (before : List Entry) (names : List (List ℕ)) (s : State) (rest : List Word) → IsAt source s (all_words next_name names rest) → IsAt source (walk.parameters j before names false s) rest
  more_parameters_at j before [] s rest h = h
  more_parameters_at j before (name ∷ names) s rest h =
      more_parameters_at j (before ++ own_entry name ∷ []) names _ rest (new_at (walk.within j before) name _ (all_words next_name names rest) (stepped source s _ _ h))

  parameters_at : (j : Judge) (names : List (List ℕ)) (s : State) (rest : List Word) → IsAt source s (names_words names rest) → IsAt source (walk.parameters j [] names true s) rest
  parameters_at j [] s rest h = h
  parameters_at j (name ∷ names) s rest h = more_parameters_at j (own_entry name ∷ []) names _ rest (new_at (walk.within j []) name s (all_words next_name names rest) h)

  locals_at : (j : Judge) (before : List Entry) (names : List (List ℕ)) (s : State) (rest : List Word) → IsAt source s (all_words local_words names rest) → IsAt source (walk.locals j before names s) rest
  locals_at j before [] s rest h = h
  locals_at j before (name ∷ names) s rest h =
      locals_at j (before ++ own_entry name ∷ []) names _ rest (stepped source _ _ (all_words local_words names rest) (new_at (walk.within j before) name _ _ (stepped source s _ _ h)))

  body_at : (j : Judge) (returns : Bool) (before : List Entry) (frame : Option What) (b : written.Body) (s : State) (rest : List Word)
      → IsAt source s (body_words b rest) → IfSome frame (λ y. IsSaidOf y (grammar.Mark (codes "{"))) → IsAt source (walk.body j returns before frame b s) rest
  body_at j returns before frame b s rest h k =
      let word : Word = grammar.Mark (codes "{") in
      let one = noted_at source frame s word _ h k in
      let two = judged_at source (many_wrong j.rule many.Locals (length b.locals) MOST_LOCALS) _ word _ one (many_says j.rule many.Locals (length b.locals) MOST_LOCALS word) in
      stepped source _ _ rest (block_at source (walk.within j (walk.with_own before b.locals)) returns b.block _ _ (locals_at j before b.locals _ _ two))

  stack_at : (j : Judge) (stack : Option ℕ) (b : written.Body) (s : State) (rest : List Word)
      → IsAt source s (grammar.Mark (codes "stack") ∷ grammar.Number stack ∷ body_words b rest) → IsAt source (walk.stack_and_body j stack b s) rest
  stack_at j stack b s rest h =
      body_at j false [] (frame_wrong j.rule (body_frame b) stack) b _ rest
      (judged_at source (outside_wrong j.rule thing.Stack LEAST_STACK_WORDS MOST_STACK_WORDS stack) _ (grammar.Number stack) _ (stepped source s _ _ h) (outside_says j.rule thing.Stack LEAST_STACK_WORDS MOST_STACK_WORDS stack))
      (frame_says j.rule (body_frame b) stack (grammar.Mark (codes "{")))

  stack_body_at : (j : Judge) (mark : List ℕ) (b : written.StackBody) (s : State) (rest : List Word) → IsAt source s (stack_body_words mark b rest) → IsAt source (walk.stack_body j b s) rest
  stack_body_at j mark b s rest h = stack_at j b.stack b.body _ rest (stepped source s _ _ h)

  handler_at : (j : Judge) (b : Option written.StackBody) (s : State) (rest : List Word) → IsAt source s (handler_words b rest) → IsAt source (walk.handler j b s) rest
  handler_at j None s rest h = h
  handler_at j (Some b) s rest h = stack_body_at j (codes "handler") b s rest h

  -- ---- declarations

  signed_at : (what : Option What) (n : written.Integer) (s : State) (rest : List Word) → IsAt source s (integer_words n rest) → IfSome what (λ y. IsSaidOf y (sign_of n)) → IsAt source (walk.signed what n s) rest
  signed_at what n s rest h k = by n.negative h k
    where
      by : (b : Bool) → IsAt source s (cond b (grammar.Mark (codes "-") ∷ grammar.Number n.magnitude ∷ rest) (grammar.Number n.magnitude ∷ rest))
          → IfSome what (λ y. IsSaidOf y (cond b (grammar.Mark (codes "-")) (grammar.Number n.magnitude))) → IsAt source (cond b (step (judged what s)) (judged what s)) rest
      by true h k = stepped source _ _ rest (judged_at source what s (grammar.Mark (codes "-")) _ h k)
      by false h k = judged_at source what s (grammar.Number n.magnitude) rest h k

  word_at_ : (j : Judge) (n : written.Integer) (s : State) (rest : List Word) → IsAt source s (integer_words n rest) → IsAt source (walk.word j n s) rest
  word_at_ j n s rest h = signed_at (number_wrong j.rule n.magnitude) n s rest h (number_says j.rule n.magnitude (sign_of n))

  words_at : (j : Judge) (ns : List written.Integer) (s : State) (rest : List Word) → IsAt source s (all_words integer_words ns rest) → IsAt source (walk.words j ns s) rest
  words_at j [] s rest h = h
  words_at j (n ∷ ns) s rest h = words_at j ns _ rest (word_at_ j n s (all_words integer_words ns rest) h)

  first_value_at : (j : Judge) (value : Option written.Integer) (s : State) (rest : List Word) → IsAt source s (first_words value rest) → IsAt source (walk.first_value j value s) rest
  first_value_at j None s rest h = h
  first_value_at j (Some n) s rest h = word_at_ j n _ rest (stepped source s _ _ h)

  first_values_at : (j : Judge) (ns : List written.Integer) (s : State) (rest : List Word) → IsAt source s (values_words ns rest) → IsAt source (walk.first_values j ns s) rest
  first_values_at j [] s rest h = h
  first_values_at j (n ∷ ns) s rest h = words_at j (n ∷ ns) _ rest (stepped source s _ _ h)

  size_says : (r : Refusal) (values : ℕ) (size : Option ℕ) → IfSome (by_limit r (walk.size_wrong values size)) (λ y. IsSaidOf y (grammar.Number size))
  size_says r values None = by_limit_says r _ _ tt
  size_says r values (Some size) = by_limit_says r _ (grammar.Number (Some size)) (says_unless _ _ (grammar.Number (Some size)) tt)

  first_says : (r : Refusal) (first maximum : Option ℕ) → IfSome (by_limit r (walk.first_wrong first maximum)) (λ y. IsSaidOf y (grammar.Number first))
  first_says r None maximum = by_limit_says r _ _ tt
  first_says r (Some first) None = by_limit_says r None (grammar.Number (Some first)) tt
  first_says r (Some first) (Some maximum) = by_limit_says r _ (grammar.Number (Some first)) (says_unless _ _ (grammar.Number (Some first)) refl)

  -- a declaration after the word of its kind
  kind_at : (j : Judge) (before : List Entry) (what : Option What) (name : List ℕ) (k : written.Kind) (s : State) (rest : List Word)
      → IsAt source s (kind_words name k rest) → ((w : Word) → IfSome what (λ y. IsSaidOf y w)) → IsAt source (walk.kind j k (walk.declared_name j before name (judged what s))) rest
  kind_at j before what name (written.Variable value) s rest h k =
      stepped source _ _ rest (first_value_at j value _ _ (new_at (walk.among j before) name _ _ (judged_at source what s _ _ h (k _))))
  kind_at j before what name (written.Array size values) s rest h k =
      stepped source _ _ rest (first_values_at j values _ _ (stepped source _ _ _ (judged_at source _ _ (grammar.Number size) _ (stepped source _ _ _ (new_at (walk.among j before) name _ _ (judged_at source what s _ _ h (k _)))) (size_says j.rule (length values) size))))
  kind_at j before what name (written.Semaphore first maximum d) s rest h k =
      stepped source _ _ rest (stepped source _ _ _ (judged_at source _ _ (grammar.Number maximum) _
      (judged_at source _ _ (grammar.Number first) _ (new_at (walk.among j before) name _ _ (judged_at source what s _ _ h (k _))) (first_says j.rule first maximum))
      (outside_says j.rule thing.Maximum 1 MOST_SEMAPHORE_VALUE maximum)))
  kind_at j before what name written.Event s rest h k = stepped source _ _ rest (new_at (walk.among j before) name _ _ (judged_at source what s _ _ h (k _)))
  kind_at j before what name (written.Buffer words messages d) s rest h k =
      stepped source _ _ rest (stepped source _ _ _ (judged_at source _ _ (grammar.Number messages) _
      (judged_at source _ _ (grammar.Number words) _ (new_at (walk.among j before) name _ _ (judged_at source what s _ _ h (k _))) (outside_says j.rule thing.Words 1 MOST_WORDS words))
      (outside_says j.rule thing.Messages 1 MOST_DEPTH messages)))
  kind_at j before what name (written.Blackboard words) s rest h k =
      stepped source _ _ rest (judged_at source _ _ (grammar.Number words) _ (new_at (walk.among j before) name _ _ (judged_at source what s _ _ h (k _))) (outside_says j.rule thing.Words 1 MOST_WORDS words))
  kind_at j before what name written.Port s rest h k = stepped source _ _ rest (new_at (walk.among j before) name _ _ (judged_at source what s _ _ h (k _)))
  kind_at j before what name (written.Procedure names b) s rest h k =
      body_at j true (walk.with_own [] names) (many_wrong j.rule many.FrameWords (procedure_frame names b) MOST_STACK_WORDS) b _ rest
      (stepped source _ _ _ (parameters_at j names _ _ (judged_at source _ _ (grammar.Mark (codes "(")) _ (new_at (walk.among j before) name _ _ (judged_at source what s _ _ h (k _))) (many_says j.rule many.Parameters (length names) MOST_PARAMETERS (grammar.Mark (codes "("))))))
      (many_says j.rule many.FrameWords (procedure_frame names b) MOST_STACK_WORDS (grammar.Mark (codes "{")))

  declarations_at : (j : Judge) (before : List Entry) (t : Tally) (ds : List written.Declaration) (s : State) (rest : List Word) → IsAt source s (all_words declaration_words ds rest) → IsAt source (walk.declarations j before t ds s) rest
  declarations_at j before t [] s rest h = h
  declarations_at j before t (d ∷ ds) s rest h =
      declarations_at j (before ++ declaration_entry d ∷ []) (counted t d.kind) ds _ rest
      (kind_at j before (tally_wrong j.rule (counted t d.kind) d.kind) d.name d.kind s (all_words declaration_words ds rest) h (tally_says j.rule (counted t d.kind) d.kind))

  -- ---- processes

  process_at : (j : Judge) (before : List Entry) (number : ℕ) (p : written.Process) (s : State) (rest : List Word) → IsAt source s (process_words p rest) → IsAt source (walk.process j before number p s) rest
  process_at j before number p s rest h =
      let one = judged_at source (many_wrong j.rule many.Processes number MOST_PROCESSES) s (grammar.Mark (codes "process")) _ h (many_says j.rule many.Processes number MOST_PROCESSES (grammar.Mark (codes "process"))) in
      let two = new_at (walk.among j before) p.name _ _ one in
      let three = judged_at source (outside_wrong j.rule thing.Priority 1 GREATEST_PRIORITY p.priority) _ (grammar.Number p.priority) _ (stepped source _ _ _ two) (outside_says j.rule thing.Priority 1 GREATEST_PRIORITY p.priority) in
      let four = signed_at (period_wrong j.rule j.period p.period) p.period _ _ (stepped source _ _ _ three) (period_says j.rule j.period p.period) in
      let five = signed_at (capacity_wrong j.rule p.capacity) p.capacity _ _ (stepped source _ _ _ four) (capacity_says j.rule p.capacity) in
      stack_at j p.stack p.body _ rest five

  processes_at : (j : Judge) (before : List Entry) (count : ℕ) (ps : List written.Process) (s : State) (rest : List Word) → IsAt source s (all_words process_words ps rest) → IsAt source (walk.processes j before count ps s) rest
  processes_at j before count [] s rest h = h
  processes_at j before count (p ∷ ps) s rest h =
      processes_at j (before ++ process_entry p ∷ []) (held (count + 1)) ps _ rest (process_at j before (held (count + 1)) p s (all_words process_words ps rest) h)

  -- ---- the program

  program_at : (j : Judge) (p : written.Program) (s : State) → IsAt source s (program_words p) → IsAt source (walk.program j p s) []
  unfolding program_words
  program_at j p s h =
      processes_at j (walk.all_before [] p.declarations) 0 p.processes _ [] (handler_at j p.handler _ _ (stack_body_at j (codes "init") p.init _ _ (declarations_at j [] no_tally p.declarations s _ h)))

pub all_placed : (r : Refusal) (period : ℕ) (text : List ℕ) (p : written.Program) → words_of text ≡ program_words p → ArePlaced text (walk.wrongs r period text p)
unfolding from_word
all_placed r period text p h = (program_at text (walk.judge_of r period p) p (record { text = from_word 0 text; found = [] }) ((0, refl), h, tt)).2
