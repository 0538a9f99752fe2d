-- The lines and the actions of an output, as it gets more.
use Rattle.std.proofs.Common.{◌≡◌, ℕ, suc, ◌+◌, ◌≤◌, ℤ, List, [], ◌∷◌, ◌++◌, length, map, take, drop, refl, ap, sym, subst, ◌∙◌, arith}
use Rattle.std.specs.List.{AllByRecursion}
use Rattle.std.proofs.lemmas.List.{drop-append-le, length-append, length-drop, map-append, take-append-le}
use Rattle.std.proofs.Math.Seq.{drop-append_seam, take-length}
use Rattle.apex_types.specs.Runners.{Action}
use Rattle.apex_types.specs.Output.{Output, action_of, event_of}
use Rattle.apex_types.specs.OutView.{IsPart, actions_of, lines_of, part_of}
use Rattle.apex_types.specs.declared.event.EventKind.{EventKind}
use Rattle.apex_types.specs.declared.limits.TheConstants.{MOST_WORDS}
use Rattle.apex_types.specs.declared.out.Act.{Act}
use Rattle.apex_types.specs.declared.out.Line.{Line}
use Rattle.apex_types.specs.declared.out.Part.{Part}

-- ---- the words of a part

-- more words after the others change no part
part_kept : (words more : List ℤ) (p : Part) → IsPart (length words) p → part_of (words ++ more) p ≡ part_of words p
part_kept words more p h =
    ap (take p.count) (drop-append-le p.from words more (omega (arith, h.within)))
    ∙ take-append-le p.count (drop p.from words) more (omega (arith, h.within, length-drop p.from words))

new_part : (words more : List ℤ) (p : Part) → p.from ≡ length words → p.count ≡ length more → part_of (words ++ more) p ≡ more
new_part words more p from count =
    ap (λ (n : ℕ). take p.count (drop n (words ++ more))) from
    ∙ ap (take p.count) (drop-append_seam words more)
    ∙ ap (λ (n : ℕ). take n more) count
    ∙ take-length more

-- ---- all lines and all actions

lines_kept : (words more : List ℤ) (lines : List Line) → AllByRecursion (λ (l : Line). IsPart (length words) l.part) lines → lines_of (words ++ more) lines ≡ lines_of words lines
lines_kept words more [] all = refl
lines_kept words more (l ∷ lines) all =
    ap (λ (ws : List ℤ). event_of l.kind ws ∷ lines_of (words ++ more) lines) (part_kept words more l.part all.0)
    ∙ ap (λ (es : List EventKind). event_of l.kind (part_of words l.part) ∷ es) (lines_kept words more lines all.1)

actions_kept : (words more : List ℤ) (acts : List Act) → AllByRecursion (λ (a : Act). IsPart (length words) a.part) acts → actions_of (words ++ more) acts ≡ actions_of words acts
actions_kept words more [] all = refl
actions_kept words more (a ∷ acts) all =
    ap (λ (ws : List ℤ). action_of a.kind ws ∷ actions_of (words ++ more) acts) (part_kept words more a.part all.0)
    ∙ ap (λ (xs : List Action). action_of a.kind (part_of words a.part) ∷ xs) (actions_kept words more acts all.1)

-- ---- one line more, or one action more

pub line_added : (words more : List ℤ) (lines : List Line) (l : Line) → AllByRecursion (λ (x : Line). IsPart (length words) x.part) lines → l.part.from ≡ length words → l.part.count ≡ length more
    → lines_of (words ++ more) (lines ++ l ∷ []) ≡ lines_of words lines ++ event_of l.kind more ∷ []
line_added words more lines l all from count =
    map-append (λ (x : Line). event_of x.kind (part_of (words ++ more) x.part)) lines (l ∷ [])
    ∙ ap (λ (es : List EventKind). es ++ event_of l.kind (part_of (words ++ more) l.part) ∷ []) (lines_kept words more lines all)
    ∙ ap (λ (ws : List ℤ). lines_of words lines ++ event_of l.kind ws ∷ []) (new_part words more l.part from count)

pub action_added : (words more : List ℤ) (acts : List Act) (a : Act) → AllByRecursion (λ (x : Act). IsPart (length words) x.part) acts → a.part.from ≡ length words → a.part.count ≡ length more
    → actions_of (words ++ more) (acts ++ a ∷ []) ≡ actions_of words acts ++ action_of a.kind more ∷ []
action_added words more acts a all from count =
    map-append (λ (x : Act). action_of x.kind (part_of (words ++ more) x.part)) acts (a ∷ [])
    ∙ ap (λ (xs : List Action). xs ++ action_of a.kind (part_of (words ++ more) a.part) ∷ []) (actions_kept words more acts all)
    ∙ ap (λ (ws : List ℤ). actions_of words acts ++ action_of a.kind ws ∷ []) (new_part words more a.part from count)

pub lines_stay : (words more : List ℤ) (lines : List Line) → AllByRecursion (λ (x : Line). IsPart (length words) x.part) lines → lines_of (words ++ more) lines ≡ lines_of words lines
lines_stay = lines_kept

pub actions_stay : (words more : List ℤ) (acts : List Act) → AllByRecursion (λ (x : Act). IsPart (length words) x.part) acts → actions_of (words ++ more) acts ≡ actions_of words acts
actions_stay = actions_kept

-- ---- parts among more words

wider : (n m : ℕ) (p : Part) → n ≤ m → IsPart n p → IsPart m p
wider n m p le h = record { within = omega (arith, h.within, le); few = h.few }

pub lines_wider : (n m : ℕ) (lines : List Line) → n ≤ m → AllByRecursion (λ (x : Line). IsPart n x.part) lines → AllByRecursion (λ (x : Line). IsPart m x.part) lines
lines_wider n m [] le all = tt
lines_wider n m (l ∷ lines) le all = (wider n m l.part le all.0, lines_wider n m lines le all.1)

pub actions_wider : (n m : ℕ) (acts : List Act) → n ≤ m → AllByRecursion (λ (x : Act). IsPart n x.part) acts → AllByRecursion (λ (x : Act). IsPart m x.part) acts
actions_wider n m [] le all = tt
actions_wider n m (a ∷ acts) le all = (wider n m a.part le all.0, actions_wider n m acts le all.1)

pub one_more : {A : Type 0} (P : A → Type 0) (xs : List A) (x : A) → AllByRecursion P xs → P x → AllByRecursion P (xs ++ x ∷ [])
one_more P [] x all is = (is, tt)
one_more P (y ∷ ys) x all is = (all.0, one_more P ys x all.1 is)

-- ---- an output with one line more, or one action more

abbrev pub output : List EventKind → List Action → Output
output ls xs = record { lines = ls; actions = xs }

pub line_told : (words more words' : List ℤ) (lines lines' : List Line) (acts : List Act) (l : Line)
    → AllByRecursion (λ (x : Line). IsPart (length words) x.part) lines → AllByRecursion (λ (x : Act). IsPart (length words) x.part) acts
    → words' ≡ words ++ more → lines' ≡ lines ++ l ∷ [] → l.part.from ≡ length words → l.part.count ≡ length more
    → output (lines_of words' lines') (actions_of words' acts) ≡ output (lines_of words lines ++ event_of l.kind more ∷ []) (actions_of words acts)
line_told words more words' lines lines' acts l told asked is_words is_lines from count =
    ap (λ (ws : List ℤ). output (lines_of ws lines') (actions_of ws acts)) is_words
    ∙ ap (λ (xs : List Line). output (lines_of (words ++ more) xs) (actions_of (words ++ more) acts)) is_lines
    ∙ ap (λ (es : List EventKind). output es (actions_of (words ++ more) acts)) (line_added words more lines l told from count)
    ∙ ap (λ (xs : List Action). output (lines_of words lines ++ event_of l.kind more ∷ []) xs) (actions_kept words more acts asked)

pub action_asked : (words more words' : List ℤ) (lines : List Line) (acts acts' : List Act) (a : Act)
    → AllByRecursion (λ (x : Line). IsPart (length words) x.part) lines → AllByRecursion (λ (x : Act). IsPart (length words) x.part) acts
    → words' ≡ words ++ more → acts' ≡ acts ++ a ∷ [] → a.part.from ≡ length words → a.part.count ≡ length more
    → output (lines_of words' lines) (actions_of words' acts') ≡ output (lines_of words lines) (actions_of words acts ++ action_of a.kind more ∷ [])
action_asked words more words' lines acts acts' a told asked is_words is_acts from count =
    ap (λ (ws : List ℤ). output (lines_of ws lines) (actions_of ws acts')) is_words
    ∙ ap (λ (xs : List Act). output (lines_of (words ++ more) lines) (actions_of (words ++ more) xs)) is_acts
    ∙ ap (λ (es : List EventKind). output es (actions_of (words ++ more) (acts ++ a ∷ []))) (lines_kept words more lines told)
    ∙ ap (λ (xs : List Action). output (lines_of words lines) xs) (action_added words more acts a asked from count)

pub lines_count : (words : List ℤ) (lines : List Line) → length lines ≡ length (lines_of words lines)
lines_count words [] = refl
lines_count words (l ∷ lines) = ap (λ (n : ℕ). suc n) (lines_count words lines)

pub actions_count : (words : List ℤ) (acts : List Act) → length acts ≡ length (actions_of words acts)
actions_count words [] = refl
actions_count words (a ∷ acts) = ap (λ (n : ℕ). suc n) (actions_count words acts)

-- ---- the parts of an output with one line more, or one action more

pub new_is_part : (n m count : ℕ) (p : Part) → p ≡ record { from = n; count = count } → m ≡ n + count → count ≤ MOST_WORDS → IsPart m p
new_is_part n m count p part longer few =
    let from = ap (λ (q : Part). q.from) part in
    let size = ap (λ (q : Part). q.count) part in
    record { within = omega (arith, from, size, longer); few = omega (arith, size, few) }

pub line_parts : (n m : ℕ) (lines lines' : List Line) (l : Line) → n ≤ m → lines' ≡ lines ++ l ∷ []
    → AllByRecursion (λ (x : Line). IsPart n x.part) lines → IsPart m l.part → AllByRecursion (λ (x : Line). IsPart m x.part) lines'
line_parts n m lines lines' l le is told new =
    subst (λ (xs : List Line). AllByRecursion (λ (x : Line). IsPart m x.part) xs) (sym is)
    (one_more (λ (x : Line). IsPart m x.part) lines l (lines_wider n m lines le told) new)

pub act_parts : (n m : ℕ) (acts acts' : List Act) (a : Act) → n ≤ m → acts' ≡ acts ++ a ∷ []
    → AllByRecursion (λ (x : Act). IsPart n x.part) acts → IsPart m a.part → AllByRecursion (λ (x : Act). IsPart m x.part) acts'
act_parts n m acts acts' a le is asked new =
    subst (λ (xs : List Act). AllByRecursion (λ (x : Act). IsPart m x.part) xs) (sym is)
    (one_more (λ (x : Act). IsPart m x.part) acts a (actions_wider n m acts le asked) new)
