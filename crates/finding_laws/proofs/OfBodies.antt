-- The word at which a body is found is the first of this body.
use Rattle.finding_laws.proofs.Prelude.{◌≡◌, ℕ, suc, ◌+◌, ◌≤◌, Bool, cond, ◌∷◌, ◌++◌, ◌∙◌, subst, inr, leb_tells, length-append, bytes_eq-Decides, words_from_more, words_of, first_word, next_word, BodyName}
use Rattle.std.proofs.Common.{arith, zero, true, false, List, [], length, refl, sym, ap, inl}
use Rattle.std.specs.Prelude.{◌&&◌, codes}
use Rattle.pal_laws.proofs.WordsOf.{blanks_shorter}
use Rattle.pal_meaning.specs.Grammar.{Word, Mark, Name, behind_blanks, word_at, words_from, words_within}
use Rattle.pal_meaning.specs.Lines.{from_word}
use Rattle.finding_laws.proofs.Letters.{is_small, mark_bytes, name_bytes, same_word}
use Rattle.finding_laws.proofs.Words.{next_from, word_here}
use Rattle.source_findings.specs.Lengths.{begins, from_body, is_named, is_word}
use Rattle.pal.specs.declared.report.BodyName.TheVariants as body

-- ---- the words of a text

few_within : (n : ℕ) (bytes : List ℕ) → length (words_within n bytes) ≤ n
unfolding words_within
few_within zero bytes = omega arith
few_within (suc n) [] = omega arith
few_within (suc n) (b ∷ bs) = omega (arith, few_within n (behind_blanks false (word_at (b ∷ bs)).1))

few_words : (text : List ℕ) → length (words_of text) ≤ length text
unfolding words_from
few_words text = omega (arith, few_within (length (behind_blanks false text)) (behind_blanks false text), blanks_shorter false text)

-- the words with which a body begins
abbrev pub beginning_of : BodyName → List Word
beginning_of body.Init = Mark (codes "init") ∷ []
beginning_of body.Handler = Mark (codes "handler") ∷ []
beginning_of (body.Process name) = Mark (codes "process") ∷ Name name ∷ []
beginning_of (body.Procedure name) = Mark (codes "proc") ∷ Name name ∷ []

-- ---- a text that begins as a body does

marked : (t u mark : List ℕ) (ws : List Word) → is_small mark ≡ true → words_from u ≡ Mark mark ∷ ws → is_word mark t ≡ true → words_from t ≡ Mark mark ∷ words_from (next_word t)
marked t u mark ws small is same_bytes =
    let here = mark_bytes u mark small (word_here u (Mark mark) ws is).0 in
    let alike = same_word t u here.0 ((bytes_eq-Decides (first_word t) mark).0 same_bytes ∙ sym here.1) in
    shown t alike.0 (alike.1 ∙ (word_here u (Mark mark) ws is).0)
  where
    shown : (t : List ℕ) → is_small t ≡ true → (word_at t).0 ≡ Mark mark → words_from t ≡ Mark mark ∷ words_from (next_word t)
    shown [] some is = let k : false ≡ true = some in cc
    shown (b ∷ bs) some is = words_from_more b bs ∙ ap (λ (w : Word). w ∷ words_from (next_word (b ∷ bs))) is

named : (t u name : List ℕ) (ws : List Word) → words_from u ≡ Name name ∷ ws → is_word name t ≡ true → words_from t ≡ Name name ∷ words_from (next_word t)
named t u name ws is same_bytes =
    let here = name_bytes u name (word_here u (Name name) ws is).0 in
    let alike = same_word t u here.0 ((bytes_eq-Decides (first_word t) name).0 same_bytes ∙ sym here.1) in
    shown t alike.0 (alike.1 ∙ (word_here u (Name name) ws is).0)
  where
    shown : (t : List ℕ) → is_small t ≡ true → (word_at t).0 ≡ Name name → words_from t ≡ Name name ∷ words_from (next_word t)
    shown [] some is = let k : false ≡ true = some in cc
    shown (b ∷ bs) some is = words_from_more b bs ∙ ap (λ (w : Word). w ∷ words_from (next_word (b ∷ bs))) is

both : (a b : Bool) → (a && b) ≡ true → (a ≡ true) × (b ≡ true)
both true true h = (refl, refl)
both true false h = let e : false ≡ true = h in cc
both false b h = let e : false ≡ true = h in cc

two_words : (t u mark name : List ℕ) (ws : List Word) → is_small mark ≡ true → words_from u ≡ Mark mark ∷ Name name ∷ ws → is_named mark name t ≡ true → words_from t ≡ Mark mark ∷ Name name ∷ words_from (next_word (next_word t))
two_words t u mark name ws small is h =
    let parts = both (is_word mark t) (is_word name (next_word t)) h in
    marked t u mark (Name name ∷ ws) small is parts.0
    ∙ ap (λ (vs : List Word). Mark mark ∷ vs) (named (next_word t) (next_word u) name ws (word_here u (Mark mark) (Name name ∷ ws) is).1 parts.1)

-- where one text begins with the words of a body, each that begins with the same bytes does
goes_on : (name : BodyName) (t u : List ℕ) (ws : List Word) → words_from u ≡ beginning_of name ++ ws → begins name t ≡ true → (rest : List Word) × (words_from t ≡ beginning_of name ++ rest)
goes_on body.Init t u ws is h = (_, marked t u (codes "init") ws refl is h)
goes_on body.Handler t u ws is h = (_, marked t u (codes "handler") ws refl is h)
goes_on (body.Process name) t u ws is h = (_, two_words t u (codes "process") name ws refl is h)
goes_on (body.Procedure name) t u ws is h = (_, two_words t u (codes "proc") name ws refl is h)

-- a text that begins with the words of a body begins with its bytes
is_mark : (u mark : List ℕ) (ws : List Word) → is_small mark ≡ true → words_from u ≡ Mark mark ∷ ws → is_word mark u ≡ true
is_mark u mark ws small is = (bytes_eq-Decides (first_word u) mark).1 (mark_bytes u mark small (word_here u (Mark mark) ws is).0).1

is_name : (u name : List ℕ) (ws : List Word) → words_from u ≡ Name name ∷ ws → is_word name u ≡ true
is_name u name ws is = (bytes_eq-Decides (first_word u) name).1 (name_bytes u name (word_here u (Name name) ws is).0).1

together : (a b : Bool) → a ≡ true → b ≡ true → (a && b) ≡ true
together true true h k = refl
together true false h k = k
together false b h k = h

are_two : (u mark name : List ℕ) (ws : List Word) → is_small mark ≡ true → words_from u ≡ Mark mark ∷ Name name ∷ ws → is_named mark name u ≡ true
are_two u mark name ws small is = together _ _ (is_mark u mark (Name name ∷ ws) small is) (is_name (next_word u) name ws (word_here u (Mark mark) (Name name ∷ ws) is).1)

begins_there : (name : BodyName) (u : List ℕ) (ws : List Word) → words_from u ≡ beginning_of name ++ ws → begins name u ≡ true
begins_there body.Init u ws is = is_mark u (codes "init") ws refl is
begins_there body.Handler u ws is = is_mark u (codes "handler") ws refl is
begins_there (body.Process name) u ws is = are_two u (codes "process") name ws refl is
begins_there (body.Procedure name) u ws is = are_two u (codes "proc") name ws refl is

-- ---- the search for a body

module _ (text : List ℕ) (name : BodyName) where
  -- a word of the text, with which the body begins
  abbrev pub IsFound : List ℕ → Type 0
  IsFound t = (n : ℕ) × (t ≡ from_word n text) × (rest : List Word) × (words_from (from_word n text) ≡ beginning_of name ++ rest)

  -- the search goes from a word on over `n` more, and the body begins with one of them
  found_from : (n i j : ℕ) (ws : List Word) → i ≤ j → j ≤ i + n → words_from (from_word j text) ≡ beginning_of name ++ ws → IsFound (from_body n name (from_word i text))
  unfolding from_body
  found_from zero i j ws low high is = let at : j ≡ i = omega (arith, low, high) in (i, refl, ws, ap (λ k. words_from (from_word k text)) (sym at) ∙ is)
  found_from (suc n) i j ws low high is = by (begins name (from_word i text)) refl
      (λ later. subst (λ t. IsFound (from_body n name t)) (sym (next_from i text)) (found_from n (suc i) j ws later (omega (arith, high)) is))
    where
      by : (t : Bool) → begins name (from_word i text) ≡ t → (suc i ≤ j → IsFound (from_body n name (next_word (from_word i text)))) → IsFound (cond t (from_word i text) (from_body n name (next_word (from_word i text))))
      by true e later = let on = goes_on name (from_word i text) (from_word j text) ws is e in (i, refl, on.0, on.1)
      by false e later = elim (leb_tells (suc i) j) [
        | inl t ↦ later t.1
        | inr f ↦ (let at : j ≡ i = omega (arith, low, f.1) in
            let there : begins name (from_word i text) ≡ true = ap (λ k. begins name (from_word k text)) (sym at) ∙ begins_there name (from_word j text) ws is in
            let k : false ≡ true = sym e ∙ there in cc)
      ]

  -- after some words of a text come the others
  word_behind : (i : ℕ) (front ws : List Word) → words_from (from_word i text) ≡ front ++ ws → (j : ℕ) × (i ≤ j) × (j ≤ i + length front) × (words_from (from_word j text) ≡ ws)
  word_behind i [] ws is = (i, omega arith, omega arith, is)
  word_behind i (w ∷ front) ws is =
      let later = word_behind (suc i) front ws (ap words_from (sym (next_from i text)) ∙ (word_here (from_word i text) w (front ++ ws) is).1) in
      (later.0, omega (arith, later.1), omega (arith, later.2), later.3)

  pub body_found : (front ws : List Word) → words_of text ≡ front ++ (beginning_of name ++ ws) → IsFound (from_body (length text) name (from_word 0 text))
  unfolding from_word
  body_found front ws is =
      let there = word_behind 0 front (beginning_of name ++ ws) is in
      let few : length front ≤ length text = omega (arith, few_words text, ap length is, length-append front (beginning_of name ++ ws)) in
      found_from (length text) 0 there.0 ws (omega arith) (omega (arith, there.2, few)) there.3
