-- The body with which a program is too long, and where it begins.
use Rattle.std.specs.Prelude.{◌≡◌, ◌<◌, ◌≤◌, ◌+◌, ℕ, List, [], ◌∷◌, ◌++◌, codes, length, Some}
use Rattle.std.specs.List.{Contains, sum_by}
use Rattle.apex_types.specs.Limits.{MOST_INSTRUCTIONS}
use Rattle.pal.specs.declared.report.BodyCost.{BodyCost}
use Rattle.pal.specs.declared.report.BodyName.{BodyName}
use Rattle.pal.specs.declared.report.BodyName.TheVariants as body
use Rattle.pal_meaning.specs.Grammar.{Word, kind_words, process_words, stack_body_words, words_from}
use Rattle.pal_meaning.specs.Lines.{from_word}
use Rattle.pal_meaning.specs.Syntax as written
use Rattle.source_findings.specs.Lengths.{all_instructions}
use Rattle.source_findings.specs.What.{Wrong, Instructions}

-- the words of the body of a program that has this name, and those after it
abbrev pub IsBodyOf : written.Program → BodyName → List Word → Type 0
IsBodyOf p body.Init words = (rest : List Word) × (words ≡ stack_body_words (codes "init") p.init rest)
IsBodyOf p body.Handler words = (b : written.StackBody) × (p.handler ≡ Some b) × (rest : List Word) × (words ≡ stack_body_words (codes "handler") b rest)
IsBodyOf p (body.Process name) words = (q : written.Process) × Contains p.processes q × (q.name ≡ name) × (rest : List Word) × (words ≡ process_words q rest)
IsBodyOf p (body.Procedure name) words =
    (parameters : List (List ℕ)) × (b : written.Body) × Contains p.declarations (record { name = name; kind = written.Procedure parameters b }) ×
    (rest : List Word) × (words ≡ kind_words name (written.Procedure parameters b) rest)

-- a word of a text, from which on `left` bytes remain; it is the first word of this body
pub record IsBodyAt (text : List ℕ) (p : written.Program) (left : ℕ) (name : BodyName) : Type 0 where
  pub number : ℕ
  pub place : left ≡ length (from_word number text)
  pub words : IsBodyOf p name (words_from (from_word number text))

-- the bodies up to `b` have more instructions than a program may have, and those before it do not
pub record IsPassedBy (bodies : List BodyCost) (b : BodyCost) : Type 0 where
  pub before : List BodyCost
  pub after : List BodyCost
  pub parts : bodies ≡ before ++ b ∷ after
  pub few : sum_by (λ x. x.instructions) before ≤ MOST_INSTRUCTIONS
  pub many : MOST_INSTRUCTIONS < sum_by (λ x. x.instructions) before + b.instructions

-- what is said gives the instructions of that body, at its first word
abbrev pub IsOfBody : List ℕ → written.Program → List BodyCost → Wrong → Type 0
IsOfBody text p bodies w = (b : BodyCost) × IsPassedBy bodies b × IsBodyAt text p w.left b.name × (w.what ≡ Instructions (all_instructions bodies) b.instructions)

abbrev pub AreOfBodies : List ℕ → written.Program → List BodyCost → List Wrong → Type 0
AreOfBodies text p bodies [] = Unit {0}
AreOfBodies text p bodies (w ∷ ws) = IsOfBody text p bodies w × AreOfBodies text p bodies ws
