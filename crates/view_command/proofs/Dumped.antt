-- A trace that is read again while its dump is written.
use Rattle.std.proofs.Common.{◌≡◌, ◌⊎◌, inl, inr, ℕ, List, Option, Result, Ok, Err, IfErr, sym, ap, subst, ◌∙◌}
use Rattle.std.specs.Prelude.{IsErr, IsErrAnd}
use Rattle.streams.specs.Contents.{Contents}
use Rattle.streams.specs.States.{Seen}
use Rattle.view_command.specs.Answers.{IsCutShort, IsRefused}
use Rattle.view_command.specs.Dumping.{IsCut, IsCutAgain}
use Rattle.view_command.specs.Faults.{IsUnopened}
use Rattle.view_command.specs.Lines.{called}
use Rattle.view_command.specs.States.{State}
use Rattle.view_command.specs.Texts.{IsTraceIn}
use Rattle.view_command.specs.declared.refusal.Refusal.{Refusal}
use Rattle.view_command.specs.declared.refusal.Refusal.TheVariants.{Open, Read, Line, Late, TooMany, Crowded, Table, NoRow, Foreign, Unknown, Memory, Write}

-- it is not opened again
pub unopened_again : {A : Type 0} (name : List ℕ) (before after : State) (r : Refusal) (answer : Result A Refusal)
    → after.out ≡ before.out → IsUnopened name before.unopened after.unopened r → IsErr answer × IsErrAnd answer (λ e. e ≡ r) → IfErr answer (λ e. IsCutAgain name before after e)
unopened_again name before after r (Ok x) out h passed = tt
unopened_again name before after r (Err e) out h passed = subst (IsCutAgain name before after) (sym passed.1) (go r h)
  where
    go : (r : Refusal) → IsUnopened name before.unopened after.unopened r → IsCutAgain name before after r
    go (Open shown) h = (out, h.0, h.1)
    go Memory h = (h, ap (λ (s : Seen). s.failures) out)
    go Write h = absurd h
    go (Read shown) h = absurd h
    go (Line number shown) h = absurd h
    go (Late number shown) h = absurd h
    go TooMany h = absurd h
    go (Crowded shapes from until elements) h = absurd h
    go (Table fault shown) h = absurd h
    go (NoRow number shown) h = absurd h
    go (Foreign partition) h = absurd h
    go (Unknown line) h = absurd h

-- its dump ends before its end
pub cut_again : (name shown : List ℕ) (before after : State) (r : Refusal) → shown ≡ called name → after.unopened ≡ before.unopened → IsCut shown before.out after.out r → IsCutAgain name before after r
cut_again name shown before after (Open s) is same h = absurd h
cut_again name shown before after (Read s) is same h = (same, h.1, h.0 ∙ is)
cut_again name shown before after (Line number s) is same h = absurd h
cut_again name shown before after (Late number s) is same h = absurd h
cut_again name shown before after TooMany is same h = absurd h
cut_again name shown before after (Crowded shapes from until elements) is same h = absurd h
cut_again name shown before after (Table fault s) is same h = absurd h
cut_again name shown before after (NoRow number s) is same h = absurd h
cut_again name shown before after (Foreign partition) is same h = absurd h
cut_again name shown before after (Unknown line) is same h = absurd h
cut_again name shown before after Memory is same h = (same, h)
cut_again name shown before after Write is same h = (h, same)

pub cut_of : {A : Type 0} (name shown : List ℕ) (before after : State) (answer : Result A Refusal) → shown ≡ called name → after.unopened ≡ before.unopened
    → IfErr answer (λ r. IsCut shown before.out after.out r) → IfErr answer (λ r. IsCutAgain name before after r)
cut_of name shown before after (Ok x) is same h = tt
cut_of name shown before after (Err r) is same h = cut_again name shown before after r is same h

-- a trace that was read once to its end
short : (texts : Option Contents) (ran : Option ℕ) (name : List ℕ) (before after : State) (r : Refusal) → IsTraceIn texts ran name → IsCutAgain name before after r
    → IsRefused texts ran name before after r ⊎ IsCutShort texts ran name before after r
short texts ran name before after (Open s) trace h = inl h
short texts ran name before after (Read s) trace h = inr (h.0, h.1, h.2, trace)
short texts ran name before after (Line number s) trace h = absurd h
short texts ran name before after (Late number s) trace h = absurd h
short texts ran name before after TooMany trace h = absurd h
short texts ran name before after (Crowded shapes from until elements) trace h = absurd h
short texts ran name before after (Table fault s) trace h = absurd h
short texts ran name before after (NoRow number s) trace h = absurd h
short texts ran name before after (Foreign partition) trace h = absurd h
short texts ran name before after (Unknown line) trace h = absurd h
short texts ran name before after Memory trace h = inr (h.0, h.1, trace)
short texts ran name before after Write trace h = inl (h.0, h.1, trace)

pub cut_or : {A : Type 0} (Q : Refusal → Type 0) (texts : Option Contents) (ran : Option ℕ) (name : List ℕ) (before mid after : State) (r : Refusal) (answer : Result A Refusal)
    → mid ≡ before → IsTraceIn texts ran name → IsCutAgain name mid after r → IsErr answer × IsErrAnd answer (λ e. e ≡ r)
    → IfErr answer (λ e. IsRefused texts ran name before after e ⊎ IsCutShort texts ran name before after e ⊎ Q e)
cut_or Q texts ran name before mid after r (Ok x) same trace h passed = tt
cut_or Q texts ran name before mid after r (Err e) same trace h passed =
    subst (λ (v : Refusal). IsRefused texts ran name before after v ⊎ IsCutShort texts ran name before after v ⊎ Q v) (sym passed.1)
    (go (short texts ran name before after r trace (subst (λ (s : State). IsCutAgain name s after r) same h)))
  where
    go : IsRefused texts ran name before after r ⊎ IsCutShort texts ran name before after r → IsRefused texts ran name before after r ⊎ IsCutShort texts ran name before after r ⊎ Q r
    go (inl one) = inl one
    go (inr two) = inr (inl two)
