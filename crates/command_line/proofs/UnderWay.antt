-- A text that is written in parts.
use Rattle.std.proofs.Common.{◌≡◌, ◌<◌, ℕ, ◌+◌, List, [], ◌∷◌, ◌++◌, length, drop, get_or, Option, Result, Ok, Err, OnErr, OnOk, refl, sym, ap, subst, ◌∙◌, append-nil}
use Rattle.std.proofs.lemmas.List.{drop_more}
use Rattle.std.specs.Prelude.{IsErr}
use Rattle.std.specs.Io.KnownBytes.{Appends}
use Rattle.apex_types.specs.Line.{TakesBeginning}
use Rattle.apex_types.specs.declared.sink.SinkFault.{SinkFault}
use Rattle.apex_types.proofs.Writing as writing
use Rattle.apex_types.proofs.Writing.{under_way_start, under_way_more, under_way_end, under_way_fails}
use Rattle.command_line.specs.Listed.{IsListed}

pub is_listed : {X : Type 0} (text : List ℕ) (old new : Option (List ℕ)) (before after : ℕ) (answer : Result X SinkFault)
    → OnOk answer (Appends old new text) → OnOk answer (after ≡ before) → OnErr answer (after ≡ before + 1) → OnErr answer (TakesBeginning old new text)
    → IsListed text old new before after answer
is_listed text old new before after (Ok x) taken quiet failed beginning = (taken, quiet)
is_listed text old new before after (Err fault) taken quiet failed beginning = (beginning, failed)

-- a part of the text is out and the rest is still to come, and the sink has not failed
pub record IsUnderWay (text rest : List ℕ) (old new : Option (List ℕ)) (before after : ℕ) : Type 0 where
  pub written : writing.IsUnderWay old new text rest
  pub quiet : after ≡ before

pub starts : (text : List ℕ) (old : Option (List ℕ)) (before : ℕ) → IsUnderWay text text old old before before
starts text old before = record { written = under_way_start old text; quiet = refl }

-- one part more
pub goes_on : (text left part rest : List ℕ) (old mid new : Option (List ℕ)) (before between after : ℕ)
    → left ≡ part ++ rest → IsUnderWay text left old mid before between → Appends mid new part × (after ≡ between) → IsUnderWay text rest old new before after
goes_on text left part rest old mid new before between after split w h = record {
  written = under_way_more old mid new text part rest (subst (writing.IsUnderWay old mid text) split w.written) h.0;
  quiet = h.1 ∙ w.quiet;
}

-- nothing is left
pub ends : (text left : List ℕ) (old new : Option (List ℕ)) (before after : ℕ) → left ≡ [] → IsUnderWay text left old new before after → Appends old new text × (after ≡ before)
ends text left old new before after none w = (under_way_end old new text (subst (writing.IsUnderWay old new text) none w.written), w.quiet)

-- the sink fails in the next part
pub cut_off : {X : Type 0} (text left part rest : List ℕ) (old mid new : Option (List ℕ)) (before between after : ℕ) (answer : Result X SinkFault)
    → left ≡ part ++ rest → IsUnderWay text left old mid before between → TakesBeginning mid new part × (after ≡ between + 1) → IsErr answer → IsListed text old new before after answer
cut_off text left part rest old mid new before between after (Ok x) split w h is_err = absurd cc
cut_off text left part rest old mid new before between after (Err fault) split w h is_err =
    (under_way_fails old mid new text part rest (subst (writing.IsUnderWay old mid text) split w.written) h.0, h.1 ∙ ap (λ n. n + 1) w.quiet)

-- the parts from a place on: the part there, and those after it
pub next_of : {A : Type 0} (xs : List A) (place : ℕ) (x : A) → place < length xs → x ≡ get_or xs place x → drop place xs ≡ x ∷ drop (place + 1) xs
next_of xs place x within is = drop_more xs place x within ∙ ap (λ y. y ∷ drop (place + 1) xs) (sym is)

-- the whole ends as its last part ends
pub last_listed : {X : Type 0} (text left part : List ℕ) (old mid new : Option (List ℕ)) (before between after : ℕ) (answer : Result X SinkFault)
    → left ≡ part → IsUnderWay text left old mid before between → IsListed part mid new between after answer → IsListed text old new before after answer
last_listed text left part old mid new before between after (Ok x) same w h =
    ends text [] old new before after refl (goes_on text left part [] old mid new before between after (same ∙ sym (append-nil part)) w h)
last_listed {X = X} text left part old mid new before between after (Err fault) same w h =
    cut_off {X = X} text left part [] old mid new before between after (Err fault) (same ∙ sym (append-nil part)) w h refl
