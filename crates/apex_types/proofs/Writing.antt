-- A text that goes to a sink in parts.
use Rattle.std.proofs.Common.{◌≡◌, ℕ, ◌+◌, ◌≤◌, List, [], ◌++◌, length, take, Option, Result, Ok, Err, OnErr, refl, sym, ap, subst, ◌∙◌, append_assoc, append-nil, codes, ◌∷◌, length-append, arith}
use Rattle.std.proofs.KnownBytes.{Appends-nil, Appends-trans}
use Rattle.std.proofs.Math.Seq.{take-append-add}
use Rattle.std.proofs.lemmas.List.{take-append-le}
use Rattle.std.specs.Io.KnownBytes.{Appends}
use Rattle.apex_types.specs.Line.{kind_text, line_of, partition_text, text_of, thirteen_digits}
use Rattle.apex_types.specs.Line.{TakesBeginning}
use Rattle.apex_types.specs.declared.event.Event.{Event}

pub err_at : {A E P : Type 0} (answer : Result A E) → P → OnErr answer P
err_at (Ok a) fact = tt
err_at (Err e) fact = fact

-- a part of the text is out, and the rest is still to come
pub record IsUnderWay (old new : Option (List ℕ)) (text rest : List ℕ) : Type 0 where
  pub done : List ℕ
  pub taken : Appends old new done
  pub left : text ≡ done ++ rest

pub under_way_start : (old : Option (List ℕ)) (text : List ℕ) → IsUnderWay old old text text
under_way_start old text = record { done = []; taken = Appends-nil old; left = refl }

pub under_way_more : (old mid new : Option (List ℕ)) (text line rest : List ℕ) → IsUnderWay old mid text (line ++ rest) → Appends mid new line → IsUnderWay old new text rest
under_way_more old mid new text line rest w h = record {
  done = w.done ++ line;
  taken = Appends-trans old mid new w.done line w.taken h;
  left = w.left ∙ sym (append_assoc w.done line rest);
}

pub under_way_end : (old new : Option (List ℕ)) (text : List ℕ) → IsUnderWay old new text [] → Appends old new text
under_way_end old new text w = let whole : w.done ≡ text = sym (append-nil w.done) ∙ sym w.left in subst (Appends old new) whole w.taken

pub under_way_fails : (old mid new : Option (List ℕ)) (text line rest : List ℕ) → IsUnderWay old mid text (line ++ rest) → TakesBeginning mid new line → TakesBeginning old new text
under_way_fails old mid new text line rest w (k, within, h) =
    let front : take (length w.done + k) text ≡ w.done ++ take k line =
    ap (take (length w.done + k)) w.left ∙ take-append-add w.done (line ++ rest) k ∙ ap (λ bytes. w.done ++ bytes) (take-append-le k line rest within) in
    let bound : length w.done + k ≤ length text = rw w.left (simp length-append (omega arith)) in
    (length w.done + k, bound, rw front (Appends-trans old mid new w.done (take k line) w.taken h))

pub ruleset under_way = (under_way_start, under_way_more, under_way_end, under_way_fails)

-- the line of an event after a text is the text of this event after it
pub line_behind : (e : Event) (old new digits : List ℕ) → digits ≡ thirteen_digits e.tick.0
    → new ≡ old ++ (digits ++ codes " " ++ partition_text e.partition ++ codes " " ++ kind_text e.kind ++ 10 ∷ []) → new ≡ old ++ text_of (e ∷ [])
line_behind e old new digits same pushed =
    let one : new ≡ old ++ line_of e =
    subst (λ d. new ≡ old ++ (d ++ codes " " ++ partition_text e.partition ++ codes " " ++ kind_text e.kind ++ 10 ∷ [])) same pushed in
    subst (λ line. new ≡ old ++ line) (sym (append-nil (line_of e))) one
