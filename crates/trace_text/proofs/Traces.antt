-- Texts and the events that they are read as.
use Rattle.std.proofs.Common.{◌≡◌, ℕ, List, [], ◌∷◌, ◌++◌, refl, sym, ap, subst, ◌∙◌}
use Rattle.apex_types.specs.Line.{line_of, text_of}
use Rattle.apex_types.specs.declared.event.Event.{Event}
use Rattle.trace_text.specs.Trace.{CanBeWritten, IsTraceFrom, IsTrace, IsReadFrom, IsReadAs}
use Rattle.trace_text.proofs.Lines.{at_front, same_pieces}
use Rattle.trace_text.proofs.Spells.{same_some}

pub one_at_front : (text : List ℕ) (one other : Event) (rest more : List ℕ) → CanBeWritten one → CanBeWritten other → text ≡ line_of one ++ rest → text ≡ line_of other ++ more → (one ≡ other) × (rest ≡ more)
one_at_front text one other rest more can could e f =
    let a = at_front text one rest can e in
    let b = at_front text other more could f in
    (same_some one other (sym a.read ∙ b.read), same_pieces rest more (sym a.behind ∙ b.behind))

pub one_event : (one other : Event) (rest more : List ℕ) → CanBeWritten one → CanBeWritten other → line_of one ++ rest ≡ line_of other ++ more → (one ≡ other) × (rest ≡ more)
one_event one other rest more can could e = one_at_front (line_of one ++ rest) one other rest more can could refl e

again_from : (before : ℕ) (events : List Event) → IsTraceFrom before events → IsReadFrom before (text_of events) events
again_from before [] trace = refl
again_from before (e ∷ es) trace = (text_of es, record { can = trace.0; in_order = trace.1; parts = refl }, again_from e.tick.0 es trace.2)

pub again : (events : List Event) → IsTrace events → IsReadAs (text_of events) events
again events trace = again_from 0 events trace

back_from : (before : ℕ) (text : List ℕ) (events : List Event) → IsReadFrom before text events → IsTraceFrom before events × (text_of events ≡ text)
back_from before text [] read = (tt, sym read)
back_from before text (e ∷ es) read =
    let g = back_from e.tick.0 read.0 es read.2 in
    ((read.1.can, read.1.in_order, g.0), ap (λ (rest : List ℕ). line_of e ++ rest) g.1 ∙ sym read.1.parts)

pub back : (text : List ℕ) (events : List Event) → IsReadAs text events → IsTrace events × (text_of events ≡ text)
back text events read = back_from 0 text events read

-- a line is some bytes
pub no_text : (text : List ℕ) (e : Event) (rest : List ℕ) → text ≡ [] → text ≡ line_of e ++ rest → ⊥
no_text text e rest none is = let clash : [] ≡ line_of e ++ rest = sym none ∙ is in cc

one_from : (before : ℕ) (text : List ℕ) (events others : List Event) → IsReadFrom before text events → IsReadFrom before text others → events ≡ others
one_from before text [] [] read other = refl
one_from before text [] (f ∷ fs) read other = absurd (no_text text f other.0 read other.1.parts)
one_from before text (e ∷ es) [] read other = absurd (no_text text e read.0 other read.1.parts)
one_from before text (e ∷ es) (f ∷ fs) read other =
    let g = one_at_front text e f read.0 other.0 read.1.can other.1.can read.1.parts other.1.parts in
    let rest : IsReadFrom f.tick.0 other.0 es = subst (λ (x : List ℕ). IsReadFrom f.tick.0 x es) g.1 (subst (λ (x : Event). IsReadFrom x.tick.0 read.0 es) g.0 read.2) in
    ap (λ (x : Event). x ∷ es) g.0 ∙ ap (λ (xs : List Event). f ∷ xs) (one_from f.tick.0 other.0 es fs rest other.2)

pub one : (text : List ℕ) (events others : List Event) → IsReadAs text events → IsReadAs text others → events ≡ others
one text events others read other = one_from 0 text events others read other
