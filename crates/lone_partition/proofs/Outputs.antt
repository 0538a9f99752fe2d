-- Texts that go to a sink one after another.
use Rattle.lone_partition.proofs.Prelude.{◌≡◌, ℕ, ◌+◌, Bool, true, false, List, [], ◌++◌, Option, refl, sym, ap, subst, ◌∙◌, Appends-nil, Appends, text_of, TakesBeginning, Event, Sent, HasSent}
use Rattle.std.proofs.KnownBytes.{Appends-trans}
use Rattle.lone_partition.proofs.Texts.{text_append, first_fails, second_fails}
use Rattle.lone_partition.specs.Sent.{Takes}

takes_nothing : (s : Sent) (failed : Bool) → Takes s s [] failed failed
takes_nothing s true = (refl, refl)
takes_nothing s false = (Appends-nil s.taken, refl)

pub nothing_sent : (s : Sent) → HasSent s s []
nothing_sent s = record { same_trace = refl; same_sink = refl; takes = takes_nothing s s.failed }

-- a sink that has failed gets nothing more, whatever the text is
pub failed_sent : (s : Sent) (text : List ℕ) → s.failed ≡ true → HasSent s s text
failed_sent s text failed = record { same_trace = refl; same_sink = refl; takes = subst (λ (f : Bool). Takes s s text f f) (sym failed) (refl, refl) }

-- ---- one text, then another

takes_both : (a b c : Sent) (one two : List ℕ) (f g h : Bool) → Takes a b one f g → Takes b c two g h → Takes a c (one ++ two) f h
takes_both a b c one two true true true x y = (y.0 ∙ x.0, y.1 ∙ x.1)
takes_both a b c one two true true false x y = absurd y
takes_both a b c one two true false h x y = absurd x
takes_both a b c one two false true true x y =
    (first_fails a.taken c.taken (one ++ two) one two refl (subst (λ (t : Option (List ℕ)). TakesBeginning a.taken t one) (sym y.0) x.0), y.1 ∙ x.1)
takes_both a b c one two false true false x y = absurd y
takes_both a b c one two false false true x y =
    (second_fails a.taken b.taken c.taken (one ++ two) one two refl x.0 y.0, y.1 ∙ ap (λ n. n + 1) x.1)
takes_both a b c one two false false false x y = (Appends-trans a.taken b.taken c.taken one two x.0 y.0, y.1 ∙ x.1)

pub lines_sent : (a b c : Sent) (one two whole : List Event) → whole ≡ one ++ two → HasSent a b (text_of one) → HasSent b c (text_of two) → HasSent a c (text_of whole)
lines_sent a b c one two whole split x y =
    let text = sym (ap text_of split ∙ text_append one two) in
    record {
      same_trace = y.same_trace ∙ x.same_trace;
      same_sink = y.same_sink ∙ x.same_sink;
      takes = subst (λ (t : List ℕ). Takes a c t a.failed c.failed) text (takes_both a b c (text_of one) (text_of two) a.failed b.failed c.failed x.takes y.takes);
    }

-- ---- the remaining lines

-- Once these lines are sent, all are.
pub record CompletesLines (whole rest : List Event) (old now : Sent) : Type 0 where
  pub ends : (new : Sent) → HasSent now new (text_of rest) → HasSent old new (text_of whole)

pub all_lines_left : (whole : List Event) (s : Sent) → CompletesLines whole whole s s
all_lines_left whole s = record { ends = λ new h. h }

-- some more are sent
pub lines_go_on : (whole now one rest : List Event) (old mid new : Sent) → now ≡ one ++ rest → CompletesLines whole now old mid → HasSent mid new (text_of one) → CompletesLines whole rest old new
lines_go_on whole now one rest old mid new split way h = record { ends = λ end k. way.ends end (lines_sent mid new end one rest now split h k) }

-- none is left
pub lines_are_over : (whole rest : List Event) (old now : Sent) → rest ≡ [] → CompletesLines whole rest old now → HasSent old now (text_of whole)
lines_are_over whole rest old now none way = way.ends now (subst (λ (es : List Event). HasSent now now (text_of es)) (sym none) (nothing_sent now))

-- ---- at last

takes_at : (old new : Sent) (text : List ℕ) (f g : Bool) → old.failed ≡ f → new.failed ≡ g → HasSent old new text → Takes old new text f g
takes_at old new text f g before now h =
    subst (λ (b : Bool). Takes old new text b g) before (subst (λ (b : Bool). Takes old new text old.failed b) now h.takes)

pub all_sent : (old new : Sent) (text : List ℕ) → old.failed ≡ false → new.failed ≡ false → HasSent old new text → Appends old.taken new.taken text × (new.failures ≡ old.failures)
all_sent old new text sound all h = takes_at old new text false false sound all h

pub some_sent : (old new : Sent) (text : List ℕ) → old.failed ≡ false → new.failed ≡ true → HasSent old new text → TakesBeginning old.taken new.taken text × (new.failures ≡ old.failures + 1)
some_sent old new text sound failed h = takes_at old new text false true sound failed h
