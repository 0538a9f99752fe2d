-- The lines of a partition, one more.
use mathlib.Core.List.{reverse-append}
use Rattle.std.proofs.Common.{◌≡◌, ◌≢◌, ℕ, ◌<◌, ◌≤◌, List, [], ◌∷◌, ◌++◌, length, take, Option, Some, None, refl, sym, ap, subst, ◌∙◌, arith, append-nil, append_assoc}
use Rattle.std.specs.Prelude.{reverse}
use Rattle.apex_types.specs.declared.event.Event.{Event}
use Rattle.trace_lines.specs.Parts.{AreOther, IsAlone, IsEndedAs, IsFirst, IsFrontBefore, IsLevel, IsPartAs, IsRest, IsSettled, apart_of, first_line, first_with, last_three, other_side, second_with}
use Rattle.trace_lines.specs.declared.part.Apart.{Apart}
use Rattle.trace_lines.specs.declared.part.Part.{Part}
use Rattle.trace_lines.specs.declared.rest.Rest.{Rest}
use Rattle.trace_lines.specs.declared.side.Side.{Side}
use Rattle.trace_lines.specs.declared.side.Side.TheVariants as side

-- ---- the last three

take_three : (x : Event) (xs : List Event) → take 3 (x ∷ take 3 xs) ≡ take 3 (x ∷ xs)
take_three x [] = refl
take_three x (a ∷ []) = refl
take_three x (a ∷ b ∷ []) = refl
take_three x (a ∷ b ∷ c ∷ xs) = refl

pub one_more_kept : (before lines : List Event) (e : Event) → before ≡ last_three lines → take 3 (e ∷ before) ≡ last_three (lines ++ e ∷ [])
one_more_kept before lines e is =
    ap (λ (b : List Event). take 3 (e ∷ b)) is ∙ take_three e (reverse lines) ∙ sym (ap (take 3) (reverse_with lines e))
  where
    reverse_with : (xs : List Event) (x : Event) → reverse (xs ++ x ∷ []) ≡ x ∷ reverse xs
    reverse_with xs x = reverse-append xs (x ∷ [])

-- ---- the trace that is ahead

pub level_at_first : IsLevel side.First [] [] [] []
level_at_first = record { waits = refl; shown = refl }

pub gone_ahead : (ahead : Side) (waiting before a b : List Event) (e : Event) → IsLevel ahead waiting before a b → IsLevel ahead (waiting ++ e ∷ []) before (first_with ahead e a) (second_with ahead e b)
gone_ahead side.First waiting before a b e level = record {
  waits = ap (λ (xs : List Event). xs ++ e ∷ []) level.waits ∙ append_assoc b waiting (e ∷ []);
  shown = level.shown;
}
gone_ahead side.Second waiting before a b e level = record {
  waits = ap (λ (xs : List Event). xs ++ e ∷ []) level.waits ∙ append_assoc a waiting (e ∷ []);
  shown = level.shown;
}

-- none waits, so the other may be ahead as well
pub turned : (ahead to : Side) (before a b : List Event) → IsLevel ahead [] before a b → IsLevel to [] before a b
turned side.First side.First before a b level = level
turned side.Second side.Second before a b level = level
turned side.First side.Second before a b level = record {
  waits = sym (level.waits ∙ append-nil b) ∙ sym (append-nil a);
  shown = level.shown ∙ ap last_three (sym (level.waits ∙ append-nil b));
}
turned side.Second side.First before a b level = record {
  waits = sym (level.waits ∙ append-nil a) ∙ sym (append-nil b);
  shown = level.shown ∙ ap last_three (sym (level.waits ∙ append-nil a));
}

-- both have the line
pub kept : (ahead : Side) (line event : Event) (waiting before new a b : List Event) → line ≡ event → new ≡ take 3 (line ∷ before) → IsLevel ahead (line ∷ waiting) before a b
    → IsLevel ahead waiting new (first_with (other_side ahead) event a) (second_with (other_side ahead) event b)
kept side.First line event waiting before new a b same is level = record {
  waits = level.waits ∙ sym (append_assoc b (line ∷ []) waiting) ∙ ap (λ (e : Event). (b ++ e ∷ []) ++ waiting) same;
  shown = is ∙ one_more_kept before b line level.shown ∙ ap (λ (e : Event). last_three (b ++ e ∷ [])) same;
}
kept side.Second line event waiting before new a b same is level = record {
  waits = level.waits ∙ sym (append_assoc a (line ∷ []) waiting) ∙ ap (λ (e : Event). (a ++ e ∷ []) ++ waiting) same;
  shown = is ∙ one_more_kept before a line level.shown ∙ ap (λ (e : Event). last_three (a ++ e ∷ [])) same;
}

-- ---- the first difference

pub other_by : (x y : Option Event) (first second : List Event) → x ≡ first_line first → y ≡ first_line second → AreOther (first_line first) (first_line second) → AreOther x y
other_by x y first second is_x is_y h = subst (λ (o : Option Event). AreOther x o) (sym is_y) (subst (λ (o : Option Event). AreOther o (first_line second)) (sym is_x) h)

-- one side goes on where the other ends
pub apart_alone : (ahead : Side) (waiting before a b : List Event) (rest none : Rest) → 0 < length waiting → IsLevel ahead waiting before a b → IsRest rest waiting → IsRest none []
    → IsFirst before (apart_of ahead rest none).first (apart_of ahead rest none).second a b
apart_alone ahead [] before a b rest none some level is_rest is_none = absurd (omega (arith, some))
apart_alone side.First (w ∷ ws) before a b rest none some level is_rest is_none = record {
  both = b;
  first = w ∷ ws;
  second = [];
  first_part = level.waits;
  second_part = sym (append-nil b);
  shown = level.shown;
  first_rest = is_rest;
  second_rest = is_none;
  differ = other_by rest.line none.line (w ∷ ws) [] is_rest.first is_none.first tt;
}
apart_alone side.Second (w ∷ ws) before a b rest none some level is_rest is_none = record {
  both = a;
  first = [];
  second = w ∷ ws;
  first_part = sym (append-nil a);
  second_part = level.waits;
  shown = level.shown;
  first_rest = is_none;
  second_rest = is_rest;
  differ = other_by none.line rest.line [] (w ∷ ws) is_none.first is_rest.first tt;
}

-- both have a line, and not the same one
pub apart_both : (ahead : Side) (line event : Event) (waiting before a b : List Event) (rest own : Rest) → (line ≡ event → ⊥) → IsLevel ahead (line ∷ waiting) before a b → IsRest rest (line ∷ waiting) → IsRest own (event ∷ [])
    → IsFirst before (apart_of ahead rest own).first (apart_of ahead rest own).second (first_with (other_side ahead) event a) (second_with (other_side ahead) event b)
apart_both side.First line event waiting before a b rest own differ level is_rest is_own = record {
  both = b;
  first = line ∷ waiting;
  second = event ∷ [];
  first_part = level.waits;
  second_part = refl;
  shown = level.shown;
  first_rest = is_rest;
  second_rest = is_own;
  differ = other_by rest.line own.line (line ∷ waiting) (event ∷ []) is_rest.first is_own.first differ;
}
apart_both side.Second line event waiting before a b rest own differ level is_rest is_own = record {
  both = a;
  first = event ∷ [];
  second = line ∷ waiting;
  first_part = refl;
  second_part = level.waits;
  shown = level.shown;
  first_rest = is_own;
  second_rest = is_rest;
  differ = other_by own.line rest.line (event ∷ []) (line ∷ waiting) is_own.first is_rest.first (λ (same : event ≡ line). differ (sym same));
}

-- ---- lines after the first difference

-- the next line is later than that of the other trace, if it is the first one after the difference
abbrev pub IsLater : Option Event → Option Event → Event → Type 0
IsLater None (Some y) e = y.tick.0 < e.tick.0
IsLater _ _ e = Unit {0}

first_later : (x y : Option Event) (e : Event) (now : ℕ) → IsAlone x y now → now ≤ e.tick.0 → IsLater x y e
first_later None None e now alone order = tt
first_later None (Some y) e now alone order = omega (arith, alone, order)
first_later (Some x) y e now alone order = tt

second_later : (x y : Option Event) (e : Event) (now : ℕ) → IsAlone x y now → now ≤ e.tick.0 → IsLater y x e
second_later None None e now alone order = tt
second_later (Some x) None e now alone order = omega (arith, alone, order)
second_later x (Some y) e now alone order = tt

later_is_other : (x e : Event) → x.tick.0 < e.tick.0 → x ≢ e
later_is_other x e later same = let t : x.tick.0 ≡ e.tick.0 = ap (λ (v : Event). v.tick.0) same in absurd (omega (arith, later, t))

-- the first line stays, if there is one
pub one_more_first : (before a b : List Event) (x new y : Rest) (e : Event) → IsFirst before x y a b → IsLater x.line y.line e
    → ((lines : List Event) → IsRest x lines → IsRest new (lines ++ e ∷ [])) → (x.line ≡ None → new.line ≡ Some e) → ((first : Event) → x.line ≡ Some first → new.line ≡ Some first)
    → IsFirst before new y (a ++ e ∷ []) b
one_more_first before a b x new y e is later adds none some = record {
  both = is.both;
  first = is.first ++ e ∷ [];
  second = is.second;
  first_part = ap (λ (xs : List Event). xs ++ e ∷ []) is.first_part ∙ append_assoc is.both is.first (e ∷ []);
  second_part = is.second_part;
  shown = is.shown;
  first_rest = adds is.first is.first_rest;
  second_rest = is.second_rest;
  differ = still x.line y.line refl refl is.differ later;
}
  where
    still : (o p : Option Event) → o ≡ x.line → p ≡ y.line → AreOther o p → IsLater o p e → AreOther new.line y.line
    still None None ox py other later = absurd other
    still None (Some v) ox py other later = subst (λ (q : Option Event). AreOther q y.line) (sym (none (sym ox))) (subst (λ (q : Option Event). AreOther (Some e) q) py (λ (same : e ≡ v). later_is_other v e later (sym same)))
    still (Some u) p ox py other later = subst (λ (q : Option Event). AreOther q y.line) (sym (some u (sym ox))) (subst (λ (q : Option Event). AreOther (Some u) q) py other)

pub one_more_second : (before a b : List Event) (x y new : Rest) (e : Event) → IsFirst before x y a b → IsLater y.line x.line e
    → ((lines : List Event) → IsRest y lines → IsRest new (lines ++ e ∷ [])) → (y.line ≡ None → new.line ≡ Some e) → ((first : Event) → y.line ≡ Some first → new.line ≡ Some first)
    → IsFirst before x new a (b ++ e ∷ [])
one_more_second before a b x y new e is later adds none some = record {
  both = is.both;
  first = is.first;
  second = is.second ++ e ∷ [];
  first_part = is.first_part;
  second_part = ap (λ (xs : List Event). xs ++ e ∷ []) is.second_part ∙ append_assoc is.both is.second (e ∷ []);
  shown = is.shown;
  first_rest = is.first_rest;
  second_rest = adds is.second is.second_rest;
  differ = still x.line y.line refl refl is.differ later;
}
  where
    still : (o p : Option Event) → o ≡ x.line → p ≡ y.line → AreOther o p → IsLater p o e → AreOther x.line new.line
    still None None ox py other later = absurd other
    still (Some v) None ox py other later = subst (λ (q : Option Event). AreOther x.line q) (sym (none (sym py))) (subst (λ (q : Option Event). AreOther q (Some e)) ox (later_is_other v e later))
    still None (Some u) ox py other later = subst (λ (q : Option Event). AreOther x.line q) (sym (some u (sym py))) (subst (λ (q : Option Event). AreOther q (Some u)) ox other)
    still (Some v) (Some u) ox py other later = subst (λ (q : Option Event). AreOther x.line q) (sym (some u (sym py))) (subst (λ (q : Option Event). AreOther q (Some u)) ox other)

-- the line of one trace stays, or comes now
pub first_settled : (x new y : Option Event) (e : Event) (now : ℕ) → IsAlone x y now → now ≤ e.tick.0 → (x ≡ None → new ≡ Some e) → ((first : Event) → x ≡ Some first → new ≡ Some first) → IsAlone new y e.tick.0
first_settled None new None e now alone order none some = absurd alone
first_settled None new (Some y) e now alone order none some = subst (λ (o : Option Event). IsAlone o (Some y) e.tick.0) (sym (none refl)) tt
first_settled (Some x) new None e now alone order none some = subst (λ (o : Option Event). IsAlone o None e.tick.0) (sym (some x refl)) (omega (arith, alone, order))
first_settled (Some x) new (Some y) e now alone order none some = subst (λ (o : Option Event). IsAlone o (Some y) e.tick.0) (sym (some x refl)) tt

pub second_settled : (x y new : Option Event) (e : Event) (now : ℕ) → IsAlone x y now → now ≤ e.tick.0 → (y ≡ None → new ≡ Some e) → ((first : Event) → y ≡ Some first → new ≡ Some first) → IsAlone x new e.tick.0
second_settled None None new e now alone order none some = absurd alone
second_settled (Some x) None new e now alone order none some = subst (λ (o : Option Event). IsAlone (Some x) o e.tick.0) (sym (none refl)) tt
second_settled None (Some y) new e now alone order none some = subst (λ (o : Option Event). IsAlone None o e.tick.0) (sym (some y refl)) (omega (arith, alone, order))
second_settled (Some x) (Some y) new e now alone order none some = subst (λ (o : Option Event). IsAlone (Some x) o e.tick.0) (sym (some y refl)) tt

alone_by : (x y : Option Event) (now : ℕ) (o p : Option Event) → o ≡ x → p ≡ y → IsAlone o p now → IsAlone x y now
alone_by x y now o p ox py h = subst (λ (q : Option Event). IsAlone x q now) py (subst (λ (q : Option Event). IsAlone q p now) ox h)

-- the other trace has no lines yet for those of the trace that is ahead
pub alone_settled : (ahead : Side) (waiting : List Event) (rest none : Rest) (now : ℕ) → 0 < length waiting → IsFrontBefore waiting now → IsRest rest waiting → IsRest none [] → IsSettled (Some (apart_of ahead rest none)) now
alone_settled ahead [] rest none now some front is_rest is_none = absurd (omega (arith, some))
alone_settled side.First (w ∷ ws) rest none now some front is_rest is_none = alone_by rest.line none.line now (Some w) None (sym is_rest.first) (sym is_none.first) front
alone_settled side.Second (w ∷ ws) rest none now some front is_rest is_none = alone_by none.line rest.line now None (Some w) (sym is_none.first) (sym is_rest.first) front

-- ---- one line more, after the first difference

pub goes_on_first : (before a b : List Event) (x new y : Rest) (e : Event) (now : ℕ) → IsFirst before x y a b → IsAlone x.line y.line now → now ≤ e.tick.0
    → ((lines : List Event) → IsRest x lines → IsRest new (lines ++ e ∷ [])) → (x.line ≡ None → new.line ≡ Some e) → ((first : Event) → x.line ≡ Some first → new.line ≡ Some first)
    → IsFirst before new y (a ++ e ∷ []) b
goes_on_first before a b x new y e now is alone order adds none some = one_more_first before a b x new y e is (first_later x.line y.line e now alone order) adds none some

pub goes_on_second : (before a b : List Event) (x y new : Rest) (e : Event) (now : ℕ) → IsFirst before x y a b → IsAlone x.line y.line now → now ≤ e.tick.0
    → ((lines : List Event) → IsRest y lines → IsRest new (lines ++ e ∷ [])) → (y.line ≡ None → new.line ≡ Some e) → ((first : Event) → y.line ≡ Some first → new.line ≡ Some first)
    → IsFirst before x new a (b ++ e ∷ [])
goes_on_second before a b x y new e now is alone order adds none some = one_more_second before a b x y new e is (second_later x.line y.line e now alone order) adds none some

-- ---- the end

-- level to the end: they are the same
pub level_is_same : (ahead : Side) (before a b : List Event) → IsLevel ahead [] before a b → a ≡ b
level_is_same side.First before a b level = level.waits ∙ append-nil b
level_is_same side.Second before a b level = sym (level.waits ∙ append-nil a)

-- what parted ways has no other end
pub ended : (o : Option Apart) (p : Part) (a b : List Event) → (o ≢ None) → IsPartAs o p a b → IsEndedAs o p a b
ended None p a b some h = absurd (some refl)
ended (Some d) p a b some h = h
