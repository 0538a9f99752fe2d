-- The errors and the messages of the lines of a trace, one line after another.
use Rattle.std.proofs.Common.{◌≡◌, inl, inr, ◌≤◌, ℕ, zero, suc, ◌+◌, Bool, true, false, List, [], ◌∷◌, ◌++◌, Option, Some, None, refl, sym, ap, subst, ◌∙◌, arith}
use Rattle.std.specs.Prelude.{◌&&◌, ◌||◌, if◌then◌else◌, nat_le, slice_get, slice_set}
use Rattle.std.proofs.Math.Dec.{ltb}
use Rattle.std.proofs.lemmas.Bool.{and_parts, false≢true, le-ltb}
use Rattle.std.proofs.lemmas.Option.{same_Some}
use Rattle.apex_types.specs.declared.codes.ErrorKind.{ErrorKind}
use Rattle.apex_types.specs.declared.codes.Response.{Response}
use Rattle.apex_types.specs.declared.event.Event.{Event}
use Rattle.apex_types.specs.declared.event.EventKind.{EventKind}
use Rattle.apex_types.specs.declared.event.EventKind.TheVariants as event
use Rattle.engine_meaning.specs.Digits.{same}
use Rattle.trace_stays.specs.Following.{is_of}
use Rattle.trace_stays.specs.declared.span.Span.{Span}
use Rattle.trace_stays.proofs.Followed.{same_is}
use Rattle.trace_view.specs.Counted.{HasErrorIf, HasMessage, HasMessageIf}
use Rattle.trace_view.specs.Counting.{capped, route_of, with_message}
use Rattle.trace_view.specs.Errors.{IsCounted, IsNoneOf, IsOf, first_one}
use Rattle.trace_view.specs.Extents.{extent_after, with_line, with_line_if}
use Rattle.trace_view.specs.Tallies.{has_tick}
use Rattle.trace_view.specs.Traffic as traffic
use Rattle.trace_view.specs.Traffic.{no_messages, total_of, totals_at, totals_from, with_one}
use Rattle.trace_view.specs.Whole.{AreApart, AreErrorsOf, AreMessagesOf, HasNone, errors_in, has_partition, is_alike, is_at, is_error, is_same_route, lines_of, messages_at, messages_in, or_none, ticks_of_lines}
use Rattle.trace_view.specs.declared.errors.Errors.{Errors}
use Rattle.trace_view.specs.declared.errors.ErrorTotal.{ErrorTotal}
use Rattle.trace_view.specs.declared.extent.Extent.{Extent}
use Rattle.trace_view.specs.declared.messages.Messages.{Messages}
use Rattle.trace_view.specs.declared.messages.Route.{Route}
use Rattle.trace_view.specs.declared.messages.Route.TheVariants as route
use Rattle.trace_view.specs.declared.report.PartitionTotal.{PartitionTotal}
use Rattle.trace_view.specs.declared.report.RouteTotal.{RouteTotal}
use Rattle.trace_view.specs.declared.traffic.Passage.{Passage}
use Rattle.trace_view.specs.declared.traffic.Traffic.{Traffic}

-- ---- lines after the window

outside_by : (a b : Bool) → b ≡ false → (a && b) ≡ false
outside_by true b e = e
outside_by false b e = refl

outside : (window : Span) (t : ℕ) → window.until.0 ≤ t → has_tick window t ≡ false
outside window t behind = outside_by (nat_le window.from.0 t) (ltb t window.until.0) (le-ltb t window.until.0 behind)

pub no_errors_behind : (window : Span) (t : ℕ) (partition : Option (List ℕ)) (kind : EventKind) (e : Errors) → window.until.0 ≤ t → HasErrorIf (has_tick window t) partition kind e e
no_errors_behind window t partition kind e behind = subst (λ (b : Bool). HasErrorIf b partition kind e e) (sym (outside window t behind)) refl

pub no_messages_behind : (window : Span) (t : ℕ) (partition : Option (List ℕ)) (kind : EventKind) (m : Traffic) → window.until.0 ≤ t → HasMessageIf (has_tick window t) partition kind m m
no_messages_behind window t partition kind m behind = subst (λ (b : Bool). HasMessageIf b partition kind m m) (sym (outside window t behind)) refl

-- ---- the extent

line_window_if : (b : Bool) (e : Event) (x : Extent) → (with_line_if b e.tick x).window ≡ x.window
line_window_if true e x = refl
line_window_if false e x = refl

pub same_window : (e : Event) (old new : Extent) → new ≡ with_line e.tick old → new.window ≡ old.window
same_window e old new is = ap (λ (x : Extent). x.window) is ∙ line_window_if (has_tick old.window e.tick.0) e old

pub extent_read : (e : Event) (es left : List Event) (old new all : Extent) → left ≡ e ∷ es → new ≡ with_line e.tick old → extent_after old (ticks_of_lines left) ≡ all → extent_after new (ticks_of_lines es) ≡ all
extent_read e es left old new all first is will = ap (λ (x : Extent). extent_after x (ticks_of_lines es)) is ∙ (ap (λ (xs : List Event). extent_after old (ticks_of_lines xs)) (sym first) ∙ will)

-- ---- errors: one line more where those of its kind are

abbrev pub and_line : ErrorTotal → ErrorTotal
and_line one = record one { lines = capped (one.lines + 1) }

more_capped : (a l n d : ℕ) → capped n ≡ capped (l + d) → capped (a + n) ≡ capped ((a + l) + d)
more_capped a l n d more = omega (arith, more)

line_more : (name : Option (List ℕ)) (error : ErrorKind) (response : Response) (xs : List ErrorTotal) (k : ℕ) (one : ErrorTotal) → slice_get xs k ≡ Some one
    → capped (lines_of name error response (slice_set xs k (and_line one))) ≡ capped (lines_of name error response xs + (if is_alike name error response one.partition one.error one.response then 1 else 0))
line_more name error response [] k one h = cc
line_more name error response (x ∷ xs) zero one h =
    by (is_alike name error response one.partition one.error one.response) (lines_of name error response xs)
    ∙ ap (λ (y : ErrorTotal). capped (lines_of name error response (y ∷ xs) + (if is_alike name error response one.partition one.error one.response then 1 else 0))) (sym (same_Some x one h))
  where
    by : (b : Bool) (rest : ℕ) → capped ((if b then capped (one.lines + 1) else 0) + rest) ≡ capped (((if b then one.lines else 0) + rest) + (if b then 1 else 0))
    by true rest = omega arith
    by false rest = omega arith
line_more name error response (x ∷ xs) (suc k) one h =
    more_capped (if is_alike name error response x.partition x.error x.response then x.lines else 0) (lines_of name error response xs) (lines_of name error response (slice_set xs k (and_line one)))
    (if is_alike name error response one.partition one.error one.response then 1 else 0) (line_more name error response xs k one h)

lines_added : (name : Option (List ℕ)) (error : ErrorKind) (response : Response) (xs : List ErrorTotal) (y : ErrorTotal)
    → lines_of name error response (xs ++ y ∷ []) ≡ lines_of name error response xs + (if is_alike name error response y.partition y.error y.response then y.lines else 0)
lines_added name error response [] y = by (if is_alike name error response y.partition y.error y.response then y.lines else 0)
  where
    by : (n : ℕ) → n + 0 ≡ 0 + n
    by n = omega arith
lines_added name error response (x ∷ xs) y =
    let rest = lines_added name error response xs y in
    by (if is_alike name error response x.partition x.error x.response then x.lines else 0) (lines_of name error response (xs ++ y ∷ [])) (lines_of name error response xs)
    (if is_alike name error response y.partition y.error y.response then y.lines else 0) rest
  where
    by : (a n l d : ℕ) → n ≡ l + d → a + n ≡ (a + l) + d
    by a n l d more = omega (arith, more)

same_alike : (name : Option (List ℕ)) (error : ErrorKind) (response : Response) (p : Option (List ℕ)) (e : ErrorKind) (r : Response) (one : ErrorTotal) → IsOf p e r one
    → is_alike name error response one.partition one.error one.response ≡ is_alike name error response p e r
same_alike name error response p e r one is =
    ap (λ (q : Option (List ℕ)). is_alike name error response q one.error one.response) is.0
    ∙ (ap (λ (f : ErrorKind). is_alike name error response p f one.response) is.1 ∙ ap (λ (s : Response). is_alike name error response p e s) is.2)

counted_lines : (name : Option (List ℕ)) (error : ErrorKind) (response : Response) (p : Option (List ℕ)) (e : ErrorKind) (r : Response) (old new : List ErrorTotal) → IsCounted p e r old new
    → capped (lines_of name error response new) ≡ capped (lines_of name error response old + (if is_alike name error response p e r then 1 else 0))
counted_lines name error response p e r old new (inl (k, (one, (there, is, set)))) =
    ap (λ (xs : List ErrorTotal). capped (lines_of name error response xs)) set
    ∙ (line_more name error response old k one there
    ∙ ap (λ (b : Bool). capped (lines_of name error response old + (if b then 1 else 0))) (same_alike name error response p e r one is))
counted_lines name error response p e r old new (inr (none, more)) =
    ap (λ (xs : List ErrorTotal). capped (lines_of name error response xs)) more
    ∙ ap capped (lines_added name error response old (first_one p e r))

same_lines : (name : Option (List ℕ)) (error : ErrorKind) (response : Response) (old new : Errors) → new ≡ old
    → capped (lines_of name error response new.totals.items) ≡ capped (lines_of name error response old.totals.items + 0)
same_lines name error response old new is = ap (λ (x : Errors). capped (lines_of name error response x.totals.items)) is ∙ by (lines_of name error response old.totals.items)
  where
    by : (n : ℕ) → capped n ≡ capped (n + 0)
    by n = omega arith

error_read : (name : Option (List ℕ)) (error : ErrorKind) (response : Response) (b : Bool) (partition : Option (List ℕ)) (kind : EventKind) (old new : Errors) → HasErrorIf b partition kind old new
    → capped (lines_of name error response new.totals.items) ≡ capped (lines_of name error response old.totals.items + (if b && is_error name error response partition kind then 1 else 0))
error_read name error response false partition kind old new is = same_lines name error response old new is
error_read name error response true partition (event.Error e who r) old new is = counted_lines name error response partition e r old.totals.items new.totals.items is
error_read name error response true partition (event.State who s) old new is = same_lines name error response old new is
error_read name error response true partition (event.Return who service code) old new is = same_lines name error response old new is
error_read name error response true partition (event.Mode m) old new is = same_lines name error response old new is
error_read name error response true partition (event.Report who words) old new is = same_lines name error response old new is
error_read name error response true partition (event.Move port words) old new is = same_lines name error response old new is
error_read name error response true partition (event.Arrive port words) old new is = same_lines name error response old new is
error_read name error response true partition (event.Lost port words) old new is = same_lines name error response old new is
error_read name error response true partition (event.Out channel words) old new is = same_lines name error response old new is

-- each appears once

has_none : (p : Option (List ℕ)) (e : ErrorKind) (r : Response) (xs : List ErrorTotal) → IsNoneOf p e r xs → HasNone p e r xs
has_none p e r [] none = tt
has_none p e r (x ∷ xs) none = (λ is. none 0 x refl is, has_none p e r xs (λ k one at is. none (suc k) one at is))

none_more : (p : Option (List ℕ)) (e : ErrorKind) (r : Response) (xs : List ErrorTotal) (k : ℕ) (one : ErrorTotal) → slice_get xs k ≡ Some one → HasNone p e r xs → HasNone p e r (slice_set xs k (and_line one))
none_more p e r [] k one h none = cc
none_more p e r (x ∷ xs) zero one h none = (λ is. none.0 (subst (IsOf p e r) (sym (same_Some x one h)) is), none.1)
none_more p e r (x ∷ xs) (suc k) one h none = (none.0, none_more p e r xs k one h none.1)

apart_more : (xs : List ErrorTotal) (k : ℕ) (one : ErrorTotal) → slice_get xs k ≡ Some one → AreApart xs → AreApart (slice_set xs k (and_line one))
apart_more [] k one h apart = cc
apart_more (x ∷ xs) zero one h apart = (subst (λ (y : ErrorTotal). HasNone y.partition y.error y.response xs) (same_Some x one h) apart.0, apart.1)
apart_more (x ∷ xs) (suc k) one h apart = (none_more x.partition x.error x.response xs k one h apart.0, apart_more xs k one h apart.1)

none_added : (p : Option (List ℕ)) (e : ErrorKind) (r : Response) (xs : List ErrorTotal) (y : ErrorTotal) → HasNone p e r xs → (IsOf p e r y → ⊥) → HasNone p e r (xs ++ y ∷ [])
none_added p e r [] y none other = (other, tt)
none_added p e r (x ∷ xs) y none other = (none.0, none_added p e r xs y none.1 other)

apart_added : (xs : List ErrorTotal) (p : Option (List ℕ)) (e : ErrorKind) (r : Response) → AreApart xs → HasNone p e r xs → AreApart (xs ++ first_one p e r ∷ [])
apart_added [] p e r apart none = (tt, tt)
apart_added (x ∷ xs) p e r apart none =
    (none_added x.partition x.error x.response xs (first_one p e r) apart.0 (λ is. none.0 (sym is.0, sym is.1, sym is.2)), apart_added xs p e r apart.1 none.1)

counted_apart : (p : Option (List ℕ)) (e : ErrorKind) (r : Response) (old new : List ErrorTotal) → IsCounted p e r old new → AreApart old → AreApart new
counted_apart p e r old new (inl (k, (one, (there, is, set)))) apart = subst AreApart (sym set) (apart_more old k one there apart)
counted_apart p e r old new (inr (none, more)) apart = subst AreApart (sym more) (apart_added old p e r apart (has_none p e r old none))

same_apart : (old new : Errors) → new ≡ old → AreApart old.totals.items → AreApart new.totals.items
same_apart old new is apart = subst (λ (x : Errors). AreApart x.totals.items) (sym is) apart

error_apart : (b : Bool) (partition : Option (List ℕ)) (kind : EventKind) (old new : Errors) → HasErrorIf b partition kind old new → AreApart old.totals.items → AreApart new.totals.items
error_apart false partition kind old new is apart = same_apart old new is apart
error_apart true partition (event.Error e who r) old new is apart = counted_apart partition e r old.totals.items new.totals.items is apart
error_apart true partition (event.State who s) old new is apart = same_apart old new is apart
error_apart true partition (event.Return who service code) old new is apart = same_apart old new is apart
error_apart true partition (event.Mode m) old new is apart = same_apart old new is apart
error_apart true partition (event.Report who words) old new is apart = same_apart old new is apart
error_apart true partition (event.Move port words) old new is apart = same_apart old new is apart
error_apart true partition (event.Arrive port words) old new is apart = same_apart old new is apart
error_apart true partition (event.Lost port words) old new is apart = same_apart old new is apart
error_apart true partition (event.Out channel words) old new is apart = same_apart old new is apart

-- the lines that are counted, and those that are left, are all
pub record ErrorsWillBe (window : Span) (events left : List Event) (totals : List ErrorTotal) : Type 0 where
  pub lines : (name : Option (List ℕ)) (error : ErrorKind) (response : Response)
      → capped (lines_of name error response totals + errors_in window name error response left) ≡ capped (errors_in window name error response events)
  pub apart : AreApart totals

pub errors_begin : (window : Span) (events : List Event) (totals : List ErrorTotal) → totals ≡ [] → ErrorsWillBe window events events totals
errors_begin window events totals none = record {
  lines = λ name error response. ap (λ (xs : List ErrorTotal). capped (lines_of name error response xs + errors_in window name error response events)) none ∙ by (errors_in window name error response events);
  apart = subst AreApart (sym none) tt;
}
  where
    by : (n : ℕ) → capped (0 + n) ≡ capped n
    by n = omega arith

pub errors_read : (window : Span) (events : List Event) (e : Event) (es left : List Event) (old new : Errors) → left ≡ e ∷ es → HasErrorIf (has_tick window e.tick.0) e.partition e.kind old new
    → ErrorsWillBe window events left old.totals.items → ErrorsWillBe window events es new.totals.items
errors_read window events e es left old new first counted will = record {
  lines = λ name error response.
      by (lines_of name error response new.totals.items) (lines_of name error response old.totals.items)
      (if has_tick window e.tick.0 && is_error name error response e.partition e.kind then 1 else 0) (errors_in window name error response es)
      (error_read name error response (has_tick window e.tick.0) e.partition e.kind old new counted)
      ∙ (ap (λ (xs : List Event). capped (lines_of name error response old.totals.items + errors_in window name error response xs)) (sym first) ∙ will.lines name error response);
  apart = error_apart (has_tick window e.tick.0) e.partition e.kind old new counted will.apart;
}
  where
    by : (n l d rest : ℕ) → capped n ≡ capped (l + d) → capped (n + rest) ≡ capped (l + (d + rest))
    by n l d rest more = omega (arith, more)

pub errors_all : (window : Span) (events left : List Event) (totals rows : List ErrorTotal) → left ≡ [] → rows ≡ totals → ErrorsWillBe window events left totals → AreErrorsOf window events rows
errors_all window events left totals rows none are will = record {
  lines = λ name error response. ap (λ (xs : List ErrorTotal). capped (lines_of name error response xs)) are
      ∙ (by (lines_of name error response totals)
      ∙ (ap (λ (xs : List Event). capped (lines_of name error response totals + errors_in window name error response xs)) (sym none) ∙ will.lines name error response));
  apart = subst AreApart (sym are) will.apart;
}
  where
    by : (n : ℕ) → capped n ≡ capped (n + 0)
    by n = omega arith

-- ---- messages

abbrev pub found_for : List ℕ → Route → List Passage → Option Messages
found_for name r [] = None
found_for name r (one ∷ more) = if same one.partition name && is_same_route one.route r then Some one.messages else found_for name r more

abbrev pub LacksPassage : List ℕ → Route → List Passage → Type 0
LacksPassage name r [] = Unit {0}
LacksPassage name r (one ∷ more) = (traffic.IsOf name r one → ⊥) × LacksPassage name r more

abbrev pub ArePassagesApart : List Passage → Type 0
ArePassagesApart [] = Unit {0}
ArePassagesApart (one ∷ more) = LacksPassage one.partition one.route more × ArePassagesApart more

same_route_is : (a b : Route) → is_same_route a b ≡ true → a ≡ b
same_route_is (route.Port a) (route.Port b) e = ap (λ n. route.Port n) (same_is a b e)
same_route_is (route.Channel a) (route.Channel b) e = ap (λ n. route.Channel n) (same_is a b e)
same_route_is (route.Port a) (route.Channel b) e = absurd (false≢true e)
same_route_is (route.Channel a) (route.Port b) e = absurd (false≢true e)

-- two that are found by the same name and the same port or channel
both_of : (name : List ℕ) (r : Route) (p q : List ℕ) (s t : Route) → (same p name && is_same_route s r) ≡ true → (same q name && is_same_route t r) ≡ true → (p ≡ q) × (s ≡ t)
both_of name r p q s t a b =
    let one = and_parts (same p name) (is_same_route s r) a in
    let other = and_parts (same q name) (is_same_route t r) b in
    (same_is p name one.0 ∙ sym (same_is q name other.0), same_route_is s r one.1 ∙ sym (same_route_is t r other.1))

lacks_at : (p : List ℕ) (q : Route) (xs : List Passage) (k : ℕ) (one : Passage) → LacksPassage p q xs → slice_get xs k ≡ Some one → traffic.IsOf p q one → ⊥
lacks_at p q [] k one none h is = cc
lacks_at p q (x ∷ xs) zero one none h is = none.0 (subst (traffic.IsOf p q) (sym (same_Some x one h)) is)
lacks_at p q (x ∷ xs) (suc k) one none h is = lacks_at p q xs k one none.1 h is

lacks_one : (p : List ℕ) (q : Route) (xs : List Passage) → traffic.IsNoneOf p q xs → LacksPassage p q xs
lacks_one p q [] none = tt
lacks_one p q (x ∷ xs) none = (λ is. none 0 x refl is, lacks_one p q xs (λ k one at is. none (suc k) one at is))

lacks_more : (p : List ℕ) (q : Route) (kind : EventKind) (xs : List Passage) (k : ℕ) (one : Passage) → slice_get xs k ≡ Some one → LacksPassage p q xs → LacksPassage p q (slice_set xs k (with_one kind one))
lacks_more p q kind [] k one h none = cc
lacks_more p q kind (x ∷ xs) zero one h none = (λ is. none.0 (subst (traffic.IsOf p q) (sym (same_Some x one h)) is), none.1)
lacks_more p q kind (x ∷ xs) (suc k) one h none = (none.0, lacks_more p q kind xs k one h none.1)

passages_more : (kind : EventKind) (xs : List Passage) (k : ℕ) (one : Passage) → slice_get xs k ≡ Some one → ArePassagesApart xs → ArePassagesApart (slice_set xs k (with_one kind one))
passages_more kind [] k one h apart = cc
passages_more kind (x ∷ xs) zero one h apart = (subst (λ (y : Passage). LacksPassage y.partition y.route xs) (same_Some x one h) apart.0, apart.1)
passages_more kind (x ∷ xs) (suc k) one h apart = (lacks_more x.partition x.route kind xs k one h apart.0, passages_more kind xs k one h apart.1)

lacks_added : (p : List ℕ) (q : Route) (xs : List Passage) (y : Passage) → LacksPassage p q xs → (traffic.IsOf p q y → ⊥) → LacksPassage p q (xs ++ y ∷ [])
lacks_added p q [] y none other = (other, tt)
lacks_added p q (x ∷ xs) y none other = (none.0, lacks_added p q xs y none.1 other)

passages_added : (kind : EventKind) (xs : List Passage) (p : List ℕ) (q : Route) → ArePassagesApart xs → LacksPassage p q xs → ArePassagesApart (xs ++ traffic.first_one p q kind ∷ [])
passages_added kind [] p q apart none = (tt, tt)
passages_added kind (x ∷ xs) p q apart none =
    (lacks_added x.partition x.route xs (traffic.first_one p q kind) apart.0 (λ is. none.0 (sym is.0, sym is.1)), passages_added kind xs p q apart.1 none.1)

-- one message more
abbrev pub and_message : Bool → EventKind → Option Messages → Messages
and_message b kind m = if b then with_message kind (or_none m) else or_none m

found_more : (name : List ℕ) (r : Route) (kind : EventKind) (xs : List Passage) (k : ℕ) (one : Passage) → slice_get xs k ≡ Some one → ArePassagesApart xs
    → or_none (found_for name r (slice_set xs k (with_one kind one))) ≡ and_message (same one.partition name && is_same_route one.route r) kind (found_for name r xs)
found_more name r kind [] k one h apart = cc
found_more name r kind (x ∷ xs) zero one h apart =
    by (same one.partition name && is_same_route one.route r)
    ∙ ap (λ (y : Passage). and_message (same one.partition name && is_same_route one.route r) kind (found_for name r (y ∷ xs))) (sym (same_Some x one h))
  where
    by : (b : Bool) → or_none (if b then Some (with_message kind one.messages) else found_for name r xs) ≡ and_message b kind (if b then Some one.messages else found_for name r xs)
    by true = refl
    by false = refl
found_more name r kind (x ∷ xs) (suc k) one h apart =
    by (same x.partition name && is_same_route x.route r) refl (same one.partition name && is_same_route one.route r) refl (found_more name r kind xs k one h apart.1)
  where
    by : (b : Bool) → (same x.partition name && is_same_route x.route r) ≡ b → (c : Bool) → (same one.partition name && is_same_route one.route r) ≡ c
        → or_none (found_for name r (slice_set xs k (with_one kind one))) ≡ and_message c kind (found_for name r xs)
        → or_none (if b then Some x.messages else found_for name r (slice_set xs k (with_one kind one))) ≡ and_message c kind (if b then Some x.messages else found_for name r xs)
    by true e true f rest = let same_ones = both_of name r one.partition x.partition one.route x.route f e in absurd (lacks_at x.partition x.route xs k one apart.0 h same_ones)
    by true e false f rest = refl
    by false e c f rest = rest

found_added : (name : List ℕ) (r : Route) (kind : EventKind) (xs : List Passage) (p : List ℕ) (q : Route) → LacksPassage p q xs
    → or_none (found_for name r (xs ++ traffic.first_one p q kind ∷ [])) ≡ and_message (same p name && is_same_route q r) kind (found_for name r xs)
found_added name r kind [] p q none = by (same p name && is_same_route q r)
  where
    by : (b : Bool) → or_none (if b then Some (with_message kind no_messages) else None) ≡ and_message b kind None
    by true = refl
    by false = refl
found_added name r kind (x ∷ xs) p q none =
    by (same x.partition name && is_same_route x.route r) refl (same p name && is_same_route q r) refl (found_added name r kind xs p q none.1)
  where
    by : (b : Bool) → (same x.partition name && is_same_route x.route r) ≡ b → (c : Bool) → (same p name && is_same_route q r) ≡ c
        → or_none (found_for name r (xs ++ traffic.first_one p q kind ∷ [])) ≡ and_message c kind (found_for name r xs)
        → or_none (if b then Some x.messages else found_for name r (xs ++ traffic.first_one p q kind ∷ [])) ≡ and_message c kind (if b then Some x.messages else found_for name r xs)
    by true e true f rest = absurd (none.0 (both_of name r x.partition p x.route q e f))
    by true e false f rest = refl
    by false e c f rest = rest

counted_messages : (name : List ℕ) (r : Route) (p : List ℕ) (q : Route) (kind : EventKind) (old new : List Passage) → traffic.IsCounted p q kind old new → ArePassagesApart old
    → or_none (found_for name r new) ≡ and_message (same p name && is_same_route q r) kind (found_for name r old)
counted_messages name r p q kind old new (inl (k, (one, (there, is, set)))) apart =
    ap (λ (xs : List Passage). or_none (found_for name r xs)) set
    ∙ (found_more name r kind old k one there apart
    ∙ (ap (λ (n : List ℕ). and_message (same n name && is_same_route one.route r) kind (found_for name r old)) is.0
    ∙ ap (λ (s : Route). and_message (same p name && is_same_route s r) kind (found_for name r old)) is.1))
counted_messages name r p q kind old new (inr (none, more)) apart =
    ap (λ (xs : List Passage). or_none (found_for name r xs)) more ∙ found_added name r kind old p q (lacks_one p q old none)

counted_passages : (p : List ℕ) (q : Route) (kind : EventKind) (old new : List Passage) → traffic.IsCounted p q kind old new → ArePassagesApart old → ArePassagesApart new
counted_passages p q kind old new (inl (k, (one, (there, is, set)))) apart = subst ArePassagesApart (sym set) (passages_more kind old k one there apart)
counted_passages p q kind old new (inr (none, more)) apart = subst ArePassagesApart (sym more) (passages_added kind old p q apart (lacks_one p q old none))

never : (b : Bool) (kind : EventKind) (m : Option Messages) → or_none m ≡ and_message (b && false) kind m
never true kind m = refl
never false kind m = refl

same_messages : (name : List ℕ) (r : Route) (old new : Traffic) → new ≡ old → or_none (found_for name r new.passages.items) ≡ or_none (found_for name r old.passages.items)
same_messages name r old new is = ap (λ (x : Traffic). or_none (found_for name r x.passages.items)) is

message_of : (name : List ℕ) (r : Route) (p : Option (List ℕ)) (o : Option Route) (kind : EventKind) (old new : Traffic) → HasMessage p o kind old new → ArePassagesApart old.passages.items
    → or_none (found_for name r new.passages.items) ≡ and_message (is_of name p && is_at r o) kind (found_for name r old.passages.items)
message_of name r None o kind old new is apart = same_messages name r old new is
message_of name r (Some p) None kind old new is apart = same_messages name r old new is ∙ never (same p name) kind (found_for name r old.passages.items)
message_of name r (Some p) (Some q) kind old new is apart = counted_messages name r p q kind old.passages.items new.passages.items is apart

message_read : (name : List ℕ) (r : Route) (b : Bool) (partition : Option (List ℕ)) (kind : EventKind) (old new : Traffic) → HasMessageIf b partition kind old new → ArePassagesApart old.passages.items
    → or_none (found_for name r new.passages.items) ≡ and_message (b && (is_of name partition && is_at r (route_of kind))) kind (found_for name r old.passages.items)
message_read name r false partition kind old new is apart = same_messages name r old new is
message_read name r true partition kind old new is apart = message_of name r partition (route_of kind) kind old new is apart

apart_of : (p : Option (List ℕ)) (o : Option Route) (kind : EventKind) (old new : Traffic) → HasMessage p o kind old new → ArePassagesApart old.passages.items → ArePassagesApart new.passages.items
apart_of None o kind old new is apart = subst (λ (x : Traffic). ArePassagesApart x.passages.items) (sym is) apart
apart_of (Some p) None kind old new is apart = subst (λ (x : Traffic). ArePassagesApart x.passages.items) (sym is) apart
apart_of (Some p) (Some q) kind old new is apart = counted_passages p q kind old.passages.items new.passages.items is apart

message_apart : (b : Bool) (partition : Option (List ℕ)) (kind : EventKind) (old new : Traffic) → HasMessageIf b partition kind old new → ArePassagesApart old.passages.items → ArePassagesApart new.passages.items
message_apart false partition kind old new is apart = subst (λ (x : Traffic). ArePassagesApart x.passages.items) (sym is) apart
message_apart true partition kind old new is apart = apart_of partition (route_of kind) kind old new is apart

-- the messages that are counted, with those of the lines that are left, are all
pub record MessagesWillBe (window : Span) (events left : List Event) (passages : List Passage) : Type 0 where
  pub numbers : (name : List ℕ) (r : Route) → messages_in window name r left (or_none (found_for name r passages)) ≡ messages_in window name r events no_messages
  pub apart : ArePassagesApart passages

pub messages_begin : (window : Span) (events : List Event) (passages : List Passage) → passages ≡ [] → MessagesWillBe window events events passages
messages_begin window events passages none = record {
  numbers = λ name r. ap (λ (xs : List Passage). messages_in window name r events (or_none (found_for name r xs))) none;
  apart = subst ArePassagesApart (sym none) tt;
}

pub messages_read : (window : Span) (events : List Event) (e : Event) (es left : List Event) (old new : Traffic) → left ≡ e ∷ es → HasMessageIf (has_tick window e.tick.0) e.partition e.kind old new
    → MessagesWillBe window events left old.passages.items → MessagesWillBe window events es new.passages.items
messages_read window events e es left old new first counted will = record {
  numbers = λ name r. ap (messages_in window name r es) (message_read name r (has_tick window e.tick.0) e.partition e.kind old new counted will.apart)
      ∙ (ap (λ (xs : List Event). messages_in window name r xs (or_none (found_for name r old.passages.items))) (sym first) ∙ will.numbers name r);
  apart = message_apart (has_tick window e.tick.0) e.partition e.kind old new counted will.apart;
}

-- ---- the rows

abbrev pub or_else : Option Messages → Option Messages → Option Messages
or_else None other = other
or_else (Some m) other = Some m

rows_behind : (name : List ℕ) (r : Route) (xs ys : List RouteTotal) → messages_at name r (xs ++ ys) ≡ or_else (messages_at name r xs) (messages_at name r ys)
rows_behind name r [] ys = refl
rows_behind name r (x ∷ xs) ys = by (same x.partition name && is_same_route x.route r) (rows_behind name r xs ys)
  where
    by : (b : Bool) → messages_at name r (xs ++ ys) ≡ or_else (messages_at name r xs) (messages_at name r ys)
        → (if b then Some x.messages else messages_at name r (xs ++ ys)) ≡ or_else (if b then Some x.messages else messages_at name r xs) (messages_at name r ys)
    by true rest = refl
    by false rest = rest

-- those of the partition itself
own_rows : (name : List ℕ) (r : Route) (partition : PartitionTotal) (xs : List Passage) → partition.name ≡ name → messages_at name r (totals_at partition xs) ≡ found_for name r xs
own_rows name r partition [] named = refl
own_rows name r partition (x ∷ xs) named = by (same x.partition partition.name) refl (own_rows name r partition xs named)
  where
    row : (c : Bool) → messages_at name r (totals_at partition xs) ≡ found_for name r xs
        → (if c then Some x.messages else messages_at name r (totals_at partition xs)) ≡ (if c then Some x.messages else found_for name r xs)
    row true rest = refl
    row false rest = rest

    by : (b : Bool) → same x.partition partition.name ≡ b → messages_at name r (totals_at partition xs) ≡ found_for name r xs
        → messages_at name r (if b then total_of partition x ∷ totals_at partition xs else totals_at partition xs) ≡ found_for name r (x ∷ xs)
    by true e rest =
        ap (λ (n : List ℕ). if same n name && is_same_route x.route r then Some x.messages else messages_at name r (totals_at partition xs)) (sym (same_is x.partition partition.name e))
        ∙ row (same x.partition name && is_same_route x.route r) rest
    by false e rest =
        let other : same x.partition name ≡ false = ap (same x.partition) (sym named) ∙ e in
        rest ∙ ap (λ (b : Bool). if b && is_same_route x.route r then Some x.messages else found_for name r xs) (sym other)

-- those of another one
other_rows : (name : List ℕ) (r : Route) (partition : PartitionTotal) (xs : List Passage) → same partition.name name ≡ false → messages_at name r (totals_at partition xs) ≡ None
other_rows name r partition [] other = refl
other_rows name r partition (x ∷ xs) other = by (same x.partition partition.name) (other_rows name r partition xs other)
  where
    by : (b : Bool) → messages_at name r (totals_at partition xs) ≡ None → messages_at name r (if b then total_of partition x ∷ totals_at partition xs else totals_at partition xs) ≡ None
    by true rest = ap (λ (b : Bool). if b && is_same_route x.route r then Some x.messages else messages_at name r (totals_at partition xs)) other ∙ rest
    by false rest = rest

all_rows : (name : List ℕ) (r : Route) (partitions : List PartitionTotal) (xs : List Passage)
    → messages_at name r (totals_from partitions xs) ≡ (if has_partition name partitions then found_for name r xs else None)
all_rows name r [] xs = refl
all_rows name r (p ∷ ps) xs = rows_behind name r (totals_at p xs) (totals_from ps xs) ∙ by (same p.name name) refl (all_rows name r ps xs)
  where
    twice : (b : Bool) (o : Option Messages) → or_else o (if b then o else None) ≡ o
    twice true None = refl
    twice true (Some m) = refl
    twice false None = refl
    twice false (Some m) = refl

    by : (b : Bool) → same p.name name ≡ b → messages_at name r (totals_from ps xs) ≡ (if has_partition name ps then found_for name r xs else None)
        → or_else (messages_at name r (totals_at p xs)) (messages_at name r (totals_from ps xs)) ≡ (if b || has_partition name ps then found_for name r xs else None)
    by true e rest =
        ap (λ (o : Option Messages). or_else o (messages_at name r (totals_from ps xs))) (own_rows name r p xs (same_is p.name name e))
        ∙ (ap (or_else (found_for name r xs)) rest ∙ twice (has_partition name ps) (found_for name r xs))
    by false e rest = ap (λ (o : Option Messages). or_else o (messages_at name r (totals_from ps xs))) (other_rows name r p xs e) ∙ rest

pub messages_all : (window : Span) (events left : List Event) (passages : List Passage) (partitions : List PartitionTotal) (rows : List RouteTotal) → left ≡ [] → rows ≡ totals_from partitions passages
    → MessagesWillBe window events left passages → AreMessagesOf window events partitions rows
messages_all window events left passages partitions rows none are will name r has =
    ap (λ (xs : List RouteTotal). or_none (messages_at name r xs)) are
    ∙ (ap or_none (all_rows name r partitions passages ∙ ap (λ (b : Bool). if b then found_for name r passages else None) has)
    ∙ (ap (λ (xs : List Event). messages_in window name r xs (or_none (found_for name r passages))) (sym none) ∙ will.numbers name r))
