-- A line and its event: what is read from a line has this line, and the line of an event that can be
-- written is read as it, whatever follows.
use Rattle.std.proofs.Common.{◌≡◌, ℕ, ◌<◌, Bool, true, false, cond, List, [], ◌∷◌, ◌++◌, length, Option, Some, None, refl, sym, ap, subst, ◌∙◌, arith, append_assoc, append-nil}
use Rattle.std.specs.Prelude.{IsTrue}
use Rattle.std.specs.List.{list_all, join_with_byte}
use Rattle.std.proofs.lemmas.Bool.{and_from, cond-true}
use Rattle.apex_types.specs.Line.{thirteen_digits, partition_text, kind_text, line_of, space}
use Rattle.apex_types.specs.declared.event.Event.{Event}
use Rattle.apex_types.specs.declared.event.EventKind.{EventKind}
use Rattle.apex_types.specs.declared.event.EventKind.TheVariants as event
use Rattle.apex_types.specs.declared.identity.Ticks.{Ticks}
use Rattle.module_meaning.specs.DeviceText.{piece, pieces, pieces_behind_marks}
use Rattle.trace_text.specs.Reading.{tick_of, partition_of, kind_of, event_with, event_of, event_in}
use Rattle.trace_text.specs.Trace.{happens_in, CanBeWritten}
use Rattle.trace_text.proofs.Fields.{partition_spells}
use Rattle.trace_text.proofs.Happened.{parts_of, kind_joined, kind_back, kind_again, kind_ink}
use Rattle.text_lines.proofs.Pieces.{is_free, is_ink, ink_is_free, all_free, join_free, join_pieces, first_piece, pieces_join}
use Rattle.trace_text.proofs.Spells.{same_some}
use Rattle.trace_text.proofs.Ticks.{tick_spells}

abbrev behind_tick : Event → List (List ℕ)
behind_tick e = partition_text e.partition ∷ parts_of e.kind

-- a line without its line feed
abbrev pub body_of : Event → List ℕ
body_of e = join_with_byte space (thirteen_digits e.tick.0 ∷ behind_tick e)

join_front : (p : List ℕ) (ps : List (List ℕ)) → 0 < length ps → join_with_byte space (p ∷ ps) ≡ p ++ space ∷ join_with_byte space ps
join_front p [] some = absurd (omega (arith, some))
join_front p (q ∷ ps) some = refl

some_parts : (k : EventKind) → 0 < length (parts_of k)
some_parts (event.State who state) = omega arith
some_parts _ = omega arith

joined_kind : (k : EventKind) (p : List ℕ) → join_with_byte space (p ∷ parts_of k) ≡ p ++ space ∷ kind_text k
joined_kind k p = join_front p (parts_of k) (some_parts k) ∙ ap (λ (xs : List ℕ). p ++ space ∷ xs) (kind_joined k)

-- the text of a line groups its parts to the left
pub body_is : (e : Event) → body_of e ++ 10 ∷ [] ≡ line_of e
body_is e =
    ap (λ (xs : List ℕ). thirteen_digits e.tick.0 ++ space ∷ (xs ++ 10 ∷ []))
    (joined_kind e.kind (partition_text e.partition) ∙ sym (append_assoc (partition_text e.partition) (space ∷ []) (kind_text e.kind)))

-- ---- from a line

happens_is : (t : Bool) (x e : Event) → cond t (Some x) None ≡ Some e → (t ≡ true) × (x ≡ e)
happens_is true x e h = (refl, same_some x e h)
happens_is false x e h = cc

record AreParts (a : Option Ticks) (b : Option (Option (List ℕ))) (c : Option EventKind) (e : Event) : Type 0 where
  tick : a ≡ Some e.tick
  partition : b ≡ Some e.partition
  kind : c ≡ Some e.kind
  place : IsTrue (happens_in e.kind e.partition)

event_is : (a : Option Ticks) (b : Option (Option (List ℕ))) (c : Option EventKind) (e : Event) → event_with a b c ≡ Some e → AreParts a b c e
event_is None b c e h = cc
event_is (Some t) None c e h = cc
event_is (Some t) (Some p) None e h = cc
event_is (Some t) (Some p) (Some k) e h =
    let g = happens_is (happens_in k p) (record { tick = t; partition = p; kind = k }) e h in
    subst (λ (x : Event). AreParts (Some t) (Some p) (Some k) x) g.1 (record { tick = refl; partition = refl; kind = refl; place = g.0 })

event_back : (parts : List (List ℕ)) (e : Event) → event_of parts ≡ Some e → (thirteen_digits e.tick.0 ∷ behind_tick e ≡ parts) × CanBeWritten e
event_back [] e h = cc
event_back (t ∷ []) e h = cc
event_back (t ∷ p ∷ ks) e h =
    let g = event_is (tick_of t) (partition_of p) (kind_of ks) e h in
    let a = tick_spells.takes t e.tick g.tick in
    let b = partition_spells.takes p e.partition g.partition in
    let c = kind_back ks e.kind g.kind in (
      ap (λ (x : List ℕ). x ∷ behind_tick e) a.0 ∙ ap (λ (x : List ℕ). t ∷ x ∷ parts_of e.kind) b.0 ∙ ap (λ (xs : List (List ℕ)). t ∷ p ∷ xs) c.0,
      record { tick = a.1; partition = b.1; parts = c.1; place = g.place },
    )

-- an event that is read from a line without its line feed has this line, and can be written
pub body_back : (body : List ℕ) (e : Event) → event_in body ≡ Some e → (body_of e ≡ body) × CanBeWritten e
body_back body e h =
    let g = event_back (pieces space body) e h in
    (ap (join_with_byte space) g.0 ∙ join_pieces space body, g.1)

-- ---- from an event

tick_ink : (e : Event) → CanBeWritten e → list_all is_ink (thirteen_digits e.tick.0) ≡ true
tick_ink e can = tick_spells.ink e.tick can.tick

behind_ink : (e : Event) → CanBeWritten e → list_all (list_all is_ink) (behind_tick e) ≡ true
behind_ink e can = and_from (list_all is_ink (partition_text e.partition)) (list_all (list_all is_ink) (parts_of e.kind)) (partition_spells.ink e.partition can.partition) (kind_ink e.kind can.parts)

pub body_free : (e : Event) → CanBeWritten e → is_free 10 (body_of e) ≡ true
body_free e can =
    join_free (thirteen_digits e.tick.0 ∷ behind_tick e)
    (and_from (list_all is_ink (thirteen_digits e.tick.0)) (list_all (list_all is_ink) (behind_tick e)) (tick_ink e can) (behind_ink e can))

-- the line of an event that can be written is read as it
pub body_again : (e : Event) → CanBeWritten e → event_in (body_of e) ≡ Some e
body_again e can =
    ap event_of (pieces_join space (thirteen_digits e.tick.0) (behind_tick e) (ink_is_free space (thirteen_digits e.tick.0) (omega arith) (tick_ink e can)) (all_free space (behind_tick e) (omega arith) (behind_ink e can)))
    ∙ ap (λ (o : Option Ticks). event_with o (partition_of (partition_text e.partition)) (kind_of (parts_of e.kind))) (tick_spells.again e.tick can.tick)
    ∙ ap (λ (o : Option (Option (List ℕ))). event_with (Some e.tick) o (kind_of (parts_of e.kind))) (partition_spells.again e.partition can.partition)
    ∙ ap (λ (o : Option EventKind). event_with (Some e.tick) (Some e.partition) o) (kind_again e.kind can.parts)
    ∙ cond-true (happens_in e.kind e.partition) (Some e) None can.place

-- ---- a line at the front of a text

-- the line of an event at the front of a text, as its pieces show it
pub record IsAtFront (text : List ℕ) (e : Event) (rest : List ℕ) : Type 0 where
  pub body : piece 10 text ≡ body_of e
  pub behind : pieces_behind_marks 10 text ≡ pieces 10 rest
  pub read : event_in (piece 10 text) ≡ Some e

first_of : (a b : List ℕ) (xs ys : List (List ℕ)) → a ∷ xs ≡ b ∷ ys → (a ≡ b) × (xs ≡ ys)
first_of a b xs ys e = (cc, cc)

pub at_front : (text : List ℕ) (e : Event) (rest : List ℕ) → CanBeWritten e → text ≡ line_of e ++ rest → IsAtFront text e rest
at_front text e rest can is =
    let whole : text ≡ body_of e ++ 10 ∷ rest = is ∙ ap (λ (xs : List ℕ). xs ++ rest) (sym (body_is e)) ∙ append_assoc (body_of e) (10 ∷ []) rest in
    let split : pieces 10 text ≡ body_of e ∷ pieces 10 rest = ap (pieces 10) whole ∙ first_piece 10 (body_of e) rest (body_free e can) in
    let g = first_of (piece 10 text) (body_of e) (pieces_behind_marks 10 text) (pieces 10 rest) split in
    record { body = g.0; behind = g.1; read = ap event_in g.0 ∙ body_again e can }

-- texts of the same pieces are the same
pub same_pieces : (a b : List ℕ) → pieces 10 a ≡ pieces 10 b → a ≡ b
same_pieces a b e = sym (join_pieces 10 a) ∙ ap (join_with_byte 10) e ∙ join_pieces 10 b

-- an event that is read from the first piece has its line at the front
pub read_front : (text front behind : List ℕ) (e : Event) → front ≡ piece 10 text → pieces_behind_marks 10 text ≡ pieces 10 behind → event_in front ≡ Some e → CanBeWritten e × (text ≡ line_of e ++ behind)
read_front text front behind e f b h =
    let g = body_back front e h in
    let whole : text ≡ front ++ 10 ∷ behind = sym (join_pieces 10 text) ∙ ap (λ (ps : List (List ℕ)). join_with_byte 10 (piece 10 text ∷ ps)) b ∙ ap (λ (p : List ℕ). join_with_byte 10 (p ∷ pieces 10 behind)) (sym f) ∙ ap (λ (xs : List ℕ). front ++ 10 ∷ xs) (join_pieces 10 behind) in
    (g.1, whole ∙ ap (λ (p : List ℕ). p ++ 10 ∷ behind) (sym g.0) ∙ sym (append_assoc (body_of e) (10 ∷ []) behind) ∙ ap (λ (xs : List ℕ). xs ++ behind) (body_is e))

-- ---- why a line is refused

-- a text without a line feed has no line at its front
pub no_feed : (text : List ℕ) (e : Event) (rest : List ℕ) → CanBeWritten e → text ≡ line_of e ++ rest → pieces_behind_marks 10 text ≡ [] → ⊥
no_feed text e rest can is none = let f = at_front text e rest can is in let clash : pieces 10 rest ≡ [] = sym f.behind ∙ none in cc

-- the text after the line at the front is the text after the first line feed
pub same_rest : (text : List ℕ) (e : Event) (rest behind : List ℕ) → CanBeWritten e → text ≡ line_of e ++ rest → pieces_behind_marks 10 text ≡ pieces 10 behind → rest ≡ behind
same_rest text e rest behind can is b = same_pieces rest behind (sym (at_front text e rest can is).behind ∙ b)

-- the line at the front is read as its event
pub read_again : (text front : List ℕ) (e : Event) (rest : List ℕ) → CanBeWritten e → text ≡ line_of e ++ rest → front ≡ piece 10 text → event_in front ≡ Some e
read_again text front e rest can is f = ap event_in f ∙ (at_front text e rest can is).read

-- ---- a single line

alone : (line : List ℕ) (e : Event) → line_of e ≡ line → line ≡ line_of e ++ []
alone line e is = sym is ∙ sym (append-nil (line_of e))

pub no_feed_alone : (line : List ℕ) (e : Event) → CanBeWritten e → line_of e ≡ line → pieces_behind_marks 10 line ≡ [] → ⊥
no_feed_alone line e can is none = no_feed line e [] can (alone line e is) none

pub nothing_behind : (line behind : List ℕ) (e : Event) → CanBeWritten e → line_of e ≡ line → pieces_behind_marks 10 line ≡ pieces 10 behind → behind ≡ []
nothing_behind line behind e can is b = sym (same_rest line e [] behind can (alone line e is) b)

pub read_alone : (line front : List ℕ) (e : Event) → CanBeWritten e → line_of e ≡ line → front ≡ piece 10 line → event_in front ≡ Some e
read_alone line front e can is f = read_again line front e [] can (alone line e is) f

pub written_alone : (line front behind : List ℕ) (e : Event) → front ≡ piece 10 line → pieces_behind_marks 10 line ≡ pieces 10 behind → length behind ≡ 0 → event_in front ≡ Some e → CanBeWritten e × (line_of e ≡ line)
written_alone line front [] e f b len h = let g = read_front line front [] e f b h in (g.0, sym (g.1 ∙ append-nil (line_of e)))
written_alone line front (x ∷ behind) e f b len h = absurd (omega (arith, len))
