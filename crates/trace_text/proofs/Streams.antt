-- The front of a text whose first bytes were read.
use Rattle.std.proofs.Common.{◌≡◌, ℕ, zero, suc, ◌+◌, ◌-◌, ◌<◌, ◌≤◌, true, List, [], ◌∷◌, ◌++◌, length, take, drop, Option, Some, None, refl, sym, ap, subst, ◌∙◌, arith, append_assoc, length-append, inl, inr}
use Rattle.std.specs.Prelude.{◌≢◌, ◌⊎◌, not, ◌==◌}
use Rattle.std.specs.Io.KnownBytes.{IsAtEnd, Keeps, prepend_known}
use Rattle.std.proofs.Math.Seq.{take-append_seam, drop-append_seam}
use Rattle.std.proofs.lemmas.Bool.{and_parts, and_from, cases_lt}
use Rattle.std.proofs.lemmas.List.{take-append-drop, take-append-le}
use Rattle.apex_types.specs.Line.{line_of}
use Rattle.apex_types.specs.declared.event.Event.{Event}
use Rattle.apex_types.specs.declared.limits.TheConstants.{MOST_LINE_BYTES}
use Rattle.module_meaning.specs.DeviceText.{pieces_behind_marks}
use Rattle.trace_text.specs.Stream.{NextIn, NoneIn, SeesLine}
use Rattle.trace_text.specs.Trace.{CanBeWritten, IsNext}
use Rattle.trace_text.proofs.Lengths.{line_short}
use Rattle.trace_text.proofs.Lines.{body_of, body_is, body_free}
use Rattle.text_lines.proofs.Pieces.{is_free, sole_piece}

-- ---- the line lies within the bytes that were read

take_free : (n : ℕ) (bs : List ℕ) → is_free 10 bs ≡ true → is_free 10 (take n bs) ≡ true
take_free zero bs h = refl
take_free (suc n) [] h = refl
take_free (suc n) (b ∷ bs) h = let p = and_parts (not (b == 10)) (is_free 10 bs) h in and_from (not (b == 10)) (is_free 10 (take n bs)) p.0 (take_free n bs p.1)

behind_of : (a b : List ℕ) (xs ys : List (List ℕ)) → a ∷ xs ≡ b ∷ ys → xs ≡ ys
behind_of a b xs ys e = cc

-- bytes without a line feed have no piece after one
no_feed_free : (bytes : List ℕ) → is_free 10 bytes ≡ true → pieces_behind_marks 10 bytes ≡ []
no_feed_free bytes h = let e = sole_piece 10 bytes h in cc

line_body : (e : Event) (rest : List ℕ) → line_of e ++ rest ≡ body_of e ++ 10 ∷ rest
line_body e rest = ap (λ (xs : List ℕ). xs ++ rest) (sym (body_is e)) ∙ append_assoc (body_of e) (10 ∷ []) rest

line_length : (e : Event) → length (line_of e) ≡ length (body_of e) + 1
line_length e = ap length (sym (body_is e)) ∙ length-append (body_of e) (10 ∷ [])

-- bytes that end before the line does have no line feed
front_free : (bytes more : List ℕ) (e : Event) (rest : List ℕ) → CanBeWritten e → bytes ++ more ≡ line_of e ++ rest → length bytes ≤ length (body_of e) → is_free 10 bytes ≡ true
front_free bytes more e rest can is short =
    let front : bytes ≡ take (length bytes) (body_of e) =
    sym (take-append_seam bytes more)
    ∙ ap (take (length bytes)) (is ∙ line_body e rest)
    ∙ take-append-le (length bytes) (body_of e) (10 ∷ rest) short in
    subst (λ (bs : List ℕ). is_free 10 bs ≡ true) (sym front) (take_free (length bytes) (body_of e) (body_free e can))

long_enough : (n m : ℕ) → (n ≤ m → ⊥) → m + 1 ≤ n
long_enough n m h = elim (cases_lt m n) [ inl high ↦ omega (arith, high) | inr low ↦ absurd (h low) ]

within : (bytes more : List ℕ) (e : Event) (rest : List ℕ) → CanBeWritten e → bytes ++ more ≡ line_of e ++ rest → (pieces_behind_marks 10 bytes ≢ []) ⊎ (MOST_LINE_BYTES ≤ length bytes) ⊎ (more ≡ []) → length (line_of e) ≤ length bytes
within bytes more e rest can is (inl feed) =
    let above = long_enough (length bytes) (length (body_of e)) (λ short. feed (no_feed_free bytes (front_free bytes more e rest can is short))) in
    omega (arith, above, line_length e)
within bytes more e rest can is (inr (inl long)) = omega (arith, long, line_short e can)
within bytes more e rest can is (inr (inr none)) =
    let whole = ap length is in
    omega (arith, whole, length-append bytes more, length-append (line_of e) rest, ap length none)

-- a line within the bytes that were read is at their front
pub at_their_front : (bytes more line rest : List ℕ) → bytes ++ more ≡ line ++ rest → length line ≤ length bytes → bytes ≡ line ++ drop (length line) bytes
at_their_front bytes more line rest is short =
    let front : take (length line) bytes ≡ line = sym (take-append-le (length line) bytes more short) ∙ ap (take (length line)) is ∙ take-append_seam line rest in
    sym (take-append-drop (length line) bytes) ∙ ap (λ (xs : List ℕ). xs ++ drop (length line) bytes) front

-- ---- what is known of the text that is left

-- the text after the line is the last bytes
pub last_bytes : (bytes line rest : List ℕ) → bytes ≡ line ++ rest → drop (length bytes - length rest) bytes ≡ rest
last_bytes bytes line rest is =
    let count : length bytes - length rest ≡ length line = omega (arith, ap length is, length-append line rest) in
    ap (λ (n : ℕ). drop n bytes) count ∙ ap (drop (length line)) is ∙ drop-append_seam line rest

pub next_in : (before : ℕ) (known behind : Option (List ℕ)) (bytes : List ℕ) (e : Event) (rest : List ℕ) → Keeps known (prepend_known bytes behind) → IsNext before bytes e rest → NextIn before known e (prepend_known rest behind)
next_in before None behind bytes e rest kept next = tt
next_in before (Some text) None bytes e rest kept next = absurd kept
next_in before (Some text) (Some more) bytes e rest kept next = record {
  can = next.can;
  in_order = next.in_order;
  parts = sym kept ∙ ap (λ (xs : List ℕ). xs ++ more) next.parts ∙ append_assoc (line_of e) rest more;
}

at_end : (behind : Option (List ℕ)) (more : List ℕ) → behind ≡ Some more → IsAtEnd behind → more ≡ []
at_end None more e h = cc
at_end (Some xs) more e h = let same : xs ≡ more = cc in sym same ∙ h

none_known : (before : ℕ) (text bytes more : List ℕ) → text ≡ bytes ++ more → (pieces_behind_marks 10 bytes ≢ []) ⊎ (MOST_LINE_BYTES ≤ length bytes) ⊎ (more ≡ []) → ((e : Event) (rest : List ℕ) → IsNext before bytes e rest → ⊥) → (e : Event) (rest : List ℕ) → IsNext before text e rest → ⊥
none_known before text bytes more is seen none e rest next =
    let whole : bytes ++ more ≡ line_of e ++ rest = sym is ∙ next.parts in
    none e (drop (length (line_of e)) bytes)
    (record { can = next.can; in_order = next.in_order; parts = at_their_front bytes more (line_of e) rest whole (within bytes more e rest next.can whole seen) })

pub none_in : (before : ℕ) (known behind : Option (List ℕ)) (bytes : List ℕ) → Keeps known (prepend_known bytes behind) → SeesLine bytes behind → 0 < length bytes → ((e : Event) (rest : List ℕ) → IsNext before bytes e rest → ⊥) → NoneIn before known
none_in before None behind bytes kept seen some none = tt
none_in before (Some text) None bytes kept seen some none = absurd kept
none_in before (Some text) (Some more) bytes kept seen some none =
    (omega (arith, some, ap length kept, length-append bytes more), none_known before text bytes more (sym kept) seen none)

pub none_left : (known behind : Option (List ℕ)) (bytes : List ℕ) → bytes ≡ [] → Keeps known (prepend_known bytes behind) → SeesLine bytes behind → IsAtEnd known
unfolding pieces_behind_marks
none_left None behind bytes none kept seen = tt
none_left (Some text) None bytes none kept seen = absurd kept
none_left (Some text) (Some more) bytes none kept (inl feed) = absurd (feed (ap (pieces_behind_marks 10) none))
none_left (Some text) (Some more) bytes none kept (inr (inl long)) = absurd (omega (arith, long, ap length none))
none_left (Some text) (Some more) bytes none kept (inr (inr done)) = sym kept ∙ ap (λ (xs : List ℕ). xs ++ more) none ∙ done

-- ---- what the steps of a stream know

pub sees : (bytes own : List ℕ) (behind : Option (List ℕ)) → bytes ≡ own → (pieces_behind_marks 10 bytes ≢ []) ⊎ (MOST_LINE_BYTES ≤ length bytes) → SeesLine own behind
sees bytes own behind same (inl feed) = inl (λ none. feed (ap (pieces_behind_marks 10) same ∙ none))
sees bytes own behind same (inr long) = inr (inl (omega (arith, long, ap length same)))

-- the same line, in the same text after the same tick
pub same_next : (a b : ℕ) (text other : List ℕ) (e : Event) (rest : List ℕ) → a ≡ b → text ≡ other → IsNext a text e rest → IsNext b other e rest
same_next a b text other e rest tick same next = record { can = next.can; in_order = omega (arith, tick, next.in_order); parts = sym same ∙ next.parts }
