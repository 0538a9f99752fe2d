-- A line with a control character has none of the forms.
use Rattle.std.proofs.Common.{◌≡◌, ℕ, ℤ, ◌+◌, ◌-◌, ◌^◌, Bool, true, false, cond, take, rules, List, [], ◌∷◌, Option, Some, None, codes, refl, ap, ◌∙◌, arith}
use Rattle.std.specs.Prelude.{not, nat_lt, nat_le, ◌&&◌, ◌||◌, ◌==◌}
use Rattle.std.specs.List.{list_all, list_any, prefix_len}
use Rattle.std.proofs.lemmas.Bool.{and_parts, and_from, or_left, or_right, ltb-true, leb-true, eqb-true}
use Rattle.std.proofs.lemmas.Slice.Eq.{bytes_eq-Decides}
use Rattle.apex_types.specs.Line.{space}
use Rattle.apex_types.specs.NameText.{is_name}
use Rattle.apex_types.specs.declared.limits.TheConstants.{MOST_TICKS}
use Rattle.engine_meaning.specs.Digits.{is_digit, decimal_value, same}
use Rattle.module_meaning.specs.DeviceText.{Written, WrittenLine, is_plain, plain_number, if_at_most, positive, negative, word, words, put_word, message_of, message_with, fault_of, line_with, pieces, piece, pieces_behind_marks}
use Rattle.module_meaning.specs.DeviceText as device
use Rattle.isolation.specs.ReplayText as replay
use Rattle.text_lines.proofs.Names.{name_ink}
use Rattle.text_lines.proofs.Pieces.{is_ink}
use Rattle.text_beginnings.specs.Settled.{is_control}

abbrev pub is_stained : List ℕ → Bool
is_stained p = list_any is_control p

pub refute : (b : Bool) → (b ≡ true → ⊥) → b ≡ false
refute true h = absurd (h refl)
refute false h = refl

-- one of two holds
pub either : {P : Type 0} (a b : Bool) → (a || b) ≡ true → (a ≡ true → P) → (b ≡ true → P) → P
either true b h left right = left refl
either false b h left right = right h

control_no_ink : (b : ℕ) → is_control b ≡ true → is_ink b ≡ true → ⊥
control_no_ink b c i =
    let low = and_parts (nat_lt b 32) (not (b == 10)) c in
    omega (arith, ltb-true b 32 low.0, ltb-true space b i)

stained_no_ink : (bs : List ℕ) → is_stained bs ≡ true → list_all is_ink bs ≡ true → ⊥
stained_no_ink [] s i = cc
stained_no_ink (b ∷ bs) s i =
    let parts = and_parts (is_ink b) (list_all is_ink bs) i in
    either (is_control b) (is_stained bs) s (λ c. control_no_ink b c parts.0) (λ c. stained_no_ink bs c parts.1)

digit_no_control : (d : ℕ) → is_control d ≡ true → is_digit d ≡ true → ⊥
digit_no_control d c i =
    let low = and_parts (nat_lt d 32) (not (d == 10)) c in
    let digit = and_parts (nat_le 48 d) (nat_le d 57) i in
    omega (arith, ltb-true d 32 low.0, leb-true 48 d digit.0)

stained_no_digits : (ds : List ℕ) → is_stained ds ≡ true → list_all is_digit ds ≡ true → ⊥
stained_no_digits [] s i = cc
stained_no_digits (d ∷ ds) s i =
    let parts = and_parts (is_digit d) (list_all is_digit ds) i in
    either (is_control d) (is_stained ds) s (λ c. digit_no_control d c parts.0) (λ c. stained_no_digits ds c parts.1)

-- ---- the parts of a line

no_name : (p : List ℕ) → is_stained p ≡ true → is_name p ≡ false
no_name p s = refute (is_name p) (λ n. stained_no_ink p s (name_ink p n))

plain_is_digits : (ds : List ℕ) → is_plain ds ≡ true → list_all is_digit ds ≡ true
plain_is_digits [] h = cc
plain_is_digits (d ∷ []) h = and_from (is_digit d) true h refl
plain_is_digits (d ∷ e ∷ ds) h =
    let p = and_parts (is_digit d && not (d == 48)) (list_all is_digit (e ∷ ds)) h in
    and_from (is_digit d) (list_all is_digit (e ∷ ds)) (and_parts (is_digit d) (not (d == 48)) p.0).0 p.1

no_plain : (ds : List ℕ) → is_stained ds ≡ true → is_plain ds ≡ false
no_plain ds s = refute (is_plain ds) (λ p. stained_no_digits ds s (plain_is_digits ds p))

no_number : (most : ℕ) (ds : List ℕ) → is_stained ds ≡ true → plain_number most ds ≡ None
no_number most ds s = ap (λ t. cond t (if_at_most most (decimal_value ds)) None) (no_plain ds s)

no_word_by : (t : Bool) (b : ℕ) (bs : List ℕ) → (b == 45) ≡ t → is_stained (b ∷ bs) ≡ true
    → cond t (negative (plain_number (2 ^ 63) bs)) (positive (plain_number (2 ^ 63 - 1) (b ∷ bs))) ≡ None
no_word_by true b bs is s =
    let dash : b ≡ 45 = eqb-true b 45 is in
    ap negative (no_number (2 ^ 63) bs (either (is_control b) (is_stained bs) s (λ c. absurd (omega (arith, dash, ltb-true b 32 (and_parts (nat_lt b 32) (not (b == 10)) c).0))) (λ r. r)))
no_word_by false b bs is s = ap positive (no_number (2 ^ 63 - 1) (b ∷ bs) s)

no_word : (p : List ℕ) → is_stained p ≡ true → word p ≡ None
no_word [] s = cc
no_word (b ∷ bs) s = no_word_by (b == 45) b bs refl s

put_none : (w : Option ℤ) → put_word w None ≡ None
put_none None = refl
put_none (Some w) = refl

no_words : (ps : List (List ℕ)) → list_any is_stained ps ≡ true → words ps ≡ None
unfolding words
no_words [] s = cc
no_words (p ∷ ps) s =
    either (is_stained p) (list_any is_stained ps) s
    (λ c. ap (λ w. put_word w (words ps)) (no_word p c))
    (λ c. ap (put_word (word p)) (no_words ps c) ∙ put_none (word p))

no_message_by : (t : Bool) (channel w : List ℕ) (ws : List (List ℕ)) → (t ≡ true → list_any is_stained (w ∷ ws) ≡ true) → cond t (message_with channel (words (w ∷ ws))) None ≡ None
no_message_by true channel w ws s = ap (message_with channel) (no_words (w ∷ ws) (s refl))
no_message_by false channel w ws s = refl

no_message : (ps : List (List ℕ)) → list_any is_stained ps ≡ true → message_of ps ≡ None
no_message [] s = refl
no_message (channel ∷ []) s = refl
no_message (channel ∷ w ∷ ws) s =
    no_message_by (is_name channel) channel w ws (λ n. either (is_stained channel) (list_any is_stained (w ∷ ws)) s (λ c. absurd (stained_no_ink channel c (name_ink channel n))) (λ r. r))

no_fault : (ps : List (List ℕ)) → list_any is_stained ps ≡ true → fault_of ps ≡ None
no_fault [] s = cc
no_fault (p ∷ []) s =
    let stained : is_stained p ≡ true = either (is_stained p) false s (λ c. c) (λ c. cc) in
    ap (λ t. cond t (Some (device.PartitionFault p)) None) (no_name p stained)
no_fault (p ∷ q ∷ ps) s = refl

-- the word of a kind has no control character
of_kind : (kind known : List ℕ) (rest : List (List ℕ)) → is_stained known ≡ false → same kind known ≡ true → list_any is_stained (kind ∷ rest) ≡ true → list_any is_stained rest ≡ true
of_kind kind known rest clean is s =
    let kind_is : kind ≡ known = (bytes_eq-Decides kind known).0 is in
    either (is_stained kind) (list_any is_stained rest) s (λ c. absurd (clash (is_stained kind) c (ap is_stained kind_is ∙ clean))) (λ r. r)
  where
    clash : (b : Bool) → b ≡ true → b ≡ false → ⊥
    clash true p q = cc
    clash false p q = cc

no_kind_by : (a b : Bool) (message fault : Option Written) → (a ≡ true → message ≡ None) → (b ≡ true → fault ≡ None) → cond a message (cond b fault None) ≡ None
no_kind_by true b message fault m f = m refl
no_kind_by false true message fault m f = f refl
no_kind_by false false message fault m f = refl

no_device_input : (ps : List (List ℕ)) → list_any is_stained ps ≡ true → device.written_of ps ≡ None
no_device_input [] s = cc
no_device_input (kind ∷ rest) s =
    no_kind_by (same kind (codes "MSG")) (same kind (codes "FAULT")) (message_of rest) (fault_of rest)
    (λ is. no_message rest (of_kind kind (codes "MSG") rest refl is s)) (λ is. no_fault rest (of_kind kind (codes "FAULT") rest refl is s))

no_replay_input : (ps : List (List ℕ)) → list_any is_stained ps ≡ true → replay.written_of ps ≡ None
no_replay_input [] s = cc
no_replay_input (kind ∷ rest) s =
    no_kind_by (same kind (codes "ARRIVE")) (same kind (codes "FAULT")) (message_of rest) (fault_of rest)
    (λ is. no_message rest (of_kind kind (codes "ARRIVE") rest refl is s)) (λ is. no_fault rest (of_kind kind (codes "FAULT") rest refl is s))

no_line_with : (tick : Option ℕ) → line_with tick None ≡ None
no_line_with None = refl
no_line_with (Some n) = refl

no_device_pieces : (ps : List (List ℕ)) → list_any is_stained ps ≡ true → device.line_of_pieces ps ≡ None
no_device_pieces [] s = cc
no_device_pieces (tick ∷ rest) s =
    either (is_stained tick) (list_any is_stained rest) s
    (λ c. ap (λ t. line_with t (device.written_of rest)) (no_number MOST_TICKS tick c))
    (λ c. ap (line_with (plain_number MOST_TICKS tick)) (no_device_input rest c) ∙ no_line_with (plain_number MOST_TICKS tick))

no_replay_pieces : (ps : List (List ℕ)) → list_any is_stained ps ≡ true → replay.line_of_pieces ps ≡ None
no_replay_pieces [] s = cc
no_replay_pieces (tick ∷ rest) s =
    either (is_stained tick) (list_any is_stained rest) s
    (λ c. ap (λ t. line_with t (replay.written_of rest)) (no_number MOST_TICKS tick c))
    (λ c. ap (line_with (plain_number MOST_TICKS tick)) (no_replay_input rest c) ∙ no_line_with (plain_number MOST_TICKS tick))

-- ---- pieces

one_more : (n b : ℕ) (bs : List ℕ) → take (1 + n) (b ∷ bs) ≡ b ∷ take n bs
one_more n b bs = search rules

pub piece_next : (mark b : ℕ) (bs : List ℕ) → (b == mark) ≡ false → piece mark (b ∷ bs) ≡ b ∷ piece mark bs
piece_next mark b bs other = rw (other) (one_more (prefix_len (λ c. not (c == mark)) bs) b bs)

pub behind_next : (mark b : ℕ) (bs : List ℕ) → (b == mark) ≡ false → pieces_behind_marks mark (b ∷ bs) ≡ pieces_behind_marks mark bs
unfolding pieces_behind_marks
behind_next mark b bs other = rw (other) refl

pub piece_ends : (mark b : ℕ) (bs : List ℕ) → (b == mark) ≡ true → piece mark (b ∷ bs) ≡ []
piece_ends mark b bs is = rw (is) refl

pub behind_ends : (mark b : ℕ) (bs : List ℕ) → (b == mark) ≡ true → pieces_behind_marks mark (b ∷ bs) ≡ piece mark bs ∷ pieces_behind_marks mark bs
unfolding pieces_behind_marks
behind_ends mark b bs is = rw (is) refl

pub pieces_next : (mark b : ℕ) (bs : List ℕ) → (b == mark) ≡ false → pieces mark (b ∷ bs) ≡ (b ∷ piece mark bs) ∷ pieces_behind_marks mark bs
pieces_next mark b bs other = ap (λ p. p ∷ pieces_behind_marks mark (b ∷ bs)) (piece_next mark b bs other) ∙ ap (λ ps. (b ∷ piece mark bs) ∷ ps) (behind_next mark b bs other)

pub pieces_end : (mark b : ℕ) (bs : List ℕ) → (b == mark) ≡ true → pieces mark (b ∷ bs) ≡ [] ∷ pieces mark bs
pieces_end mark b bs is = ap (λ p. p ∷ pieces_behind_marks mark (b ∷ bs)) (piece_ends mark b bs is) ∙ ap (λ ps. [] ∷ ps) (behind_ends mark b bs is)

no_control_space : (b : ℕ) → (b == space) ≡ true → is_control b ≡ true → ⊥
no_control_space b is c = omega (arith, eqb-true b space is, ltb-true b 32 (and_parts (nat_lt b 32) (not (b == 10)) c).0)

pub no_control_line_feed : (b : ℕ) → (b == 10) ≡ true → is_control b ≡ true → ⊥
no_control_line_feed b is c = clash (b == 10) is (and_parts (nat_lt b 32) (not (b == 10)) c).1
  where
    clash : (t : Bool) → t ≡ true → not t ≡ true → ⊥
    clash true p q = cc
    clash false p q = cc

or_again : (a b c d : Bool) → (a ≡ true → c ≡ true) → (b ≡ true → d ≡ true) → (a || b) ≡ true → (c || d) ≡ true
or_again a b c d left right h = either a b h (λ p. or_left c d (left p)) (λ p. or_right c d (right p))

stained_pieces_by : (t : Bool) (b : ℕ) (bs : List ℕ) → (b == space) ≡ t → is_stained (b ∷ bs) ≡ true
    → (is_stained bs ≡ true → list_any is_stained (pieces space bs) ≡ true) → list_any is_stained (pieces space (b ∷ bs)) ≡ true
stained_pieces_by true b bs is s more =
    ap (list_any is_stained) (pieces_end space b bs is)
    ∙ more (either (is_control b) (is_stained bs) s (λ c. absurd (no_control_space b is c)) (λ r. r))
stained_pieces_by false b bs is s more =
    ap (list_any is_stained) (pieces_next space b bs is)
    ∙ either (is_control b) (is_stained bs) s
    (λ c. or_left (is_control b || is_stained (piece space bs)) (list_any is_stained (pieces_behind_marks space bs)) (or_left (is_control b) (is_stained (piece space bs)) c))
    (λ c. or_again (is_stained (piece space bs)) (list_any is_stained (pieces_behind_marks space bs)) (is_control b || is_stained (piece space bs)) (list_any is_stained (pieces_behind_marks space bs)) (λ p. or_right (is_control b) (is_stained (piece space bs)) p) (λ p. p) (more c))

stained_pieces : (bs : List ℕ) → is_stained bs ≡ true → list_any is_stained (pieces space bs) ≡ true
stained_pieces [] s = cc
stained_pieces (b ∷ bs) s = stained_pieces_by (b == space) b bs refl s (stained_pieces bs)

pub no_device_line : (text : List ℕ) → is_stained text ≡ true → device.line_of text ≡ None
no_device_line text s = no_device_pieces (pieces space text) (stained_pieces text s)

pub no_replay_line : (text : List ℕ) → is_stained text ≡ true → replay.line_of text ≡ None
no_replay_line text s = no_replay_pieces (pieces space text) (stained_pieces text s)
