-- A text with a control character is judged as each longer one.
use Rattle.std.proofs.Common.{◌≡◌, ℕ, ◌+◌, Bool, true, false, List, [], ◌∷◌, ◌++◌, Result, Ok, Err, refl, sym, ap, ◌∙◌, append_assoc, append-nil}
use Rattle.std.specs.Prelude.{◌==◌}
use Rattle.std.proofs.lemmas.Bool.{or_left}
use Rattle.std.proofs.lemmas.List.Folds.{list_any-append}
use Rattle.apex_types.specs.declared.device.DeviceFault.{DeviceFault}
use Rattle.apex_types.specs.declared.device.DeviceFault.TheVariants as fault
use Rattle.apex_types.specs.declared.device.DeviceLine.{DeviceLine}
use Rattle.isolation.specs.declared.input.InputLine.{InputLine}
use Rattle.isolation.specs.ReplayText as replay
use Rattle.module_meaning.specs.DeviceText.{pieces, piece, pieces_behind_marks}
use Rattle.module_meaning.specs.DeviceText as device
use Rattle.module_meaning.specs.Table.{Partition, Channel}
use Rattle.text_beginnings.specs.Settled.{is_control, settles_inputs}
use Rattle.text_beginnings.proofs.Stained.{is_stained, either, no_device_line, no_replay_line, no_control_line_feed, piece_next, behind_next, piece_ends, behind_ends}

-- the text after a beginning `acc` of a line, in pieces
abbrev lines_behind : List ℕ → List ℕ → List (List ℕ)
lines_behind acc bs = (acc ++ piece 10 bs) ∷ pieces_behind_marks 10 bs

-- What is shared by the two texts: a judgement of pieces that refuses each stained line at once.
module _ {L : Type 0} (judged : ℕ → ℕ → List (List ℕ) → Result L DeviceFault)
    (refuses : (count before : ℕ) (p : List ℕ) (ps : List (List ℕ)) → is_stained p ≡ true → judged count before (p ∷ ps) ≡ Err fault.Form)
    (goes_on : (count before : ℕ) (p : List ℕ) (ps qs : List (List ℕ)) (a b : List ℕ) → ((count before : ℕ) → judged count before (a ∷ ps) ≡ judged count before (b ∷ qs)) → judged count before (p ∷ a ∷ ps) ≡ judged count before (p ∷ b ∷ qs))
  where
    below : (b : ℕ) (bs : List ℕ) → (b == 10) ≡ true → is_stained (b ∷ bs) ≡ true → is_stained bs ≡ true
    below b bs is s = either (is_control b) (is_stained bs) s (λ c. absurd (no_control_line_feed b is c)) (λ r. r)

    -- a line that ends
    ended : (b : ℕ) (xs acc : List ℕ) → (b == 10) ≡ true → lines_behind acc (b ∷ xs) ≡ (acc ++ []) ∷ lines_behind [] xs
    ended b xs acc is = ap (λ p. (acc ++ p) ∷ pieces_behind_marks 10 (b ∷ xs)) (piece_ends 10 b xs is) ∙ ap (λ ps. (acc ++ []) ∷ ps) (behind_ends 10 b xs is)

    -- a line that is a byte longer
    longer : (b : ℕ) (xs acc : List ℕ) → (b == 10) ≡ false → lines_behind acc (b ∷ xs) ≡ lines_behind (acc ++ b ∷ []) xs
    longer b xs acc is =
        ap (λ p. (acc ++ p) ∷ pieces_behind_marks 10 (b ∷ xs)) (piece_next 10 b xs is) ∙ ap (λ ps. (acc ++ b ∷ piece 10 xs) ∷ ps) (behind_next 10 b xs is)
        ∙ ap (λ p. p ∷ pieces_behind_marks 10 xs) (sym (append_assoc acc (b ∷ []) (piece 10 xs)))

    next : (b : ℕ) (bs rest acc : List ℕ) (count before : ℕ) → is_stained (acc ++ b ∷ bs) ≡ true
        → ((count before : ℕ) → is_stained bs ≡ true → judged count before (lines_behind [] (bs ++ rest)) ≡ judged count before (lines_behind [] bs))
        → (is_stained ((acc ++ b ∷ []) ++ bs) ≡ true → judged count before (lines_behind (acc ++ b ∷ []) (bs ++ rest)) ≡ judged count before (lines_behind (acc ++ b ∷ []) bs))
        → (t : Bool) → (b == 10) ≡ t → judged count before (lines_behind acc (b ∷ bs ++ rest)) ≡ judged count before (lines_behind acc (b ∷ bs))
    next b bs rest acc count before s lines same true is =
        ap (judged count before) (ended b (bs ++ rest) acc is)
        ∙ either (is_stained acc) (is_stained (b ∷ bs)) (sym (list_any-append is_control acc (b ∷ bs)) ∙ s)
        (λ stained.
        let nil : is_stained (acc ++ []) ≡ true = ap is_stained (append-nil acc) ∙ stained in
        refuses count before (acc ++ []) (lines_behind [] (bs ++ rest)) nil ∙ sym (refuses count before (acc ++ []) (lines_behind [] bs) nil))
        (λ stained. goes_on count before (acc ++ []) (pieces_behind_marks 10 (bs ++ rest)) (pieces_behind_marks 10 bs) (piece 10 (bs ++ rest)) (piece 10 bs)
        (λ c t. lines c t (below b bs is stained)))
        ∙ sym (ap (judged count before) (ended b bs acc is))
    next b bs rest acc count before s lines same false is =
        ap (judged count before) (longer b (bs ++ rest) acc is)
        ∙ same (ap is_stained (append_assoc acc (b ∷ []) bs) ∙ s)
        ∙ sym (ap (judged count before) (longer b bs acc is))

    same_lines : (bs rest acc : List ℕ) (count before : ℕ) → is_stained (acc ++ bs) ≡ true → judged count before (lines_behind acc (bs ++ rest)) ≡ judged count before (lines_behind acc bs)
    same_lines [] rest acc count before s =
        let stained : is_stained acc ≡ true = sym (ap is_stained (append-nil acc)) ∙ s in
        refuses count before (acc ++ piece 10 rest) (pieces_behind_marks 10 rest) (list_any-append is_control acc (piece 10 rest) ∙ or_left (is_stained acc) (is_stained (piece 10 rest)) stained)
        ∙ sym (refuses count before (acc ++ piece 10 []) (pieces_behind_marks 10 []) (list_any-append is_control acc (piece 10 []) ∙ or_left (is_stained acc) (is_stained (piece 10 [])) stained))
    same_lines (b ∷ bs) rest acc count before s =
        next b bs rest acc count before s (λ c t stained. same_lines bs rest [] c t stained) (λ stained. same_lines bs rest (acc ++ b ∷ []) count before stained) (b == 10) refl

-- ---- device texts

module _ (rows : List Partition) (channels : List Channel) where
  device_refuses : (count before : ℕ) (p : List ℕ) (ps : List (List ℕ)) → is_stained p ≡ true → device.lines_from rows channels count before (p ∷ ps) ≡ Err fault.Form
  unfolding device.lines_from
  device_refuses count before [] [] s = cc
  device_refuses count before (b ∷ bs) [] s = refl
  device_refuses count before p (q ∷ ps) s =
      ap (λ l. device.and_then (device.taken rows channels count before l) (λ l. device.lines_from rows channels (count + 1) l.tick.0 (q ∷ ps))) (no_device_line p s)

  device_goes_on : (count before : ℕ) (p : List ℕ) (ps qs : List (List ℕ)) (a b : List ℕ)
      → ((count before : ℕ) → device.lines_from rows channels count before (a ∷ ps) ≡ device.lines_from rows channels count before (b ∷ qs))
      → device.lines_from rows channels count before (p ∷ a ∷ ps) ≡ device.lines_from rows channels count before (p ∷ b ∷ qs)
  unfolding device.lines_from
  device_goes_on count before p ps qs a b same = next (device.taken rows channels count before (device.line_of p))
    where
      next : (l : Result DeviceLine DeviceFault) → device.and_then l (λ l. device.lines_from rows channels (count + 1) l.tick.0 (a ∷ ps)) ≡ device.and_then l (λ l. device.lines_from rows channels (count + 1) l.tick.0 (b ∷ qs))
      next (Err f) = refl
      next (Ok l) = ap (device.put_line l) (same (count + 1) l.tick.0)

  pub same_device_text : (text rest : List ℕ) → settles_inputs text ≡ true → device.verdict rows channels (text ++ rest) ≡ device.verdict rows channels text
  unfolding device.verdict
  same_device_text text rest s = same_lines (device.lines_from rows channels) device_refuses device_goes_on text rest [] 0 0 s

-- ---- replay texts

module _ (row : Partition) where
  replay_refuses : (count before : ℕ) (p : List ℕ) (ps : List (List ℕ)) → is_stained p ≡ true → replay.lines_from row count before (p ∷ ps) ≡ Err fault.Form
  unfolding replay.lines_from
  replay_refuses count before [] [] s = cc
  replay_refuses count before (b ∷ bs) [] s = refl
  replay_refuses count before p (q ∷ ps) s =
      ap (λ l. replay.and_then (replay.taken row count before l) (λ l. replay.lines_from row (count + 1) l.tick.0 (q ∷ ps))) (no_replay_line p s)

  replay_goes_on : (count before : ℕ) (p : List ℕ) (ps qs : List (List ℕ)) (a b : List ℕ)
      → ((count before : ℕ) → replay.lines_from row count before (a ∷ ps) ≡ replay.lines_from row count before (b ∷ qs))
      → replay.lines_from row count before (p ∷ a ∷ ps) ≡ replay.lines_from row count before (p ∷ b ∷ qs)
  unfolding replay.lines_from
  replay_goes_on count before p ps qs a b same = next (replay.taken row count before (replay.line_of p))
    where
      next : (l : Result InputLine DeviceFault) → replay.and_then l (λ l. replay.lines_from row (count + 1) l.tick.0 (a ∷ ps)) ≡ replay.and_then l (λ l. replay.lines_from row (count + 1) l.tick.0 (b ∷ qs))
      next (Err f) = refl
      next (Ok l) = ap (replay.put_line l) (same (count + 1) l.tick.0)

  pub same_replay_text : (text rest : List ℕ) → settles_inputs text ≡ true → replay.replay_verdict row (text ++ rest) ≡ replay.replay_verdict row text
  unfolding replay.replay_verdict
  same_replay_text text rest s = same_lines (replay.lines_from row) replay_refuses replay_goes_on text rest [] 0 0 s
