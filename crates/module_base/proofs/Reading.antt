-- The lines that were read, and the lines still to come.
use Rattle.module_base.proofs.Prelude.{◌≡◌, ℕ, suc, ◌+◌, ◌<◌, Bool, true, false, cond, List, ◌∷◌, ◌++◌, length, take, Ok, Err, Result, ◌∙◌, arith, length-append, IfErr, DeviceFault, piece, pieces, IsRefusal, Taking, line_by, taken_by, ends_with, put_line, and_then}
use Rattle.std.proofs.Common.{[], refl, sym, ap, subst}
use Rattle.std.specs.Prelude.{not, ◌==◌, IsErr, IsErrAnd}
use Rattle.std.specs.List.{prefix_len}
use Rattle.apex_types.specs.declared.device.DeviceFault.TheVariants as fault
use Rattle.module_meaning.specs.DeviceText.{pieces_behind_marks}
use Rattle.module_base.specs.TextLines.{lines_by}
use Rattle.module_base.specs.declared.fault.DeviceTextFault.{DeviceTextFault}
use Rattle.module_base.specs.declared.fault.DeviceTextFault.TheVariants.{Line}

-- these lines, followed by the lines still to come
abbrev pub put_lines : {L : Type 0} → List L → Result (List L) DeviceFault → Result (List L) DeviceFault
put_lines [] rest = rest
put_lines (l ∷ ls) rest = put_line l (put_lines ls rest)

put_lines_wrong : {L : Type 0} (ls : List L) (f : DeviceFault) → put_lines ls (Err f) ≡ Err f
put_lines_wrong [] f = refl
put_lines_wrong (l ∷ ls) f = ap (put_line l) (put_lines_wrong ls f)

put_lines_all : {L : Type 0} (ls : List L) → put_lines ls (Ok []) ≡ Ok ls
put_lines_all [] = refl
put_lines_all (l ∷ ls) = ap (put_line l) (put_lines_all ls)

put_lines_more : {L : Type 0} (ls : List L) (l : L) (rest : Result (List L) DeviceFault) → put_lines (ls ++ l ∷ []) rest ≡ put_lines ls (put_line l rest)
put_lines_more [] l rest = refl
put_lines_more (x ∷ ls) l rest = ap (put_line x) (put_lines_more ls l rest)

-- the line at the front, and those after its line feed
next_line : {L : Type 0} (mark : List ℕ) (named : Taking L) (tick_of : L → ℕ) (count before : ℕ) (rest front more : List ℕ) → front ≡ piece 10 rest → pieces_behind_marks 10 rest ≡ pieces 10 more → lines_by mark named tick_of count before (pieces 10 rest) ≡ and_then (taken_by named count before (line_by mark front)) (λ l. lines_by mark named tick_of (count + 1) (tick_of l) (pieces 10 more))
unfolding lines_by
next_line mark named tick_of count before rest front more f b =
    ap (λ (ps : List (List ℕ)). lines_by mark named tick_of count before (piece 10 rest ∷ ps)) b
    ∙ ap (λ (p : List ℕ). lines_by mark named tick_of count before (p ∷ pieces 10 more)) (sym f)

pub wrong_line : {L : Type 0} (mark : List ℕ) (named : Taking L) (tick_of : L → ℕ) (before : ℕ) (lines : List L) (rest front more : List ℕ) (f : DeviceFault) → front ≡ piece 10 rest → pieces_behind_marks 10 rest ≡ pieces 10 more → Err f ≡ taken_by named (length lines) before (line_by mark front) → put_lines lines (lines_by mark named tick_of (length lines) before (pieces 10 rest)) ≡ Err f
wrong_line {L = L} mark named tick_of before lines rest front more f p b e =
    ap (put_lines lines) (next_line mark named tick_of (length lines) before rest front more p b
    ∙ ap (λ (r : Result L DeviceFault). and_then r (λ l. lines_by mark named tick_of (length lines + 1) (tick_of l) (pieces 10 more))) (sym e))
    ∙ put_lines_wrong lines f

pub right_line : {L : Type 0} (mark : List ℕ) (named : Taking L) (tick_of : L → ℕ) (before after : ℕ) (lines new : List L) (rest front more : List ℕ) (l : L) → new ≡ lines ++ l ∷ [] → after ≡ tick_of l → front ≡ piece 10 rest → pieces_behind_marks 10 rest ≡ pieces 10 more → Ok l ≡ taken_by named (length lines) before (line_by mark front) → put_lines lines (lines_by mark named tick_of (length lines) before (pieces 10 rest)) ≡ put_lines new (lines_by mark named tick_of (length new) after (pieces 10 more))
right_line {L = L} mark named tick_of before after lines new rest front more l n t p b e =
    let count : length lines + 1 ≡ length new = omega (arith, length-append lines (l ∷ []), ap length n) in
    ap (put_lines lines) (next_line mark named tick_of (length lines) before rest front more p b
    ∙ ap (λ (r : Result L DeviceFault). and_then r (λ x. lines_by mark named tick_of (length lines + 1) (tick_of x) (pieces 10 more))) (sym e))
    ∙ sym (put_lines_more lines l (lines_by mark named tick_of (length lines + 1) (tick_of l) (pieces 10 more)))
    ∙ ap (λ (ls : List L). put_lines ls (lines_by mark named tick_of (length lines + 1) (tick_of l) (pieces 10 more))) (sym n)
    ∙ ap (λ (k : ℕ). put_lines new (lines_by mark named tick_of k (tick_of l) (pieces 10 more))) count
    ∙ ap (λ (k : ℕ). put_lines new (lines_by mark named tick_of (length new) k (pieces 10 more))) (sym t)

pub no_more : {L : Type 0} (mark : List ℕ) (named : Taking L) (tick_of : L → ℕ) (before : ℕ) (lines : List L) (rest : List ℕ) → length rest ≡ 0 → put_lines lines (lines_by mark named tick_of (length lines) before (pieces 10 rest)) ≡ Ok lines
unfolding lines_by pieces_behind_marks
no_more mark named tick_of before lines [] h = put_lines_all lines
no_more mark named tick_of before lines (b ∷ rest) h = absurd (omega (arith, h))

some_byte : {L : Type 0} (n b : ℕ) (rest : List ℕ) → ends_with {L = L} (take (1 + n) (b ∷ rest)) ≡ Err fault.Form
some_byte {L = L} n b rest = let more : 1 + n ≡ suc n = omega arith in ap (λ (k : ℕ). ends_with {L = L} (take k (b ∷ rest))) more

no_feed : {L : Type 0} (t : Bool) (b : ℕ) (front rest : List ℕ) (behind more : List (List ℕ)) → cond t (front ∷ behind) more ≡ [] → ends_with {L = L} (take (cond (not t) (1 + prefix_len (λ x. not (x == 10)) rest) 0) (b ∷ rest)) ≡ Err fault.Form
no_feed true b front rest behind more e = cc
no_feed false b front rest behind more e = some_byte (prefix_len (λ x. not (x == 10)) rest) b rest

pub no_line_feed : {L : Type 0} (mark : List ℕ) (named : Taking L) (tick_of : L → ℕ) (before : ℕ) (lines : List L) (rest : List ℕ) → 0 < length rest → pieces_behind_marks 10 rest ≡ [] → put_lines lines (lines_by mark named tick_of (length lines) before (pieces 10 rest)) ≡ Err fault.Form
unfolding lines_by pieces_behind_marks
no_line_feed mark named tick_of before lines [] h e = absurd (omega (arith, h))
no_line_feed mark named tick_of before lines (b ∷ rest) h e =
    ap (λ (ps : List (List ℕ)). put_lines lines (lines_by mark named tick_of (length lines) before (piece 10 (b ∷ rest) ∷ ps))) e
    ∙ ap (put_lines lines) (no_feed (b == 10) b (piece 10 rest) rest (pieces_behind_marks 10 rest) (pieces_behind_marks 10 rest) e)
    ∙ put_lines_wrong lines fault.Form

-- the fault of a line is that of the text
pub refused_line : {A L : Type 0} (verdict : Result L DeviceFault) (f : DeviceFault) (answer : Result A DeviceTextFault) → IsErr answer × IsErrAnd answer (λ e. e ≡ Line f) → verdict ≡ Err f → IfErr answer (λ x. IsRefusal verdict x)
refused_line verdict f (Ok x) h v = tt
refused_line {L = L} verdict f (Err e) h v =
    let line : IsRefusal verdict (Line f) = subst (λ (r : Result L DeviceFault). IsRefusal r (Line f)) (sym v) refl in
    subst (λ (x : DeviceTextFault). IsRefusal verdict x) (sym h.1) line
