-- Rows with names that a loop writes one after another, and the bodies and frames that they are of.
use Rattle.std.proofs.Common.{◌≡◌, ◌<◌, ◌≤◌, ℕ, zero, suc, ◌+◌, ◌-◌, ℤ, List, [], ◌∷◌, ◌++◌, Option, Some, None, map, drop, length, refl, ap, sym, ◌∙◌, arith}
use Rattle.std.specs.Prelude.{OnOk, Result, Ok, Err, slice_get}
use Rattle.std.specs.Option.{option_map}
use Rattle.std.proofs.lemmas.Grind.{flat_map-append}
use Rattle.std.proofs.lemmas.List.{append_assoc, append-nil}
use Rattle.apex_types.specs.declared.row.RoutineRow.{RoutineRow}
use Rattle.pal_meaning.specs.Resolve.{Entry}
use Rattle.pal_meaning.specs.Syntax as written
use Rattle.state_rows.specs.Named.{Chain, Frame, body_after, caller, entries_rows, entry_rows, frame_rows, frames_from, last_of, locals_of_process, names_or, own_locals, procedure_at, saved_frame}
use Rattle.state_rows.specs.Rows.{Row, row_in, rows_in}
use Rattle.state_rows.specs.States.{placed_from}
use Rattle.state_rows.specs.declared.row.Form.{Form}
use Rattle.state_view.proofs.Loops.{more}

-- ---- loops

mapped : {A B : Type 0} (f : ℕ → B → List Row) (g : A → B) (k : ℕ) (xs : List A) → placed_from f k (map g xs) ≡ placed_from (λ place x. f place (g x)) k xs
mapped f g k [] = refl
mapped f g k (x ∷ xs) = ap (λ (rows : List Row). f k (g x) ++ rows) (mapped f g (k + 1) xs)

-- one more item is written, as what it is seen as
pub more_mapped : {A B : Type 0} (form : Form) (f : ℕ → B → List Row) (g : A → B) (xs : List A) (i : ℕ) (x : A) (old new whole : List ℕ)
    → old ++ rows_in form (placed_from f i (map g (drop i xs))) ≡ whole
    → slice_get xs i ≡ Some x
    → new ≡ old ++ rows_in form (f i (g x))
    → new ++ rows_in form (placed_from f (i + 1) (map g (drop (i + 1) xs))) ≡ whole
more_mapped form f g xs i x old new whole h e written =
    let seen : ℕ → _ → List Row = λ place y. f place (g y) in
    ap (λ (rows : List Row). new ++ rows_in form rows) (mapped f g (i + 1) (drop (i + 1) xs))
    ∙ more form seen xs i x old new whole (sym (ap (λ (rows : List Row). old ++ rows_in form rows) (mapped f g i (drop i xs))) ∙ h) e written

-- the rows of one more declared name are written
pub more_entries : (form : Form) (partition : List ℕ) (words : List ℤ) (e : Entry) (left later : List Entry) (old new whole : List ℕ)
    → left ≡ e ∷ later
    → old ++ rows_in form (entries_rows partition words left) ≡ whole
    → new ≡ old ++ rows_in form (entry_rows partition words e)
    → new ++ rows_in form (entries_rows partition words later) ≡ whole
more_entries form partition words e left later old new whole split h written =
    let own = entry_rows partition words e in
    let rest = entries_rows partition words later in
    ap (λ (bytes : List ℕ). bytes ++ rows_in form rest) written
    ∙ append_assoc old (rows_in form own) (rows_in form rest)
    ∙ ap (λ (bytes : List ℕ). old ++ bytes) (sym (flat_map-append (row_in form) own rest))
    ∙ ap (λ (es : List Entry). old ++ rows_in form (entries_rows partition words es)) (sym split)
    ∙ h

-- the rows of one more frame are written
pub more_frames : (form : Form) (c : Chain) (n i : ℕ) (f : Frame) (next : Option Frame) (old new whole : List ℕ)
    → i < n
    → next ≡ caller c f
    → old ++ rows_in form (frames_from c (n - i) i (Some f)) ≡ whole
    → new ≡ old ++ rows_in form (frame_rows c i f)
    → new ++ rows_in form (frames_from c (n - (i + 1)) (i + 1) next) ≡ whole
more_frames form c n i f next old new whole within called h written =
    let count : n - i ≡ suc (n - (i + 1)) = omega (arith, within) in
    let own = frame_rows c i f in
    let rest = frames_from c (n - (i + 1)) (i + 1) (caller c f) in
    ap (λ (g : Option Frame). new ++ rows_in form (frames_from c (n - (i + 1)) (i + 1) g)) called
    ∙ ap (λ (bytes : List ℕ). bytes ++ rows_in form rest) written
    ∙ append_assoc old (rows_in form own) (rows_in form rest)
    ∙ ap (λ (bytes : List ℕ). old ++ bytes) (sym (flat_map-append (row_in form) own rest))
    ∙ ap (λ k. old ++ rows_in form (frames_from c k i (Some f))) (sym count)
    ∙ h

no_rows : (c : Chain) (most place : ℕ) → frames_from c most place None ≡ []
no_rows c zero place = refl
no_rows c (suc most) place = refl

-- no frame is left
pub no_frame : (form : Form) (c : Chain) (most place : ℕ) (f : Option Frame) (old whole : List ℕ) → f ≡ None → old ++ rows_in form (frames_from c most place f) ≡ whole → old ≡ whole
no_frame form c most place f old whole none h =
    sym (append-nil old) ∙ ap (λ (rows : List Row). old ++ rows_in form rows) (sym (no_rows c most place)) ∙ ap (λ (g : Option Frame). old ++ rows_in form (frames_from c most place g)) (sym none) ∙ h

-- there are as many frames as there may be
pub all_frames : (form : Form) (c : Chain) (n i : ℕ) (f : Option Frame) (old whole : List ℕ) → n ≤ i → old ++ rows_in form (frames_from c (n - i) i f) ≡ whole → old ≡ whole
all_frames form c n i f old whole done h =
    let none : n - i ≡ 0 = omega (arith, done) in
    sym (append-nil old) ∙ ap (λ k. old ++ rows_in form (frames_from c k i f)) (sym none) ∙ h

-- rows after rows
pub two : (form : Form) (xs ys : List Row) (first second third : List ℕ) → second ≡ first ++ rows_in form xs → third ≡ second ++ rows_in form ys → third ≡ first ++ rows_in form (xs ++ ys)
two form xs ys first second third e f =
    f
    ∙ ap (λ (bytes : List ℕ). bytes ++ rows_in form ys) e
    ∙ append_assoc first (rows_in form xs) (rows_in form ys)
    ∙ ap (λ (bytes : List ℕ). first ++ bytes) (sym (flat_map-append (row_in form) xs ys))

pub two_on : {E : Type 0} (form : Form) (xs ys : List Row) (first second third : List ℕ) (answer : Result (Unit {0}) E)
    → second ≡ first ++ rows_in form xs → OnOk answer (third ≡ second ++ rows_in form ys) → OnOk answer (third ≡ first ++ rows_in form (xs ++ ys))
two_on form xs ys first second third (Ok x) e f = two form xs ys first second third e f
two_on form xs ys first second third (Err fault) e f = f

-- ---- bodies and frames

pub after_some : (c : Chain) (n : ℕ) → 1 ≤ n → body_after c n ≡ names_or c.own (procedure_at (n - 1) c.source.tree.declarations)
after_some c zero h = absurd (omega (arith, h))
after_some c (suc n) h =
    let same : n ≡ suc n - 1 = omega arith in
    ap (λ k. names_or c.own (procedure_at k c.source.tree.declarations)) same

pub last_of_some : (routines : List RoutineRow) (n : ℕ) → 1 ≤ n → last_of routines n ≡ slice_get routines (n - 1)
last_of_some routines zero h = absurd (omega (arith, h))
last_of_some routines (suc n) h =
    let same : n ≡ suc n - 1 = omega arith in
    ap (slice_get routines) same

pub saved_after : (pc fp : ℕ) → 1 ≤ pc → saved_frame (Some pc) (Some fp) ≡ Some (record { pc = pc - 1; fp = fp })
saved_after zero fp h = absurd (omega (arith, h))
saved_after (suc pc) fp h =
    let same : pc ≡ suc pc - 1 = omega arith in
    ap (λ k. Some (record { pc = k; fp = fp })) same

pub process_locals : (t : written.Program) (place : ℕ) → 2 ≤ place → own_locals t place ≡ locals_of_process (slice_get t.processes (place - 2))
process_locals t zero h = absurd (omega (arith, h))
process_locals t (suc zero) h = absurd (omega (arith, h))
process_locals t (suc (suc place)) h =
    let same : place ≡ suc (suc place) - 2 = omega arith in
    ap (λ k. locals_of_process (slice_get t.processes k)) same
