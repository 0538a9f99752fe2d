-- The controls of slots on their stacks, with one slot and its stack changed.
use Rattle.std.proofs.Common.{◌≡◌, ◌≤◌, ◌<◌, ℕ, zero, suc, ◌+◌, ℤ, pos, Bool, List, [], ◌∷◌, ◌++◌, length, map, take, drop, replicate, true, false, refl, ap, sym, ◌∙◌, arith}
use Rattle.std.specs.Prelude.{get_or, slice_get, slice_set, Option, Some, None}
use Rattle.std.proofs.Math.Seq.{map-set_same}
use Rattle.std.proofs.lemmas.List.{map-set, set_past, length-map, length-set, length-replicate, map-append}
use Rattle.std.proofs.lemmas.Option.{slice_get-map, slice_get_past, slice_get-get_or, slice_get_within, none-some, same_Some}
use Rattle.apex_types.specs.declared.row.BodyRow.{BodyRow}
use Rattle.apex_types.specs.declared.row.ProcessRow.{ProcessRow}
use Rattle.machine_meaning.specs.MachineControl.{MachineControl}
use Rattle.kernel_meaning.specs.Partition.{control_at, no_control}
use Rattle.machine_meaning.specs.MachineMeaning.{body_of_row}
use Rattle.engine_meaning.specs.Operators.{put_words}
use Rattle.regions.specs.Space.{Space, seen, put, stacks_of, zeros}
use Rattle.regions.proofs.Lists.{set_twice, put_back}
use Rattle.partition_base.specs.Slots.{alone, control_on, control_while, control_of_slot, controls_from, stack_lengths, stack_of_body, is_begun}
use Rattle.partition_base.specs.declared.slot.Slot.{Slot}

-- ---- one slot and its stack

-- a slot and its stack changed are one control changed
pub put_one : (slots : List Slot) (ks : List (List ℤ)) (p : ℕ) (s : Slot) (x : List ℤ) → controls_from (slice_set slots p s) (slice_set ks p x) ≡ slice_set (controls_from slots ks) p (control_of_slot s x)
put_one [] ks zero s x = refl
put_one [] ks (suc p) s x = refl
put_one (a ∷ slots) [] zero s x = refl
put_one (a ∷ slots) [] (suc p) s x = refl
put_one (a ∷ slots) (k ∷ ks) zero s x = refl
put_one (a ∷ slots) (k ∷ ks) (suc p) s x = ap (λ l. control_of_slot a k ∷ l) (put_one slots ks p s x)

-- the control of a slot on its stack
pub there : (slots : List Slot) (ks : List (List ℤ)) (p : ℕ) (s : Slot) → slice_get slots p ≡ Some s → p < length ks → control_at (controls_from slots ks) p ≡ control_of_slot s (get_or ks p [])
there [] ks p s e h = absurd (none-some s e)
there (a ∷ slots) [] p s e h = absurd (omega (arith, h))
there (a ∷ slots) (k ∷ ks) zero s e h = ap (λ (b : Slot). control_of_slot b k) (same_Some a s e)
there (a ∷ slots) (k ∷ ks) (suc p) s e h = there slots ks p s e (omega (arith, h))

-- there are no controls past the end of the slots and of the stacks
pub none_behind : (slots : List Slot) (ks : List (List ℤ)) (p : ℕ) → length slots ≤ p → control_at (controls_from slots ks) p ≡ None
none_behind [] ks p h = refl
none_behind (a ∷ slots) [] p h = refl
none_behind (a ∷ slots) (k ∷ ks) zero h = absurd (omega (arith, h))
none_behind (a ∷ slots) (k ∷ ks) (suc p) h = none_behind slots ks p (omega (arith, h))

pub none_past : (slots : List Slot) (ks : List (List ℤ)) (p : ℕ) → length ks ≤ p → control_at (controls_from slots ks) p ≡ None
none_past [] ks p h = refl
none_past (a ∷ slots) [] p h = refl
none_past (a ∷ slots) (k ∷ ks) zero h = absurd (omega (arith, h))
none_past (a ∷ slots) (k ∷ ks) (suc p) h = none_past slots ks p (omega (arith, h))

-- the control of a slot on its stack, if something is left to do
pub on_stack : (slots : List Slot) (ks : List (List ℤ)) (p : ℕ) (s : Slot) (k : List ℤ) → slice_get slots p ≡ Some s → slice_get ks p ≡ Some k → control_of_slot s k ≡ control_at (controls_from slots ks) p
on_stack [] ks p s k e f = absurd (none-some s e)
on_stack (a ∷ slots) [] p s k e f = absurd (none-some k f)
on_stack (a ∷ slots) (l ∷ ks) zero s k e f = ap (control_of_slot s) (sym (same_Some l k f)) ∙ ap (λ (b : Slot). control_of_slot b l) (sym (same_Some a s e))
on_stack (a ∷ slots) (l ∷ ks) (suc p) s k e f = on_stack slots ks p s k e f

pub if_active : (slots : List Slot) (ks : List (List ℤ)) (p : ℕ) (s : Slot) (k : List ℤ) → slice_get slots p ≡ Some s → slice_get ks p ≡ Some k → s.is_active ≡ true → Some (control_on s.context k) ≡ control_at (controls_from slots ks) p
if_active slots ks p s k e f h = ap (λ b. control_while b (control_on s.context k)) (sym h) ∙ on_stack slots ks p s k e f

pub unless_active : (slots : List Slot) (ks : List (List ℤ)) (p : ℕ) (s : Slot) (k : List ℤ) → slice_get slots p ≡ Some s → slice_get ks p ≡ Some k → s.is_active ≡ false → None ≡ control_at (controls_from slots ks) p
unless_active slots ks p s k e f h = ap (λ b. control_while b (control_on s.context k)) (sym h) ∙ on_stack slots ks p s k e f

pub without_slot : (slots : List Slot) (ks : List (List ℤ)) (p : ℕ) → length slots ≤ p → None ≡ control_at (controls_from slots ks) p
without_slot slots ks p h = sym (none_behind slots ks p h)

pub without_stack : (slots : List Slot) (ks : List (List ℤ)) (p : ℕ) → slice_get ks p ≡ None → None ≡ control_at (controls_from slots ks) p
without_stack [] ks p e = refl
without_stack (a ∷ slots) [] p e = refl
without_stack (a ∷ slots) (k ∷ ks) zero e = absurd (none-some k (sym e))
without_stack (a ∷ slots) (k ∷ ks) (suc p) e = without_stack slots ks p e

pub same_behind : (slots : List Slot) (ks : List (List ℤ)) (p : ℕ) (c : Option MachineControl) → length slots ≤ p → slice_set (controls_from slots ks) p c ≡ controls_from slots ks
same_behind [] ks zero c h = refl
same_behind [] ks (suc p) c h = refl
same_behind (a ∷ slots) [] zero c h = refl
same_behind (a ∷ slots) [] (suc p) c h = refl
same_behind (a ∷ slots) (k ∷ ks) zero c h = absurd (omega (arith, h))
same_behind (a ∷ slots) (k ∷ ks) (suc p) c h = ap (λ l. control_of_slot a k ∷ l) (same_behind slots ks p c (omega (arith, h)))

pub same_past : (slots : List Slot) (ks : List (List ℤ)) (p : ℕ) (c : Option MachineControl) → length ks ≤ p → slice_set (controls_from slots ks) p c ≡ controls_from slots ks
same_past [] ks zero c h = refl
same_past [] ks (suc p) c h = refl
same_past (a ∷ slots) [] zero c h = refl
same_past (a ∷ slots) [] (suc p) c h = refl
same_past (a ∷ slots) (k ∷ ks) zero c h = absurd (omega (arith, h))
same_past (a ∷ slots) (k ∷ ks) (suc p) c h = ap (λ l. control_of_slot a k ∷ l) (same_past slots ks p c (omega (arith, h)))

-- ---- the memory in which a stack was selected

pub selected_stacks : (words : List ℤ) (ks : List (List ℤ)) (p : ℕ) (s : Space) → s ≡ seen words ks p → stacks_of s ≡ ks
selected_stacks words ks p s e = ap stacks_of e ∙ put_back ks p [] []

pub put_stacks : (words other : List ℤ) (ks : List (List ℤ)) (p : ℕ) (x : List ℤ) (s t : Space) → s ≡ seen words ks p → t ≡ put s x other → stacks_of t ≡ slice_set ks p x
put_stacks words other ks p x s t e f = ap stacks_of (f ∙ ap (λ (k : Space). put k x other) e) ∙ set_twice ks p [] x

pub as_many : (s : Space) → length (stacks_of s) ≡ length s.rest
as_many s = length-set s.rest s.own s.stack

pub same_lengths : (words other : List ℤ) (ks : List (List ℤ)) (p : ℕ) (x : List ℤ) (s t : Space) → s ≡ seen words ks p → t ≡ put s x other → length x ≡ length (get_or ks p []) → stack_lengths t ≡ map length ks
same_lengths words other ks p x s t e f h = ap (map length) (put_stacks words other ks p x s t e f) ∙ map-set_same length ks p x [] h

-- ---- slots that stop

pub stopped : (slots : List Slot) (ks : List (List ℤ)) (p : ℕ) (s : Slot) → s.is_active ≡ false → controls_from (slice_set slots p s) ks ≡ slice_set (controls_from slots ks) p None
stopped [] ks zero s h = refl
stopped [] ks (suc p) s h = refl
stopped (a ∷ slots) [] zero s h = refl
stopped (a ∷ slots) [] (suc p) s h = refl
stopped (a ∷ slots) (k ∷ ks) zero s h = ap (λ b. control_while b (control_on s.context k) ∷ controls_from slots ks) h
stopped (a ∷ slots) (k ∷ ks) (suc p) s h = ap (λ l. control_of_slot a k ∷ l) (stopped slots ks p s h)

-- one more runner has nothing left to do
one_more_without : {C : Type 0} (xs : List (Option C)) (i : ℕ) → slice_set (map no_control (take i xs) ++ drop i xs) i None ≡ map no_control (take (i + 1) xs) ++ drop (i + 1) xs
one_more_without [] zero = refl
one_more_without {C = C} [] (suc i) =
    let at : suc (i + 1) ≡ suc i + 1 = omega arith in
    let none : List (Option C) = [] in
    ap (λ k. map no_control (take k none) ++ drop k none) at
one_more_without (x ∷ xs) zero = refl
one_more_without (x ∷ xs) (suc i) =
    let at : suc (i + 1) ≡ suc i + 1 = omega arith in
    ap (λ l. None ∷ l) (one_more_without xs i) ∙ ap (λ k. map no_control (take k (x ∷ xs)) ++ drop k (x ∷ xs)) at

pub stopped_one : {A C : Type 0} (view : A → Option C) (items : List A) (xs : List (Option C)) (i : ℕ) (y : A) → map view items ≡ map no_control (take i xs) ++ drop i xs → view y ≡ None → map view (slice_set items i y) ≡ map no_control (take (i + 1) xs) ++ drop (i + 1) xs
stopped_one view items xs i y so_far here =
    map-set view items i y ∙ ap (λ c. slice_set (map view items) i c) here ∙ ap (λ l. slice_set l i None) so_far ∙ one_more_without xs i

pub inactive : (slot : Slot) → slot.is_active ≡ false → alone slot ≡ None
inactive slot h = ap (λ b. control_while b (control_on slot.context [])) h

still_none : (b : Bool) (c d : MachineControl) → control_while b c ≡ None → control_while b d ≡ None
still_none true c d e = absurd (none-some c (sym e))
still_none false c d e = refl

pub all_stopped : (old new : List Slot) (ks : List (List ℤ)) → map alone new ≡ map no_control (map alone old) → controls_from new ks ≡ map no_control (controls_from old ks)
all_stopped [] [] ks e = refl
all_stopped [] (n ∷ new) ks e = absurd (cc)
all_stopped (o ∷ old) [] ks e = absurd (cc)
all_stopped (o ∷ old) (n ∷ new) [] e = refl
all_stopped (o ∷ old) (n ∷ new) (k ∷ ks) e =
    let here : alone n ≡ None = cc in
    let rest : map alone new ≡ map no_control (map alone old) = cc in
    let none : control_of_slot n k ≡ None = still_none n.is_active (control_on n.context []) (control_on n.context k) here in
    ap (λ c. c ∷ controls_from new ks) none ∙ ap (λ l. None ∷ l) (all_stopped old new ks rest)

-- ---- a fresh memory

none_begun : (slots : List Slot) (ks : List (List ℤ)) (n : ℕ) → map is_begun slots ≡ replicate n false → length ks ≡ n → controls_from slots ks ≡ replicate n None
none_begun [] ks zero e h = refl
none_begun [] ks (suc n) e h = absurd (cc)
none_begun (a ∷ slots) ks zero e h = absurd (cc)
none_begun (a ∷ slots) [] (suc n) e h = absurd (omega (arith, h))
none_begun (a ∷ slots) (k ∷ ks) (suc n) e h =
    let here : a.is_active ≡ false = cc in
    let rest : map is_begun slots ≡ replicate n false = cc in
    ap (λ b. control_while b (control_on a.context k) ∷ controls_from slots ks) here ∙ ap (λ l. None ∷ l) (none_begun slots ks n rest (omega (arith, h)))

-- neither INIT nor the handler nor a process of a section is begun
pub fresh_controls : (slots : List Slot) (init handler : BodyRow) (bodies : List BodyRow) (rows : List ProcessRow) → map is_begun slots ≡ replicate (2 + length bodies) false → bodies ≡ map body_of_row rows → controls_from slots (map zeros (map stack_of_body (init ∷ handler ∷ map body_of_row rows))) ≡ replicate (2 + length rows) None
fresh_controls slots init handler bodies rows e f =
    let as_many : length bodies ≡ length rows = ap length f ∙ length-map rows body_of_row in
    let ks : List BodyRow = init ∷ handler ∷ map body_of_row rows in
    let count : length (map zeros (map stack_of_body ks)) ≡ 2 + length rows =
    length-map (map stack_of_body ks) zeros ∙ length-map ks stack_of_body ∙ omega (arith, length-map rows body_of_row) in
    none_begun slots (map zeros (map stack_of_body ks)) (2 + length rows) (e ∙ ap (λ n. replicate (2 + n) false) as_many) count

one_more_false : (n : ℕ) → replicate n false ++ false ∷ [] ≡ replicate (n + 1) false
one_more_false zero = refl
one_more_false (suc n) =
    let at : suc (n + 1) ≡ suc n + 1 = omega arith in
    ap (λ l. false ∷ l) (one_more_false n) ∙ ap (λ k. replicate k false) at

pub one_more_slot : (items next : List Slot) (slot : Slot) (n : ℕ) → map is_begun items ≡ replicate (2 + n) false → next ≡ items ++ slot ∷ [] → slot.is_active ≡ false → map is_begun next ≡ replicate (2 + (n + 1)) false
one_more_slot items next slot n so_far pushed here =
    let at : 2 + n + 1 ≡ 2 + (n + 1) = omega arith in
    ap (map is_begun) pushed
    ∙ map-append is_begun items (slot ∷ [])
    ∙ ap (λ l. l ++ slot.is_active ∷ []) so_far
    ∙ ap (λ b. replicate (2 + n) false ++ b ∷ []) here
    ∙ one_more_false (2 + n)
    ∙ ap (λ k. replicate k false) at

-- the stacks of a fresh memory are as long as they are planned
pub fresh_lengths : (ns : List ℕ) → map length (map zeros ns) ≡ ns
fresh_lengths [] = refl
fresh_lengths (n ∷ ns) = ap (λ k. k ∷ map length (map zeros ns)) (length-replicate n (pos 0)) ∙ ap (λ l. n ∷ l) (fresh_lengths ns)

pub length_there : (ks : List (List ℤ)) (p n : ℕ) → slice_get (map length ks) p ≡ Some n → length (get_or ks p []) ≡ n
length_there [] p n e = absurd (none-some n e)
length_there (k ∷ ks) zero n e = same_Some (length k) n e
length_there (k ∷ ks) (suc p) n e = length_there ks p n e

pub length_put : (words : List ℤ) (place : ℕ) (ws : List ℤ) → length (put_words words place ws) ≡ length words
length_put words place [] = refl
length_put words place (w ∷ ws) = length_put (slice_set words place w) (place + 1) ws ∙ length-set words place w

pub ruleset views = (put_one, there, none_behind, none_past, same_behind, same_past, set_twice, put_back, length-set, map-set, map-set_same, set_past, slice_get-map, slice_get_past, slice_get-get_or, slice_get_within)

pub ruleset controls = (if_active, unless_active, without_slot, without_stack, slice_get-get_or)
