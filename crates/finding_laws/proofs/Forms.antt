-- A line has one of the forms if and only if nothing is wrong with its parts.
use Rattle.finding_laws.proofs.Prelude.{◌≡◌, ℕ, ℤ, Bool, cond, ◌∷◌, Option, Some, option_map, codes, ◌==◌, space, is_name, MOST_TICKS, Written, PartitionFault, message_of, message_with, fault_of, line_with, piece, pieces_behind_marks, pieces, plain_number, put_word, word, line_by, written_by, form_wrong, mark_of, Part, parts, total, rule_of}
use Rattle.std.proofs.Common.{true, false, List, [], None, length, refl}
use Rattle.apex_types.specs.declared.device.DeviceFault.TheVariants as fault
use Rattle.engine_meaning.specs.Digits.{same}
use Rattle.module_meaning.specs.DeviceText.{words}
use Rattle.module_base.specs.TextLines.{line_by_pieces}
use Rattle.image_findings.specs.Form.{blemish, event_wrong, fault_wrong, is_byte, last_of, left_at, message_wrong, odd_byte, part_or, parts_wrong, words_wrong, wrong, wrong_part}
use Rattle.image_findings.specs.What.{What, Wrong, Carriage, Comment, NoTick, NoKind, NoName, NoWord, NoWords, Nul, More, Tab}
use Rattle.image_findings.specs.declared.names.TextKind.{TextKind}

-- there is a form and nothing is wrong, or there is none, and what is wrong is the form
abbrev pub IsFormed : {A : Type 0} → Option A → Option Wrong → Type 0
IsFormed None None = ⊥
IsFormed None (Some w) = rule_of w.what ≡ fault.Form
IsFormed (Some a) None = Unit {0}
IsFormed (Some a) (Some w) = ⊥

part_rule : (left : ℕ) (text : List ℕ) (what : What) → rule_of what ≡ fault.Form → rule_of (part_or left text what).what ≡ fault.Form
part_rule left [] what h = refl
part_rule left (b ∷ bs) what h = h

first_word : (p : Part) (w : Option ℤ) (ws : Option (List ℤ)) (rest : Option Wrong) → IsFormed ws rest → IsFormed (put_word w ws) (elim w [ None ↦ Some (wrong_part p (NoWord p.text)) | Some x ↦ rest ])
first_word p None ws rest h = part_rule p.left p.text (NoWord p.text) refl
first_word p (Some x) None None h = absurd h
first_word p (Some x) None (Some w) h = h
first_word p (Some x) (Some ws) None h = tt
first_word p (Some x) (Some ws) (Some w) h = absurd h

words_formed : (ts : List (List ℕ)) → IsFormed (words ts) (words_wrong (parts ts))
unfolding words
words_formed [] = tt
words_formed (t ∷ ts) = first_word (record { text = t; left = total (t ∷ ts) }) (word t) (words ts) (words_wrong (parts ts)) (words_formed ts)

-- a name, and what follows it
named : {A : Type 0} (t : Bool) (p : Part) (o : Option A) (rest : Option Wrong) → IsFormed o rest → IsFormed (cond t o None) (cond t rest (Some (wrong_part p (NoName p.text))))
named true p o rest h = h
named false p o rest h = part_rule p.left p.text (NoName p.text) refl

unnamed : (t : Bool) (p : Part) (w : Wrong) → rule_of w.what ≡ fault.Form → IsFormed {A = Written} None (cond t (Some w) (Some (wrong_part p (NoName p.text))))
unnamed true p w h = h
unnamed false p w h = part_rule p.left p.text (NoName p.text) refl

with_name : (c : List ℕ) (o : Option (List ℤ)) (rest : Option Wrong) → IsFormed o rest → IsFormed (message_with c o) rest
with_name c None rest h = h
with_name c (Some ws) None h = tt
with_name c (Some ws) (Some w) h = absurd h

pub message_formed : (ps : List (List ℕ)) → IsFormed (message_of ps) (message_wrong (parts ps))
message_formed [] = refl
message_formed (c ∷ []) = unnamed (is_name c) (record { text = c; left = total (c ∷ []) }) (wrong 0 NoWords) refl
message_formed (c ∷ w ∷ ws) =
    named (is_name c) (record { text = c; left = total (c ∷ w ∷ ws) }) (message_with c (words (w ∷ ws))) (words_wrong (parts (w ∷ ws)))
    (with_name c (words (w ∷ ws)) (words_wrong (parts (w ∷ ws))) (words_formed (w ∷ ws)))

pub fault_formed : (ps : List (List ℕ)) → IsFormed (fault_of ps) (fault_wrong (parts ps))
fault_formed [] = tt
fault_formed (p ∷ []) = named (is_name p) (record { text = p; left = total (p ∷ []) }) (Some (PartitionFault p)) None tt
fault_formed (p ∷ q ∷ ps) =
    let more : Part = record { text = q; left = total (q ∷ ps) } in
    unnamed (is_name p) (record { text = p; left = total (p ∷ q ∷ ps) }) (wrong_part more (More q)) (part_rule more.left q (More q) refl)

of_kind : (a b : Bool) (p : Part) (m f : Option Written) (x y : Option Wrong) → IsFormed m x → IsFormed f y → IsFormed (cond a m (cond b f None)) (cond a x (cond b y (Some (wrong_part p (NoKind p.text)))))
of_kind true b p m f x y h i = h
of_kind false true p m f x y h i = i
of_kind false false p m f x y h i = part_rule p.left p.text (NoKind p.text) refl

pub event_formed : (kind : TextKind) (ps : List (List ℕ)) → IsFormed (written_by (mark_of kind) ps) (event_wrong kind (parts ps))
event_formed kind [] = refl
event_formed kind (k ∷ ps) =
    of_kind (same k (mark_of kind)) (same k (codes "FAULT")) (record { text = k; left = total (k ∷ ps) }) (message_of ps) (fault_of ps) (message_wrong (parts ps)) (fault_wrong (parts ps)) (message_formed ps) (fault_formed ps)

with_tick : (p : Part) (tick : Option ℕ) (o : Option Written) (rest : Option Wrong) → IsFormed o rest → IsFormed (line_with tick o) (elim tick [ None ↦ Some (wrong_part p (NoTick p.text)) | Some n ↦ rest ])
with_tick p None o rest h = part_rule p.left p.text (NoTick p.text) refl
with_tick p (Some n) None rest h = h
with_tick p (Some n) (Some w) None h = tt
with_tick p (Some n) (Some w) (Some x) h = absurd h

parts_formed : (kind : TextKind) (t : List ℕ) (ps : List (List ℕ)) → IsFormed (line_by_pieces (mark_of kind) (t ∷ ps)) (parts_wrong kind (parts (t ∷ ps)))
parts_formed kind t ps =
    with_tick (record { text = t; left = total (t ∷ ps) }) (plain_number MOST_TICKS t) (written_by (mark_of kind) ps) (event_wrong kind (parts ps)) (event_formed kind ps)

of_line : (a b : Bool) (n : ℕ) (w : Wrong) → rule_of w.what ≡ fault.Form → rule_of (cond a (wrong n Comment) (cond b (wrong 1 Carriage) w)).what ≡ fault.Form
of_line true b n w h = refl
of_line false true n w h = refl
of_line false false n w h = h

abbrev placed : Option ℕ → What → Wrong → Wrong
placed place what w = elim place [ Some left ↦ wrong left what | None ↦ w ]

of_place : (place : Option ℕ) (what : What) (w : Wrong) → rule_of what ≡ fault.Form → rule_of w.what ≡ fault.Form → rule_of (placed place what w).what ≡ fault.Form
of_place None what w h rest = rest
of_place (Some left) what w h rest = h

blemish_rule : (line : List ℕ) (w : Wrong) → rule_of w.what ≡ fault.Form → rule_of (blemish line w).what ≡ fault.Form
blemish_rule [] w h = refl
blemish_rule (b ∷ bs) w h =
    let tab_or_nul = of_place (left_at 9 (b ∷ bs)) Tab (odd_byte 0 Nul (b ∷ bs) w) refl (of_place (left_at 0 (b ∷ bs)) Nul w refl h) in
    of_line (b == 35) (is_byte 13 (last_of (b ∷ bs))) (length (b ∷ bs)) (odd_byte 9 Tab (b ∷ bs) (odd_byte 0 Nul (b ∷ bs) w)) tab_or_nul

blemished : {A : Type 0} (line : List ℕ) (o : Option A) (w : Option Wrong) → IsFormed o w → IsFormed o (option_map (blemish line) w)
blemished line None None h = absurd h
blemished line None (Some w) h = blemish_rule line w h
blemished line (Some a) None h = tt
blemished line (Some a) (Some w) h = absurd h

-- a line has one of the forms if and only if nothing is wrong with its form
pub line_formed : (kind : TextKind) (line : List ℕ) → IsFormed (line_by (mark_of kind) line) (form_wrong kind line (parts (pieces space line)))
line_formed kind line =
    blemished line (line_by (mark_of kind) line) (parts_wrong kind (parts (pieces space line))) (parts_formed kind (piece space line) (pieces_behind_marks space line))
