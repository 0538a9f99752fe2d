-- The text of inputs is a replay text, and it is read as these inputs.
use Rattle.isolation.proofs.Prelude.{◌≡◌, ℕ, zero, suc, ◌+◌, ◌<◌, ◌≤◌, ℤ, Bool, true, false, List, ◌∷◌, ◌++◌, length, map, Option, Some, None, Result, Ok, Err, sym, ◌∙◌, arith, append_assoc, ◌==◌, ◌&&◌, nat_le, nat_lt, if◌then◌else◌, slice_get, eq-eqb, space, third_limits, MOST_DEVICE_LINES, MOST_TICKS, is_name, DeviceFault, PortDirection, PortRow, Written, Message, message_of, message_with, line_with, pieces, is_room, same, Partition, at_number, EachBeside, IsPort, Input, InputLine, Arrive, ModuleFault, PartitionFault, replay_text, IsInput, AreInputs, HasNames}
use Rattle.std.proofs.Common.{[], refl, ap, subst, lit<}
use Rattle.std.specs.Fmt.{decimal, signed_decimal}
use Rattle.std.specs.List.{list_all}
use Rattle.std.proofs.lemmas.Bool.{and_from, lt-ltb, le-ltb, le-leb, cond-true, cond-false}
use Rattle.apex_types.specs.declared.device.DeviceFault.TheVariants as fault
use Rattle.module_meaning.specs.DeviceText.{ModuleFault as DeviceModuleFault, PartitionFault as DevicePartitionFault, pieces_behind_marks, first_from, words}
use Rattle.text_lines.specs.Words.{AreWords}
use Rattle.text_lines.proofs.Names.{name_ink}
use Rattle.text_lines.proofs.Pieces.{is_ink, AreInk, ink_is_free, all_free, join_free, first_piece, pieces_join}
use Rattle.text_lines.proofs.Words.{plain_again, decimal_ink, words_again, words_ink}
use Rattle.isolation.specs.InputText.{name_of_port, input_parts, input_body}
use Rattle.isolation.specs.ReplayText.{written_of, line_of_pieces, line_of, is_destination, within, taken_message, named, taken, put_line, and_then, lines_from, replay_verdict}
use Rattle.isolation.proofs.OfImage.{any_at, get_front, get_last}
use Rattle.isolation.proofs.Steps.{same_some}

-- ---- ports by their names
port_named : (before rows : List PortRow) → EachBeside (IsPort third_limits) before rows → (k : ℕ) (x : PortRow) → slice_get rows k ≡ Some x → is_name x.name ≡ true
port_named before [] each k x e = absurd (cc)
port_named before (r ∷ rs) each zero x e = subst (λ (y : PortRow). is_name y.name ≡ true) (same_some r x e) each.0.name
port_named before (r ∷ rs) each (suc k) x e = port_named (before ++ r ∷ []) rs each.1 k x e

-- an earlier port has another name
other_name : (before rows : List PortRow) → EachBeside (IsPort third_limits) before rows → (j : ℕ) (y : PortRow) → slice_get before j ≡ Some y → (k : ℕ) (x : PortRow) → slice_get rows k ≡ Some x → same y.name x.name ≡ false
other_name before [] each j y f k x e = absurd (cc)
other_name before (r ∷ rs) each j y f zero x e =
    subst (λ (z : PortRow). same y.name z.name ≡ false) (same_some r x e) (any_at (λ z. same z.name r.name) before j y each.0.fresh f)
other_name before (r ∷ rs) each j y f (suc k) x e = other_name (before ++ r ∷ []) rs each.1 j y (get_front before (r ∷ []) j y f) k x e

same_own : (a : List ℕ) → same a a ≡ true
same_own [] = refl
same_own (x ∷ xs) = and_from (x == x) (same xs xs) (eq-eqb x x refl) (same_own xs)

found_first : (before rows : List PortRow) → EachBeside (IsPort third_limits) before rows → (n k : ℕ) (x : PortRow) → slice_get rows k ≡ Some x → first_from n (λ y. same y.name x.name) rows ≡ Some (n + k, x)
unfolding first_from
found_first before [] each n k x e = absurd (cc)
found_first before (r ∷ rs) each n zero x e =
    let is = same_some r x e in
    cond-true (same r.name x.name) (Some (n, r)) (first_from (n + 1) (λ y. same y.name x.name) rs) (subst (λ (z : PortRow). same r.name z.name ≡ true) is (same_own r.name))
    ∙ ap (λ (z : PortRow). Some (n, z)) is ∙ ap (λ (m : ℕ). Some (m, x)) (plain n)
  where
    plain : (n : ℕ) → n ≡ n + 0
    plain n = omega arith
found_first before (r ∷ rs) each n (suc k) x e =
    cond-false (same r.name x.name) (Some (n, r)) (first_from (n + 1) (λ y. same y.name x.name) rs) (other_name (before ++ r ∷ []) rs each.1 (length before) r (get_last before r) k x e)
    ∙ found_first (before ++ r ∷ []) rs each.1 (n + 1) k x e ∙ ap (λ (m : ℕ). Some (m, x)) (turned n k)
  where
    turned : (n k : ℕ) → n + 1 + k ≡ n + suc k
    turned n k = omega arith

found_port : (row : Partition) → HasNames row → (n : ℕ) (x : PortRow) → at_number row.ports n ≡ Some x → first_from 1 (λ y. same y.name x.name) row.ports ≡ Some (n, x)
found_port row h zero x e = absurd (cc)
found_port row h (suc k) x e = found_first [] row.ports h.ports 1 k x e ∙ ap (λ (m : ℕ). Some (m, x)) (first k)
  where
    first : (k : ℕ) → 1 + k ≡ suc k
    first k = omega arith

port_name : (row : Partition) → HasNames row → (n : ℕ) (x : PortRow) → at_number row.ports n ≡ Some x → is_name x.name ≡ true
port_name row h zero x e = absurd (cc)
port_name row h (suc k) x e = port_named [] row.ports h.ports k x e

-- ---- a line
-- what the text of an input says
abbrev said : Partition → Input → Written
said row (Arrive port m) = Message (name_of_port (at_number row.ports port.0)) m.items
said row ModuleFault = DeviceModuleFault
said row PartitionFault = DevicePartitionFault row.name

message_again : (name : List ℕ) (ws : List ℤ) → is_name name ≡ true → 1 ≤ length ws → AreWords ws → message_of (name ∷ map signed_decimal ws) ≡ Some (Message name ws)
message_again name [] n some h = absurd (omega (arith, some))
message_again name (w ∷ ws) n some h =
    cond-true (is_name name) (message_with name (words (map signed_decimal (w ∷ ws)))) None n
    ∙ ap (message_with name) (words_again (w ∷ ws) h)

module _ (row : Partition) (names : HasNames row) where
  known : (port : ℕ) (x : PortRow) → at_number row.ports port ≡ Some x → is_name (name_of_port (at_number row.ports port)) ≡ true
  known port x e = subst (λ (o : Option PortRow). is_name (name_of_port o) ≡ true) (sym e) (port_name row names port x e)

  parts_ink : (i : Input) → IsInput row i → AreInk (input_parts row i)
  parts_ink (Arrive port m) h =
      and_from (list_all is_ink (name_of_port (at_number row.ports port.0))) (list_all (list_all is_ink) (map signed_decimal m.items))
      (name_ink (name_of_port (at_number row.ports port.0)) (known port.0 h.at h.there)) (words_ink m.items h.message.fit)
  parts_ink ModuleFault h = refl
  parts_ink PartitionFault h = and_from (list_all is_ink row.name) true (name_ink row.name names.name) refl

  body_ink : (l : InputLine) → l.tick.0 ≤ MOST_TICKS → IsInput row l.input → AreInk (decimal l.tick.0 ∷ input_parts row l.input)
  body_ink l low h = and_from (list_all is_ink (decimal l.tick.0)) (list_all (list_all is_ink) (input_parts row l.input)) (decimal_ink l.tick.0 (omega (arith, low))) (parts_ink l.input h)

  written_again : (i : Input) → IsInput row i → written_of (input_parts row i) ≡ Some (said row i)
  written_again (Arrive port m) h = message_again (name_of_port (at_number row.ports port.0)) m.items (known port.0 h.at h.there) h.message.some h.message.fit
  written_again ModuleFault h = refl
  written_again PartitionFault h = cond-true (is_name row.name) (Some (DevicePartitionFault row.name)) None names.name

  line_again : (l : InputLine) → l.tick.0 ≤ MOST_TICKS → IsInput row l.input → line_of (input_body row l) ≡ Some (record { tick = l.tick.0; written = said row l.input })
  line_again l low h =
      ap line_of_pieces (pieces_join space (decimal l.tick.0) (input_parts row l.input) (ink_is_free space (decimal l.tick.0) (omega arith) (decimal_ink l.tick.0 (omega (arith, low)))) (all_free space (input_parts row l.input) (omega arith) (parts_ink l.input h)))
      ∙ ap (λ (o : Option ℕ). line_with o (written_of (input_parts row l.input))) (plain_again MOST_TICKS l.tick.0 (lit< tt) low)
      ∙ ap (λ (o : Option Written). line_with (Some l.tick.0) o) (written_again l.input h)

  line_within : (b : Bool) (l : InputLine) → b ≡ true → within b l.tick.0 l.input ≡ Ok l
  line_within true l e = refl
  line_within false l e = absurd (cc)

  named_again : (count tick : ℕ) (i : Input) → count < MOST_DEVICE_LINES → IsInput row i → named row count tick (said row i) ≡ Ok (record { tick = record { 0 = tick }; input = i })
  named_again count tick (Arrive port m) room h =
      ap (λ (o : Option PortRow). taken_message count tick m.items (first_from 1 (λ y. same y.name (name_of_port o)) row.ports)) h.there
      ∙ ap (λ (o : Option (ℕ × PortRow)). taken_message count tick m.items o) (found_port row names port.0 h.at h.there)
      ∙ ap (λ (d : PortDirection). if is_destination d then within (is_room count && nat_le (length m.items) h.at.words) tick (Arrive port m) else Err fault.Name) h.taken
      ∙ line_within (is_room count && nat_le (length m.items) h.at.words) (record { tick = record { 0 = tick }; input = Arrive port m }) (and_from (is_room count) (nat_le (length m.items) h.at.words) (lt-ltb count MOST_DEVICE_LINES room) (le-leb (length m.items) h.at.words h.message.few))
  named_again count tick ModuleFault room h = line_within (is_room count) (record { tick = record { 0 = tick }; input = ModuleFault }) (lt-ltb count MOST_DEVICE_LINES room)
  named_again count tick PartitionFault room h =
      cond-true (same row.name row.name) (within (is_room count) tick PartitionFault) (Err fault.Name) (same_own row.name)
      ∙ line_within (is_room count) (record { tick = record { 0 = tick }; input = PartitionFault }) (lt-ltb count MOST_DEVICE_LINES room)

  taken_again : (count before : ℕ) (l : InputLine) → count < MOST_DEVICE_LINES → before ≤ l.tick.0 → l.tick.0 ≤ MOST_TICKS → IsInput row l.input → taken row count before (line_of (input_body row l)) ≡ Ok l
  taken_again count before l room late low h =
      ap (taken row count before) (line_again l low h)
      ∙ cond-false (nat_lt l.tick.0 before) (Err fault.Order) (named row count l.tick.0 (said row l.input)) (le-ltb l.tick.0 before late)
      ∙ named_again count l.tick.0 l.input room h

  -- ---- the text
  lines_again : (ls : List InputLine) (count before : ℕ) → AreInputs row before ls → count + length ls ≤ MOST_DEVICE_LINES → lines_from row count before (pieces 10 (replay_text row ls)) ≡ Ok ls
  unfolding lines_from pieces_behind_marks
  lines_again [] count before h few = refl
  lines_again (l ∷ ls) count before h few =
      ap (λ (ps : List (List ℕ)). lines_from row count before ps)
      (ap (pieces 10) (append_assoc (input_body row l) (10 ∷ []) (replay_text row ls)) ∙ first_piece 10 (input_body row l) (replay_text row ls) (join_free (decimal l.tick.0 ∷ input_parts row l.input) (body_ink l h.1 h.2)))
      ∙ ap (λ (r : Result InputLine DeviceFault). and_then r (λ k. lines_from row (count + 1) k.tick.0 (pieces 10 (replay_text row ls)))) (taken_again count before l (omega (arith, few)) h.0 h.1 h.2)
      ∙ ap (put_line l) (lines_again ls (count + 1) l.tick.0 h.3 (omega (arith, few)))

-- The text of inputs is accepted as a replay text, and means these inputs.
pub text_again : (row : Partition) (ls : List InputLine) → HasNames row → AreInputs row 0 ls → length ls ≤ MOST_DEVICE_LINES → replay_verdict row (replay_text row ls) ≡ Ok ls
unfolding replay_verdict
text_again row ls names h few = lines_again row names ls 0 0 h (omega (arith, few))
