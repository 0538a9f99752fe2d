-- Each tick and each reply keeps the relation.
use Rattle.compiling_laws.proofs.Prelude.{◌≡◌, ℕ, suc, ◌+◌, ◌-◌, ◌≤◌, ◌<◌, ℤ, pos, Bool, true, false, List, ◌∷◌, ◌++◌, length, take, drop, reverse, replicate, Option, Some, None, refl, sym, ap, ◌∙◌, subst, append_assoc, length-append, max, nat_eq, slice_get, slice_set, lt-ltb, le-leb, leb-true, eqb-true, length-replicate, MOST_INSTRUCTIONS, MOST_WORK_TICKS, Costs, Instr, BinaryOperator, Place, Data, Slot, Service, RoutineRow, Program, Procedure, Expr, Block, While, number_of, argument_words, answer_words, size_of_block, size_of_stmt, operands_of_block, Asks, Ticked, IsWork, store, slots_of, Part, Evaluate, Execute, Do, Simple, Value, ReadElement, OperateOne, OperateTwo, Open, WriteScalar, WriteElement, Choose, ChooseElse, Repeat, ReturnValue, Ask, EndBody, Front, front_of, cost_of_simple, taken, parts_of_procedure, block_then, put_words, word, pushed, popped, Code, Limits, Goes, Laid, calls_of, onto, saved, below, Keeps}
use Rattle.std.proofs.Common.{◌≢◌, zero, ◌&&◌, [], arith, nat_lt, nat_le}
use Rattle.std.specs.Prelude.{if◌then◌else◌}
use Rattle.std.proofs.lemmas.Bool.{le-ltb, leb-false, eq-eqb, ne_eqb}
use Rattle.std.proofs.lemmas.List.{set-append_left, length-set, length-drop, length-take-le}
use Rattle.std.proofs.lemmas.Option.{slice_get_within}
use Rattle.apex_types.specs.declared.codes.ErrorKind.{ErrorKind}
use Rattle.apex_types.specs.declared.codes.ErrorKind.TheVariants as error
use Rattle.apex_types.specs.declared.instruction.Instr.TheVariants as instr
use Rattle.apex_types.specs.declared.instruction.UnaryOperator.{UnaryOperator}
use Rattle.apex_types.specs.ServiceCalls.{call_of, array_of}
use Rattle.engine_meaning.specs.Operators.{has_array_within}
use Rattle.engine_meaning.specs.Operators.{apply_binary, apply_unary, is_zero, element_at}
use Rattle.pal_meaning.specs.Program.{frame_of_procedure}
use Rattle.machine_meaning.specs.Instructions.{cost_of, is_work, cost_of_work}
use Rattle.engine_meaning.specs.Engine.{Nothing, Calls, Faults, Ends}
use Rattle.engine_meaning.specs.Simulates.{SameTick}
use Rattle.compiling_laws.specs.CompiledCode.{load}
use Rattle.pal_meaning.specs.SourceControl as source
use Rattle.pal_meaning.specs.SourceControl.{SourceControl, OpenCall, ReadScalar, Leave, GoBack, Spend, front, moves, stays, value_or, writes, writes_slot, write_at, effect, tick_at, tick_awaiting, source_tick, source_reply, opens, asks_service}
use Rattle.machine_meaning.specs.MachineControl as machine
use Rattle.machine_meaning.specs.MachineControl.{MachineControl, Effect, asks_only, refuses, top, below_top, with_operands, pushes, pushes_or, element_word, stored, stored_element, changes_data, changes_stack, enters_at, enters, code_limit, saved_within, arguments, calls_numbered, executes, spends, fetched, machine_tick, machine_reply}
use Rattle.compiling_laws.specs.Related.{Fetches, HasCaller, InProgress, Waiting}
use Rattle.apex_types.proofs.Numbers.{service_of_number}
use Rattle.compiling_laws.proofs.Front.{unfolded, moved, block_goes, front_goes}
use Rattle.compiling_laws.proofs.Stack.{onto_length, onto_split, onto_parts, word_at_top, set_at_top, get_within, set_within, put_over, pushed_onto, popped_values, onto_reverse, base, base_length, below_length}

work_allowed : (t : ℕ) → IsWork t → (nat_le 1 t && nat_le t MOST_WORK_TICKS) ≡ true
work_allowed t h = ap (λ b. b && nat_le t MOST_WORK_TICKS) (le-leb 1 t h.0) ∙ le-leb t MOST_WORK_TICKS h.1

same_element : (words : List ℤ) (o : Option ℕ) → element_word words o ≡ source.word_at words o
same_element words None = refl
same_element words (Some place) = refl

same_stored : (words : List ℤ) (o : Option ℕ) (v : ℤ) → stored_element words o v ≡ write_at words o v
same_stored words None v = refl
same_stored words (Some place) v = refl

abbrev pub limits_of : Procedure → Limits
limits_of p = record { slots = slots_of p; room = max 1 (operands_of_block p.block); returns = true }

-- a routine whose code is that of the procedure
pub record Stands (code : Code) (ps : List Procedure) (p : Procedure) (r : RoutineRow) : Type 0 where
  pub parameters : r.parameters ≡ p.parameters
  pub slots : r.slots ≡ slots_of p
  pub frame : r.frame ≡ frame_of_procedure p
  pub goes : Goes code ps (limits_of p) r.entry 0 (parts_of_procedure p)

pub record Placed (code : Code) (program : Program) (rs : List RoutineRow) : Type 0 where
  pub short : length code ≤ MOST_INSTRUCTIONS
  pub routine : (f : ℕ) (p : Procedure) → slice_get program.procedures f ≡ Some p → (r : RoutineRow) × (slice_get rs f ≡ Some r) × Stands code program.procedures p r

abbrev pub Same : Code → Program → Ticked SourceControl → Ticked MachineControl → Type 0
Same code program a b = SameTick (Keeps code program.procedures) a b

by_machine : (code : Code) (program : Program) (a : Ticked SourceControl) (x y : Ticked MachineControl) → x ≡ y → Same code program a y → Same code program a x
by_machine code program a x y e h = subst (λ b. Same code program a b) (sym e) h

by_source : (code : Code) (program : Program) (a b : Ticked SourceControl) (x : Ticked MachineControl) → a ≡ b → Same code program b x → Same code program a x
by_source code program a b x e h = subst (λ d. Same code program d x) (sym e) h

saved_first : (s : List ℤ) (a b : ℤ) → slice_get (s ++ a ∷ b ∷ []) (length s) ≡ Some a
saved_first [] a b = refl
saved_first (w ∷ s) a b = saved_first s a b

saved_second : (s : List ℤ) (a b : ℤ) → slice_get (s ++ a ∷ b ∷ []) (length s + 1) ≡ Some b
saved_second [] a b = refl
saved_second (w ∷ s) a b =
    let at : length (w ∷ s) + 1 ≡ suc (length s + 1) = omega arith in
    ap (λ p. slice_get (w ∷ (s ++ a ∷ b ∷ [])) p) at ∙ saved_second s a b

flat_frame : (b o z s j : List ℤ) → (b ++ o) ++ ((z ++ s) ++ j) ≡ (b ++ ((o ++ z) ++ s)) ++ j
flat_frame b o z s j = simp append_assoc

put_length : (s ws : List ℤ) (i : ℕ) → length (put_words s i ws) ≡ length s
put_length s [] i = refl
put_length s (w ∷ ws) i = put_length (slice_set s i w) ws (i + 1) ∙ length-set s i w

module _ (costs : Costs) (code : Code) (program : Program) (rs : List RoutineRow) (c : SourceControl) (m : MachineControl) (words : List ℤ) (k : Keeps code program.procedures c m) (idle : c.awaits ≡ 0) where
  abbrev here : List ℤ
  here = base k.laid c.slots

  stacked : (vs : List ℤ) → c.values ≡ vs → m.stack ≡ here ++ onto vs k.junk
  stacked vs e = k.stack ∙ ap (λ ws. here ++ onto ws k.junk) e

  at_top : (vs : List ℤ) → c.values ≡ vs → m.sp ≡ length here + length vs
  at_top vs e =
      let sp = k.sp in
      let same = ap length e in
      omega (arith, base_length k.laid c.slots)

  -- the control continues with other operands
  next : (rest : List Part) (vs junk : List ℤ) (n pc sp : ℕ) (stack : List ℤ) → n ≡ length vs → Goes code program.procedures k.limits pc n rest → sp ≡ length here + length vs → stack ≡ here ++ onto vs junk → length stack ≡ c.stack → sp ≤ c.stack → Keeps code program.procedures (moves c rest vs) (record { pc = pc; fp = m.fp; sp = sp; stack = stack; spent = 0; awaits = 0 })
  next rest vs junk n pc sp stack en goes es et el le =
      let count : n ≡ length vs + 0 = omega arith in
      let where_sp : sp ≡ taken (calls_of k.laid) + length c.slots + 2 + length vs = omega (arith, base_length k.laid c.slots) in
      let answer : sp + 0 ≤ c.stack = omega arith in
      record {
        laid = k.laid;
        limits = k.limits;
        junk = junk;
        goes = moved code program.procedures k.limits rest pc pc n (length vs + 0) refl count goes;
        body = k.body;
        waiting = k.waiting;
        callers = k.callers;
        fp = k.fp;
        sp = where_sp;
        stack = et;
        size = el;
        answer = answer;
        spent = refl;
        awaits = refl;
      }

  stays_same : (a : Asks) → Same code program (stays c words a) (asks_only a m words)
  stays_same a = record { control = k; words = refl; asks = refl }

  there : (n : ℕ) (vs : List ℤ) (f : Effect) → c.values ≡ vs → n ≤ length vs → with_operands n f m words ≡ f m words
  there n vs f e h =
      let sp = k.sp in
      let fp = k.fp in
      let same = ap length e in
      let enough : n ≤ m.sp - m.fp = omega arith in
      ap (λ b. if b then refuses error.IllegalRequest m words else f m words) (le-ltb (m.sp - m.fp) n enough)

  -- operands were taken, and the stack is unchanged
  takes : (rest : List Part) (vs junk data_now : List ℤ) (n pc sp : ℕ) → n ≡ length vs → Goes code program.procedures k.limits pc n rest → sp ≡ length here + length vs → m.stack ≡ here ++ onto vs junk → sp ≤ m.sp → Same code program (source.goes_on c rest vs data_now) (machine.goes_on pc sp m.stack m data_now)
  takes rest vs junk data_now n pc sp en goes es et le =
      let top_fits = k.answer in
      let fits : sp ≤ c.stack = omega arith in
      record { control = next rest vs junk n pc sp m.stack en goes es et k.size fits; words = refl; asks = refl }

  -- a value more
  gives : (rest : List Part) (vs junk : List ℤ) (v : ℤ) (n place : ℕ) → n ≡ length vs + 1 → Goes code program.procedures k.limits (m.pc + 1) n rest → place ≡ length here + length vs → m.stack ≡ here ++ onto vs junk → place < c.stack → Same code program (source.goes_on c rest (v ∷ vs) words) (pushes place v m words)
  gives rest vs [] v n place en goes es et le =
      let size = k.size in
      let long = ap length et in
      absurd (omega (arith, length-append here (onto vs []), onto_length vs []))
  gives rest vs (j ∷ js) v n place en goes es et le =
      let size = k.size in
      let within : place < length m.stack = omega arith in
      let new = slice_set m.stack place v in
      let count : n ≡ length (v ∷ vs) = omega arith in
      let at : place + 1 ≡ length here + length (v ∷ vs) = omega arith in
      let fits : place + 1 ≤ c.stack = omega arith in
      by_machine code program _ _ (machine.goes_on (m.pc + 1) (place + 1) new m words) (ap (λ b. if b then machine.goes_on (m.pc + 1) (place + 1) new m words else refuses error.StackOverflow m words) (lt-ltb place (length m.stack) within)) (record { control = next rest (v ∷ vs) js n (m.pc + 1) (place + 1) new count goes at (ap (λ s. slice_set s place v) et ∙ set_at_top here vs j js v place es) (length-set m.stack place v ∙ size) fits; words = refl; asks = refl })

  gives_or : (e : ErrorKind) (o : Option ℤ) (rest : List Part) (vs junk : List ℤ) (n place : ℕ) → n ≡ length vs + 1 → Goes code program.procedures k.limits (m.pc + 1) n rest → place ≡ length here + length vs → m.stack ≡ here ++ onto vs junk → place < c.stack → Same code program (value_or e o c rest vs words) (pushes_or e place o m words)
  gives_or e None rest vs junk n place en goes es et le = stays_same (Faults e)
  gives_or e (Some v) rest vs junk n place en goes es et le = gives rest vs junk v n place en goes es et le

  has_room : length c.values < k.limits.room → m.sp < c.stack
  has_room h =
      let sp = k.sp in
      let slots = k.body.slots in
      let frame = k.body.frame in
      omega arith

  -- the top operand, and the one below it
  top_is : (v : ℤ) (vs : List ℤ) → c.values ≡ v ∷ vs → top m ≡ v
  top_is v vs e =
      let at = at_top (v ∷ vs) e in
      let one : m.sp - 1 ≡ length here + length vs = omega arith in
      ap (λ s. word s (m.sp - 1)) (stacked (v ∷ vs) e) ∙ word_at_top here vs v k.junk (m.sp - 1) one

  below_is : (b a : ℤ) (vs : List ℤ) → c.values ≡ b ∷ a ∷ vs → below_top m ≡ a
  below_is b a vs e =
      let at = at_top (b ∷ a ∷ vs) e in
      let two : m.sp - 2 ≡ length here + length vs = omega arith in
      ap (λ s. word s (m.sp - 2)) (stacked (b ∷ a ∷ vs) e) ∙ word_at_top here vs a (b ∷ k.junk) (m.sp - 2) two

  -- the constructs, by their values
  does_value : (v : ℤ) (rest : List Part) (n : ℕ) (vs : List ℤ) → c.values ≡ vs → n ≡ length vs → Goes code program.procedures k.limits m.pc n (Do (Value v) ∷ rest) → Same code program (effect program (Value v) rest c vs words) (executes rs (instr.Push v) m words)
  does_value v rest n vs e en g =
      let same = ap length e in
      let new = g.1 in
      let count : n + 1 ≡ length vs + 1 = omega arith in
      gives rest vs k.junk v (n + 1) m.sp count g.2 (at_top vs e) (stacked vs e) (has_room (omega arith))

  slot_get : (x : ℕ) → x < length c.slots → slice_get m.stack (m.fp + x) ≡ slice_get c.slots x
  slot_get x h =
      let within : x < length (c.slots ++ saved k.laid) = omega (arith, length-append c.slots (saved k.laid)) in
      let fp = k.fp in
      let at : m.fp + x ≡ length (below k.laid) + x = omega (arith, below_length k.laid) in
      let zero_at : x ≡ 0 + x = omega arith in
      ap (λ s. slice_get s (m.fp + x)) k.stack
      ∙ ap (λ p. slice_get ((below k.laid ++ (c.slots ++ saved k.laid)) ++ onto c.values k.junk) p) at
      ∙ get_within (below k.laid) (c.slots ++ saved k.laid) (onto c.values k.junk) x within
      ∙ ap (λ p. slice_get (c.slots ++ saved k.laid) p) zero_at
      ∙ get_within [] c.slots (saved k.laid) x h

  does_read : (place : Place) (rest : List Part) (n : ℕ) (vs : List ℤ) → c.values ≡ vs → n ≡ length vs → Goes code program.procedures k.limits m.pc n (Do (ReadScalar place) ∷ rest) → Same code program (effect program (ReadScalar place) rest c vs words) (executes rs (load place) m words)
  does_read (Data x) rest n vs e en g =
      let same = ap length e in
      let new = g.2 in
      let count : n + 1 ≡ length vs + 1 = omega arith in
      gives_or error.MemoryViolation (slice_get words x) rest vs k.junk (n + 1) m.sp count g.3 (at_top vs e) (stacked vs e) (has_room (omega arith))
  does_read (Slot x) rest n vs e en g =
      let same = ap length e in
      let new = g.2 in
      let slots = k.body.slots in
      let slot : x < k.limits.slots = g.1 in
      let within : x < length c.slots = omega arith in
      let count : n + 1 ≡ length vs + 1 = omega arith in
      by_machine code program _ _ (pushes_or error.MemoryViolation m.sp (slice_get c.slots x) m words) (ap (λ o. pushes_or error.MemoryViolation m.sp o m words) (slot_get x within)) (gives_or error.MemoryViolation (slice_get c.slots x) rest vs k.junk (n + 1) m.sp count g.3 (at_top vs e) (stacked vs e) (has_room (omega arith)))

  -- a result in the place of the last operand
  replaces : (er : ErrorKind) (o : ℤ → Option ℤ) (rest : List Part) (n : ℕ) (a : ℤ) (vs : List ℤ) → c.values ≡ a ∷ vs → n ≡ length (a ∷ vs) → Goes code program.procedures k.limits (m.pc + 1) n rest → Same code program (value_or er (o a) c rest vs words) (with_operands 1 (pushes_or er (m.sp - 1) (o (top m))) m words)
  replaces er o rest n a vs e en g =
      let at = at_top (a ∷ vs) e in
      let fits = k.answer in
      let one : 1 ≤ length (a ∷ vs) = omega arith in
      let count : n ≡ length vs + 1 = omega arith in
      let place : m.sp - 1 ≡ length here + length vs = omega arith in
      let within : m.sp - 1 < c.stack = omega arith in
      by_machine code program _ _ (pushes_or er (m.sp - 1) (o a) m words) (there 1 (a ∷ vs) (pushes_or er (m.sp - 1) (o (top m))) e one ∙ ap (λ v. pushes_or er (m.sp - 1) (o v) m words) (top_is a vs e)) (gives_or er (o a) rest vs (a ∷ k.junk) n (m.sp - 1) count g place (stacked (a ∷ vs) e) within)

  does_element : (place : ℕ) (size : ℤ) (rest : List Part) (n : ℕ) (vs : List ℤ) → c.values ≡ vs → n ≡ length vs → Goes code program.procedures k.limits m.pc n (Do (ReadElement place size) ∷ rest) → Same code program (effect program (ReadElement place size) rest c vs words) (executes rs (instr.LoadElement place size) m words)
  does_element place size rest n [] e en g = let one = g.1 in absurd (omega arith)
  does_element place size rest n (i ∷ vs) e en g =
      by_source code program _ (value_or error.MemoryViolation (element_word words (element_at words place size i)) c rest vs words) _ (ap (λ o. value_or error.MemoryViolation o c rest vs words) (sym (same_element words (element_at words place size i)))) (replaces error.MemoryViolation (λ v. element_word words (element_at words place size v)) rest n i vs e en g.2)

  does_unary : (op : UnaryOperator) (rest : List Part) (n : ℕ) (vs : List ℤ) → c.values ≡ vs → n ≡ length vs → Goes code program.procedures k.limits m.pc n (Do (OperateOne op) ∷ rest) → Same code program (effect program (OperateOne op) rest c vs words) (executes rs (instr.Unary op) m words)
  does_unary op rest n [] e en g = let one = g.1 in absurd (omega arith)
  does_unary op rest n (a ∷ vs) e en g = replaces error.NumericError (λ v. apply_unary op v) rest n a vs e en g.2

  does_binary : (op : BinaryOperator) (rest : List Part) (n : ℕ) (vs : List ℤ) → c.values ≡ vs → n ≡ length vs → Goes code program.procedures k.limits m.pc n (Do (OperateTwo op) ∷ rest) → Same code program (effect program (OperateTwo op) rest c vs words) (executes rs (instr.Binary op) m words)
  does_binary op rest n [] e en g = let two = g.1 in absurd (omega arith)
  does_binary op rest n (b ∷ []) e en g = let two = g.1 in absurd (omega arith)
  does_binary op rest n (b ∷ a ∷ vs) e en g =
      let at = at_top (b ∷ a ∷ vs) e in
      let fits = k.answer in
      let two : 2 ≤ length (b ∷ a ∷ vs) = omega arith in
      let count : n - 1 ≡ length vs + 1 = omega arith in
      let place : m.sp - 2 ≡ length here + length vs = omega arith in
      let within : m.sp - 2 < c.stack = omega arith in
      let f : Option ℤ → Ticked MachineControl = λ o. pushes_or error.NumericError (m.sp - 2) o m words in
      by_machine code program _ _ (f (apply_binary op a b)) (there 2 (b ∷ a ∷ vs) (pushes_or error.NumericError (m.sp - 2) (apply_binary op (below_top m) (top m))) e two ∙ ap (λ v. f (apply_binary op v (top m))) (below_is b a vs e) ∙ ap (λ v. f (apply_binary op a v)) (top_is b (a ∷ vs) e)) (gives_or error.NumericError (apply_binary op a b) rest vs (a ∷ b ∷ k.junk) (n - 1) (m.sp - 2) count g.2 place (stacked (b ∷ a ∷ vs) e) within)

  -- the data is written, if the place is within it
  writes_same : (o : Option (List ℤ)) (rest : List Part) (vs junk : List ℤ) (n popped : ℕ) → n ≡ length vs → Goes code program.procedures k.limits (m.pc + 1) n rest → m.sp - popped ≡ length here + length vs → m.stack ≡ here ++ onto vs junk → Same code program (writes o c rest vs words) (changes_data popped o m words)
  writes_same None rest vs junk n popped en g es et = stays_same (Faults error.MemoryViolation)
  writes_same (Some data_now) rest vs junk n popped en g es et = let less : m.sp - popped ≤ m.sp = omega arith in takes rest vs junk data_now n (m.pc + 1) (m.sp - popped) en g es et less

  does_write_data : (x : ℕ) (rest : List Part) (n : ℕ) (vs : List ℤ) → c.values ≡ vs → n ≡ length vs → 1 ≤ n → Goes code program.procedures k.limits (m.pc + 1) (n - 1) rest → Same code program (effect program (WriteScalar (Data x)) rest c vs words) (executes rs (instr.StoreData x) m words)
  does_write_data x rest n [] e en one g = absurd (omega arith)
  does_write_data x rest n (v ∷ vs) e en one g =
      let at = at_top (v ∷ vs) e in
      let there_is : 1 ≤ length (v ∷ vs) = omega arith in
      let count : n - 1 ≡ length vs = omega arith in
      let place : m.sp - 1 ≡ length here + length vs = omega arith in
      by_machine code program _ _ (changes_data 1 (stored words x v) m words) (there 1 (v ∷ vs) (changes_data 1 (stored words x (top m))) e there_is ∙ ap (λ w. changes_data 1 (stored words x w) m words) (top_is v vs e)) (writes_same (stored words x v) rest vs (v ∷ k.junk) (n - 1) 1 count g place (stacked (v ∷ vs) e))

  does_write_element : (place : ℕ) (size : ℤ) (rest : List Part) (n : ℕ) (vs : List ℤ) → c.values ≡ vs → n ≡ length vs → Goes code program.procedures k.limits m.pc n (Do (WriteElement place size) ∷ rest) → Same code program (effect program (WriteElement place size) rest c vs words) (executes rs (instr.StoreElement place size) m words)
  does_write_element x size rest n [] e en g = let two = g.1 in absurd (omega arith)
  does_write_element x size rest n (v ∷ []) e en g = let two = g.1 in absurd (omega arith)
  does_write_element x size rest n (v ∷ i ∷ vs) e en g =
      let at = at_top (v ∷ i ∷ vs) e in
      let two : 2 ≤ length (v ∷ i ∷ vs) = omega arith in
      let count : n - 2 ≡ length vs = omega arith in
      let place : m.sp - 2 ≡ length here + length vs = omega arith in
      let f : ℤ → ℤ → Ticked MachineControl = λ j w. changes_data 2 (stored_element words (element_at words x size j) w) m words in
      by_machine code program _ _ (f i v) (there 2 (v ∷ i ∷ vs) (changes_data 2 (stored_element words (element_at words x size (below_top m)) (top m))) e two ∙ ap (λ j. f j (top m)) (below_is v i vs e) ∙ ap (λ w. f i w) (top_is v (i ∷ vs) e))
      (by_source code program _ (writes (stored_element words (element_at words x size i) v) c rest vs words) _ (ap (λ o. writes o c rest vs words) (sym (same_stored words (element_at words x size i) v))) (writes_same (stored_element words (element_at words x size i) v) rest vs (i ∷ v ∷ k.junk) (n - 2) 2 count g.2 place (stacked (v ∷ i ∷ vs) e)))

  -- a slot is written
  slot_set : (x : ℕ) (v : ℤ) (vs junk : List ℤ) → x < length c.slots → m.stack ≡ here ++ onto vs junk → slice_set m.stack (m.fp + x) v ≡ base k.laid (slice_set c.slots x v) ++ onto vs junk
  slot_set x v vs junk h et =
      let within : x < length (c.slots ++ saved k.laid) = omega (arith, length-append c.slots (saved k.laid)) in
      let fp = k.fp in
      let at : m.fp + x ≡ length (below k.laid) + x = omega (arith, below_length k.laid) in
      ap (λ s. slice_set s (m.fp + x) v) et
      ∙ ap (λ p. slice_set (here ++ onto vs junk) p v) at
      ∙ set_within (below k.laid) (c.slots ++ saved k.laid) (onto vs junk) x v within
      ∙ ap (λ s. (below k.laid ++ s) ++ onto vs junk) (set-append_left c.slots (saved k.laid) x v h)

  does_write_slot : (x : ℕ) (rest : List Part) (n : ℕ) (vs : List ℤ) → c.values ≡ vs → n ≡ length vs → 1 ≤ n → x < k.limits.slots → Goes code program.procedures k.limits (m.pc + 1) (n - 1) rest → Same code program (effect program (WriteScalar (Slot x)) rest c vs words) (executes rs (instr.StoreLocal x) m words)
  does_write_slot x rest n [] e en one slot g = absurd (omega arith)
  does_write_slot x rest n (v ∷ vs) e en one slot g =
      let at = at_top (v ∷ vs) e in
      let slots = k.body.slots in
      let sp = k.sp in
      let fp = k.fp in
      let size = k.size in
      let answer = k.answer in
      let there_is : 1 ≤ length (v ∷ vs) = omega arith in
      let within : x < length c.slots = omega arith in
      let inside : m.fp + x < length m.stack = omega (arith, base_length k.laid c.slots) in
      let stack_now = slice_set m.stack (m.fp + x) v in
      let slots_now = slice_set c.slots x v in
      let count : n - 1 ≡ length vs + 0 = omega arith in
      let long = length-set c.slots x v in
      let place : m.sp - 1 ≡ taken (calls_of k.laid) + length slots_now + 2 + length vs = omega (arith, base_length k.laid c.slots) in
      let fits : m.sp - 1 + 0 ≤ c.stack = omega arith in
      by_machine code program _ _ (changes_stack 1 (Some stack_now) m words)
      (there 1 (v ∷ vs) (changes_stack 1 (stored m.stack (m.fp + x) (top m))) e there_is ∙ ap (λ w. changes_stack 1 (stored m.stack (m.fp + x) w) m words) (top_is v vs e) ∙ ap (λ b. changes_stack 1 (if b then Some stack_now else None) m words) (lt-ltb (m.fp + x) (length m.stack) inside))
      (by_source code program _ (writes_slot (Some slots_now) c rest vs words) _ (ap (λ b. writes_slot (if b then Some slots_now else None) c rest vs words) (lt-ltb x (length c.slots) within))
      (record {
        control = record {
          laid = k.laid;
          limits = k.limits;
          junk = v ∷ k.junk;
          goes = moved code program.procedures k.limits rest (m.pc + 1) (m.pc + 1) (n - 1) (length vs + 0) refl count g;
          body = record { slots = long ∙ slots; frame = k.body.frame; caller = k.body.caller };
          waiting = k.waiting;
          callers = k.callers;
          fp = fp;
          sp = place;
          stack = slot_set x v vs (v ∷ k.junk) within (stacked (v ∷ vs) e);
          size = length-set m.stack (m.fp + x) v ∙ size;
          answer = fits;
          spent = refl;
          awaits = refl;
        };
        words = refl;
        asks = refl;
      }))

  does_write : (place : Place) (rest : List Part) (n : ℕ) (vs : List ℤ) → c.values ≡ vs → n ≡ length vs → Goes code program.procedures k.limits m.pc n (Do (WriteScalar place) ∷ rest) → Same code program (effect program (WriteScalar place) rest c vs words) (executes rs (store place) m words)
  does_write (Data x) rest n vs e en g = does_write_data x rest n vs e en g.2 g.3
  does_write (Slot x) rest n vs e en g = does_write_slot x rest n vs e en g.2 g.1 g.3

  -- a branch
  jumps_on : (b : Bool) (x : ℕ) (r q : List Part) (v : ℤ) (vs : List ℤ) (n : ℕ) → c.values ≡ v ∷ vs → n ≡ length vs → Goes code program.procedures k.limits x n r → Goes code program.procedures k.limits (m.pc + 1) n q → Same code program (source.goes_on c (if b then r else q) vs words) (machine.goes_on (if b then x else m.pc + 1) (m.sp - 1) m.stack m words)
  jumps_on true x r q v vs n e en gr gq =
      let at = at_top (v ∷ vs) e in
      let place : m.sp - 1 ≡ length here + length vs = omega arith in
      let less : m.sp - 1 ≤ m.sp = omega arith in
      takes r vs (v ∷ k.junk) words n x (m.sp - 1) en gr place (stacked (v ∷ vs) e) less
  jumps_on false x r q v vs n e en gr gq =
      let at = at_top (v ∷ vs) e in
      let place : m.sp - 1 ≡ length here + length vs = omega arith in
      let less : m.sp - 1 ≤ m.sp = omega arith in
      takes q vs (v ∷ k.junk) words n (m.pc + 1) (m.sp - 1) en gq place (stacked (v ∷ vs) e) less

  jumps : (x : ℕ) (r q : List Part) (v : ℤ) (vs : List ℤ) (n : ℕ) → c.values ≡ v ∷ vs → n ≡ length vs → Goes code program.procedures k.limits x n r → Goes code program.procedures k.limits (m.pc + 1) n q → Same code program (source.goes_on c (if is_zero v then r else q) vs words) (executes rs (instr.JumpIfZero x) m words)
  jumps x r q v vs n e en gr gq =
      let there_is : 1 ≤ length (v ∷ vs) = omega arith in
      by_machine code program _ _ (machine.goes_on (if is_zero v then x else m.pc + 1) (m.sp - 1) m.stack m words)
      (there 1 (v ∷ vs) (machine.goes_on (if is_zero (top m) then x else m.pc + 1) (m.sp - 1) m.stack) e there_is ∙ ap (λ w. machine.goes_on (if is_zero w then x else m.pc + 1) (m.sp - 1) m.stack m words) (top_is v vs e))
      (jumps_on (is_zero v) x r q v vs n e en gr gq)

  does_choose : (block : Block) (rest : List Part) (n : ℕ) (vs : List ℤ) → c.values ≡ vs → n ≡ length vs → Goes code program.procedures k.limits m.pc n (Do (Choose block) ∷ rest) → Same code program (effect program (Choose block) rest c vs words) (executes rs (instr.JumpIfZero (m.pc + 1 + size_of_block block)) m words)
  does_choose block rest n [] e en g = let one = g.1 in absurd (omega arith)
  does_choose block rest n (v ∷ vs) e en g =
      let count : n - 1 ≡ length vs = omega arith in
      jumps (m.pc + 1 + size_of_block block) rest (block_then block rest) v vs (n - 1) e count g.3 (block_goes code program.procedures k.limits block rest (m.pc + 1) (n - 1) g.2 g.3)

  does_choose_else : (block other : Block) (rest : List Part) (n : ℕ) (vs : List ℤ) → c.values ≡ vs → n ≡ length vs → Goes code program.procedures k.limits m.pc n (Do (ChooseElse block other) ∷ rest) → Same code program (effect program (ChooseElse block other) rest c vs words) (executes rs (instr.JumpIfZero (m.pc + 1 + size_of_block block + 1)) m words)
  does_choose_else block other rest n [] e en g = let one = g.1 in absurd (omega arith)
  does_choose_else block other rest n (v ∷ vs) e en g =
      let count : n - 1 ≡ length vs = omega arith in
      let behind = m.pc + 1 + size_of_block block + 1 in
      jumps behind (block_then other rest) (block_then block (Do Leave ∷ rest)) v vs (n - 1) e count (block_goes code program.procedures k.limits other rest behind (n - 1) g.4 g.5) (block_goes code program.procedures k.limits block (Do Leave ∷ rest) (m.pc + 1) (n - 1) g.2 (behind + size_of_block other, g.3, g.5))

  does_repeat : (test : Expr) (block : Block) (rest : List Part) (n : ℕ) (vs : List ℤ) → c.values ≡ vs → n ≡ length vs → Goes code program.procedures k.limits m.pc n (Do (Repeat test block) ∷ rest) → Same code program (effect program (Repeat test block) rest c vs words) (executes rs (instr.JumpIfZero (m.pc + 1 + size_of_block block + 1)) m words)
  does_repeat test block rest n [] e en g = let one = g.1 in absurd (omega arith)
  does_repeat test block rest n (v ∷ vs) e en g =
      let count : n - 1 ≡ length vs = omega arith in
      let last = m.pc + 1 + size_of_block block in
      jumps (last + 1) rest (block_then block (Do (GoBack test block) ∷ rest)) v vs (n - 1) e count g.4 (block_goes code program.procedures k.limits block (Do (GoBack test block) ∷ rest) (m.pc + 1) (n - 1) g.2 (g.3, g.4))

  -- constructs that leave the values as they are
  moves_on : (rest : List Part) (n pc : ℕ) (vs : List ℤ) → c.values ≡ vs → n ≡ length vs → Goes code program.procedures k.limits pc n rest → Same code program (source.goes_on c rest vs words) (machine.goes_on pc m.sp m.stack m words)
  moves_on rest n pc vs e en g = let less : m.sp ≤ m.sp = omega arith in takes rest vs k.junk words n pc m.sp en g (at_top vs e) (stacked vs e) less

  does_go_back : (test : Expr) (block : Block) (rest : List Part) (n : ℕ) (vs : List ℤ) → c.values ≡ vs → n ≡ length vs → (g : Goes code program.procedures k.limits m.pc n (Do (GoBack test block) ∷ rest)) → Same code program (effect program (GoBack test block) rest c vs words) (executes rs (instr.Jump g.0.0) m words)
  does_go_back test block rest n vs e en g =
      moves_on (Execute (While test block) ∷ rest) n g.0.0 vs e en (g.0.2, moved code program.procedures k.limits rest (m.pc + 1) (g.0.0 + size_of_stmt (While test block)) n n (sym g.0.3) refl g.1)

  does_spend : (ticks : ℕ) (rest : List Part) (n : ℕ) (vs : List ℤ) → c.values ≡ vs → n ≡ length vs → Goes code program.procedures k.limits m.pc n (Do (Spend ticks) ∷ rest) → Same code program (effect program (Spend ticks) rest c vs words) (executes rs (instr.Work (pos ticks)) m words)
  does_spend ticks rest n vs e en g =
      by_machine code program _ _ (machine.goes_on (m.pc + 1) m.sp m.stack m words) (ap (λ b. if b then machine.goes_on (m.pc + 1) m.sp m.stack m words else refuses error.IllegalRequest m words) (work_allowed ticks g.1)) (moves_on rest n (m.pc + 1) vs e en g.2)

  -- a service
  abbrev asked : Service → List ℤ → Ticked MachineControl
  asked s ws =
      if has_array_within (length words) (array_of (call_of s ws)) then
      (if nat_lt (length m.stack) (m.sp - argument_words s + answer_words s) then refuses error.StackOverflow m words
      else record { control = record { pc = m.pc + 1; fp = m.fp; sp = m.sp - argument_words s; stack = m.stack; spent = 0; awaits = answer_words s }; words = words; asks = Calls (call_of s ws) })
      else refuses error.MemoryViolation m words

  asks_same : (s : Service) (ws : List ℤ) (rest : List Part) (vs junk : List ℤ) (n : ℕ) (b : Bool) → n ≡ length vs + answer_words s → Goes code program.procedures k.limits (m.pc + 1) n rest → m.sp - argument_words s ≡ length here + length vs → m.stack ≡ here ++ onto vs junk → m.sp - argument_words s + answer_words s ≤ c.stack → Same code program (if b then record { control = record { parts = rest; values = vs; slots = c.slots; callers = c.callers; spent = 0; awaits = answer_words s; stack = c.stack }; words = words; asks = Calls (call_of s ws) } else stays c words (Faults error.MemoryViolation)) (if b then record { control = record { pc = m.pc + 1; fp = m.fp; sp = m.sp - argument_words s; stack = m.stack; spent = 0; awaits = answer_words s }; words = words; asks = Calls (call_of s ws) } else refuses error.MemoryViolation m words)
  asks_same s ws rest vs junk n false en g es et le = stays_same (Faults error.MemoryViolation)
  asks_same s ws rest vs junk n true en g es et le =
      let place : m.sp - argument_words s ≡ taken (calls_of k.laid) + length c.slots + 2 + length vs = omega (arith, base_length k.laid c.slots) in
      record {
        control = record {
          laid = k.laid;
          limits = k.limits;
          junk = junk;
          goes = moved code program.procedures k.limits rest (m.pc + 1) (m.pc + 1) n (length vs + answer_words s) refl en g;
          body = k.body;
          waiting = k.waiting;
          callers = k.callers;
          fp = k.fp;
          sp = place;
          stack = et;
          size = k.size;
          answer = le;
          spent = refl;
          awaits = refl;
        };
        words = refl;
        asks = refl;
      }

  does_ask : (s : Service) (rest : List Part) (n : ℕ) (vs : List ℤ) → c.values ≡ vs → n ≡ length vs → Goes code program.procedures k.limits m.pc n (Do (Ask s) ∷ rest) → Same code program (effect program (Ask s) rest c vs words) (executes rs (instr.Service (number_of s)) m words)
  does_ask s rest n vs e en g =
      let a = argument_words s in
      let ws = reverse (take a vs) in
      let handed : a ≤ length vs = omega (arith, g.1) in
      let room = g.2 in
      let at = at_top vs e in
      let slots = k.body.slots in
      let frame = k.body.frame in
      let size = k.size in
      let sp = k.sp in
      let same = ap length e in
      let left : length (drop a vs) ≡ length vs - a = length-drop a vs in
      let count : n - a + answer_words s ≡ length (drop a vs) + answer_words s = omega arith in
      let place : m.sp - a ≡ length here + length (drop a vs) = omega arith in
      let fits : m.sp - a + answer_words s ≤ c.stack = omega arith in
      let fits_stack : m.sp - a + answer_words s ≤ length m.stack = omega arith in
      let split : m.stack ≡ here ++ onto (drop a vs) (onto (take a vs) k.junk) = stacked vs e ∙ ap (λ l. here ++ l) (onto_parts a vs k.junk) in
      let args : arguments s m ≡ ws = ap (λ l. popped a l m.sp []) (stacked vs e) ∙ popped_values a here vs k.junk m.sp [] handed at ∙ onto_reverse (take a vs) in
      let b = has_array_within (length words) (array_of (call_of s ws)) in
      let new : Ticked MachineControl = record { control = record { pc = m.pc + 1; fp = m.fp; sp = m.sp - a; stack = m.stack; spent = 0; awaits = answer_words s }; words = words; asks = Calls (call_of s ws) } in
      by_machine code program _ _ (if b then new else refuses error.MemoryViolation m words)
      (ap (λ o. calls_numbered o m words) (service_of_number s) ∙ there a vs (machine.calls s) e handed ∙ ap (λ l. asked s l) args ∙ ap (λ t. if b then (if t then refuses error.StackOverflow m words else new) else refuses error.MemoryViolation m words) (le-ltb (length m.stack) (m.sp - a + answer_words s) fits_stack))
      (asks_same s ws rest (drop a vs) (onto (take a vs) k.junk) (n - a + answer_words s) b count g.3 place split fits)

  -- a call: the test of both is of one number
  abbrev entered : Procedure → List Part → List ℤ → Ticked SourceControl
  entered p rest vs = record { control = record { parts = parts_of_procedure p; values = []; slots = reverse (take p.parameters vs) ++ replicate p.locals (pos 0); callers = record { parts = rest; values = drop p.parameters vs; slots = c.slots } ∷ c.callers; spent = 0; awaits = 0; stack = c.stack }; words = words; asks = Nothing }

  abbrev entered_machine : RoutineRow → Ticked MachineControl
  entered_machine r =
      let frame = m.sp - r.parameters in
      record { control = record { pc = r.entry; fp = frame; sp = frame + r.slots + 2; stack = put_words m.stack (frame + r.parameters) (replicate (r.slots - r.parameters) (pos 0) ++ pos (m.pc + 1) ∷ pos m.fp ∷ []); spent = 0; awaits = 0 }; words = words; asks = Nothing }

  abbrev place_of_call : Procedure → List ℤ → ℕ
  place_of_call p vs = taken (calls_of k.laid) + length c.slots + 2 + length (drop p.parameters vs)

  enters_same : (p : Procedure) (r : RoutineRow) (rest : List Part) (vs : List ℤ) → Stands code program.procedures p r → c.values ≡ vs → p.parameters ≤ length vs → length (drop p.parameters vs) < k.limits.room → m.pc + 1 ≤ MOST_INSTRUCTIONS → Goes code program.procedures k.limits (m.pc + 1) (length (drop p.parameters vs) + 1) rest → place_of_call p vs + frame_of_procedure p ≤ c.stack → Same code program (entered p rest vs) (entered_machine r)
  enters_same p r rest vs stands e handed room back goes fits =
      let a = p.parameters in
      let under_a = take a vs in
      let left = drop a vs in
      let l : Laid = record { call = record { parts = rest; values = left; slots = c.slots }; back = m.pc + 1; limits = k.limits } in
      let laid_now = l ∷ k.laid in
      let zeros = replicate p.locals (pos 0) in
      let slots_now = reverse under_a ++ zeros in
      let taken_length : length under_a ≡ a = length-take-le a vs handed in
      let left_length : length left ≡ length vs - a = length-drop a vs in
      let onto_taken : length (onto under_a []) ≡ length under_a + 0 = onto_length under_a [] in
      let slots_length : length slots_now ≡ slots_of p = omega (arith, length-append (onto under_a []) zeros, length-replicate p.locals (pos 0)) in
      let sp = k.sp in
      let fp = k.fp in
      let size = k.size in
      let values_length = ap length e in
      let same_parameters = stands.parameters in
      let same_slots = stands.slots in
      let under = below laid_now in
      let under_length : length under ≡ place_of_call p vs = below_length laid_now in
      let frame_at : m.sp - r.parameters ≡ place_of_call p vs = omega arith in
      let before = under ++ onto under_a [] in
      let before_at : m.sp - r.parameters + r.parameters ≡ length before = omega (arith, length-append under (onto under_a [])) in
      let stack_was : m.stack ≡ before ++ k.junk =
      stacked vs e ∙ ap (λ q. here ++ q) (onto_parts a vs k.junk ∙ onto_split left (onto under_a k.junk) ∙ ap (λ q. onto left [] ++ q) (onto_split under_a k.junk))
      ∙ sym (append_assoc here (onto left []) (onto under_a [] ++ k.junk)) ∙ sym (append_assoc under (onto under_a []) k.junk) in
      let locals_number : r.slots - r.parameters ≡ p.locals = omega arith in
      let new = zeros ++ saved laid_now in
      let new_is : replicate (r.slots - r.parameters) (pos 0) ++ pos (m.pc + 1) ∷ pos m.fp ∷ [] ≡ new =
      ap (λ q. replicate q (pos 0) ++ pos (m.pc + 1) ∷ pos m.fp ∷ []) locals_number ∙ ap (λ q. zeros ++ pos (m.pc + 1) ∷ pos q ∷ []) fp in
      let new_length : length new ≡ p.locals + 2 = omega (arith, length-append zeros (saved laid_now), length-replicate p.locals (pos 0)) in
      let whole_length : length m.stack ≡ length before + length k.junk = ap length stack_was ∙ length-append before k.junk in
      let enough : length new ≤ length k.junk = omega (arith, length-append under (onto under_a [])) in
      let written = put_over before new k.junk (m.sp - r.parameters + r.parameters) before_at enough in
      let js = written.0 in
      let flat = flat_frame under (onto under_a []) zeros (saved laid_now) js in
      let stack_now = ap (λ q. put_words m.stack (m.sp - r.parameters + r.parameters) q) new_is ∙ ap (λ q. put_words q (m.sp - r.parameters + r.parameters) new) stack_was ∙ written.1 ∙ flat in
      let body_frame : taken (calls_of laid_now) + slots_of p + 2 + max 1 (operands_of_block p.block) ≤ c.stack = omega arith in
      let place : m.sp - r.parameters + r.slots + 2 ≡ taken (calls_of laid_now) + length slots_now + 2 + 0 = omega arith in
      let answer : m.sp - r.parameters + r.slots + 2 + 0 ≤ c.stack = omega arith in
      let all_callers : record { parts = rest; values = left; slots = c.slots } ∷ c.callers ≡ calls_of laid_now = ap (λ q. l.call ∷ q) k.callers in
      record {
        control = record {
          laid = laid_now;
          limits = limits_of p;
          junk = js;
          goes = stands.goes;
          body = record { slots = slots_length; frame = body_frame; caller = tt };
          waiting = (goes, back, room, k.body, k.waiting);
          callers = all_callers;
          fp = frame_at;
          sp = place;
          stack = stack_now;
          size = put_length m.stack (replicate (r.slots - r.parameters) (pos 0) ++ pos (m.pc + 1) ∷ pos m.fp ∷ []) (m.sp - r.parameters + r.parameters) ∙ size;
          answer = answer;
          spent = refl;
          awaits = refl;
        };
        words = refl;
        asks = refl;
      }

  tests_same : (p : Procedure) (r : RoutineRow) (rest : List Part) (vs : List ℤ) (t u : ℕ) (b : Bool) → nat_le t c.stack ≡ b → t ≡ u → (t ≤ c.stack → Same code program (entered p rest vs) (entered_machine r)) → Same code program (if b then entered p rest vs else stays c words (Faults error.StackOverflow)) (if nat_lt (length m.stack) u then refuses error.StackOverflow m words else entered_machine r)
  tests_same p r rest vs t u true test same go =
      let le = leb-true t c.stack test in
      let size = k.size in
      let fits : u ≤ length m.stack = omega arith in
      by_machine code program _ _ (entered_machine r) (ap (λ b. if b then refuses error.StackOverflow m words else entered_machine r) (le-ltb (length m.stack) u fits)) (go le)
  tests_same p r rest vs t u false test same go =
      let lt = leb-false t c.stack test in
      let size = k.size in
      let over : length m.stack < u = omega arith in
      by_machine code program _ _ (refuses error.StackOverflow m words) (ap (λ b. if b then refuses error.StackOverflow m words else entered_machine r) (lt-ltb (length m.stack) u over)) (stays_same (Faults error.StackOverflow))

  opens_same : (p : Procedure) (r : RoutineRow) (rest : List Part) (n : ℕ) (vs : List ℤ) → Stands code program.procedures p r → c.values ≡ vs → n ≡ length vs → p.parameters ≤ n → n - p.parameters < k.limits.room → m.pc + 1 ≤ MOST_INSTRUCTIONS → Goes code program.procedures k.limits (m.pc + 1) (n - p.parameters + 1) rest → Same code program (opens (Some p) c rest vs words) (enters (Some r) m words)
  opens_same p r rest n vs stands e en handed room back goes =
      let caller : OpenCall = record { parts = rest; values = drop p.parameters vs; slots = c.slots } in
      let sp = k.sp in
      let values_length = ap length e in
      let same_parameters = stands.parameters in
      let same_frame = stands.frame in
      let left_length : length (drop p.parameters vs) ≡ length vs - p.parameters = length-drop p.parameters vs in
      let enough : r.parameters ≤ length vs = omega arith in
      let handed_on : p.parameters ≤ length vs = omega arith in
      let room_left : length (drop p.parameters vs) < k.limits.room = omega arith in
      let calls = ap taken k.callers in
      let t = taken (caller ∷ c.callers) + frame_of_procedure p in
      let u = m.sp - r.parameters + r.frame in
      let same : t ≡ u = omega arith in
      let t_is : t ≡ place_of_call p vs + frame_of_procedure p = omega arith in
      let count : n - p.parameters + 1 ≡ length (drop p.parameters vs) + 1 = omega arith in
      let goes_on = moved code program.procedures k.limits rest (m.pc + 1) (m.pc + 1) (n - p.parameters + 1) (length (drop p.parameters vs) + 1) refl count goes in
      by_machine code program _ _ (enters_at (m.sp - r.parameters) r m words) (there r.parameters vs (enters_at (m.sp - r.parameters) r) e enough)
      (tests_same p r rest vs t u (nat_le t c.stack) refl same (λ le. enters_same p r rest vs stands e handed_on room_left back goes_on (subst (λ q. q ≤ c.stack) t_is le)))

  does_open : Placed code program rs → (f : ℕ) (rest : List Part) (n : ℕ) (vs : List ℤ) → c.values ≡ vs → n ≡ length vs → Goes code program.procedures k.limits m.pc n (Do (Open f) ∷ rest) → Same code program (effect program (Open f) rest c vs words) (executes rs (instr.Call f) m words)
  does_open placed f rest n vs e en g =
      let p = g.1.0 in
      let found = placed.routine f p g.1.1 in
      let short = placed.short in
      let inside : m.pc < length code = slice_get_within code m.pc (Some (instr.Call f)) g.0 in
      let back : m.pc + 1 ≤ MOST_INSTRUCTIONS = omega arith in
      by_machine code program _ _ (enters (Some found.0) m words) (ap (λ o. enters o m words) found.1)
      (by_source code program _ (opens (Some p) c rest vs words) _ (ap (λ o. opens o c rest vs words) g.1.1)
      (opens_same p found.0 rest n vs found.2 e en g.1.2 g.1.3 back g.1.4))

  -- a return
  returns : (ls : List Laid) (v : ℤ) (vs : List ℤ) → c.values ≡ v ∷ vs → Fetches code m.pc (instr.Return k.limits.slots) → HasCaller k.limits.returns ls → k.limits.returns ≡ true → Waiting code program.procedures c.stack ls → c.callers ≡ calls_of ls → m.fp ≡ taken (calls_of ls) → m.stack ≡ (below ls ++ (c.slots ++ saved ls)) ++ onto c.values k.junk → Same code program (source.gives_back c.callers v c words) (executes rs (instr.Return k.limits.slots) m words)
  returns [] v vs e fetch has r w callers fp st = absurd (subst (λ b. HasCaller b []) r has)
  returns (l ∷ ls) v vs e fetch has r w callers fp st =
      let x = k.limits.slots in
      let back_le : l.back ≤ MOST_INSTRUCTIONS = w.1 in
      let values_room : length l.call.values < l.limits.room = w.2 in
      let body : InProgress c.stack l.limits ls l.call.slots = w.3 in
      let body_slots = body.slots in
      let body_frame = body.frame in
      let size = k.size in
      let slots : length c.slots ≡ x = k.body.slots in
      let row = c.slots ++ saved (l ∷ ls) in
      let over = onto c.values k.junk in
      let under = below (l ∷ ls) in
      let under_length = below_length (l ∷ ls) in
      let row_length : length row ≡ x + 2 = omega (arith, length-append c.slots (saved (l ∷ ls))) in
      let within : x < length row = omega arith in
      let within_next : x + 1 < length row = omega arith in
      let old_fp = taken (calls_of ls) in
      let at : m.fp + x ≡ length under + x = omega arith in
      let at_next : m.fp + x + 1 ≡ length under + (x + 1) = omega arith in
      let first : slice_get m.stack (m.fp + x) ≡ Some (pos l.back) = ap (λ q. slice_get q (m.fp + x)) st ∙ ap (λ p. slice_get ((under ++ row) ++ over) p) at ∙ get_within under row over x within ∙ ap (λ p. slice_get row p) (sym slots) ∙ saved_first c.slots (pos l.back) (pos old_fp) in
      let second : slice_get m.stack (m.fp + x + 1) ≡ Some (pos old_fp) = ap (λ q. slice_get q (m.fp + x + 1)) st ∙ ap (λ p. slice_get ((under ++ row) ++ over) p) at_next ∙ get_within under row over (x + 1) within_next ∙ ap (λ p. slice_get row (p + 1)) (sym slots) ∙ saved_second c.slots (pos l.back) (pos old_fp) in
      let fp_le : old_fp ≤ m.fp = omega arith in
      let there_is : 1 ≤ length (v ∷ vs) = omega arith in
      let pc_is : saved_within code_limit (slice_get m.stack (m.fp + x)) ≡ Some l.back = ap (λ o. saved_within code_limit o) first ∙ ap (λ b. if b then Some l.back else None) (le-leb l.back MOST_INSTRUCTIONS back_le) in
      let fp_is : saved_within m.fp (slice_get m.stack (m.fp + x + 1)) ≡ Some old_fp = ap (λ o. saved_within m.fp o) second ∙ ap (λ b. if b then Some old_fp else None) (le-leb old_fp m.fp fp_le) in
      let whole : m.stack ≡ under ++ (row ++ over) = st ∙ append_assoc under row over in
      let one : length (v ∷ []) ≤ length (row ++ over) = omega (arith, length-append row over) in
      let written = put_over under (v ∷ []) (row ++ over) m.fp (fp ∙ sym under_length) one in
      let js = written.0 in
      let stack_now : slice_set m.stack m.fp v ≡ base ls l.call.slots ++ onto (v ∷ l.call.values) js =
      ap (λ q. slice_set q m.fp v) whole ∙ written.1 ∙ append_assoc (base ls l.call.slots) (onto l.call.values []) (v ∷ js) ∙ ap (λ t. base ls l.call.slots ++ t) (sym (onto_split l.call.values (v ∷ js))) in
      let count : length l.call.values + 1 ≡ length (v ∷ l.call.values) + 0 = omega arith in
      let place : m.fp + 1 ≡ old_fp + length l.call.slots + 2 + length (v ∷ l.call.values) = omega arith in
      let fits : m.fp + 1 + 0 ≤ c.stack = omega arith in
      by_machine code program _ _ (machine.gives_back (Some l.back) (Some old_fp) m words)
      (there 1 (v ∷ vs) (machine.gives_back (saved_within code_limit (slice_get m.stack (m.fp + x))) (saved_within m.fp (slice_get m.stack (m.fp + x + 1)))) e there_is ∙ ap (λ o. machine.gives_back o (saved_within m.fp (slice_get m.stack (m.fp + x + 1))) m words) pc_is ∙ ap (λ o. machine.gives_back (Some l.back) o m words) fp_is)
      (by_source code program _ (source.gives_back (l.call ∷ calls_of ls) v c words) _ (ap (λ cs. source.gives_back cs v c words) callers)
      (record {
        control = record {
          laid = ls;
          limits = l.limits;
          junk = js;
          goes = moved code program.procedures l.limits l.call.parts l.back l.back (length l.call.values + 1) (length (v ∷ l.call.values) + 0) refl count w.0;
          body = body;
          waiting = w.4;
          callers = refl;
          fp = refl;
          sp = place;
          stack = ap (λ t. slice_set m.stack m.fp t) (top_is v vs e) ∙ stack_now;
          size = length-set m.stack m.fp (top m) ∙ size;
          answer = fits;
          spent = refl;
          awaits = refl;
        };
        words = refl;
        asks = refl;
      }))

  does_return : (rest : List Part) (n : ℕ) (vs : List ℤ) → c.values ≡ vs → n ≡ length vs → Goes code program.procedures k.limits m.pc n (Do ReturnValue ∷ rest) → Same code program (effect program ReturnValue rest c vs words) (executes rs (instr.Return k.limits.slots) m words)
  does_return rest n [] e en g = let one = g.1 in absurd (omega arith)
  does_return rest n (v ∷ vs) e en g = returns k.laid v vs e g.0 k.body.caller g.2 k.waiting k.callers k.fp k.stack

  -- each tick but the last is counted on both sides
  counts_same : Same code program (source.counts c words) (machine.counts m words)
  counts_same = record {
    control = record {
      laid = k.laid;
      limits = k.limits;
      junk = k.junk;
      goes = k.goes;
      body = k.body;
      waiting = k.waiting;
      callers = k.callers;
      fp = k.fp;
      sp = k.sp;
      stack = k.stack;
      size = k.size;
      answer = k.answer;
      spent = ap (λ n. n + 1) k.spent;
      awaits = k.awaits;
    };
    words = refl;
    asks = refl;
  }

  counts_or : (b : Bool) (x : Ticked SourceControl) (y : Ticked MachineControl) → Same code program x y → Same code program (if b then source.counts c words else x) (if b then machine.counts m words else y)
  counts_or true x y h = counts_same
  counts_or false x y h = h

  by_instr : (s : Simple) (rest : List Part) (i : Instr) → Fetches code m.pc i → cost_of costs i ≡ cost_of_simple costs s → Same code program (effect program s rest c c.values words) (executes rs i m words) → Same code program (tick_at costs program (front s rest) c words) (fetched costs rs (slice_get code m.pc) m words)
  by_instr s rest i fetch cost h =
      by_machine code program _ _ (if nat_lt (c.spent + 1) (cost_of_simple costs s) then machine.counts m words else executes rs i m words)
      (ap (λ o. fetched costs rs o m words) fetch ∙ ap (λ t. if nat_lt (m.spent + 1) t then machine.counts m words else executes rs i m words) cost ∙ ap (λ t. if nat_lt (t + 1) (cost_of_simple costs s) then machine.counts m words else executes rs i m words) (sym k.spent))
      (counts_or (nat_lt (c.spent + 1) (cost_of_simple costs s)) _ _ h)

  load_cost : (place : Place) → cost_of costs (load place) ≡ costs.scalar.ticks
  load_cost (Data x) = refl
  load_cost (Slot x) = refl

  store_cost : (place : Place) → cost_of costs (store place) ≡ costs.scalar.ticks
  store_cost (Data x) = refl
  store_cost (Slot x) = refl

  does : Placed code program rs → (s : Simple) (rest : List Part) (n : ℕ) → n ≡ length c.values → Goes code program.procedures k.limits m.pc n (Do s ∷ rest) → Same code program (tick_at costs program (front s rest) c words) (fetched costs rs (slice_get code m.pc) m words)
  does placed (Value v) rest n en g = by_instr (Value v) rest (instr.Push v) g.0 refl (does_value v rest n c.values refl en g)
  does placed (ReadScalar place) rest n en g = by_instr (ReadScalar place) rest (load place) g.0 (load_cost place) (does_read place rest n c.values refl en g)
  does placed (ReadElement place size) rest n en g = by_instr (ReadElement place size) rest (instr.LoadElement place size) g.0 refl (does_element place size rest n c.values refl en g)
  does placed (OperateOne op) rest n en g = by_instr (OperateOne op) rest (instr.Unary op) g.0 refl (does_unary op rest n c.values refl en g)
  does placed (OperateTwo op) rest n en g = by_instr (OperateTwo op) rest (instr.Binary op) g.0 refl (does_binary op rest n c.values refl en g)
  does placed (Open f) rest n en g = by_instr (Open f) rest (instr.Call f) g.0 refl (does_open placed f rest n c.values refl en g)
  does placed (WriteScalar place) rest n en g = by_instr (WriteScalar place) rest (store place) g.0 (store_cost place) (does_write place rest n c.values refl en g)
  does placed (WriteElement place size) rest n en g = by_instr (WriteElement place size) rest (instr.StoreElement place size) g.0 refl (does_write_element place size rest n c.values refl en g)
  does placed (Choose block) rest n en g = by_instr (Choose block) rest (instr.JumpIfZero (m.pc + 1 + size_of_block block)) g.0 refl (does_choose block rest n c.values refl en g)
  does placed (ChooseElse block other) rest n en g = by_instr (ChooseElse block other) rest (instr.JumpIfZero (m.pc + 1 + size_of_block block + 1)) g.0 refl (does_choose_else block other rest n c.values refl en g)
  does placed (Repeat test block) rest n en g = by_instr (Repeat test block) rest (instr.JumpIfZero (m.pc + 1 + size_of_block block + 1)) g.0 refl (does_repeat test block rest n c.values refl en g)
  does placed Leave rest n en g = by_instr Leave rest (instr.Jump g.0) g.1 refl (moves_on rest n g.0 c.values refl en g.2)
  does placed (GoBack test block) rest n en g = by_instr (GoBack test block) rest (instr.Jump g.0.0) g.0.1 refl (does_go_back test block rest n c.values refl en g)
  does placed (Spend ticks) rest n en g = by_instr (Spend ticks) rest (instr.Work (pos ticks)) g.0 (ap (λ b. if b then ticks else 1) (work_allowed ticks g.1)) (does_spend ticks rest n c.values refl en g)
  does placed ReturnValue rest n en g = by_instr ReturnValue rest (instr.Return k.limits.slots) g.0 refl (does_return rest n c.values refl en g)
  does placed (Ask s) rest n en g = by_instr (Ask s) rest (instr.Service (number_of s)) g.0 (ap (λ o. Rattle.machine_meaning.specs.Instructions.cost_of_service_call costs o) (service_of_number s)) (does_ask s rest n c.values refl en g)
  does placed EndBody rest n en g = by_instr EndBody rest instr.End g refl (stays_same Ends)

  ticks : Placed code program rs → Same code program (tick_at costs program (front_of c.parts) c words) (fetched costs rs (slice_get code m.pc) m words)
  ticks placed =
      let count : length c.values + c.awaits ≡ length c.values = omega arith in
      does placed (front_of c.parts).construct (front_of c.parts).rest (length c.values) refl (moved code program.procedures k.limits (unfolded (front_of c.parts)) m.pc m.pc (length c.values + c.awaits) (length c.values) refl count (front_goes code program.procedures k.limits c.parts m.pc (length c.values + c.awaits) k.goes))

tick_by : (costs : Costs) (code : Code) (program : Program) (rs : List RoutineRow) → Placed code program rs → (c : SourceControl) (m : MachineControl) (words : List ℤ) → Keeps code program.procedures c m → (a : ℕ) → c.awaits ≡ a → Same code program (tick_awaiting costs program a c words) (machine_tick costs code rs m words)
tick_by costs code program rs placed c m words k zero e =
    let none : m.awaits ≡ 0 = sym k.awaits ∙ e in
    by_machine code program _ _ (fetched costs rs (slice_get code m.pc) m words) (ap (λ b. if b then fetched costs rs (slice_get code m.pc) m words else asks_only Nothing m words) (eq-eqb m.awaits 0 none)) (ticks costs code program rs c m words k e placed)
tick_by costs code program rs placed c m words k (suc a) e =
    let some : m.awaits ≡ suc a = sym k.awaits ∙ e in
    let more : m.awaits ≢ 0 = omega arith in
    by_machine code program _ _ (asks_only Nothing m words) (ap (λ b. if b then fetched costs rs (slice_get code m.pc) m words else asks_only Nothing m words) (ne_eqb m.awaits 0 more)) (record { control = k; words = refl; asks = refl })

pub keeps_tick : (costs : Costs) (code : Code) (program : Program) (rs : List RoutineRow) → Placed code program rs → (c : SourceControl) (m : MachineControl) (words : List ℤ) → Keeps code program.procedures c m → Same code program (source_tick costs program c words) (machine_tick costs code rs m words)
keeps_tick costs code program rs placed c m words k = tick_by costs code program rs placed c m words k c.awaits refl

-- a reply
answered : (code : Code) (ps : List Procedure) (c : SourceControl) (m : MachineControl) (answer : List ℤ) → Keeps code ps c m → length answer ≡ c.awaits → Keeps code ps (record { parts = c.parts; values = answer ++ c.values; slots = c.slots; callers = c.callers; spent = c.spent; awaits = 0; stack = c.stack }) (record m { sp = m.sp + length answer; stack = pushed m.stack m.sp answer; awaits = 0 })
answered code ps c m answer k e =
    let x = base k.laid c.slots in
    let sp = k.sp in
    let size = k.size in
    let fits = k.answer in
    let at : m.sp ≡ length x + length c.values = omega (arith, base_length k.laid c.slots) in
    let long : length m.stack ≡ length x + length (onto c.values k.junk) = ap length k.stack ∙ length-append x (onto c.values k.junk) in
    let enough : length answer ≤ length k.junk = omega (arith, onto_length c.values k.junk) in
    let p = pushed_onto x c.values k.junk answer m.sp at enough in
    let js = p.0 in
    let js_length : length js + length answer ≡ length k.junk = p.2 in
    let stack_now : pushed m.stack m.sp answer ≡ x ++ onto (answer ++ c.values) js = ap (λ s. pushed s m.sp answer) k.stack ∙ p.1 in
    let values_length = length-append answer c.values in
    let count : length c.values + c.awaits ≡ length (answer ++ c.values) + 0 = omega arith in
    let place : m.sp + length answer ≡ taken (calls_of k.laid) + length c.slots + 2 + length (answer ++ c.values) = omega arith in
    let size_now : length (pushed m.stack m.sp answer) ≡ c.stack = omega (arith, ap length stack_now, length-append x (onto (answer ++ c.values) js), onto_length (answer ++ c.values) js, onto_length c.values k.junk) in
    let room : m.sp + length answer + 0 ≤ c.stack = omega arith in
    record {
      laid = k.laid;
      limits = k.limits;
      junk = js;
      goes = moved code ps k.limits c.parts m.pc m.pc (length c.values + c.awaits) (length (answer ++ c.values) + 0) refl count k.goes;
      body = k.body;
      waiting = k.waiting;
      callers = k.callers;
      fp = k.fp;
      sp = place;
      stack = stack_now;
      size = size_now;
      answer = room;
      spent = k.spent;
      awaits = refl;
    }

reply_by : (code : Code) (ps : List Procedure) (c : SourceControl) (m : MachineControl) (answer : List ℤ) → Keeps code ps c m → (b : Bool) → nat_eq (length answer) c.awaits ≡ b → Keeps code ps (if b then record { parts = c.parts; values = answer ++ c.values; slots = c.slots; callers = c.callers; spent = c.spent; awaits = 0; stack = c.stack } else c) (if b then record m { sp = m.sp + length answer; stack = pushed m.stack m.sp answer; awaits = 0 } else m)
reply_by code ps c m answer k true e = answered code ps c m answer k (eqb-true (length answer) c.awaits e)
reply_by code ps c m answer k false e = k

pub keeps_reply : (code : Code) (ps : List Procedure) (c : SourceControl) (m : MachineControl) (answer : List ℤ) → Keeps code ps c m → Keeps code ps (source_reply c answer) (machine_reply m answer)
keeps_reply code ps c m answer k =
    subst (λ n. Keeps code ps (source_reply c answer) (if nat_eq (length answer) n then record m { sp = m.sp + length answer; stack = pushed m.stack m.sp answer; awaits = 0 } else m)) k.awaits (reply_by code ps c m answer k (nat_eq (length answer) c.awaits) refl)
