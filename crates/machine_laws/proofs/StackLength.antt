-- A tick of the processor and a reply change no length: not of the stack, not of the data.
use Rattle.std.proofs.Common.{◌≡◌, ℕ, ◌+◌, ◌-◌, ℤ, pos, negsuc, Bool, true, false, cond, List, [], ◌∷◌, ◌++◌, length, Option, Some, None, refl, ◌∙◌, nat_lt, nat_eq, replicate}
use Rattle.std.specs.Prelude.{slice_get, slice_set}
use Rattle.std.proofs.lemmas.List.{length-set}
use Rattle.apex_types.specs.declared.codes.ErrorKind.{ErrorKind}
use Rattle.apex_types.specs.declared.codes.ErrorKind.TheVariants.{NumericError, IllegalRequest, StackOverflow, MemoryViolation}
use Rattle.apex_types.specs.declared.cost.Costs.{Costs}
use Rattle.apex_types.specs.declared.instruction.Instr.{Instr}
use Rattle.apex_types.specs.declared.instruction.Instr.TheVariants as instr
use Rattle.apex_types.specs.declared.service.Service.{Service}
use Rattle.apex_types.specs.declared.row.RoutineRow.{RoutineRow}
use Rattle.engine_meaning.specs.Engine.{Asks, Nothing, Ends, Ticked}
use Rattle.machine_meaning.specs.Instructions.{cost_of, is_work}
use Rattle.engine_meaning.specs.Operators.{apply_binary, apply_unary, is_zero, element_at}
use Rattle.apex_types.specs.ServiceShape.{service_of, argument_words, answer_words}
use Rattle.apex_types.specs.ServiceCalls.{call_of, array_of}
use Rattle.engine_meaning.specs.Operators.{has_array_within}
use Rattle.engine_meaning.specs.Operators.{put_words}
use Rattle.machine_meaning.specs.MachineControl.{MachineControl, Effect, asks_only, refuses, counts, goes_on, top, below_top, with_operands, pushes, pushes_or, word_at, element_word, stored, stored_at, stored_element, changes_data, changes_stack, enters_at, enters, code_limit, saved_within, gives_back, arguments, calls, calls_numbered, loads_region, stores_region, with_region, executes, spends, fetched, machine_tick, pushed, machine_reply}

-- the lengths of the stack and of the data after a tick
pub record KeepsLengths (m : MachineControl) (data_words : List ℤ) (t : Ticked MachineControl) : Type 0 where
  pub stack : length t.control.stack ≡ length m.stack
  pub words : length t.words ≡ length data_words

-- a change keeps the number of words
abbrev AreAsMany : List ℤ → Option (List ℤ) → Type 0
AreAsMany words None = words ≡ words
AreAsMany words (Some changed) = length changed ≡ length words

as_many_if : (b : Bool) (words changed : List ℤ) → length changed ≡ length words → AreAsMany words (cond b (Some changed) None)
as_many_if true words changed e = e
as_many_if false words changed e = refl

stored_as_many : (words : List ℤ) (place : ℕ) (v : ℤ) → AreAsMany words (stored words place v)
stored_as_many words place v = as_many_if (nat_lt place (length words)) words (slice_set words place v) (length-set words place v)

stored_at_as_many : (words : List ℤ) (place v : ℤ) → AreAsMany words (stored_at words place v)
stored_at_as_many words (pos place) v = stored_as_many words place v
stored_at_as_many words (negsuc n) v = refl

element_as_many : (words : List ℤ) (place : Option ℕ) (v : ℤ) → AreAsMany words (stored_element words place v)
element_as_many words None v = refl
element_as_many words (Some place) v = stored_as_many words place v

length_put : (stack : List ℤ) (place : ℕ) (ws : List ℤ) → length (put_words stack place ws) ≡ length stack
length_put stack place [] = refl
length_put stack place (w ∷ ws) = length_put (slice_set stack place w) (place + 1) ws ∙ length-set stack place w

length_pushed : (stack : List ℤ) (sp : ℕ) (ws : List ℤ) → length (pushed stack sp ws) ≡ length stack
length_pushed stack sp [] = refl
length_pushed stack sp (w ∷ ws) = length-set (pushed stack sp ws) (sp + length ws) w ∙ length_pushed stack sp ws

keeps_if : (b : Bool) (m : MachineControl) (words : List ℤ) (t u : Ticked MachineControl) → KeepsLengths m words t → KeepsLengths m words u → KeepsLengths m words (cond b t u)
keeps_if true m words t u first second = first
keeps_if false m words t u first second = second

keeps_asks : (asks : Asks) (m : MachineControl) (words : List ℤ) → KeepsLengths m words (asks_only asks m words)
keeps_asks asks m words = record { stack = refl; words = refl }

keeps_refused : (error : ErrorKind) (m : MachineControl) (words : List ℤ) → KeepsLengths m words (refuses error m words)
keeps_refused error m words = record { stack = refl; words = refl }

keeps_operands : (n : ℕ) (effect : Effect) (m : MachineControl) (words : List ℤ) → KeepsLengths m words (effect m words) → KeepsLengths m words (with_operands n effect m words)
keeps_operands n effect m words h = keeps_if (nat_lt (m.sp - m.fp) n) m words (refuses IllegalRequest m words) (effect m words) (keeps_refused IllegalRequest m words) h

keeps_pushes : (place : ℕ) (v : ℤ) (m : MachineControl) (words : List ℤ) → KeepsLengths m words (pushes place v m words)
keeps_pushes place v m words = keeps_if (nat_lt place (length m.stack)) m words (goes_on (m.pc + 1) (place + 1) (slice_set m.stack place v) m words) (refuses StackOverflow m words) (record { stack = length-set m.stack place v; words = refl }) (keeps_refused StackOverflow m words)

keeps_pushes_or : (error : ErrorKind) (place : ℕ) (v : Option ℤ) (m : MachineControl) (words : List ℤ) → KeepsLengths m words (pushes_or error place v m words)
keeps_pushes_or error place None m words = keeps_refused error m words
keeps_pushes_or error place (Some v) m words = keeps_pushes place v m words

keeps_data : (n : ℕ) (changed : Option (List ℤ)) (m : MachineControl) (words : List ℤ) → AreAsMany words changed → KeepsLengths m words (changes_data n changed m words)
keeps_data n None m words h = keeps_refused MemoryViolation m words
keeps_data n (Some changed) m words h = record { stack = refl; words = h }

keeps_stack : (n : ℕ) (changed : Option (List ℤ)) (m : MachineControl) (words : List ℤ) → AreAsMany m.stack changed → KeepsLengths m words (changes_stack n changed m words)
keeps_stack n None m words h = keeps_refused MemoryViolation m words
keeps_stack n (Some changed) m words h = record { stack = h; words = refl }

abbrev entered : ℕ → RoutineRow → MachineControl → List ℤ → Ticked MachineControl
entered frame r m words = record {
  control = record {
    pc = r.entry;
    fp = frame;
    sp = frame + r.slots + 2;
    stack = put_words m.stack (frame + r.parameters) (replicate (r.slots - r.parameters) (pos 0) ++ pos (m.pc + 1) ∷ pos m.fp ∷ []);
    spent = 0;
    awaits = 0;
  };
  words = words;
  asks = Nothing;
}

keeps_enters_at : (frame : ℕ) (r : RoutineRow) (m : MachineControl) (words : List ℤ) → KeepsLengths m words (enters_at frame r m words)
keeps_enters_at frame r m words = keeps_if (nat_lt (length m.stack) (frame + r.frame)) m words (refuses StackOverflow m words) (entered frame r m words) (keeps_refused StackOverflow m words) (record { stack = length_put m.stack (frame + r.parameters) (replicate (r.slots - r.parameters) (pos 0) ++ pos (m.pc + 1) ∷ pos m.fp ∷ []); words = refl })

keeps_enters : (r : Option RoutineRow) (m : MachineControl) (words : List ℤ) → KeepsLengths m words (enters r m words)
keeps_enters None m words = keeps_refused IllegalRequest m words
keeps_enters (Some r) m words = keeps_operands r.parameters (enters_at (m.sp - r.parameters) r) m words (keeps_enters_at (m.sp - r.parameters) r m words)

keeps_gives_back : (pc fp : Option ℕ) (m : MachineControl) (words : List ℤ) → KeepsLengths m words (gives_back pc fp m words)
keeps_gives_back None fp m words = keeps_refused MemoryViolation m words
keeps_gives_back (Some pc) None m words = keeps_refused MemoryViolation m words
keeps_gives_back (Some pc) (Some fp) m words = record { stack = length-set m.stack m.fp (top m); words = refl }

abbrev called : Service → MachineControl → List ℤ → Ticked MachineControl
called service m words = record {
  control = record {
    pc = m.pc + 1;
    fp = m.fp;
    sp = m.sp - argument_words service;
    stack = m.stack;
    spent = 0;
    awaits = answer_words service;
  };
  words = words;
  asks = Asks.Calls (call_of service (arguments service m));
}

keeps_calls : (service : Service) (m : MachineControl) (words : List ℤ) → KeepsLengths m words (calls service m words)
keeps_calls service m words =
    let overflows = nat_lt (length m.stack) (m.sp - argument_words service + answer_words service) in
    let asked = called service m words in
    keeps_if (has_array_within (length words) (array_of (call_of service (arguments service m)))) m words (cond overflows (refuses StackOverflow m words) asked) (refuses MemoryViolation m words) (keeps_if overflows m words (refuses StackOverflow m words) asked (keeps_refused StackOverflow m words) (record { stack = refl; words = refl })) (keeps_refused MemoryViolation m words)

keeps_calls_numbered : (service : Option Service) (m : MachineControl) (words : List ℤ) → KeepsLengths m words (calls_numbered service m words)
keeps_calls_numbered None m words = keeps_refused IllegalRequest m words
keeps_calls_numbered (Some service) m words = keeps_operands (argument_words service) (calls service) m words (keeps_calls service m words)

keeps_loads : (region : ℕ) (m : MachineControl) (words : List ℤ) → KeepsLengths m words (loads_region region m words)
keeps_loads region m words =
    let from_data = pushes_or MemoryViolation (m.sp - 1) (word_at words (top m)) m words in
    let from_stack = pushes_or MemoryViolation (m.sp - 1) (word_at m.stack (top m)) m words in
    keeps_if (nat_eq region 0) m words (refuses MemoryViolation m words) (cond (nat_eq region 1) from_data from_stack) (keeps_refused MemoryViolation m words) (keeps_if (nat_eq region 1) m words from_data from_stack (keeps_pushes_or MemoryViolation (m.sp - 1) (word_at words (top m)) m words) (keeps_pushes_or MemoryViolation (m.sp - 1) (word_at m.stack (top m)) m words))

keeps_stores : (region : ℕ) (m : MachineControl) (words : List ℤ) → KeepsLengths m words (stores_region region m words)
keeps_stores region m words =
    let to_data = changes_data 2 (stored_at words (below_top m) (top m)) m words in
    let to_stack = changes_stack 2 (stored_at m.stack (below_top m) (top m)) m words in
    keeps_if (nat_eq region 0) m words (refuses MemoryViolation m words) (cond (nat_eq region 1) to_data to_stack) (keeps_refused MemoryViolation m words) (keeps_if (nat_eq region 1) m words to_data to_stack (keeps_data 2 (stored_at words (below_top m) (top m)) m words (stored_at_as_many words (below_top m) (top m))) (keeps_stack 2 (stored_at m.stack (below_top m) (top m)) m words (stored_at_as_many m.stack (below_top m) (top m))))

keeps_region : (region : ℕ) (effect : Effect) (m : MachineControl) (words : List ℤ) → KeepsLengths m words (effect m words) → KeepsLengths m words (with_region region effect m words)
keeps_region region effect m words h = keeps_if (nat_lt 2 region) m words (refuses IllegalRequest m words) (effect m words) (keeps_refused IllegalRequest m words) h

keeps_executes : (rs : List RoutineRow) (i : Instr) (m : MachineControl) (words : List ℤ) → KeepsLengths m words (executes rs i m words)
keeps_executes rs (instr.Push v) m words = keeps_pushes m.sp v m words
keeps_executes rs (instr.LoadData x) m words = keeps_pushes_or MemoryViolation m.sp (slice_get words x) m words
keeps_executes rs (instr.StoreData x) m words = keeps_operands 1 (changes_data 1 (stored words x (top m))) m words (keeps_data 1 (stored words x (top m)) m words (stored_as_many words x (top m)))
keeps_executes rs (instr.LoadLocal x) m words = keeps_pushes_or MemoryViolation m.sp (slice_get m.stack (m.fp + x)) m words
keeps_executes rs (instr.StoreLocal x) m words = keeps_operands 1 (changes_stack 1 (stored m.stack (m.fp + x) (top m))) m words (keeps_stack 1 (stored m.stack (m.fp + x) (top m)) m words (stored_as_many m.stack (m.fp + x) (top m)))
keeps_executes rs (instr.LoadElement x v) m words = keeps_operands 1 (pushes_or MemoryViolation (m.sp - 1) (element_word words (element_at words x v (top m)))) m words (keeps_pushes_or MemoryViolation (m.sp - 1) (element_word words (element_at words x v (top m))) m words)
keeps_executes rs (instr.StoreElement x v) m words = keeps_operands 2 (changes_data 2 (stored_element words (element_at words x v (below_top m)) (top m))) m words (keeps_data 2 (stored_element words (element_at words x v (below_top m)) (top m)) m words (element_as_many words (element_at words x v (below_top m)) (top m)))
keeps_executes rs (instr.Binary op) m words = keeps_operands 2 (pushes_or NumericError (m.sp - 2) (apply_binary op (below_top m) (top m))) m words (keeps_pushes_or NumericError (m.sp - 2) (apply_binary op (below_top m) (top m)) m words)
keeps_executes rs (instr.Unary op) m words = keeps_operands 1 (pushes_or NumericError (m.sp - 1) (apply_unary op (top m))) m words (keeps_pushes_or NumericError (m.sp - 1) (apply_unary op (top m)) m words)
keeps_executes rs (instr.Jump x) m words = record { stack = refl; words = refl }
keeps_executes rs (instr.JumpIfZero x) m words = keeps_operands 1 (goes_on (cond (is_zero (top m)) x (m.pc + 1)) (m.sp - 1) m.stack) m words (record { stack = refl; words = refl })
keeps_executes rs (instr.Call x) m words = keeps_enters (slice_get rs x) m words
keeps_executes rs (instr.Return x) m words = let pc = saved_within code_limit (slice_get m.stack (m.fp + x)) in let fp = saved_within m.fp (slice_get m.stack (m.fp + x + 1)) in keeps_operands 1 (gives_back pc fp) m words (keeps_gives_back pc fp m words)
keeps_executes rs (instr.Work v) m words = keeps_if (is_work v) m words (goes_on (m.pc + 1) m.sp m.stack m words) (refuses IllegalRequest m words) (record { stack = refl; words = refl }) (keeps_refused IllegalRequest m words)
keeps_executes rs (instr.Service x) m words = keeps_calls_numbered (service_of x) m words
keeps_executes rs instr.End m words = keeps_asks Ends m words
keeps_executes rs (instr.LoadRegion x) m words = keeps_region x (with_operands 1 (loads_region x)) m words (keeps_operands 1 (loads_region x) m words (keeps_loads x m words))
keeps_executes rs (instr.StoreRegion x) m words = keeps_region x (with_operands 2 (stores_region x)) m words (keeps_operands 2 (stores_region x) m words (keeps_stores x m words))

keeps_spends : (costs : Costs) (rs : List RoutineRow) (i : Instr) (m : MachineControl) (words : List ℤ) → KeepsLengths m words (spends costs rs i m words)
keeps_spends costs rs i m words = keeps_if (nat_lt (m.spent + 1) (cost_of costs i)) m words (counts m words) (executes rs i m words) (record { stack = refl; words = refl }) (keeps_executes rs i m words)

keeps_fetched : (costs : Costs) (rs : List RoutineRow) (i : Option (Option Instr)) (m : MachineControl) (words : List ℤ) → KeepsLengths m words (fetched costs rs i m words)
keeps_fetched costs rs None m words = keeps_refused MemoryViolation m words
keeps_fetched costs rs (Some None) m words = keeps_refused IllegalRequest m words
keeps_fetched costs rs (Some (Some i)) m words = keeps_spends costs rs i m words

pub tick_keeps : (costs : Costs) (code : List (Option Instr)) (rs : List RoutineRow) (m : MachineControl) (words : List ℤ) → KeepsLengths m words (machine_tick costs code rs m words)
tick_keeps costs code rs m words = keeps_if (nat_eq m.awaits 0) m words (fetched costs rs (slice_get code m.pc) m words) (asks_only Nothing m words) (keeps_fetched costs rs (slice_get code m.pc) m words) (keeps_asks Nothing m words)

stack_if : (b : Bool) (m t u : MachineControl) → length t.stack ≡ length m.stack → length u.stack ≡ length m.stack → length (cond b t u).stack ≡ length m.stack
stack_if true m t u first second = first
stack_if false m t u first second = second

pub reply_keeps : (m : MachineControl) (answer : List ℤ) → length (machine_reply m answer).stack ≡ length m.stack
reply_keeps m answer = stack_if (nat_eq (length answer) m.awaits) m (record m { sp = m.sp + length answer; stack = pushed m.stack m.sp answer; awaits = 0 }) m (length_pushed m.stack m.sp answer) refl

pub tick_keeps_stack : (costs : Costs) (code : List (Option Instr)) (rs : List RoutineRow) (m : MachineControl) (words : List ℤ) → length (machine_tick costs code rs m words).control.stack ≡ length m.stack
tick_keeps_stack costs code rs m words = (tick_keeps costs code rs m words).stack

pub tick_keeps_words : (costs : Costs) (code : List (Option Instr)) (rs : List RoutineRow) (m : MachineControl) (words : List ℤ) → length (machine_tick costs code rs m words).words ≡ length words
tick_keeps_words costs code rs m words = (tick_keeps costs code rs m words).words
