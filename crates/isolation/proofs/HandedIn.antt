-- The message that a call hands in has the length given by the call, if its array lies within the
-- data; and the arrays of the processor's calls do.
use Rattle.isolation.proofs.Prelude.{◌≡◌, ℕ, ◌+◌, ◌-◌, ◌≤◌, ℤ, Bool, true, false, List, length, Option, Some, None, arith, ◌&&◌, nat_eq, nat_lt, nat_le, if◌then◌else◌, slice_get, and_parts, leb-true, MOST_WORDS, ErrorKind, Runner, Costs, ArrayPlace, Service, Engine, Asks, Nothing, Calls, Faults, Ends, MachineControl, is_length, first_words}
use Rattle.std.proofs.Common.{min, pos, negsuc, take, drop, refl}
use Rattle.std.specs.Prelude.{int_le}
use Rattle.std.proofs.lemmas.List.{length-take, length-drop}
use Rattle.apex_types.specs.declared.codes.ErrorKind.TheVariants as error
use Rattle.apex_types.specs.declared.instruction.Instr.{Instr}
use Rattle.apex_types.specs.declared.instruction.Instr.TheVariants as instr
use Rattle.apex_types.specs.declared.row.BodyRow.{BodyRow}
use Rattle.apex_types.specs.declared.row.RoutineRow.{RoutineRow}
use Rattle.engine_meaning.specs.Engine.{Ticked}
use Rattle.machine_meaning.specs.Instructions.{cost_of, is_work}
use Rattle.machine_meaning.specs.MachineControl as machine
use Rattle.machine_meaning.specs.MachineControl.{Effect, machine_engine, machine_tick}
use Rattle.engine_meaning.specs.Operators.{apply_binary, apply_unary, element_at}
use Rattle.kernel_meaning.specs.Partition.{message_from, most_words, handed}
use Rattle.apex_types.specs.ServiceShape.{service_of, argument_words, answer_words}
use Rattle.apex_types.specs.ServiceCalls.{call_of, array_of}
use Rattle.engine_meaning.specs.Operators.{is_range_within, has_array_within}
use Rattle.isolation.proofs.Holding.{HasLength}

-- ---- the words that a call hands in

-- words of an array from `base` on, if they lie within the data
words_in : (base size l : ℤ) (words : List ℤ) (most : ℕ) → most ≤ MOST_WORDS → is_range_within (length words) base size ≡ true → (int_le (pos 1) l && int_le l (pos most) && int_le l size) ≡ true
    → HasLength most (first_words l (message_from base (most_words size) words))
words_in (pos b) (pos n) (pos k) words most few within e =
    let two = and_parts (nat_le 1 k && nat_le k most) (nat_le k n) e in
    let one = and_parts (nat_le 1 k) (nat_le k most) two.0 in
    let some = leb-true 1 k one.0 in
    let low = leb-true k most one.1 in
    let room = leb-true k n two.1 in
    let there = leb-true (b + n) (length words) within in
    let a = length-take k (take (min n MOST_WORDS) (drop b words)) in
    let c = length-take (min n MOST_WORDS) (drop b words) in
    let d = length-drop b words in
    let all : length (take k (take (min n MOST_WORDS) (drop b words))) ≡ k = omega (arith, few, some, low, room, there, a, c, d) in
    record { some = omega (arith, some, all); few = omega (arith, low, all) }
words_in (pos b) (pos n) (negsuc k) words most few within e = absurd (cc)
words_in (pos b) (negsuc n) (pos k) words most few within e = absurd (cc)
words_in (pos b) (negsuc n) (negsuc k) words most few within e = absurd (cc)
words_in (negsuc b) (pos n) l words most few within e = absurd (cc)
words_in (negsuc b) (negsuc n) l words most few within e = absurd (cc)

-- Words from an array within the data: a number that an object takes, at most 16.
pub handed_length : (array : ArrayPlace) (l : ℤ) (words : List ℤ) (most : ℕ) → most ≤ MOST_WORDS → has_array_within (length words) (Some array) ≡ true → is_length most array l ≡ true
    → HasLength most (first_words l (handed (Some array) words))
handed_length array l words most few within e = words_in array.base array.size l words most few within e

-- ---- engines whose calls have their arrays within the data

-- the array of a request, if it has one, lies within data of a size
abbrev pub AsksWithin : ℕ → Asks → Type 0
AsksWithin size Nothing = Unit {0}
AsksWithin size (Calls c) = has_array_within size (array_of c) ≡ true
AsksWithin size (Faults e) = Unit {0}
AsksWithin size Ends = Unit {0}

-- the same after a tick
pub record IsWithin {C : Type 0} (r : Ticked C) : Type 0 where
  pub array : AsksWithin (length r.words) r.asks

-- the same after each tick on an engine
abbrev pub KeepsWithin : {C : Type 0} → Engine C → Type 0
KeepsWithin {C = C} e = (c : C) (words : List ℤ) → IsWithin (e.tick c words)

-- ---- the processor
-- one of two ticks
either : (b : Bool) (r s : Ticked MachineControl) → IsWithin r → IsWithin s → IsWithin (if b then r else s)
either true r s h k = h
either false r s h k = k

-- an effect that hands in nothing out of the data
abbrev IsSafe : Effect → Type 0
IsSafe effect = (m : MachineControl) (words : List ℤ) → IsWithin (effect m words)

-- a fault hands in nothing
quiet : (m : MachineControl) (words : List ℤ) (e : ErrorKind) → IsWithin (machine.refuses e m words)
quiet m words e = record { array = tt }

-- nor does an instruction that calls no service
done : (control : MachineControl) (words : List ℤ) → IsWithin (record { control = control; words = words; asks = Nothing })
done control words = record { array = tt }

-- with operands or without them
operands_safe : (n : ℕ) (effect : Effect) (m : MachineControl) (words : List ℤ) → IsWithin (effect m words) → IsWithin (machine.with_operands n effect m words)
operands_safe n effect m words h = either (nat_lt (m.sp - m.fp) n) (machine.refuses error.IllegalRequest m words) (effect m words) (quiet m words error.IllegalRequest) h

pushes_safe : (place : ℕ) (v : ℤ) → IsSafe (machine.pushes place v)
pushes_safe place v m words = either (nat_lt place (length m.stack)) _ _ (done _ words) (quiet m words error.StackOverflow)

pushes_or_safe : (e : ErrorKind) (place : ℕ) (o : Option ℤ) → IsSafe (machine.pushes_or e place o)
pushes_or_safe e place None m words = quiet m words e
pushes_or_safe e place (Some v) m words = pushes_safe place v m words

data_safe : (n : ℕ) (o : Option (List ℤ)) → IsSafe (machine.changes_data n o)
data_safe n None m words = quiet m words error.MemoryViolation
data_safe n (Some now) m words = record { array = tt }

stack_safe : (n : ℕ) (o : Option (List ℤ)) → IsSafe (machine.changes_stack n o)
stack_safe n None m words = quiet m words error.MemoryViolation
stack_safe n (Some now) m words = record { array = tt }

enters_at_safe : (frame : ℕ) (r : RoutineRow) → IsSafe (machine.enters_at frame r)
enters_at_safe frame r m words = either (nat_lt (length m.stack) (frame + r.frame)) _ _ (quiet m words error.StackOverflow) (done _ words)

enters_safe : (o : Option RoutineRow) → IsSafe (machine.enters o)
enters_safe None m words = quiet m words error.IllegalRequest
enters_safe (Some r) m words = operands_safe r.parameters (machine.enters_at (m.sp - r.parameters) r) m words (enters_at_safe (m.sp - r.parameters) r m words)

gives_back_safe : (a b : Option ℕ) → IsSafe (machine.gives_back a b)
gives_back_safe (Some pc) (Some fp) m words = record { array = tt }
gives_back_safe (Some pc) None m words = quiet m words error.MemoryViolation
gives_back_safe None (Some fp) m words = quiet m words error.MemoryViolation
gives_back_safe None None m words = quiet m words error.MemoryViolation

-- a call is made only if its array lies within the data
calls_safe : (s : Service) → IsSafe (machine.calls s)
calls_safe s m words = tested (has_array_within (length words) (array_of (call_of s (machine.arguments s m)))) refl
  where
    tested : (b : Bool) → has_array_within (length words) (array_of (call_of s (machine.arguments s m))) ≡ b
        → IsWithin (if b then (if nat_lt (length m.stack) (m.sp - argument_words s + answer_words s) then machine.refuses error.StackOverflow m words else record { control = record { pc = m.pc + 1; fp = m.fp; sp = m.sp - argument_words s; stack = m.stack; spent = 0; awaits = answer_words s }; words = words; asks = Calls (call_of s (machine.arguments s m)) }) else machine.refuses error.MemoryViolation m words)
    tested true e = either (nat_lt (length m.stack) (m.sp - argument_words s + answer_words s)) _ _ (quiet m words error.StackOverflow) (record { array = e })
    tested false e = quiet m words error.MemoryViolation

calls_numbered_safe : (o : Option Service) → IsSafe (machine.calls_numbered o)
calls_numbered_safe None m words = quiet m words error.IllegalRequest
calls_numbered_safe (Some s) m words = operands_safe (argument_words s) (machine.calls s) m words (calls_safe s m words)

loads_safe : (x : ℕ) → IsSafe (machine.loads_region x)
loads_safe x m words =
    either (nat_eq x 0) _ _ (quiet m words error.MemoryViolation)
    (either (nat_eq x 1) _ _ (pushes_or_safe error.MemoryViolation (m.sp - 1) (machine.word_at words (machine.top m)) m words) (pushes_or_safe error.MemoryViolation (m.sp - 1) (machine.word_at m.stack (machine.top m)) m words))

stores_safe : (x : ℕ) → IsSafe (machine.stores_region x)
stores_safe x m words =
    either (nat_eq x 0) _ _ (quiet m words error.MemoryViolation)
    (either (nat_eq x 1) _ _ (data_safe 2 (machine.stored_at words (machine.below_top m) (machine.top m)) m words) (stack_safe 2 (machine.stored_at m.stack (machine.below_top m) (machine.top m)) m words))

-- each instruction
executes_safe : (rs : List RoutineRow) (i : Instr) → IsSafe (machine.executes rs i)
executes_safe rs (instr.Push v) m words = pushes_safe m.sp v m words
executes_safe rs (instr.LoadData x) m words = pushes_or_safe error.MemoryViolation m.sp (slice_get words x) m words
executes_safe rs (instr.StoreData x) m words = either (nat_lt (m.sp - m.fp) 1) _ _ (quiet m words error.IllegalRequest) (data_safe 1 (machine.stored words x (machine.top m)) m words)
executes_safe rs (instr.LoadLocal x) m words = pushes_or_safe error.MemoryViolation m.sp (slice_get m.stack (m.fp + x)) m words
executes_safe rs (instr.StoreLocal x) m words = either (nat_lt (m.sp - m.fp) 1) _ _ (quiet m words error.IllegalRequest) (stack_safe 1 (machine.stored m.stack (m.fp + x) (machine.top m)) m words)
executes_safe rs (instr.LoadElement x v) m words = either (nat_lt (m.sp - m.fp) 1) _ _ (quiet m words error.IllegalRequest) (pushes_or_safe error.MemoryViolation (m.sp - 1) (machine.element_word words (element_at words x v (machine.top m))) m words)
executes_safe rs (instr.StoreElement x v) m words = either (nat_lt (m.sp - m.fp) 2) _ _ (quiet m words error.IllegalRequest) (data_safe 2 (machine.stored_element words (element_at words x v (machine.below_top m)) (machine.top m)) m words)
executes_safe rs (instr.Binary op) m words = either (nat_lt (m.sp - m.fp) 2) _ _ (quiet m words error.IllegalRequest) (pushes_or_safe error.NumericError (m.sp - 2) (apply_binary op (machine.below_top m) (machine.top m)) m words)
executes_safe rs (instr.Unary op) m words = either (nat_lt (m.sp - m.fp) 1) _ _ (quiet m words error.IllegalRequest) (pushes_or_safe error.NumericError (m.sp - 1) (apply_unary op (machine.top m)) m words)
executes_safe rs (instr.Jump x) m words = done _ words
executes_safe rs (instr.JumpIfZero x) m words = either (nat_lt (m.sp - m.fp) 1) _ _ (quiet m words error.IllegalRequest) (done _ words)
executes_safe rs (instr.Call x) m words = enters_safe (slice_get rs x) m words
executes_safe rs (instr.Return x) m words =
    either (nat_lt (m.sp - m.fp) 1) _ _ (quiet m words error.IllegalRequest) (gives_back_safe (machine.saved_within machine.code_limit (slice_get m.stack (m.fp + x))) (machine.saved_within m.fp (slice_get m.stack (m.fp + x + 1))) m words)
executes_safe rs (instr.Work v) m words = either (is_work v) _ _ (done _ words) (quiet m words error.IllegalRequest)
executes_safe rs (instr.Service x) m words = calls_numbered_safe (service_of x) m words
executes_safe rs instr.End m words = record { array = tt }
executes_safe rs (instr.LoadRegion x) m words = either (nat_lt 2 x) _ _ (quiet m words error.IllegalRequest) (either (nat_lt (m.sp - m.fp) 1) _ _ (quiet m words error.IllegalRequest) (loads_safe x m words))
executes_safe rs (instr.StoreRegion x) m words = either (nat_lt 2 x) _ _ (quiet m words error.IllegalRequest) (either (nat_lt (m.sp - m.fp) 2) _ _ (quiet m words error.IllegalRequest) (stores_safe x m words))

fetched_safe : (costs : Costs) (rs : List RoutineRow) (o : Option (Option Instr)) → IsSafe (machine.fetched costs rs o)
fetched_safe costs rs None m words = quiet m words error.MemoryViolation
fetched_safe costs rs (Some None) m words = quiet m words error.IllegalRequest
fetched_safe costs rs (Some (Some i)) m words = either (nat_lt (m.spent + 1) (cost_of costs i)) _ _ (done _ words) (executes_safe rs i m words)

-- The calls of the processor have their arrays within the data.
pub machine_keeps_within : (costs : Costs) (instructions : List (Option Instr)) (rs : List RoutineRow) (bodies : Runner → BodyRow) → KeepsWithin (machine_engine costs instructions rs bodies)
machine_keeps_within costs instructions rs bodies m words = either (nat_eq m.awaits 0) _ _ (fetched_safe costs rs (slice_get instructions m.pc) m words) (done m words)
