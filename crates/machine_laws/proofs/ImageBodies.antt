-- The bodies of a source and its code.
use Rattle.std.proofs.Common.{◌≡◌, ℕ, ◌+◌, ◌^◌, ◌≤◌, ℤ, pos, negsuc, Bool, true, false, cond, leb, eqb, List, [], ◌++◌, length, Option, Some, None, Result, Ok, Err, refl, sym, ap, subst, ◌∙◌, append_assoc, arith, lit<, ◌<◌}
use Rattle.std.specs.Prelude.{◌&&◌, FitsSigned}
use Rattle.std.specs.List.{flat_map}
use Rattle.std.specs.Int.{w16, w32, w64}
use Rattle.std.proofs.lemmas.Bool.{leb-true, le-leb, eqb-true}
use Rattle.apex_types.specs.declared.version.Limits.{Limits}
use Rattle.machine_laws.proofs.VersionLimits.{AreBytes}
use Rattle.apex_types.specs.declared.limits.TheConstants.{GREATEST_PRIORITY, INSTRUCTION_BYTES, LEAST_STACK_WORDS, MOST_INSTRUCTIONS, MOST_PARAMETERS, MOST_PROCEDURES, MOST_SLOTS, MOST_STACK_WORDS, MOST_TICKS}
use Rattle.apex_types.specs.declared.row.RoutineRow.{RoutineRow}
use Rattle.apex_types.specs.declared.row.BodyRow.{BodyRow}
use Rattle.apex_types.specs.declared.row.ProcessRow.{ProcessRow}
use Rattle.machine_meaning.specs.Section.{Section}
use Rattle.machine_meaning.specs.Image.{Bodies}
use Rattle.machine_meaning.specs.ImageSpelling.{objects_in, bodies_in, u8, u16, u32, i64, name, list, truth, routine, body, duration, process, handler, instruction, objects, bodies, section}
use Rattle.machine_meaning.specs.ImageReading.{Fault, Limit, Read, ◌>>=◌, number_at, limited_at, small_at, word_at, bytes_at, fresh_name_at, chosen, choice_at, truth_of, list_at, items_at, is_process, routine_at, body_at, duration_of, duration_at, is_infinite_or_multiple, period_at, process_at, handler_at, bodies_at, enter_within, code_at, objects_at, section_at}
use Rattle.machine_meaning.specs.ImageLimits.{IsFrom, EachBeside, AreObjects, IsRoutine, IsBody, IsDuration, IsProcess, IsHandler, AreBodies, IsCode, IsSection}
use Rattle.machine_laws.proofs.ImageFields.{IsBytes, bind_ok, ok_is, Takes, Takes-then, Reads, said, first, last, assoc3, assoc4, assoc5}
use Rattle.machine_laws.proofs.ImageNumbers.{wide16, wide32, number_reads, limited_reads, small_reads}
use Rattle.machine_laws.proofs.ImageNames.{chosen_ok, word_reads, bytes_reads, held, fresh_reads}
use Rattle.machine_laws.proofs.ImageChoices.{truth_reads}
use Rattle.machine_laws.proofs.ImageLists.{items_take, items_again, list_reads}
use Rattle.machine_laws.proofs.ImageObjects.{objects_reads}

pub routine_reads : Reads routine_at routine IsRoutine
unfolding routine_at routine
routine_reads = said routine_at _ routine _ IsRoutine
    (first (number_at w32) _ (λ (r : RoutineRow). r.entry) u32 (λ r. u8 r.parameters ++ (u16 r.slots ++ u32 r.frame)) _ _
    (number_reads w32 (2 ^ 32) wide32)
    (λ entry p. first (small_at 0 MOST_PARAMETERS) _ (λ (r : RoutineRow). r.parameters) u8 (λ r. u16 r.slots ++ u32 r.frame) (IsFrom 0 MOST_PARAMETERS) _
    (small_reads 0 MOST_PARAMETERS (lit< tt))
    (λ parameters q. first (limited_at w16 parameters MOST_SLOTS) _ (λ (r : RoutineRow). r.slots) u16 (λ r. u32 r.frame) (IsFrom parameters MOST_SLOTS) _
    (limited_reads w16 (2 ^ 16) wide16 parameters MOST_SLOTS (lit< tt))
    (λ slots r. last (limited_at w32 (slots + 2) MOST_STACK_WORDS) (λ frame. record { entry = entry; parameters = parameters; slots = slots; frame = frame }) (λ (r : RoutineRow). r.frame) u32 (IsFrom (slots + 2) MOST_STACK_WORDS)
    (limited_reads w32 (2 ^ 32) wide32 (slots + 2) MOST_STACK_WORDS (lit< tt)) (λ a. refl))
    (λ slots row r g. ap (λ (r : RoutineRow). r.slots) g.1))
    (λ parameters row q g. ap (λ (r : RoutineRow). r.parameters) g.1.1))
    (λ entry row p g. ap (λ (r : RoutineRow). r.entry) g.1.1.1))
    (λ r. assoc4 (u32 r.entry) (u8 r.parameters) (u16 r.slots) (u32 r.frame))
    (λ r g. record { entry = g.0; parameters = g.1.0; slots = g.1.1.0; frame = g.1.1.1.0 })
    (λ r g. (g.entry, (g.parameters, (g.slots, (g.frame, refl)))))

pub body_reads : Reads body_at body IsBody
unfolding body_at body
body_reads = said body_at _ body _ IsBody
    (first (limited_at w16 LEAST_STACK_WORDS MOST_STACK_WORDS) _ (λ (r : BodyRow). r.stack) u16 (λ r. u32 r.entry ++ (u16 r.slots ++ u32 r.frame)) (IsFrom LEAST_STACK_WORDS MOST_STACK_WORDS) _
    (limited_reads w16 (2 ^ 16) wide16 LEAST_STACK_WORDS MOST_STACK_WORDS (lit< tt))
    (λ stack p. first (number_at w32) _ (λ (r : BodyRow). r.entry) u32 (λ r. u16 r.slots ++ u32 r.frame) _ _
    (number_reads w32 (2 ^ 32) wide32)
    (λ entry q. first (limited_at w16 0 MOST_SLOTS) _ (λ (r : BodyRow). r.slots) u16 (λ r. u32 r.frame) (IsFrom 0 MOST_SLOTS) _
    (limited_reads w16 (2 ^ 16) wide16 0 MOST_SLOTS (lit< tt))
    (λ slots r. last (limited_at w32 (slots + 2) stack) (λ frame. record { stack = stack; entry = entry; slots = slots; frame = frame }) (λ (r : BodyRow). r.frame) u32 (IsFrom (slots + 2) stack)
    (limited_reads w32 (2 ^ 32) wide32 (slots + 2) stack (omega (arith, p.most))) (λ a. refl))
    (λ slots row r g. ap (λ (r : BodyRow). r.slots) g.1))
    (λ entry row q g. ap (λ (r : BodyRow). r.entry) g.1.1))
    (λ stack row p g. ap (λ (r : BodyRow). r.stack) g.1.1.1))
    (λ r. assoc4 (u16 r.stack) (u32 r.entry) (u16 r.slots) (u32 r.frame))
    (λ r g. record { stack = g.0; entry = g.1.0; slots = g.1.1.0; frame = g.1.1.1.0 })
    (λ r g. (g.stack, (g.entry, (g.slots, (g.frame, refl)))))

-- ---- durations

finite_ok : (n : ℕ) (a b : Bool) (o : Option ℕ) → (a ≡ true → 1 ≤ n) → (b ≡ true → n ≤ MOST_TICKS) → cond (a && b) (Some (Some n)) None ≡ Some o → (o ≡ Some n) × IsFrom 1 MOST_TICKS n
finite_ok n true true o low high h = let e : Some n ≡ o = cc in (sym e, record { least = low refl; most = high refl })
finite_ok n true false o low high h = absurd cc
finite_ok n false b o low high h = absurd cc

infinite_same : (o : Option ℕ) → Some None ≡ Some o → o ≡ None
infinite_same None h = refl
infinite_same (Some n) h = absurd cc

infinite_ok : (n : ℕ) (b : Bool) (o : Option ℕ) → (b ≡ true → n ≡ 0) → cond b (Some None) None ≡ Some o → (o ≡ None) × (n ≡ 0)
infinite_ok n true o is h = (infinite_same o h, is refl)
infinite_ok n false o is h = absurd cc

-- a word that means a duration is its spelling, and the duration is lawful
stands : (z : ℤ) (o : Option ℕ) → duration_of z ≡ Some o → (i64 z ≡ duration o) × IsDuration o
unfolding duration
stands (pos n) o h =
    let g = finite_ok n (leb 1 n) (leb n MOST_TICKS) o (leb-true 1 n) (leb-true n MOST_TICKS) h in
    subst (λ (y : Option ℕ). (i64 (pos n) ≡ duration y) × IsDuration y) (sym g.0) (refl, g.1)
stands (negsuc n) o h =
    let g = infinite_ok n (eqb n 0) o (eqb-true n 0) h in
    subst (λ (y : Option ℕ). (i64 (negsuc n) ≡ duration y) × IsDuration y) (sym g.0) (ap (λ (k : ℕ). i64 (negsuc k)) g.1, tt)

-- the word that spells a duration
abbrev word_of : Option ℕ → ℤ
word_of None = negsuc 0
word_of (Some n) = pos n

word_is : (o : Option ℕ) → i64 (word_of o) ≡ duration o
unfolding duration
word_is None = refl
word_is (Some n) = refl

word_fits : (o : Option ℕ) → IsDuration o → FitsSigned w64 (word_of o)
word_fits None good = record { sfits = lit< tt }
word_fits (Some n) good = record { sfits = omega (arith, good.most) }

word_stands : (o : Option ℕ) → IsDuration o → duration_of (word_of o) ≡ Some o
word_stands None good = refl
word_stands (Some n) good =
    let low : leb 1 n ≡ true = le-leb 1 n good.least in
    let high : leb n MOST_TICKS ≡ true = le-leb n MOST_TICKS good.most in
    rw (low, high) refl

pub duration_reads : Reads duration_at duration IsDuration
unfolding duration_at
duration_reads = record {
  takes = λ bytes x fits e.
      let a = bind_ok (word_at bytes) (λ word. chosen word.1 (duration_of word.0)) x e in
      let g = chosen_ok a.0.1 (duration_of a.0.0) x a.2 in
      let p = word_reads.takes bytes a.0 fits a.1 in
      let s = stands a.0.0 x.0 g.0 in
      (subst (λ (t : List ℕ). Takes bytes t x.1) s.0 (subst (λ (r : List ℕ). Takes bytes (i64 a.0.0) r) g.1 p.0), s.1);
  again = λ o rest good.
      ap (λ (t : List ℕ). duration_at (t ++ rest)) (sym (word_is o))
      ∙ ap (λ (y : Read ℤ). y >>= λ word. chosen word.1 (duration_of word.0)) (word_reads.again (word_of o) rest (word_fits o good))
      ∙ ap (chosen rest) (word_stands o good);
}

pub period_reads : (unit : ℕ) → Reads (period_at unit) duration (λ o. IsDuration o × (is_infinite_or_multiple unit o ≡ true))
unfolding period_at
period_reads unit = record {
  takes = λ bytes x fits e.
      let a = bind_ok (duration_at bytes) (λ period. cond (is_infinite_or_multiple unit period.0) (Ok period) (Err Limit)) x e in
      let g = held (is_infinite_or_multiple unit a.0.0) Limit a.0 x a.2 in
      let p = duration_reads.takes bytes a.0 fits a.1 in
      subst (λ (y : Option ℕ × List ℕ). Takes bytes (duration y.0) y.1 × (IsDuration y.0 × (is_infinite_or_multiple unit y.0 ≡ true))) g.1 (p.0, (p.1, g.0));
  again = λ o rest good.
      ap (λ (y : Read (Option ℕ)). y >>= λ period. cond (is_infinite_or_multiple unit period.0) (Ok period) (Err Limit)) (duration_reads.again o rest good.0) ∙ rw (good.1) refl;
}

-- ---- processes

pub process_reads : (unit : ℕ) (before : List ProcessRow) → Reads (process_at unit before) process (IsProcess unit before)
unfolding process_at process
process_reads unit before = said (process_at unit before) _ process _ (IsProcess unit before)
    (first (fresh_name_at (is_process before)) _ (λ (r : ProcessRow). r.name) name (λ r. u8 r.priority.0 ++ (duration r.period ++ (duration r.capacity ++ body r.body))) _ _
    (fresh_reads (is_process before))
    (λ text p. first (small_at 1 GREATEST_PRIORITY) _ (λ (r : ProcessRow). r.priority.0) u8 (λ r. duration r.period ++ (duration r.capacity ++ body r.body)) (IsFrom 1 GREATEST_PRIORITY) _
    (small_reads 1 GREATEST_PRIORITY (lit< tt))
    (λ priority q. first (period_at unit) _ (λ (r : ProcessRow). r.period) duration (λ r. duration r.capacity ++ body r.body) _ _
    (period_reads unit)
    (λ period r. first duration_at _ (λ (r : ProcessRow). r.capacity) duration (λ r. body r.body) IsDuration _
    duration_reads
    (λ capacity s. last body_at (λ body. record { name = text; priority = record { 0 = priority }; period = period; capacity = capacity; body = body }) (λ (r : ProcessRow). r.body) body IsBody body_reads (λ a. refl))
    (λ capacity row s g. ap (λ (r : ProcessRow). r.capacity) g.1))
    (λ period row r g. ap (λ (r : ProcessRow). r.period) g.1.1))
    (λ priority row q g. ap (λ (r : ProcessRow). r.priority.0) g.1.1.1))
    (λ text row p g. ap (λ (r : ProcessRow). r.name) g.1.1.1.1))
    (λ r. assoc5 (name r.name) (u8 r.priority.0) (duration r.period) (duration r.capacity) (body r.body))
    (λ r g. record { name = g.0.0; fresh = g.0.1; priority = g.1.0; period = g.1.1.0.0; multiple = g.1.1.0.1; capacity = g.1.1.1.0; body = g.1.1.1.1.0 })
    (λ r g. ((g.name, g.fresh), (g.priority, ((g.period, g.multiple), (g.capacity, (g.body, refl))))))

-- ---- the handler

handler_takes : (there : Bool × List ℕ) (x : Option BodyRow × List ℕ) → IsBytes there.1
    → cond there.0 (body_at there.1 >>= λ body. Ok (Some body.0, body.1)) (Ok (None, there.1)) ≡ Ok x → (t : List ℕ) × Takes there.1 t x.1 × (u8 (truth there.0) ++ t ≡ handler x.0) × IsHandler x.0
unfolding handler
handler_takes (false, bytes) x fits e =
    subst (λ (y : Option BodyRow × List ℕ). (t : List ℕ) × Takes bytes t y.1 × (u8 0 ++ t ≡ handler y.0) × IsHandler y.0) (ok_is (None, bytes) x e)
    ([], record { parts = refl; rest_fits = fits }, refl, tt)
handler_takes (true, bytes) x fits e =
    let a = bind_ok (body_at bytes) (λ body. Ok (Some body.0, body.1)) x e in
    let p = body_reads.takes bytes a.0 fits a.1 in
    subst (λ (y : Option BodyRow × List ℕ). (t : List ℕ) × Takes bytes t y.1 × (u8 1 ++ t ≡ handler y.0) × IsHandler y.0) (ok_is (Some a.0.0, a.0.1) x a.2)
    (body a.0.0, p.0, refl, p.1)

handler_again : (o : Option BodyRow) (rest : List ℕ) → IsHandler o → handler_at (handler o ++ rest) ≡ Ok (o, rest)
unfolding handler_at handler
handler_again None rest good =
    ap (λ (y : Read Bool). y >>= λ there. cond there.0 (body_at there.1 >>= λ body. Ok (Some body.0, body.1)) (Ok (None, there.1))) (truth_reads.again false rest tt)
handler_again (Some row) rest good =
    ap (λ (y : Read Bool). y >>= λ there. cond there.0 (body_at there.1 >>= λ body. Ok (Some body.0, body.1)) (Ok (None, there.1))) (truth_reads.again true (body row ++ rest) tt)
    ∙ ap (λ (y : Read BodyRow). y >>= λ body. Ok (Some body.0, body.1)) (body_reads.again row rest good)

pub handler_reads : Reads handler_at handler IsHandler
unfolding handler_at
handler_reads = record {
  takes = λ bytes x fits e.
      let a = bind_ok (choice_at truth_of bytes) (λ there. cond there.0 (body_at there.1 >>= λ body. Ok (Some body.0, body.1)) (Ok (None, there.1))) x e in
      let p = truth_reads.takes bytes a.0 fits a.1 in
      let q = handler_takes a.0 x p.0.rest_fits a.2 in
      (subst (λ (t : List ℕ). Takes bytes t x.1) q.2 (Takes-then bytes (u8 (truth a.0.0)) a.0.1 q.0 x.1 p.0 q.1), q.3);
  again = handler_again;
}

-- ---- all bodies, the code and the section

pub bodies_reads : (limits : Limits) → limits.processes < 2 ^ 8 → (unit : ℕ) → Reads (bodies_at limits unit) bodies (AreBodies limits unit)
unfolding bodies_at bodies
bodies_reads limits small unit = said (bodies_at limits unit) _ bodies _ (AreBodies limits unit)
    (first (list_at 0 MOST_PROCEDURES (λ _. routine_at)) _ (λ (b : Bodies). b.routines) (list routine) (λ b. list process b.processes ++ (body b.init ++ handler b.handler)) _ _
    (list_reads (λ _. routine_at) routine (λ _. IsRoutine) 0 MOST_PROCEDURES (lit< tt) (λ _. routine_reads))
    (λ routines p. first (list_at 0 limits.processes (process_at unit)) _ (λ (b : Bodies). b.processes) (list process) (λ b. body b.init ++ handler b.handler) _ _
    (list_reads (process_at unit) process (IsProcess unit) 0 limits.processes (omega (arith, small)) (process_reads unit))
    (λ processes q. first body_at _ (λ (b : Bodies). b.init) body (λ b. handler b.handler) IsBody _
    body_reads
    (λ init r. last handler_at (λ handler. record { routines = routines; processes = processes; init = init; handler = handler }) (λ (b : Bodies). b.handler) handler IsHandler handler_reads (λ a. refl))
    (λ init b r g. ap (λ (b : Bodies). b.init) g.1))
    (λ processes b q g. ap (λ (b : Bodies). b.processes) g.1.1))
    (λ routines b p g. ap (λ (b : Bodies). b.routines) g.1.1.1))
    (λ b. assoc4 (list routine b.routines) (list process b.processes) (body b.init) (handler b.handler))
    (λ b g. record { routine_count = g.0.0; routines = g.0.1; process_count = g.1.0.0; processes = g.1.0.1; init = g.1.1.0; handler = g.1.1.1.0 })
    (λ b g. ((g.routine_count, g.routines), ((g.process_count, g.processes), (g.init, (g.handler, refl)))))

instruction_reads : Reads (bytes_at INSTRUCTION_BYTES) instruction (λ bytes. length bytes ≡ INSTRUCTION_BYTES)
unfolding instruction
instruction_reads = bytes_reads INSTRUCTION_BYTES

-- a test that held before a reading
test_held : {A : Type 0} (b : Bool) (r : Result A Fault) (x : A) → cond b r (Err Limit) ≡ Ok x → (b ≡ true) × (r ≡ Ok x)
test_held true r x e = (refl, e)
test_held false r x e = absurd cc

pub code_reads : (b : Bodies) → Reads (code_at b) (list instruction) (IsCode b)
unfolding code_at list
code_reads b = record {
  takes = λ bytes x fits e.
      let a = bind_ok (limited_at w32 1 MOST_INSTRUCTIONS bytes) (λ count. cond (enter_within count.0 b) (items_at (λ _. bytes_at INSTRUCTION_BYTES) count.0 [] count.1) (Err Limit)) x e in
      let h = test_held (enter_within a.0.0 b) (items_at (λ _. bytes_at INSTRUCTION_BYTES) a.0.0 [] a.0.1) x a.2 in
      let p = (limited_reads w32 (2 ^ 32) wide32 1 MOST_INSTRUCTIONS (lit< tt)).takes bytes a.0 fits a.1 in
      let q = items_take (λ _. bytes_at INSTRUCTION_BYTES) instruction (λ _ bytes. length bytes ≡ INSTRUCTION_BYTES) (λ _. instruction_reads) a.0.0 [] a.0.1 x p.0.rest_fits h.1 in
      let both = Takes-then bytes (u32 a.0.0) a.0.1 (flat_map instruction q.new) x.1 p.0 q.taken in
      let new_is : q.new ≡ x.0 = sym q.all_is in
      let count_is : a.0.0 ≡ length x.0 = sym q.count ∙ ap length new_is in
      let taken : Takes bytes (u32 (length x.0) ++ flat_map instruction x.0) x.1 = subst (λ (n : ℕ). Takes bytes (u32 n ++ flat_map instruction x.0) x.1) count_is (subst (λ (y : List (List ℕ)). Takes bytes (u32 a.0.0 ++ flat_map instruction y) x.1) new_is both) in
      (taken, record { count = subst (IsFrom 1 MOST_INSTRUCTIONS) count_is p.1; entries = subst (λ (n : ℕ). enter_within n b ≡ true) count_is h.0; instructions = subst (EachBeside (λ _ bytes. length bytes ≡ INSTRUCTION_BYTES) []) new_is q.good });
  again = λ xs rest good.
      ap (λ (y : List ℕ). limited_at w32 1 MOST_INSTRUCTIONS y >>= λ count. cond (enter_within count.0 b) (items_at (λ _. bytes_at INSTRUCTION_BYTES) count.0 [] count.1) (Err Limit)) (append_assoc (u32 (length xs)) (flat_map instruction xs) rest)
      ∙ ap (λ (y : Read ℕ). y >>= λ count. cond (enter_within count.0 b) (items_at (λ _. bytes_at INSTRUCTION_BYTES) count.0 [] count.1) (Err Limit)) ((limited_reads w32 (2 ^ 32) wide32 1 MOST_INSTRUCTIONS (lit< tt)).again (length xs) (flat_map instruction xs ++ rest) good.count)
      ∙ ap (λ (t : Bool). cond t (items_at (λ _. bytes_at INSTRUCTION_BYTES) (length xs) [] (flat_map instruction xs ++ rest)) (Err Limit)) good.entries
      ∙ items_again (λ _. bytes_at INSTRUCTION_BYTES) instruction (λ _ bytes. length bytes ≡ INSTRUCTION_BYTES) (λ _. instruction_reads) xs [] rest good.instructions;
}

pub section_reads : (limits : Limits) → AreBytes limits → (unit : ℕ) → Reads (section_at limits unit) section (IsSection limits unit)
unfolding section_at section
section_reads limits small unit = said (section_at limits unit) _ section _ (IsSection limits unit)
    (first (objects_at limits) _ (λ (s : Section). objects_in s) objects (λ s. bodies (bodies_in s) ++ list instruction s.code) (AreObjects limits) _
    (objects_reads limits small.words)
    (λ o p. first (bodies_at limits unit) _ (λ (s : Section). bodies_in s) bodies (λ s. list instruction s.code) (AreBodies limits unit) _
    (bodies_reads limits small.processes unit)
    (λ b q. last (code_at b) (λ code. record { initial = o.initial; semaphores = o.semaphores; events = o.events; buffers = o.buffers; blackboards = o.blackboards; routines = b.routines; processes = b.processes; init = b.init; handler = b.handler; code = code }) (λ (s : Section). s.code) (list instruction) (IsCode b) (code_reads b) (λ a. refl))
    (λ b s q g. ap bodies_in g.1))
    (λ o s p g. ap objects_in g.1.1))
    (λ s. assoc3 (objects (objects_in s)) (bodies (bodies_in s)) (list instruction s.code))
    (λ s g. record { objects = g.0; bodies = g.1.0; code = g.1.1.0 })
    (λ s g. (g.objects, (g.bodies, (g.code, refl))))
