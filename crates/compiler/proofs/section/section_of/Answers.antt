use Rattle.std.proofs.Common.{◌≡◌, Some, ◌++◌, length, map, ap, ◌∙◌, arith, length-append}
use Rattle.std.specs.List.{sum_by}
use Rattle.std.proofs.lemmas.List.{length-map}
use Rattle.pal_meaning.specs.Program as cost
use Rattle.compiling_laws.specs.CompiledCode as code_of
use Rattle.compiling_laws.proofs.Sizes.{body_size, handler_size, processes_size, code_size}
use Rattle.pal_base.specs.ProgramView.{body_of, procedure_of, process_of}
use Rattle.compiler.proofs.Meaning.{faithful}
use Rattle.std.specs.Option.{option_map}
use Rattle.machine_meaning.specs.Instructions.{bytes_of}
use Rattle.pal_base.specs.ProgramView.{program_of}
use Rattle.compiler.proofs.section.section_of.Goals as goal

pub emit_body-requires : goal.emit_body-requires
emit_body-requires c = omega (arith, ap length c.new-code.ensures.items, c.requires)

pub emit_handler-requires : goal.emit_handler-requires
emit_handler-requires c = omega (arith, ap length c.new-code.ensures.items, c.requires, ap length c.in_ok-init.ensures.code, length-append c.new-code.result.items (code_of.body_code (length c.new-code.result.items) (body_of c.args.program.now.init)), body_size (body_of c.args.program.now.init) (length c.new-code.result.items))

pub emit_processes-requires : goal.emit_processes-requires
emit_processes-requires c = omega (arith, ap length c.new-code.ensures.items, c.requires, ap length c.in_ok-init.ensures.code, length-append c.new-code.result.items (code_of.body_code (length c.new-code.result.items) (body_of c.args.program.now.init)), body_size (body_of c.args.program.now.init) (length c.new-code.result.items), ap length c.in_ok-handler.ensures.code, length-append c.emit_body.new.code.items (code_of.handler_code (length c.emit_body.new.code.items) (option_map body_of c.args.program.now.handler)), handler_size (option_map body_of c.args.program.now.handler) (length c.emit_body.new.code.items), ap (λ ps. sum_by cost.size_of_process (map process_of ps)) c.deref.ensures.value)

pub emit_procedures-requires : goal.emit_procedures-requires
emit_procedures-requires c = omega (arith, ap length c.new-code.ensures.items, c.requires, ap length c.in_ok-init.ensures.code, length-append c.new-code.result.items (code_of.body_code (length c.new-code.result.items) (body_of c.args.program.now.init)), body_size (body_of c.args.program.now.init) (length c.new-code.result.items), ap length c.in_ok-handler.ensures.code, length-append c.emit_body.new.code.items (code_of.handler_code (length c.emit_body.new.code.items) (option_map body_of c.args.program.now.handler)), handler_size (option_map body_of c.args.program.now.handler) (length c.emit_body.new.code.items), ap (λ ps. sum_by cost.size_of_process (map process_of ps)) c.deref.ensures.value, ap length c.in_ok-processes.ensures.code, length-append c.emit_handler.new.code.items (code_of.processes_code (length c.emit_handler.new.code.items) (map process_of c.deref.result.now)), processes_size (map process_of c.deref.result.now) (length c.emit_handler.new.code.items), ap (λ ps. sum_by cost.size_of_procedure (map procedure_of ps)) c.deref-2.ensures.value)

pub returns : goal.returns
returns c =
    let p = program_of c.args.program.now in
    let none = c.new-code.ensures.items in
    let n0 : length c.new-code.result.items ≡ 0 = ap length none in
    let n1 : length c.emit_body.new.code.items ≡ code_of.handler_place p = omega (arith, ap length c.new-code.ensures.items, c.requires, ap length c.in_ok-init.ensures.code, length-append c.new-code.result.items (code_of.body_code (length c.new-code.result.items) (body_of c.args.program.now.init)), body_size (body_of c.args.program.now.init) (length c.new-code.result.items)) in
    let n2 : length c.emit_handler.new.code.items ≡ code_of.processes_place p = omega (arith, ap length c.new-code.ensures.items, c.requires, ap length c.in_ok-init.ensures.code, length-append c.new-code.result.items (code_of.body_code (length c.new-code.result.items) (body_of c.args.program.now.init)), body_size (body_of c.args.program.now.init) (length c.new-code.result.items), ap length c.in_ok-handler.ensures.code, length-append c.emit_body.new.code.items (code_of.handler_code (length c.emit_body.new.code.items) (option_map body_of c.args.program.now.handler)), handler_size (option_map body_of c.args.program.now.handler) (length c.emit_body.new.code.items), ap (λ ps. sum_by cost.size_of_process (map process_of ps)) c.deref.ensures.value) in
    let n3 : length c.emit_processes.new.code.items ≡ code_of.procedures_place p = omega (arith, ap length c.new-code.ensures.items, c.requires, ap length c.in_ok-init.ensures.code, length-append c.new-code.result.items (code_of.body_code (length c.new-code.result.items) (body_of c.args.program.now.init)), body_size (body_of c.args.program.now.init) (length c.new-code.result.items), ap length c.in_ok-handler.ensures.code, length-append c.emit_body.new.code.items (code_of.handler_code (length c.emit_body.new.code.items) (option_map body_of c.args.program.now.handler)), handler_size (option_map body_of c.args.program.now.handler) (length c.emit_body.new.code.items), ap (λ ps. sum_by cost.size_of_process (map process_of ps)) c.deref.ensures.value, ap length c.in_ok-processes.ensures.code, length-append c.emit_handler.new.code.items (code_of.processes_code (length c.emit_handler.new.code.items) (map process_of c.deref.result.now)), processes_size (map process_of c.deref.result.now) (length c.emit_handler.new.code.items), ap (λ ps. sum_by cost.size_of_procedure (map procedure_of ps)) c.deref-2.ensures.value) in
    let ps = ap (λ xs. map process_of xs) c.deref.ensures.value in
    let rs = ap (λ xs. map procedure_of xs) c.deref-2.ensures.value in
    let init = c.in_ok-init.ensures.row ∙ ap (λ n. code_of.body_row n (body_of c.args.program.now.init)) n0 in
    let handler = c.in_ok-handler.ensures.row ∙ ap (λ n. option_map (code_of.body_row n) (option_map body_of c.args.program.now.handler)) n1 in
    let processes = c.in_ok-processes.ensures.rows ∙ ap (λ n. code_of.process_rows n (map process_of c.deref.result.now)) n2 ∙ ap (λ l. code_of.process_rows (code_of.processes_place p) l) ps in
    let routines = c.in_ok-routines.ensures.rows ∙ ap (λ n. code_of.routine_rows n (map procedure_of c.deref-2.result.now)) n3 ∙ ap (λ l. code_of.routine_rows (code_of.procedures_place p) l) rs in
    let first = c.in_ok-init.ensures.code ∙ ap (λ n. c.new-code.result.items ++ code_of.body_code n (body_of c.args.program.now.init)) n0 ∙ ap (λ l. l ++ code_of.body_code 0 (body_of c.args.program.now.init)) none in
    let second = c.in_ok-handler.ensures.code ∙ ap (λ n. c.emit_body.new.code.items ++ code_of.handler_code n (option_map body_of c.args.program.now.handler)) n1 ∙ ap (λ l. l ++ code_of.handler_code (code_of.handler_place p) p.handler) first in
    let third = c.in_ok-processes.ensures.code ∙ ap (λ n. c.emit_handler.new.code.items ++ code_of.processes_code n (map process_of c.deref.result.now)) n2 ∙ ap (λ l. c.emit_handler.new.code.items ++ code_of.processes_code (code_of.processes_place p) l) ps ∙ ap (λ l. l ++ code_of.processes_code (code_of.processes_place p) p.processes) second in
    let fourth = c.in_ok-routines.ensures.code ∙ ap (λ n. c.emit_processes.new.code.items ++ code_of.procedures_code n (map procedure_of c.deref-2.result.now)) n3 ∙ ap (λ l. c.emit_processes.new.code.items ++ code_of.procedures_code (code_of.procedures_place p) l) rs ∙ ap (λ l. l ++ code_of.procedures_code (code_of.procedures_place p) p.procedures) third in
    let initial = c.in_ok-copied_words.ensures.items ∙ c.deref-3.ensures.value in
    let semaphores = c.in_ok-copied.ensures ∙ c.deref-4.ensures.value in
    let buffers = c.in_ok-copied-2.ensures ∙ c.deref-5.ensures.value in
    let blackboards = c.in_ok-copied-3.ensures ∙ c.deref-6.ensures.value in
    let written = c.deref-7.ensures.value ∙ fourth in
    let code = c.in_ok-encoded.ensures.bytes ∙ ap (λ l. map bytes_of l) written in
    let reads = c.in_ok-encoded.ensures.reads_back ∙ ap (λ l. map Some l) written in
    record {
      section = λ i. record { initial = initial i; semaphores = semaphores i; events = c.args.program.now.events; buffers = buffers i; blackboards = blackboards i; routines = routines i; processes = processes i; init = init i; handler = handler i; code = code i };
      reads_back = reads;
      words = c.in_ok-copied_words.ensures.words;
      size = ap length code ∙ length-map (code_of.code_of p) bytes_of ∙ code_size p;
      means = faithful p _ (λ i. record { initial = initial i; semaphores = semaphores i; events = c.args.program.now.events; buffers = buffers i; blackboards = blackboards i; routines = routines i; processes = processes i; init = init i; handler = handler i; code = code i }) reads;
    }
