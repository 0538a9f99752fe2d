use Rattle.std.proofs.Common.{◌≡◌, suc, ◌+◌, ◌++◌, ◌∷◌, length, min, refl, sym, ap, ◌∙◌, arith, drop, drop-cons}
use Rattle.pal_meaning.specs.Program as cost
use Rattle.compiling_laws.specs.CompiledCode as code_of
use Rattle.pal_base.specs.ProgramView.{expr_of, stmt_of, block_of}
use Rattle.pal_base.proofs.ProgramRows.{seen_if, seen_if_else, seen_while}
use Rattle.compiler.proofs.Emitted.{on_ok, block_step, block_done, none_left, if_emitted, if_else_emitted, while_emitted, next_index}
use Rattle.compiling_laws.proofs.Operands.{expr_some}
use Rattle.compiler.proofs.Views.{item_size}
use Rattle.compiler.proofs.emit.+emit_stmt.Goals as goal

pub emit_block-loop-stmt-preserved : goal.emit_block-loop-stmt-preserved
emit_block-loop-stmt-preserved t c =
    let i = c.loop-stmt.stmt-index in
    let xs = c.args.block.now in
    let dropped : drop i xs ≡ c.stmt-item.result ∷ drop (i + 1) xs = drop-cons xs i c.stmt-item.result c.loop-stmt-test.true ∙ ap (λ x. x ∷ drop (suc i) xs) (sym c.stmt-item.is) ∙ ap (λ j. c.stmt-item.result ∷ drop j xs) (next_index i) in
    block_step c.loop-stmt.code.items c.emit_stmt.new.code.items _ c.args.slots (stmt_of c.stmt-item.result) (block_of (drop (i + 1) xs)) (block_of (drop i xs)) (ap block_of dropped) c.loop-stmt.invariant.0 c.loop-stmt.invariant.1 c.in_ok-emit_stmt.ensures

pub emit_block-returns-clause-size : goal.emit_block-returns-clause-size
emit_block-returns-clause-size t c =
    block_done c.loop-stmt.code.items c.args.code.now.items c.args.slots (length c.loop-stmt.code.items) (block_of (drop c.loop-stmt.stmt-index c.args.block.now)) (block_of c.args.block.now) (ap block_of (none_left c.args.block.now c.loop-stmt.stmt-index c.loop-stmt-test.false)) c.loop-stmt.invariant.0

pub emit_stmt-overflow_add-branch-in-If : goal.emit_stmt-overflow_add-branch-in-If
emit_stmt-overflow_add-branch-in-If t c =
    let seen = ap cost.size_of_stmt (seen_if _ _ _ _ c.in-If.is c.deref.ensures.value) in
    omega (arith, c.requires, ap (λ n. n) c.in_ok-branch-in-If.ensures.size, ap (λ n. n) c.in_ok-branch-in-If.ensures.place, ap (λ n. n) c.size_of_block.ensures)

pub emit_stmt-emit_block-requires : goal.emit_stmt-emit_block-requires
emit_stmt-emit_block-requires t c =
    let seen = ap cost.size_of_stmt (seen_if _ _ _ _ c.in-If.is c.deref-in-If.ensures.value) in
    (omega (arith, c.decreases, expr_some (expr_of c.in-If.test)), omega (arith, c.requires, ap (λ n. n) c.in_ok-branch-in-If.ensures.size, ap (λ n. n) c.in_ok-put-in-If.ensures.size))

pub emit_stmt-returns-in_ok-put-in-If : goal.emit_stmt-returns-in_ok-put-in-If
emit_stmt-returns-in_ok-put-in-If t c =
    let old = c.args.code.now.items in
    let seen = seen_if _ _ _ _ c.in-If.is c.deref-in-If.ensures.value in
    let whole = ap cost.size_of_stmt seen in
    let same : c.deref.result.now ≡ c.deref-in-If.result.now = c.deref.ensures.value ∙ sym c.deref-in-If.ensures.value in
    let size = c.size_of_block.ensures ∙ ap (λ ys. min (cost.size_of_block (block_of ys)) 4294967295) same in
    let test = expr_of c.in-If.test in
    let block = block_of c.deref-in-If.result.now in
    let target = c.in_ok-branch-in-If.branch + 1 + c.size_of_block.result in
    let at : target ≡ length old + cost.size_of_expr test + 1 + cost.size_of_block block = omega (arith, c.requires, ap (λ n. n) c.in_ok-branch-in-If.ensures.size, ap (λ n. n) c.in_ok-branch-in-If.ensures.place) in
    let inside : length c.put-in-If.new.code.items ≡ length old + cost.size_of_expr test + 1 = omega (arith, ap (λ n. n) c.in_ok-branch-in-If.ensures.size, ap (λ n. n) c.in_ok-put-in-If.ensures.size) in
    on_ok c.emit_block.result (λ e. if_emitted old c.emit_test.new.code.items c.put-in-If.new.code.items c.emit_block.new.code.items c.args.slots target (length c.put-in-If.new.code.items) test block c.in_ok-branch-in-If.ensures.code c.in_ok-put-in-If.ensures.code e at inside ∙ ap (λ s. old ++ code_of.stmt_code c.args.slots (length old) s) (sym seen)) c.emit_block.ensures.code

pub emit_stmt-overflow_add-behind-in-IfElse : goal.emit_stmt-overflow_add-behind-in-IfElse
emit_stmt-overflow_add-behind-in-IfElse t c =
    omega (arith, ap cost.size_of_stmt (seen_if_else _ _ _ _ _ _ c.in-IfElse.is c.deref-in-IfElse.ensures.value refl), c.requires, ap (λ n. n) c.in_ok-branch-in-IfElse.ensures.size, ap (λ n. n) c.in_ok-branch-in-IfElse.ensures.place, ap (λ n. n) c.size_of_block-in-IfElse.ensures)

pub emit_stmt-overflow_add-behind-in-IfElse-2 : goal.emit_stmt-overflow_add-behind-in-IfElse-2
emit_stmt-overflow_add-behind-in-IfElse-2 t c =
    omega (arith, ap cost.size_of_stmt (seen_if_else _ _ _ _ _ _ c.in-IfElse.is c.deref-in-IfElse.ensures.value refl), c.requires, ap (λ n. n) c.in_ok-branch-in-IfElse.ensures.size, ap (λ n. n) c.in_ok-branch-in-IfElse.ensures.place, ap (λ n. n) c.size_of_block-in-IfElse.ensures)

pub emit_stmt-emit_block-requires-in-IfElse : goal.emit_stmt-emit_block-requires-in-IfElse
emit_stmt-emit_block-requires-in-IfElse t c =
    let seen = ap cost.size_of_stmt (seen_if_else _ _ _ _ _ _ c.in-IfElse.is c.deref-in-IfElse-2.ensures.value refl) in
    (omega (arith, c.decreases, expr_some (expr_of c.in-IfElse.test)), omega (arith, c.requires, ap (λ n. n) c.in_ok-branch-in-IfElse.ensures.size, ap (λ n. n) c.in_ok-put-in-IfElse.ensures.size))

pub emit_stmt-overflow_add-behind-in-IfElse-3 : goal.emit_stmt-overflow_add-behind-in-IfElse-3
emit_stmt-overflow_add-behind-in-IfElse-3 t c =
    omega (arith, ap cost.size_of_stmt (seen_if_else _ _ _ _ _ _ c.in-IfElse.is c.deref-in-IfElse.ensures.value c.deref-in-IfElse-3.ensures.value), c.requires, ap (λ n. n) c.in_ok-branch-in-IfElse.ensures.size, ap (λ n. n) c.in_ok-branch-in-IfElse.ensures.place, ap (λ n. n) c.size_of_block-in-IfElse.ensures, ap (λ n. n) c.size_of_block-in-IfElse-2.ensures)

pub emit_stmt-emit_block-requires-in-IfElse-2 : goal.emit_stmt-emit_block-requires-in-IfElse-2
emit_stmt-emit_block-requires-in-IfElse-2 t c =
    let seen = ap cost.size_of_stmt (seen_if_else _ _ _ _ _ _ c.in-IfElse.is c.deref-in-IfElse-2.ensures.value c.deref-in-IfElse-4.ensures.value) in
    (omega (arith, c.decreases, expr_some (expr_of c.in-IfElse.test)), omega (arith, c.requires, ap (λ n. n) c.in_ok-branch-in-IfElse.ensures.size, ap (λ n. n) c.in_ok-put-in-IfElse.ensures.size, ap (λ n. n) c.in_ok-emit_block-in-IfElse.ensures.size, ap (λ n. n) c.in_ok-put-in-IfElse-2.ensures.size))

pub emit_stmt-returns-in_ok-put-in-IfElse-2 : goal.emit_stmt-returns-in_ok-put-in-IfElse-2
emit_stmt-returns-in_ok-put-in-IfElse-2 t c =
    let old = c.args.code.now.items in
    let seen = seen_if_else _ _ _ _ _ _ c.in-IfElse.is c.deref-in-IfElse-2.ensures.value c.deref-in-IfElse-4.ensures.value in
    let whole = ap cost.size_of_stmt seen in
    let same : c.deref-in-IfElse.result.now ≡ c.deref-in-IfElse-2.result.now = c.deref-in-IfElse.ensures.value ∙ sym c.deref-in-IfElse-2.ensures.value in
    let other_same : c.deref-in-IfElse-3.result.now ≡ c.deref-in-IfElse-4.result.now = c.deref-in-IfElse-3.ensures.value ∙ sym c.deref-in-IfElse-4.ensures.value in
    let size = c.size_of_block-in-IfElse.ensures ∙ ap (λ ys. min (cost.size_of_block (block_of ys)) 4294967295) same in
    let other_size = c.size_of_block-in-IfElse-2.ensures ∙ ap (λ ys. min (cost.size_of_block (block_of ys)) 4294967295) other_same in
    let test = expr_of c.in-IfElse.test in
    let block = block_of c.deref-in-IfElse-2.result.now in
    let other = block_of c.deref-in-IfElse-4.result.now in
    let n = length c.put-in-IfElse.new.code.items in
    let m = length c.put-in-IfElse-2.new.code.items in
    let behind = c.in_ok-branch-in-IfElse.branch + 1 + c.size_of_block-in-IfElse.result + 1 in
    let after = behind + c.size_of_block-in-IfElse-2.result in
    let en : n ≡ length old + cost.size_of_expr test + 1 = omega (arith, ap (λ n. n) c.in_ok-branch-in-IfElse.ensures.size, ap (λ n. n) c.in_ok-put-in-IfElse.ensures.size) in
    let et : behind ≡ length old + cost.size_of_expr test + 1 + cost.size_of_block block + 1 = omega (arith, c.requires, ap (λ n. n) c.in_ok-branch-in-IfElse.ensures.size, ap (λ n. n) c.in_ok-branch-in-IfElse.ensures.place) in
    let em : m ≡ length old + cost.size_of_expr test + 1 + cost.size_of_block block + 1 = omega (arith, ap (λ n. n) c.in_ok-branch-in-IfElse.ensures.size, ap (λ n. n) c.in_ok-put-in-IfElse.ensures.size, ap (λ n. n) c.in_ok-emit_block-in-IfElse.ensures.size, ap (λ n. n) c.in_ok-put-in-IfElse-2.ensures.size) in
    let eu : after ≡ length old + cost.size_of_expr test + 1 + cost.size_of_block block + 1 + cost.size_of_block other = omega (arith, c.requires) in
    on_ok c.emit_block-in-IfElse-2.result (λ e. if_else_emitted old c.emit_test-in-IfElse.new.code.items c.put-in-IfElse.new.code.items c.emit_block-in-IfElse.new.code.items c.put-in-IfElse-2.new.code.items c.emit_block-in-IfElse-2.new.code.items c.args.slots behind after n m test block other c.in_ok-branch-in-IfElse.ensures.code c.in_ok-put-in-IfElse.ensures.code c.in_ok-emit_block-in-IfElse.ensures.code c.in_ok-put-in-IfElse-2.ensures.code e en et em eu ∙ ap (λ s. old ++ code_of.stmt_code c.args.slots (length old) s) (sym seen)) c.emit_block-in-IfElse-2.ensures.code

pub emit_stmt-overflow_add-branch-in-While-2 : goal.emit_stmt-overflow_add-branch-in-While-2
emit_stmt-overflow_add-branch-in-While-2 t c =
    omega (arith, ap cost.size_of_stmt (seen_while _ _ _ _ c.in-While.is c.deref-in-While.ensures.value), c.requires, ap (λ n. n) c.in_ok-branch-in-While.ensures.size, ap (λ n. n) c.in_ok-branch-in-While.ensures.place, ap (λ n. n) c.size_of_block-in-While.ensures)

pub emit_stmt-overflow_add-branch-in-While-3 : goal.emit_stmt-overflow_add-branch-in-While-3
emit_stmt-overflow_add-branch-in-While-3 t c =
    omega (arith, ap cost.size_of_stmt (seen_while _ _ _ _ c.in-While.is c.deref-in-While.ensures.value), c.requires, ap (λ n. n) c.in_ok-branch-in-While.ensures.size, ap (λ n. n) c.in_ok-branch-in-While.ensures.place, ap (λ n. n) c.size_of_block-in-While.ensures)

pub emit_stmt-emit_block-requires-in-While : goal.emit_stmt-emit_block-requires-in-While
emit_stmt-emit_block-requires-in-While t c =
    let seen = ap cost.size_of_stmt (seen_while _ _ _ _ c.in-While.is c.deref-in-While-2.ensures.value) in
    (omega (arith, c.decreases, expr_some (expr_of c.in-While.test)), omega (arith, c.requires, ap (λ n. n) c.in_ok-branch-in-While.ensures.size, ap (λ n. n) c.in_ok-put-in-While.ensures.size))

pub emit_stmt-returns-in_ok-emit_block-in-While : goal.emit_stmt-returns-in_ok-emit_block-in-While
emit_stmt-returns-in_ok-emit_block-in-While t c =
    let old = c.args.code.now.items in
    let seen = seen_while _ _ _ _ c.in-While.is c.deref-in-While-2.ensures.value in
    let whole = ap cost.size_of_stmt seen in
    let same : c.deref-in-While.result.now ≡ c.deref-in-While-2.result.now = c.deref-in-While.ensures.value ∙ sym c.deref-in-While-2.ensures.value in
    let size = c.size_of_block-in-While.ensures ∙ ap (λ ys. min (cost.size_of_block (block_of ys)) 4294967295) same in
    let test = expr_of c.in-While.test in
    let block = block_of c.deref-in-While-2.result.now in
    let target = c.in_ok-branch-in-While.branch + 1 + c.size_of_block-in-While.result + 1 in
    let n = length c.put-in-While.new.code.items in
    let en : n ≡ length old + cost.size_of_expr test + 1 = omega (arith, ap (λ n. n) c.in_ok-branch-in-While.ensures.size, ap (λ n. n) c.in_ok-put-in-While.ensures.size) in
    let et : target ≡ length old + cost.size_of_expr test + 1 + cost.size_of_block block + 1 = omega (arith, c.requires, ap (λ n. n) c.in_ok-branch-in-While.ensures.size, ap (λ n. n) c.in_ok-branch-in-While.ensures.place) in
    let eu = c.len-start.ensures ∙ c.args.code.now.ok.0 in
    on_ok c.put-in-While-2.result (λ e. while_emitted old c.emit_test-in-While.new.code.items c.put-in-While.new.code.items c.emit_block-in-While.new.code.items c.put-in-While-2.new.code.items c.args.slots target c.len-start.result n test block c.in_ok-branch-in-While.ensures.code c.in_ok-put-in-While.ensures.code c.in_ok-emit_block-in-While.ensures.code e en et eu ∙ ap (λ s. old ++ code_of.stmt_code c.args.slots (length old) s) (sym seen)) c.put-in-While-2.ensures.code

pub emit_block-emit_stmt-requires : goal.emit_block-emit_stmt-requires
emit_block-emit_stmt-requires t c =
    let i = c.loop-stmt.stmt-index in
    let xs = c.args.block.now in
    let small = item_size xs i c.stmt-item.result c.loop-stmt-test.true in
    let same = ap (λ x. cost.size_of_stmt (stmt_of x)) c.stmt-item.is in
    let dropped = ap (λ ys. cost.size_of_block (block_of ys)) (drop-cons xs i c.stmt-item.result c.loop-stmt-test.true) in
    (omega (arith, c.decreases), omega (arith, c.loop-stmt.invariant.1))
